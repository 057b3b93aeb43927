use Rattle.std.{proofs.Common.{◌≡◌, refl, ap, ◌∙◌}, specs.Prelude.codes}
use Rattle.conf_session.proofs.Prelude.{framed_text_bytes, sequence, tree_of, Seq, tree_of-Seq, names_of, ascii}
use Rattle.conf_session.{proofs.{AnswerLemmas.names-shallow, ReplyLemmas.names-listed}, specs.Answers.{one, text_elements}}
use Rattle.conf_session.specs.Runs.{stored_of}
use Rattle.conf_session.proofs.answer.names_answer.Goals as goal

pub answer-requires : goal.answer-requires
answer-requires g c =
    names-shallow _ (names_of c.args.store.now.state.configs)
    (tree_of-Seq c.in_ok-name_texts.field-0 ∙ ap sequence c.in_ok-name_texts.ensures.names)

pub returns : goal.returns
returns g c =
    let names = c.in_ok-name_texts.field-0 in
    let listed : tree_of (Seq names) ≡ sequence (text_elements (names_of c.args.store.now.state.configs)) =
    tree_of-Seq names ∙ ap sequence c.in_ok-name_texts.ensures.names in
    names-listed (stored_of c.args.store.now) c.name_texts.ensures.limits c.in_ok-answer.field-0
    (c.in_ok-answer.ensures ∙ ap (λ k. framed_text_bytes (one k (tree_of (Seq names)))) (ascii (codes "names") refl)
    ∙ ap (λ t. framed_text_bytes (one (codes "names") t)) listed)
