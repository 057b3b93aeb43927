use Rattle.std.{proofs.Common.{◌≡◌, ⊎_elim, refl, ap, sym, subst, ◌∙◌}, specs.Prelude.{IfOk, codes}}
use Rattle.conf_session.proofs.Prelude.{chars, style_text, text, framed_text_bytes, tree_of, Text, tree_of-Text, ascii}
use Rattle.conf_session.proofs.{RefusalLemmas.{OnlyMemory, named-memory, refused-memory}, ReplyLemmas.{export-text, export-refused}}
use Rattle.conf_session.specs.{Requests.exporting, Answers.{one, answered}, Replies.{Replies, refused_as}, Runs.stored_of}
use Rattle.conf_session.proofs.answer.export_answer.Goals as goal

pub returns-in_ok-answer-in-Ok-clause-ok : goal.returns-in_ok-answer-in-Ok-clause-ok
returns-in_ok-answer-in-Ok-clause-ok g c =
    let written = c.from_string.result in
    let exports = c.in-Ok.ensures.ok in
    let spelled : tree_of (Text written) ≡ text (style_text exports.tree) = tree_of-Text written
    ∙ ap (λ b. text (chars b)) c.from_string.ensures ∙ ap text exports.style in
    export-text (stored_of c.args.store.now) (chars c.args.name.now) exports.tree c.in_ok-answer-in-Ok.field-0 exports.is
    (c.in_ok-answer-in-Ok.ensures ∙ ap (λ k. framed_text_bytes (one k (tree_of (Text written))))
    (ascii (codes "text") refl) ∙ ap (λ t. framed_text_bytes (one (codes "text") t)) spelled) c.in-Ok.ensures.limits

pub returns-in-Err-clause-ok : goal.returns-in-Err-clause-ok
returns-in-Err-clause-ok g c =
    let now = stored_of c.args.store.now in
    let f = c.in-Err.fault in
    let request = exporting (chars c.args.name.now) in
    subst (λ r. IfOk r (Replies now request)) (sym c.refused.ensures)
    (⊎_elim (λ memory. subst (λ k. IfOk (refused_as (answered k)) (Replies now request)) (sym memory) tt)
    (export-refused now (chars c.args.name.now) f) c.in-Err.ensures.refused)

pub returns-in-Err-clause-memory : goal.returns-in-Err-clause-memory
returns-in-Err-clause-memory g c =
    let f = c.in-Err.fault in
    subst OnlyMemory (sym c.refused.ensures)
    (refused-memory (answered f) (⊎_elim (λ memory. subst (λ k. OnlyMemory (answered k)) (sym memory) refl)
    (named-memory c.args.store.now.state (chars c.args.name.now) f) c.in-Err.ensures.refused))
