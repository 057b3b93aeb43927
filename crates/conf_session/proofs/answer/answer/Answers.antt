use Rattle.std.proofs.Common.{◌++◌, ap, ◌∙◌}
use Rattle.conf_session.{proofs.Prelude.{chars, framed_text_bytes, tree_of}, specs.Answers.one}
use Rattle.conf_session.proofs.answer.answer.Goals as goal

pub returns : goal.returns
returns c =
    c.in_ok-write_answer.ensures
    ∙ ap (λ prefix. prefix ++ framed_text_bytes (one (chars c.args.key.now) (tree_of c.args.value.now))) c.new-text.ensures.bytes
