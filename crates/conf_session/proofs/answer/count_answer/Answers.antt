use Rattle.std.proofs.Common.{◌++◌, codes, decimal, ap, ◌∙◌}
use Rattle.conf_session.{proofs.Prelude.{text, framed_text_bytes}, specs.Answers.one}
use Rattle.conf_session.proofs.answer.count_answer.Goals as goal

pub returns : goal.returns
returns c =
    c.in_ok-write_count.ensures
    ∙ ap (λ prefix. prefix ++ framed_text_bytes (one (codes "ok") (text (decimal c.args.count)))) c.in_ok-text.ensures.bytes
