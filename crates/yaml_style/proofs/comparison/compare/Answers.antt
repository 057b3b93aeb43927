use Rattle.std.proofs.Common.{ap, sym, ◌∙◌, true, false}
use Rattle.yaml_style.{proofs.{Prelude.chars, ComparingLemmas.{strips, no_prefix}}, specs.Comparing.comparison_after}
use Rattle.yaml_style.proofs.comparison.compare.Goals as goal

pub returns-in-Some : goal.returns-in-Some
returns-in-Some c =
    let found = c.in-Some.ensures.cases in
    ap (λ bytes. (chars bytes, true)) found.2 ∙ sym (strips c.args.text.now c.args.written.now found.0 c.utf8.written found.1.1)

pub returns-in-None : goal.returns-in-None
returns-in-None c =
    let other = no_prefix c.args.text.now c.args.written.now c.utf8.text c.utf8.written c.in-None.ensures.cases in
    let s = comparison_after (chars c.args.text.now) true (chars c.args.written.now) in
    ap (λ left. (left, false)) c.after_common.ensures ∙ ap (λ b. (s.0, b)) (sym other)
