use Rattle.std.proofs.Common.{◌++◌, ap, ◌∙◌}
use Rattle.yaml_block_scalars.proofs.{Prelude.{string_bytes, IsUtf8-string_bytes}, Values.{pushed_all, pushed_more}}
use Rattle.yaml_block_scalars.specs.Meant.{chomping_of}
use Rattle.yaml_block_scalars.proofs.scalar.push_lines.Goals as goal

pub returns-in_default-clause-found : goal.returns-in_default-clause-found
returns-in_default-clause-found c =
    pushed_all c.args.indent c.args.style.folded (chomping_of c.args.style.chomping) c.args.text.now c.args.first
    (string_bytes c.args.value.now)
    c.lines.line (string_bytes c.lines.value) (string_bytes c.push_text.new.value)
    (string_bytes c.push_line_feeds.new.value) c.feeds_after.result
    (IsUtf8-string_bytes c.lines.value) (IsUtf8-string_bytes c.push_text.new.value) c.lines.invariant
    (rw c.in_default.is at c.in_ok-next.ensures.none)
    (c.in_ok-push_text.ensures ∙ ap (λ x. string_bytes c.lines.value ++ x) c.range.ensures.value)
    c.feeds_after.ensures c.in_ok-push_line_feeds.ensures

pub lines-preserved : goal.lines-preserved
lines-preserved c =
    pushed_more c.args.indent c.args.style.folded (chomping_of c.args.style.chomping) c.args.text.now c.args.first
    (string_bytes c.args.value.now)
    c.lines.line c.in-Some.next (string_bytes c.lines.value) (string_bytes c.push_text.new.value) (string_bytes c.push_between.new.value)
    (IsUtf8-string_bytes c.lines.value) (IsUtf8-string_bytes c.push_text.new.value) c.lines.invariant
    (rw c.in-Some.is at c.in_ok-next.ensures.found)
    (c.in_ok-push_text.ensures ∙ ap (λ x. string_bytes c.lines.value ++ x) c.range.ensures.value)
    c.in_ok-push_between.ensures
