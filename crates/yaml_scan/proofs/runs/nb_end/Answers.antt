use Rattle.std.proofs.Common.{ap, arith, get_or}
use Rattle.yaml_scan.proofs.{ByteRuns.{take_while_all_at, take_while_more, take_while_none}, LineRuns.{take_while_ends, take_while_to_stop}}
use Rattle.yaml_scan.proofs.runs.nb_end.Goals as goal

pub characters-init : goal.characters-init
characters-init c = take_while_to_stop c.args.text.now c.args.at c.args.at c.line_run_end-end.result c.utf8.text
    c.requires (take_while_none c.args.text.now c.args.at c.requires) c.line_run_end-end.ensures

pub characters-preserved : goal.characters-preserved
characters-preserved c =
    take_while_to_stop c.args.text.now c.args.at c.in-Some.next c.line_run_end-end-in-characters.result c.utf8.text c.requires
    (take_while_more c.args.text.now c.args.at c.characters.end c.in-Some.next c.utf8.text c.requires
    c.characters.invariant.taken_so_far c.in-Some.ensures.found) c.line_run_end-end-in-characters.ensures

pub returns-in_default : goal.returns-in_default
returns-in_default c = take_while_all_at c.args.text.now c.args.at c.characters.end
    c.characters.invariant.taken_so_far c.in_default.ensures.none

pub returns-else-bytes-end-ge128 : goal.returns-else-bytes-end-ge128
returns-else-bytes-end-ge128 c =
    take_while_ends c.args.text.now c.args.at c.characters.end c.utf8.text c.characters.invariant
    (λ _. omega (arith, c.if-bytes-end-ge128.false, ap (λ t. get_or t c.characters.end 0) c.as_bytes-bytes.ensures.value))

pub returns-after-characters : goal.returns-after-characters
returns-after-characters c =
    take_while_ends c.args.text.now c.args.at c.characters.end c.utf8.text c.characters.invariant
    (λ l. absurd (omega (arith, c.as_bytes-bytes.ensures.len)))
