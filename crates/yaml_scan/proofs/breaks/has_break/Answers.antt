use Rattle.std.proofs.Common.{◌≡◌, ◌+◌, ◌<◌, true, get_or, subst}
use Rattle.yaml_scan.proofs.{Prelude.{no_break, line_break}, BetweenBytes.{break_before, is_line_break}, ClassTable.passed_joined}
use Rattle.yaml_scan.specs.Classes.{ArePassed}
use Rattle.yaml_scan.proofs.breaks.has_break.Goals as goal

pub returns-then-count-lt16 : goal.returns-then-count-lt16
returns-then-count-lt16 c =
    let at = c.sixteens.at + c.unbroken_in_block-count.result in
    let same = c.as_bytes-bytes.ensures.value in
    let run = c.unbroken_in_block-count.ensures in
    let passed = passed_joined no_break c.as_bytes-bytes.result.now c.args.from c.sixteens.at at c.sixteens.invariant run.passed in
    break_before c.args.text.now c.args.from c.args.to at c.utf8.text c.requires.from c.requires.to c.requires.order
    (subst (λ t. ArePassed no_break t c.args.from at) same passed)
    (λ _. subst (λ t. line_break (get_or t at 0) ≡ true) same
    (is_line_break (get_or c.as_bytes-bytes.result.now at 0) (run.stop c.if-count-lt16.true)))

pub returns : goal.returns
returns c =
    let at = c.last_unbroken_end.result in
    let same = c.as_bytes-bytes.ensures.value in
    let passed = passed_joined no_break c.as_bytes-bytes.result.now c.args.from c.sixteens.at at c.sixteens.invariant
    c.last_unbroken_end.ensures.passed in
    break_before c.args.text.now c.args.from c.args.to at c.utf8.text c.requires.from c.requires.to c.requires.order
    (subst (λ t. ArePassed no_break t c.args.from at) same passed)
    (subst (λ t. at < c.args.to → line_break (get_or t at 0) ≡ true) same c.last_unbroken_end.ensures.stop)
