use Rattle.std.proofs.Common.{◌≡◌, ◌+◌, ◌<◌, false, length, get_or, subst}
use Rattle.yaml_scan.{proofs.{Prelude.space, ByteRuns.spaces_passed_are, ClassTable.passed_joined}, specs.Classes.ArePassed}
use Rattle.yaml_scan.proofs.runs.spaces_end.Goals as goal

pub returns-then-count-lt16 : goal.returns-then-count-lt16
returns-then-count-lt16 c =
    let end = c.sixteens.end + c.spaces_in_block-count.result in
    let same = c.as_bytes-bytes.ensures.value in
    let run = c.spaces_in_block-count.ensures in
    let passed = passed_joined space c.as_bytes-bytes.result.now c.args.at c.sixteens.end end c.sixteens.invariant run.passed in
    spaces_passed_are c.args.text.now c.args.at end c.utf8.text c.requires (subst (λ t. ArePassed space t c.args.at end) same passed)
    (λ _. subst (λ t. space (get_or t end 0) ≡ false) same (run.stop c.if-count-lt16.true))

pub returns : goal.returns
returns c =
    let end = c.last_spaces_end.result in
    let same = c.as_bytes-bytes.ensures.value in
    let passed = passed_joined space c.as_bytes-bytes.result.now c.args.at c.sixteens.end end c.sixteens.invariant
    c.last_spaces_end.ensures.passed in
    spaces_passed_are c.args.text.now c.args.at end c.utf8.text c.requires (subst (λ t. ArePassed space t c.args.at end) same passed)
    (subst (λ t. end < length t → space (get_or t end 0) ≡ false) same c.last_spaces_end.ensures.stop)
