use Rattle.std.proofs.Common.{◌≡◌, ◌<◌, false, length, slice_index, subst}
use Rattle.yaml_scan.{specs.Classes.{test_of, ArePassed}, proofs.ClassTable.run_ends}
use Rattle.yaml_scan.proofs.classes.run_end.Goals as goal

pub returns : goal.returns
returns c =
    let end = c.passed_end.result in
    let same = c.as_bytes.ensures.value in
    run_ends c.args.class c.args.text.now c.args.at end c.utf8.text c.requires
    (subst (λ t. ArePassed (test_of c.args.class) t c.args.at end) same c.passed_end.ensures.passed)
    (subst (λ t. end < length t → test_of c.args.class (slice_index t end) ≡ false) same c.passed_end.ensures.stop)
