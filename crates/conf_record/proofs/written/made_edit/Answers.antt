use Rattle.std.proofs.Common.{codes, sym, subst}
use Rattle.conf_record.specs.{EditLines.lines_of, Written.IsWrittenAs}
use Rattle.conf_record.proofs.written.made_edit.Goals as goal

pub returns : goal.returns
returns c =
    subst (IsWrittenAs (lines_of c.args.members (codes "tree: "))) (sym c.in_ok-edit.ensures) c.in-Some.ensures.written
