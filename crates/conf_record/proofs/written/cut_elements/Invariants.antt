use Rattle.std.proofs.Common.{length, map}
use Rattle.conf_record.proofs.Prelude.{edit_of}
use denote.Shadow.{shadow}
use denote.Text.{Utf8}
use Rattle.conf_record.specs.Written.{ElementsWritten}
use Rattle.conf_record.proofs.written.cut_elements.Given as goal

abbrev pub invariant-loop-left : goal.invariant-loop-left
invariant-loop-left l = ElementsWritten l.elements (map edit_of l.edits.items) l.left × shadow (Utf8 l.left)

abbrev pub decreases-loop-left : goal.decreases-loop-left
decreases-loop-left l = length l.left
