use Rattle.conf_record.proofs.Prelude.{entries_of}
use denote.Shadow.{shadow}
use denote.Text.{Utf8}
use Rattle.conf_record.specs.Entries.{AreEntries}
use Rattle.conf_record.proofs.entries.read_entries.Given as goal

abbrev pub invariant-entries : goal.invariant-entries
invariant-entries l = AreEntries l.lines (entries_of l.parts.items) l.left × shadow (Utf8 l.left)
