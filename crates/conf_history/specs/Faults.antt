-- The faults of a file, by what they come from.
use Rattle.std.specs.Prelude.{◌+◌}
use Rattle.{yaml_docs.specs.declared.pieces.PiecesFault.PiecesFault, conf_store.specs.declared.records.RecordFault.RecordFault}
use Rattle.conf_history.specs.declared.{place.Place.Place, fault.HistoryFault.{HistoryFault, TheVariants.{Input, NotAStore, Damaged}}}
use Rattle.conf_history.specs.declared.fault.HistoryFault.TheVariants.{OutOfMemory}
use Rattle.yaml_docs.specs.declared.pieces.PiecesFault.TheVariants as pieces
use Rattle.conf_store.specs.declared.records.RecordFault.TheVariants as records

-- that of the pieces
abbrev pub fault_of_pieces : PiecesFault → HistoryFault
fault_of_pieces pieces.Read = Input
fault_of_pieces pieces.TooLong = NotAStore
fault_of_pieces pieces.InputLong = NotAStore
fault_of_pieces pieces.OutOfMemory = OutOfMemory

-- that of the piece at a place
abbrev pub fault_here : Place → RecordFault → HistoryFault
fault_here place (records.Bad why) =
    Damaged (record { number = place.number; byte = place.byte; line = place.feeds + 1; why = why })
fault_here place records.OutOfMemory = OutOfMemory
