-- How a run ends by what a word did.
use Rattle.std.specs.Prelude.{◌≡◌, Result, Ok, Err}
use Rattle.conf_tools.specs.{Prelude.{HistoryFault, SalvageFault}, declared.outcome.Ending.{Ending, TheVariants.{Of, Told, ToldFault}}}
use Rattle.conf_tools.specs.declared.{program.Status.Status, reading_fault.ReadingFault.{ReadingFault, TheVariants.{History, Salvage}}}
use Rattle.conf_tools.specs.declared.{diffs.Sameness.{Sameness, TheVariants.{Same, Different}}, reads.Presence.Presence}
use Rattle.conf_tools.specs.declared.{reads.Presence.TheVariants.{Present, Absent as NothingThere}, stores.StoreToolFault.StoreToolFault}
use Rattle.conf_tools.specs.declared.{stores.StoreToolFault.TheVariants.Refused as RefusedChange, surveys.Soundness.Soundness}
use Rattle.conf_tools.specs.declared.{surveys.Soundness.TheVariants.{Whole, Damaged}, texts.ToolFault.{ToolFault, TheVariants.Read}}
use Rattle.conf_state.specs.declared.fault.StoreFault.TheVariants.{Read as TextRefused}
use Rattle.conf_tools.specs.declared.outcome.Outcome.TheVariants as outcome

-- what was done on a disk
abbrev pub ending_at_end : {A D : Type 0} → Result A (D × StoreToolFault) → Ending
ending_at_end (Ok done) = Of outcome.Done
ending_at_end (Err refused) = Of (outcome.Store refused.1)

-- what was read of a store's file
abbrev pub ending_after_reading : {A : Type 0} → Result A ReadingFault → Ending
ending_after_reading (Ok done) = Of outcome.Done
ending_after_reading (Err fault) = Of (outcome.Reading fault)

-- a log
abbrev pub ending_after_log : Result (Unit {0}) HistoryFault → Ending
ending_after_log (Ok done) = Of outcome.Done
ending_after_log (Err fault) = Of (outcome.Reading (History fault))

-- `exists`
abbrev pub ending_after_presence : Result Presence ReadingFault → Ending
ending_after_presence (Ok Present) = Of outcome.Done
ending_after_presence (Ok NothingThere) = Of outcome.Absent
ending_after_presence (Err fault) = Of (outcome.Reading fault)

-- `diff`
abbrev pub ending_after_diff : Result Sameness ReadingFault → Ending
ending_after_diff (Ok Same) = Of outcome.Done
ending_after_diff (Ok Different) = Of outcome.Differs
ending_after_diff (Err fault) = Of (outcome.Reading fault)

-- a new store
abbrev pub ending_after_backup : {D : Type 0} → Result D (D × SalvageFault) → Ending
ending_after_backup (Ok disk) = Of outcome.Done
ending_after_backup (Err refused) = Of (outcome.Reading (Salvage refused.1))

-- the store in some folder is damaged
abbrev pub IsDamaged : Ending → Type 0
IsDamaged (Of (outcome.Damaged folder)) = Unit {0}
IsDamaged ending = ⊥

-- `verify`
abbrev pub EndsSurvey : Result Soundness ReadingFault → Ending → Type 0
EndsSurvey (Ok Whole) ending = ending ≡ Of outcome.Done
EndsSurvey (Ok Damaged) ending = IsDamaged ending
EndsSurvey (Err fault) ending = ending ≡ Of (outcome.Reading fault)

-- a text came to nothing with this fault, which is still to be told, or was told
abbrev pub EndsWith : ToolFault → Ending → Type 0
EndsWith fault (Of (outcome.Text other)) = other ≡ fault
EndsWith fault (ToldFault other) = other ≡ fault
EndsWith fault ending = ⊥

-- an import, by how its change ended: where the store refused the text, that was told
abbrev pub ending_of_import : Ending → Ending
ending_of_import (Of (outcome.Store (RefusedChange (TextRefused fault)))) = ToldFault (Read fault)
ending_of_import ending = ending

-- a word on texts, which tells of each what is wrong with it, and ends with a status
abbrev pub EndsTold : (Status → Type 0) → Ending → Type 0
EndsTold Does (Told status) = Does status
EndsTold Does ending = ⊥

-- the status, and what it did
abbrev pub told_of : (Does : Status → Type 0) (ending : Ending) → EndsTold Does ending → (status : Status) × Does status
told_of Does (Told status) does = (status, does)
told_of Does ending does = absurd does

-- nothing has changed, unless the fault of a text was told
abbrev pub StaysUnlessFault : {E : Type 0} → Ending → E → E → Type 0
StaysUnlessFault (ToldFault fault) old new = Unit {0}
StaysUnlessFault ending old new = new ≡ old
