-- The statuses of endings.
use Rattle.std.proofs.Common.{◌≡◌, refl, sym}
use Rattle.conf_tools.specs.{Endings.{EndsTold, EndsWith, ending_of_import, told_of}, Outcomes.status_of_ending, Statuses.status_of}
use Rattle.conf_tools.specs.declared.{outcome.Ending.{Ending, TheVariants.{Of, Told, ToldFault}}, program.Status.{Status, TheVariants.Done}}
use Rattle.conf_tools.specs.declared.stores.StoreToolFault.TheVariants.{Folder as InFolder, Open, Session, Export, Condition, Refused}
use Rattle.conf_tools.specs.declared.{stores.StoreToolFault.TheVariants.StoreExists, texts.ToolFault.ToolFault}
use Rattle.conf_state.specs.declared.fault.StoreFault.TheVariants as store
use Rattle.conf_tools.specs.declared.outcome.Outcome.TheVariants as outcome
use Rattle.conf_tools.specs.declared.texts.ToolFault.TheVariants as tool_fault

-- no fault of a text has the status Done
not-read : (fault : ToolFault) → Done ≡ status_of fault → ⊥
not-read tool_fault.Input is = cc
not-read tool_fault.Output is = cc
not-read (tool_fault.Read fault) is = cc
not-read (tool_fault.Comments place) is = cc
not-read tool_fault.Unsettled is = cc
not-read tool_fault.OneValue is = cc
not-read tool_fault.NoEdits is = cc
not-read (tool_fault.ImportText fault) is = cc

-- a run that a text ended
pub not-with : (fault : ToolFault) (end : Ending) → EndsWith fault end → status_of_ending end ≡ Done → ⊥
not-with fault (Of (outcome.Text other)) ends done = not-read other (sym done)
not-with fault (ToldFault other) ends done = not-read other (sym done)
not-with fault (Of outcome.Done) ends done = absurd ends
not-with fault (Of outcome.Absent) ends done = absurd ends
not-with fault (Of outcome.Differs) ends done = absurd ends
not-with fault (Of (outcome.Damaged folder)) ends done = absurd ends
not-with fault (Of (outcome.Store other)) ends done = absurd ends
not-with fault (Of (outcome.Reading other)) ends done = absurd ends
not-with fault (Of (outcome.Keeping other)) ends done = absurd ends
not-with fault (Told status) ends done = absurd ends

-- the status of an import is that of its change
pub imported-status : (made : Ending) → status_of_ending (ending_of_import made) ≡ status_of_ending made
imported-status (Of (outcome.Store (Refused store.EmptyBatch))) = refl
imported-status (Of (outcome.Store (Refused store.BadName))) = refl
imported-status (Of (outcome.Store (Refused store.NoConfig))) = refl
imported-status (Of (outcome.Store (Refused (store.Path fault)))) = refl
imported-status (Of (outcome.Store (Refused (store.Read fault)))) = refl
imported-status (Of (outcome.Store (Refused store.TooDeep))) = refl
imported-status (Of (outcome.Store (Refused store.ConfigLarge))) = refl
imported-status (Of (outcome.Store (Refused store.StoreFull))) = refl
imported-status (Of (outcome.Store (Refused store.RecordLong))) = refl
imported-status (Of (outcome.Store (Refused store.JournalLong))) = refl
imported-status (Of (outcome.Store (Refused store.CountFull))) = refl
imported-status (Of (outcome.Store (Refused store.Reopen))) = refl
imported-status (Of (outcome.Store (Refused store.Device))) = refl
imported-status (Of (outcome.Store (Refused store.OutOfMemory))) = refl
imported-status (Of (outcome.Store (InFolder fault))) = refl
imported-status (Of (outcome.Store (Open fault))) = refl
imported-status (Of (outcome.Store (Session fault))) = refl
imported-status (Of (outcome.Store (Export fault))) = refl
imported-status (Of (outcome.Store (Condition fault))) = refl
imported-status (Of (outcome.Store StoreExists)) = refl
imported-status (Of outcome.Done) = refl
imported-status (Of outcome.Absent) = refl
imported-status (Of outcome.Differs) = refl
imported-status (Of (outcome.Damaged folder)) = refl
imported-status (Of (outcome.Text fault)) = refl
imported-status (Of (outcome.Reading fault)) = refl
imported-status (Of (outcome.Keeping fault)) = refl
imported-status (ToldFault fault) = refl
imported-status (Told status) = refl

-- the status of a word on texts
pub told-status : (Does : Status → Type 0) (end : Ending) (does : EndsTold Does end) → status_of_ending end ≡ (told_of Does end does).0
told-status Does (Told status) does = refl
told-status Does (Of outcome) does = absurd does
told-status Does (ToldFault fault) does = absurd does
