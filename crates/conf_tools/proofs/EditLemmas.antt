-- The changes of `set`.
use Rattle.std.{proofs.Common.{◌≡◌, refl}, specs.Prelude.{Ok, Err}}
use Rattle.conf_tools.specs.{Prelude.Placing, Edits.{placed, placed_or_not}, declared.{changes.Action.Action, texts.ToolFault.ToolFault}}
use Rattle.conf_words.specs.declared.invocation.Placing.TheVariants.{AtPlace, BeforeElement, WithParents}

pub placed-ok : (placing : Placing) (action : Action) → placed_or_not placing (Ok action) ≡ Ok (placed placing action)
placed-ok AtPlace action = refl
placed-ok WithParents action = refl
placed-ok BeforeElement action = refl

pub placed-err : (placing : Placing) (fault : ToolFault) → placed_or_not placing (Err fault) ≡ Err fault
placed-err AtPlace fault = refl
placed-err WithParents fault = refl
placed-err BeforeElement fault = refl
