-- Edits of a configuration whose tree says which sets and deletes they are.
use Rattle.std.specs.Prelude.{◌≡◌, ◌⊎◌, ℕ, List, [], ◌∷◌, Result, Ok, Err}
use Rattle.conf_tools.specs.Prelude.{Tree, batch, delete_at, set_at, single, text_of, tree_of, Contents, StoreFault, tree_named, Placing}
use Rattle.conf_tools.specs.declared.{changes.Action.{Action, TheVariants.{Edit, Perform}}, edits.TreeEdit.TreeEdit}
use Rattle.{conf_tools.specs.declared.texts.ToolFault.ToolFault, conf_state.specs.Commands.Command}
use Rattle.conf_state.specs.declared.{fault.StoreFault.TheVariants.{ConfigLarge, OutOfMemory, TooDeep}, command.Command.TheVariants.Set}
use Rattle.conf_words.specs.declared.invocation.Placing.TheVariants.{AtPlace, BeforeElement, WithParents}
use Rattle.tree_edits.specs.{Changes.{IsRefused, SetAt}, Insertions.inserted, Moves.{Move, goes, missing, moved, stays}}
use Rattle.tree_edits.specs.{Parents.with_parents, declared.fault.EditFault.EditFault}
use Rattle.tree_edits.specs.declared.fault.EditFault.TheVariants as value_fault
use Rattle.conf_tools.specs.declared.edits.TreeEdit.TheVariants as tree_edit

-- ---- the command of an edit

-- the command that sets a value
abbrev pub sets : List ℕ → SetAt → Command
sets name at = single (set_at name at.pointer at.value)

-- the command that moves a value: it deletes it at one pointer, and then sets it at another one, unless it stays; where
-- nothing is, it deletes that, which is refused
abbrev pub takes : List ℕ → Move → Command
takes name (stays pointer value) = single (set_at name pointer value)
takes name (goes from to value) = batch (delete_at name from ∷ set_at name to value ∷ [])
takes name (missing from) = single (delete_at name from)

-- the command that makes an edit of the tree under a name
abbrev pub edits : List ℕ → TreeEdit → Tree → Command
edits name (tree_edit.WithParents path value) t = sets name (with_parents t (text_of path) (tree_of value))
edits name (tree_edit.Insert path value) t = sets name (inserted t (text_of path) (tree_of value))
edits name (tree_edit.Move from to) t = takes name (moved t (text_of from) (text_of to))

-- ---- why there is none

-- the fault of a store for a value that can't be set
abbrev pub refusal_of : EditFault → StoreFault
refusal_of value_fault.TooDeep = TooDeep
refusal_of value_fault.TooLarge = ConfigLarge
refusal_of value_fault.OutOfMemory = OutOfMemory

-- no configuration has such a value, for this reason; or memory ran out
abbrev pub CannotSet : Tree → StoreFault → Type 0
CannotSet value fault = (why : EditFault) × IsRefused value why × (fault ≡ refusal_of why)

-- the same of the value that an edit of a tree sets
abbrev pub CannotEdit : TreeEdit → Tree → StoreFault → Type 0
CannotEdit (tree_edit.WithParents path value) t fault =
    CannotSet (with_parents t (text_of path) (tree_of value)).value fault
CannotEdit (tree_edit.Insert path value) t fault = CannotSet (inserted t (text_of path) (tree_of value)).value fault
CannotEdit (tree_edit.Move from to) t fault = fault ≡ OutOfMemory

-- there is no tree under the name, or no edit of it
abbrev pub LacksEdit : Contents → List ℕ → TreeEdit → StoreFault → Type 0
LacksEdit s name edit fault =
    (tree_named s name ≡ Err fault) ⊎ ((tree : Tree) × (tree_named s name ≡ Ok tree) × CannotEdit edit tree fault)

-- ---- the action of a `set`

-- the action that puts the value of a set so
abbrev pub placed : Placing → Action → Action
placed AtPlace action = action
placed WithParents (Perform (Set name path value)) = Edit name (tree_edit.WithParents path value)
placed BeforeElement (Perform (Set name path value)) = Edit name (tree_edit.Insert path value)
placed placing action = action

-- the same, if there is one
abbrev pub placed_or_not : Placing → Result Action ToolFault → Result Action ToolFault
placed_or_not AtPlace action = action
placed_or_not placing (Ok action) = Ok (placed placing action)
placed_or_not placing (Err fault) = Err fault
