-- What takes a set back.
use Rattle.std.specs.Prelude.{◌≡◌, ℕ, List, length, Ok, Err}
use Rattle.tree_path.specs.{Prelude.{Tree, tree_of}, Paths.{at, child, put}, Steps.{Leads, Rebuilt, step_place}}
use Rattle.tree_path.specs.declared.{place.Miss.TheVariants.Absent, undo.{Displaced.{Displaced, TheVariants.{Value, Nothing}}, Undo.Undo}}

-- With what a value displaced back in its place, u is v. Where it displaced nothing, it was added to v by a step.
abbrev pub PutsBack : Displaced → Tree → Tree → Type 0
PutsBack (Value place value) u v =
    (token : List ℕ) × (step_place u token ≡ Ok place) × (put u token (tree_of value) ≡ Ok v)
PutsBack Nothing u v = (token : List ℕ) × (added : Tree) × (child v token ≡ Err Absent) × (put v token added ≡ Ok u)

-- the same at the end of some steps, in the whole trees
pub record IsBack (displaced : Displaced) (steps : List (List ℕ)) (now before : Tree) : Type 0 where
  pub here : Tree
  pub there : Tree
  pub found : at before steps ≡ Ok there
  pub made : Rebuilt steps before here now
  pub puts : PutsBack displaced here there

-- the set that it takes back made `now` of `before`
pub record IsUndo (undo : Undo) (now before : Tree) : Type 0 where
  pub steps : List (List ℕ)
  pub long : length steps ≡ length undo.parents.items
  pub leads : Leads steps now undo.parents.items
  pub back : IsBack undo.displaced steps now before
