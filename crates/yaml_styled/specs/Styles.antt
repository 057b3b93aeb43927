-- What callers know of what was read.
use Rattle.std.specs.Prelude.{◌≡◌, ℕ, List}
use Rattle.{yaml_styled.specs.{Prelude.{Tree, element_size}, Comparing.GoesOn, Sounds.Sound}, yaml_writer.specs.declared.size.Size.Size}

-- a text begins with a tree in the one style, and after it goes on with the rest
pub record IsStyled (Is : Tree → Type 0) (written : Tree → List ℕ) (size : Size) (text rest : List ℕ) : Type 0 where
  pub tree : Tree
  pub is : Is tree
  pub goes_on : GoesOn text (written tree) rest
  pub size_is : size ≡ element_size tree
  pub sound : Sound tree 128
