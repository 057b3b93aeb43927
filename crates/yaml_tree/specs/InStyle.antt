-- Texts that are read in one pass over the lines of their tree.
use Rattle.std.specs.Prelude.{◌≡◌, ◌⊎◌, ◌≤◌, ℕ, List, [], ◌++◌, codes, length}
use Rattle.{yaml_tree.specs.Prelude.{IsUtf8, Limits, style_text, Tree}, yaml_styled.specs.{Comparing.GoesOn, Sounds.Sound}}
use Rattle.yaml_writer.specs.{Sizes.element_size, declared.size.Size.Size}

-- the lines are the whole text, or what stands between a line of `---` and a closing line
abbrev pub StandIn : List ℕ → List ℕ → Type 0
StandIn text lines = (text ≡ lines) ⊎ (text ≡ codes "---\n" ++ (lines ++ codes "...\n"))

-- Such lines of a text that is within the limits. A tree that is read of them is no deeper than the limit.
pub record AreLinesIn (bytes lines : List ℕ) (limits : Limits) : Type 0 where
  pub utf8 : IsUtf8 bytes
  pub stand : StandIn bytes lines
  pub deep : 128 ≤ limits.depth
  pub short : length bytes ≤ limits.bytes
  pub long : length bytes ≤ limits.style

-- the lines are those of the tree in the one style, and its size is right
pub record AreLinesOf (lines : List ℕ) (t : Tree) (size : Size) : Type 0 where
  pub written : GoesOn lines (style_text t) []
  pub size_is : size ≡ element_size t
  pub sound : Sound t 128
