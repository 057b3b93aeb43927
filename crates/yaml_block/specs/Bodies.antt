-- Block scalars at places of a text.
use Rattle.std.specs.Prelude.{◌≡◌, ℕ, ◌≤◌, Bool, false, List, if◌then◌else◌}
use Rattle.yaml_block.specs.{Prelude.{rest, goes_on, read_trail}, Lines.IsNextLine, declared.next_line.NextLine.NextLine}
use Rattle.yaml_events.specs.declared.event.Style.{Style, TheVariants.{Literal, Folded}}

-- literal or folded
abbrev pub IsBlockStyle : Bool → Style → Type 0
IsBlockStyle folded style = style ≡ (if folded then Folded else Literal)

-- The line after a block scalar with its comments, whatever its indentation q; its text lines end at the place.
pub record IsAfterScalar (text : List ℕ) (at : ℕ) (after : NextLine) : Type 0 where
  pub above : at ≤ after.line.start
  pub next : IsNextLine text after
  pub trail : (q : ℕ) → goes_on q (rest text at) ≡ false
      → (read_trail q (rest text at)).1 ≡ rest text after.line.start
