-- Scalars in single quotes: what is between the quotes at a place of a text, and what of it a value borrows.
use Rattle.std.specs.Prelude.{◌≡◌, ℕ, ◌<◌, Bool, true, false, not, ◌&&◌, ◌||◌, ◌⊎◌, List, Some, slice_range}
use Rattle.yaml_flow_scalars.specs.Prelude.{cow_str_bytes, IsBorrowedStr, AllPass, IsCharBoundary, CowStr, nb_json, line_break, rest}
use Rattle.yaml_flow_scalars.specs.Prelude.{FlowContext, char_value, one_line, Read, quote, read_quoted, read_single_one, single_closes}
use Rattle.yaml_flow_scalars.specs.{Prelude.quoted_value, Folds.NoFold}

-- a character that means itself between single quotes
abbrev pub content : ℕ → Bool
content c = nb_json c && not (quote c)

-- a byte that is neither a quote nor of a break
abbrev pub is_unchanged : ℕ → Bool
is_unchanged b = not (quote b || line_break b)

-- Where neither a quote nor a break is between the quotes the value is borrowed, and is what is there.
abbrev pub BorrowsContent : {A : Type 0} → List ℕ → ℕ → ℕ → CowStr A → Type 0
BorrowsContent text from to value = AllPass is_unchanged (slice_range text from to)
    → IsBorrowedStr value × (cow_str_bytes value ≡ slice_range text from to)

-- the value of what comes after an opening quote up to the closing one, and what comes after that
abbrev pub read_inside : ℕ → FlowContext → List ℕ → Read (List ℕ)
read_inside n c text = quoted_value char_value (read_quoted read_single_one single_closes false n c text)

-- the value is read from the place on, up to the other place after the closing quote
pub record IsInside (n : ℕ) (c : FlowContext) (text : List ℕ) (start : ℕ) (value : List ℕ) (end : ℕ) : Type 0 where
  pub above : start < end
  pub boundary : IsCharBoundary text end
  pub reads : read_inside n c (rest text start) ≡ Some (value, rest text end)

-- in a key there is no fold
abbrev pub NoFoldIn : ℕ → FlowContext → List ℕ → ℕ → Type 0
NoFoldIn n c text at = (one_line c ≡ true) ⊎ NoFold n text at
