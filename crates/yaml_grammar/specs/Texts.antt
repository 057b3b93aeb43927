-- A text is a list of code points. These definitions speak of texts, of the text after a place, and of the line around
-- it.
use Rattle.std.specs.{List.list_all, Prelude.{ℕ, ◌+◌, Bool, true, false, not, ◌&&◌, ◌||◌, ◌==◌, List, [], ◌∷◌, Option, Some, None}}
use Rattle.std.specs.{Prelude.{replicate, codes, IsTrue}, Char.len_utf8}
use Rattle.yaml_chars.specs.{Signs.space_char, Classes.{code_point, white, line_break}}

-- there is a first element, and it passes the test
abbrev pub first : {A : Type 0} → (A → Bool) → List A → Bool
first p [] = false
first p (x ∷ xs) = p x

-- the list has no elements
abbrev pub is_empty {ℓ} : {A : Type ℓ} → List A → Bool
is_empty [] = true
is_empty (x ∷ xs) = false

-- the second text starts with the first
abbrev pub begins : List ℕ → List ℕ → Bool
begins [] text = true
begins (c ∷ cs) [] = false
begins (c ∷ cs) (d ∷ ds) = (d == c) && begins cs ds

-- the two texts are equal
abbrev pub same_text : List ℕ → List ℕ → Bool
same_text [] [] = true
same_text [] (d ∷ ds) = false
same_text (c ∷ cs) [] = false
same_text (c ∷ cs) (d ∷ ds) = (c == d) && same_text cs ds

-- a text of n spaces
abbrev pub spaces : ℕ → List ℕ
spaces n = replicate n space_char

-- the text of what is there, or the empty text
abbrev pub optional : {A : Type 0} → (A → List ℕ) → Option A → List ℕ
optional spell None = []
optional spell (Some x) = spell x

-- each code point is a Unicode scalar value
abbrev pub IsText : List ℕ → Type 0
IsText text = IsTrue (list_all code_point text)

-- the number of bytes of a text in UTF-8; ranges and limits of length count these
abbrev pub byte_len : List ℕ → ℕ
byte_len [] = 0
byte_len (c ∷ cs) = len_utf8 c + byte_len cs

-- [206] c-forbidden, 9.1.2: the text is empty, or starts with whitespace or a break
abbrev pub ends_word : List ℕ → Bool
ends_word [] = true
ends_word (c ∷ cs) = white c || line_break c

-- [206] c-forbidden, 9.1.2: `---` or `...`, then whitespace, a break or the end of the text
abbrev pub marker : List ℕ → Bool
marker (a ∷ b ∷ c ∷ rest) = (begins (codes "---") (a ∷ b ∷ c ∷ []) || begins (codes "...") (a ∷ b ∷ c ∷ []))
    && ends_word rest
marker _ = false

-- [206] c-forbidden, 9.1.2: No marker is at the start of a line inside a node. Here bol says whether a line starts
-- where the text does.
abbrev pub no_marker : Bool → List ℕ → Bool
no_marker bol text = not (bol && marker text)

-- whether a line starts after a text, where bol says whether one starts at its beginning
abbrev pub starts_line : Bool → List ℕ → Bool
starts_line bol [] = bol
starts_line bol (c ∷ cs) = starts_line (line_break c) cs
