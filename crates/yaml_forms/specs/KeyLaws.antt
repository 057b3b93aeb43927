-- The law of the lines of keys: how they are read, as statements.
use Rattle.std.specs.Prelude.{◌≡◌, ℕ, Bool, true, false, not, ◌==◌, if◌then◌else◌, List, [], ◌∷◌, ◌++◌, codes, All}
use Rattle.yaml_forms.specs.Prelude.{list_all, line_feed, double_quote, first, text, Members, no_member, member, AreTextMembers, CanReadAs}
use Rattle.yaml_forms.specs.KeyLines.{member_lines}

-- ---- lines

-- lines with one character more before the first
abbrev pub onto_first : ℕ → List (List ℕ) → List (List ℕ)
onto_first c [] = (c ∷ []) ∷ []
onto_first c (line ∷ lines) = (c ∷ line) ∷ lines

-- the lines of a text, without their line feeds
abbrev pub lines_of : List ℕ → List (List ℕ)
lines_of [] = []
lines_of (c ∷ cs) = if c == line_feed then [] ∷ lines_of cs else onto_first c (lines_of cs)

-- texts as lines, with a line feed after each
abbrev pub as_lines : List (List ℕ) → List ℕ
as_lines [] = []
as_lines (line ∷ lines) = line ++ codes "\n" ++ as_lines lines

-- the text has no line feed
abbrev pub IsOneLine : List ℕ → Type 0
IsOneLine line = list_all (λ c. not (c == line_feed)) line ≡ true

-- ---- keys

-- A line that begins with `"` has the key that it gives as YAML. Any other line is the key.
abbrev pub HasKeyBy : Bool → List ℕ → List ℕ → Type 0
HasKeyBy true line key = CanReadAs line (text key)
HasKeyBy false line key = line ≡ key

abbrev pub HasKey : List ℕ → List ℕ → Type 0
HasKey line key = HasKeyBy (first (λ c. c == double_quote) line) line key

-- the lines have the keys of the members, one for each in its place
abbrev pub HaveKeysOf : List (List ℕ) → Members → Type 0
HaveKeysOf [] no_member = Unit {0}
HaveKeysOf [] (member key t ms) = ⊥
HaveKeysOf (line ∷ lines) no_member = ⊥
HaveKeysOf (line ∷ lines) (member key t ms) = HasKey line key × HaveKeysOf lines ms

-- ---- the law

-- From the lines of a mapping its keys are read back, and nothing else.
pub record KeysAreReadBack : Type 0 where
  -- the lines that are written have the keys
  pub written : (ms : Members) → AreTextMembers ms → HaveKeysOf (lines_of (member_lines ms)) ms
  -- no line has two keys
  pub once : (line key other : List ℕ) → HasKey line key → HasKey line other → key ≡ other
  -- texts without line feeds, as names are, are read back from lines
  pub plain : (lines : List (List ℕ)) → All IsOneLine lines → lines_of (as_lines lines) ≡ lines
