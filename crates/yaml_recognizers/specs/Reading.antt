-- What a recognizer returns: the presentation that it found at the start of a text, and the rest of the text; or
-- nothing.
use Rattle.std.specs.Prelude.{ℕ, Bool, true, false, ◌==◌, List, [], ◌∷◌, Option, Some, None, if◌then◌else◌}

-- a value and the rest of the text, or nothing
abbrev pub Read : Type 0 → Type 0
Read A = Option (A × List ℕ)

-- what was read, and then what reads the rest
abbrev pub on : {A B : Type 0} → Read A → (A → List ℕ → Read B) → Read B
on None f = None
on (Some r) f = f r.0 r.1

-- a value, if the text goes on with the character x
abbrev pub read_closing : {A : Type 0} → ℕ → A → List ℕ → Read A
read_closing x a [] = None
read_closing x a (c ∷ cs) = if c == x then Some (a, cs) else None

-- what was read, if the test holds
abbrev pub if_fits : {A : Type 0} → Bool → Read A → Read A
if_fits true r = r
if_fits false r = None
