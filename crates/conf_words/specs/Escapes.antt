-- What is shown of a text whose characters may not all be shown as they are.
use Rattle.std.specs.{Prelude.{◌≡◌, ℕ, nat_le, Bool, ◌||◌, ◌&&◌, ◌==◌, if◌then◌else◌, List, [], ◌∷◌, ◌++◌}, Char.Escape.escape_default}

-- whether a character is one of these, from the first to the last
abbrev pub is_within : ℕ → ℕ → ℕ → Bool
is_within first last c = nat_le first c && nat_le c last

-- Whether a character could change what a terminal shows of the others: C0, DEL and C1, what turns the direction of a
-- text, and the separators of lines and paragraphs.
abbrev pub is_hidden : ℕ → Bool
is_hidden c =
    is_within 0 0x1f c || is_within 0x7f 0x9f c || c == 0x61c || is_within 0x200e 0x200f c
    || is_within 0x2028 0x202e c || is_within 0x2066 0x2069 c

-- What is shown of a character: itself, or its escape, as `\n` and `\u{1b}`. A `\` is escaped, too.
abbrev pub escaped_char : ℕ → List ℕ
escaped_char c = if c == 0x5c || is_hidden c then escape_default c else c ∷ []

-- what is shown of a text
abbrev pub escaped : List ℕ → List ℕ
escaped [] = []
escaped (c ∷ cs) = escaped_char c ++ escaped cs

-- no two texts are shown alike
abbrev pub AreShownApart : Type 0
AreShownApart = (text other : List ℕ) → escaped text ≡ escaped other → text ≡ other
