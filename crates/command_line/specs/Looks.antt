-- What a word looks like.
use Rattle.std.specs.Prelude.{ℕ, ◌==◌, if◌then◌else◌, List, [], ◌∷◌, Option, Some, None, option_and_then}

-- what follows a first `-`
abbrev pub after_dash : List ℕ → Option (List ℕ)
after_dash [] = None
after_dash (c ∷ cs) = if c == 45 then Some cs else None

-- what follows a first `--`
abbrev pub after_dashes : List ℕ → Option (List ℕ)
after_dashes word = option_and_then after_dash (after_dash word)

-- what follows the `-` of `-abc`; nothing of `-`, and of what begins with `--`
abbrev pub letters_behind : List ℕ → Option (List ℕ)
letters_behind [] = None
letters_behind (c ∷ cs) = if c == 45 then None else Some (c ∷ cs)

abbrev pub letters_of : List ℕ → Option (List ℕ)
letters_of word = option_and_then letters_behind (after_dash word)

-- what stands before a first byte c, and what behind it, if there is one
abbrev pub before_byte : ℕ → List ℕ → List ℕ
before_byte c [] = []
before_byte c (b ∷ bs) = if b == c then [] else b ∷ before_byte c bs

abbrev pub behind_byte : ℕ → List ℕ → Option (List ℕ)
behind_byte c [] = None
behind_byte c (b ∷ bs) = if b == c then Some bs else behind_byte c bs

-- the name before a first `=`, and the text behind it, if there is one
abbrev pub name_in : List ℕ → List ℕ
name_in option = before_byte 61 option

abbrev pub text_in : List ℕ → Option (List ℕ)
text_in option = behind_byte 61 option
