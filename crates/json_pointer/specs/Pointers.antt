-- Paths as texts (RFC 6901, 3 and 4): each token is led by `/`, and in it `~` is spelled `~0` and `/` is spelled `~1`.
use Rattle.std.specs.Prelude.{ℕ, ◌+◌, Bool, false, not, ◌&&◌, ◌||◌, ◌==◌, if◌then◌else◌, List, [], ◌∷◌, ◌++◌, map, codes, Option, Some}
use Rattle.std.specs.{Prelude.{None, option_map, Result, Ok, Err}, Char.len_utf8}
use Rattle.json_pointer.specs.{Prelude.{digit_zero, digit_one, tilde, first, is_empty}, declared.fault.PathFault.PathFault}
use Rattle.json_pointer.specs.declared.fault.PathFault.TheVariants.{BadPath}

-- `/`
abbrev pub slash : ℕ
slash = 47

-- ---- the text of a path

-- a character of a token as it is written
abbrev pub char_text : ℕ → List ℕ
char_text c = if c == tilde then codes "~0" else (if c == slash then codes "~1" else c ∷ [])

-- a character that is written as itself (`unescaped` in RFC 6901, 3)
abbrev pub unescaped : ℕ → Bool
unescaped c = not ((c == slash) || (c == tilde))

-- a token as it is written
abbrev pub token_text : List ℕ → List ℕ
token_text [] = []
token_text (c ∷ cs) = char_text c ++ token_text cs

-- the text of a path: a `/` before each token (RFC 6901, 3)
abbrev pub pointer_text : List (List ℕ) → List ℕ
pointer_text [] = []
pointer_text (token ∷ tokens) = slash ∷ (token_text token ++ pointer_text tokens)

-- ---- texts that are no pointers

-- the text begins with a `~` that isn't before `0` or `1`
abbrev pub stray : List ℕ → Bool
stray [] = false
stray (c ∷ cs) = (c == tilde) && not (first (λ d. (d == digit_zero) || (d == digit_one)) cs)

-- the place of the first such `~`, in bytes
abbrev pub first_stray : List ℕ → Option ℕ
first_stray [] = None
first_stray (c ∷ cs) = if stray (c ∷ cs) then Some 0 else option_map (λ n. len_utf8 c + n) (first_stray cs)

-- where a text is wrong, in bytes: at its start, if there is one other than `/`, and else at its first stray `~`
abbrev pub bad_place : List ℕ → Option ℕ
bad_place text = if is_empty text || first (λ c. c == slash) text then first_stray text else Some 0

-- ---- the path of a text

-- what comes before the first `/`
abbrev pub first_piece : List ℕ → List ℕ
first_piece [] = []
first_piece (c ∷ cs) = if c == slash then [] else c ∷ first_piece cs

-- what comes after each `/`, up to the next one
abbrev pub pieces : List ℕ → List (List ℕ)
pieces [] = []
pieces (c ∷ cs) = if c == slash then first_piece cs ∷ pieces cs else pieces cs

-- the character that a `~` and the digit after it spell, and what is after them
abbrev pub after_tilde : List ℕ → List ℕ
after_tilde [] = []
after_tilde (d ∷ cs) = (if d == digit_zero then tilde else slash) ∷ cs

-- a token from its text: `~1` is `/`, and then `~0` is `~` (RFC 6901, 4)
abbrev pub token_from_text : List ℕ → List ℕ
token_from_text [] = []
token_from_text (c ∷ cs) = if c == tilde then after_tilde (token_from_text cs) else c ∷ token_from_text cs

-- the path whose text this is, or where the text is wrong
abbrev pub tokens_or_place : Option ℕ → List ℕ → Result (List (List ℕ)) PathFault
tokens_or_place None text = Ok (map token_from_text (pieces text))
tokens_or_place (Some at) text = Err (BadPath at)

-- the path that a text means, or where it is wrong
abbrev pub path_of : List ℕ → Result (List (List ℕ)) PathFault
path_of text = tokens_or_place (bad_place text) text
