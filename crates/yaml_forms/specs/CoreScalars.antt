-- The plain scalars that YAML's core schema resolves to something other than a text (YAML 1.2.2, 10.3.2).
use Rattle.std.specs.Prelude.{ℕ, Bool, true, false, not, ◌&&◌, ◌||◌, ◌==◌, if◌then◌else◌, List, [], ◌∷◌, length, codes}
use Rattle.yaml_forms.specs.Prelude.{list_all, in_range, is_in, dot, digit_zero, small_x, first, hex_digit, is_among}

-- `null | Null | NULL | ~`
abbrev pub null_words : List (List ℕ)
null_words = codes "null" ∷ codes "Null" ∷ codes "NULL" ∷ codes "~" ∷ []

-- `true | True | TRUE | false | False | FALSE`
abbrev pub truth_words : List (List ℕ)
truth_words =
    codes "true" ∷ codes "True" ∷ codes "TRUE" ∷ codes "false" ∷ codes "False" ∷ codes "FALSE" ∷ []

-- `[-+]? ( \.inf | \.Inf | \.INF )` and `\.nan | \.NaN | \.NAN`
abbrev pub float_words : List (List ℕ)
float_words =
    codes ".inf" ∷ codes ".Inf" ∷ codes ".INF" ∷ codes "-.inf" ∷ codes "-.Inf" ∷ codes "-.INF"
    ∷ codes "+.inf" ∷ codes "+.Inf" ∷ codes "+.INF" ∷ codes ".nan" ∷ codes ".NaN" ∷ codes ".NAN" ∷ []

-- `[0-9]`
abbrev pub digit : ℕ → Bool
digit c = in_range 48 57 c

-- `[0-7]`
abbrev pub octal_digit : ℕ → Bool
octal_digit c = in_range 48 55 c

-- one digit or more, and nothing else
abbrev pub digits : (ℕ → Bool) → List ℕ → Bool
digits p cs = not (length cs == 0) && list_all p cs

-- what comes after `[-+]?`
abbrev pub after_sign : List ℕ → List ℕ
after_sign [] = []
after_sign (c ∷ cs) = if is_in c (codes "-+") then cs else c ∷ cs

-- what comes after `[0-9]*`
abbrev pub after_digits : List ℕ → List ℕ
after_digits [] = []
after_digits (c ∷ cs) = if digit c then after_digits cs else c ∷ cs

-- `( [eE] [-+]? [0-9]+ )?`
abbrev pub exponent : List ℕ → Bool
exponent [] = true
exponent (c ∷ cs) = is_in c (codes "eE") && digits digit (after_sign cs)

-- `( \. [0-9]* )?` and an exponent
abbrev pub fraction : List ℕ → Bool
fraction [] = true
fraction (c ∷ cs) = if c == dot then exponent (after_digits cs) else exponent (c ∷ cs)

-- `\. [0-9]+` and an exponent, or `[0-9]+`, a fraction and an exponent
abbrev pub unsigned : List ℕ → Bool
unsigned [] = false
unsigned (c ∷ cs) =
    if c == dot then first digit cs && exponent (after_digits cs) else digit c && fraction (after_digits cs)

-- `0o [0-7]+` or `0x [0-9a-fA-F]+`, after the `0`
abbrev pub based : List ℕ → Bool
based [] = false
based (c ∷ cs) = (c == 111) && digits octal_digit cs || (c == small_x) && digits hex_digit cs

-- an integer of the base 8 or 16
abbrev pub based_number : List ℕ → Bool
based_number [] = false
based_number (c ∷ cs) = (c == digit_zero) && based cs

-- the core schema resolves the plain scalar to null, a truth value, an integer or a float
abbrev pub is_typed : List ℕ → Bool
is_typed value =
    is_among value null_words || is_among value truth_words || is_among value float_words || based_number value
    || unsigned (after_sign value)
