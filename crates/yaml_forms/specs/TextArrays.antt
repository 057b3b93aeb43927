-- A JSON array of texts that is written text by text.
use Rattle.std.specs.Prelude.{ℕ, Bool, false, ◌==◌, if◌then◌else◌, List, [], ◌∷◌, ◌++◌, length, codes, encode_utf8_all, string_bytes}
use Rattle.yaml_forms.specs.{Prelude.{comma, open_bracket}, Json.json_string, declared.text_array.TextArray.TextArray}

-- what comes before the next text; fresh: nothing of the array is written yet
abbrev pub array_lead : Bool → ℕ
array_lead fresh = if fresh then open_bracket else comma

-- what ends the array
abbrev pub array_end : Bool → List ℕ
array_end fresh = if fresh then codes "[]" else codes "]"

-- the array from here on, with these texts more
abbrev pub array_rest : Bool → List (List ℕ) → List ℕ
array_rest fresh [] = array_end fresh
array_rest fresh (value ∷ values) = array_lead fresh ∷ json_string value ++ array_rest false values

-- the bytes are none
abbrev pub is_fresh : List ℕ → Bool
is_fresh bytes = length bytes == 0

-- the bytes of the whole array once these texts are pushed, too
abbrev pub bytes_with : TextArray → List (List ℕ) → List ℕ
bytes_with array values =
    string_bytes array.json ++ encode_utf8_all (array_rest (is_fresh (string_bytes array.json)) values)
