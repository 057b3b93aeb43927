-- The parts of a base's text that are not written yet.
use Rattle.std.specs.Prelude.{◌≡◌, ◌≤◌, true, ℕ, List, [], ◌∷◌, ◌++◌, length, Option, None, IsSome, unwrap_or, encode_utf8_all}
use Rattle.conf_store.specs.Prelude.{Coded, coded×, coded_ℕ, coded_list, coded_option, same_text, Entry, entry_named}

-- the name of a configuration, and its bytes, if they were made before a command changed it
abbrev pub Part : Type 0
Part = List ℕ × Option (List ℕ)

abbrev pub parts_code : Coded (List Part)
parts_code = coded_list (coded× (coded_list coded_ℕ) (coded_option (coded_list coded_ℕ)))

-- configurations of which none is made
abbrev pub parts_named : List (List ℕ) → List Part
parts_named [] = []
parts_named (name ∷ names) = (name, None) ∷ parts_named names

-- the bytes of a part, as they were made, or as these configurations have them
abbrev pub part_bytes : List Entry → Part → List ℕ
part_bytes configs p = unwrap_or p.1 (encode_utf8_all (entry_named configs p.0))

abbrev pub texts : List Entry → List Part → List (List ℕ)
texts configs [] = []
texts configs (p ∷ ps) = part_bytes configs p ∷ texts configs ps

-- texts, one after the other
abbrev pub joined : List (List ℕ) → List ℕ
joined [] = []
joined (t ∷ ts) = t ++ joined ts

-- each has so many bytes at most
abbrev pub AreWithin : ℕ → List (List ℕ) → Type 0
AreWithin room [] = Unit {0}
AreWithin room (t ∷ ts) = (length t ≤ room) × AreWithin room ts

-- the bytes of the configuration under this name are made, if it is one of the parts
abbrev pub IsMade : List ℕ → List Part → Type 0
IsMade name [] = Unit {0}
IsMade name (p ∷ ps) = (same_text name p.0 ≡ true → IsSome p.1) × IsMade name ps

-- the same of each of these names
abbrev pub AreMade : List (List ℕ) → List Part → Type 0
AreMade [] ps = Unit {0}
AreMade (name ∷ names) ps = IsMade name ps × AreMade names ps
