-- The parts, as the code has them: names, and the bytes that were made early.
use Rattle.std.specs.{Prelude.{◌≡◌, false, ℕ, List, [], ◌∷◌, String, string_bytes, option_map, unwrap_or, encode_utf8_all}, HashMap.HashMap}
use Rattle.std.specs.{HashMap.get_by_text, declared.hash.{FoldHasher.FoldHasher, BuildHasherDefault.BuildHasherDefault}}
use Rattle.conf_store.specs.{Prelude.{bytes_eq, chars, Global, text_of, entry_named, Entry}, Parts.Part}

-- texts by name
abbrev pub Texts : Type 0
Texts = HashMap (String Global) (String Global) (BuildHasherDefault FoldHasher)

abbrev pub part_of : Texts → String Global → Part
part_of early name = (text_of name, option_map string_bytes (get_by_text early (string_bytes name)))

abbrev pub parts_of : Texts → List (String Global) → List Part
parts_of early [] = []
parts_of early (name ∷ names) = part_of early name ∷ parts_of early names

-- the bytes of a configuration, as they were made early, or as these configurations have them
abbrev pub text_named : Texts → List Entry → List ℕ → List ℕ
text_named early configs name = unwrap_or (option_map string_bytes (get_by_text early name))
    (encode_utf8_all (entry_named configs (chars name)))

-- the name is none of these
abbrev pub IsApart : String Global → List (String Global) → Type 0
IsApart name [] = Unit {0}
IsApart name (n ∷ ns) = (bytes_eq (string_bytes name) (string_bytes n) ≡ false) × IsApart name ns

-- no name occurs twice
abbrev pub AreApart : List (String Global) → Type 0
AreApart [] = Unit {0}
AreApart (n ∷ ns) = IsApart n ns × AreApart ns
