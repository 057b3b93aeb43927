-- The formats of the bases that a store writes. Behind a base of the third format, and of no other, a record may have an
-- about.
use Rattle.std.specs.{Prelude.{◌≡◌, ℕ, nat_eq, if◌then◌else◌, List, ◌++◌, codes, decimal, encode_utf8_all}, List.starts_with}
use Rattle.conf_record.specs.Prelude.{Tree, text, mapping, no_member, member, members, closed_document, base_text, base_bytes, Contents}
use Rattle.conf_record.specs.declared.format.Format.{Format, TheVariants.{Second, Third}}

-- the first member of a base, which names its format
abbrev pub format_line : Format → List ℕ
format_line Second = codes "store: confstore-2\n"
format_line Third = codes "store: confstore-3\n"

-- the lines with which a base text in the one style begins
abbrev pub format_start : Format → List ℕ
format_start format = codes "---\n" ++ format_line format

-- the mapping of a base text in the third format
abbrev pub third_tree : Contents → Tree
third_tree s =
    mapping (member (codes "store") (text (codes "confstore-3"))
    (member (codes "at") (text (decimal s.count))
    (member (codes "configs") (mapping (members s.configs)) no_member)))

unfoldable pub third_text : Contents → List ℕ
third_text s = closed_document (third_tree s)

-- the same in UTF-8
unfoldable pub third_bytes : Contents → List ℕ
third_bytes s = encode_utf8_all (third_text s)

-- the base text of a state in a format
abbrev pub base_text_in : Format → Contents → List ℕ
base_text_in Second s = base_text s
base_text_in Third s = third_text s

-- the same in UTF-8
abbrev pub base_in : Format → Contents → List ℕ
base_in Second s = base_bytes s
base_in Third s = third_bytes s

-- ---- the format of a file

-- the bytes with which a base of the third format begins
abbrev pub third_start : List ℕ
third_start = codes "---\nstore: confstore-3\n"

-- the bytes begin so
pub record BeginsThird (bytes : List ℕ) : Type 0 where
  pub rest : List ℕ
  pub is : bytes ≡ third_start ++ rest

-- The format of a file of these bytes. A base that is spelled otherwise than in the one style counts as one of the second
-- format.
abbrev pub format_of : List ℕ → Format
format_of bytes = if starts_with nat_eq bytes third_start then Third else Second

-- ---- laws

-- a base tells its format, whatever comes after it
abbrev pub FormatsAreTold : Type 0
FormatsAreTold = (format : Format) (s : Contents) (after : List ℕ) → format_of (base_in format s ++ after) ≡ format

-- bytes of the third format begin as its bases do
abbrev pub ThirdsBegin : Type 0
ThirdsBegin = (bytes : List ℕ) → format_of bytes ≡ Third → BeginsThird bytes
