-- The grammar of JSON texts (RFC 8259): how a value is spelled, what has to hold of it, and which tree it means.
use Rattle.std.specs.Prelude.{◌≡◌, ℕ, Bool, ◌&&◌, ◌||◌, ◌==◌, true, false, if◌then◌else◌, List, [], ◌∷◌, ◌++◌, length, codes}
use Rattle.yaml_forms.specs.Prelude.{list_all, in_range, is_in, small_b, small_f, small_n, small_r, small_t, backspace, tab, line_feed}
use Rattle.yaml_forms.specs.Prelude.{form_feed, carriage_return, backslash, hex_digit, hex_value, same_text, Tree, text, sequence, mapping}
use Rattle.yaml_forms.specs.Prelude.{Elements, no_element, element, Members, no_member, member}

-- ---- strings (7)

-- a character of a string: itself, a sign behind `\`, or digits behind `\u`
pub data Character : Type 0 where
  unescaped : ℕ → Character
  escaped : ℕ → Character
  numbered : List ℕ → Character

abbrev pub character_text : Character → List ℕ
character_text (unescaped c) = c ∷ []
character_text (escaped sign) = backslash ∷ sign ∷ []
character_text (numbered digits) = codes "\\u" ++ digits

-- %x20-21, %x23-5B or %x5D-10FFFF; a sign of an escape; four hexadecimal digits
abbrev pub character_fits : Character → Bool
character_fits (unescaped c) = in_range 0x20 0x21 c || in_range 0x23 0x5b c || in_range 0x5d 0x10ffff c
character_fits (escaped sign) = is_in sign (codes "\"\\/bfnrt")
character_fits (numbered digits) = (length digits == 4) && list_all hex_digit digits

-- the character that a sign behind `\` stands for
abbrev pub sign_value : ℕ → ℕ
sign_value c =
    if c == small_b then backspace else if c == small_f then form_feed else if c == small_n then line_feed
    else if c == small_r then carriage_return else if c == small_t then tab else c

-- what a character means; digits mean a code unit of UTF-16, which is a character unless it is half of one
abbrev pub character_value : Character → ℕ
character_value (unescaped c) = c
character_value (escaped sign) = sign_value sign
character_value (numbered digits) = hex_value 0 digits

abbrev pub characters_text : List Character → List ℕ
characters_text [] = []
characters_text (c ∷ cs) = character_text c ++ characters_text cs

abbrev pub characters_value : List Character → List ℕ
characters_value [] = []
characters_value (c ∷ cs) = character_value c ∷ characters_value cs

abbrev pub string_text : List Character → List ℕ
string_text cs = codes "\"" ++ characters_text cs ++ codes "\""

-- ---- whitespace, words and numbers (2, 3 and 6)

abbrev pub is_blank : List ℕ → Bool
is_blank blank = list_all (λ c. is_in c (codes " \t\n\r")) blank

abbrev pub is_word : List ℕ → Bool
is_word word = same_text word (codes "false") || same_text word (codes "null") || same_text word (codes "true")

abbrev pub are_digits : List ℕ → Bool
are_digits [] = false
are_digits (d ∷ ds) = list_all (in_range 48 57) (d ∷ ds)

abbrev pub is_minus : List ℕ → Bool
is_minus minus = same_text minus [] || same_text minus (codes "-")

-- `0`, or digits that don't begin with it
abbrev pub is_int : List ℕ → Bool
is_int [] = false
is_int (d ∷ ds) = same_text (d ∷ ds) (codes "0") || (in_range 49 57 d && list_all (in_range 48 57) ds)

-- nothing, or a point and digits
abbrev pub is_frac : List ℕ → Bool
is_frac [] = true
is_frac (c ∷ ds) = is_in c (codes ".") && are_digits ds

-- digits, perhaps behind a sign
abbrev pub is_signed : List ℕ → Bool
is_signed [] = false
is_signed (c ∷ ds) = are_digits (c ∷ ds) || (is_in c (codes "+-") && are_digits ds)

-- nothing, or `e` or `E` and such digits
abbrev pub is_exp : List ℕ → Bool
is_exp [] = true
is_exp (c ∷ ds) = is_in c (codes "eE") && is_signed ds

-- ---- values (3 to 6)

mutual
  -- `false`, `null` or `true`; a number's minus, int, frac and exp; a string; an array or an object, with the whitespace
  -- in one that is empty, or else behind its opening bracket
  pub data Value : Type 0 where
    word : List ℕ → Value
    number : List ℕ → List ℕ → List ℕ → List ℕ → Value
    string : List Character → Value
    empty_array empty_object : List ℕ → Value
    array : List ℕ → Value → Items → Value
    object : List ℕ → Pair → Pairs → Value

  -- what comes behind an element: whitespace before the closing bracket; or whitespace around a comma, an element, and
  -- what comes behind it
  pub data Items : Type 0 where
    no_item : List ℕ → Items
    item : List ℕ → List ℕ → Value → Items → Items

  -- the same behind a member
  pub data Pairs : Type 0 where
    no_pair : List ℕ → Pairs
    pair : List ℕ → List ℕ → Pair → Pairs → Pairs

  -- a member: its name, whitespace around the colon, and its value
  pub data Pair : Type 0 where
    named : List Character → List ℕ → List ℕ → Value → Pair

abbrev mutual
  pub value_text : Value → List ℕ
  value_text (word letters) = letters
  value_text (number minus int frac exp) = minus ++ int ++ frac ++ exp
  value_text (string cs) = string_text cs
  value_text (empty_array blank) = codes "[" ++ blank ++ codes "]"
  value_text (empty_object blank) = codes "{" ++ blank ++ codes "}"
  value_text (array blank v is) = codes "[" ++ blank ++ value_text v ++ items_text is
  value_text (object blank p ps) = codes "{" ++ blank ++ pair_text p ++ pairs_text ps

  pub items_text : Items → List ℕ
  items_text (no_item blank) = blank ++ codes "]"
  items_text (item before after v is) = before ++ codes "," ++ after ++ value_text v ++ items_text is

  pub pairs_text : Pairs → List ℕ
  pairs_text (no_pair blank) = blank ++ codes "}"
  pairs_text (pair before after p ps) = before ++ codes "," ++ after ++ pair_text p ++ pairs_text ps

  pub pair_text : Pair → List ℕ
  pair_text (named name before after v) = string_text name ++ before ++ codes ":" ++ after ++ value_text v

abbrev mutual
  pub value_fits : Value → Bool
  value_fits (word letters) = is_word letters
  value_fits (number minus int frac exp) = is_minus minus && is_int int && is_frac frac && is_exp exp
  value_fits (string cs) = list_all character_fits cs
  value_fits (empty_array blank) = is_blank blank
  value_fits (empty_object blank) = is_blank blank
  value_fits (array blank v is) = is_blank blank && value_fits v && items_fit is
  value_fits (object blank p ps) = is_blank blank && pair_fits p && pairs_fit ps

  pub items_fit : Items → Bool
  items_fit (no_item blank) = is_blank blank
  items_fit (item before after v is) = is_blank before && is_blank after && value_fits v && items_fit is

  pub pairs_fit : Pairs → Bool
  pairs_fit (no_pair blank) = is_blank blank
  pairs_fit (pair before after p ps) = is_blank before && is_blank after && pair_fits p && pairs_fit ps

  pub pair_fits : Pair → Bool
  pair_fits (named name before after v) =
      list_all character_fits name && is_blank before && is_blank after && value_fits v

-- ---- trees of texts

abbrev mutual
  -- the value means the tree: a string its text, an array the sequence of what its elements mean, and an object the
  -- mapping of its members, in their order
  pub MeansTree : Value → Tree → Type 0
  MeansTree (string cs) (text value) = characters_value cs ≡ value
  MeansTree (empty_array blank) (sequence no_element) = Unit {0}
  MeansTree (empty_object blank) (mapping no_member) = Unit {0}
  MeansTree (array blank v is) (sequence (element t ts)) = MeansTree v t × MeanElements is ts
  MeansTree (object blank p ps) (mapping (member key t ms)) = MeansMember p key t × MeanMembers ps ms
  MeansTree v t = ⊥

  pub MeanElements : Items → Elements → Type 0
  MeanElements (no_item blank) no_element = Unit {0}
  MeanElements (item before after v is) (element t ts) = MeansTree v t × MeanElements is ts
  MeanElements is ts = ⊥

  pub MeanMembers : Pairs → Members → Type 0
  MeanMembers (no_pair blank) no_member = Unit {0}
  MeanMembers (pair before after p ps) (member key t ms) = MeansMember p key t × MeanMembers ps ms
  MeanMembers ps ms = ⊥

  pub MeansMember : Pair → List ℕ → Tree → Type 0
  MeansMember (named name before after v) key t = (characters_value name ≡ key) × MeansTree v t

-- The text is a value between whitespace, and means the tree.
pub record IsJsonOf (t : Tree) (json : List ℕ) : Type 0 where
  pub before : List ℕ
  pub value : Value
  pub after : List ℕ
  pub blank : is_blank before && is_blank after ≡ true
  pub fits : value_fits value ≡ true
  pub spelled : json ≡ before ++ value_text value ++ after
  pub means : MeansTree value t
