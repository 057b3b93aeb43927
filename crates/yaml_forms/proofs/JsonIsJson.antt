-- The JSON text of a tree of texts is in the grammar of JSON, and means the tree.
use Rattle.std.{proofs.Common.{◌≡◌, refl, sym, ◌∙◌, ap, subst, inl, inr, arith, ◌<◌, ◌≤◌, append_assoc}, specs.Prelude.{ℕ, suc, ◌/◌, ◌%◌}}
use Rattle.std.specs.Prelude.{Bool, true, false, ◌&&◌, ◌||◌, ◌==◌, List, [], ◌∷◌, ◌++◌, if◌then◌else◌}
use Rattle.yaml_forms.proofs.Prelude.{append-nil, list_all, and_parts, and_from, or_cases, eqb-true, code_point, IsText, shown, hex}
use Rattle.yaml_forms.proofs.Prelude.{letter_escape, Quotes, number, long_number, unshown_low, Tree, text, sequence, mapping, Elements}
use Rattle.yaml_forms.proofs.Prelude.{no_element, element, Members, no_member, member, IsTextTree, AreTextElements, AreTextMembers, or_left}
use Rattle.yaml_forms.proofs.Prelude.{or_right, or_parts, eqb-false, cases_lt, to_range, shown_low, code_point_high, in_range, hex_digit}
use Rattle.yaml_forms.{proofs.{Prelude.hex_value, JsonCharacters.for_letters}, specs.Json.{has_letter, json_char, json_chars, json_string}}
use Rattle.yaml_forms.specs.{Json.{json_member, json_text, more_elements, more_members, json_line}, JsonGrammar.{Character, unescaped}}
use Rattle.yaml_forms.specs.JsonGrammar.{escaped, numbered, character_text, character_fits, character_value, characters_text}
use Rattle.yaml_forms.specs.JsonGrammar.{characters_value, string_text, Value, string, empty_array, empty_object, array, object, Items}
use Rattle.yaml_forms.specs.JsonGrammar.{no_item, item, Pairs, no_pair, pair, named, value_text, items_text, pairs_text, pair_text}
use Rattle.yaml_forms.specs.JsonGrammar.{value_fits, items_fit, pairs_fit, pair_fits, MeansTree, MeanElements, MeanMembers, IsJsonOf}

-- ---- characters

-- the digits of a number below 0x10000
abbrev digits_of : ℕ → List ℕ
digits_of c = hex (c / 4096) ∷ hex (c / 256 % 16) ∷ hex (c / 16 % 16) ∷ hex (c % 16) ∷ []

-- how a character is written
abbrev character_of : ℕ → Character
character_of c =
    if (c == 34) || (c == 92) then escaped c
    else if shown c then unescaped c
    else if has_letter c then escaped (letter_escape c)
    else numbered (digits_of c)

-- it is spelled as that, fits, and means it
abbrev Writes : ℕ → List ℕ → Character → Type 0
Writes c spelled one = (character_text one ≡ spelled) × (character_fits one ≡ true) × (character_value one ≡ c)

-- a value by a condition, and another by the same
both_cond : {A B : Type 0} (b : Bool) (x y : A) (u v : B) (P : A → B → Type 0) → (b ≡ true → P x u) → (b ≡ false → P y v)
    → P (if b then x else y) (if b then u else v)
both_cond true x y u v P f g = f refl
both_cond false x y u v P f g = g refl

-- a quote or a backslash stands behind a backslash
quote_written : (c : ℕ) → (c == 34) || (c == 92) ≡ true → Writes c (92 ∷ c ∷ []) (escaped c)
quote_written c h = elim (or_cases _ _ h) [
  | inl e ↦ subst (λ x. Writes x (92 ∷ x ∷ []) (escaped x)) (sym (eqb-true c 34 e)) (refl, refl, refl)
  | inr e ↦ subst (λ x. Writes x (92 ∷ x ∷ []) (escaped x)) (sym (eqb-true c 92 e)) (refl, refl, refl)
]

-- a shown character stands as it is
itself_fits : (c : ℕ) → code_point c ≡ true → (c == 34) || (c == 92) ≡ false → shown c ≡ true
    → character_fits (unescaped c) ≡ true
itself_fits c t n s =
    let low : 0x20 ≤ c = shown_low c s in
    let high : c ≤ 0x10ffff = code_point_high c t in
    let other : (c == 34 ≡ false) × (c == 92 ≡ false) = or_parts _ _ n in
    elim (cases_lt c 34) [
      | inl h ↦ or_left _ _ (or_left _ _ (to_range 0x20 0x21 c low (omega (arith, h))))
      | inr h ↦ elim (cases_lt c 92) [
        | inl k ↦ or_left _ _ (or_right (in_range 0x20 0x21 c) _ (to_range 0x23 0x5b c (past c 34 h other.0) (omega (arith, k))))
        | inr k ↦ or_right (in_range 0x20 0x21 c || in_range 0x23 0x5b c) _ (to_range 0x5d 0x10ffff c (past c 92 k other.1) high)
      ]
    ]
  where
    past : (c d : ℕ) → d ≤ c → c == d ≡ false → suc d ≤ c
    past c d h e = elim (cases_lt d c) [
      | inl k ↦ k
      | inr k ↦ absurd (eqb-false c d e (omega (arith, h, k)))
    ]

-- the digits of a number stand behind `\u`
number_written : (c : ℕ) → code_point c ≡ true → c < 0x10000
    → Writes c (92 ∷ 117 ∷ digits_of c) (numbered (digits_of c))
number_written c t h =
    let quotes : Quotes c (number 117 (digits_of c)) = long_number c t h in
    let fit : (true ≡ true) × (list_all hex_digit (digits_of c) && code_point (hex_value 0 (digits_of c)) ≡ true) =
    (refl, quotes.0) in
    (refl, and_from _ _ refl (and_parts _ _ fit.1).0, quotes.1)

-- each character is written so
character_written : (c : ℕ) → code_point c ≡ true → Writes c (json_char c) (character_of c)
character_written c t =
    both_cond ((c == 34) || (c == 92)) _ _ _ _ (Writes c) (quote_written c) (λ n.
    both_cond (shown c) _ _ _ _ (Writes c) (λ s. (refl, itself_fits c t n s, refl)) (λ s.
    both_cond (has_letter c) _ _ _ _ (Writes c)
    (for_letters (λ x. Writes x (92 ∷ letter_escape x ∷ []) (escaped (letter_escape x)))
    (refl, refl, refl) (refl, refl, refl) (refl, refl, refl) (refl, refl, refl) (refl, refl, refl) c)
    (λ l. number_written c t (unshown_low c t s))))

-- ---- strings

abbrev characters_of : List ℕ → List Character
characters_of [] = []
characters_of (c ∷ cs) = character_of c ∷ characters_of cs

-- they are spelled as the text's, fit, and mean it
characters_written : (value : List ℕ) → IsText value → (characters_text (characters_of value) ≡ json_chars value)
    × (list_all character_fits (characters_of value) ≡ true) × (characters_value (characters_of value) ≡ value)
characters_written [] h = (refl, refl, refl)
characters_written (c ∷ cs) h =
    let p : (code_point c ≡ true) × (list_all code_point cs ≡ true) = and_parts _ _ h in
    let one : Writes c (json_char c) (character_of c) = character_written c p.0 in
    let more = characters_written cs p.1 in
    (rw (one.0, more.0) refl, and_from _ _ one.1 more.1, rw (one.2, more.2) refl)

string_spelled : (value : List ℕ) → IsText value → string_text (characters_of value) ≡ json_string value
string_spelled value h = rw ((characters_written value h).0) refl

-- ---- trees

abbrev mutual
  value_of : Tree → Value
  value_of (text value) = string (characters_of value)
  value_of (sequence no_element) = empty_array []
  value_of (sequence (element t ts)) = array [] (value_of t) (items_of ts)
  value_of (mapping no_member) = empty_object []
  value_of (mapping (member key t ms)) = object [] (named (characters_of key) [] [] (value_of t)) (pairs_of ms)

  items_of : Elements → Items
  items_of no_element = no_item []
  items_of (element t ts) = item [] [] (value_of t) (items_of ts)

  pairs_of : Members → Pairs
  pairs_of no_member = no_pair []
  pairs_of (member key t ms) = pair [] [] (named (characters_of key) [] [] (value_of t)) (pairs_of ms)

-- a member, if its value is spelled so
pair_spelled : (key : List ℕ) (t : Tree) (v : Value) → IsText key → value_text v ≡ json_text t
    → pair_text (named (characters_of key) [] [] v) ≡ json_member key (json_text t)
pair_spelled key t v h e =
    let name : List ℕ = string_text (characters_of key) in
    ap (λ x. x ++ (58 ∷ []) ++ [] ++ value_text v) (append-nil name)
    ∙ (ap (λ x. x ++ value_text v) (append-nil (name ++ (58 ∷ [])))
    ∙ (ap (λ x. x ++ (58 ∷ []) ++ value_text v) (string_spelled key h)
    ∙ ap (λ x. json_string key ++ (58 ∷ []) ++ x) e))

-- two texts, and a bracket behind them
behind : (one first other more : List ℕ) (bracket : ℕ) → one ≡ first → other ≡ more ++ (bracket ∷ [])
    → one ++ other ≡ (first ++ more) ++ (bracket ∷ [])
behind one first other more bracket e f = rw (e, f, append_assoc first more (bracket ∷ [])) refl

mutual
  value_spelled : (t : Tree) → IsTextTree t → value_text (value_of t) ≡ json_text t
  value_spelled (text value) h = string_spelled value h
  value_spelled (sequence no_element) h = refl
  value_spelled (sequence (element t ts)) h =
      ap (λ x. 91 ∷ x) (behind _ (json_text t) _ (more_elements ts) 93 (value_spelled t h.0) (items_spelled ts h.1))
  value_spelled (mapping no_member) h = refl
  value_spelled (mapping (member key t ms)) h =
      ap (λ x. 123 ∷ x) (behind _ (json_member key (json_text t)) _ (more_members ms) 125
      (pair_spelled key t (value_of t) h.0 (value_spelled t h.1)) (pairs_spelled ms h.2))

  -- further elements, and the closing bracket
  items_spelled : (ts : Elements) → AreTextElements ts → items_text (items_of ts) ≡ more_elements ts ++ (93 ∷ [])
  items_spelled no_element h = refl
  items_spelled (element t ts) h =
      ap (λ x. 44 ∷ x) (behind _ (json_text t) _ (more_elements ts) 93 (value_spelled t h.0) (items_spelled ts h.1))

  -- further members, and the closing bracket
  pairs_spelled : (ms : Members) → AreTextMembers ms → pairs_text (pairs_of ms) ≡ more_members ms ++ (125 ∷ [])
  pairs_spelled no_member h = refl
  pairs_spelled (member key t ms) h =
      ap (λ x. 44 ∷ x) (behind _ (json_member key (json_text t)) _ (more_members ms) 125
      (pair_spelled key t (value_of t) h.0 (value_spelled t h.1)) (pairs_spelled ms h.2))

-- a member fits, if its value does
pair_fitting : (key : List ℕ) (v : Value) → IsText key → value_fits v ≡ true
    → pair_fits (named (characters_of key) [] [] v) ≡ true
pair_fitting key v h e = and_from _ _ (and_from _ _ (and_from _ _ (characters_written key h).1 refl) refl) e

mutual
  value_fitting : (t : Tree) → IsTextTree t → value_fits (value_of t) ≡ true
  value_fitting (text value) h = (characters_written value h).1
  value_fitting (sequence no_element) h = refl
  value_fitting (sequence (element t ts)) h = and_from _ _ (value_fitting t h.0) (items_fitting ts h.1)
  value_fitting (mapping no_member) h = refl
  value_fitting (mapping (member key t ms)) h =
      and_from _ _ (pair_fitting key (value_of t) h.0 (value_fitting t h.1)) (pairs_fitting ms h.2)

  items_fitting : (ts : Elements) → AreTextElements ts → items_fit (items_of ts) ≡ true
  items_fitting no_element h = refl
  items_fitting (element t ts) h = and_from _ _ (value_fitting t h.0) (items_fitting ts h.1)

  pairs_fitting : (ms : Members) → AreTextMembers ms → pairs_fit (pairs_of ms) ≡ true
  pairs_fitting no_member h = refl
  pairs_fitting (member key t ms) h = and_from _ _ (pair_fitting key (value_of t) h.0 (value_fitting t h.1)) (pairs_fitting ms h.2)

mutual
  value_means : (t : Tree) → IsTextTree t → MeansTree (value_of t) t
  value_means (text value) h = (characters_written value h).2
  value_means (sequence no_element) h = tt
  value_means (sequence (element t ts)) h = (value_means t h.0, items_mean ts h.1)
  value_means (mapping no_member) h = tt
  value_means (mapping (member key t ms)) h =
      (((characters_written key h.0).2, value_means t h.1), pairs_mean ms h.2)

  items_mean : (ts : Elements) → AreTextElements ts → MeanElements (items_of ts) ts
  items_mean no_element h = tt
  items_mean (element t ts) h = (value_means t h.0, items_mean ts h.1)

  pairs_mean : (ms : Members) → AreTextMembers ms → MeanMembers (pairs_of ms) ms
  pairs_mean no_member h = tt
  pairs_mean (member key t ms) h = (((characters_written key h.0).2, value_means t h.1), pairs_mean ms h.2)

-- ---- the laws

pub json_is_json : (t : Tree) → IsTextTree t → IsJsonOf t (json_text t)
json_is_json t h = record {
  before = [];
  value = value_of t;
  after = [];
  blank = refl;
  fits = value_fitting t h;
  spelled = sym (append-nil (value_text (value_of t)) ∙ value_spelled t h);
  means = value_means t h;
}

pub json_line_is_json : (t : Tree) → IsTextTree t → IsJsonOf t (json_line t)
json_line_is_json t h = record {
  before = [];
  value = value_of t;
  after = 10 ∷ [];
  blank = refl;
  fits = value_fitting t h;
  spelled = ap (λ x. x ++ (10 ∷ [])) (sym (value_spelled t h));
  means = value_means t h;
}
