-- Parts of a base that wait, and the texts that are made early.
use Rattle.std.proofs.Common.{◌≡◌, ◌≤◌, ◌<◌, ◌==◌, ◌⊎◌, inl, inr, suc, ℕ, ◌+◌, max, Bool, true, false, cond, List, [], ◌∷◌, ◌++◌, length}
use Rattle.std.proofs.Common.{map, take, get_or, Option, Some, None, Result, Ok, Err, OnOk, OnErr, not, ◌&&◌, ◌||◌, option_map, unwrap_or}
use Rattle.std.proofs.Common.{IsSome, is_some, bytes_eq, string_bytes, String, Global, IsUtf8, encode_utf8_all, refl, sym, ap, ◌∙◌, subst}
use Rattle.std.{proofs.{Common.{append_assoc, append-nil, arith}, lemmas.Slice.Eq.bytes_eq-Decides}, specs.Map.lookup}
use Rattle.conf_store.proofs.Prelude.{false≢true, eqb-true, IsUtf8-string_bytes, get_by_text, chars, byte_len, same_text, byte_len-encoded}
use Rattle.conf_store.proofs.Prelude.{same_text-true, same_text-self, nat_tests, map_more, map-append, Command, edit_of, name_of, text_of}
use Rattle.conf_store.proofs.Prelude.{lines_if_there, entry_named, Entry, Contents, has_name, names_differ, step, touched, Room}
use Rattle.conf_store.specs.{Early.{AreApart, IsApart, Texts, part_of, parts_of}, Parts.{Part, parts_named, part_bytes, texts, joined}}
use Rattle.{conf_store.specs.Parts.{AreWithin, IsMade, AreMade}, conf_state.specs.declared.command.Edit.Edit as CodeEdit}
use Rattle.conf_state.proofs.{EntryLemmas.same_key, TouchedLemmas.{IsNoneOf, step-other}}

-- ---- names that differ, of a state

pub no-name : (name n : List ℕ) (ns : List (List ℕ)) → has_name name (n ∷ ns) ≡ false
    → (same_text name n ≡ false) × (has_name name ns ≡ false)
no-name name n ns e = by (same_text name n) (has_name name ns) refl refl e
  where
    by : (b c : Bool) → same_text name n ≡ b → has_name name ns ≡ c → (b || c) ≡ false
        → (same_text name n ≡ false) × (has_name name ns ≡ false)
    by true c here rest is = absurd (false≢true (sym is))
    by false c here rest is = (here, rest ∙ is)

pub differ-names : (n : List ℕ) (ns : List (List ℕ)) → names_differ (n ∷ ns) ≡ true → (has_name n ns ≡ false) × (names_differ ns ≡ true)
differ-names n ns d = by (has_name n ns) (names_differ ns) refl refl d
  where
    by : (b c : Bool) → has_name n ns ≡ b → names_differ ns ≡ c → (not b && c) ≡ true → (has_name n ns ≡ false) × (names_differ ns ≡ true)
    by true c here rest is = absurd (false≢true is)
    by false c here rest is = (here, rest ∙ is)

-- ---- names

abbrev pub texts_of : List (String Global) → List (List ℕ)
texts_of [] = []
texts_of (name ∷ names) = text_of name ∷ texts_of names

pub texts_of-more : (names : List (String Global)) (name : String Global)
    → texts_of (names ++ name ∷ []) ≡ texts_of names ++ text_of name ∷ []
texts_of-more [] name = refl
texts_of-more (n ∷ ns) name = ap (λ ts. text_of n ∷ ts) (texts_of-more ns name)

-- each turn moves one name from those that are left to those that were read
pub names-more : (names new : List (String Global)) (name : String Global) (old rest : List (List ℕ)) (text : List ℕ) (all : List (List ℕ))
    → new ≡ names ++ name ∷ [] → text_of name ≡ text → old ≡ text ∷ rest → texts_of names ++ old ≡ all → texts_of new ++ rest ≡ all
names-more names new name old rest text all pushed is steps before =
    ap (λ ns. texts_of ns ++ rest) pushed ∙ ap (λ ts. ts ++ rest) (texts_of-more names name)
    ∙ append_assoc (texts_of names) (text_of name ∷ []) rest ∙ ap (λ t. texts_of names ++ t ∷ rest) is
    ∙ ap (λ ts. texts_of names ++ ts) (sym steps) ∙ before

pub names-all : (names : List (String Global)) (rest all : List (List ℕ)) → rest ≡ [] → texts_of names ++ rest ≡ all → texts_of names ≡ all
names-all names rest all none is = sym (append-nil (texts_of names)) ∙ ap (λ ts. texts_of names ++ ts) (sym none) ∙ is

-- where nothing is made early
pub parts-named : (early : Texts) → early.entries ≡ [] → (names : List (String Global))
    → parts_of early names ≡ parts_named (texts_of names)
parts-named early none [] = refl
parts-named early none (name ∷ names) =
    ap (λ es. (text_of name, option_map string_bytes (lookup (λ k. bytes_eq (string_bytes name) (string_bytes k)) es))
    ∷ parts_of early names) none
    ∙ ap (λ ps. (text_of name, None) ∷ ps) (parts-named early none names)

-- ---- the longest

pub AreWithin-more : (room more : ℕ) → room ≤ more → (ts : List (List ℕ)) → AreWithin room ts → AreWithin more ts
AreWithin-more room more wider [] within = tt
AreWithin-more room more wider (t ∷ ts) within =
    (let one = within.0 in omega (arith, one, wider), AreWithin-more room more wider ts within.1)

longer : (configs : List Entry) (room more : ℕ) (names : List (List ℕ)) (name : List ℕ) → room ≤ more
    → byte_len (entry_named configs name) ≤ more
    → AreWithin room (texts configs (parts_named names)) → AreWithin more (texts configs (parts_named (names ++ name ∷ [])))
longer configs room more [] name wider fits within =
    (let same = byte_len-encoded (entry_named configs name) in omega (arith, fits, same), tt)
longer configs room more (n ∷ ns) name wider fits within =
    (let one = within.0 in omega (arith, one, wider), longer configs room more ns name wider fits within.1)

-- with one more name
pub within-more : (configs : List Entry) (room more : ℕ) (names new : List (String Global)) (name : String Global) (text : List ℕ) (n : ℕ)
    → new ≡ names ++ name ∷ [] → text_of name ≡ text → n ≡ byte_len (entry_named configs text) → more ≡ max n room
    → AreWithin room (texts configs (parts_named (texts_of names))) → AreWithin more (texts configs (parts_named (texts_of new)))
within-more configs room more names new name text n pushed is long most within =
    let named : texts_of new ≡ texts_of names ++ text ∷ [] = ap texts_of pushed ∙ texts_of-more names name
    ∙ ap (λ t. texts_of names ++ t ∷ []) is in
    subst (λ ns. AreWithin more (texts configs (parts_named ns))) (sym named)
    (longer configs room more (texts_of names) text (omega (arith, most)) (omega (arith, most, long)) within)

-- ---- a text that is made early

-- the map has the same entries
pub parts-unchanged : (early new : Texts) → new.entries ≡ early.entries → (names : List (String Global))
    → parts_of new names ≡ parts_of early names
parts-unchanged early new same [] = refl
parts-unchanged early new same (name ∷ names) =
    ap (λ es. (text_of name, option_map string_bytes (lookup (λ k. bytes_eq (string_bytes name) (string_bytes k)) es))
    ∷ parts_of new names) same
    ∙ ap (λ ps. part_of early name ∷ ps) (parts-unchanged early new same names)

-- where the texts have the same bytes
same-bytes : (q k : List ℕ) → bytes_eq q k ≡ true → q ≡ k
same-bytes q k e = (bytes_eq-Decides q k).0 e

module _ (early new : Texts) (key t : String Global)
    (updates : (q : String Global) → get_by_text new (string_bytes q)
    ≡ cond (bytes_eq (string_bytes key) (string_bytes q)) (Some t) (get_by_text early (string_bytes q))) where
  -- what has the key's bytes has the text
  updated : (q : String Global) → bytes_eq (string_bytes key) (string_bytes q) ≡ true → get_by_text new (string_bytes q) ≡ Some t
  updated q e = updates q ∙ ap (λ b. cond b (Some t) (get_by_text early (string_bytes q))) e

  other : (q : String Global) → bytes_eq (string_bytes key) (string_bytes q) ≡ false
      → get_by_text new (string_bytes q) ≡ get_by_text early (string_bytes q)
  other q e = updates q ∙ ap (λ b. cond b (Some t) (get_by_text early (string_bytes q))) e

  module _ (configs : List Entry) (absent : get_by_text early (string_bytes key) ≡ None)
      (made : string_bytes t ≡ encode_utf8_all (entry_named configs (text_of key))) where
    part-same : (q : String Global) (b : Bool) → bytes_eq (string_bytes key) (string_bytes q) ≡ b
        → part_bytes configs (part_of new q) ≡ part_bytes configs (part_of early q)
    part-same q true e =
        let same = same-bytes (string_bytes key) (string_bytes q) e in
        let none : get_by_text early (string_bytes q) ≡ None = ap (get_by_text early) (sym same) ∙ absent in
        let default = encode_utf8_all (entry_named configs (text_of q)) in
        ap (λ o. unwrap_or (option_map string_bytes o) default) (updated q e) ∙ made
        ∙ ap (λ bs. encode_utf8_all (entry_named configs (chars bs))) same
        ∙ ap (λ o. unwrap_or (option_map string_bytes o) default) (sym none)
    part-same q false e = ap (λ o. unwrap_or (option_map string_bytes o) (encode_utf8_all (entry_named configs (text_of q)))) (other q e)

    -- the texts are the same
    pub early-same : (names : List (String Global)) → texts configs (parts_of new names) ≡ texts configs (parts_of early names)
    early-same [] = refl
    early-same (q ∷ qs) =
        ap (λ t. t ∷ texts configs (parts_of new qs)) (part-same q (bytes_eq (string_bytes key) (string_bytes q)) refl)
        ∙ ap (λ ts. part_bytes configs (part_of early q) ∷ ts) (early-same qs)

  stays-there : (q : String Global) (b : Bool) → bytes_eq (string_bytes key) (string_bytes q) ≡ b
      → IsSome (option_map string_bytes (get_by_text early (string_bytes q)))
      → IsSome (option_map string_bytes (get_by_text new (string_bytes q)))
  stays-there q true e there = ap (λ o. is_some (option_map string_bytes o)) (updated q e)
  stays-there q false e there = ap (λ o. is_some (option_map string_bytes o)) (other q e) ∙ there

  -- what was made is made still
  pub early-stays : (name : List ℕ) (names : List (String Global)) → IsMade name (parts_of early names) → IsMade name (parts_of new names)
  early-stays name [] made = tt
  early-stays name (q ∷ qs) made = (
    λ same. stays-there q (bytes_eq (string_bytes key) (string_bytes q)) refl
        (made.0 same),
    early-stays name qs made.1,
  )

-- where the map has a text of this name
pub there-made : (early : Texts) (name : List ℕ) → IsUtf8 name → is_some (get_by_text early name) ≡ true
    → (names : List (String Global)) → IsMade (chars name) (parts_of early names)
there-made early name utf8 there [] = tt
there-made early name utf8 there (q ∷ qs) = (
  λ same. (
      let bytes = same-bytes name (string_bytes q) (same_key name (string_bytes q) utf8 (IsUtf8-string_bytes q) ∙ same) in
      mapped (get_by_text early (string_bytes q)) (ap (λ bs. is_some (get_by_text early bs)) (sym bytes) ∙ there)
      ),
  there-made early name utf8 there qs,
)
  where
    mapped : (o : Option (String Global)) → is_some o ≡ true → IsSome (option_map string_bytes o)
    mapped (Some x) e = refl
    mapped None e = absurd (false≢true e)

-- ---- names that are made, one after the other

pub AreMade-more : (names : List (List ℕ)) (name : List ℕ) (ps : List Part) → AreMade names ps → IsMade name ps
    → AreMade (names ++ name ∷ []) ps
AreMade-more [] name ps all one = (one, tt)
AreMade-more (n ∷ ns) name ps all one = (all.0, AreMade-more ns name ps all.1 one)

pub AreMade-stays : (names : List (List ℕ)) (old new : List Part)
    → ((name : List ℕ) → IsMade name old → IsMade name new) → AreMade names old → AreMade names new
AreMade-stays [] old new stays all = tt
AreMade-stays (n ∷ ns) old new stays all = (stays n all.0, AreMade-stays ns old new stays all.1)

-- ---- a command leaves the texts as they are

differ : (n m : List ℕ) → (same_text m n ≡ true → ⊥) → same_text n m ≡ false
differ n m other = by (same_text n m) refl
  where
    by : (b : Bool) → same_text n m ≡ b → b ≡ false
    by false e = refl
    by true e = absurd (other (ap (λ t. same_text m t) (same_text-true n m e) ∙ same_text-self m))

none-of : (names : List (List ℕ)) (n : List ℕ) (ps : List Part) → AreMade names ((n, None) ∷ ps) → IsNoneOf n names
none-of [] n ps made = tt
none-of (m ∷ ms) n ps made = (differ n m (λ same. false≢true (made.0.0 same)), none-of ms n ps made.1)

tails : (names : List (List ℕ)) (p : Part) (ps : List Part) → AreMade names (p ∷ ps) → AreMade names ps
tails [] p ps made = tt
tails (n ∷ ns) p ps made = (made.0.1, tails ns p ps made.1)

pub texts-step : (s new : Contents) (command : Command) (room : Room) → step s command room ≡ Ok new
    → (ps : List Part) → AreMade (touched command) ps → texts new.configs ps ≡ texts s.configs ps
texts-step s new command room ok [] made = refl
texts-step s new command room ok ((n, Some t) ∷ ps) made =
    ap (λ ts. t ∷ ts) (texts-step s new command room ok ps (tails (touched command) (n, Some t) ps made))
texts-step s new command room ok ((n, None) ∷ ps) made =
    let same = step-other n s new command room (none-of (touched command) n ps made) ok in
    ap (λ found. encode_utf8_all (lines_if_there n found) ∷ texts new.configs ps) same
    ∙ ap (λ ts. encode_utf8_all (entry_named s.configs n) ∷ ts)
    (texts-step s new command room ok ps (tails (touched command) (n, None) ps made))

-- ---- one text

absent-from : (o : Option (String Global)) → is_some o ≡ false → o ≡ None
absent-from None e = refl
absent-from (Some t) e = absurd (false≢true (sym e))

-- a name that has no text yet
pub absent-name : (early : Texts) (key : String Global) (name : List ℕ) → string_bytes key ≡ name
    → is_some (get_by_text early name) ≡ false → get_by_text early (string_bytes key) ≡ None
absent-name early key name is none = ap (get_by_text early) is ∙ absent-from (get_by_text early name) none

-- the text of a configuration as it is written
pub text-made : (configs : List Entry) (key t : String Global) (name before : List ℕ) → string_bytes key ≡ name
    → before ≡ [] → string_bytes t ≡ before ++ encode_utf8_all (entry_named configs (chars name))
    → string_bytes t ≡ encode_utf8_all (entry_named configs (text_of key))
text-made configs key t name before is none written =
    written ∙ ap (λ bs. bs ++ encode_utf8_all (entry_named configs (chars name))) none
    ∙ ap (λ bs. encode_utf8_all (entry_named configs (chars bs))) (sym is)

-- what was just put in is there
pub key-there : (new : Texts) (key t : String Global) (old : Option (String Global)) (name : List ℕ) → string_bytes key ≡ name
    → get_by_text new (string_bytes key) ≡ cond (bytes_eq (string_bytes key) (string_bytes key)) (Some t) old
    → is_some (get_by_text new name) ≡ true
key-there new key t old name is updates =
    ap (λ bs. is_some (get_by_text new bs)) (sym is)
    ∙ ap is_some (updates ∙ ap (λ b. cond b (Some t) old) ((bytes_eq-Decides (string_bytes key) (string_bytes key)).1 refl))

-- ---- the first part

pub length-parts : (early : Texts) (names : List (String Global)) → length (parts_of early names) ≡ length names
length-parts early [] = refl
length-parts early (name ∷ names) = ap (λ n. suc n) (length-parts early names)

module _ (configs : List Entry) (p : Part) (old new : List Part) (first : old ≡ p ∷ new) where
  pub first-within : (room : ℕ) → AreWithin room (texts configs old) → length (part_bytes configs p) ≤ room
  first-within room within = (subst (λ ps. AreWithin room (texts configs ps)) first within).0

  pub others-within : (room more : ℕ) → room ≤ more → AreWithin room (texts configs old) → AreWithin more (texts configs new)
  others-within room more wider within = AreWithin-more room more wider (texts configs new)
      (subst (λ ps. AreWithin room (texts configs ps)) first within).1

  pub first-joined : (rest : List ℕ) → rest ≡ part_bytes configs p → rest ++ joined (texts configs new) ≡ joined (texts configs old)
  first-joined rest is = ap (λ bs. bs ++ joined (texts configs new)) is ∙ sym (ap (λ ps. joined (texts configs ps)) first)

-- ---- parts that are cut

pub loop-same : (slice rest mid_slice mid new_slice new_rest after before : List ℕ) → rest ≡ [] → mid_slice ≡ slice
    → mid ++ after ≡ before → new_slice ++ new_rest ≡ mid_slice ++ mid
    → new_slice ++ new_rest ++ after ≡ slice ++ rest ++ before
loop-same slice rest mid_slice mid new_slice new_rest after before none same loaded cut =
    ap (λ bs. bs ++ after) (cut ∙ ap (λ bs. bs ++ mid) same) ∙ append_assoc slice mid after ∙ ap (λ bs. slice ++ bs) loaded
    ∙ ap (λ bs. bs ++ before) (sym (append-nil slice)) ∙ ap (λ bs. slice ++ bs ++ before) (sym none)

-- where a slice is not full, nothing is left of the part at hand
pub none-left : (n : ℕ) (limit : ℕ) (rest : List ℕ) → (n ≡ limit → ⊥) → (n ≡ limit) ⊎ (rest ≡ []) → rest ≡ []
none-left n limit rest short (inl full) = absurd (short full)
none-left n limit rest short (inr none) = none

-- ---- the edits of a batch

pub names-taken : (edits : List CodeEdit) (i : ℕ) (edit : CodeEdit) → i < length edits → edit ≡ get_or edits i edit
    → map name_of (map edit_of (take (i + 1) edits)) ≡ map name_of (map edit_of (take i edits)) ++ name_of (edit_of edit) ∷ []
names-taken edits i edit within is =
    ap (map name_of) (map_more edit_of edits i edit within ∙ ap (λ e. map edit_of (take i edits) ++ edit_of e ∷ []) (sym is))
    ∙ map-append name_of (map edit_of (take i edits)) (edit_of edit ∷ [])

-- ---- how many wait

pub some-parts : (early : Texts) (names : List (String Global)) (n : ℕ) → n ≡ length names → (n == 0) ≡ false
    → 0 < length (parts_of early names)
some-parts early names n is other =
    let size = length-parts early names in
    let more : 0 < n = grind (arith, nat_tests, other) in
    omega (arith, size, is, more)

pub no-parts : (early : Texts) (names : List (String Global)) (n : ℕ) → n ≡ length names → (n == 0) ≡ true → parts_of early names ≡ []
no-parts early [] n is none = refl
no-parts early (name ∷ names) n is none = absurd (let zero = eqb-true n 0 none in omega (arith, is, zero))

-- one waits at least
pub some-names : (early : Texts) (names : List (String Global)) → 0 < length (parts_of early names) → 0 < length names
some-names early names some = (let size = length-parts early names in omega (arith, size, some))

-- ---- names that differ

-- names that are the state's differ
pub apart-names : (names : List (String Global)) (all : List (List ℕ)) → texts_of names ≡ all → names_differ all ≡ true → AreApart names
apart-names names all is differ = apart names (ap names_differ is ∙ differ)
  where
    one : (name : String Global) (names : List (String Global)) → has_name (text_of name) (texts_of names) ≡ false → IsApart name names
    one name [] new = tt
    one name (n ∷ ns) new =
        let parts = no-name (text_of name) (text_of n) (texts_of ns) new in (
          same_key (string_bytes name) (string_bytes n) (IsUtf8-string_bytes name) (IsUtf8-string_bytes n) ∙ parts.0,
          one name ns parts.1,
        )

    apart : (names : List (String Global)) → names_differ (texts_of names) ≡ true → AreApart names
    apart [] d = tt
    apart (n ∷ ns) d = (let parts = differ-names (text_of n) (texts_of ns) d in (one n ns parts.0, apart ns parts.1))

-- what is put in under another name changes none of these
apart-same : (early new : Texts) (key t : String Global)
    → ((q : String Global) → get_by_text new (string_bytes q)
    ≡ cond (bytes_eq (string_bytes key) (string_bytes q)) (Some t) (get_by_text early (string_bytes q)))
    → (names : List (String Global)) → IsApart key names → parts_of new names ≡ parts_of early names
apart-same early new key t updates [] apart = refl
apart-same early new key t updates (q ∷ qs) apart =
    ap (λ o. (text_of q, option_map string_bytes o) ∷ parts_of new qs) (other early new key t updates q apart.0)
    ∙ ap (λ ps. part_of early q ∷ ps) (apart-same early new key t updates qs apart.1)

pub marked-parts : {A E : Type 0} (early new : Texts) (key t : String Global) (r : Result A E)
    → OnOk r ((q : String Global) → get_by_text new (string_bytes q)
    ≡ cond (bytes_eq (string_bytes key) (string_bytes q)) (Some t) (get_by_text early (string_bytes q)))
    → OnErr r (new.entries ≡ early.entries) → (names : List (String Global)) → IsApart key names → parts_of new names ≡ parts_of early names
marked-parts early new key t (Err e) updates same names apart = parts-unchanged early new same names
marked-parts early new key t (Ok x) updates same names apart = apart-same early new key t updates names apart

pub one-fewer : (old new : List Part) (p : Part) → old ≡ p ∷ new → length new + 1 ≡ length old
one-fewer old new p e = (let size = ap length e in omega (arith, size))
