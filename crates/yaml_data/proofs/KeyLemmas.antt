-- The keys of a mapping, looked up one after another among those before.
use Rattle.std.proofs.Common.{◌≡◌, ℕ, Bool, true, false, not, ◌&&◌, ◌||◌, List, [], ◌∷◌, Bor, Ordering, Less, Equal, Greater, nat_cmp}
use Rattle.std.proofs.{Common.{is_eq, IsUtf8, encode_utf8_all, refl, sym, ap, ap₂, ◌∙◌}, lemmas.Map.Text.is_eq-slice_cmp}
use Rattle.std.{proofs.lemmas.Slice.Eq.bytes_eq-Decides, specs.{BTreeMap.is_at, BTreeSet.insert_key, Cmp.Lexicographic.slice_cmp}}
use Rattle.std.specs.Ordering.{match_ordering}
use Rattle.yaml_data.proofs.Prelude.{same_from_decides, encodes-chars, list_any, chars, bytes_eq, Members, no_member, member, has_key}
use Rattle.yaml_data.proofs.{Prelude.{distinct, members_distinct}, CharacterLemmas.same_text-Decides, TextLemmas.IsUtf8-text_bytes}
use Rattle.yaml_data.specs.{Seen.{Pair, members_of}, TextBytes.text_bytes, declared.text.Text.Text, Keys.{key_members, keys_differ}}
use Rattle.{yaml_data.specs.Keys.values_distinct, yaml_grammar.specs.Texts.same_text}

-- a key among those that were seen
abbrev pub Key : Type 0
Key = Bor (List ℕ)

-- the order of keys: that of their bytes
abbrev pub key_cmp : Key → Key → Ordering
key_cmp a b = slice_cmp nat_cmp a.now b.now

-- whether a text is among keys
abbrev pub is_seen : List ℕ → List Key → Bool
is_seen text [] = false
is_seen text (k ∷ ks) = same_text text k.now || is_seen text ks

-- no key of the pairs is among the keys
abbrev pub none_seen : {A : Type 0} → List Key → List (Text × A) → Bool
none_seen ks [] = true
none_seen ks (m ∷ ms) = not (is_seen (text_bytes m.0) ks) && none_seen ks ms

-- ---- texts are compared by bytes

compared : (a b : List ℕ) → is_eq (slice_cmp nat_cmp a b) ≡ same_text a b
compared a b = is_eq-slice_cmp a b ∙ same_from_decides _ _ (bytes_eq-Decides a b) (same_text-Decides a b)

-- a search in the set of keys finds a key exactly if it was seen
pub contains-is_seen : (k : Key) (ks : List Key) → list_any (is_at (key_cmp k)) ks ≡ is_seen k.now ks
contains-is_seen k [] = refl
contains-is_seen k (x ∷ xs) = ap₂ (λ a b. a || b) (compared k.now x.now) (contains-is_seen k xs)

pub same_bytes : (a b : List ℕ) → IsUtf8 a → IsUtf8 b → chars a ≡ chars b → a ≡ b
same_bytes a b utf8 utf8' e = sym (encodes-chars a utf8) ∙ ap encode_utf8_all e ∙ encodes-chars b utf8'

same_chars : (a b : List ℕ) → IsUtf8 a → IsUtf8 b → same_text (chars a) (chars b) ≡ same_text a b
same_chars a b utf8 utf8' =
    let decides = same_text-Decides (chars a) (chars b) in
    let by_bytes = same_text-Decides a b in
    same_from_decides (same_text (chars a) (chars b)) (same_text a b) decides
    (λ e. ap chars (by_bytes.0 e), λ e. by_bytes.1 (same_bytes a b utf8 utf8' e))

-- keys of the same bytes are the same text
pub same_key : (key other : List ℕ) → IsUtf8 key → IsUtf8 other → bytes_eq other key ≡ same_text (chars key) (chars other)
same_key key other utf8 utf8' =
    let decides = same_text-Decides (chars key) (chars other) in
    same_from_decides _ _ (bytes_eq-Decides other key)
    (λ t. same_bytes other key utf8' utf8 (sym (decides.0 t)), λ e. decides.1 (ap chars (sym e)))

either_way : (a b : List ℕ) → same_text a b ≡ same_text b a
either_way a b =
    let decides = same_text-Decides b a in
    same_from_decides (same_text a b) (same_text b a) (same_text-Decides a b) (λ e. sym (decides.0 e), λ e. decides.1 (sym e))

-- ---- a key more

or_twice : (b c : Bool) → (b || c) ≡ (b || (b || c))
or_twice true c = refl
or_twice false c = refl

or_turn : (a b c : Bool) → (a || (b || c)) ≡ (b || (a || c))
or_turn true true c = refl
or_turn true false c = refl
or_turn false b c = refl

-- where the two keys are equal, either shows the text
seen_at : (o : Ordering) (q : List ℕ) (k x : Key) (xs more : List Key) → key_cmp k x ≡ o
    → is_seen q more ≡ (same_text q k.now || is_seen q xs)
    → is_seen q (match_ordering o (k ∷ x ∷ xs) (x ∷ xs) (x ∷ more)) ≡ (same_text q k.now || is_seen q (x ∷ xs))
seen_at Less q k x xs more e later = refl
seen_at Equal q k x xs more e later =
    let same : k.now ≡ x.now = (same_text-Decides k.now x.now).0 (sym (compared k.now x.now) ∙ ap is_eq e) in
    or_twice (same_text q x.now) (is_seen q xs) ∙ ap (λ t. same_text q t || (same_text q x.now || is_seen q xs)) (sym same)
seen_at Greater q k x xs more e later =
    ap (λ b. same_text q x.now || b) later ∙ or_turn (same_text q x.now) (same_text q k.now) (is_seen q xs)

-- what was seen after one more key is inserted
pub is_seen-insert : (q : List ℕ) (ks : List Key) (k : Key) → is_seen q (insert_key key_cmp ks k) ≡ (same_text q k.now || is_seen q ks)
is_seen-insert q [] k = refl
is_seen-insert q (x ∷ xs) k = seen_at (key_cmp k x) q k x xs _ refl (is_seen-insert q xs k)

-- ---- the pairs that are left

part_apart : (a b n h : Bool) → (not (a || b) && (n && not h)) ≡ (not b && n && not (a || h))
part_apart true true n h = refl
part_apart true false true h = refl
part_apart true false false h = refl
part_apart false true n h = refl
part_apart false false n h = refl

-- none is among the keys with k, just where none is among the keys and none is k
none_seen-insert : {A : Type 0} (k : Key) (ks : List Key) (ms : List (Text × A)) → IsUtf8 k.now
    → none_seen (insert_key key_cmp ks k) ms ≡ (none_seen ks ms && not (has_key (chars k.now) (key_members ms)))
none_seen-insert k ks [] utf8 = refl
none_seen-insert k ks (m ∷ ms) utf8 =
    let q = text_bytes m.0 in
    let h = has_key (chars k.now) (key_members ms) in
    ap₂ (λ a b. not a && b) (is_seen-insert q ks k) (none_seen-insert k ks ms utf8)
    ∙ part_apart (same_text q k.now) (is_seen q ks) (none_seen ks ms) h
    ∙ ap (λ a. not (is_seen q ks) && none_seen ks ms && not (a || h))
    (either_way q k.now ∙ sym (same_chars k.now q utf8 (IsUtf8-text_bytes m.0)))

and_assoc : (a b c : Bool) → (a && (b && c)) ≡ (a && b && c)
and_assoc true b c = refl
and_assoc false b c = refl

-- a key that was seen before
pub clear_seen : {A : Type 0} (k : Key) (ks : List Key) (m : Text × A) (ms : List (Text × A)) → k.now ≡ text_bytes m.0
    → is_seen k.now ks ≡ true
    → (none_seen ks (m ∷ ms) && keys_differ (key_members (m ∷ ms))) ≡ false
clear_seen k ks m ms e seen = rw (← e, seen) refl

-- and one that was not
pub clear_new : {A : Type 0} (k : Key) (ks : List Key) (m : Text × A) (ms : List (Text × A)) → IsUtf8 k.now
    → k.now ≡ text_bytes m.0 → is_seen k.now ks ≡ false
    → (none_seen (insert_key key_cmp ks k) ms && keys_differ (key_members ms))
    ≡ (none_seen ks (m ∷ ms) && keys_differ (key_members (m ∷ ms)))
clear_new k ks m ms utf8 e new =
    ap (λ a. a && keys_differ (key_members ms)) (none_seen-insert k ks ms utf8)
    ∙ sym (and_assoc (none_seen ks ms) (not (has_key (chars k.now) (key_members ms))) (keys_differ (key_members ms)))
    ∙ ap₂ (λ a t. (not a && none_seen ks ms) && (not (has_key (chars t) (key_members ms)) && keys_differ (key_members ms)))
    (sym new ∙ ap (λ t. is_seen t ks) e) e

-- no key of a mapping is among no keys
pub none_seen-nil : {A : Type 0} (ms : List (Text × A)) → none_seen [] ms ≡ true
none_seen-nil [] = refl
none_seen-nil (m ∷ ms) = none_seen-nil ms

-- ---- keys and values

-- whether keys differ doesn't go by the values
has_key-pairs : (key : List ℕ) (ms : List Pair) → has_key key (key_members ms) ≡ has_key key (members_of ms)
has_key-pairs key [] = refl
has_key-pairs key (m ∷ ms) = ap (λ b. same_text key (chars (text_bytes m.0)) || b) (has_key-pairs key ms)

pub keys_differ-pairs : (ms : List Pair) → keys_differ (key_members ms) ≡ keys_differ (members_of ms)
keys_differ-pairs [] = refl
keys_differ-pairs (m ∷ ms) = ap₂ (λ a b. not a && b) (has_key-pairs (chars (text_bytes m.0)) ms) (keys_differ-pairs ms)

and_swap : (a b c d : Bool) → (a && b && (c && d)) ≡ (a && c && (b && d))
and_swap true true c d = refl
and_swap true false true d = refl
and_swap true false false d = refl
and_swap false b c d = refl

-- a mapping's keys differ, and so do those in its values
pub members_distinct-parts : (ms : Members) → members_distinct ms ≡ (keys_differ ms && values_distinct ms)
members_distinct-parts no_member = refl
members_distinct-parts (member key t ms) =
    ap (λ b. not (has_key key ms) && distinct t && b) (members_distinct-parts ms)
    ∙ and_swap (not (has_key key ms)) (distinct t) (keys_differ ms) (values_distinct ms)
