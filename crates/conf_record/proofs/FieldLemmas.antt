-- The fields of a mapping: numbers, keys and texts.
use Rattle.std.proofs.Common.{◌≡◌, refl, sym, ◌∙◌, ap, arith, ◌<◌, ◌^◌, ℕ, suc, ◌+◌, Bool, true, false, ◌&&◌, List, [], ◌∷◌, length, drop}
use Rattle.std.proofs.Common.{get_or, map, Option, Some, None, decimal, IsUtf8, bytes_eq, encode_utf8_all, Bor}
use Rattle.std.proofs.lemmas.Slice.Eq.{bytes_eq-Decides}
use Rattle.conf_record.proofs.Prelude.{encodes-IsAscii, chars, same_from_decides, IsAscii-decimal, drop_more, chars-IsAscii, encodes-chars}
use Rattle.conf_record.proofs.Prelude.{same_text, Pair, members_of, text_bytes, same_text-true, same_text-self}
use Rattle.conf_record.proofs.{RecordLemmas.number_from_digits-decimal, WrittenLemmas.number_spelled}
use Rattle.conf_record.specs.{RecordsRead.{number_from_digits, keys_are}, Reading.texts}

-- ---- numbers

-- the decimal text of a number gives that number
pub number_from_digits-is : (bs : List ℕ) (n : ℕ) → bs ≡ decimal n → n < 2 ^ 64 → number_from_digits (chars bs) ≡ Some n
number_from_digits-is bs n spelled small =
    ap number_from_digits (ap chars spelled ∙ chars-IsAscii (decimal n) (IsAscii-decimal n small))
    ∙ number_from_digits-decimal n (omega arith)

-- a text that is no number's decimal text gives none
pub number_from_digits-none : (bs : List ℕ) → IsUtf8 bs → ((n : ℕ) → bs ≡ decimal n → n < 2 ^ 64 → ⊥) → number_from_digits (chars bs) ≡ None
number_from_digits-none bs utf8 never = by (number_from_digits (chars bs)) refl
  where
    by : (o : Option ℕ) → o ≡ number_from_digits (chars bs) → o ≡ None
    by None e = refl
    by (Some n) e =
        let told = number_spelled bs n utf8 e in
        let small : n < 2 ^ 64 = omega (arith, told.0) in
        absurd (never n (told.1 ∙ encodes-IsAscii (decimal n) (IsAscii-decimal n small)) small)

-- ---- keys

both_false : (a b : Bool) → b ≡ false → (a && b) ≡ false
both_false true b e = e
both_false false b e = refl

-- a key as the code has it
abbrev pub Key : Type 0
Key = Bor (List ℕ)

-- a key for the places past the end of a list
abbrev pub blank : Key
blank = record { ref_ptr = (0, 0); now = [] }

module _ {K : Type 0} (f : K → List ℕ) where
  -- keys that are not as many as the pairs are not theirs
  pub keys_are-lengths : (ks : List K) (ps : List Pair) → (length ks ≡ length ps → ⊥) → keys_are (texts (map f ks)) (members_of ps) ≡ false
  keys_are-lengths [] [] differ = absurd (differ refl)
  keys_are-lengths [] (p ∷ ps) differ = refl
  keys_are-lengths (k ∷ ks) [] differ = refl
  keys_are-lengths (k ∷ ks) (p ∷ ps) differ =
      both_false (same_text (chars (text_bytes p.0)) (chars (f k))) _ (keys_are-lengths ks ps (λ same. differ (ap suc same)))

  module _ (ks : List K) (ps : List Pair) (i : ℕ) (k : K) (p : Pair) (below : i < length ks) (within : i < length ps) where
    here : keys_are (texts (map f (drop i ks))) (members_of (drop i ps))
        ≡ (same_text (chars (text_bytes (get_or ps i p).0)) (chars (f (get_or ks i k)))
        && keys_are (texts (map f (drop (i + 1) ks))) (members_of (drop (i + 1) ps)))
    here =
        ap (λ xs. keys_are (texts (map f xs)) (members_of (drop i ps))) (drop_more ks i k below)
        ∙ ap (λ xs. keys_are (texts (map f (get_or ks i k ∷ drop (i + 1) ks))) (members_of xs)) (drop_more ps i p within)

    pub keys_are-more : same_text (chars (text_bytes (get_or ps i p).0)) (chars (f (get_or ks i k))) ≡ true
        → keys_are (texts (map f (drop (i + 1) ks))) (members_of (drop (i + 1) ps))
        ≡ keys_are (texts (map f (drop i ks))) (members_of (drop i ps))
    keys_are-more same = sym (here ∙ ap (λ b. b && keys_are (texts (map f (drop (i + 1) ks))) (members_of (drop (i + 1) ps))) same)

    pub keys_are-other : same_text (chars (text_bytes (get_or ps i p).0)) (chars (f (get_or ks i k))) ≡ false
        → keys_are (texts (map f (drop i ks))) (members_of (drop i ps)) ≡ false
    keys_are-other differ = here ∙ ap (λ b. b && keys_are (texts (map f (drop (i + 1) ks))) (members_of (drop (i + 1) ps))) differ

-- ---- texts

-- texts are the same exactly if their bytes are
pub same_bytes : (a b : List ℕ) → IsUtf8 a → IsUtf8 b → bytes_eq a b ≡ same_text (chars a) (chars b)
same_bytes a b first second = same_from_decides _ _ (bytes_eq-Decides a b) (
  λ e. sym (encodes-chars a first) ∙ ap encode_utf8_all (same_text-true (chars a) (chars b) e) ∙ encodes-chars b second,
  λ e. ap (λ c. same_text (chars a) (chars c)) (sym e) ∙ same_text-self (chars a),
)

-- the same texts have the same bytes
pub bytes_same : (a b : List ℕ) → IsUtf8 a → IsUtf8 b → same_text (chars a) (chars b) ≡ true → a ≡ b
bytes_same a b first second e = sym (encodes-chars a first)
    ∙ ap encode_utf8_all (same_text-true (chars a) (chars b) e) ∙ encodes-chars b second

-- the same bytes are the same text
pub same_self : (a b : List ℕ) → a ≡ b → same_text (chars a) (chars b) ≡ true
same_self a b e = ap (λ c. same_text (chars a) (chars c)) (sym e) ∙ same_text-self (chars a)
