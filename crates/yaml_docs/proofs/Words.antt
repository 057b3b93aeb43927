-- Words of ASCII characters at a place of a text.
use Rattle.std.{proofs.Common.{ap, arith, inl, inr, length, refl, sym, ◌∙◌, ◌≡◌}, specs.Prelude.{Bool, List, [], drop, nat_lt, suc, true}}
use Rattle.std.specs.Prelude.{zero, ℕ, ◌++◌, ◌==◌, ◌∷◌}
use Rattle.yaml_docs.proofs.Prelude.{IsAscii, IsUtf8, chars, and_from, and_parts, cases_Bool, false≢true, ltb-true, IsUtf8-from_ascii}
use Rattle.yaml_docs.proofs.Prelude.{chars-IsAscii, chars-append, encodes-IsAscii, encodes-append, encodes-chars, list_all, begins}
use Rattle.yaml_docs.proofs.Prelude.{begins_split}
use lib.Utf8.{encodes}

-- a word of characters below 128 is ASCII
pub is_ascii : (word : List ℕ) → list_all (λ c. nat_lt c 128) word ≡ true → IsAscii word
is_ascii [] h i = omega arith
is_ascii (w ∷ ws) h zero = ltb-true w 128 (and_parts _ _ h).0
is_ascii (w ∷ ws) h (suc i) = is_ascii ws (and_parts _ _ h).1 i

same_char : (c : ℕ) → (c == c) ≡ true
same_char c = grind arith

begins_itself : (word after : List ℕ) → begins word (word ++ after) ≡ true
begins_itself [] after = refl
begins_itself (w ∷ ws) after = and_from _ _ (same_char w) (begins_itself ws after)

-- The bytes begin with the word exactly where the characters do.
pub word_begins : (bs word : List ℕ) (r : Bool) → IsUtf8 bs → list_all (λ c. nat_lt c 128) word ≡ true
    → (r ≡ true → bs ≡ word ++ drop (length word) bs)
    → ((after : List ℕ) → bs ≡ word ++ after → r ≡ true) → r ≡ begins word (chars bs)
word_begins bs word r u a there back = elim (cases_Bool r) [
  | inl t ↦ (let e : chars bs ≡ word ++ chars (drop (length word) bs) =
      ap chars (there t) ∙ (chars-append word (drop (length word) bs) (IsUtf8-from_ascii word ascii)
      ∙ ap (λ x. x ++ chars (drop (length word) bs)) (chars-IsAscii word ascii)) in
      t ∙ sym (ap (begins word) e ∙ begins_itself word (chars (drop (length word) bs))))
  | inr f ↦ elim (cases_Bool (begins word (chars bs))) [
    | inl b ↦ (let e : chars bs ≡ word ++ drop (length word) (chars bs) = begins_split word (chars bs) b in
        let bytes : bs ≡ word ++ encodes (drop (length word) (chars bs)) =
        sym (encodes-chars bs u) ∙ (ap encodes e ∙ (encodes-append word (drop (length word) (chars bs))
        ∙ ap (λ x. x ++ encodes (drop (length word) (chars bs))) (encodes-IsAscii word ascii))) in
        absurd (false≢true (sym f ∙ back (encodes (drop (length word) (chars bs))) bytes)))
    | inr b ↦ f ∙ sym b
  ]
]
  where
    ascii : IsAscii word
    ascii = is_ascii word a
