-- The place after a byte order mark at the start of a text.
use Rattle.std.{proofs.Common.{ap, arith, inl, inr, refl, subst, sym, ◌∙◌, ◌≡◌}, specs.Prelude.{List, None, Option, Some, [], false, true}}
use Rattle.std.specs.Prelude.{ℕ, ◌==◌, ◌∷◌}
use Rattle.yaml_docs.proofs.Prelude.{IsUtf8, chars, cases_Bool, eqb-true, IsCharBoundary-start, rest, first, starts_line, without_mark}
use Rattle.yaml_docs.proofs.Prelude.{Section, sections_at, order_mark, with_mark, stream_steps, starts_at_beginning}
use Rattle.yaml_docs.{proofs.TextPlaces.{StandsUpTo, place_after}, specs.{Documents.IsMarkEnd, Sections.{flat_meaning, sections_meaning}}}
use Rattle.yaml_docs.specs.Sections.{stream_meaning}

unmarked_meaning : (ps : Option (List Section)) → flat_meaning (with_mark false ps) ≡ sections_meaning 0 ps
unmarked_meaning None = refl
unmarked_meaning (Some ps) = refl

marked_meaning : (ps : Option (List Section)) → flat_meaning (with_mark true ps) ≡ sections_meaning 3 ps
marked_meaning None = refl
marked_meaning (Some ps) = refl

-- without a byte order mark the text starts at 0
pub no_mark : (bs : List ℕ) → IsUtf8 bs → first order_mark (rest bs 0) ≡ false → IsMarkEnd bs 0
no_mark bs u h =
    record {
      boundary = IsCharBoundary-start bs u;
      starts = inl (sym (starts_at_beginning bs 0 refl));
      unmarked = inr h;
      reads = ap flat_meaning (stream_steps (chars bs) ∙ rw h refl) ∙ unmarked_meaning (sections_at true true (chars bs));
    }

-- so does the empty text
pub empty_text : (bs : List ℕ) → IsUtf8 bs → rest bs 0 ≡ [] → IsMarkEnd bs 0
empty_text bs u e = no_mark bs u (ap (first order_mark) e)

-- so does a text that starts with another character
pub other_prefix : (bs : List ℕ) (character : ℕ) (after : List ℕ) → IsUtf8 bs → rest bs 0 ≡ character ∷ after
    → (character ≡ 0xfeff → ⊥) → IsMarkEnd bs 0
other_prefix bs character after u e n =
    let other : (character == 0xfeff) ≡ false = elim (cases_Bool (character == 0xfeff)) [
      | inl h ↦ absurd (n (eqb-true character 0xfeff h))
      | inr h ↦ h
    ] in
    no_mark bs u (ap (first order_mark) e ∙ other)

marked : (bs : List ℕ) (after : List ℕ) → rest bs 0 ≡ 0xfeff ∷ after
    → stream_meaning (chars bs) ≡ sections_meaning 3 (sections_at true true after)
marked bs after e = ap stream_meaning e ∙ (ap flat_meaning (stream_steps (0xfeff ∷ after)) ∙ marked_meaning (sections_at true true after))

-- a byte order mark is passed
pub mark_there : (bs : List ℕ) (len : ℕ) (after : List ℕ) → IsUtf8 bs → rest bs 0 ≡ 0xfeff ∷ after → len ≡ 3 → IsMarkEnd bs len
mark_there bs len after u e l = subst (λ (n : ℕ). IsMarkEnd bs n) (sym l) at_three
  where
    s : StandsUpTo bs 0 (0xfeff ∷ []) after 3
    s = place_after bs 0 (0xfeff ∷ []) after u (IsCharBoundary-start bs u) e

    at_three : IsMarkEnd bs 3
    at_three =
        record {
          boundary = s.boundary;
          starts = inl (ap (λ (t : List ℕ). starts_line true (without_mark t)) s.is);
          unmarked = inl (omega arith);
          reads = marked bs after e ∙ ap (λ (t : List ℕ). sections_meaning 3 (sections_at true true t)) (sym s.leaves);
        }
