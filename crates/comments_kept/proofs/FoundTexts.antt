-- The comments that were found, as texts.
use Rattle.std.proofs.{Common.{◌≡◌, ◌≤◌, refl, sym, ◌∙◌, ap, arith, ⊎_elim, get_or}, Math.Utf8.{scalar, scalars}, lemmas.Bool.and_parts}
use Rattle.std.{proofs.lemmas.{Bool.{and_from, cases_lt, Decides.nat_tests}, Str.chars-encodes}, specs.Prelude.{ℕ, ◌+◌, ◌⊎◌, true, List}}
use Rattle.std.specs.{Prelude.{[], ◌∷◌, encode_utf8_all, map, slice_index}, List.list_all, Str.chars}
use Rattle.{yaml_chars.specs.Classes.nb, yaml_grammar.specs.Events.Event, yaml_comments.specs.declared.find.Comment.Comment}
use Rattle.yaml_comments.specs.{Comments.{AreComments, IsNext, comment_at}, Found.{place_of, places_of}}
use Rattle.comments_kept.{specs.Keeping.{AreTexts, texts_at, without_white}, proofs.BlankEnds.trimmed_lines}

-- ---- what may be in a comment is a character

-- it is a scalar value
nb_scalar : (c : ℕ) → nb c ≡ true → scalar c ≡ true
nb_scalar c e = grind (arith, nat_tests)

-- so are those of a comment
pub nb_scalars : (cs : List ℕ) → list_all nb cs ≡ true → scalars cs ≡ true
nb_scalars [] e = refl
nb_scalars (c ∷ cs) e = let p = and_parts (nb c) (list_all nb cs) e in and_from _ _ (nb_scalar c p.0) (nb_scalars cs p.1)

-- ---- the texts of comments

abbrev rest_of : List (List ℕ) → List (List ℕ)
rest_of [] = []
rest_of (t ∷ ts) = ts

-- a comment goes behind its `#`
longer : (bytes : List ℕ) (es : List Event) (from : ℕ) (c : Comment) → IsNext bytes es from (place_of c) → c.start + 1 ≤ c.end
longer bytes es from c next = ⊎_elim (λ less. omega (arith, less)) (λ more. absurd (same more)) (cases_lt c.start c.end)
  where
    same : c.end ≤ c.start → ⊥
    same e =
        let here : c.end ≡ c.start = omega (arith, e, next.ends.after) in
        let break : (slice_index bytes c.end ≡ 10) ⊎ (slice_index bytes c.end ≡ 13) =
        next.ends.ends (omega (arith, here, next.comment.within)) in
        let mark = ap (slice_index bytes) here ∙ next.comment.mark in
        ⊎_elim (λ lf. omega (arith, lf, mark)) (λ cr. omega (arith, cr, mark)) break

-- comments on lines are texts
pub are_texts : (bytes : List ℕ) (es : List Event) (from : ℕ) (cs : List Comment) (ts : List (List ℕ))
    → AreComments bytes es from (places_of cs)
    → map (comment_at bytes) (places_of cs) ≡ map encode_utf8_all ts → list_all (list_all nb) ts ≡ true → AreTexts bytes cs
are_texts bytes es from [] ts are e fit = tt
are_texts bytes es from (c ∷ cs) [] are e fit = absurd (cc)
are_texts bytes es from (c ∷ cs) (t ∷ ts) are e fit =
    let p = and_parts (list_all nb t) (list_all (list_all nb) ts) fit in
    let first : comment_at bytes (place_of c) ≡ encode_utf8_all t = ap (λ (l : List (List ℕ)). get_or l 0 []) e in (
      longer bytes es from c are.0,
      are.0.ends.within,
      (t, (nb_scalars t p.0, sym first)),
      are_texts bytes es c.end cs ts are.1 (ap rest_of e) p.1,
    )

-- they are on lines
pub lines_at : (bytes : List ℕ) (cs : List Comment) (ts : List (List ℕ))
    → map (comment_at bytes) (places_of cs) ≡ map encode_utf8_all ts → list_all (list_all nb) ts ≡ true
    → list_all (list_all nb) (texts_at bytes cs) ≡ true
lines_at bytes [] ts e fit = refl
lines_at bytes (c ∷ cs) [] e fit = absurd (cc)
lines_at bytes (c ∷ cs) (t ∷ ts) e fit =
    let p = and_parts (list_all nb t) (list_all (list_all nb) ts) fit in
    let here : chars (comment_at bytes (place_of c)) ≡ t =
    ap (λ (l : List (List ℕ)). chars (get_or l 0 [])) e ∙ chars-encodes t (nb_scalars t p.0) in
    and_from _ _ (trimmed_lines (chars (comment_at bytes (place_of c))) (ap (list_all nb) here ∙ p.0))
    (lines_at bytes cs ts (ap rest_of e) p.1)

-- they are written by what is behind their `#`
pub written_at : (bytes : List ℕ) (cs : List Comment)
    → map without_white (map (comment_at bytes) (places_of cs)) ≡ map encode_utf8_all (texts_at bytes cs)
written_at bytes [] = refl
written_at bytes (c ∷ cs) = ap (λ ts. without_white (comment_at bytes (place_of c)) ∷ ts) (written_at bytes cs)

-- without places there are no comments
pub none_found : (bytes : List ℕ) (cs : List Comment) → map (comment_at bytes) (places_of cs) ≡ [] → cs ≡ []
none_found bytes [] e = refl
none_found bytes (c ∷ cs) e = cc
