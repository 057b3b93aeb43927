-- A gap that is read fits.
use Rattle.std.{proofs.Common.{ap, append_assoc, refl, subst, sym, ◌<◌, ◌∙◌, ◌≡◌}, specs.Prelude.{Bool, List, None, Some, [], false}}
use Rattle.std.specs.Prelude.{length, true, ℕ, ◌++◌, ◌∷◌}
use Rattle.yaml_recognizers.proofs.Prelude.{and_from, cond_both, white, LineEnd, comment_line_fits, comments_text, gap_text, indents}
use Rattle.yaml_recognizers.proofs.{Prelude.{line_end_text, lines, list_all}, Separation.{LineEnds.comments_from, CommentsSound.CommentsOf}}
use Rattle.yaml_recognizers.proofs.Separation.CommentsSound.{LineOf, comments_end, comments_sound, line_sound, shorter}
use Rattle.yaml_recognizers.{proofs.Basics.{Reading.Sound, Prefixes.{take_while_every, take_while_split}}, specs.Comments.read_comments}
use Rattle.yaml_recognizers.specs.{Comments.read_line_end, Prefixes.{drop_while, take_while}, Reading.Read}
use Rattle.yaml_recognizers.specs.{CanonicalComments.{canonical_comments, canonical_gap, is_line_end}, Gaps.{GapRead, gap_from, inline_gap}}
use Rattle.yaml_recognizers.specs.Gaps.{read_gap}

-- the gap fits at the start of the text, before the rest
abbrev pub GapOf : ℕ → Bool → List ℕ → GapRead → Type 0
GapOf n key text g = (text ≡ gap_text g.0 ++ g.1) × (canonical_gap n key g.0 g.1 ≡ true)

-- whitespace on the line is a gap that fits
inline_sound : (n : ℕ) (key : Bool) (blank rest : List ℕ) → list_all white blank ≡ true
    → GapOf n key (blank ++ rest) (inline_gap blank rest)
inline_sound n key [] rest w = (refl, refl)
inline_sound n key (c ∷ cs) rest w = (refl, and_from _ _ w refl)

-- a gap after a line's end fits
from_sound : (n : ℕ) (text : List ℕ) (r : Read LineEnd) → Sound (LineOf false text) r → GapOf n false text (gap_from n text r)
from_sound n text None s = subst (λ (t : List ℕ).
    GapOf n false t (inline_gap (take_while white text) (drop_while white text))) (sym (take_while_split white text))
    (inline_sound n false (take_while white text) (drop_while white text) (take_while_every white text))
from_sound n text (Some r) s =
    let more : List LineEnd × List ℕ = read_comments (length text) true r.1 in
    let cs : CommentsOf true r.1 more = comments_sound (length text) true r.1 in
    let k : length r.1 < length text = shorter false text r.1 r.0 s in
    let end : is_line_end more.1 ≡ false = comments_end (length text) r.1 k in
    let lead : List ℕ = take_while white more.1 in
    let rest : List ℕ = drop_while white more.1 in
    let e : more.1 ≡ lead ++ rest = take_while_split white more.1 in
    let regrouped : gap_text (Some (lines (r.0 ∷ more.0) lead)) ++ rest
    ≡ line_end_text r.0 ++ (comments_text more.0 ++ (lead ++ rest)) = simp append_assoc in
    cond_both (indents n lead) (Some (lines (r.0 ∷ more.0) lead), rest) (None, text) (GapOf n false text)
    (λ i. (
      s.0 ∙ (ap (λ t. line_end_text r.0 ++ t) (cs.0 ∙ ap (λ t. comments_text more.0 ++ t) e) ∙ sym regrouped),
      and_from _ _ (comments_from false r.0 more.0 (lead ++ rest)
          (subst (λ (t : List ℕ). comment_line_fits false r.0 t ≡ true) (cs.0 ∙ ap (λ t. comments_text more.0 ++ t) e) s.1)
          (subst (λ (t : List ℕ). canonical_comments true more.0 t ≡ true) e (cs.1 refl end))) i,
    ))
    (λ _. (refl, refl))

-- a gap that is read fits
pub gap_sound : (n : ℕ) (key : Bool) (text : List ℕ) → GapOf n key text (read_gap n key text)
gap_sound n true text = subst (λ (t : List ℕ).
    GapOf n true t (inline_gap (take_while white text) (drop_while white text))) (sym (take_while_split white text))
    (inline_sound n true (take_while white text) (drop_while white text) (take_while_every white text))
gap_sound n false text = from_sound n text (read_line_end false text) (line_sound false text)
