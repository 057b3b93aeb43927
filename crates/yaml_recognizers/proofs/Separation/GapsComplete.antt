-- A gap that fits is read, where something solid comes after it.
use Rattle.std.{proofs.Common.{ap, append_assoc, arith, length-append, refl, ◌<◌, ◌∙◌, ◌≡◌}, specs.Prelude.{Bool, List, None, Option, Some}}
use Rattle.std.specs.Prelude.{[], false, length, true, ℕ, ◌++◌, ◌∷◌}
use Rattle.yaml_recognizers.proofs.Prelude.{and_parts, false≢true, white, FlowContext, safe, Sep, comment_line_fits, comments_text}
use Rattle.yaml_recognizers.proofs.Prelude.{gap_text, indents, inline, line_end_text, lines, sep_text, list_all, first}
use Rattle.yaml_recognizers.proofs.Separation.{CommentsComplete.{comments_read, line_end_read, solid_no_line}, LineEnds.comments_parts}
use Rattle.yaml_recognizers.proofs.{Separation.LineEnds.{line_long, line_unsafe, lines_long, white_unsafe}, Basics.Prefixes.drop_while_all}
use Rattle.yaml_recognizers.proofs.Basics.{Prefixes.take_while_all, Solid.{solid_not_white, solid_parts, solid_undropped, solid_untaken}}
use Rattle.yaml_recognizers.specs.{Comments.read_line_end, Ends.solid, Prefixes.drop_while, CanonicalComments.canonical_comments}
use Rattle.yaml_recognizers.specs.{CanonicalComments.canonical_gap, Gaps.{gap_after, gap_from, inline_gap, lines_gap, read_gap}}

-- a separation that isn't empty begins with no safe character
pub sep_unsafe : (n : ℕ) (key : Bool) (d : FlowContext) (sep : Sep) (after : List ℕ)
    → canonical_gap n key (Some sep) after ≡ true → first (safe d) (sep_text sep ++ after) ≡ false
sep_unsafe n key d (inline []) after h = absurd (false≢true h)
sep_unsafe n key d (inline (b ∷ bs)) after h = white_unsafe d b (and_parts _ _ (and_parts _ _ h).0).0
sep_unsafe n true d (lines es lead) after h = absurd (false≢true h)
sep_unsafe n false d (lines [] lead) after h = absurd (false≢true h)
sep_unsafe n false d (lines (e ∷ es) lead) after h =
    let p : (canonical_comments false (e ∷ es) (lead ++ after) ≡ true) × (indents n lead ≡ true) = and_parts _ _ h in
    let rest : List ℕ = comments_text es ++ (lead ++ after) in
    let regrouped : sep_text (lines (e ∷ es) lead) ++ after ≡ line_end_text e ++ rest = simp append_assoc in
    rw regrouped (line_unsafe d e rest (comments_parts false e es (lead ++ after) p.0).0)

-- a gap that fits is read
pub gap_read : (n : ℕ) (key : Bool) (gap : Option Sep) (after : List ℕ) → canonical_gap n key gap after ≡ true → first solid after ≡ true
    → read_gap n key (gap_text gap ++ after) ≡ (gap, after)
gap_read n true None (x ∷ xs) h f = let e : white x ≡ false = (solid_parts x f).0 in rw e
gap_read n false None after h f = rw (solid_no_line false [] after refl f, solid_untaken after f, solid_undropped after f)
gap_read n true None [] h f = absurd (false≢true f)
gap_read n true (Some (inline [])) after h f = absurd (false≢true h)
gap_read n false (Some (inline [])) after h f = absurd (false≢true h)
gap_read n true (Some (inline (b ∷ bs))) after h f =
    let w : list_all white (b ∷ bs) ≡ true = (and_parts _ _ h).0 in
    ap (λ t. inline_gap t (drop_while white ((b ∷ bs) ++ after))) (take_while_all white (b ∷ bs) after w (solid_not_white after f))
    ∙ ap (λ t. (Some (inline (b ∷ bs)), t)) (drop_while_all white (b ∷ bs) after w (solid_not_white after f))
gap_read n false (Some (inline (b ∷ bs))) after h f =
    let w : list_all white (b ∷ bs) ≡ true = (and_parts _ _ h).0 in
    ap (gap_from n ((b ∷ bs) ++ after)) (solid_no_line false (b ∷ bs) after w f)
    ∙ (ap (λ t. inline_gap t (drop_while white ((b ∷ bs) ++ after))) (take_while_all white (b ∷ bs) after w (solid_not_white after f))
    ∙ ap (λ t. (Some (inline (b ∷ bs)), t)) (drop_while_all white (b ∷ bs) after w (solid_not_white after f)))
gap_read n true (Some (lines es lead)) after h f = absurd (false≢true h)
gap_read n false (Some (lines [] lead)) after h f = absurd (false≢true h)
gap_read n false (Some (lines (e ∷ es) lead)) after h f =
    let p : (canonical_comments false (e ∷ es) (lead ++ after) ≡ true) × (indents n lead ≡ true) = and_parts _ _ h in
    let q : (comment_line_fits false e (comments_text es ++ (lead ++ after)) ≡ true)
    × (canonical_comments true es (lead ++ after) ≡ true) = comments_parts false e es (lead ++ after) p.0 in
    let w : list_all white lead ≡ true = (and_parts _ _ p.1).0 in
    let rest : List ℕ = comments_text es ++ (lead ++ after) in
    let text : List ℕ = line_end_text e ++ rest in
    let regrouped : gap_text (Some (lines (e ∷ es) lead)) ++ after ≡ text = simp append_assoc in
    let no_line : read_line_end true (lead ++ after) ≡ None = solid_no_line true lead after w f in
    let enough : length es < length text = omega (
      arith,
      line_long false e rest q.0,
      lines_long true es (lead ++ after) q.1,
      length-append (line_end_text e) rest,
      length-append (comments_text es) (lead ++ after),
    ) in
    ap (read_gap n false) regrouped
    ∙ (ap (gap_from n text) (line_end_read false e rest q.0)
    ∙ (ap (gap_after n text e) (comments_read (length text) true es (lead ++ after) enough q.1 no_line no_line)
    ∙ (ap (λ t. lines_gap n text (e ∷ es) t (drop_while white (lead ++ after)))
    (take_while_all white lead after w (solid_not_white after f))
    ∙ (ap (lines_gap n text (e ∷ es) lead) (drop_while_all white lead after w (solid_not_white after f))
    ∙ rw p.1 refl))))
