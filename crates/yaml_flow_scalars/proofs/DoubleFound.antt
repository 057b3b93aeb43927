-- A double-quoted scalar at a place of a text: where there is one, where there is none, and which are borrowed.
use Rattle.std.proofs.Common.{◌≡◌, ℕ, ◌+◌, ◌-◌, ◌<◌, ◌≤◌, true, false, List, [], ◌∷◌, refl, ap, sym, ◌∙◌, subst, arith, length, inl, inr}
use Rattle.std.{proofs.Common.{get_or, drop, length-take, length-drop, Some, None}, specs.Prelude.{◌==◌, slice_range}}
use Rattle.yaml_flow_scalars.proofs.Prelude.{AllPass, IsUtf8, IsCharBoundary, chars, cases_lt, not-true, or_parts, eqb-false, get_or-take}
use Rattle.yaml_flow_scalars.proofs.Prelude.{get_or-drop, IsUtf8-nil, line_break, rest, IsRun, char_at, rest-end, blind-line_break}
use Rattle.yaml_flow_scalars.proofs.Prelude.{test-char_at, first, double_style, FlowContext, at_break, IsScalar, NoScalar, none_some}
use Rattle.yaml_flow_scalars.proofs.{Prelude.line_starts, DoublePlaces.byte_read, DoubleReads.{double_found, double_missing}}
use Rattle.yaml_flow_scalars.proofs.{DoubleReads.double_quoted_first, DoubleAdds.{no_char, run_adds, run_stray, closes}}
use Rattle.yaml_flow_scalars.specs.{Standing.{ScalarAt, NoScalarAt}, DoubleBorrowed.is_verbatim, DoubleScan.{double_value, raw_char}}
use Rattle.yaml_flow_scalars.specs.DoubleScan.{ClosesAt}

module _ (n : ℕ) (c : FlowContext) (text : List ℕ) (u : IsUtf8 text) where
  -- ---- none

  -- without a quote there is no scalar
  pub no_quote_at : (at : ℕ) → IsCharBoundary text at → (at < length text → get_or text at 0 ≡ 34 → ⊥) → NoScalarAt double_style n c text at
  no_quote_at at b h s after e = double_quoted_first n c (line_starts text at) (rest text at) s after other e
    where
      other : first (λ x. x == 34) (rest text at) ≡ false
      other = elim (cases_lt at (length text)) [
        | inl l ↦ (let there = char_at text at u b l in
            ap (first (λ x. x == 34)) there.1.splits ∙ no_char text at there.0 34 there.1 (omega arith) (h l))
        | inr past ↦ ap (first (λ x. x == 34)) (rest-end text at past)
      ]

  module _ (at : ℕ) (l : at < length text) (q : get_or text at 0 ≡ 34) where
    there : rest text at ≡ 34 ∷ rest text (at + 1)
    there = byte_read text at 34 u l q (omega arith)

    -- nor without a value after it
    pub none_after : double_value n c (rest text (at + 1)) ≡ None → NoScalarAt double_style n c text at
    none_after h s after e stands =
        subst (λ (t : List ℕ). NoScalar n c (line_starts text at) t) (sym there)
        (double_missing n c (line_starts text at) (rest text (at + 1)) h) s after stands

    -- ---- one

    -- with both there is one
    pub scalar_there : (value : List ℕ) (end : ℕ) → at < end → IsCharBoundary text end
        → double_value n c (rest text (at + 1)) ≡ Some (value, rest text end)
        → ScalarAt double_style n c text at value end
    scalar_there value end above b h = record {
      above = above;
      boundary = b;
      scalar = subst (λ (t : List ℕ). IsScalar n c (line_starts text at) t double_style value (rest text end)) (sym there)
          (double_found n c (line_starts text at) (rest text (at + 1)) value (rest text end) h);
    }

  -- the first run of characters is all
  pub run_closes : (start end : ℕ) → IsCharBoundary text start → IsRun raw_char text start end → end < length text → get_or text end 0 ≡ 34
      → double_value n c (rest text start) ≡ Some (chars (slice_range text start end), rest text (end + 1))
  run_closes start end b run l q =
      closes n c text start (slice_range text start end) end u
      (run_adds n c text u start end b run [] (slice_range text start end) IsUtf8-nil
      (ap at_break (byte_read text end 34 u l q (omega arith))) refl) l q

  -- ---- where the first run is not all, a break or a backslash is between the quotes

  byte_between : (start k end : ℕ) → start ≤ k → k < end → end ≤ length text
      → (k - start < length (slice_range text start end)) × (get_or (slice_range text start end) (k - start) 0 ≡ get_or text k 0)
  byte_between start k end above below within =
      let size : k - start < length (slice_range text start end) =
      omega (arith, length-take (end - start) (drop start text), length-drop start text) in (
        size,
        get_or-take (end - start) (drop start text) (k - start) 0 (omega arith)
            ∙ get_or-drop start text (k - start) 0 ∙ ap (λ x. get_or text x 0) (let e : start + (k - start) ≡ k = omega arith in e),
      )

  -- if a break or a backslash comes, the value is not the text
  pub not_verbatim : (start beyond : ℕ) (value : List ℕ) (end : ℕ) → IsCharBoundary text start
      → IsRun raw_char text start beyond → (beyond < length text → get_or text beyond 0 ≡ 34 → ⊥)
      → ClosesAt n c text start beyond value end → AllPass is_verbatim (slice_range text start (end - 1)) → ⊥
  not_verbatim start beyond value end b run open_still h verbatim =
      let more = h.above in
      let within = h.boundary.0 in
      let above = run.above in
      let inside : beyond < length text = omega arith in
      let byte = byte_between start beyond (end - 1) run.above (omega arith) (omega arith) in
      let kept : is_verbatim (get_or text beyond 0) ≡ true = ap is_verbatim (sym byte.1) ∙ verbatim (beyond - start) 0 byte.0 in
      let neither = or_parts (line_break (get_or text beyond 0)) (get_or text beyond 0 == 92) (not-true _ kept) in
      let there = char_at text beyond u run.boundary inside in
      let unbroken : first line_break (rest text beyond) ≡ false =
      ap (first line_break) there.1.splits ∙ (test-char_at line_break text beyond there.0 blind-line_break u there.1 ∙ neither.0) in
      none_some _ (sym (run_stray n c text u start beyond b run open_still
      (λ _ e. eqb-false (get_or text beyond 0) 92 neither.1 e) unbroken) ∙ h.means)
