-- From the places of a plain scalar's lines to the scalar that is there.
use Rattle.std.proofs.Common.{◌≡◌, refl, sym, ◌∙◌, ap, subst, arith, length, length-drop, ℕ, ◌+◌, ◌-◌, ◌<◌, ◌≤◌, get_or}
use Rattle.std.specs.Prelude.{Bool, true, false, List, [], ◌∷◌, ◌++◌, drop, flat_map, slice_range, slice_index, Some, None}
use Rattle.yaml_flow_scalars.proofs.Prelude.{IsUtf8, IsCharBoundary, and_from, and_parts, false≢true, not-true, append_cancel_right}
use Rattle.yaml_flow_scalars.proofs.Prelude.{get_or-take, get_or-drop, length-take, drop-append_seam, NoBreak, line_break, ns, rest}
use Rattle.yaml_flow_scalars.proofs.Prelude.{between, rest-between, plain_style, list_all, no_marker, FlowContext, Line, plain, single}
use Rattle.yaml_flow_scalars.proofs.Prelude.{double, plain_first, char_value, line_value, line_starts, Stands, scalar_ends, IsScalar}
use Rattle.yaml_flow_scalars.proofs.Prelude.{read_run, read_plain, with_lines, plain_lines_at, none_some, sound_is, plain_read, plain_sound}
use Rattle.yaml_flow_scalars.proofs.{Prelude.{step_begin, no_begin, is_scalar, whole_stands}, PlainLines.values_are, Unbroken.ns_unbroken}
use Rattle.yaml_flow_scalars.{proofs.Unbroken.run_unbroken, specs.PlainPlaces.{begins_plain, BeginsPlain, NoPlainBegins, IsPlainRun}}
use Rattle.yaml_flow_scalars.specs.{PlainPlaces.{IsNextLine, lines_value}, Standing.{ScalarAt, NoScalarAt}}
use Rattle.{yaml_chars.specs.Breaks.no_break, yaml_recognizers.proofs.Scalars.FlowScalars.complete}

-- ---- found

first_is_ns : (c : FlowContext) (x : ℕ) (xs : List ℕ) → plain_first c x xs ≡ true → ns x ≡ true
first_is_ns c x xs h = (and_parts (ns x) _ h).0

-- what the recognizer of plain scalars reads is there
read_stands : (n : ℕ) (c : FlowContext) (bol : Bool) (text prefix : List ℕ) (more : List (Line ℕ)) (after value : List ℕ)
    → read_plain n c bol text ≡ Some (plain prefix more, after)
    → prefix ++ flat_map (line_value char_value) more ≡ value → IsScalar n c bol text plain_style value after
read_stands n c bol text prefix more after value e v =
    let stands : Stands n c bol text (plain prefix more) after =
    sound_is (Stands n c bol text) (read_plain n c bol text) (plain prefix more, after) (plain_sound n c bol text) e in
    subst (λ t. IsScalar n c bol text plain_style t after) (ap (λ t. t ++ flat_map (line_value char_value) more) (values_are prefix) ∙ v)
    (is_scalar n c bol text (plain prefix more) after (complete n c bol text (plain prefix more) after stands))

module _ (n : ℕ) (c : FlowContext) (text : List ℕ) (at after end : ℕ) (u : IsUtf8 text) (b : IsCharBoundary text at)
    (begins : BeginsPlain c text at after)
    (run : IsPlainRun c true text after end) where
  first_line_read : read_plain n c (line_starts text at) (rest text at)
      ≡ with_lines (begins.character ∷ between text after end) (plain_lines_at n c (rest text end))
  first_line_read =
      let x : ℕ = begins.character in
      let xs : List ℕ = rest text after in
      let held : List ℕ = between text after end in
      let fits = and_parts (no_marker (line_starts text at) (x ∷ xs)) (plain_first c x xs) begins.begins in
      let reads : read_run c x xs ≡ held = run.reads x (first_is_ns c x xs fits.1) in
      let left : drop (length held) xs ≡ rest text end =
      ap (drop (length held)) (rest-between text after end u run.above begins.boundary run.boundary)
      ∙ drop-append_seam held (rest text end) in
      ap (read_plain n c (line_starts text at)) begins.splits
      ∙ (step_begin n c (line_starts text at) x xs begins.begins
      ∙ (ap (λ r. with_lines (x ∷ r) (plain_lines_at n c (drop (length r) xs))) reads
      ∙ ap (λ t. with_lines (x ∷ held) (plain_lines_at n c t)) left))

  first_line_text : begins.character ∷ between text after end ≡ between text at end
  first_line_text =
      let above = begins.above in
      let further = run.above in
      append_cancel_right (begins.character ∷ between text after end) (between text at end) (rest text end)
      (ap (λ t. begins.character ∷ t) (sym (rest-between text after end u run.above begins.boundary run.boundary))
      ∙ (sym begins.splits ∙ rest-between text at end u (omega arith) b run.boundary))

  -- the first line has no break
  pub first_line_unbroken : list_all no_break (between text at end) ≡ true
  first_line_unbroken =
      let x : ℕ = begins.character in
      let black : ns x ≡ true = first_is_ns c x (rest text after)
      (and_parts (no_marker (line_starts text at) (x ∷ rest text after))
      (plain_first c x (rest text after)) begins.begins).1 in
      ap (list_all no_break) (sym first_line_text)
      ∙ and_from _ _ (ns_unbroken x black) (ap (list_all no_break) (sym (run.reads x black)) ∙ run_unbroken c x (rest text after))

  -- its first line goes up to the place `end`, and the further ones up to another
  pub plain_found : (last : ℕ) (value : List ℕ) → end ≤ last → IsCharBoundary text last
      → (plain_lines_at n c (rest text end)).1 ≡ rest text last
      → between text at end ++ lines_value n c text end ≡ value → ScalarAt plain_style n c text at value last
  plain_found last value l d left v =
      let above = begins.above in
      let further = run.above in
      let more : List (Line ℕ) × List ℕ = plain_lines_at n c (rest text end) in
      let prefix : List ℕ = begins.character ∷ between text after end in
      record {
        above = omega arith;
        boundary = d;
        scalar = read_stands n c (line_starts text at) (rest text at) prefix more.0 (rest text last) value
            (first_line_read ∙ ap (λ (t : List ℕ). Some (plain prefix more.0, t)) left)
            (ap (λ t. t ++ lines_value n c text end) first_line_text ∙ v);
      }

-- ---- not found

read_none : (n : ℕ) (c : FlowContext) (bol : Bool) (text : List ℕ) → begins_plain c bol text ≡ false → read_plain n c bol text ≡ None
unfolding read_plain
read_none n c bol [] h = refl
read_none n c bol (x ∷ xs) h = no_begin n c bol x xs h

plain_reads : (n : ℕ) (c : FlowContext) (bol : Bool) (text prefix : List ℕ) (more : List (Line ℕ)) (after : List ℕ)
    → Stands n c bol text (plain prefix more) after
    → read_plain n c bol text ≡ Some (plain prefix more, after)
unfolding scalar_ends
plain_reads n c bol text prefix more after h = ap (read_plain n c bol) h.spells ∙ plain_read n c bol prefix more after h.fits h.ends

-- where no plain scalar starts, there is none
pub plain_missing : (n : ℕ) (c : FlowContext) (text : List ℕ) (at : ℕ) → NoPlainBegins c text at → NoScalarAt plain_style n c text at
plain_missing n c text at h (plain prefix more) after e stands =
    none_some (plain prefix more, after) (sym (read_none n c (line_starts text at) (rest text at) h)
    ∙ plain_reads n c (line_starts text at) (rest text at) prefix more after
    (whole_stands n c (line_starts text at) (rest text at) (plain prefix more) after stands))
plain_missing n c text at h (single prefix more) after e stands = cc
plain_missing n c text at h (double prefix more) after e stands = cc

-- ---- memory

-- before a further line is a break
pub line_breaks : (n : ℕ) (c : FlowContext) (text : List ℕ) (at end empties start stop last : ℕ) → at ≤ end
    → IsNextLine n c text end empties start stop → stop ≤ last → last ≤ length text
    → NoBreak (slice_range text at last) → ⊥
line_breaks n c text at end empties start stop last l next m within none =
    let after = next.after in
    let before = next.before in
    let holds = next.holds in
    let k : ℕ = next.stop - at in
    let size : k < length (slice_range text at last) = omega (arith, length-take (last - at) (drop at text), length-drop at text) in
    let there : get_or (slice_range text at last) k 0 ≡ slice_index text next.stop =
    get_or-take (last - at) (drop at text) k 0 (omega arith)
    ∙ (get_or-drop at text k 0 ∙ ap (λ x. get_or text x 0) (let e : at + k ≡ next.stop = omega arith in e)) in
    false≢true (sym (not-true (line_break (get_or (slice_range text at last) k 0)) (none k 0 size)) ∙ (ap line_break there ∙ next.breaks))
