-- Runs, quotes and folds between single quotes, from the places that the code finds to what is read there.
use Rattle.std.{proofs.Common.{◌≡◌, ◌<◌, ◌≤◌, ◌∙◌, sym, ap, subst, refl, inl, inr, arith, append_assoc, length-drop}, specs.Prelude.ℕ}
use Rattle.std.specs.Prelude.{zero, suc, ◌+◌, ◌-◌, Bool, true, false, is_some, List, [], ◌∷◌, ◌++◌, length, Some, None, slice_index}
use Rattle.std.specs.Prelude.{slice_range, drop}
use Rattle.yaml_flow_scalars.proofs.Prelude.{AllPass, list_all, IsAscii, IsUtf8, IsCharBoundary, chars, cases_Bool, cases_lt, and_from}
use Rattle.yaml_flow_scalars.proofs.Prelude.{and_parts, cond-false, eqb-true, false≢true, not_from_true, or_right, nat_tests, drop_all}
use Rattle.yaml_flow_scalars.proofs.Prelude.{drop_more, get_or-drop, get_or-take, length-take, chars-append, chars-IsAscii, chars-nil}
use Rattle.yaml_flow_scalars.proofs.Prelude.{IsCharBoundary-after_ascii, line_break, rest, between, IsRun, between-append}
use Rattle.yaml_flow_scalars.proofs.Prelude.{between-push_ascii, rest-ascii, rest-between, IsBlind, blind-line_break, line_starts}
use Rattle.yaml_flow_scalars.proofs.Prelude.{single_style, FlowContext, Line, Scalar, char_value, flow_fold, folded_break, line_feeds}
use Rattle.yaml_flow_scalars.proofs.Prelude.{one_line, single, first, read_break, Join, after_blank, with_lead, read_empty, read_scalar}
use Rattle.yaml_flow_scalars.proofs.Prelude.{quote, read_quoted, read_single, read_single_one, single_closes, join_value, quoted_value}
use Rattle.yaml_flow_scalars.proofs.Prelude.{with_prefix, Read, on, all_of, break_some, none_some, on_parts, some_parts, is_scalar}
use Rattle.yaml_flow_scalars.proofs.{Prelude.{no_scalar, IsScalar, first-rest}, FoldSteps.{fold_solid, run_every, run_first}}
use Rattle.yaml_flow_scalars.proofs.SingleSteps.{inside_close, inside_control, inside_fold, inside_no_fold, inside_pair, with_prefix-append}
use Rattle.yaml_flow_scalars.{proofs.SingleSteps.with_prefix-nil, specs.{Folds.{IsWhiteStart, IsFold}, Standing.{NoScalarAt, ScalarAt}}}
use Rattle.yaml_flow_scalars.specs.SingleScalars.{content, is_unchanged, read_inside, IsInside, NoFoldIn}

-- the test for a quote doesn't distinguish characters from 128 on
pub blind-quote : IsBlind quote
blind-quote c h l = grind (arith, nat_tests)

-- nor does that for characters that mean themselves
pub blind-content : IsBlind content
blind-content c h l = grind (arith, nat_tests)

-- ---- quotes and breaks at a place

-- an ASCII character that passes a test is at the place
first_at : (p : ℕ → Bool) (bs : List ℕ) (i : ℕ) → IsBlind p → IsUtf8 bs → IsCharBoundary bs i
    → first p (rest bs i) ≡ true → (i < length bs) × (p (slice_index bs i) ≡ true)
first_at p bs i blind u b h = elim (cases_lt i (length bs)) [
  | inl l ↦ (l, sym (ap (first p) (drop_more bs i 0 l)) ∙ (sym (first-rest p bs i blind u b) ∙ h))
  | inr past ↦ absurd (false≢true (sym (first-rest p bs i blind u b ∙ ap (first p) (drop_all i bs past)) ∙ h))
]

-- a quote is at the place
pub record QuoteAt (bs : List ℕ) (i : ℕ) : Type 0 where
  pub within : i < length bs
  pub byte : slice_index bs i ≡ 39
  pub next : IsCharBoundary bs (i + 1)
  pub splits : rest bs i ≡ 39 ∷ rest bs (i + 1)

-- the quote that starts the rest is at the place
pub quote_at : (bs : List ℕ) (i : ℕ) → IsUtf8 bs → IsCharBoundary bs i → first quote (rest bs i) ≡ true → QuoteAt bs i
quote_at bs i u b h =
    let there = first_at quote bs i blind-quote u b h in
    let within : i < length bs = there.0 in
    let byte : slice_index bs i ≡ 39 = eqb-true (slice_index bs i) 39 there.1 in
    let ascii : slice_index bs i < 128 = omega arith in
    record {
      within = within;
      byte = byte;
      next = IsCharBoundary-after_ascii bs i u within ascii;
      splits = rest-ascii bs i u within ascii ∙ ap (λ x. x ∷ rest bs (i + 1)) byte;
    }

fold_breaks : (n : ℕ) (text : List ℕ) (at empties next : ℕ) → IsFold n text at empties next → first line_break (rest text at) ≡ true
unfolding after_blank
fold_breaks n text at empties next f =
    let p = on_parts (read_break (rest text at)) (λ stop t. with_lead false n [] stop (all_of (read_empty n) t))
    (f.join false [], rest text next) (f.found false []) in
    sym (break_some (rest text at)) ∙ ap (λ (r : Read _). is_some r) p.2

-- ---- what is read, by runs

-- The value of what is from `start` to `place` is known, and from there a run of characters goes on that mean
-- themselves.
pub record Running (n : ℕ) (c : FlowContext) (text : List ℕ) (start place end : ℕ) (value : List ℕ) : Type 0 where
  pub utf8 : IsUtf8 text
  pub value_utf8 : IsUtf8 value
  pub boundary : IsCharBoundary text place
  pub run : IsRun content text place end
  pub reads : read_inside n c (rest text start) ≡ with_prefix (chars value) (read_inside n c (rest text place))

-- a run of characters goes on
pub running : (n : ℕ) (c : FlowContext) (text : List ℕ) (start place end : ℕ) (value : List ℕ) → IsUtf8 text
    → IsUtf8 value → IsCharBoundary text place
    → read_inside n c (rest text start) ≡ with_prefix (chars value) (read_inside n c (rest text place))
    → IsRun content text place end → Running n c text start place end value
running n c text start place end value u v b reads r =
    record { utf8 = u; value_utf8 = v; boundary = b; run = r; reads = reads }

-- nothing is read yet
pub begun : (n : ℕ) (c : FlowContext) (text : List ℕ) (start : ℕ) (value : List ℕ) → value ≡ []
    → read_inside n c (rest text start) ≡ with_prefix (chars value) (read_inside n c (rest text start))
begun n c text start value e = sym (ap (λ v. with_prefix v (read_inside n c (rest text start)))
    (ap chars e ∙ chars-nil) ∙ with_prefix-nil (read_inside n c (rest text start)))

every_append : (p : ℕ → Bool) (xs ys : List ℕ) → list_all p (xs ++ ys) ≡ true → (list_all p xs ≡ true) × (list_all p ys ≡ true)
every_append p [] ys h = (refl, h)
every_append p (x ∷ xs) ys h =
    let q = and_parts (p x) (list_all p (xs ++ ys)) h in
    let more = every_append p xs ys q.1 in
    (and_from _ _ q.0 more.0, more.1)

feeds_ascii : (k i : ℕ) → slice_index (line_feeds k) i < 128
feeds_ascii zero i = omega arith
feeds_ascii (suc k) zero = omega arith
feeds_ascii (suc k) (suc i) = feeds_ascii k i

folded_ascii : (k : ℕ) → IsAscii (folded_break k)
folded_ascii zero zero = omega arith
folded_ascii zero (suc i) = omega arith
folded_ascii (suc k) i = feeds_ascii (suc k) i

join_folds : (j : Join) (empties : ℕ) → j.escaped ≡ false → length j.empties ≡ empties → join_value j ≡ folded_break empties
join_folds j empties e k = cond-false j.escaped (line_feeds (length j.empties)) (folded_break (length j.empties)) e ∙ ap folded_break k

module _ (n : ℕ) (c : FlowContext) (text : List ℕ) (start place end : ℕ) (value : List ℕ) (s : Running n c text start place end value) where
  content_here : list_all content (between text place end) ≡ true
  content_here = run_every content text place end s.run

  here : rest text place ≡ between text place end ++ rest text end
  here = rest-between text place end s.utf8 s.run.above s.boundary s.run.boundary

  more_value : (piece new : List ℕ) → new ≡ value ++ piece → chars new ≡ chars value ++ chars piece
  more_value piece new e = ap chars e ∙ chars-append value piece s.value_utf8

  -- a pair of quotes
  pub goes_past_pair : (new : List ℕ) → first quote (rest text end) ≡ true → first quote (rest text (end + 1)) ≡ true
      → new ≡ value ++ slice_range text place (end + 1)
      → (read_inside n c (rest text start) ≡ with_prefix (chars new) (read_inside n c (rest text (end + 2))))
      × IsCharBoundary text (end + 2)
  goes_past_pair new q r e =
      let one = quote_at text end s.utf8 s.run.boundary q in
      let two = quote_at text (end + 1) s.utf8 one.next r in
      let above = s.run.above in
      let byte = one.byte in
      let next : end + 1 + 1 ≡ end + 2 = omega arith in
      let xs : List ℕ = between text place end in
      let t : List ℕ = rest text (end + 2) in
      let whole : rest text place ≡ xs ++ (39 ∷ 39 ∷ t) =
      here ∙ ap (λ ys. xs ++ ys) (one.splits ∙ ap (λ ys. 39 ∷ ys) (two.splits ∙ ap (λ i. 39 ∷ rest text i) next)) in
      let piece : between text place (end + 1) ≡ xs ++ 39 ∷ [] =
      between-push_ascii text place end s.utf8 above s.boundary one.within (omega arith) ∙ ap (λ x. xs ++ x ∷ []) byte in
      let read : read_inside n c (rest text place) ≡ with_prefix (xs ++ 39 ∷ []) (read_inside n c t) =
      ap (read_inside n c) whole ∙ inside_pair n c xs t content_here in
      let same : chars value ++ (xs ++ 39 ∷ []) ≡ chars new =
      sym (more_value (slice_range text place (end + 1)) new e ∙ ap (λ ys. chars value ++ ys) piece) in (
        s.reads ∙ (ap (with_prefix (chars value)) read
            ∙ (with_prefix-append (chars value) (xs ++ 39 ∷ []) (read_inside n c t)
            ∙ ap (λ v. with_prefix v (read_inside n c t)) same)),
        subst (λ i. IsCharBoundary text i) next two.next,
      )

  -- the closing quote
  pub reads_to_close : (new : List ℕ) → start ≤ place → first quote (rest text end) ≡ true
      → first quote (rest text (end + 1)) ≡ false → new ≡ value ++ slice_range text place end
      → IsInside n c text start (chars new) (end + 1)
  reads_to_close new l q r e =
      let one = quote_at text end s.utf8 s.run.boundary q in
      let above = s.run.above in
      let xs : List ℕ = between text place end in
      let whole : rest text place ≡ xs ++ (39 ∷ rest text (end + 1)) = here ∙ ap (λ ys. xs ++ ys) one.splits in
      let read : read_inside n c (rest text place) ≡ Some (xs, rest text (end + 1)) = ap (read_inside n c) whole
      ∙ inside_close n c xs (rest text (end + 1)) content_here r in
      record {
        above = omega arith;
        boundary = one.next;
        reads = s.reads ∙ (ap (with_prefix (chars value)) read
            ∙ ap (λ (v : List ℕ). Some (v, rest text (end + 1))) (sym (more_value (slice_range text place end) new e)));
      }

  -- ---- folds

  module _ (kept : ℕ) (w : IsWhiteStart text place kept end) where
    split : between text place end ≡ between text place kept ++ between text kept end
    split = between-append text place kept end s.utf8 w.above w.below s.boundary w.boundary s.run.boundary

    kept_content : list_all content (between text place kept) ≡ true
    kept_content = (every_append content (between text place kept) (between text kept end)
        (ap (list_all content) (sym split) ∙ content_here)).0

    whole : rest text place ≡ between text place kept ++ (between text kept end ++ rest text end)
    whole = here ∙ (ap (λ xs. xs ++ rest text end) split ∙ append_assoc (between text place kept) (between text kept end) (rest text end))

    -- a fold is read, and more comes after it
    pub goes_past_fold : (new later : List ℕ) (empties next : ℕ) → IsUtf8 new → IsFold n text end empties next → one_line c ≡ false
        → new ≡ value ++ slice_range text place kept → later ≡ new ++ folded_break empties
        → read_inside n c (rest text start) ≡ with_prefix (chars later) (read_inside n c (rest text next))
    goes_past_fold new later empties next v f k e g =
        let xs : List ℕ = between text place kept in
        let blank : List ℕ = between text kept end in
        let r : Read (List ℕ) = read_inside n c (rest text next) in
        let j : Join = f.join false blank in
        let folded : join_value j ≡ folded_break empties = join_folds j empties (f.escapes false blank) (f.counts false blank) in
        let read : read_inside n c (rest text place) ≡ with_prefix (xs ++ folded_break empties) r =
        ap (read_inside n c) whole
        ∙ (inside_fold n c blank (rest text end) w.blank (fold_breaks n text end empties next f) xs j
        (rest text next) kept_content w.black k (f.found false blank) (fold_solid n text end empties next f)
        ∙ ap (λ ys. with_prefix (xs ++ ys) r) folded) in
        let means : chars later ≡ chars value ++ (xs ++ folded_break empties) =
        ap chars g ∙ (chars-append new (folded_break empties) v
        ∙ (ap (λ ys. ys ++ chars (folded_break empties)) (more_value (slice_range text place kept) new e)
        ∙ (ap (λ ys. (chars value ++ xs) ++ ys) (chars-IsAscii (folded_break empties) (folded_ascii empties))
        ∙ append_assoc (chars value) xs (folded_break empties)))) in
        s.reads ∙ (ap (with_prefix (chars value)) read
        ∙ (with_prefix-append (chars value) (xs ++ folded_break empties) r ∙ ap (λ ys. with_prefix ys r) (sym means)))

    -- without a quote or a fold there is no value
    pub reads_none : first quote (rest text end) ≡ false → NoFoldIn n c text end → read_inside n c (rest text start) ≡ None
    reads_none q h =
        let none : read_inside n c (rest text place) ≡ None = elim (cases_Bool (first line_break (rest text end))) [
          | inl b ↦ ap (read_inside n c) whole ∙ inside_no_fold n c (between text kept end) (rest text end) w.blank b
              (between text place kept) kept_content w.black (elim h [
                | inl k ↦ inl k
                | inr none ↦ inr (none false (between text kept end))
              ])
          | inr b ↦ ap (read_inside n c) here ∙ inside_control n c (between text place end)
              (rest text end) content_here (run_first content text place end blind-content s.utf8 s.run) q b
        ] in
        s.reads ∙ ap (with_prefix (chars value)) none

-- the closing quote ends the first run
pub reads_at_once : (n : ℕ) (c : FlowContext) (text : List ℕ) (start end : ℕ) (piece : List ℕ) → IsUtf8 text
    → IsCharBoundary text start → IsRun content text start end
    → first quote (rest text end) ≡ true → first quote (rest text (end + 1)) ≡ false
    → piece ≡ slice_range text start end → IsInside n c text start (chars piece) (end + 1)
reads_at_once n c text start end piece u b r q none e =
    let s : Running n c text start start end [] =
    record { utf8 = u; value_utf8 = ([], (refl, refl)); boundary = b; run = r; reads = begun n c text start [] refl } in
    reads_to_close n c text start start end [] s piece (omega arith) q none e

-- ---- what is borrowed

-- a byte that is there is none of those that are unchanged
pub changed_before : (text : List ℕ) (start place end : ℕ)
    → (k : ℕ) × (start ≤ k) × (k < place) × (is_unchanged (slice_index text k) ≡ false) → place ≤ end → end ≤ length text
    → AllPass is_unchanged (slice_range text start end) → ⊥
changed_before text start place end there l within all =
    let k = there.0 in
    let above : start ≤ k = there.1 in
    let below : k < place = there.2 in
    let inside : k - start < end - start = omega arith in
    let size : k - start < length (slice_range text start end) =
    omega (arith, length-take (end - start) (drop start text), length-drop start text) in
    let place_of : start + (k - start) ≡ k = omega arith in
    let same : slice_index (slice_range text start end) (k - start) ≡ slice_index text k =
    get_or-take (end - start) (drop start text) (k - start) 0 inside
    ∙ (get_or-drop start text (k - start) 0 ∙ ap (λ i. slice_index text i) place_of) in
    false≢true (sym there.3 ∙ (ap is_unchanged (sym same) ∙ all (k - start) 0 size))

-- a quote, and a break, is one of them
pub quote_changed : (text : List ℕ) (start end place : ℕ) → IsUtf8 text → IsCharBoundary text end
    → first quote (rest text end) ≡ true → start ≤ end → end < place
    → (k : ℕ) × (start ≤ k) × (k < place) × (is_unchanged (slice_index text k) ≡ false)
quote_changed text start end place u b q l m = (end, l, m, ap is_unchanged (quote_at text end u b q).byte)

-- a value with a fold is not the text
pub fold_changed : (n : ℕ) (text : List ℕ) (start end empties next : ℕ) → IsUtf8 text → IsCharBoundary text end
    → IsFold n text end empties next → start ≤ end
    → (k : ℕ) × (start ≤ k) × (k < next) × (is_unchanged (slice_index text k) ≡ false)
fold_changed n text start end empties next u b f l =
    let there = first_at line_break text end blind-line_break u b (fold_breaks n text end empties next f) in
    (end, l, f.above, not_from_true _ (or_right _ _ there.1))

-- ---- the whole scalar

-- after its opening quote
module _ (n : ℕ) (c : FlowContext) (text : List ℕ) (at : ℕ) (u : IsUtf8 text) (b : IsCharBoundary text at) where
  -- a value that is read is that of a whole scalar
  pub single_found : (value : List ℕ) (end : ℕ) → first quote (rest text at) ≡ true
      → IsInside n c text (at + 1) value end → ScalarAt single_style n c text at value end
  unfolding read_scalar read_single
  single_found value end q i =
      let one = quote_at text at u b q in
      let inside : List ℕ = rest text (at + 1) in
      let p = on_parts (read_quoted read_single_one single_closes false n c inside)
      (λ found t. Some (flow_fold char_value found.0 found.1, t)) (value, rest text end) i.reads in
      let same = some_parts _ _ _ _ p.3 in
      let s : Scalar = single p.0.0 p.0.1 in
      let read : read_scalar n c (line_starts text at) (rest text at) ≡ Some (s, rest text end) =
      ap (read_scalar n c (line_starts text at)) one.splits
      ∙ (ap (λ (r : Read (List ℕ × List (Line ℕ))). on r (λ found t. Some (single found.0 found.1, t))) p.2
      ∙ ap (λ (t : List ℕ). Some (s, t)) same.1) in
      let above = i.above in
      record {
        above = omega arith;
        boundary = i.boundary;
        scalar = subst (λ v. IsScalar n c (line_starts text at) (rest text at) single_style v (rest text end)) same.0
            (is_scalar n c (line_starts text at) (rest text at) s (rest text end) read);
      }

  -- if none is read, no scalar is there
  pub no_single : first quote (rest text at) ≡ true → read_inside n c (rest text (at + 1)) ≡ None → NoScalarAt single_style n c text at
  unfolding read_scalar read_single
  no_single q e =
      let one = quote_at text at u b q in
      let inside : List ℕ = rest text (at + 1) in
      let none : read_quoted read_single_one single_closes false n c inside ≡ None =
      nothing (read_quoted read_single_one single_closes false n c inside) e in
      let read : read_scalar n c (line_starts text at) (rest text at) ≡ None =
      ap (read_scalar n c (line_starts text at)) one.splits
      ∙ ap (λ (r : Read (List ℕ × List (Line ℕ))). on r (λ found t. Some (single found.0 found.1, t))) none in
      λ s after styled stands. no_scalar n c (line_starts text at) (rest text at) read s after stands
    where
      nothing : (r : Read (List ℕ × List (Line ℕ))) → quoted_value char_value r ≡ None → r ≡ None
      nothing None h = refl
      nothing (Some r) h = absurd (none_some _ (sym h))
