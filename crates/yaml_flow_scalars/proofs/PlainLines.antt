-- Lines of a plain scalar at places of a text: what the recognizer reads from where they begin and end.
use Rattle.std.proofs.Common.{◌≡◌, refl, sym, ◌∙◌, ap, append_assoc, append-nil, arith, length, inl, inr, ℕ, zero, suc, ◌<◌, get_or}
use Rattle.std.specs.Prelude.{true, false, cond, List, [], ◌∷◌, ◌++◌, drop, flat_map, replicate, slice_range, slice_index, Some, None}
use Rattle.yaml_flow_scalars.proofs.Prelude.{IsUtf8, IsCharBoundary, chars, cases_Bool, cond-false, drop_more, chars-append, chars-IsAscii}
use Rattle.yaml_flow_scalars.proofs.Prelude.{drop-append_seam, line_break, white, rest, between, IsRun, rest-between, between-nil}
use Rattle.yaml_flow_scalars.proofs.Prelude.{blind-white, blind-line_break, first, is_empty, FlowContext, one_line, Line, line_value}
use Rattle.yaml_flow_scalars.proofs.Prelude.{char_value, values, folded_break, line_feeds, take_while, drop_while, Join, line_of, read_join}
use Rattle.yaml_flow_scalars.proofs.Prelude.{after_blank, with_run, read_plain_line, plain_lines_at, unbroken, take_while_all}
use Rattle.yaml_flow_scalars.proofs.Prelude.{drop_while_all, no_break, line_after_join, no_line_no_join, lines_of_key, no_more_lines}
use Rattle.yaml_flow_scalars.proofs.{Prelude.{one_more_line, none_some, first-rest}, FoldSteps.{run_every, run_first}}
use Rattle.yaml_flow_scalars.{proofs.PlainPieces.between_some, specs.{Folds.{IsFold, NoFold}, PlainPlaces.{IsPlainRun, IsNextLine}}}
use Rattle.yaml_flow_scalars.specs.PlainPlaces.{NoNextLine, lines_value}

-- ---- the end of a line

-- A join without a backslash begins with the white at the place.
join_at : (n : ℕ) (text : List ℕ) (at blank_end : ℕ) → IsUtf8 text → IsCharBoundary text at → IsRun white text at blank_end
    → read_join false n (rest text at) ≡ after_blank false n (between text at blank_end) (rest text blank_end)
unfolding read_join
join_at n text at blank_end u b run =
    let w = run_every white text at blank_end run in
    let f = run_first white text at blank_end blind-white u run in
    let split = rest-between text at blank_end u run.above b run.boundary in
    ap (λ t. after_blank false n (take_while white t) (drop_while white t)) split
    ∙ (ap (λ t. after_blank false n t (drop_while white (between text at blank_end ++ rest text blank_end)))
    (take_while_all white (between text at blank_end) (rest text blank_end) w f)
    ∙ ap (after_blank false n (between text at blank_end)) (drop_while_all white (between text at blank_end) (rest text blank_end) w f))

-- a break is where a fold begins
break_of_fold : (n : ℕ) (text : List ℕ) (at empties next : ℕ) → IsUtf8 text → IsCharBoundary text at
    → IsFold n text at empties next → line_break (slice_index text at) ≡ true
break_of_fold n text at empties next u b fold = elim (cases_Bool (line_break (slice_index text at))) [
  | inl e ↦ e
  | inr e ↦ (let above = fold.above in
      let inside = fold.boundary.0 in
      let none : first line_break (rest text at) ≡ false = first-rest line_break text at blind-line_break u b
      ∙ (ap (first line_break) (drop_more text at 0 (omega arith)) ∙ e) in
      absurd (none_some (fold.join false [], rest text next)
      (sym (no_break false n [] (rest text at) (unbroken (rest text at) none)) ∙ fold.found false [])))
]

-- ---- a further line

-- characters mean themselves
pub values_are : (xs : List ℕ) → values char_value xs ≡ xs
values_are [] = refl
values_are (x ∷ xs) = ap (λ ys. x ∷ ys) (values_are xs)

line_means : (j : Join) (empties : ℕ) (held : List ℕ) → j.escaped ≡ false → length j.empties ≡ empties
    → line_value char_value (line_of j held) ≡ folded_break empties ++ held
line_means j empties held e k =
    ap (λ b. cond b (line_feeds (length j.empties)) (folded_break (length j.empties)) ++ values char_value held) e
    ∙ (ap (λ m. folded_break m ++ values char_value held) k ∙ ap (λ t. folded_break empties ++ t) (values_are held))

module _ (n : ℕ) (c : FlowContext) (text : List ℕ) (at blank_end : ℕ) (u : IsUtf8 text) (b : IsCharBoundary text at)
    (run : IsRun white text at blank_end) where
  -- without a fold there is no further line
  pub no_fold_no_line : NoFold n text blank_end → NoNextLine n c text at
  no_fold_no_line none =
      no_more_lines n c (rest text at) (no_line_no_join n c (rest text at)
      (join_at n text at blank_end u b run ∙ none false (between text at blank_end)))

  module _ (empties next end : ℕ) (fold : IsFold n text blank_end empties next) (held : IsPlainRun c false text next end) where
    line_read : read_plain_line n c (rest text at)
        ≡ with_run (fold.join false (between text at blank_end)) (rest text next) (between text next end)
    line_read =
        let j : Join = fold.join false (between text at blank_end) in
        line_after_join n c (rest text at) j (rest text next)
        (join_at n text at blank_end u b run ∙ fold.found false (between text at blank_end))
        ∙ ap (with_run j (rest text next)) (held.reads 32 refl)

    -- nor if it holds nothing
    pub empty_no_line : end ≡ next → NoNextLine n c text at
    empty_no_line e =
        no_more_lines n c (rest text at)
        (line_read ∙ ap (with_run (fold.join false (between text at blank_end)) (rest text next))
        (ap (between text next) e ∙ between-nil text next))

    -- else there is one
    pub next_line_is : one_line c ≡ false → next < end → IsNextLine n c text at empties next end
    next_line_is k l =
        let blank : List ℕ = between text at blank_end in
        let j : Join = fold.join false blank in
        let inside : List ℕ = between text next end in
        let left : drop (length inside) (rest text next) ≡ rest text end =
        ap (drop (length inside)) (rest-between text next end u held.above fold.boundary held.boundary)
        ∙ drop-append_seam inside (rest text end) in
        let found : read_plain_line n c (rest text at) ≡ Some (line_of j inside, rest text end) =
        line_read
        ∙ (cond-false (is_empty inside) None (Some (line_of j inside, drop (length inside) (rest text next)))
        (between_some text next end u l fold.boundary held.boundary)
        ∙ ap (λ t. Some (line_of j inside, t)) left) in
        record {
          stop = blank_end;
          after = run.above;
          before = fold.above;
          breaks = break_of_fold n text blank_end empties next u run.boundary fold;
          holds = l;
          prefix = fold.boundary;
          boundary = held.boundary;
          line = line_of j inside;
          found = one_more_line n c (rest text at) (line_of j inside) (rest text end) k found;
          means = line_means j empties inside (fold.escapes false blank) (fold.counts false blank);
        }

-- in a key there is none
pub key_no_line : (n : ℕ) (c : FlowContext) (text : List ℕ) (at : ℕ) → one_line c ≡ true → NoNextLine n c text at
key_no_line n c text at k = lines_of_key n c (rest text at) k

-- ---- all further lines

-- what a line and those after it mean
pub lines_step : (n : ℕ) (c : FlowContext) (text : List ℕ) (at empties start end : ℕ) → IsNextLine n c text at empties start end
    → (lines_value n c text at ≡ (folded_break empties ++ between text start end) ++ lines_value n c text end)
    × ((plain_lines_at n c (rest text at)).1 ≡ (plain_lines_at n c (rest text end)).1)
lines_step n c text at empties start end next = (
  ap (λ (found : List (Line ℕ) × List ℕ). flat_map (line_value char_value) found.0) next.found
      ∙ ap (λ t. t ++ lines_value n c text end) next.means,
  ap (λ (found : List (Line ℕ) × List ℕ). found.1) next.found,
)

-- where no further line comes, there are none
pub lines_stop : (n : ℕ) (c : FlowContext) (text : List ℕ) (at : ℕ) → NoNextLine n c text at
    → (lines_value n c text at ≡ []) × ((plain_lines_at n c (rest text at)).1 ≡ rest text at)
lines_stop n c text at none = (
  ap (λ (found : List (Line ℕ) × List ℕ). flat_map (line_value char_value) found.0) none,
  ap (λ (found : List (Line ℕ) × List ℕ). found.1) none,
)

-- ---- what is pushed

below_ascii : (k x i : ℕ) → x < 128 → get_or (replicate k x) i 0 < 128
below_ascii zero x i l = omega arith
below_ascii (suc k) x zero l = l
below_ascii (suc k) x (suc i) l = below_ascii k x i l

chars-folded_break : (k : ℕ) → chars (folded_break k) ≡ folded_break k
chars-folded_break zero = chars-IsAscii (folded_break 0) (λ i. below_ascii 1 32 i (omega arith))
chars-folded_break (suc k) = chars-IsAscii (folded_break (suc k)) (λ i. below_ascii (suc k) 10 i (omega arith))

-- a fold, and what its line holds
pub line_pushed : (text value longer longest piece : List ℕ) (empties start end : ℕ) → IsUtf8 value → IsUtf8 longer
    → longer ≡ value ++ folded_break empties
    → longest ≡ longer ++ piece → piece ≡ slice_range text start end
    → chars longest ≡ chars value ++ (folded_break empties ++ between text start end)
line_pushed text value longer longest piece empties start end u v e f g =
    ap chars f
    ∙ (chars-append longer piece v
    ∙ (ap (λ t. chars t ++ chars piece) e
    ∙ (ap (λ t. t ++ chars piece) (chars-append value (folded_break empties) u)
    ∙ (ap (λ t. (chars value ++ t) ++ chars piece) (chars-folded_break empties)
    ∙ (append_assoc (chars value) (folded_break empties) (chars piece)
    ∙ ap (λ t. chars value ++ (folded_break empties ++ chars t)) g)))))

-- the value so far, with what is left, before a further line
pub line_next : (n : ℕ) (c : FlowContext) (text whole so_far longest line : List ℕ) (at empties start end : ℕ)
    → IsNextLine n c text at empties start end
    → whole ≡ so_far ++ line ++ lines_value n c text at → longest ≡ so_far ++ line
    → whole ≡ longest ++ (folded_break empties ++ between text start end) ++ lines_value n c text end
line_next n c text whole so_far longest line at empties start end next e f =
    e
    ∙ (ap (λ t. t ++ lines_value n c text at) (sym f)
    ∙ (ap (λ t. longest ++ t) (lines_step n c text at empties start end next).0
    ∙ sym (append_assoc longest (folded_break empties ++ between text start end) (lines_value n c text end))))

-- and after the last one
pub line_last : (n : ℕ) (c : FlowContext) (text whole so_far longest line : List ℕ) (at : ℕ) → NoNextLine n c text at
    → whole ≡ so_far ++ line ++ lines_value n c text at → longest ≡ so_far ++ line → longest ≡ whole
line_last n c text whole so_far longest line at none e f =
    f ∙ sym (e ∙ (ap (λ t. so_far ++ line ++ t) (lines_stop n c text at none).0 ∙ append-nil (so_far ++ line)))
