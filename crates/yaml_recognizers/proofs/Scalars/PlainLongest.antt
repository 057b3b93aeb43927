-- The recognizer reads the longest plain scalar: none that fits at the start of the text goes further.
use Rattle.std.{proofs.Common.{◌≡◌, sym, ◌∙◌, ap, subst, append_assoc, length-append, length-drop, arith, ◌≤◌}, specs.Prelude.{ℕ, zero}}
use Rattle.std.specs.Prelude.{suc, Bool, true, false, cond, not, ◌||◌, List, [], ◌∷◌, ◌++◌, length, drop, flat_map, Some}
use Rattle.yaml_recognizers.proofs.Prelude.{and_parts, and_from, false≢true, cond-true, is_empty, no_marker, FlowContext, one_line, Line}
use Rattle.yaml_recognizers.proofs.Prelude.{Scalar, plain, plain_text, line_text, lines_text, lines_after, plain_kind, plain_lines}
use Rattle.yaml_recognizers.proofs.{Prelude.{scalar_text, scalar_fits}, Basics.Repeated.repeated_shorter, Scalars.Joins.line_joins}
use Rattle.yaml_recognizers.proofs.Scalars.{PlainRuns.run_goes_on, PlainScalars.{plain_regrouped, lines_spelled, join_stops, run_past}}
use Rattle.yaml_recognizers.{proofs.Scalars.PlainScalars.{plain_line_goes_on, lines_long, line_shrinks}, specs.Reading.Read}
use Rattle.yaml_recognizers.specs.{Repeated.{and_more, repeated}, Joins.{join_of, line_of}, PlainScalars.{read_run, read_plain_line}}
use Rattle.yaml_recognizers.specs.PlainScalars.{plain_lines_at, with_lines, read_plain, last_of}

-- before a further line nothing goes on
before_line : (n : ℕ) (c : FlowContext) (prev : ℕ) (before : List ℕ) (l : Line ℕ) (ls : List (Line ℕ))
    (after : List ℕ) → plain_lines n c before (l ∷ ls) after ≡ true
    → read_run c prev (lines_after plain_kind (l ∷ ls) after) ≡ []
before_line n c prev before l ls after h =
    let p = and_parts _ _ h in
    let q = and_parts _ _ p.0 in
    let r = and_parts _ _ q.0 in
    let j = line_joins plain_kind n before l (lines_after plain_kind ls after) r.1 in
    ap (read_run c prev) (lines_spelled l ls after)
    ∙ join_stops c prev (join_of l) (l.held ++ lines_after plain_kind ls after) r.0 j.0.prefix

-- a list without its first elements is no longer
drop_shorter : (k : ℕ) (text : List ℕ) → length (drop k text) ≤ length text
drop_shorter k text = omega (arith, length-drop k text)

-- the lines after a run, where extra goes on after it: they reach at least as far
lines_reach : (n : ℕ) (c : FlowContext) (fuel prev : ℕ) (before : List ℕ) (ls : List (Line ℕ)) (after : List ℕ)
    → length ls ≤ fuel → plain_lines n c before ls after ≡ true
    → let rest = lines_after plain_kind ls after in
    length (repeated (read_plain_line n c) fuel (drop (length (read_run c prev rest)) rest)).1 ≤ length after
unfolding repeated
lines_reach n c fuel prev before [] after m h =
    omega (
      arith,
      repeated_shorter (read_plain_line n c) (line_shrinks n c) fuel
          (drop (length (read_run c prev after)) after),
      drop_shorter (length (read_run c prev after)) after,
    )
lines_reach n c zero prev before (l ∷ ls) after m h = absurd (omega arith)
lines_reach n c (suc fuel) prev before (l ∷ ls) after m h =
    let rest : List ℕ = lines_after plain_kind ls after in
    let text : List ℕ = lines_after plain_kind (l ∷ ls) after in
    let extra : List ℕ = read_run c (last_of 32 l.held) rest in
    let here : drop (length (read_run c prev text)) text ≡ line_text plain_text l ++ rest =
    ap (λ (r : List ℕ). drop (length r) text) (before_line n c prev before l ls after h)
    ∙ append_assoc (line_text plain_text l) (flat_map (line_text plain_text) ls) after in
    let line : read_plain_line n c (line_text plain_text l ++ rest)
    ≡ Some (line_of (join_of l) (l.held ++ extra), drop (length extra) rest) =
    plain_line_goes_on n c before l ls after h in
    let more : length (repeated (read_plain_line n c) fuel (drop (length extra) rest)).1 ≤ length after =
    lines_reach n c fuel (last_of 32 l.held) l.held ls after (omega arith) (and_parts _ _ h).1 in
    subst (λ (t : List ℕ). length (repeated (read_plain_line n c) (suc fuel) t).1 ≤ length after) (sym here)
    (subst (λ (r : Read (Line ℕ)). length (and_more (line_text plain_text l ++ rest)
    (λ t. repeated (read_plain_line n c) fuel t) r).1 ≤ length after) (sym line) more)

-- a plain scalar is read, and no more is left than this
abbrev pub Reaches : List ℕ → Read Scalar → Type 0
Reaches after r = (prefix : List ℕ) × (more : List (Line ℕ)) × (rest : List ℕ) × (r ≡ Some (plain prefix more, rest))
    × (length rest ≤ length after)

-- the lines that are read go at least as far as lines that fit
lines_at_reach : (n : ℕ) (c : FlowContext) (prev : ℕ) (before : List ℕ) (ls : List (Line ℕ)) (after : List ℕ)
    → plain_lines n c before ls after ≡ true
    → is_empty ls || not (one_line c) ≡ true
    → let rest = lines_after plain_kind ls after in length (plain_lines_at n c (drop (length (read_run c prev rest)) rest)).1 ≤ length after
lines_at_reach n c prev before ls after h k = by_line (one_line c) ls h k
  where
    enough : (ls : List (Line ℕ)) → plain_lines n c before ls after ≡ true
        → let rest = lines_after plain_kind ls after in length ls ≤ length (drop (length (read_run c prev rest)) rest)
    enough [] h = omega arith
    enough (l ∷ ls) h =
        let text : List ℕ = lines_after plain_kind (l ∷ ls) after in
        let here : drop (length (read_run c prev text)) text ≡ text =
        ap (λ (r : List ℕ). drop (length r) text) (before_line n c prev before l ls after h) in
        rw here (omega (arith, lines_long (l ∷ ls), length-append (flat_map (line_text plain_text) (l ∷ ls)) after))

    by_line : (b : Bool) (ls : List (Line ℕ)) → plain_lines n c before ls after ≡ true → is_empty ls || not b ≡ true
        → let rest = lines_after plain_kind ls after in let text = drop (length (read_run c prev rest)) rest in
        length (cond b ([], text) (repeated (read_plain_line n c) (length text) text)).1 ≤ length after
    by_line true [] h k = drop_shorter (length (read_run c prev after)) after
    by_line true (l ∷ ls) h k = absurd (false≢true k)
    by_line false ls h k =
        let rest : List ℕ = lines_after plain_kind ls after in
        let text : List ℕ = drop (length (read_run c prev rest)) rest in
        lines_reach n c (length text) prev before ls after (enough ls h) h

-- where a plain scalar fits, one is read that reaches at least as far
pub plain_reaches : (n : ℕ) (c : FlowContext) (bol : Bool) (prefix : List ℕ) (more : List (Line ℕ)) (after : List ℕ)
    → scalar_fits n c bol (plain prefix more) after ≡ true
    → Reaches after (read_plain n c bol (scalar_text (plain prefix more) ++ after))
unfolding read_plain
plain_reaches n c bol [] more after h = absurd (false≢true (and_parts _ _ (and_parts _ _ (and_parts _ _ h).0).0).1)
plain_reaches n c bol (x ∷ xs) more after h =
    let p = and_parts _ _ h in
    let q = and_parts _ _ p.0 in
    let r = and_parts _ _ q.0 in
    let s = and_parts _ _ r.1 in
    let rest : List ℕ = lines_after plain_kind more after in
    let extra : List ℕ = read_run c (last_of x xs) rest in
    let regrouped : lines_text plain_text (x ∷ xs) more ++ after ≡ x ∷ (xs ++ rest) = plain_regrouped (x ∷ xs) more after in
    let unmarked : no_marker bol (x ∷ (xs ++ rest)) ≡ true = subst (λ (t : List ℕ). no_marker bol t ≡ true) regrouped r.0 in
    let run : read_run c x (xs ++ rest) ≡ xs ++ extra = run_goes_on c x xs rest s.1 in
    let found : List (Line ℕ) × List ℕ = plain_lines_at n c (drop (length extra) rest) in (
      x ∷ (xs ++ extra),
      found.0,
      found.1,
      ap (read_plain n c bol) regrouped
          ∙ (cond-true _ _ _ (and_from _ _ unmarked s.0)
          ∙ (ap (λ (r : List ℕ). with_lines (x ∷ r) (plain_lines_at n c (drop (length r) (xs ++ rest)))) run
          ∙ ap (λ (t : List ℕ). with_lines (x ∷ (xs ++ extra)) (plain_lines_at n c t)) (run_past xs extra rest))),
      lines_at_reach n c (last_of x xs) (x ∷ xs) more after q.1 p.1,
    )
