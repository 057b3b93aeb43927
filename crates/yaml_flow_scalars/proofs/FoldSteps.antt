-- Folds: from the places that the code finds to what the recognizer of joins reads.
use Rattle.std.{proofs.Common.{◌≡◌, ◌<◌, ◌≤◌, ◌⊎◌, ◌∙◌, sym, ap, append_assoc, subst, refl, inl, inr, arith}, specs.Prelude.{ℕ, zero, suc}}
use Rattle.std.specs.Prelude.{◌+◌, ◌-◌, Bool, true, false, cond, not, ◌&&◌, ◌||◌, ◌==◌, is_some, List, [], ◌∷◌, ◌++◌, length, Some, None}
use Rattle.yaml_flow_scalars.proofs.Prelude.{list_all, IsUtf8, IsCharBoundary, and_from, and_left, and_parts, and_right, or_left, or_right}
use Rattle.yaml_flow_scalars.proofs.Prelude.{or_from, cases_Bool, nat_tests, cases_lt, cond_both, cond-false, false≢true, not_from_false}
use Rattle.yaml_flow_scalars.proofs.Prelude.{drop_more, list_all-from_AllPass, line_break, space, white, rest, between, IsRun, rest-between}
use Rattle.yaml_flow_scalars.proofs.Prelude.{rest-end, IsBlind, blind-white, FlowEmptyLine, Break, indents, begins, first, marker}
use Rattle.yaml_flow_scalars.proofs.Prelude.{no_marker, spaces, read_break, drop_while, take_while, Join, at_break, after_blank, read_empty}
use Rattle.yaml_flow_scalars.proofs.Prelude.{with_lead, Read, all_of, drop_while_first, no_white_at_break, break_some, drop_while_all}
use Rattle.yaml_flow_scalars.proofs.Prelude.{take_while_all, Passed, no_lead, passed_all, passed_more, step_break, step_lead, empty_shrinks}
use Rattle.yaml_flow_scalars.proofs.Prelude.{chosen, none_some, on_parts, some_parts, AreSpaces, IsBreak, first-rest, spaces_there}
use Rattle.{yaml_flow_scalars.specs.Folds.{IsFold, IsPrefix, NoFold}, yaml_chars.proofs.Classes.line_break_no_white}
use Rattle.yaml_recognizers.proofs.Basics.Repeated.{repeated_end}

-- ---- runs

-- all characters of a run pass its test
pub run_every : (p : ℕ → Bool) (bs : List ℕ) (i j : ℕ) → IsRun p bs i j → list_all p (between bs i j) ≡ true
run_every p bs i j r = list_all-from_AllPass p (between bs i j) r.passes

-- after a run there is no such character
pub run_first : (p : ℕ → Bool) (bs : List ℕ) (i j : ℕ) → IsBlind p → IsUtf8 bs → IsRun p bs i j → first p (rest bs j) ≡ false
run_first p bs i j blind u r = elim (cases_lt j (length bs)) [
  | inl l ↦ first-rest p bs j blind u r.boundary ∙ (ap (first p) (drop_more bs j 0 l) ∙ r.stop l)
  | inr past ↦ ap (first p) (rest-end bs j past)
]

-- ---- the start of a line

every_spaced : (k : ℕ) (blank : List ℕ) → list_all white blank ≡ true → list_all white (spaces k ++ blank) ≡ true
every_spaced zero blank h = h
every_spaced (suc k) blank h = every_spaced k blank h

begins_spaced : (n : ℕ) (blank : List ℕ) → begins (spaces n) (spaces n ++ blank) ≡ true
begins_spaced zero blank = refl
begins_spaced (suc n) blank = begins_spaced n blank

-- fewer spaces than n, and after them none
begins_short : (n k : ℕ) (text : List ℕ) → k < n → first space text ≡ false → begins (spaces n) (spaces k ++ text) ≡ false
begins_short zero k text l h = absurd (omega arith)
begins_short (suc n) zero [] l h = refl
begins_short (suc n) zero (c ∷ cs) l h = and_left (c == 32) (begins (spaces n) cs) h
begins_short (suc n) (suc k) text l h = begins_short n k text (omega arith) h

take_while_spaced : (k : ℕ) (text : List ℕ) → (take_while white (spaces k ++ text)
    ≡ spaces k ++ take_while white text) × (drop_while white (spaces k ++ text) ≡ drop_while white text)
take_while_spaced zero text = (refl, refl)
take_while_spaced (suc k) text = let more = take_while_spaced k text in (ap (λ xs. 32 ∷ xs) more.0, more.1)

take_while_unspaced : (text : List ℕ) → first space text ≡ false → first space (take_while white text) ≡ false
take_while_unspaced [] h = refl
take_while_unspaced (c ∷ cs) h = cond_both (white c) (c ∷ take_while white cs) []
    (λ (t : List ℕ). first space t ≡ false) (λ _. h) (λ _. refl)

no_white_taken : (text : List ℕ) → first white text ≡ false → (take_while white text ≡ []) × (drop_while white text ≡ text)
no_white_taken [] h = (refl, refl)
no_white_taken (c ∷ cs) h = (rw h refl, rw h refl)

-- white that begins with none is no space
every_space_short : (k : ℕ) (text : List ℕ) → first white text ≡ true → first space text ≡ false
    → list_all space (spaces k ++ take_while white text) ≡ false
every_space_short zero [] w h = absurd (false≢true w)
every_space_short zero (c ∷ cs) w h = rw w (and_left (space c) (list_all space (take_while white cs)) h)
every_space_short (suc k) text w h = every_space_short k text w h

every_space_nil : (k : ℕ) → list_all space (spaces k ++ []) ≡ true
every_space_nil zero = refl
every_space_nil (suc k) = every_space_nil k

empty_there : (n : ℕ) (text : List ℕ) (stop : Break) (after : List ℕ)
    → begins (spaces n) (take_while white text) || list_all space (take_while white text) ≡ true
    → read_break (drop_while white text) ≡ Some (stop, after)
    → read_empty n text ≡ Some (record { blank = take_while white text; stop = stop }, after)
unfolding read_empty
empty_there n text stop after h e = rw (h, e) refl

empty_unbroken : (n : ℕ) (text : List ℕ) → read_break (drop_while white text) ≡ None → read_empty n text ≡ None
unfolding read_empty
empty_unbroken n text e = rw e (both (begins (spaces n) (take_while white text) || list_all space (take_while white text)))
  where
    both : (b : Bool) → ◌≡◌ {A = Read FlowEmptyLine} (cond b None None) None
    both true = refl
    both false = refl

empty_unindented : (n : ℕ) (text : List ℕ) → begins (spaces n) (take_while white text)
    || list_all space (take_while white text) ≡ false → read_empty n text ≡ None
unfolding read_empty
empty_unindented n text h = cond-false _ _ _ h

break_unwhite : (text : List ℕ) (stop : Break) (after : List ℕ) → read_break text ≡ Some (stop, after) → first white text ≡ false
break_unwhite text stop after e = broken text (sym (break_some text) ∙ ap (λ (r : Read Break). is_some r) e)
  where
    broken : (t : List ℕ) → first line_break t ≡ true → first white t ≡ false
    broken [] h = refl
    broken (c ∷ cs) h = line_break_no_white c h

-- what comes after all spaces at a place
spaced_to : (text : List ℕ) (at end : ℕ) → IsUtf8 text → IsCharBoundary text at → AreSpaces text at end
    → rest text at ≡ spaces (end - at) ++ rest text end
spaced_to text at end u b s =
    let above = s.above in
    let within = s.boundary.0 in
    let all : at + (end - at) ≡ end = omega arith in
    (spaces_there text at (end - at) u b (omega arith) (λ k from to. s.spaces k from (omega arith))).0
    ∙ ap (λ x. spaces (end - at) ++ rest text x) all

-- the first n of some spaces
spaces_split : (n k : ℕ) (text : List ℕ) → n ≤ k → spaces k ++ text ≡ spaces n ++ (spaces (k - n) ++ text)
spaces_split zero k text l = let e : k ≡ k - 0 = omega arith in ap (λ x. spaces x ++ text) e
spaces_split (suc n) zero text l = absurd (omega arith)
spaces_split (suc n) (suc k) text l =
    let e : k - n ≡ suc k - suc n = omega arith in
    ap (λ xs. 32 ∷ xs) (spaces_split n k text (omega arith)) ∙ ap (λ x. 32 ∷ (spaces n ++ (spaces x ++ text))) e

-- what the start of a line is, over its characters
record Prefixes (n : ℕ) (line after : List ℕ) (indented : Bool) : Type 0 where
  indent : indents n (take_while white line) ≡ indented
  skips : indented ≡ true → drop_while white line ≡ after
  empty : (stop : Break) (later : List ℕ) → read_break after ≡ Some (stop, later)
      → (e : FlowEmptyLine) × (read_empty n line ≡ Some (e, later))
  no_empty : read_break after ≡ None → read_empty n line ≡ None

indented_prefix : (n : ℕ) (blank after : List ℕ) → list_all white blank ≡ true → first white after ≡ false
    → Prefixes n (spaces n ++ (blank ++ after)) after true
indented_prefix n blank after w f =
    let line : List ℕ = spaces n ++ (blank ++ after) in
    let t : take_while white line ≡ spaces n ++ blank = (take_while_spaced n (blank ++ after)).0
    ∙ ap (λ xs. spaces n ++ xs) (take_while_all white blank after w f) in
    let d : drop_while white line ≡ after = (take_while_spaced n (blank ++ after)).1 ∙ drop_while_all white blank after w f in
    let deep : begins (spaces n) (take_while white line) ≡ true = ap (begins (spaces n)) t ∙ begins_spaced n blank in
    record {
      indent = and_from _ _ (ap (list_all white) t ∙ every_spaced n blank w) deep;
      skips = λ _. d;
      empty = λ stop later e. (_, empty_there n line stop later (or_left _ _ deep) (ap read_break d ∙ e));
      no_empty = λ e. empty_unbroken n line (ap read_break d ∙ e);
    }

short_prefix : (n k : ℕ) (after : List ℕ) → k < n → first space after ≡ false → Prefixes n (spaces k ++ after) after false
short_prefix n k after l f =
    let line : List ℕ = spaces k ++ after in
    let t : take_while white line ≡ spaces k ++ take_while white after = (take_while_spaced k after).0 in
    let d : drop_while white line ≡ drop_while white after = (take_while_spaced k after).1 in
    let few : begins (spaces n) (take_while white line) ≡ false = ap (begins (spaces n)) t
    ∙ begins_short n k (take_while white after) l (take_while_unspaced after f) in
    record {
      indent = and_right _ _ few;
      skips = λ h. absurd (false≢true h);
      empty = λ stop later e.
          (let none = no_white_taken after (break_unwhite after stop later e) in (
            _,
            empty_there n line stop later (or_right _ _
                (ap (list_all space) (t ∙ ap (λ xs. spaces k ++ xs) none.0) ∙ every_space_nil k))
                (ap read_break (d ∙ none.1) ∙ e),
          ));
      no_empty = λ e. elim (cases_Bool (first white after)) [
        | inl w ↦ empty_unindented n line (or_from _ _ few (ap (list_all space) t ∙ every_space_short k after w f))
        | inr w ↦ empty_unbroken n line (ap read_break (d ∙ (no_white_taken after w).1) ∙ e)
      ];
    }

prefix_is : (n : ℕ) (text : List ℕ) (at end : ℕ) (indented : Bool) → at ≤ end → IsCharBoundary text end
    → Prefixes n (rest text at) (rest text end) indented
    → IsPrefix n text at end indented
prefix_is n text at end indented above boundary f =
    record { above = above; boundary = boundary; indent = f.indent; skips = f.skips; empty = f.empty; no_empty = f.no_empty }

-- a line with enough spaces is indented
pub prefix_indented : (n : ℕ) (text : List ℕ) (at margin end : ℕ) → IsUtf8 text → IsCharBoundary text at
    → AreSpaces text at margin → n ≤ margin - at → IsRun white text margin end
    → IsPrefix n text at end true
prefix_indented n text at margin end u b s l r =
    let below = s.above in
    let above = r.above in
    let held : List ℕ = between text margin end in
    let after : List ℕ = rest text end in
    let more : List ℕ = spaces (margin - at - n) in
    let split : rest text at ≡ spaces n ++ ((more ++ held) ++ after) =
    spaced_to text at margin u b s
    ∙ (ap (λ xs. spaces (margin - at) ++ xs) (rest-between text margin end u above s.boundary r.boundary)
    ∙ (spaces_split n (margin - at) (held ++ after) l ∙ ap (λ xs. spaces n ++ xs) (sym (append_assoc more held after)))) in
    prefix_is n text at end true (omega arith) r.boundary (subst (λ (t : List ℕ). Prefixes n t after true) (sym split)
    (indented_prefix n (more ++ held) after (every_spaced (margin - at - n) held (run_every white text margin end r))
    (run_first white text margin end blind-white u r)))

-- a line with too few is not
pub prefix_short : (n : ℕ) (text : List ℕ) (at margin : ℕ) → IsUtf8 text → IsCharBoundary text at
    → AreSpaces text at margin → margin - at < n → IsPrefix n text at margin false
prefix_short n text at margin u b s l =
    prefix_is n text at margin false s.above s.boundary
    (subst (λ (t : List ℕ). Prefixes n t (rest text margin) false) (sym (spaced_to text at margin u b s))
    (short_prefix n (margin - at) (rest text margin) l s.stop))

unspaced : (text : List ℕ) → first white text ≡ false → first space text ≡ false
unspaced [] h = refl
unspaced (c ∷ cs) h = grind (arith, nat_tests)

some_needed : (n : ℕ) → (suc n == 0) ≡ false
some_needed n = grind (arith, nat_tests)

-- an empty line is indented only if it needs no spaces
pub prefix_empty : (n : ℕ) (text : List ℕ) (at next : ℕ) → IsCharBoundary text at → IsBreak text at next → IsPrefix n text at at (n == 0)
prefix_empty zero text at next b f =
    prefix_is zero text at at true (omega arith) b
    (indented_prefix zero [] (rest text at) refl (break_unwhite (rest text at) f.break (rest text next) f.reads))
prefix_empty (suc n) text at next b f =
    subst (λ indented. IsPrefix (suc n) text at at indented) (sym (some_needed n))
    (prefix_is (suc n) text at at false (omega arith) b (short_prefix (suc n) zero (rest text at) (omega arith)
    (unspaced (rest text at) (break_unwhite (rest text at) f.break (rest text next) f.reads))))

-- ---- the lines of a fold

-- The break at the place `at` and so many empty lines after it are passed; a line starts at the place `line`.
pub record Folding (n : ℕ) (text : List ℕ) (at line empties : ℕ) : Type 0 where
  pub above : at + empties < line
  pub boundary : IsCharBoundary text line
  pub stop : Break
  pub start : List ℕ
  pub broken : read_break (rest text at) ≡ Some (stop, start)
  pub lines : List FlowEmptyLine
  pub count : length lines ≡ empties
  pub passed : Passed n start lines (rest text line)

length-more : (es : List FlowEmptyLine) (e : FlowEmptyLine) → length (es ++ e ∷ []) ≡ length es + 1
length-more [] e = refl
length-more (x ∷ xs) e = let more : length (xs ++ e ∷ []) ≡ length xs + 1 = length-more xs e in omega arith

-- and goes on over an empty line
pub folding_goes_on : (n : ℕ) (text : List ℕ) (at line empties prefix next : ℕ) (indented : Bool)
    → Folding n text at line empties → IsPrefix n text line prefix indented
    → IsBreak text prefix next → Folding n text at next (empties + 1)
folding_goes_on n text at line empties prefix next indented g f b =
    let found = f.empty b.break (rest text next) b.reads in
    let above = g.above in
    let further = f.above in
    let after = b.above in
    record {
      above = omega arith;
      boundary = b.boundary;
      stop = g.stop;
      start = g.start;
      broken = g.broken;
      lines = g.lines ++ found.0 ∷ [];
      count = length-more g.lines found.0 ∙ ap (λ k. k + 1) g.count;
      passed = passed_more n g.start g.lines (rest text line) found.0 (rest text next) g.passed found.1;
    }

-- where no break comes after the line's white the start of the next line is read there
last_line : (n : ℕ) (text : List ℕ) (at line empties prefix : ℕ) (indented : Bool)
    → (g : Folding n text at line empties) → IsPrefix n text line prefix indented
    → read_break (rest text prefix) ≡ None → (escaped : Bool) (blank : List ℕ)
    → after_blank escaped n blank (rest text at) ≡ with_lead escaped n blank g.stop (g.lines, rest text line)
last_line n text at line empties prefix indented g f h escaped blank =
    step_break escaped n blank (rest text at) g.stop g.start g.broken
    ∙ ap (with_lead escaped n blank g.stop) (passed_all n g.start g.lines (rest text line) g.passed (f.no_empty h))

-- before a line that is indented it is a fold
pub fold_there : (n : ℕ) (text : List ℕ) (at line empties prefix : ℕ) (indented : Bool)
    → Folding n text at line empties → IsPrefix n text line prefix indented
    → read_break (rest text prefix) ≡ None → indented ≡ true → marker (rest text line) ≡ false → IsFold n text at empties prefix
fold_there n text at line empties prefix indented g f h i m =
    let above = g.above in
    let further = f.above in
    let lead : List ℕ = take_while white (rest text line) in
    record {
      above = omega arith;
      boundary = f.boundary;
      join = λ escaped blank. record { escaped = escaped; blank = blank; stop = g.stop; empties = g.lines; lead = lead };
      found = λ escaped blank.
          (last_line n text at line empties prefix indented g f h escaped blank
          ∙ (step_lead escaped n blank g.stop g.lines (rest text line) (and_from _ _ (f.indent ∙ i) (not_from_false _ m))
          ∙ ap (λ (t : List ℕ). Some (
            record {
              escaped = escaped;
              blank = blank;
              stop = g.stop;
              empties = g.lines;
              lead = lead;
            },
            t,
          )) (f.skips i)));
      escapes = λ escaped blank. refl;
      counts = λ escaped blank. g.count;
    }

-- before another line it is none
pub no_fold_there : (n : ℕ) (text : List ℕ) (at line empties prefix : ℕ) (indented : Bool)
    → Folding n text at line empties → IsPrefix n text line prefix indented
    → read_break (rest text prefix) ≡ None → (indented ≡ false) ⊎ (marker (rest text line) ≡ true) → NoFold n text at
no_fold_there n text at line empties prefix indented g f h w = λ escaped blank.
    last_line n text at line empties prefix indented g f h escaped blank
    ∙ no_lead escaped n blank g.stop g.lines (rest text line) (elim w [
      | inl i ↦ and_left _ _ (f.indent ∙ i)
      | inr m ↦ and_right _ _ (ap not m)
    ])

-- ---- after a fold

-- what is read as a join is followed by no break: all empty lines belong to it
join_solid : (escaped : Bool) (n : ℕ) (blank text : List ℕ) (j : Join) (after : List ℕ)
    → after_blank escaped n blank text ≡ Some (j, after) → at_break after ≡ false
unfolding after_blank
join_solid escaped n blank text j after e =
    let p = on_parts (read_break text) (λ stop t. with_lead escaped n blank stop (all_of (read_empty n) t)) (j, after) e in
    let more : List FlowEmptyLine × List ℕ = all_of (read_empty n) p.1 in
    let none : read_empty n more.1 ≡ None = repeated_end (read_empty n) (empty_shrinks n) (length p.1) p.1 (omega arith) in
    elim (chosen (indents n (take_while white more.1) && no_marker true more.1) _ _ _ p.3) [
      | inl q ↦ (let same : drop_while white more.1 ≡ after = (some_parts _ _ _ _ q.1).1 in
          let deep : begins (spaces n) (take_while white more.1) ≡ true = (and_parts _ _ (and_parts _ _ q.0).0).1 in
          let unbroken : read_break (drop_while white more.1) ≡ None = never more.1 deep (read_break (drop_while white more.1)) refl none in
          subst (λ (t : List ℕ). at_break t ≡ false) same (no_white_at_break (drop_while white more.1) (drop_while_first white more.1)
          ∙ (sym (break_some (drop_while white more.1)) ∙ ap (λ (r : Read Break). is_some r) unbroken)))
      | inr q ↦ absurd (none_some _ q.1)
    ]
  where
    never : (t : List ℕ) → begins (spaces n) (take_while white t) ≡ true → (r : Read Break)
        → read_break (drop_while white t) ≡ r → read_empty n t ≡ None → read_break (drop_while white t) ≡ None
    never t deep None e none = e
    never t deep (Some r) e none = absurd (none_some _ (sym none ∙ empty_there n t r.0 r.1 (or_left _ _ deep) e))

-- after a fold comes something solid
pub fold_solid : (n : ℕ) (text : List ℕ) (at empties next : ℕ) → IsFold n text at empties next → at_break (rest text next) ≡ false
fold_solid n text at empties next f = join_solid false n [] (rest text at) (f.join false []) (rest text next) (f.found false [])
