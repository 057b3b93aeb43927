-- Runs of plain characters at places of a text: what the recognizer of a run reads over white, and over plain
-- characters.
use Rattle.std.proofs.Common.{◌≡◌, refl, sym, ◌∙◌, ap, append_assoc, append-nil, arith, length, length-drop, inl, inr, ℕ, ◌-◌, ◌<◌, ◌≤◌}
use Rattle.std.specs.Prelude.{Bool, true, false, cond, not, ◌&&◌, ◌||◌, ◌==◌, nat_lt, List, [], ◌∷◌, ◌++◌, drop, slice_range, codes}
use Rattle.yaml_flow_scalars.proofs.Prelude.{list_all, IsUtf8, IsCharBoundary, and_parts, cases_lt, false≢true, eqb-true, nat_tests}
use Rattle.yaml_flow_scalars.proofs.Prelude.{append_cancel_right, length-take, is_in, ns, white, rest, between, IsRun, rest-between}
use Rattle.yaml_flow_scalars.proofs.Prelude.{between-append, between-nil, encodes-between, blind-white, first, is_empty, FlowContext, outer}
use Rattle.yaml_flow_scalars.proofs.Prelude.{inner, block_key, flow_key, safe, plain_next, read_run, last_of, no_run, no_run_at_end}
use Rattle.yaml_flow_scalars.proofs.Prelude.{step_char, step_white, stop_white, simple}
use lib.Utf8.{encodes}
use Rattle.yaml_flow_scalars.specs.PlainPlaces.{goes_on_plain, IsPlainPiece, NoPlainPiece, IsPlainRun}
use Rattle.yaml_flow_scalars.proofs.FoldSteps.{run_every, run_first}

-- ---- the character before

next_by_ns : (c : FlowContext) (one other x : ℕ) (xs : List ℕ) → ns one ≡ ns other → plain_next c one x xs ≡ plain_next c other x xs
next_by_ns c one other x xs e =
    ap (λ b. (safe c x && not (is_in x (codes ":#"))) || ((x == 58) && first (safe c) xs) || ((x == 35) && b)) e

-- a run goes by the character before it only as far as that is no white
pub run_by_ns : (c : FlowContext) (one other : ℕ) (text : List ℕ) → ns one ≡ ns other → read_run c one text ≡ read_run c other text
unfolding read_run
run_by_ns c one other [] e = refl
run_by_ns c one other (x ∷ xs) e =
    ap (λ b. cond (b || (white x && not (is_empty (read_run c x xs)))) (x ∷ read_run c x xs) []) (next_by_ns c one other x xs e)

-- a character that is ns, or isn't
pub before_of : (black : Bool) → (before : ℕ) × (ns before ≡ black)
before_of true = (97, refl)
before_of false = (32, refl)

-- ---- plain characters

safe_is_ns : (c : FlowContext) (x : ℕ) → safe c x ≡ true → ns x ≡ true
safe_is_ns outer x h = h
safe_is_ns block_key x h = h
safe_is_ns inner x h = (and_parts _ _ h).0
safe_is_ns flow_key x h = (and_parts _ _ h).0

by_three : (a b d e : Bool) → (a ≡ true → e ≡ true) → (b ≡ true → e ≡ true) → (d ≡ true → e ≡ true) → a || b || d ≡ true → e ≡ true
by_three true b d e f g h k = f refl
by_three false true d e f g h k = g refl
by_three false false true e f g h k = h refl
by_three false false false e f g h k = absurd (false≢true k)

-- a plain character is ns
pub plain_is_ns : (c : FlowContext) (before x : ℕ) (xs : List ℕ) → plain_next c before x xs ≡ true → ns x ≡ true
plain_is_ns c before x xs h =
    by_three (safe c x && not (is_in x (codes ":#"))) ((x == 58) && first (safe c) xs) ((x == 35) && ns before) (ns x)
    (λ e. safe_is_ns c x (and_parts (safe c x) (not (is_in x (codes ":#"))) e).0)
    (λ e. ap ns (eqb-true x 58 (and_parts (x == 58) (first (safe c) xs) e).0))
    (λ e. ap ns (eqb-true x 35 (and_parts (x == 35) (ns before) e).0)) h

-- a run goes on with a plain character
pub one_goes_on : (c : FlowContext) (before last x : ℕ) (xs : List ℕ) → plain_next c before x xs ≡ true → ns last ≡ true
    → read_run c before (x ∷ xs) ≡ x ∷ read_run c last xs
one_goes_on c before last x xs h e =
    step_char c before x xs h ∙ ap (λ t. x ∷ t) (run_by_ns c x last xs (plain_is_ns c before x xs h ∙ sym e))

-- a simple character is plain wherever it is
pub simple_is_plain : (c : FlowContext) (before x : ℕ) (xs : List ℕ) → simple c x ≡ true → plain_next c before x xs ≡ true
simple_is_plain c before x xs h = rw ((and_parts (nat_lt x 128) _ h).1) refl

-- ---- white

some_after : (xs ys : List ℕ) → is_empty ys ≡ false → is_empty (xs ++ ys) ≡ false
some_after [] ys h = h
some_after (x ∷ xs) ys h = refl

-- a run goes on after white
over_white : (c : FlowContext) (before : ℕ) (blank tail : List ℕ) → list_all white blank ≡ true
    → is_empty (read_run c (last_of before blank) tail) ≡ false
    → read_run c before (blank ++ tail) ≡ blank ++ read_run c (last_of before blank) tail
unfolding last_of
over_white c before [] tail w h = refl
over_white c before (x ∷ xs) tail w h =
    let p : (white x ≡ true) × (list_all white xs ≡ true) = and_parts _ _ w in
    let more : read_run c x (xs ++ tail) ≡ xs ++ read_run c (last_of x xs) tail = over_white c x xs tail p.1 h in
    step_white c before x (xs ++ tail) p.0 (ap is_empty more ∙ some_after xs (read_run c (last_of x xs) tail) h) ∙ ap (λ t. x ∷ t) more

-- or ends before it
none_over_white : (c : FlowContext) (before : ℕ) (blank tail : List ℕ) → list_all white blank ≡ true
    → read_run c (last_of before blank) tail ≡ [] → read_run c before (blank ++ tail) ≡ []
unfolding last_of
none_over_white c before [] tail w h = h
none_over_white c before (x ∷ xs) tail w h =
    let p : (white x ≡ true) × (list_all white xs ≡ true) = and_parts _ _ w in
    let more : read_run c x (xs ++ tail) ≡ [] = none_over_white c x xs tail p.1 h in
    stop_white c before x (xs ++ tail) p.0 (ap is_empty more)

white_is_no_ns : (x : ℕ) → white x ≡ true → ns x ≡ false
white_is_no_ns x h = grind (arith, nat_tests)

-- after whitespace, the character before a place is whitespace
after_white : (before : ℕ) (blank : List ℕ) → list_all white blank ≡ true → ns (last_of before blank) ≡ (ns before && is_empty blank)
unfolding last_of
after_white before [] w = right (ns before)
  where
    right : (b : Bool) → b ≡ (b && true)
    right true = refl
    right false = refl
after_white before (x ∷ xs) w =
    let p : (white x ≡ true) × (list_all white xs ≡ true) = and_parts _ _ w in
    after_white x xs p.1 ∙ (ap (λ b. b && is_empty xs) (white_is_no_ns x p.0) ∙ none (ns before))
  where
    none : (b : Bool) → false ≡ (b && false)
    none true = refl
    none false = refl

no_run_here : (c : FlowContext) (before : ℕ) (text : List ℕ) → goes_on_plain c before text ≡ false
    → first white text ≡ false → read_run c before text ≡ []
no_run_here c before [] h w = no_run_at_end c before
no_run_here c before (x ∷ xs) h w = no_run c before x xs h w

-- ---- at places

-- between two different places there is something
pub between_some : (text : List ℕ) (i j : ℕ) → IsUtf8 text → i < j → IsCharBoundary text i → IsCharBoundary text j
    → is_empty (between text i j) ≡ false
between_some text i j u l b d = some (between text i j) (encodes-between text i j u (omega arith) b d)
  where
    some : (xs : List ℕ) → encodes xs ≡ slice_range text i j → is_empty xs ≡ false
    some [] e = absurd (omega (arith, ap (λ (x : List ℕ). length x) e, length-take (j - i) (drop i text), length-drop i text, d.0))
    some (x ∷ xs) e = refl

-- a piece of one character
pub one_piece : (c : FlowContext) (black : Bool) (text : List ℕ) (at end x : ℕ) → IsUtf8 text → IsCharBoundary text at
    → at < end → IsCharBoundary text end
    → rest text at ≡ x ∷ rest text end → ((before : ℕ) → ns before ≡ black
    → plain_next c before x (rest text end) ≡ true) → IsPlainPiece c black text at end
one_piece c black text at end x u b l d e h =
    let one : between text at end ≡ x ∷ [] = append_cancel_right (between text at end) (x ∷ []) (rest text end)
    (sym (rest-between text at end u (omega arith) b d) ∙ e) in
    record {
      above = l;
      boundary = d;
      goes_on = λ before last p q.
          ap (read_run c before) e ∙ (one_goes_on c before last x (rest text end) (h before p) q
          ∙ ap (λ t. t ++ read_run c last (rest text end)) (sym one));
    }

-- What a run from one place reads up to another, and goes on to read there. It begins after a character that is no
-- white, if black.
abbrev pub GoesOn : FlowContext → Bool → Bool → List ℕ → ℕ → ℕ → Type 0
GoesOn c black black_after text from end =
    (before last : ℕ) → ns before ≡ black → ns last ≡ black_after
    → read_run c before (rest text from) ≡ between text from end ++ read_run c last (rest text end)

-- a run goes on from where it starts
pub goes_from : (c : FlowContext) (black : Bool) (text : List ℕ) (from : ℕ) → GoesOn c black black text from from
goes_from c black text from before last e f =
    run_by_ns c before last (rest text from) (e ∙ sym f) ∙ ap (λ t. t ++ read_run c last (rest text from)) (sym (between-nil text from))

empty_between : (text : List ℕ) (i j : ℕ) → IsUtf8 text → i ≤ j → IsCharBoundary text i → IsCharBoundary text j
    → is_empty (between text i j) ≡ (j == i)
empty_between text i j u l b d = elim (cases_lt i j) [
  | inl k ↦ between_some text i j u k b d ∙ sym (let e : (j == i) ≡ false = grind (arith, nat_tests) in e)
  | inr k ↦ (let e : j ≡ i = omega arith in
      ap (λ k. is_empty (between text i k)) e ∙ (ap is_empty (between-nil text i)
      ∙ sym (let f : (j == i) ≡ true = grind (arith, nat_tests) in f)))
]

module _ (c : FlowContext) (black black_after : Bool) (text : List ℕ) (from end place : ℕ) (u : IsUtf8 text)
    (start : IsCharBoundary text from) (b : IsCharBoundary text end)
    (l : from ≤ end) (goes : GoesOn c black black_after text from end) (run : IsRun white text end place) where
  -- after the white before the place
  at_place : (middle : ℕ) → ns middle ≡ black_after → ns (last_of middle (between text end place)) ≡ (black_after && (place == end))
  at_place middle m =
      after_white middle (between text end place) (run_every white text end place run)
      ∙ (ap (λ p. p && is_empty (between text end place)) m
      ∙ ap (λ p. black_after && p) (empty_between text end place u run.above b run.boundary))

  -- a piece more is read
  pub piece_more : (next : ℕ) → IsPlainPiece c (black_after && (place == end)) text place next → GoesOn c black true text from next
  piece_more next piece before last e f =
      let above = run.above in
      let past = piece.above in
      let m = before_of black_after in
      let blank : List ℕ = between text end place in
      let held : List ℕ = between text place next in
      let after : List ℕ = read_run c last (rest text next) in
      let here : read_run c (last_of m.0 blank) (rest text place) ≡ held ++ after =
      piece.goes_on (last_of m.0 blank) last (at_place m.0 m.1) f in
      let some : is_empty (read_run c (last_of m.0 blank) (rest text place)) ≡ false =
      ap is_empty here ∙ some_before held after (between_some text place next u past run.boundary piece.boundary) in
      let whole : between text from next ≡ between text from end ++ (blank ++ held) =
      between-append text from end next u l (omega arith) start b piece.boundary
      ∙ ap (λ t. between text from end ++ t) (between-append text end place next u above (omega arith) b run.boundary piece.boundary) in
      goes before m.0 e m.1
      ∙ (ap (λ t. between text from end ++ t)
      (ap (read_run c m.0) (rest-between text end place u above b run.boundary)
      ∙ (over_white c m.0 blank (rest text place) (run_every white text end place run) some ∙ ap (λ t. blank ++ t) here))
      ∙ (regroup (between text from end) blank held after ∙ ap (λ t. t ++ after) (sym whole)))
    where
      some_before : (xs ys : List ℕ) → is_empty xs ≡ false → is_empty (xs ++ ys) ≡ false
      some_before [] ys h = absurd (false≢true (sym h))
      some_before (x ∷ xs) ys h = refl

      regroup : (p q r s : List ℕ) → p ++ (q ++ (r ++ s)) ≡ (p ++ (q ++ r)) ++ s
      regroup p q r s = simp append_assoc

  -- where no piece comes, the run ends
  pub run_ends_at : NoPlainPiece c (black_after && (place == end)) text place → IsPlainRun c black text from end
  run_ends_at none = record {
    above = l;
    boundary = b;
    reads = λ before e.
        let m = before_of black_after in
        let blank : List ℕ = between text end place in
        let here : read_run c (last_of m.0 blank) (rest text place) ≡ [] =
        no_run_here c (last_of m.0 blank) (rest text place) (none (last_of m.0 blank) (at_place m.0 m.1))
        (run_first white text end place blind-white u run) in
        goes before m.0 e m.1
        ∙ (ap (λ t. between text from end ++ t)
        (ap (read_run c m.0) (rest-between text end place u run.above b run.boundary)
        ∙ none_over_white c m.0 blank (rest text place) (run_every white text end place run) here)
        ∙ append-nil (between text from end));
  }
