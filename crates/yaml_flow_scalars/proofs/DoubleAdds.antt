-- What the scanner of double-quoted scalars adds to its value, a run of characters, an escape or a join at a time, and
-- that it refuses rightly.
use Rattle.std.proofs.Common.{◌≡◌, ℕ, zero, suc, ◌+◌, ◌<◌, Bool, true, false, ◌&&◌, List, [], ◌∷◌, ◌++◌, refl, ap, sym, ◌∙◌, subst, arith}
use Rattle.std.proofs.{Common.{length, inl, inr, get_or, append-nil, append_assoc, Some, None}, lemmas.List.Folds.list_all-append}
use Rattle.std.specs.Prelude.{◌==◌, is_some, if◌then◌else◌, slice_range}
use Rattle.yaml_flow_scalars.proofs.Prelude.{encode_utf8, list_all, IsUtf8, IsCharBoundary, chars, cases_lt, and_parts, and_from, and_left}
use Rattle.yaml_flow_scalars.proofs.Prelude.{false≢true, cond-true, cond-false, ne_eqb, nat_tests, list_all-from_AllPass, chars-nil}
use Rattle.yaml_flow_scalars.proofs.Prelude.{chars-append, chars-encodes, white, line_break, rest, between, IsRun, IsCharAt, char_at}
use Rattle.yaml_flow_scalars.proofs.Prelude.{rest-end, rest-between, between-append, run_stops, first, Break, lf, cr, cr_lf, break_text}
use Rattle.yaml_flow_scalars.proofs.Prelude.{FlowContext, one_line, line_feeds, folded_break, read_break, past, Read, Join, at_break}
use Rattle.yaml_flow_scalars.proofs.Prelude.{read_join, read_held, read_item, double_closes, with_prefix, join_value, white_at_break}
use Rattle.yaml_flow_scalars.proofs.Prelude.{no_white_at_break, BreakOf, break_sound, break_some, unbroken, sound_is, unescaped_read}
use Rattle.yaml_flow_scalars.proofs.{Prelude.{step_escaped, no_break}, FoldSteps.fold_solid, DoublePlaces.{blind-raw_char, byte_read}}
use Rattle.yaml_flow_scalars.proofs.DoubleReads.{with_prefix-nil, raw_no_white, escaped_break, run_read, item_read, quote_read, end_read}
use Rattle.yaml_flow_scalars.{proofs.DoubleReads.{stray_read, key_read, no_join_read, join_read, twice_read}, specs.Folds.IsWhiteStart}
use Rattle.yaml_flow_scalars.specs.{Folds.{IsFold, NoFold}, DoubleScan.{double_value, raw_char, Adds, EscapeAt, NoEscapeAt, BeginsJoin}}
use Rattle.yaml_flow_scalars.specs.DoubleScan.{JoinsAt, NoJoinAt}

-- ---- characters

-- an ASCII character is at a place only where its byte is
pub no_char : (bs : List ℕ) (i x k : ℕ) → IsCharAt bs i x → k < 128 → (get_or bs i 0 ≡ k → ⊥) → x == k ≡ false
no_char bs i x k at a h = ne_eqb x k (λ e. elim (cases_lt (get_or bs i 0) 128) [
  | inl l ↦ h (sym (at.low l) ∙ e)
  | inr m ↦ (let above = at.high m in absurd (omega arith))
])

-- ---- what is added

with_prefix-with_prefix : (xs ys : List ℕ) (r : Read (List ℕ)) → with_prefix xs (with_prefix ys r) ≡ with_prefix (xs ++ ys) r
with_prefix-with_prefix xs ys None = refl
with_prefix-with_prefix xs ys (Some r) = ap (λ (v : List ℕ). Some (v, r.1)) (sym (append_assoc xs ys r.0))

module _ (n : ℕ) (c : FlowContext) (text : List ℕ) where
  -- bytes that spell what the text between the places means
  pub adds : (old piece new : List ℕ) (from to : ℕ) → IsUtf8 old → IsCharBoundary text to
      → double_value n c (rest text from) ≡ with_prefix (chars piece) (double_value n c (rest text to))
      → new ≡ old ++ piece → Adds n c text old from new to
  adds old piece new from to u b h e =
      let later : Read (List ℕ) = double_value n c (rest text to) in
      record {
        boundary = b;
        means = ap (λ (v : List ℕ). with_prefix v later) (ap chars e ∙ chars-append old piece u)
            ∙ (sym (with_prefix-with_prefix (chars old) (chars piece) later) ∙ ap (with_prefix (chars old)) (sym h));
      }

  -- what is added, and then more
  pub adds_more : (old : List ℕ) (from : ℕ) (mid : List ℕ) (place : ℕ) (new : List ℕ) (to : ℕ)
      → Adds n c text old from mid place → Adds n c text mid place new to
      → Adds n c text old from new to
  adds_more old from mid place new to h g = record { boundary = g.boundary; means = g.means ∙ h.means }

  -- where nothing can be read after what was added, nothing can be read from the start on
  pub adds_none : (old : List ℕ) (from : ℕ) (new : List ℕ) (to : ℕ) → Adds n c text old from new to
      → double_value n c (rest text to) ≡ None → double_value n c (rest text from) ≡ None
  adds_none old from new to h e = frontless (chars old) (double_value n c (rest text from)) (sym h.means ∙ ap (with_prefix (chars new)) e)
    where
      frontless : (xs : List ℕ) (r : Read (List ℕ)) → with_prefix xs r ≡ None → r ≡ None
      frontless xs None e = refl
      frontless xs (Some r) e = cc

  -- ---- runs

  module _ (u : IsUtf8 text) (from end : ℕ) (b : IsCharBoundary text from) (run : IsRun raw_char text from end) where
    run_all : list_all raw_char (between text from end) ≡ true
    run_all = list_all-from_AllPass raw_char (between text from end) run.passes

    -- no white comes after it, since white means itself
    pub run_at_break : at_break (rest text end) ≡ first line_break (rest text end)
    run_at_break = no_white_at_break (rest text end) (by_text (rest text end) refl)
      where
        by_text : (t : List ℕ) → rest text end ≡ t → first white t ≡ false
        by_text [] e = refl
        by_text (x ∷ xs) e = raw_no_white x (run_stops raw_char text from end x xs blind-raw_char u run e)

    run_value : at_break (rest text end) ≡ false
        → double_value n c (rest text from) ≡ with_prefix (between text from end) (double_value n c (rest text end))
    run_value a =
        ap (double_value n c) (rest-between text from end u run.above b run.boundary)
        ∙ run_read n c (between text from end) (rest text end) run_all (λ _. a)

    -- a run of characters is added as it is
    pub run_adds : (old new : List ℕ) → IsUtf8 old → at_break (rest text end) ≡ false
        → new ≡ old ++ slice_range text from end → Adds n c text old from new end
    run_adds old new v a e = adds old (slice_range text from end) new from end v run.boundary (run_value a) e

    -- without the white at its end
    pub inked_adds : (old new : List ℕ) (start : ℕ) → IsUtf8 old → IsWhiteStart text from start end
        → new ≡ old ++ slice_range text from start → Adds n c text old from new start
    inked_adds old new start v w e =
        let whole : between text from end ≡ between text from start ++ between text start end =
        between-append text from start end u w.above w.below b w.boundary run.boundary in
        let both = and_parts (list_all raw_char (between text from start)) (list_all raw_char (between text start end))
        (sym (list_all-append raw_char (between text from start) (between text start end))
        ∙ (ap (list_all raw_char) (sym whole) ∙ run_all)) in
        adds old (slice_range text from start) new from start v w.boundary
        (ap (double_value n c) (rest-between text from start u w.above b w.boundary)
        ∙ run_read n c (between text from start) (rest text start) both.0 (λ i. absurd (false≢true (sym w.black ∙ i)))) e

    -- where neither a quote, a backslash nor a break comes after it
    pub run_stray : (end < length text → get_or text end 0 ≡ 34 → ⊥)
        → (end < length text → get_or text end 0 ≡ 92 → ⊥) → first line_break (rest text end) ≡ false
        → double_value n c (rest text from) ≡ None
    run_stray q s f = run_value (run_at_break ∙ f) ∙ ap (with_prefix (between text from end)) stray
      where
        stray : double_value n c (rest text end) ≡ None
        stray = elim (cases_lt end (length text)) [
          | inl l ↦ (let there = char_at text end u run.boundary l in
              let x : ℕ = there.0 in
              ap (double_value n c) there.1.splits
              ∙ stray_read n c x (rest text (end + _))
              (run_stops raw_char text from end x _ blind-raw_char u run there.1.splits)
              (no_char text end x 34 there.1 (omega arith) (q l)) (no_char text end x 92 there.1 (omega arith) (s l))
              (sym (ap (first line_break) there.1.splits) ∙ f))
          | inr past ↦ ap (double_value n c) (rest-end text end past) ∙ end_read n c
        ]

-- ---- escapes

-- an escape adds the character that it means
pub escape_adds : (n : ℕ) (c : FlowContext) (text old new : List ℕ) (at meant end : ℕ) → IsUtf8 text
    → at < length text → get_or text at 0 ≡ 92 → IsUtf8 old
    → EscapeAt text at meant end → new ≡ old ++ encode_utf8 meant → Adds n c text old at new end
escape_adds n c text old new at meant end u l b v h e =
    let there : rest text at ≡ 92 ∷ rest text (at + 1) = byte_read text at 92 u l b (omega arith) in
    let one : chars (encode_utf8 meant) ≡ meant ∷ [] = ap chars (sym (append-nil (encode_utf8 meant)))
    ∙ chars-encodes (meant ∷ []) (and_from _ _ h.scalar refl) in
    adds n c text old (encode_utf8 meant) new at end v h.boundary
    (item_read n c (rest text at) h.item (rest text end) (ap at_break there) h.found
    ∙ ap (λ (xs : List ℕ). with_prefix xs (double_value n c (rest text end))) (ap (λ x. x ∷ []) h.means ∙ sym one)) e

-- ---- where joins begin

-- a backslash before a break starts a join
pub begins_escaped : (n : ℕ) (text : List ℕ) (at : ℕ) → IsUtf8 text → at < length text → get_or text at 0 ≡ 92
    → NoEscapeAt text at → BeginsJoin n (rest text at) true [] (rest text (at + 1))
unfolding read_held double_closes
begins_escaped n text at u l b h =
    let there : rest text at ≡ 92 ∷ rest text (at + 1) = byte_read text at 92 u l b (omega arith) in
    record {
      held = cond-false (at_break (rest text at)) None (read_item (rest text at)) (ap at_break there) ∙ h;
      open_still = ap double_closes there;
      join = ap (read_join true n) there ∙ step_escaped n (rest text (at + 1));
    }

white_open : (blank : List ℕ) (b : Break) (after : List ℕ) → list_all white blank ≡ true
    → double_closes (blank ++ (break_text b ++ after)) ≡ false
unfolding double_closes
white_open [] lf after h = refl
white_open [] cr after h = refl
white_open [] cr_lf after h = refl
white_open (x ∷ xs) b after h = white_no_quote x (and_parts _ _ h).0
  where
    white_no_quote : (y : ℕ) → white y ≡ true → y == 34 ≡ false
    white_no_quote y i = grind (arith, nat_tests)

broken : (b : Break) (after : List ℕ) → at_break (break_text b ++ after) ≡ true
broken lf after = refl
broken cr after = refl
broken cr_lf after = refl

begins_at : (n : ℕ) (blank after : List ℕ) (b : Break) (rest : List ℕ) → list_all white blank ≡ true
    → after ≡ break_text b ++ rest → BeginsJoin n (blank ++ after) false blank after
unfolding read_held
begins_at n blank after b rest h e = subst (λ (t : List ℕ). BeginsJoin n (blank ++ t) false blank t) (sym e) (record {
  held = cond-true (at_break (blank ++ (break_text b ++ rest))) None (read_item (blank ++ (break_text b ++ rest)))
      (white_at_break blank _ h ∙ broken b rest);
  open_still = white_open blank b rest h;
  join = unescaped_read true n blank b rest h;
})

-- so does whitespace before a break
pub begins_white : (n : ℕ) (text : List ℕ) (from start end : ℕ) → IsUtf8 text → IsCharBoundary text end
    → IsWhiteStart text from start end → first line_break (rest text end) ≡ true
    → BeginsJoin n (rest text start) false (between text start end) (rest text end)
begins_white n text from start end u d w f =
    subst (λ (t : List ℕ). BeginsJoin n t false blank (rest text end))
    (sym (rest-between text start end u w.below w.boundary d)) (by_break (read_break (rest text end)) refl)
  where
    blank : List ℕ
    blank = between text start end

    by_break : (r : Read Break) → read_break (rest text end) ≡ r → BeginsJoin n (blank ++ rest text end) false blank (rest text end)
    by_break None e = absurd (false≢true (ap is_some (sym e) ∙ (break_some (rest text end) ∙ f)))
    by_break (Some r) e =
        begins_at n blank (rest text end) r.0 r.1 w.blank
        (sound_is (BreakOf (rest text end)) (read_break (rest text end)) (r.0, r.1) (break_sound (rest text end)) e).0

-- ---- joins

-- whether a second join is there
pub two_joins : (text : List ℕ) (at : ℕ) → IsUtf8 text → at < length text → get_or text at 0 ≡ 92 → (f : Bool)
    → f ≡ first line_break (rest text (at + 1)) → escaped_break (rest text at) ≡ f
unfolding escaped_break
two_joins text at u l b f e = ap (λ (t : List ℕ). first (λ x. x == 92) t && first line_break (past t))
    (byte_read text at 92 u l b (omega arith)) ∙ sym e

-- no second join starts at another character
pub no_second : (text : List ℕ) (at : ℕ) → IsUtf8 text → IsCharBoundary text at
    → (at < length text → get_or text at 0 ≡ 92 → ⊥) → escaped_break (rest text at) ≡ false
unfolding escaped_break
no_second text at u b h = elim (cases_lt at (length text)) [
  | inl l ↦ (let there = char_at text at u b l in
      and_left _ _ (ap (first (λ x. x == 92)) there.1.splits ∙ no_char text at there.0 92 there.1 (omega arith) (h l)))
  | inr past_end ↦ ap (λ (t : List ℕ). first (λ x. x == 92) t && first line_break (past t)) (rest-end text at past_end)
]

module _ (n : ℕ) (c : FlowContext) (text : List ℕ) (at : ℕ) where
  -- without a break there is no join
  pub unbroken_refused : first line_break (rest text at) ≡ false → NoJoinAt n c text at
  unbroken_refused f escaped prefix blank b = no_join_read n c prefix escaped blank (rest text at) b
      (no_break escaped n blank (rest text at) (unbroken (rest text at) f))

  -- nor in a key
  pub key_refused : one_line c ≡ true → NoJoinAt n c text at
  key_refused k escaped prefix blank b = key_read n c prefix escaped blank (rest text at) b k

  -- nor without a fold
  pub unfolded_refused : NoFold n text at → NoJoinAt n c text at
  unfolded_refused h escaped prefix blank b = no_join_read n c prefix escaped blank (rest text at) b (h escaped blank)

  -- nor right after another join
  pub second_refused : (empties next : ℕ) → IsFold n text at empties next → one_line c ≡ false
      → escaped_break (rest text next) ≡ true → NoJoinAt n c text at
  second_refused empties next fold k e escaped prefix blank b =
      twice_read n c prefix escaped blank (rest text at) b (fold.join escaped blank) (rest text next) k (fold.found escaped blank) e

  -- else there is one
  pub joins : (empties next : ℕ) → IsFold n text at empties next → one_line c ≡ false
      → escaped_break (rest text next) ≡ false → JoinsAt n c text at empties next
  joins empties next fold k e = record {
    above = fold.above;
    boundary = fold.boundary;
    means = λ escaped prefix blank b.
        join_read n c prefix escaped blank (rest text at) b (fold.join escaped blank) (rest text next) k
        (fold.found escaped blank) (fold_solid n text at empties next fold) e
        ∙ ap (λ (v : List ℕ). with_prefix v (double_value n c (rest text next)))
        (join_means (fold.join escaped blank) escaped (fold.escapes escaped blank) (fold.counts escaped blank));
  }
    where
      join_means : (j : Join) (escaped : Bool) → j.escaped ≡ escaped → length j.empties ≡ empties
          → join_value j ≡ (if escaped then line_feeds empties else folded_break empties)
      join_means j escaped i m = ap (λ b. if b then line_feeds (length j.empties)
          else folded_break (length j.empties)) i ∙ ap (λ k. if escaped then line_feeds k else folded_break k) m

-- line feeds and spaces are bytes of their own
feeds_chars : (k : ℕ) → chars (line_feeds k) ≡ line_feeds k
unfolding chars
feeds_chars zero = refl
feeds_chars (suc zero) = refl
feeds_chars (suc (suc k)) = ap (λ xs. 10 ∷ xs) (feeds_chars (suc k))

fold_chars : (k : ℕ) → chars (folded_break k) ≡ folded_break k
unfolding chars
fold_chars zero = refl
fold_chars (suc k) = feeds_chars (suc k)

-- what a join adds, where the line before it ends
module _ (n : ℕ) (c : FlowContext) (text : List ℕ) (prefix at empties next : ℕ) (j : JoinsAt n c text at empties next)
    (old new : List ℕ) (v : IsUtf8 old) where
  -- a join with a backslash adds its line feeds
  pub escaped_join_adds : BeginsJoin n (rest text prefix) true [] (rest text at) → new ≡ old ++ line_feeds empties
      → Adds n c text old prefix new next
  escaped_join_adds b e =
      adds n c text old (line_feeds empties) new prefix next v j.boundary
      (j.means true (rest text prefix) [] b ∙ ap (λ (xs : List ℕ). with_prefix xs (double_value n c (rest text next)))
      (sym (feeds_chars empties))) e

  -- a join without one adds a space or its line feeds
  pub folded_join_adds : (blank : List ℕ) → BeginsJoin n (rest text prefix) false blank (rest text at)
      → new ≡ old ++ folded_break empties → Adds n c text old prefix new next
  folded_join_adds blank b e =
      adds n c text old (folded_break empties) new prefix next v j.boundary
      (j.means false (rest text prefix) blank b ∙ ap
      (λ (xs : List ℕ). with_prefix xs (double_value n c (rest text next))) (sym (fold_chars empties))) e

-- ---- the closing quote

-- the closing quote ends the value
pub closes : (n : ℕ) (c : FlowContext) (text : List ℕ) (start : ℕ) (value : List ℕ) (end : ℕ) → IsUtf8 text
    → Adds n c text [] start value end → end < length text → get_or text end 0 ≡ 34
    → double_value n c (rest text start) ≡ Some (chars value, rest text (end + 1))
closes n c text start value end u h l q =
    let from : Read (List ℕ) = double_value n c (rest text start) in
    let whole : from ≡ with_prefix (chars value) (double_value n c (rest text end)) =
    sym (ap (λ (xs : List ℕ). with_prefix xs from) chars-nil ∙ with_prefix-nil from) ∙ sym h.means in
    whole ∙ (ap (λ (t : List ℕ). with_prefix (chars value) (double_value n c t)) (byte_read text end 34 u l q (omega arith))
    ∙ (ap (with_prefix (chars value)) (quote_read n c (rest text (end + 1)))
    ∙ ap (λ (v : List ℕ). Some (v, rest text (end + 1))) (append-nil (chars value))))
