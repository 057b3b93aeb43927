-- Words on a line of a plain scalar: white space, and ASCII characters that are plain wherever they are.
use Rattle.std.proofs.Common.{◌≡◌, refl, sym, ◌∙◌, ap, subst, append_assoc, arith, length, inl, inr, ℕ, ◌+◌, ◌<◌, ◌≤◌, get_or}
use Rattle.std.specs.Prelude.{Bool, true, false, not, ◌&&◌, ◌||◌, ◌==◌, nat_lt, List, [], ◌∷◌, ◌++◌, slice_index}
use Rattle.yaml_flow_scalars.proofs.Prelude.{list_all, IsUtf8, IsCharBoundary, and_from, and_parts, cases_Bool, cases_lt, false≢true}
use Rattle.yaml_flow_scalars.proofs.Prelude.{ne_eqb, or_parts, nat_tests, AllPass-from_list_all, list_all-from_AllPass}
use Rattle.yaml_flow_scalars.proofs.Prelude.{IsCharBoundary-before_ascii, indicator, ns, white, rest, between, IsRun, between-append}
use Rattle.yaml_flow_scalars.proofs.Prelude.{rest-ascii, rest-between, rest-end, IsBlind, first, is_empty, marker, no_marker, FlowContext}
use Rattle.yaml_flow_scalars.proofs.Prelude.{ends, plain_first, plain_next, safe, line_starts, read_run, unplain, step_char, step_white}
use Rattle.yaml_flow_scalars.proofs.{Prelude.{simple, word, ascii_at_beginning, ascii_prefix}, PlainPieces.{before_of, between_some}}
use Rattle.yaml_flow_scalars.{proofs.PlainPieces.{one_goes_on, one_piece, simple_is_plain, GoesOn}, specs.Folds.IsWhiteStart}
use Rattle.yaml_flow_scalars.specs.PlainPlaces.{goes_on_plain, letter_or_digit, BeginsPlain, IsPlainPiece, NoPlainPiece}

-- ---- the first character

-- the test for letters and digits doesn't distinguish characters from 128 on
pub blind-letter_or_digit : IsBlind letter_or_digit
blind-letter_or_digit c h l = grind (arith, nat_tests)

letter_is_ascii : (x : ℕ) → letter_or_digit x ≡ true → x < 128
letter_is_ascii x h = grind (arith, nat_tests)

letter_is_ns : (x : ℕ) → letter_or_digit x ≡ true → ns x ≡ true
letter_is_ns x h = grind (arith, nat_tests)

letter_no_indicator : (x : ℕ) → letter_or_digit x ≡ true → indicator x ≡ false
letter_no_indicator x h = grind (arith, nat_tests)

letter_no_dash : (x : ℕ) → letter_or_digit x ≡ true → (x == 45) ≡ false
letter_no_dash x h = grind (arith, nat_tests)

letter_no_dot : (x : ℕ) → letter_or_digit x ≡ true → (x == 46) ≡ false
letter_no_dot x h = grind (arith, nat_tests)

unmarked : (x : ℕ) (xs : List ℕ) → (x == 45) ≡ false → (x == 46) ≡ false → marker (x ∷ xs) ≡ false
unmarked x [] h k = refl
unmarked x (y ∷ []) h k = refl
unmarked x (y ∷ z ∷ zs) h k = rw (h, k) refl

not_marker : (bol m : Bool) → m ≡ false → not (bol && m) ≡ true
not_marker true m h = rw h refl
not_marker false m h = refl

letter_begins : (c : FlowContext) (bol : Bool) (x : ℕ) (xs : List ℕ) → letter_or_digit x ≡ true
    → no_marker bol (x ∷ xs) && plain_first c x xs ≡ true
letter_begins c bol x xs h =
    and_from (no_marker bol (x ∷ xs)) (plain_first c x xs)
    (not_marker bol (marker (x ∷ xs)) (unmarked x xs (letter_no_dash x h) (letter_no_dot x h)))
    (and_from (ns x) _ (letter_is_ns x h) (rw (letter_no_indicator x h) refl))

split_first : (test : ℕ → Bool) (xs : List ℕ) → first test xs ≡ true → (x : ℕ) × (ys : List ℕ) × (xs ≡ x ∷ ys) × (test x ≡ true)
split_first test [] h = absurd (false≢true h)
split_first test (x ∷ xs) h = (x, xs, refl, h)

-- a letter or digit starts a plain scalar
pub letter_begins_at : (c : FlowContext) (text : List ℕ) (at : ℕ) → IsUtf8 text → IsCharBoundary text at
    → first letter_or_digit (rest text at) ≡ true → BeginsPlain c text at (at + 1)
letter_begins_at c text at u b h =
    let there = split_first letter_or_digit (rest text at) h in
    let prefix = ascii_at_beginning text at there.0 there.1 u b (letter_is_ascii there.0 there.3) there.2 in
    record {
      above = omega arith;
      boundary = prefix.boundary;
      character = there.0;
      splits = there.2 ∙ ap (λ xs. there.0 ∷ xs) prefix.leaves;
      begins = letter_begins c (line_starts text at) there.0 (rest text (at + 1)) there.3;
    }

-- ---- words

word_parts : (c : FlowContext) (x : ℕ) → word c x ≡ false → (simple c x ≡ false) × (white x ≡ false)
word_parts c x h = or_parts (simple c x) (white x) h

solid_word : (c : FlowContext) (x : ℕ) → word c x ≡ true → white x ≡ false → simple c x ≡ true
solid_word c x h w = by_cases (simple c x) (white x) h w
  where
    by_cases : (s w : Bool) → s || w ≡ true → w ≡ false → s ≡ true
    by_cases true w h k = refl
    by_cases false w h k = absurd (false≢true (sym k ∙ h))

-- words that end with no white space are read, and the run goes on after them
words_go_on : (c : FlowContext) (before last : ℕ) (xs after : List ℕ) → list_all (word c) xs ≡ true
    → ends white xs ≡ false → is_empty xs ≡ false → ns last ≡ true
    → read_run c before (xs ++ after) ≡ xs ++ read_run c last after
words_go_on c before last [] after h w s e = absurd (false≢true (sym s))
words_go_on c before last (x ∷ []) after h w s e =
    one_goes_on c before last x after (simple_is_plain c before x after (solid_word c x (and_parts _ _ h).0 w)) e
words_go_on c before last (x ∷ y ∷ ys) after h w s e =
    let p : (word c x ≡ true) × (list_all (word c) (y ∷ ys) ≡ true) = and_parts _ _ h in
    let more : read_run c x ((y ∷ ys) ++ after) ≡ (y ∷ ys) ++ read_run c last after = words_go_on c x last (y ∷ ys) after p.1 w refl e in
    elim (cases_Bool (white x)) [
      | inl k ↦ step_white c before x ((y ∷ ys) ++ after) k (ap is_empty more) ∙ ap (λ t. x ∷ t) more
      | inr k ↦ step_char c before x ((y ∷ ys) ++ after)
          (simple_is_plain c before x ((y ∷ ys) ++ after) (solid_word c x p.0 k)) ∙ ap (λ t. x ∷ t) more
    ]

prefix_all : (p : ℕ → Bool) (xs ys : List ℕ) → list_all p (xs ++ ys) ≡ true → list_all p xs ≡ true
prefix_all p [] ys h = refl
prefix_all p (x ∷ xs) ys h = let q = and_parts (p x) (list_all p (xs ++ ys)) h in
    and_from (p x) (list_all p xs) q.0 (prefix_all p xs ys q.1)

module _ (c : FlowContext) (text : List ℕ) (end stop words : ℕ) (u : IsUtf8 text) (b : IsCharBoundary text end)
    (run : IsRun (word c) text end stop) (w : IsWhiteStart text end words stop) where
  all_words : list_all (word c) (between text end words) ≡ true
  all_words =
      prefix_all (word c) (between text end words) (between text words stop)
      (ap (list_all (word c)) (sym (between-append text end words stop u w.above w.below b w.boundary run.boundary))
      ∙ list_all-from_AllPass (word c) (between text end stop) run.passes)

  -- whitespace comes after the words
  pub white_after : IsRun white text words stop
  white_after = record {
    above = w.below;
    boundary = run.boundary;
    passes = AllPass-from_list_all white (between text words stop) w.blank;
    stop = λ l. (word_parts c (slice_index text stop) (run.stop l)).1;
  }

  -- words more are read
  pub words_more : (black black_after : Bool) (from : ℕ) → IsCharBoundary text from → from ≤ end
      → GoesOn c black black_after text from end → GoesOn c black (nat_lt end words || black_after) text from words
  words_more black black_after from start l goes = elim (cases_lt end words) [
    | inl more ↦ (let z : nat_lt end words ≡ true = grind (arith, nat_tests) in
        λ before last e f.
        let m = before_of black_after in
        let held : List ℕ = between text end words in
        let after : List ℕ = read_run c last (rest text words) in
        let black_last : ns last ≡ true = f ∙ ap (λ p. p || black_after) z in
        goes before m.0 e m.1
        ∙ (ap (λ t. between text from end ++ t)
        (ap (read_run c m.0) (rest-between text end words u w.above b w.boundary)
        ∙ words_go_on c m.0 last held (rest text words) all_words w.black
        (between_some text end words u more b w.boundary) black_last)
        ∙ (sym (append_assoc (between text from end) held after)
        ∙ ap (λ t. t ++ after) (sym (between-append text from end words u l w.above start b w.boundary)))))
    | inr past ↦ (let above = w.above in
        let e : end ≡ words = omega arith in
        let z : nat_lt end end ≡ false = grind (arith, nat_tests) in
        subst (λ k. GoesOn c black (nat_lt end k || black_after) text from k) e
        (subst (λ p. GoesOn c black (p || black_after) text from end) (sym z) goes))
  ]

-- ---- where no word goes on

ascii_unplain : (c : FlowContext) (before x : ℕ) (xs : List ℕ) → x < 128 → word c x ≡ false → (x ≡ 58 → ⊥)
    → (x ≡ 35 → ⊥) → plain_next c before x xs ≡ false
ascii_unplain c before x xs l h n m =
    let colon : (x == 58) ≡ false = ne_eqb x 58 n in
    let hash : (x == 35) ≡ false = ne_eqb x 35 m in
    let low : nat_lt x 128 ≡ true = grind (arith, nat_tests) in
    unplain c before x xs (unsafe (nat_lt x 128) (safe c x) (x == 58) (x == 35) low colon hash (word_parts c x h).0) colon hash
  where
    unsafe : (l s a b : Bool) → l ≡ true → a ≡ false → b ≡ false → l && (s && not (a || (b || false))) ≡ false → s ≡ false
    unsafe l false a b p q r h = refl
    unsafe false true a b p q r h = absurd (false≢true p)
    unsafe true true true b p q r h = absurd (false≢true (sym q))
    unsafe true true false true p q r h = absurd (false≢true (sym r))
    unsafe true true false false p q r h = absurd (false≢true (sym h))

-- another character that isn't plain is no piece
pub no_special : (c : FlowContext) (black : Bool) (text : List ℕ) (at : ℕ) → IsUtf8 text → at < length text
    → get_or text at 0 < 128 → word c (slice_index text at) ≡ false
    → (get_or text at 0 ≡ 58 → ⊥) → (get_or text at 0 ≡ 35 → ⊥) → NoPlainPiece c black text at
no_special c black text at u l low h n m before e =
    ap (goes_on_plain c before) (rest-ascii text at u l low) ∙ ascii_unplain c before (get_or text at 0) (rest text (at + 1)) low h n m

-- at the end of the text there is no piece
pub none_at_end : (c : FlowContext) (black : Bool) (text : List ℕ) (at : ℕ) → length text ≤ at → NoPlainPiece c black text at
none_at_end c black text at l before e = ap (goes_on_plain c before) (rest-end text at l)

-- ---- a colon

-- a `:` is plain if a safe character follows it, whatever is before it
colon_plain : (c : FlowContext) (before : ℕ) (after : List ℕ) → plain_next c before 58 after ≡ first (safe c) after
colon_plain c before after = either (safe c 58) (first (safe c) after) (ns before)
  where
    either : (a b p : Bool) → ((a && false) || (true && b)) || (false && p) ≡ b
    either true true p = refl
    either true false p = refl
    either false true p = refl
    either false false p = refl

-- the character that the byte of a `:` is, and what follows it
pub colon_splits : (text : List ℕ) (at : ℕ) → IsUtf8 text → at < length text → get_or text at 0 ≡ 58
    → (rest text at ≡ 58 ∷ rest text (at + 1)) × IsCharBoundary text (at + 1)
colon_splits text at u l e = ascii_prefix text at 58 u l (omega arith) e

-- before a safe character a `:` goes on
pub colon_goes_on : (c : FlowContext) (black : Bool) (text : List ℕ) (at : ℕ) → IsUtf8 text → at < length text
    → get_or text at 0 ≡ 58 → first (safe c) (rest text (at + 1)) ≡ true
    → IsPlainPiece c black text at (at + 1)
colon_goes_on c black text at u l e h =
    let here = IsCharBoundary-before_ascii text at l (omega arith) in
    let split = colon_splits text at u l e in
    one_piece c black text at (at + 1) 58 u here (omega arith) split.1 split.0 (λ before p. colon_plain c before (rest text (at + 1)) ∙ h)

-- before another one it ends
pub colon_stops : (c : FlowContext) (black : Bool) (text : List ℕ) (at : ℕ) → IsUtf8 text → at < length text
    → get_or text at 0 ≡ 58 → first (safe c) (rest text (at + 1)) ≡ false
    → NoPlainPiece c black text at
colon_stops c black text at u l e h before p = ap (goes_on_plain c before) (colon_splits text at u l e).0
    ∙ (colon_plain c before (rest text (at + 1)) ∙ h)
