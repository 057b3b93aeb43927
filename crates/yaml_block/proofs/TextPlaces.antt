-- Places of a text, from the characters that are between two of them.
use Rattle.std.proofs.Common.{ap, arith, get_or, inl, inr, length, length-append, length-drop, refl, sym, ◌<◌, ◌∙◌, ◌≡◌, ◌⊎◌}
use Rattle.std.specs.{Prelude.{Bool, List, None, [], drop, false, suc, true, zero, ℕ, ◌++◌, ◌+◌, ◌==◌, ◌∷◌}, Char.len_utf8}
use Rattle.yaml_block.proofs.Prelude.{IsCharBoundary, IsUtf8, and_parts, cases_Bool, cases_lt, false≢true, nat_tests, append_cancel_right}
use Rattle.yaml_block.proofs.Prelude.{line_break, white, between, rest, between-append, char_at, encodes-rest, rest-ascii, rest-between}
use Rattle.yaml_block.proofs.Prelude.{rest-end, past_spaces, spaces_before, LineEnd, comments_text, list_all, byte_len, first, is_empty}
use Rattle.yaml_block.proofs.Prelude.{spaces, starts_line, all_comments, more_comments, read_line_end, drop_while, past, sign, take_while}
use Rattle.yaml_block.proofs.Prelude.{comments_step, all_sound, spaces_split, take_while_every, take_while_split, starts_joined, sign_head}
use Rattle.yaml_block.proofs.Prelude.{line_starts, without_mark}
use lib.Utf8.{encode, encodes}
use Rattle.std.proofs.lemmas.Str.{IsCharBoundary-after_ascii, IsCharBoundary-start, encodes-append, length-encode}
use Rattle.yaml_block.proofs.{BlockLines.spaces_start, BlockSigns.white_starts}

-- a byte order mark
abbrev pub order_mark : ℕ → Bool
order_mark c = c == 0xfeff

-- ---- how far apart two places are

byte_len-encodes : (cs : List ℕ) → byte_len cs ≡ length (encodes cs)
byte_len-encodes [] = refl
byte_len-encodes (c ∷ cs) = let e = byte_len-encodes cs in omega
    (arith, e, length-encode c, length-append (encode c) (encodes cs))

-- the second place is as many bytes after the first as the characters between take
pub spelled : (bs : List ℕ) (i j : ℕ) (xs : List ℕ) → IsUtf8 bs → IsCharBoundary bs i → IsCharBoundary bs j
    → rest bs i ≡ xs ++ rest bs j → i + byte_len xs ≡ j
spelled bs i j xs u b d e =
    let bytes : drop i bs ≡ encodes xs ++ drop j bs = sym (encodes-rest bs i u b)
    ∙ (ap encodes e ∙ (encodes-append xs (rest bs j) ∙ ap (λ ys. encodes xs ++ ys) (encodes-rest bs j u d))) in
    omega (
      arith,
      ap length bytes,
      length-append (encodes xs) (drop j bs),
      length-drop i bs,
      length-drop j bs,
      byte_len-encodes xs,
      b.0,
      d.0,
    )

-- those characters
pub between_is : (bs : List ℕ) (i j : ℕ) (xs : List ℕ) → IsUtf8 bs → IsCharBoundary bs i → IsCharBoundary bs j
    → rest bs i ≡ xs ++ rest bs j → between bs i j ≡ xs
between_is bs i j xs u b d e =
    let l : i + byte_len xs ≡ j = spelled bs i j xs u b d e in
    append_cancel_right (between bs i j) xs (rest bs j) (sym (rest-between bs i j u (omega (arith, l)) b d) ∙ e)

-- ---- S0: whether a line starts at the second

unmarked_joined : (xs ys : List ℕ) → (xs ≡ [] → first order_mark ys ≡ false)
    → starts_line true (without_mark (xs ++ ys)) ≡ starts_line (starts_line true (without_mark xs)) ys
unmarked_joined [] [] h = refl
unmarked_joined [] (y ∷ ys) h = rw (h refl) refl
unmarked_joined (x ∷ xs) ys h = elim (cases_Bool (x == 0xfeff)) [
  | inl e ↦ rw e (starts_joined true xs ys)
  | inr e ↦ rw e (starts_joined (line_break x) xs ys)
]

-- whether a line starts after the characters between two places
pub starts_over : (bs : List ℕ) (i j : ℕ) (xs : List ℕ) → IsUtf8 bs → IsCharBoundary bs i → IsCharBoundary bs j
    → rest bs i ≡ xs ++ rest bs j → first order_mark xs ≡ false
    → starts_line (line_starts bs i) xs ≡ line_starts bs j
starts_over bs i j xs u b d e n =
    let l : i + byte_len xs ≡ j = spelled bs i j xs u b d e in
    sym (ap (λ t. starts_line true (without_mark t))
    (between-append bs 0 i j u (omega arith) (omega (arith, l)) (IsCharBoundary-start bs u) b d
    ∙ ap (λ t. between bs 0 i ++ t) (between_is bs i j xs u b d e))
    ∙ unmarked_joined (between bs 0 i) xs (λ _. n))

-- ---- white

white_unmarked : (xs : List ℕ) → list_all white xs ≡ true → first order_mark xs ≡ false
white_unmarked [] h = refl
white_unmarked (x ∷ xs) h = let w : white x ≡ true = (and_parts _ _ h).0 in grind (arith, nat_tests, w)

-- whitespace between two places, as characters
pub white_spelled : (bs : List ℕ) (i j : ℕ) → IsUtf8 bs → IsCharBoundary bs i → IsCharBoundary bs j
    → drop_while white (rest bs i) ≡ rest bs j
    → (i + byte_len (take_while white (rest bs i)) ≡ j)
    × (starts_line (line_starts bs i) (take_while white (rest bs i)) ≡ line_starts bs j)
white_spelled bs i j u b d e =
    let s : rest bs i ≡ take_while white (rest bs i) ++ rest bs j = take_while_split white (rest bs i)
    ∙ ap (λ t. take_while white (rest bs i) ++ t) e in (
      spelled bs i j (take_while white (rest bs i)) u b d s,
      starts_over bs i j (take_while white (rest bs i)) u b d s
          (white_unmarked (take_while white (rest bs i)) (take_while_every white (rest bs i))),
    )

-- no line starts after white space on a line
pub white_inside : (bs : List ℕ) (i j : ℕ) → IsUtf8 bs → IsCharBoundary bs i → IsCharBoundary bs j
    → line_starts bs i ≡ false → drop_while white (rest bs i) ≡ rest bs j → line_starts bs j ≡ false
white_inside bs i j u b d n e =
    sym (white_spelled bs i j u b d e).1 ∙ (ap (λ x. starts_line x (take_while white (rest bs i))) n
    ∙ white_starts (take_while white (rest bs i)) (take_while_every white (rest bs i)))

-- ---- spaces

spaces_unmarked : (s : ℕ) → first order_mark (spaces s) ≡ false
spaces_unmarked zero = refl
spaces_unmarked (suc s) = refl

-- spaces between two places, as characters
pub spaces_spelled : (bs : List ℕ) (i j : ℕ) → IsUtf8 bs → IsCharBoundary bs i → IsCharBoundary bs j
    → past_spaces (rest bs i) ≡ rest bs j
    → starts_line (line_starts bs i) (spaces (spaces_before (rest bs i))) ≡ line_starts bs j
spaces_spelled bs i j u b d e =
    starts_over bs i j (spaces (spaces_before (rest bs i))) u b d (spaces_split (rest bs i)
    ∙ ap (λ t. spaces (spaces_before (rest bs i)) ++ t) e) (spaces_unmarked (spaces_before (rest bs i)))

-- after the spaces of a line that is not the text's end
pub pair_starts : (bs : List ℕ) (i j k : ℕ) → IsUtf8 bs → IsCharBoundary bs i → IsCharBoundary bs j
    → (line_starts bs i ≡ true) ⊎ (rest bs i ≡ []) → is_empty (rest bs i) ≡ false
    → spaces_before (rest bs i) ≡ k → past_spaces (rest bs i) ≡ rest bs j → line_starts bs j ≡ (k == 0)
pair_starts bs i j k u b d (inl s) n c e =
    sym (spaces_spelled bs i j u b d e) ∙ (ap (λ x. starts_line x (spaces (spaces_before (rest bs i)))) s
    ∙ (spaces_start (spaces_before (rest bs i)) ∙ ap (λ x. x == 0) c))
pair_starts bs i j k u b d (inr s) n c e = absurd (false≢true (sym n ∙ ap is_empty s))

-- ---- comments

mark_no_line : (bol : Bool) (c : ℕ) (cs : List ℕ) → order_mark c ≡ true → read_line_end bol (c ∷ cs) ≡ None
mark_no_line bol c cs h =
    let w : white c ≡ false = grind (arith, nat_tests) in
    let n : (c == 35) ≡ false = grind (arith, nat_tests) in
    let l : (c == 10) ≡ false = grind (arith, nat_tests) in
    let r : (c == 13) ≡ false = grind (arith, nat_tests) in
    rw (w, n, l, r) refl

first_kept : (xs ys : List ℕ) → first order_mark (xs ++ ys) ≡ false → first order_mark xs ≡ false
first_kept [] ys h = refl
first_kept (x ∷ xs) ys h = h

-- comments contain no byte order mark at their start
pub comments_unmarked : (bol : Bool) (text : List ℕ)
    → first order_mark (comments_text (all_comments bol text).0) ≡ false
comments_unmarked bol text = elim (cases_Bool (first order_mark text)) [
  | inl e ↦ ap (λ (c : List LineEnd × List ℕ). first order_mark (comments_text c.0)) (none text e)
  | inr e ↦ first_kept (comments_text (all_comments bol text).0) (all_comments bol text).1
      (ap (first order_mark) (sym (all_sound bol text).0) ∙ e)
]
  where
    none : (text : List ℕ) → first order_mark text ≡ true → all_comments bol text ≡ ([], text)
    none [] h = absurd (false≢true h)
    none (c ∷ cs) h = comments_step bol (c ∷ cs) ∙ ap (more_comments (c ∷ cs) (λ rest'. all_comments true rest'))
        (mark_no_line bol c cs h)

-- comments between two places, as characters
pub comments_spelled : (bs : List ℕ) (bol : Bool) (i j : ℕ) → IsUtf8 bs → IsCharBoundary bs i → IsCharBoundary bs j
    → line_starts bs i ≡ bol → (all_comments bol (rest bs i)).1 ≡ rest bs j
    → (i + byte_len (comments_text (all_comments bol (rest bs i)).0) ≡ j)
    × (starts_line bol (comments_text (all_comments bol (rest bs i)).0) ≡ line_starts bs j)
comments_spelled bs bol i j u b d s e =
    let comments : List LineEnd = (all_comments bol (rest bs i)).0 in
    let t : rest bs i ≡ comments_text comments ++ rest bs j = (all_sound bol (rest bs i)).0
    ∙ ap (λ x. comments_text comments ++ x) e in (
      spelled bs i j (comments_text comments) u b d t,
      ap (λ x. starts_line x (comments_text comments)) (sym s)
          ∙ starts_over bs i j (comments_text comments) u b d t (comments_unmarked bol (rest bs i)),
    )

-- ---- signs

-- the place after a sign
pub record IsPastSign (bs : List ℕ) (at : ℕ) : Type 0 where
  pub below : at < length bs
  pub boundary : IsCharBoundary bs (at + 1)
  pub past_is : past (rest bs at) ≡ rest bs (at + 1)
  pub inside_line : line_starts bs (at + 1) ≡ false

-- the place after a sign
pub past_sign : (bs : List ℕ) (at x : ℕ) → IsUtf8 bs → IsCharBoundary bs at → x < 128 → line_break x ≡ false
    → sign x (rest bs at) ≡ true → IsPastSign bs at
past_sign bs at x u b a n h = elim (cases_lt at (length bs)) [
  | inl l ↦ (let there = char_at bs at u b l in
      let head = sign_head x (rest bs at) h in
      let e : there.0 ≡ x = same there.0 x (rest bs (at + len_utf8 there.0)) head.0 (sym there.1.splits ∙ head.1) in
      elim (cases_lt (get_or bs at 0) 128) [
        | inl low ↦ (let c : get_or bs at 0 ≡ x = sym (there.1.low low) ∙ e in
            let splits : rest bs at ≡ x ∷ rest bs (at + 1) = rest-ascii bs at u l low
            ∙ ap (λ y. y ∷ rest bs (at + 1)) c in
            let next : IsCharBoundary bs (at + 1) = IsCharBoundary-after_ascii bs at u l low in
            let m : (x == 0xfeff) ≡ false = grind (arith, nat_tests) in
            record {
              below = l;
              boundary = next;
              past_is = ap past splits;
              inside_line = sym (starts_over bs at (at + 1) (x ∷ []) u b next splits m) ∙ n;
            })
        | inr high ↦ (let k = there.1.high high in absurd (omega (arith, k, e, a)))
      ])
  | inr over ↦ absurd (false≢true (sym (ap (sign x) (rest-end bs at over)) ∙ h))
]
  where
    same : (c d : ℕ) (cs ds : List ℕ) → c ∷ cs ≡ d ∷ ds → c ≡ d
    same c d cs ds e = cc
