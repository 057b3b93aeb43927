-- What the bytes of a text say of the characters there, for the scanner of double-quoted scalars.
use Rattle.std.proofs.Common.{◌≡◌, ℕ, suc, ◌+◌, ◌-◌, ◌*◌, ◌^◌, ◌<◌, ◌≤◌, Bool, true, false, ◌&&◌, List, [], ◌∷◌, ◌++◌, refl, ap, sym, ◌∙◌}
use Rattle.std.proofs.Common.{subst, arith, length, inl, inr, get_or, take, drop, length-append, length-take, Some, None}
use Rattle.std.specs.Prelude.{◌==◌, IfSome, IfNone, Option, is_some, codes, if◌then◌else◌}
use Rattle.yaml_flow_scalars.proofs.Prelude.{OutOfScalarRange, len_utf8, IsUtf8, IsCharBoundary, take-append_seam, drop-append_seam}
use Rattle.yaml_flow_scalars.proofs.Prelude.{take-append-add, and_parts, and_from, and_left, and_right, false≢true, cases_Bool, cond-true}
use Rattle.yaml_flow_scalars.proofs.Prelude.{cond-false, eq-eqb, ne_eqb, nat_tests, IsCharBoundary-after_ascii, line_break, is_in}
use Rattle.yaml_flow_scalars.proofs.Prelude.{code_point, rest, between, IsRun, char_at, rest-ascii, rest-end, rest-between}
use Rattle.yaml_flow_scalars.proofs.Prelude.{code_point-scalar, between-nil, between-push_ascii, IsBlind, test-char_at, list_all, first}
use Rattle.yaml_flow_scalars.proofs.Prelude.{escape, hex_digit, digit_of, hex_value, digits_after, quoted_char_fits, escaped_char}
use Rattle.yaml_flow_scalars.proofs.Prelude.{read_item, read_number, break_some, read_break, IsBreak, is_sign, double_quoted}
use Rattle.yaml_flow_scalars.proofs.Prelude.{ascii_at_beginning, sign_there}
use lib.Utf8.{low_scalar}
use Rattle.std.{specs.Char.IsScalar, proofs.{Math.Nat.pow-le-pow_right, lemmas.Grind.pow_more}}
use Rattle.{yaml_grammar.specs.FlowScalars.number as counted, yaml_flow_scalars.specs.DoubleScan.{raw_char, EscapeAt, NoEscapeAt, IsEscape}}
use Rattle.yaml_flow_scalars.specs.DoubleScan.{IsDigit, digits_at, IsNumberAt}

-- ---- tests that do not tell characters from 128 on apart

-- the test for such characters doesn't distinguish those from 128 on
pub blind-raw_char : IsBlind raw_char
unfolding raw_char
blind-raw_char c h l = grind (arith, nat_tests)

blind-counted : IsBlind (λ c. is_in c (codes "xuU"))
blind-counted c h l = grind (arith, nat_tests)

blind-escape : IsBlind (λ c. quoted_char_fits (escape c))
blind-escape c h l = grind (arith, nat_tests)

blind-hex_digit : IsBlind hex_digit
blind-hex_digit c h l = grind (arith, nat_tests)

escape_is_ascii : (c : ℕ) → quoted_char_fits (escape c) ≡ true → c < 128
escape_is_ascii c h = grind (arith, nat_tests)

-- x, u and U are ASCII
pub counted_is_ascii : (c : ℕ) → is_in c (codes "xuU") ≡ true → c < 128
counted_is_ascii c h = grind (arith, nat_tests)

hex_digit_is_ascii : (c : ℕ) → hex_digit c ≡ true → c < 128
hex_digit_is_ascii c h = grind (arith, nat_tests)

-- ---- one byte

-- an ASCII byte of this value, and the place after it
pub byte_read : (bs : List ℕ) (i k : ℕ) → IsUtf8 bs → i < length bs → get_or bs i 0 ≡ k → k < 128 → rest bs i ≡ k ∷ rest bs (i + 1)
byte_read bs i k u l e a = rest-ascii bs i u l (omega arith) ∙ ap (λ x. x ∷ rest bs (i + 1)) e

-- the place after an ASCII byte
pub after_byte : (bs : List ℕ) (i k : ℕ) → IsUtf8 bs → i < length bs → get_or bs i 0 ≡ k → k < 128 → IsCharBoundary bs (i + 1)
after_byte bs i k u l e a = IsCharBoundary-after_ascii bs i u l (omega arith)

-- what a test of a byte at a place says
pub stands : (text : List ℕ) (i k : ℕ) (b : Bool) → IsUtf8 text → IsCharBoundary text i → k < 128
    → b ≡ first (is_sign k) (rest text i) → b ≡ true
    → (i < length text) × (get_or text i 0 ≡ k)
stands text i k b u d a h e =
    let sign = sign_there text i k u d a (sym h ∙ e) in
    let prefix = ascii_at_beginning text i k (rest text (i + 1)) u d a sign.splits in
    (prefix.within, prefix.byte)

-- no such sign is at the place
pub stands_not : (text : List ℕ) (i k : ℕ) (b : Bool) → IsUtf8 text → k < 128 → b ≡ first (is_sign k) (rest text i)
    → b ≡ false → i < length text → get_or text i 0 ≡ k → ⊥
stands_not text i k b u a h e l q =
    false≢true (sym e ∙ (h ∙ (ap (first (is_sign k)) (byte_read text i k u l q a) ∙ eq-eqb k k refl)))

-- a break is at the place if one is found
pub break_there : (text : List ℕ) (at : ℕ) (r : Option ℕ) → IfSome r (IsBreak text at)
    → IfNone r (read_break (rest text at) ≡ None) → is_some r ≡ first line_break (rest text at)
break_there text at (Some end) h n = sym (ap is_some h.reads) ∙ break_some (rest text at)
break_there text at None h n = sym (ap is_some n) ∙ break_some (rest text at)

-- the class of the table is that of the characters that mean themselves
pub raw_run : (text : List ℕ) (i j : ℕ) → IsRun double_quoted text i j → IsRun raw_char text i j
unfolding raw_char
raw_run text i j run = run

-- ---- digits

every-append : (p : ℕ → Bool) (xs ys : List ℕ) → list_all p (xs ++ ys) ≡ list_all p xs && list_all p ys
every-append p [] ys = refl
every-append p (x ∷ xs) ys = ap (λ b. p x && b) (every-append p xs ys) ∙ regroup (p x) (list_all p xs) (list_all p ys)
  where
    regroup : (a b c : Bool) → a && (b && c) ≡ a && b && c
    regroup true b c = refl
    regroup false b c = refl

hex_value-append : (n d : ℕ) (ds : List ℕ) → hex_value n (ds ++ d ∷ []) ≡ 16 * hex_value n ds + digit_of d
hex_value-append n d [] = refl
hex_value-append n d (x ∷ xs) = hex_value-append (16 * n + digit_of x) d xs

digit_small : (d : ℕ) → hex_digit d ≡ true → digit_of d < 16
digit_small d h = grind (arith, nat_tests)

-- the value of a digit is below 16
pub digit_fits : (d v : ℕ) → IsDigit d v → v < 16
digit_fits d v h = omega (arith, digit_small d h.allowed, h.means)

-- so many digits have a number below this
pub number_fits : (k n d : ℕ) → k < 8 → n < 16 ^ k → d < 16 → n * 16 + d < 2 ^ 32
number_fits k n d l h m = omega (arith, pow-le-pow_right {n = 16} (omega arith) {i = k} {j = 7} (omega arith))

-- the digits from a place up to another are this number
pub record DigitsTo (bs : List ℕ) (at end number : ℕ) : Type 0 where
  pub above : at ≤ end
  pub boundary : IsCharBoundary bs end
  pub digits : list_all hex_digit (between bs at end) ≡ true
  pub long : length (between bs at end) ≡ end - at
  pub value : hex_value 0 (between bs at end) ≡ number
  pub fits : number < 16 ^ (end - at)

-- no digit is read yet
pub digits_none : (bs : List ℕ) (at : ℕ) → IsCharBoundary bs at → DigitsTo bs at at 0
digits_none bs at b =
    let none : between bs at at ≡ [] = between-nil bs at in
    let size : at - at ≡ 0 = omega arith in
    record {
      above = omega arith;
      boundary = b;
      digits = ap (list_all hex_digit) none;
      long = ap length none ∙ sym size;
      value = ap (hex_value 0) none;
      fits = subst (λ k. 0 < 16 ^ k) (sym size) (omega arith);
    }

-- one digit more is read
pub digits_more : (bs : List ℕ) (at end number d : ℕ) → IsUtf8 bs → IsCharBoundary bs at → DigitsTo bs at end number
    → end < length bs → IsDigit (get_or bs end 0) d
    → DigitsTo bs at (end + 1) (number * 16 + d)
digits_more bs at end number d u b h l digit =
    let c = get_or bs end 0 in
    let low : c < 128 = hex_digit_is_ascii c digit.allowed in
    let above = h.above in
    let long = h.long in
    let fits = h.fits in
    let small : digit_of c < 16 = digit_small c digit.allowed in
    let longer : between bs at (end + 1) ≡ between bs at end ++ c ∷ [] = between-push_ascii bs at end u h.above b l low in
    let size : end + 1 - at ≡ end - at + 1 = omega arith in
    record {
      above = omega arith;
      boundary = IsCharBoundary-after_ascii bs end u l low;
      digits = ap (list_all hex_digit) longer ∙ (every-append hex_digit (between bs at end) (c ∷ [])
          ∙ and_from _ _ h.digits (and_from _ _ digit.allowed refl));
      long = ap length longer ∙ (length-append (between bs at end) (c ∷ []) ∙ omega arith);
      value = ap (hex_value 0) longer ∙ (hex_value-append 0 c (between bs at end) ∙ omega (arith, h.value, digit.means));
      fits = subst (λ k. number * 16 + d < 16 ^ k) (sym size) (omega (arith, pow_more 16 (end - at), digit.means));
    }

-- all digits are read
pub digits_all : (bs : List ℕ) (at count number : ℕ) → IsUtf8 bs → IsCharBoundary bs at
    → DigitsTo bs at (at + count) number → IsNumberAt bs at count number
digits_all bs at count number u b h =
    let ds = between bs at (at + count) in
    let split : rest bs at ≡ ds ++ rest bs (at + count) = rest-between bs at (at + count) u h.above b h.boundary in
    let long : length ds ≡ count = h.long ∙ omega arith in
    let prefix : take count (rest bs at) ≡ ds = ap (take count) split
    ∙ (ap (λ k. take k (ds ++ rest bs (at + count))) (sym long) ∙ take-append_seam ds (rest bs (at + count))) in
    record {
      digits = ap (λ (t : List ℕ). (length t == count) && list_all hex_digit t) prefix
          ∙ and_from _ _ (eq-eqb (length ds) count long) h.digits;
      boundary = h.boundary;
      after = ap (drop count) split ∙ (ap (λ k. drop k (ds ++ rest bs (at + count))) (sym long)
          ∙ drop-append_seam ds (rest bs (at + count)));
      value = ap (hex_value 0) prefix ∙ h.value;
    }

-- where the text ends too early
pub digits_end : (bs : List ℕ) (at end count number : ℕ) → IsUtf8 bs → IsCharBoundary bs at
    → DigitsTo bs at end number → end - at < count → length bs ≤ end
    → digits_at bs at count ≡ false
digits_end bs at end count number u b h l past =
    let ds = between bs at end in
    let split : rest bs at ≡ ds ++ rest bs end = rest-between bs at end u h.above b h.boundary in
    let size : length (rest bs at) ≡ end - at = ap length split
    ∙ (length-append ds (rest bs end) ∙ omega (arith, h.long, ap length (rest-end bs end past))) in
    let digits : List ℕ = take count (rest bs at) in
    let other : length digits ≡ count → ⊥ = λ e. omega (arith, length-take count (rest bs at)) in
    and_left (length digits == count) (list_all hex_digit digits) (ne_eqb (length digits) count other)

-- where another byte is among them
pub digits_broken : (bs : List ℕ) (at end count number : ℕ) → IsUtf8 bs → IsCharBoundary bs at
    → DigitsTo bs at end number → end - at < count → end < length bs
    → hex_digit (get_or bs end 0) ≡ false → digits_at bs at count ≡ false
digits_broken bs at end count number u b h l inside other =
    let ds = between bs at end in
    let there = char_at bs end u h.boundary inside in
    let c : ℕ = there.0 in
    let cs : List ℕ = rest bs (end + len_utf8 c) in
    let none : hex_digit c ≡ false = test-char_at hex_digit bs end c blind-hex_digit u there.1 ∙ other in
    let split : rest bs at ≡ ds ++ c ∷ cs = rest-between bs at end u h.above b h.boundary ∙ ap (λ (t : List ℕ). ds ++ t) there.1.splits in
    let long = h.long in
    let more : count ≡ length ds + suc (count - (end - at) - 1) = omega arith in
    let digits : List ℕ = take count (rest bs at) in
    let prefix : digits ≡ ds ++ c ∷ take (count - (end - at) - 1) cs = ap (take count) split
    ∙ (ap (λ k. take k (ds ++ c ∷ cs)) more ∙ take-append-add ds (c ∷ cs) (suc (count - (end - at) - 1))) in
    and_right (length digits == count) (list_all hex_digit digits)
    (ap (list_all hex_digit) prefix ∙ (every-append hex_digit ds (c ∷ take (count - (end - at) - 1) cs)
    ∙ and_right _ _ (and_left _ _ none)))

-- ---- escapes

escaped_low : (b : ℕ) → quoted_char_fits (escape b) ≡ true → escaped_char b < 0xd800
escaped_low b h = grind (arith, nat_tests)

some_digits : (b : ℕ) → 0 < digits_after b
some_digits b = grind (arith, nat_tests)

-- what the number of digits says of a sign
pub counted_none : (b k : ℕ) → k ≡ (if is_in b (codes "xuU") then digits_after b else 0) → k ≡ 0 → is_in b (codes "xuU") ≡ false
counted_none b k h e = elim (cases_Bool (is_in b (codes "xuU"))) [
  | inl y ↦ (let some : k ≡ digits_after b = h ∙ cond-true _ _ _ y in absurd (omega (arith, some_digits b)))
  | inr n ↦ n
]

-- an escape with digits has as many as its sign says
pub counted_some : (b k : ℕ) → k ≡ (if is_in b (codes "xuU") then digits_after b else 0) → (k ≡ 0 → ⊥)
    → (is_in b (codes "xuU") ≡ true) × (k ≡ digits_after b)
counted_some b k h e = elim (cases_Bool (is_in b (codes "xuU"))) [
  | inl y ↦ (y, h ∙ cond-true _ _ _ y)
  | inr n ↦ absurd (e (h ∙ cond-false _ _ _ n))
]

-- after a backslash
module _ (bs : List ℕ) (at : ℕ) (u : IsUtf8 bs) (l : at < length bs) (e : get_or bs at 0 ≡ 92) where
  after : rest bs at ≡ 92 ∷ rest bs (at + 1)
  after = byte_read bs at 92 u l e (omega arith)

  -- at the end of the text there is no escape
  pub escape_cut : length bs ≤ at + 1 → NoEscapeAt bs at
  unfolding read_item
  escape_cut past = ap read_item (after ∙ ap (λ (t : List ℕ). 92 ∷ t) (rest-end bs (at + 1) past))

  -- where this byte is there
  module _ (m : at + 1 < length bs) (b : ℕ) (is : get_or bs (at + 1) 0 ≡ b) where
    signed : b < 128 → (rest bs at ≡ 92 ∷ b ∷ rest bs (at + 1 + 1)) × IsCharBoundary bs (at + 1 + 1)
    signed a = (
      after ∙ ap (λ (t : List ℕ). 92 ∷ t) (byte_read bs (at + 1) b u m is a),
      after_byte bs (at + 1) b u m is a,
    )

    -- a sign without digits is an escape
    pub escape_there : is_in b (codes "xuU") ≡ false → (meant : ℕ) → IsEscape b meant → EscapeAt bs at meant (at + 1 + 1)
    unfolding read_item
    escape_there n meant s =
        let a = signed (escape_is_ascii b s.allowed) in
        record {
          above = omega arith;
          boundary = a.1;
          item = escape b;
          found = ap read_item a.0 ∙ (cond-false (is_in b (codes "xuU")) _ _ n ∙ cond-true _ _ _ s.allowed);
          means = s.means;
          scalar = subst IsScalar s.means (low_scalar (escaped_char b) (escaped_low b s.allowed));
        }

    -- any other sign is none
    pub no_escape : is_in b (codes "xuU") ≡ false → quoted_char_fits (escape b) ≡ false → NoEscapeAt bs at
    unfolding read_item
    no_escape n f =
        let there = char_at bs (at + 1) u (after_byte bs at 92 u l e (omega arith)) m in
        let c : ℕ = there.0 in
        let cs : List ℕ = rest bs (at + 1 + len_utf8 c) in
        let uncounted : is_in c (codes "xuU") ≡ false =
        test-char_at (λ x. is_in x (codes "xuU")) bs (at + 1) c blind-counted u there.1
        ∙ (ap (λ x. is_in x (codes "xuU")) is ∙ n) in
        let none : quoted_char_fits (escape c) ≡ false =
        test-char_at (λ x. quoted_char_fits (escape x)) bs (at + 1) c blind-escape u there.1
        ∙ (ap (λ x. quoted_char_fits (escape x)) is ∙ f) in
        ap read_item (after ∙ ap (λ (t : List ℕ). 92 ∷ t) there.1.splits)
        ∙ (cond-false (is_in c (codes "xuU")) (read_number c cs) _ uncounted
        ∙ cond-false (quoted_char_fits (escape c)) (Some (escape c, cs)) None none)

    -- where digits come after it
    module _ (y : is_in b (codes "xuU") ≡ true) (k : ℕ) (long : k ≡ digits_after b) where
      digits : List ℕ
      digits = take k (rest bs (at + 1 + 1))

      number_read : read_item (rest bs at) ≡ (if quoted_char_fits (counted b digits)
          then Some (counted b digits, drop k (rest bs (at + 1 + 1))) else None)
      unfolding read_item digits
      number_read =
          ap read_item (signed (counted_is_ascii b y)).0
          ∙ (cond-true (is_in b (codes "xuU")) (read_number b (rest bs (at + 1 + 1))) _ y
          ∙ ap (λ j. let ds = take j (rest bs (at + 1 + 1)) in
          if quoted_char_fits (counted b ds) then Some (counted b ds, drop j (rest bs (at + 1 + 1))) else None) (sym long))

      refused : quoted_char_fits (counted b digits) ≡ false → NoEscapeAt bs at
      refused f = number_read ∙ cond-false _ _ _ f

      -- without enough digits there is no escape
      pub no_number : digits_at bs (at + 1 + 1) k ≡ false → NoEscapeAt bs at
      unfolding digits
      no_number f = refused (no_digits (is_in b (codes "xuU")) (length digits == digits_after b)
          (list_all hex_digit digits) (code_point (hex_value 0 digits))
          (ap (λ j. (length digits == j) && list_all hex_digit digits) (sym long) ∙ f))
        where
          no_digits : (s t h p : Bool) → t && h ≡ false → s && t && h && p ≡ false
          no_digits true true true p f = absurd (false≢true (sym f))
          no_digits true true false p f = refl
          no_digits true false h p f = refl
          no_digits false t h p f = refl

      -- nor if the number is no character
      pub no_char : (n : ℕ) → IsNumberAt bs (at + 1 + 1) k n → OutOfScalarRange n → NoEscapeAt bs at
      unfolding digits
      no_char n h o = refused (and_right _ _ (ap code_point h.value ∙ out_of_range n o))
        where
          out_of_range : (x : ℕ) → OutOfScalarRange x → code_point x ≡ false
          out_of_range x (inl o) = grind (arith, nat_tests)
          out_of_range x (inr o) = grind (arith, nat_tests)

      -- else there is one
      pub number_there : (n : ℕ) → IsNumberAt bs (at + 1 + 1) k n → IsScalar n → EscapeAt bs at n (at + 1 + 1 + k)
      unfolding digits
      number_there n h o =
          let d = and_parts (length digits == k) (list_all hex_digit digits) h.digits in
          let size : length digits == digits_after b ≡ true = ap (λ j. length digits == j) (sym long) ∙ d.0 in
          let item : quoted_char_fits (counted b digits) ≡ true =
          and_from _ _ (and_from _ _ (and_from _ _ y size) d.1) (ap code_point h.value ∙ code_point-scalar n o) in
          record {
            above = omega arith;
            boundary = h.boundary;
            item = counted b digits;
            found = number_read ∙ (cond-true _ _ _ item ∙ ap (λ (t : List ℕ). Some (counted b digits, t)) h.after);
            means = h.value;
            scalar = o;
          }
