-- The first line of a text, by the place of its break in the bytes.
use Rattle.std.proofs.Common.{◌≡◌, ℕ, suc, ◌+◌, ◌<◌, ◌≤◌, List, [], ◌∷◌, ◌++◌, length, refl, ap, sym, ◌∙◌, subst, arith, ◌==◌, true, false}
use Rattle.std.proofs.Common.{inl, inr}
use Rattle.yaml_style.proofs.Prelude.{chars, IsUtf8, append_cancel_right, IsCharBoundary-start, chars-nil, encodes-chars, eqb-true}
use Rattle.yaml_style.proofs.Prelude.{eqb-false, cases_Bool, StartsWithBreak, cr_lf, lf, cr, NoBreak, EndsLine, rest, between, rest-between}
use Rattle.yaml_style.proofs.Prelude.{is_empty}
use lib.Utf8.{encodes}
use Rattle.yaml_style.{specs.Lines.breaks, proofs.LineLemmas.{has_break, IsFirstLine, first_line, last_line, one_more_break}}

-- the text is split at its first break
pub record IsSplit (text : List ℕ) (start len : ℕ) : Type 0 where
  pub line : IsFirstLine (chars text) (between text 0 start) (between text start (start + len)) (rest text (start + len))
  pub count : breaks (chars text) ≡ suc (breaks (rest text (start + len)))

-- the break that was found splits it
pub is_split : (text : List ℕ) (start len : ℕ) → IsUtf8 text → EndsLine text 0 start len → IsSplit text start len
is_split text start len utf8 ends =
    let prefix = between text 0 start in
    let after = rest text (start + len) in
    let found = has_break (rest text start) len after ends.break in
    let whole : chars text ≡ prefix ++ rest text start =
    rest-between text 0 start utf8 (omega arith) (IsCharBoundary-start text utf8) ends.end in
    let tail : rest text start ≡ between text start (start + len) ++ after =
    rest-between text start (start + len) utf8 (omega arith) ends.end ends.next in
    let same : found.0 ≡ between text start (start + len) =
    append_cancel_right found.0 (between text start (start + len)) after (sym found.1.text ∙ tail) in
    let line : IsFirstLine (chars text) prefix found.0 after =
    subst (λ t. IsFirstLine t prefix found.0 after) (sym whole)
    (first_line prefix (rest text start) found.0 after ends.line found.1) in
    record {
      line = subst (λ brk. IsFirstLine (chars text) prefix brk after) same line;
      count = ap breaks whole ∙ one_more_break prefix (rest text start) found.0 after ends.line found.1;
    }

-- a break has at least a character
pub break_len : (text : List ℕ) (len : ℕ) (after : List ℕ) → StartsWithBreak text len after → 1 ≤ len
break_len text len after (cr_lf e size) = omega arith
break_len text len after (lf e size) = omega arith
break_len text len after (cr e alone size) = omega arith

-- ---- texts without bytes, and with some

-- bytes that are not empty have a character
pub some_chars : (bytes : List ℕ) → IsUtf8 bytes → 0 < length bytes → 0 < length (chars bytes)
some_chars bytes utf8 some = go (chars bytes) (encodes-chars bytes utf8)
  where
    go : (cs : List ℕ) → encodes cs ≡ bytes → 0 < length cs
    go [] e = absurd (omega (arith, ap (λ (x : List ℕ). length x) e, some))
    go (c ∷ cs) e = omega arith

-- no bytes are the empty list
pub no_bytes : (bytes : List ℕ) → (length bytes == 0) ≡ true → bytes ≡ []
no_bytes [] e = refl
no_bytes (b ∷ bs) e = absurd (omega (arith, eqb-true (length (b ∷ bs)) 0 e))

-- a text is empty if it has no bytes
pub empty_text : (bytes : List ℕ) → IsUtf8 bytes → (length bytes == 0) ≡ is_empty (chars bytes)
empty_text bytes utf8 = elim (cases_Bool (length bytes == 0)) [
  | inl none ↦ none ∙ sym (ap is_empty (ap chars (no_bytes bytes none) ∙ chars-nil))
  | inr some ↦ some ∙ sym (by_cases (chars bytes) (some_chars bytes utf8 (omega (arith, eqb-false (length bytes) 0 some))))
]
  where
    by_cases : (cs : List ℕ) → 0 < length cs → is_empty cs ≡ false
    by_cases [] l = absurd (omega (arith, l))
    by_cases (c ∷ cs) l = refl

-- no characters are the empty list
pub no_chars : (cs : List ℕ) → is_empty cs ≡ true → cs ≡ []
no_chars [] e = refl
no_chars (c ∷ cs) e = cc

-- the line that a text is, without a break
pub is_last : (text : List ℕ) → IsUtf8 text → NoBreak (rest text 0) → 0 < length text
    → IsFirstLine (chars text) (chars text) (chars []) (chars [])
is_last text utf8 none some = rw chars-nil (last_line (chars text) none (some_chars text utf8 some))
