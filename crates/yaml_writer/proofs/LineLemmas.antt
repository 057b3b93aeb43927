-- A text is cut at its first line feed.
use Rattle.std.proofs.Common.{◌≡◌, ℕ, zero, suc, ◌+◌, ◌-◌, ◌<◌, ◌≤◌, Bool, true, not, ◌==◌, List, [], ◌∷◌, ◌++◌, length, take, drop}
use Rattle.std.proofs.Common.{slice_index, IsUtf8, sym, ap, ap₂, ◌∙◌, subst, arith, slice_range}
use Rattle.yaml_writer.proofs.Prelude.{and_parts, not-true, not_from_false, false_from_ne_true, eqb-true, nat_tests, list_all, chars}
use Rattle.yaml_writer.proofs.Prelude.{get_or-take, length-take, IsUtf8-take, IsCharBoundary-before_ascii, line_feed}
use Rattle.{yaml_writer.specs.Lines.IsOneLine, yaml_chars.proofs.Runs.{IsBlind, test-chars}}
use Rattle.memchr.specs.Find.{NoneBefore, Passes, is_byte}

-- any other character
abbrev feedless : ℕ → Bool
feedless c = not (c == line_feed)

blind-feedless : IsBlind feedless
blind-feedless c h l = grind (arith, nat_tests)

all_feedless : (cs : List ℕ) → list_all feedless cs ≡ true → IsOneLine cs
all_feedless [] e = tt
all_feedless (c ∷ cs) e = let p = and_parts (feedless c) (list_all feedless cs) e in (not-true (c == line_feed) p.0, all_feedless cs p.1)

-- bytes without a line feed are one line of characters
pub one_line_from_bytes : (bs : List ℕ) → IsUtf8 bs
    → ((k : ℕ) → 0 ≤ k → k < length bs → (slice_index bs k == line_feed) ≡ true → ⊥) → IsOneLine (chars bs)
one_line_from_bytes bs utf8 none =
    all_feedless (chars bs)
    (test-chars feedless bs blind-feedless utf8 (λ k l. not_from_false _ (false_from_ne_true _ (none k (omega arith) l))))

-- the first line feed of a text stands at this place
pub record IsFirstFeed (bs : List ℕ) (at : ℕ) : Type 0 where
  pub within : at < length bs
  pub feed : slice_index bs at ≡ line_feed
  pub none : (k : ℕ) → k < at → (slice_index bs k == line_feed) ≡ true → ⊥

-- as a search for the byte says it
pub first_feed : (text bytes : List ℕ) (at : ℕ) → bytes ≡ text
    → NoneBefore (Passes (is_byte line_feed) bytes) 0 (length bytes) at × Passes (is_byte line_feed) bytes at → IsFirstFeed text at
first_feed text bytes at same found = subst (λ bs. IsFirstFeed bs at) same (record {
  within = found.0.high;
  feed = eqb-true _ _ found.1;
  none = λ k l. found.0.before k (omega arith) l;
})

at_feed : (bs : List ℕ) (at : ℕ) → at < length bs → slice_index bs at ≡ line_feed → bs ≡ take at bs ++ line_feed ∷ drop (suc at) bs
at_feed [] at l e = absurd (omega arith)
at_feed (b ∷ bs) zero l e = ap (λ c. c ∷ bs) e
at_feed (b ∷ bs) (suc at) l e = ap (λ cs. b ∷ cs) (at_feed bs at (omega (arith, l)) e)

before_is : (bs : List ℕ) (at : ℕ) → slice_range bs 0 at ≡ take at bs
before_is bs at = ap (λ n. take n bs) (let none : at - 0 ≡ at = omega arith in none)

-- the text is the line before it, the line feed, and what comes after it
pub cut_at_feed : (bs : List ℕ) (at : ℕ) → IsFirstFeed bs at → bs ≡ slice_range bs 0 at ++ line_feed ∷ drop (at + 1) bs
cut_at_feed bs at first =
    at_feed bs at first.within first.feed
    ∙ ap₂ (λ line n. line ++ line_feed ∷ drop n bs) (sym (before_is bs at)) (let next : suc at ≡ at + 1 = omega arith in next)

-- that line has no line feed
pub line_before : (bs : List ℕ) (at : ℕ) → IsUtf8 bs → IsFirstFeed bs at → IsOneLine (chars (slice_range bs 0 at))
line_before bs at utf8 first =
    let utf8_before = IsUtf8-take bs at utf8 (IsCharBoundary-before_ascii bs at first.within (omega (arith, first.feed))) in
    subst (λ line. IsOneLine (chars line)) (sym (before_is bs at))
    (one_line_from_bytes (take at bs) utf8_before (λ k low l is.
    let below : k < at = omega (arith, l, length-take at bs) in
    first.none k below (ap (λ b. b == line_feed) (sym (get_or-take at bs k 0 below)) ∙ is)))
