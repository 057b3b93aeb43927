-- How the start of the reader's line moves.
use Rattle.std.{proofs.Common.{◌≡◌, refl, sym, ◌∙◌, ap, arith, ℕ, ◌+◌, ◌<◌, ◌≤◌}, specs.Prelude.{Bool, true, false, ◌&&◌, nat_le, List}}
use Rattle.yaml_flow.proofs.Prelude.{IsUtf8, IsCharBoundary, nat_tests, line_break, between, between-append, between-nil, list_all}
use Rattle.yaml_flow.{proofs.{Prelude.{unbroken_joined, closer, IsSign, unbroken_between}, Signs.one_sign}, specs.Frames.IsBracket}
use Rattle.{yaml_flow.specs.Frames.{LineMoves, SameLine}, yaml_chars.specs.Breaks.no_break}

-- no break between two places means none in either part
pub unbroken_parts : (bs : List ℕ) (i j k : ℕ) → IsUtf8 bs → i ≤ j → j ≤ k → IsCharBoundary bs i → IsCharBoundary bs j → IsCharBoundary bs k
    → unbroken_between bs i k ≡ unbroken_between bs i j && unbroken_between bs j k
unbroken_parts bs i j k u l m a b c = ap (list_all no_break) (between-append bs i j k u l m a b c)
    ∙ unbroken_joined (between bs i j) (between bs j k)

-- between a place and itself there is no break
pub unbroken_here : (bs : List ℕ) (i : ℕ) → unbroken_between bs i i ≡ true
unbroken_here bs i = ap (list_all no_break) (between-nil bs i)

-- a place is on its own line
pub same_line_here : (bs : List ℕ) (line at : ℕ) → line ≤ at → SameLine bs line at at
same_line_here bs line at l = le_true line at l ∙ sym (unbroken_here bs at)
  where
    le_true : (i j : ℕ) → i ≤ j → nat_le i j ≡ true
    le_true i j l = grind (arith, nat_tests)

and_true : (b : Bool) → b && true ≡ b
and_true true = refl
and_true false = refl

and_false : (b : Bool) → b && false ≡ false
and_false true = refl
and_false false = refl

-- with no break on the way the line stays
pub line_stays : (bs : List ℕ) (line at to : ℕ) → IsUtf8 bs → at ≤ to → IsCharBoundary bs at → IsCharBoundary bs to
    → unbroken_between bs at to ≡ true → LineMoves bs line at line to
line_stays bs line at to u l b c h = record {
  within = λ k. omega arith;
  tells = λ from f k s. s ∙ sym (unbroken_parts bs from at to u k l f b c
      ∙ (ap (λ x. unbroken_between bs from at && x) h ∙ and_true (unbroken_between bs from at)));
}

-- with a break it starts after it
pub line_follows : (bs : List ℕ) (line at to : ℕ) → IsUtf8 bs → at < to → IsCharBoundary bs at → IsCharBoundary bs to
    → unbroken_between bs at to ≡ false → LineMoves bs line at to to
line_follows bs line at to u l b c h = record {
  within = λ k. omega arith;
  tells = λ from f k s. le_false to from (omega arith)
      ∙ sym (unbroken_parts bs from at to u k (omega arith) f b c
      ∙ (ap (λ x. unbroken_between bs from at && x) h ∙ and_false (unbroken_between bs from at)));
}
  where
    le_false : (i j : ℕ) → j < i → nat_le i j ≡ false
    le_false i j l = grind (arith, nat_tests)

-- nothing moves the line
pub line_same : (bs : List ℕ) (line at : ℕ) → LineMoves bs line at line at
line_same bs line at = record { within = λ k. k; tells = λ from f k s. s }

-- two moves are one
pub line_then : (bs : List ℕ) (one a two b three c : ℕ) → a ≤ b → IsCharBoundary bs a → LineMoves bs one a two b
    → LineMoves bs two b three c → LineMoves bs one a three c
line_then bs one a two b three c l i h k = record {
  within = λ w. k.within (h.within w);
  tells = λ from f m s. k.tells from f (omega arith) (h.tells from f m s);
}

-- a sign doesn't move the line
pub sign_line : (bs : List ℕ) (line at x : ℕ) → IsUtf8 bs → IsCharBoundary bs at → IsSign bs at x
    → line_break x ≡ false → LineMoves bs line at line (at + 1)
sign_line bs line at x u b s h =
    line_stays bs line at (at + 1) u (omega arith) b s.boundary (ap (list_all no_break) (one_sign bs at x u b s) ∙ rw h refl)

-- nor does a sign before a further move
pub sign_then : (bs : List ℕ) (old at x new to : ℕ) → IsUtf8 bs → IsCharBoundary bs at → IsSign bs at x
    → line_break x ≡ false → LineMoves bs old (at + 1) new to → LineMoves bs old at new to
sign_then bs old at x new to u b s h m = line_then bs old at old (at + 1) new to (omega arith) b (sign_line bs old at x u b s h) m

-- nor does a closing bracket
pub closer_line : (bs : List ℕ) (line at : ℕ) (in_seq : Bool) → IsUtf8 bs → IsCharBoundary bs at
    → IsSign bs at (closer in_seq) → LineMoves bs line at line (at + 1)
closer_line bs line at true u b s = sign_line bs line at 93 u b s refl
closer_line bs line at false u b s = sign_line bs line at 125 u b s refl

-- nor does an opening one before a further move
pub opener_then : (bs : List ℕ) (old at : ℕ) (in_seq : Bool) (new to : ℕ) → IsUtf8 bs → IsCharBoundary bs at
    → IsBracket bs at in_seq → LineMoves bs old (at + 1) new to → LineMoves bs old at new to
opener_then bs old at true new to u b s m = sign_then bs old at 91 new to u b s refl m
opener_then bs old at false new to u b s m = sign_then bs old at 123 new to u b s refl m
