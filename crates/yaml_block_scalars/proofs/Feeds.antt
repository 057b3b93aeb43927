-- Line feeds at a place.
use Rattle.std.proofs.Common.{◌≡◌, ℕ, zero, suc, ◌+◌, ◌-◌, ◌<◌, ◌≤◌, false, List, [], ◌∷◌, ◌++◌, refl, ap, sym, ◌∙◌, arith, length, get_or}
use Rattle.std.specs.Prelude.{◌==◌}
use Rattle.yaml_block_scalars.proofs.Prelude.{IsUtf8, IsCharBoundary, and_left, ne_eqb, nat_tests, append_cancel_right, between, rest}
use Rattle.yaml_block_scalars.proofs.Prelude.{rest-between, IsBlind, line_feeds, begins, first, ascii_prefix, first_at_end, first_there}
use Rattle.yaml_block_scalars.specs.Lines.{AreFeeds}

blind-feed : IsBlind (λ c. c == 10)
blind-feed c h l = grind (arith, nat_tests)

-- the line feeds up to a place
pub record AreFeedsSoFar (bs : List ℕ) (at count end : ℕ) : Type 0 where
  pub above : at ≤ end
  pub few : end - at ≤ count
  pub boundary : IsCharBoundary bs end
  pub spells : rest bs at ≡ line_feeds (end - at) ++ rest bs end

-- no line feed is passed yet
pub feeds_none : (bs : List ℕ) (at count : ℕ) → IsCharBoundary bs at → AreFeedsSoFar bs at count at
feeds_none bs at count b = record {
  above = omega arith;
  few = omega arith;
  boundary = b;
  spells = ap (λ k. line_feeds k ++ rest bs at) (let e : 0 ≡ at - at = omega arith in e);
}

feeds_pushed : (k : ℕ) (text : List ℕ) → line_feeds k ++ (10 ∷ text) ≡ line_feeds (suc k) ++ text
feeds_pushed zero text = refl
feeds_pushed (suc k) text = ap (λ t. 10 ∷ t) (feeds_pushed k text)

-- one line feed more is passed
pub feeds_more : (bs : List ℕ) (at count end : ℕ) → IsUtf8 bs → AreFeedsSoFar bs at count end → end - at < count
    → end < length bs → get_or bs end 0 ≡ 10 → AreFeedsSoFar bs at count (end + 1)
feeds_more bs at count end u h few l e =
    let there = ascii_prefix bs end 10 u l (omega arith) e in
    let above = h.above in
    record {
      above = omega arith;
      few = omega arith;
      boundary = there.1;
      spells = h.spells ∙ (ap (λ t. line_feeds (end - at) ++ t) there.0 ∙ (feeds_pushed (end - at) (rest bs (end + 1))
          ∙ ap (λ k. line_feeds k ++ rest bs (end + 1)) (let e : suc (end - at) ≡ end + 1 - at = omega arith in e)));
    }

begins_short : (n k : ℕ) (text : List ℕ) → k < n → first (λ c. c == 10) text ≡ false → begins (line_feeds n) (line_feeds k ++ text) ≡ false
begins_short zero k text l h = absurd (omega arith)
begins_short (suc n) zero [] l h = refl
begins_short (suc n) zero (c ∷ cs) l h = and_left (c == 10) (begins (line_feeds n) cs) h
begins_short (suc n) (suc k) text l h = begins_short n k text (omega arith) h

few_feeds : (bs : List ℕ) (at count end : ℕ) → AreFeedsSoFar bs at count end → end - at < count
    → first (λ c. c == 10) (rest bs end) ≡ false → begins (line_feeds count) (rest bs at) ≡ false
few_feeds bs at count end h few n = ap (begins (line_feeds count)) h.spells ∙ begins_short count (end - at) (rest bs end) few n

-- the text ends before all of them
pub feeds_cut : (bs : List ℕ) (at count end : ℕ) → AreFeedsSoFar bs at count end → end - at < count → length bs ≤ end
    → begins (line_feeds count) (rest bs at) ≡ false
feeds_cut bs at count end h few l = few_feeds bs at count end h few (first_at_end (λ c. c == 10) bs end l)

-- another byte comes before all of them
pub feeds_stopped : (bs : List ℕ) (at count end : ℕ) → IsUtf8 bs → AreFeedsSoFar bs at count end → end - at < count
    → end < length bs → (get_or bs end 0 ≡ 10 → ⊥)
    → begins (line_feeds count) (rest bs at) ≡ false
feeds_stopped bs at count end u h few l n =
    few_feeds bs at count end h few (first_there (λ c. c == 10) bs end blind-feed u h.boundary l ∙ ne_eqb (get_or bs end 0) 10 n)

-- all of them are passed
pub feeds_all : (bs : List ℕ) (at count end : ℕ) → IsUtf8 bs → IsCharBoundary bs at → AreFeedsSoFar bs at count end
    → count ≤ end - at → AreFeeds bs at count end
feeds_all bs at count end u b h l =
    let few = h.few in
    let e : end - at ≡ count = omega arith in
    record {
      above = h.above;
      boundary = h.boundary;
      spells = append_cancel_right (between bs at end) (line_feeds count) (rest bs end)
          (sym (rest-between bs at end u h.above b h.boundary) ∙ (h.spells ∙ ap (λ k. line_feeds k ++ rest bs end) e));
    }
