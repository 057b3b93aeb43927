-- Where block nodes end, and where they go on.
use Rattle.std.{proofs.Common.{arith, inl, inr, refl, subst, sym, ◌<◌, ◌∙◌, ◌≡◌, ◌≤◌}, specs.Prelude.{Bool, List, [], cond, false, nat_le}}
use Rattle.std.specs.Prelude.{nat_lt, not, suc, true, zero, ℕ, ◌&&◌, ◌++◌, ◌==◌, ◌||◌, ◌∷◌}
use Rattle.yaml_recognizers.proofs.Prelude.{and_cases, and_from, and_left, and_parts, and_right, cases_Bool, eqb-true, false≢true, le-leb}
use Rattle.yaml_recognizers.proofs.Prelude.{le-ltb, leb-false, leb-true, lt-leb, lt-ltb, ltb-true, not-true, not_from_false, not_from_true}
use Rattle.yaml_recognizers.proofs.Prelude.{or_cases, or_from, or_left, or_right, space, past_spaces, spaces_before, first, is_empty}
use Rattle.yaml_recognizers.proofs.{Prelude.{marker, spaces}, Separation.CommentsComplete.not_line_end, Basics.Prefixes.every_space}
use Rattle.yaml_recognizers.proofs.Basics.{Prefixes.{spaces_counted, spaces_passed, spaces_split}, Solid.{colon_unmarked, dash_solid}}
use Rattle.yaml_recognizers.proofs.Basics.Solid.{dash_unmarked, marker_first, sign_solid, solid_some, solid_space}
use Rattle.yaml_recognizers.specs.{CanonicalComments.is_line_end, Ends.{block_node_stops, solid}, Prefixes.sign}

-- ---- what ends a node ends those in it

-- less deep than m
abbrev pub less : ℕ → ℕ → Bool → Bool → Bool
less s m shallow d = nat_lt s m && not (shallow && nat_le m (suc s) && d)

-- what leads from the second of two leads from both
or_mono : (x y z : Bool) → (y ≡ true → z ≡ true) → x || y ≡ true → x || z ≡ true
or_mono true y z f h = refl
or_mono false y z f h = f h

-- where a node ends, another one ends for which each line that is less deep is so too
block_node_stops_mono : (m m' : ℕ) (shallow dash' : Bool) (text : List ℕ)
    → (less (spaces_before text) m shallow (sign 45 (past_spaces text)) ≡ true
    → less (spaces_before text) m' dash' (sign 45 (past_spaces text)) ≡ true)
    → block_node_stops m shallow text ≡ true → block_node_stops m' dash' text ≡ true
block_node_stops_mono m m' shallow dash' text f h = or_mono _ _ _ f h

-- what is less deep than a sequence's parent is less deep than its items
less_items : (s m k : ℕ) (shallow d : Bool) → nat_le m (cond shallow (suc k) k) ≡ true → less s m shallow d ≡ true
    → less s (suc k) true d ≡ true
less_items s m k false d g h =
    let l : s < m = ltb-true s m (and_parts _ _ h).0 in
    let r : m ≤ k = leb-true m k g in
    and_from _ _ (lt-ltb s (suc k) (omega arith)) (not_from_false _ (and_left _ _ (lt-leb (suc k) (suc s) (omega arith))))
less_items s m k true d g h =
    let p : (nat_lt s m ≡ true) × (not (nat_le m (suc s) && d) ≡ true) = and_parts _ _ h in
    let l : s < m = ltb-true s m p.0 in
    let r : m ≤ suc k = leb-true m (suc k) g in
    and_from _ _ (lt-ltb s (suc k) (omega arith))
    (elim (and_cases _ _ (not-true _ p.1)) [
      | inl e ↦ (let t : suc s < m = leb-false m (suc s) e in not_from_false _ (and_left _ _ (lt-leb (suc k) (suc s) (omega arith))))
      | inr e ↦ not_from_false _ (and_right _ _ e)
    ])

-- what ends a node ends the items in it
pub block_node_stops_items : (m k : ℕ) (shallow : Bool) (text : List ℕ) → nat_le m (cond shallow (suc k) k) ≡ true
    → block_node_stops m shallow text ≡ true → block_node_stops (suc k) true text ≡ true
block_node_stops_items m k shallow text g h = block_node_stops_mono m (suc k) shallow true text (less_items _ m k shallow _ g) h

-- what ends a node that may be as deep as its parent ends one that may not
pub block_node_stops_last : (k : ℕ) (text : List ℕ) → block_node_stops (suc k) true text ≡ true → block_node_stops (suc k) false text ≡ true
block_node_stops_last k text h = block_node_stops_mono (suc k) (suc k) true false text (λ l. and_from _ _ (and_parts _ _ l).0 refl) h

-- what is less deep than a mapping's parent is less deep than its pairs
less_pairs : (s m k : ℕ) (shallow d : Bool) → nat_le m k ≡ true → less s m shallow d ≡ true → less s k false d ≡ true
less_pairs s m k shallow d g h =
    let l : s < m = ltb-true s m (and_parts _ _ h).0 in
    let r : m ≤ k = leb-true m k g in
    and_from _ _ (lt-ltb s k (omega arith)) refl

-- what ends a node ends the pairs in it
pub block_node_stops_pairs : (m k : ℕ) (shallow : Bool) (text : List ℕ) → nat_le m k ≡ true
    → block_node_stops m shallow text ≡ true → block_node_stops k false text ≡ true
block_node_stops_pairs m k shallow text g h = block_node_stops_mono m k shallow false text (less_pairs _ m k shallow _ g) h

-- what is less deep than a mapping is less deep than its values
less_value : (s k : ℕ) (d : Bool) → less s k false d ≡ true → less s (suc k) true d ≡ true
less_value s k d h =
    let l : s < k = ltb-true s k (and_parts _ _ h).0 in
    and_from _ _ (lt-ltb s (suc k) (omega arith)) (not_from_false _ (and_left _ _ (lt-leb (suc k) (suc s) (omega arith))))

-- what ends a value ends a node that may be as deep as its parent
pub block_node_stops_value : (k : ℕ) (text : List ℕ) → block_node_stops k false text ≡ true → block_node_stops (suc k) true text ≡ true
block_node_stops_value k text h = block_node_stops_mono k (suc k) false true text (less_value _ k _) h

-- a line at k ends what is deeper
pub block_node_stops_at : (k : ℕ) (shallow : Bool) (rest : List ℕ) → first space rest ≡ false
    → shallow && sign 45 rest ≡ false → block_node_stops (suc k) shallow (spaces k ++ rest) ≡ true
block_node_stops_at k shallow rest f d =
    or_right _ _ (and_from _ _ (rw (spaces_counted k rest f) (lt-ltb k (suc k) (omega arith)))
    (not_from_false _ (rw (spaces_passed k rest f) (both_off shallow _ (sign 45 rest) d))))
  where
    both_off : (a b c : Bool) → a && c ≡ false → a && b && c ≡ false
    both_off true b c h = and_right b c h
    both_off false b c h = refl

-- ---- what does not end a node

-- neither the end nor a marker nor a comment
start_alone : (s : ℕ) (rest : List ℕ) → first solid rest ≡ true → (s ≡ 0 → marker rest ≡ false)
    → is_empty (spaces s ++ rest) || marker (spaces s ++ rest) || is_line_end (spaces s ++ rest) ≡ false
start_alone zero rest h m = or_from _ _ (or_from _ _ (solid_some 0 rest h) (m refl)) (not_line_end [] rest refl h)
start_alone (suc s) rest h m = or_from _ _ (marker_first 32 (spaces s ++ rest) refl refl)
    (not_line_end (spaces (suc s)) rest (every_space (suc s)) h)

-- a line with something solid, deep enough, ends no node
pub not_ended : (s m : ℕ) (shallow : Bool) (rest : List ℕ) → first solid rest ≡ true → (s ≡ 0 → marker rest ≡ false)
    → less s m shallow (sign 45 rest) ≡ false
    → block_node_stops m shallow (spaces s ++ rest) ≡ false
not_ended s m shallow rest h k l =
    let f : first space rest ≡ false = solid_space rest h in
    or_from _ _ (start_alone s rest h k) (rw (spaces_counted s rest f, spaces_passed s rest f) l)

-- a dash at a sequence's place is not less deep
not_less_dash : (k j : ℕ) (shallow : Bool) → nat_le (suc k) (cond shallow (suc j) j) ≡ true → less j (suc k) shallow true ≡ false
not_less_dash k j false h = let l : suc k ≤ j = leb-true (suc k) j h in and_left _ _ (le-ltb j (suc k) (omega arith))
not_less_dash k j true h = and_right _ _ (not_from_true _ (and_from _ _ h refl))

-- a `-` that is deep enough ends no node
pub dash_goes_on : (k j : ℕ) (shallow : Bool) (rest : List ℕ) → sign 45 rest ≡ true
    → nat_le (suc k) (cond shallow (suc j) j) ≡ true → block_node_stops (suc k) shallow (spaces j ++ rest) ≡ false
dash_goes_on k j shallow rest h l =
    not_ended j (suc k) shallow rest (dash_solid rest h) (λ _. dash_unmarked rest h)
    (subst (λ (b : Bool). less j (suc k) shallow b ≡ false) (sym h) (not_less_dash k j shallow l))

-- a line that is deep enough ends no node
pub deep_goes_on : (k : ℕ) (shallow : Bool) (text : List ℕ) → is_line_end text ≡ false
    → nat_le (suc k) (spaces_before text) ≡ true → block_node_stops (suc k) shallow text ≡ false
deep_goes_on k shallow [] e h = let l : suc k ≤ 0 = leb-true (suc k) 0 h in absurd (omega arith)
deep_goes_on k shallow (c ∷ cs) e h = elim (cases_Bool (c == 32)) [
  | inl i ↦ (let j : c ≡ 32 = eqb-true c 32 i in
      or_from _ _ (or_from _ _ (subst (λ (x : ℕ). marker (x ∷ cs) ≡ false) (sym j) (marker_first 32 cs refl refl)) e)
      (and_left _ _ (le-ltb (spaces_before (c ∷ cs)) (suc k) (leb-true (suc k) (spaces_before (c ∷ cs)) h))))
  | inr i ↦ (let l : suc k ≤ 0 = leb-true (suc k) 0
      (subst (λ (b : Bool). nat_le (suc k) (cond b (suc (spaces_before cs)) 0) ≡ true) i h) in absurd (omega arith))
]

-- ---- what an end is not

-- if the first of two fails, the second holds
or_falls : (x y : Bool) → x ≡ false → x || y ≡ true → y ≡ true
or_falls x y e h = subst (λ (b : Bool). b || y ≡ true) e h

-- before a sign an end is a line less deep
block_node_stops_less : (m : ℕ) (shallow : Bool) (text : List ℕ) → first solid (past_spaces text) ≡ true
    → marker (past_spaces text) ≡ false → block_node_stops m shallow text ≡ true
    → less (spaces_before text) m shallow (sign 45 (past_spaces text)) ≡ true
block_node_stops_less m shallow text s u h =
    or_falls _ _ (subst (λ (t : List ℕ). is_empty t || marker t || is_line_end t ≡ false) (sym (spaces_split text))
    (start_alone (spaces_before text) (past_spaces text) s (λ _. u))) h

-- two that can't both hold, don't
unless : (x y : Bool) → (x ≡ true → y ≡ true → ⊥) → x && y ≡ false
unless true true f = absurd (f refl refl)
unless true false f = refl
unless false y f = refl

-- what ends a node is no further item
pub items_stop : (k : ℕ) (text : List ℕ) → block_node_stops (suc k) true text ≡ true
    → (spaces_before text == k) && sign 45 (past_spaces text) ≡ false
items_stop k text h = unless (spaces_before text == k) (sign 45 (past_spaces text)) (λ e s.
    let more : Bool = nat_le (suc k) (suc (spaces_before text)) && sign 45 (past_spaces text) in
    let l : (nat_lt (spaces_before text) (suc k) ≡ true) × (not more ≡ true) =
    and_parts _ _ (block_node_stops_less (suc k) true text (dash_solid (past_spaces text) s)
    (dash_unmarked (past_spaces text) s) h) in
    let i : spaces_before text ≡ k = eqb-true (spaces_before text) k e in
    false≢true (sym (not_from_true more (and_from _ _ (le-leb (suc k) (suc (spaces_before text)) (omega arith)) s)) ∙ l.1))

-- nor the `:` of a value
pub colon_stop : (k : ℕ) (text : List ℕ) → block_node_stops k false text ≡ true
    → (spaces_before text == k) && sign 58 (past_spaces text) ≡ false
colon_stop k text h = unless (spaces_before text == k) (sign 58 (past_spaces text)) (λ e s.
    let l : (nat_lt (spaces_before text) k ≡ true) × (true ≡ true) =
    and_parts _ _ (block_node_stops_less k false text (sign_solid 58 (past_spaces text) refl s)
    (colon_unmarked (past_spaces text) s) h) in
    let i : spaces_before text ≡ k = eqb-true (spaces_before text) k e in
    let j : spaces_before text < k = ltb-true (spaces_before text) k l.0 in
    absurd (omega arith))

-- what ends a node is less deep, a marker or the end
pub block_node_stops_shallow : (m : ℕ) (shallow : Bool) (text : List ℕ) → is_line_end text ≡ false
    → block_node_stops m shallow text ≡ true → is_empty text || marker text || nat_lt (spaces_before text) m ≡ true
block_node_stops_shallow m shallow text e h = elim (or_cases (is_empty text || marker text || is_line_end text) _ h) [
  | inl a ↦ elim (or_cases (is_empty text || marker text) _ a) [ inl b ↦ or_left _ _ b | inr b ↦ absurd (false≢true (sym e ∙ b)) ]
  | inr a ↦ (let l : (nat_lt (spaces_before text) m ≡ true)
      × (not (shallow && nat_le m (suc (spaces_before text)) && sign 45 (past_spaces text)) ≡ true) =
      and_parts _ _ a in or_right (is_empty text || marker text) (nat_lt (spaces_before text) m) l.0)
]
