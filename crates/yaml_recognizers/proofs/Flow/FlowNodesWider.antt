-- What fits as a key, on one line, fits as a flow node in each wider context and at each indentation.
use Rattle.std.{proofs.Common.{refl, subst, ◌≡◌}, specs.Prelude.{Bool, List, None, Option, Some, cond, false, not, true, ℕ, ◌&&◌, ◌||◌}}
use Rattle.yaml_recognizers.proofs.Prelude.{and_from, and_parts, false≢true, Entries, Entry, Flow, Value, absent, empty, entry, given, last}
use Rattle.yaml_recognizers.proofs.Prelude.{map, next, none, scalar, seq, single_pair, FlowContext, Scalar, block_key, flow_key, inner}
use Rattle.yaml_recognizers.proofs.Prelude.{in_flow, one_line, outer, safe, scalar_fits, Sep, inline, lines, first}
use Rattle.yaml_recognizers.{proofs.Scalars.ScalarKeys.{first_same, fits_same, key_on_one_line}, specs.CanonicalComments.canonical_gap}
use Rattle.yaml_recognizers.specs.{OneLine.widens, CanonicalFlowNodes.{canonical_entries, canonical_entry, canonical_flow, canonical_value}}

-- what holds of each of the four pairs holds of the two contexts
pub widens_cases : (P : FlowContext → FlowContext → Type 0) (c d : FlowContext) → widens c d ≡ true
    → P block_key outer → P block_key block_key → P flow_key inner → P flow_key flow_key → P c d
widens_cases P outer d w one two three four = absurd (false≢true w)
widens_cases P inner d w one two three four = absurd (false≢true w)
widens_cases P block_key outer w one two three four = one
widens_cases P block_key inner w one two three four = absurd (false≢true w)
widens_cases P block_key block_key w one two three four = two
widens_cases P block_key flow_key w one two three four = absurd (false≢true w)
widens_cases P flow_key outer w one two three four = absurd (false≢true w)
widens_cases P flow_key inner w one two three four = three
widens_cases P flow_key block_key w one two three four = absurd (false≢true w)
widens_cases P flow_key flow_key w one two three four = four

-- a key's context is on one line
pub key_line : (c d : FlowContext) → widens c d ≡ true → one_line c ≡ true
key_line c d w = widens_cases (λ a b. one_line a ≡ true) c d w refl refl refl refl

-- so are the contexts between brackets in it
pub wider_in_flow : (c d : FlowContext) → widens c d ≡ true → widens (in_flow c) (in_flow d) ≡ true
wider_in_flow c d w = widens_cases (λ a b. widens (in_flow a) (in_flow b) ≡ true) c d w refl refl refl refl

-- ---- gaps and scalars

-- a gap on one line fits in either way
pub gap_wider : (n m : ℕ) (key key' : Bool) (gap : Option Sep) (after : List ℕ) → key ≡ true
    → canonical_gap n key gap after ≡ true → canonical_gap m key' gap after ≡ true
gap_wider n m key key' None after k h = refl
gap_wider n m key key' (Some (inline blank)) after k h = h
gap_wider n m true key' (Some (lines comments lead)) after k h = absurd (false≢true h)
gap_wider n m false key' (Some (lines comments lead)) after k h = absurd (false≢true k)

-- both contexts have the same safe characters
pub safe_same : (c d : FlowContext) → widens c d ≡ true → (x : ℕ) → safe c x ≡ safe d x
safe_same c d w x = widens_cases (λ a b. safe a x ≡ safe b x) c d w refl refl refl refl

-- so the first character of a text is safe in both or in none
pub first_safe : (c d : FlowContext) (xs : List ℕ) → widens c d ≡ true → first (safe c) xs ≡ first (safe d) xs
first_safe c d xs w = first_same c d (safe_same c d w) xs

-- a scalar fits in the wider context
scalar_wider : (s : Scalar) (n m : ℕ) (c d : FlowContext) (bol : Bool) (after : List ℕ) → widens c d ≡ true
    → scalar_fits n c bol s after ≡ true → scalar_fits m d bol s after ≡ true
scalar_wider s n m c d bol after w h = fits_same c d (safe_same c d w) s n m bol after
    (key_on_one_line s n c bol after (key_line c d w) h) h

-- ---- nodes

-- a choice whose one case is weaker
pub either : (b a x y : Bool) → (x ≡ true → y ≡ true) → cond b a x ≡ true → cond b a y ≡ true
either true a x y f h = h
either false a x y f h = f h

-- one of two is enough
or_true : (a b : Bool) → a ≡ true → a || b ≡ true
or_true true b h = refl
or_true false b h = absurd (false≢true h)

mutual
  -- what fits as a key fits in the wider context
  pub flow_wider : (f : Flow) (n m : ℕ) (c d : FlowContext) (bol : Bool) (after : List ℕ) → widens c d ≡ true
      → canonical_flow f n c bol after ≡ true → canonical_flow f m d bol after ≡ true
  flow_wider (scalar s) n m c d bol after w h = scalar_wider s n m c d bol after w h
  flow_wider (seq gap es) n m c d bol after w h =
      let p = and_parts _ _ h in
      and_from _ _ (gap_wider n m (one_line c) (one_line d) gap _ (key_line c d w) p.0)
      (entries_wider es n m (in_flow c) (in_flow d) true _ _ (wider_in_flow c d w) p.1)
  flow_wider (map gap es) n m c d bol after w h =
      let p = and_parts _ _ h in
      and_from _ _ (gap_wider n m (one_line c) (one_line d) gap _ (key_line c d w) p.0)
      (entries_wider es n m (in_flow c) (in_flow d) false _ _ (wider_in_flow c d w) p.1)

  -- so do entries
  entries_wider : (es : Entries) (n m : ℕ) (c d : FlowContext) (in_seq bol : Bool) (after : List ℕ)
      → widens c d ≡ true → canonical_entries es n c in_seq bol after ≡ true → canonical_entries es m d in_seq bol after ≡ true
  entries_wider none n m c d in_seq bol after w h = refl
  entries_wider (last e gap) n m c d in_seq bol after w h =
      let p = and_parts _ _ h in
      and_from _ _ (entry_wider e n m c d in_seq bol _ w p.0) (gap_wider n m (one_line c) (one_line d) gap _ (key_line c d w) p.1)
  entries_wider (next e before gap_after es) n m c d in_seq bol after w h =
      let k : one_line c ≡ true = key_line c d w in
      let p = and_parts _ _ h in
      let q = and_parts _ _ p.0 in
      let r = and_parts _ _ q.0 in
      and_from _ _ (and_from _ _ (and_from _ _ (entry_wider e n m c d in_seq bol _ w r.0)
      (gap_wider n m (one_line c) (one_line d) before _ k r.1)) (gap_wider n m (one_line c) (one_line d) gap_after _ k q.1))
      (entries_wider es n m c d in_seq _ _ w p.1)

  -- and an entry
  entry_wider : (e : Entry) (n m : ℕ) (c d : FlowContext) (in_seq bol : Bool) (after : List ℕ) → widens c d ≡ true
      → canonical_entry e n c in_seq bol after ≡ true → canonical_entry e m d in_seq bol after ≡ true
  entry_wider (entry ask key value) n m c d in_seq bol after w h =
      let k : one_line c ≡ true = key_line c d w in
      let p = and_parts _ _ h in
      let q = and_parts _ _ p.0 in
      and_from _ _ (and_from _ _ (gap_wider n m (one_line c) (one_line d) ask _ k q.0)
      (either (single_pair in_seq ask value) _ _ _ (flow_wider key n m c d _ _ w) q.1))
      (value_wider value n m c d _ _ _ _ w (or_true (one_line c) (single_pair in_seq ask value) k) p.1)

  -- and a value
  value_wider : (v : Value) (n m : ℕ) (c d : FlowContext) (key key' after_plain : Bool) (after : List ℕ) → widens c d ≡ true → key ≡ true
      → canonical_value v n c key after_plain after ≡ true → canonical_value v m d key' after_plain after ≡ true
  value_wider absent n m c d key key' after_plain after w k h = refl
  value_wider (empty gap) n m c d key key' after_plain after w k h =
      let p = and_parts _ _ h in
      and_from _ _ (gap_wider n m key key' gap _ k p.0) (subst (λ (b : Bool). not (after_plain && b) ≡ true) (first_safe c d after w) p.1)
  value_wider (given before gap_after f) n m c d key key' after_plain after w k h =
      let p = and_parts _ _ h in
      let q = and_parts _ _ p.0 in
      let r = and_parts _ _ q.0 in
      and_from _ _ (and_from _ _ (and_from _ _ (gap_wider n m key key' before _ k r.0) r.1)
      (gap_wider n m (one_line c) (one_line d) gap_after _ (key_line c d w) q.1)) (flow_wider f n m c d _ _ w p.1)
