-- What fits as a flow node and is on one line fits as a key too: so a reader may read a node once, and then learn that
-- it was a key.
use Rattle.std.{proofs.Common.{refl, subst, sym, ◌≡◌}, specs.Prelude.{Bool, List, None, Option, Some, cond, false, not, true, ℕ, ◌&&◌}}
use Rattle.yaml_recognizers.proofs.Prelude.{and_from, and_parts, false≢true, or_left, Entries, Entry, Flow, Value, absent, empty, entry}
use Rattle.yaml_recognizers.proofs.Prelude.{given, last, map, next, none, scalar, seq, single_pair, FlowContext, Scalar, flow_key, in_flow}
use Rattle.yaml_recognizers.proofs.{Prelude.{one_line, scalar_fits, Sep, inline, lines}, Flow.FlowNodesWider.{either, first_safe, key_line}}
use Rattle.yaml_recognizers.proofs.{Flow.FlowNodesWider.{safe_same, widens_cases, wider_in_flow}, Scalars.ScalarKeys.fits_same}
use Rattle.yaml_recognizers.{proofs.Scalars.ScalarKeys.key_on_one_line, specs.CanonicalComments.canonical_gap}
use Rattle.yaml_recognizers.specs.{WholeScalars.stands_on_one_line, CanonicalFlowNodes.{canonical_entries, canonical_entry, canonical_flow}}
use Rattle.yaml_recognizers.specs.{CanonicalFlowNodes.canonical_value, OneLine.{entries_on_one_line, entry_on_one_line, gap_on_one_line}}
use Rattle.yaml_recognizers.specs.OneLine.{on_one_line, value_on_one_line, widens}

-- a gap on one line fits in either way
gap_narrower : (n m : ℕ) (key key' : Bool) (gap : Option Sep) (after : List ℕ) → gap_on_one_line gap ≡ true
    → canonical_gap n key gap after ≡ true → canonical_gap m key' gap after ≡ true
gap_narrower n m key key' None after o h = refl
gap_narrower n m key key' (Some (inline blank)) after o h = h
gap_narrower n m key key' (Some (lines comments lead)) after o h = absurd (false≢true o)

-- a scalar on one line fits in the narrower context
scalar_narrower : (s : Scalar) (n m : ℕ) (c d : FlowContext) (bol : Bool) (after : List ℕ) → widens d c ≡ true
    → stands_on_one_line s ≡ true → scalar_fits n c bol s after ≡ true → scalar_fits m d bol s after ≡ true
scalar_narrower s n m c d bol after w o h = fits_same c d (λ x. sym (safe_same d c w x)) s n m bol after o h

mutual
  -- a flow node on one line fits as a key
  pub flow_narrower : (f : Flow) (n m : ℕ) (c d : FlowContext) (bol : Bool) (after : List ℕ) → widens d c ≡ true
      → on_one_line f ≡ true → canonical_flow f n c bol after ≡ true → canonical_flow f m d bol after ≡ true
  flow_narrower (scalar s) n m c d bol after w o h = scalar_narrower s n m c d bol after w o h
  flow_narrower (seq gap es) n m c d bol after w o h =
      let p = and_parts _ _ h in
      let l : (gap_on_one_line gap ≡ true) × (entries_on_one_line es ≡ true) = and_parts _ _ o in
      and_from _ _ (gap_narrower n m (one_line c) (one_line d) gap _ l.0 p.0)
      (entries_narrower es n m (in_flow c) (in_flow d) true _ _ (wider_in_flow d c w) l.1 p.1)
  flow_narrower (map gap es) n m c d bol after w o h =
      let p = and_parts _ _ h in
      let l : (gap_on_one_line gap ≡ true) × (entries_on_one_line es ≡ true) = and_parts _ _ o in
      and_from _ _ (gap_narrower n m (one_line c) (one_line d) gap _ l.0 p.0)
      (entries_narrower es n m (in_flow c) (in_flow d) false _ _ (wider_in_flow d c w) l.1 p.1)

  -- so do entries on one line
  entries_narrower : (es : Entries) (n m : ℕ) (c d : FlowContext) (in_seq bol : Bool) (after : List ℕ)
      → widens d c ≡ true → entries_on_one_line es ≡ true
      → canonical_entries es n c in_seq bol after ≡ true → canonical_entries es m d in_seq bol after ≡ true
  entries_narrower none n m c d in_seq bol after w o h = refl
  entries_narrower (last e gap) n m c d in_seq bol after w o h =
      let p = and_parts _ _ h in
      let l : (entry_on_one_line e ≡ true) × (gap_on_one_line gap ≡ true) = and_parts _ _ o in
      and_from _ _ (entry_narrower e n m c d in_seq bol _ w l.0 p.0) (gap_narrower n m (one_line c) (one_line d) gap _ l.1 p.1)
  entries_narrower (next e before gap_after es) n m c d in_seq bol after w o h =
      let p = and_parts _ _ h in
      let q = and_parts _ _ p.0 in
      let r = and_parts _ _ q.0 in
      let l : (entry_on_one_line e && gap_on_one_line before && gap_on_one_line gap_after ≡ true)
      × (entries_on_one_line es ≡ true) = and_parts _ _ o in
      let k : (entry_on_one_line e && gap_on_one_line before ≡ true) × (gap_on_one_line gap_after ≡ true) = and_parts _ _ l.0 in
      let j : (entry_on_one_line e ≡ true) × (gap_on_one_line before ≡ true) = and_parts _ _ k.0 in
      and_from _ _ (and_from _ _ (and_from _ _ (entry_narrower e n m c d in_seq bol _ w j.0 r.0)
      (gap_narrower n m (one_line c) (one_line d) before _ j.1 r.1))
      (gap_narrower n m (one_line c) (one_line d) gap_after _ k.1 q.1))
      (entries_narrower es n m c d in_seq _ _ w l.1 p.1)

  -- and an entry
  entry_narrower : (e : Entry) (n m : ℕ) (c d : FlowContext) (in_seq bol : Bool) (after : List ℕ) → widens d c ≡ true
      → entry_on_one_line e ≡ true
      → canonical_entry e n c in_seq bol after ≡ true → canonical_entry e m d in_seq bol after ≡ true
  entry_narrower (entry ask key value) n m c d in_seq bol after w o h =
      let p = and_parts _ _ h in
      let q = and_parts _ _ p.0 in
      let l : (gap_on_one_line ask && on_one_line key ≡ true) × (value_on_one_line value ≡ true) = and_parts _ _ o in
      let k : (gap_on_one_line ask ≡ true) × (on_one_line key ≡ true) = and_parts _ _ l.0 in
      and_from _ _ (and_from _ _ (gap_narrower n m (one_line c) (one_line d) ask _ k.0 q.0)
      (either (single_pair in_seq ask value) _ _ _ (flow_narrower key n m c d _ _ w k.1) q.1))
      (value_narrower value n m c d _ _ _ _ w l.1 p.1)

  -- and a value
  value_narrower : (v : Value) (n m : ℕ) (c d : FlowContext) (key key' after_plain : Bool) (after : List ℕ)
      → widens d c ≡ true → value_on_one_line v ≡ true
      → canonical_value v n c key after_plain after ≡ true → canonical_value v m d key' after_plain after ≡ true
  value_narrower absent n m c d key key' after_plain after w o h = refl
  value_narrower (empty gap) n m c d key key' after_plain after w o h =
      let p = and_parts _ _ h in
      and_from _ _ (gap_narrower n m key key' gap _ o p.0)
      (subst (λ (b : Bool). not (after_plain && b) ≡ true) (sym (first_safe d c after w)) p.1)
  value_narrower (given before gap_after f) n m c d key key' after_plain after w o h =
      let p = and_parts _ _ h in
      let q = and_parts _ _ p.0 in
      let r = and_parts _ _ q.0 in
      let l : (gap_on_one_line before && gap_on_one_line gap_after ≡ true) × (on_one_line f ≡ true) = and_parts _ _ o in
      let k : (gap_on_one_line before ≡ true) × (gap_on_one_line gap_after ≡ true) = and_parts _ _ l.0 in
      and_from _ _ (and_from _ _ (and_from _ _ (gap_narrower n m key key' before _ k.0 r.0) r.1)
      (gap_narrower n m (one_line c) (one_line d) gap_after _ k.1 q.1)) (flow_narrower f n m c d _ _ w l.1 p.1)

-- ---- and a node that fits as a key is on one line

-- a gap in a key is on one line
gap_line : (n : ℕ) (key : Bool) (gap : Option Sep) (after : List ℕ) → key ≡ true
    → canonical_gap n key gap after ≡ true → gap_on_one_line gap ≡ true
gap_line n key None after k h = refl
gap_line n key (Some (inline blank)) after k h = refl
gap_line n true (Some (lines comments lead)) after k h = absurd (false≢true h)
gap_line n false (Some (lines comments lead)) after k h = absurd (false≢true k)

-- what follows from each part follows from the choice
either_way : (b x y q : Bool) → (x ≡ true → q ≡ true) → (y ≡ true → q ≡ true) → cond b x y ≡ true → q ≡ true
either_way true x y q f g h = f h
either_way false x y q f g h = g h

mutual
  -- what fits in a key's context is on one line
  pub flow_line : (f : Flow) (n : ℕ) (c : FlowContext) (bol : Bool) (after : List ℕ) → widens c c ≡ true
      → canonical_flow f n c bol after ≡ true → on_one_line f ≡ true
  flow_line (scalar s) n c bol after w h = key_on_one_line s n c bol after (key_line c c w) h
  flow_line (seq gap es) n c bol after w h =
      let p = and_parts _ _ h in and_from _ _ (gap_line n (one_line c) gap _ (key_line c c w) p.0)
      (entries_line es n (in_flow c) true _ _ (wider_in_flow c c w) p.1)
  flow_line (map gap es) n c bol after w h =
      let p = and_parts _ _ h in and_from _ _ (gap_line n (one_line c) gap _ (key_line c c w) p.0)
      (entries_line es n (in_flow c) false _ _ (wider_in_flow c c w) p.1)

  -- in a key entries are on one line
  entries_line : (es : Entries) (n : ℕ) (d : FlowContext) (in_seq bol : Bool) (after : List ℕ) → widens d d ≡ true
      → canonical_entries es n d in_seq bol after ≡ true → entries_on_one_line es ≡ true
  entries_line none n d in_seq bol after w h = refl
  entries_line (last e gap) n d in_seq bol after w h =
      let p = and_parts _ _ h in and_from _ _ (entry_line e n d in_seq bol _ w p.0) (gap_line n (one_line d) gap _ (key_line d d w) p.1)
  entries_line (next e before gap_after es) n d in_seq bol after w h =
      let p = and_parts _ _ h in
      let q = and_parts _ _ p.0 in
      let r = and_parts _ _ q.0 in
      and_from _ _ (and_from _ _ (and_from _ _ (entry_line e n d in_seq bol _ w r.0)
      (gap_line n (one_line d) before _ (key_line d d w) r.1)) (gap_line n (one_line d) gap_after _ (key_line d d w) q.1))
      (entries_line es n d in_seq _ _ w p.1)

  -- and an entry is
  entry_line : (e : Entry) (n : ℕ) (d : FlowContext) (in_seq bol : Bool) (after : List ℕ) → widens d d ≡ true
      → canonical_entry e n d in_seq bol after ≡ true → entry_on_one_line e ≡ true
  entry_line (entry ask key value) n d in_seq bol after w h =
      let p = and_parts _ _ h in
      let q = and_parts _ _ p.0 in
      let pair : Bool = single_pair in_seq ask value in
      and_from _ _ (and_from _ _ (gap_line n (one_line d) ask _ (key_line d d w) q.0)
      (either_way pair _ _ _ (λ k. flow_line key 0 flow_key bol _ refl (and_parts _ _ k).0)
      (λ k. flow_line key n d _ _ w k) q.1))
      (value_line value n d _ _ after w (or_left (one_line d) pair (key_line d d w)) p.1)

  -- and a value is
  value_line : (v : Value) (n : ℕ) (d : FlowContext) (key after_plain : Bool) (after : List ℕ) → widens d d ≡ true
      → key ≡ true → canonical_value v n d key after_plain after ≡ true → value_on_one_line v ≡ true
  value_line absent n d key after_plain after w k h = refl
  value_line (empty gap) n d key after_plain after w k h = gap_line n key gap _ k (and_parts _ _ h).0
  value_line (given before gap_after f) n d key after_plain after w k h =
      let p = and_parts _ _ h in
      let q = and_parts _ _ p.0 in
      let r = and_parts _ _ q.0 in
      and_from _ _ (and_from _ _ (gap_line n key before _ k r.0)
      (gap_line n (one_line d) gap_after _ (key_line d d w) q.1)) (flow_line f n d _ _ w p.1)

-- the narrower context is that of a key
key_context : (c d : FlowContext) → widens c d ≡ true → widens c c ≡ true
key_context c d w = widens_cases (λ a b. widens a a ≡ true) c d w refl refl refl refl

-- what fits as a key is on one line
pub flow_key_line : (f : Flow) (n : ℕ) (c d : FlowContext) (bol : Bool) (after : List ℕ) → widens c d ≡ true
    → canonical_flow f n c bol after ≡ true → on_one_line f ≡ true
flow_key_line f n c d bol after w h = flow_line f n c bol after (key_context c d w) h
