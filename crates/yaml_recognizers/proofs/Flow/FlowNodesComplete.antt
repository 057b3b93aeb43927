-- A flow node that fits is read whole, where what comes after it stops a plain scalar.
use Rattle.std.{proofs.Common.{ap, append_assoc, arith, inl, inr, refl, subst, sym, ◌∙◌, ◌≡◌, ◌≤◌}, specs.Prelude.{Bool, List, None}}
use Rattle.std.specs.Prelude.{Option, Some, [], cond, false, is_some, not, suc, true, zero, ℕ, ◌&&◌, ◌++◌, ◌+◌, ◌==◌, ◌||◌, ◌∷◌}
use Rattle.yaml_recognizers.proofs.Prelude.{and_from, and_left, and_parts, eq-eqb, eqb-true, false≢true, or_cases, or_left, Entries, Entry}
use Rattle.yaml_recognizers.proofs.Prelude.{Flow, Value, absent, before_colon, empty, entries_text, entry, entry_text, flow_text, given}
use Rattle.yaml_recognizers.proofs.Prelude.{is_plain, last, map, next, none, scalar, seq, short_key, single_pair, value_text, FlowContext}
use Rattle.yaml_recognizers.proofs.Prelude.{Scalar, block_key, flow_key, inner, in_flow, one_line, outer, safe, scalar_text, Sep, gap_text}
use Rattle.yaml_recognizers.proofs.{Prelude.{sep_text, first, starts_line}, Flow.FlowNodesBegin.{bracket, bracket_closing}}
use Rattle.yaml_recognizers.proofs.Flow.FlowNodesBegin.{bracket_no_comma, entries_begin, entry_opens, flow_begins, scalar_begins}
use Rattle.yaml_recognizers.proofs.{Flow.FlowNodesWider.{flow_wider, gap_wider}, Separation.GapsComplete.{gap_read, sep_unsafe}}
use Rattle.yaml_recognizers.specs.{CanonicalComments.canonical_gap, Gaps.read_gap, Scalars.ReadsScalars}
use Rattle.yaml_recognizers.specs.CanonicalFlowNodes.{canonical_entries, canonical_entry, canonical_flow, canonical_value}
use Rattle.yaml_recognizers.specs.{Ends.{BetweenBrackets, Stops, closing, between_brackets, is_colon, solid}, FlowNodes.asked_entry}
use Rattle.yaml_recognizers.specs.FlowNodes.{ends_entry, flow_ends, given_value, in_brackets, is_asked, keyed_entry, entry_if_short}
use Rattle.yaml_recognizers.specs.{FlowNodes.{next_entry, read_entries, read_entry, read_flow, read_value, some_value}, Reading.Read}
use Rattle.yaml_recognizers.specs.Reading.{read_closing, on}

-- ---- how deep the recognizer goes

unfoldable mutual
  -- an upper bound of the levels that reading a flow node takes
  pub flow_size : Flow → ℕ
  flow_size (scalar s) = 1
  flow_size (seq gap es) = suc (entries_size es)
  flow_size (map gap es) = suc (entries_size es)

  -- the same for entries
  pub entries_size : Entries → ℕ
  entries_size none = 1
  entries_size (last e gap) = suc (entry_size e)
  entries_size (next e before after es) = suc (entry_size e + entries_size es)

  -- the same for an entry
  pub entry_size : Entry → ℕ
  entry_size (entry ask key value) = suc (flow_size key + value_size value)

  -- the same for a value
  pub value_size : Value → ℕ
  value_size absent = 1
  value_size (empty gap) = 1
  value_size (given before after f) = suc (flow_size f)

-- ---- closing characters

-- the context between brackets is one of a flow collection
pub in_flow_between_brackets : (c : FlowContext) → between_brackets (in_flow c) ≡ true
in_flow_between_brackets outer = refl
in_flow_between_brackets inner = refl
in_flow_between_brackets block_key = refl
in_flow_between_brackets flow_key = refl

-- a closing character is one of three
closing_is : (P : ℕ → Type 0) (x : ℕ) → closing x ≡ true → P 44 → P 93 → P 125 → P x
closing_is P x h a b c = elim (or_cases (x == 44) _ h) [
  | inl e ↦ subst P (sym (eqb-true x 44 e)) a
  | inr i ↦ elim (or_cases (x == 93) _ i) [
    | inl e ↦ subst P (sym (eqb-true x 93 e)) b
    | inr j ↦ elim (or_cases (x == 125) _ j) [ inl e ↦ subst P (sym (eqb-true x 125 e)) c | inr n ↦ absurd (false≢true n) ]
  ]
]

-- a closing character is solid
pub closing_solid : (rest : List ℕ) → first closing rest ≡ true → first solid rest ≡ true
closing_solid [] k = absurd (false≢true k)
closing_solid (c ∷ cs) k = closing_is (λ x. solid x ≡ true) c k refl refl refl

-- before a closing character an entry ends
closing_ends : (rest : List ℕ) → first closing rest ≡ true → ends_entry rest ≡ true
closing_ends [] k = refl
closing_ends (c ∷ cs) k = k

-- a closing character is no `:`
closing_no_colon : (d : FlowContext) (after_plain : Bool) (rest : List ℕ) → first closing rest ≡ true → is_colon d after_plain rest ≡ false
closing_no_colon d after_plain [] k = refl
closing_no_colon d after_plain (c ∷ cs) k = and_left (c == 58) _ (closing_is (λ x. (x == 58) ≡ false) c k refl refl refl)

-- ---- keys

-- a flow key fits at each n
from_key : (f : Flow) (n : ℕ) (d : FlowContext) (bol : Bool) (after : List ℕ) → between_brackets d ≡ true
    → canonical_flow f 0 flow_key bol after ≡ true → canonical_flow f n d bol after ≡ true
from_key f n outer bol after i h = absurd (false≢true i)
from_key f n inner bol after i h = flow_wider f 0 n flow_key inner bol after refl h
from_key f n block_key bol after i h = absurd (false≢true i)
from_key f n flow_key bol after i h = flow_wider f 0 n flow_key flow_key bol after refl h

-- a key that is canonical as that of a single pair or as another is canonical as another
key_either : (pair : Bool) (f : Flow) (n : ℕ) (d : FlowContext) (bol : Bool) (after : List ℕ) (short : Bool) → between_brackets d ≡ true
    → cond pair (canonical_flow f 0 flow_key bol after && short) (canonical_flow f n d bol after) ≡ true
    → canonical_flow f n d bol after ≡ true
key_either true f n d bol after short i h = from_key f n d bol after i (and_parts _ _ h).0
key_either false f n d bol after short i h = h

-- the key and the value of a single pair fit together
either_left : (b a x y : Bool) (v : Bool → Bool) (w : Bool) → cond b x y ≡ true → v (a || b) ≡ true → cond b (x && v true) true ≡ true
either_left true true x y v w h k = and_from _ _ h k
either_left true false x y v w h k = and_from _ _ h k
either_left false a x y v w h k = refl

-- a value after a plain key has whitespace before it
given_goes_on : (a p : Bool) → a || not p ≡ true → p && not a ≡ false
given_goes_on true true h = refl
given_goes_on true false h = refl
given_goes_on false true h = absurd (false≢true h)
given_goes_on false false h = refl

-- a gap in a key is a gap
gap_either : (n : ℕ) (a b : Bool) (gap : Option Sep) (after : List ℕ) → canonical_gap n (a || b) gap after ≡ true
    → canonical_gap n a gap after ≡ true
gap_either n true b gap after h = h
gap_either n false true gap after h = gap_wider n n true false gap after refl h
gap_either n false false gap after h = h

-- a value that fits in a key fits elsewhere too
pub value_either : (v : Value) (n : ℕ) (d : FlowContext) (a b after_plain : Bool) (after : List ℕ)
    → canonical_value v n d (a || b) after_plain after ≡ true → canonical_value v n d a after_plain after ≡ true
value_either absent n d a b after_plain after h = refl
value_either (empty gap) n d a b after_plain after h = let p = and_parts _ _ h in and_from _ _ (gap_either n a b gap _ p.0) p.1
value_either (given before gap_after f) n d a b after_plain after h =
    let p = and_parts _ _ h in
    let q = and_parts _ _ p.0 in
    let r = and_parts _ _ q.0 in
    and_from _ _ (and_from _ _ (and_from _ _ (gap_either n a b before _ r.0) r.1) q.1) p.1

-- what fails, fails together with others
not_and : (x y : Bool) → y ≡ false → not (x && y) ≡ true
not_and true y h = rw h
not_and false y h = refl

-- ---- what comes after a key and an entry stops a scalar

-- the `:` before a node comes before no safe character, where the key is plain
colon_given : (n : ℕ) (d : FlowContext) (after_plain : Bool) (gap_after : Option Sep) (after : List ℕ)
    → is_some gap_after || not after_plain ≡ true → canonical_gap n (one_line d) gap_after after ≡ true
    → not (after_plain && first (safe d) (gap_text gap_after ++ after)) ≡ true
colon_given n d true None after s g = absurd (false≢true s)
colon_given n d false None after s g = refl
colon_given n d after_plain (Some sep) after s g = not_and after_plain _ (sep_unsafe n (one_line d) d sep after g)

-- a closing character stops a scalar
pub closing_stop : (n : ℕ) (d : FlowContext) (after_plain : Bool) (gap : Option Sep) (rest : List ℕ)
    → between_brackets d ≡ true → first closing rest ≡ true
    → canonical_gap n (one_line d) gap rest ≡ true → BetweenBrackets d after_plain (gap_text gap ++ rest)
closing_stop n d after_plain gap rest i k g =
    record {
      within = i;
      gap = gap;
      rest = rest;
      is = refl;
      fits = (n, gap_either n false (one_line d) gap rest g);
      stop = or_left _ _ k;
    }

-- a value, or the gap after the entry, stops its key
pub value_stop : (v : Value) (n : ℕ) (d : FlowContext) (after_plain : Bool) (gap : Option Sep) (rest : List ℕ)
    → between_brackets d ≡ true → first closing rest ≡ true
    → canonical_gap n (one_line d) gap rest ≡ true → canonical_value v n d (one_line d) after_plain (gap_text gap ++ rest) ≡ true
    → BetweenBrackets d after_plain (value_text v ++ (gap_text gap ++ rest))
value_stop absent n d after_plain gap rest i k g h = closing_stop n d after_plain gap rest i k g
value_stop (empty before) n d after_plain gap rest i k g h =
    let after : List ℕ = gap_text gap ++ rest in
    let p : (canonical_gap n (one_line d) before (58 ∷ after) ≡ true)
    × (not (after_plain && first (safe d) after) ≡ true) = and_parts _ _ h in
    record {
      within = i;
      gap = before;
      rest = 58 ∷ after;
      is = simp append_assoc;
      fits = (n, gap_either n false (one_line d) before _ p.0);
      stop = p.1;
    }
value_stop (given before gap_after f) n d after_plain gap rest i k g h =
    let after : List ℕ = gap_text gap ++ rest in
    let node : List ℕ = flow_text f ++ after in
    let line : Bool = starts_line false (gap_text gap_after) in
    let p : (canonical_gap n (one_line d) before (58 ∷ (gap_text gap_after ++ node))
    && (is_some gap_after || not after_plain) && canonical_gap n (one_line d) gap_after node ≡ true)
    × (canonical_flow f n d line after ≡ true) = and_parts _ _ h in
    let q : (canonical_gap n (one_line d) before (58 ∷ (gap_text gap_after ++ node))
    && (is_some gap_after || not after_plain) ≡ true) × (canonical_gap n (one_line d) gap_after node ≡ true) =
    and_parts _ _ p.0 in
    let r : (canonical_gap n (one_line d) before (58 ∷ (gap_text gap_after ++ node)) ≡ true)
    × (is_some gap_after || not after_plain ≡ true) = and_parts _ _ q.0 in
    record {
      within = i;
      gap = before;
      rest = 58 ∷ (gap_text gap_after ++ node);
      is = simp append_assoc;
      fits = (n, gap_either n false (one_line d) before _ r.0);
      stop = colon_given n d after_plain gap_after node r.1 q.1;
    }

-- ---- what fits is read

module _ (read_scalar : ℕ → FlowContext → Bool → List ℕ → Read Scalar) (scalars : ReadsScalars read_scalar) where
  -- the flow node ends before this text
  abbrev pub ends_before : ℕ → FlowContext → Flow → List ℕ → Bool
  ends_before n c f after = flow_ends scalars.ends n c f after

  -- what stops a scalar stops a flow node
  pub stops_flow : (n : ℕ) (c : FlowContext) (f : Flow) (after : List ℕ) → Stops n c (is_plain f) after → ends_before n c f after ≡ true
  stops_flow n c (scalar s) after st = scalars.stops n c s after st
  stops_flow n c (seq gap es) after st = refl
  stops_flow n c (map gap es) after st = refl

  mutual
    unfolding read_flow flow_size

    -- a flow node that fits is read whole, given levels enough
    pub flow_read : (f : Flow) (fuel n : ℕ) (c : FlowContext) (bol : Bool) (after : List ℕ) → flow_size f ≤ fuel
        → canonical_flow f n c bol after ≡ true
        → ends_before n c f after ≡ true → read_flow read_scalar fuel n c bol (flow_text f ++ after) ≡ Some (f, after)
    flow_read (scalar s) zero n c bol after m h st = absurd (omega arith)
    flow_read (seq gap es) zero n c bol after m h st = absurd (omega arith)
    flow_read (map gap es) zero n c bol after m h st = absurd (omega arith)
    flow_read (scalar s) (suc fuel) n c bol after m h st =
        let b : (first (λ x. x == 91) (scalar_text s ++ after) ≡ false)
        × (first (λ x. x == 123) (scalar_text s ++ after) ≡ false) = scalar_begins s n c bol after h in
        rw (b.0, b.1, scalars.complete n c bol s after h st)
    flow_read (seq gap es) (suc fuel) n c bol after m h st =
        let p : (canonical_gap n (one_line c) gap (entries_text es ++ (93 ∷ after)) ≡ true)
        × (canonical_entries es n (in_flow c) true (starts_line false (gap_text gap)) (93 ∷ after) ≡ true) =
        and_parts _ _ h in
        let rest : List ℕ = entries_text es ++ (93 ∷ after) in
        let again : Option Sep → List ℕ → Read Entries =
        λ gap' rest'. read_entries read_scalar fuel n (in_flow c) true (starts_line false (gap_text gap')) 93 rest' in
        let regrouped : flow_text (seq gap es) ++ after ≡ 91 ∷ (gap_text gap ++ rest) = simp append_assoc in
        ap (read_flow read_scalar (suc fuel) n c bol) regrouped
        ∙ (ap (in_brackets seq 93 again) (gap_read n (one_line c) gap rest p.0 (entries_begin es n (in_flow c) true _ 93 after refl p.1))
        ∙ ap (λ r. on r (λ es' rest'. read_closing 93 (seq gap es') rest'))
        (entries_read es fuel n (in_flow c) true _ 93 after (in_flow_between_brackets c) (omega arith) refl p.1))
    flow_read (map gap es) (suc fuel) n c bol after m h st =
        let p : (canonical_gap n (one_line c) gap (entries_text es ++ (125 ∷ after)) ≡ true)
        × (canonical_entries es n (in_flow c) false (starts_line false (gap_text gap)) (125 ∷ after) ≡ true) =
        and_parts _ _ h in
        let rest : List ℕ = entries_text es ++ (125 ∷ after) in
        let again : Option Sep → List ℕ → Read Entries =
        λ gap' rest'. read_entries read_scalar fuel n (in_flow c) false (starts_line false (gap_text gap')) 125 rest' in
        let regrouped : flow_text (map gap es) ++ after ≡ 123 ∷ (gap_text gap ++ rest) = simp append_assoc in
        ap (read_flow read_scalar (suc fuel) n c bol) regrouped
        ∙ (ap (in_brackets map 125 again) (gap_read n (one_line c) gap rest p.0 (entries_begin es n (in_flow c) false _ 125 after refl p.1))
        ∙ ap (λ r. on r (λ es' rest'. read_closing 125 (map gap es') rest'))
        (entries_read es fuel n (in_flow c) false _ 125 after (in_flow_between_brackets c) (omega arith) refl p.1))

    entries_read : (es : Entries) (fuel n : ℕ) (d : FlowContext) (in_seq bol : Bool) (close : ℕ) (after : List ℕ)
        → between_brackets d ≡ true → entries_size es ≤ fuel → bracket close ≡ true
        → canonical_entries es n d in_seq bol (close ∷ after) ≡ true
        → read_entries read_scalar fuel n d in_seq bol close (entries_text es ++ (close ∷ after)) ≡ Some (es, close ∷ after)
    entries_read none zero n d in_seq bol close after i m k h = absurd (omega arith)
    entries_read (last e gap) zero n d in_seq bol close after i m k h = absurd (omega arith)
    entries_read (next e before gap_after es) zero n d in_seq bol close after i m k h = absurd (omega arith)
    entries_read none (suc fuel) n d in_seq bol close after i m k h = rw (eq-eqb close close refl)
    entries_read (last e gap) (suc fuel) n d in_seq bol close after i m k h =
        let p : (canonical_entry e n d in_seq bol (gap_text gap ++ (close ∷ after)) ≡ true)
        × (canonical_gap n (one_line d) gap (close ∷ after) ≡ true) = and_parts _ _ h in
        let regrouped : entries_text (last e gap) ++ (close ∷ after)
        ≡ entry_text e ++ (gap_text gap ++ (close ∷ after)) = simp append_assoc in
        let again : Option Sep → List ℕ → Read Entries =
        λ gap' rest'. read_entries read_scalar fuel n d in_seq (starts_line false (gap_text gap')) close rest' in
        let opens : first (λ x. x == close) (entry_text e ++ (gap_text gap ++ (close ∷ after))) ≡ false =
        entry_opens e n d in_seq bol close _ k p.0 in
        ap (read_entries read_scalar (suc fuel) n d in_seq bol close) regrouped
        ∙ (rw opens refl
        ∙ (ap (λ x. on x (λ e' rest'. next_entry (read_gap n (one_line d)) again e' (read_gap n (one_line d) rest')))
        (entry_read e fuel n d in_seq bol gap (close ∷ after) i (omega arith) (bracket_closing close k) p.1 p.0)
        ∙ (ap (next_entry (read_gap n (one_line d)) again e)
        (gap_read n (one_line d) gap (close ∷ after) p.1 (closing_solid (close ∷ after) (bracket_closing close k)))
        ∙ rw (bracket_no_comma close k) refl)))
    entries_read (next e before gap_after es) (suc fuel) n d in_seq bol close after i m k h =
        let rest : List ℕ = gap_text gap_after ++ (entries_text es ++ (close ∷ after)) in
        let p : ((canonical_entry e n d in_seq bol (gap_text before ++ (44 ∷ rest))
        && canonical_gap n (one_line d) before (44 ∷ rest))
        && canonical_gap n (one_line d) gap_after (entries_text es ++ (close ∷ after)) ≡ true)
        × (canonical_entries es n d in_seq (starts_line false (gap_text gap_after)) (close ∷ after) ≡ true) = and_parts _ _ h in
        let q : (canonical_entry e n d in_seq bol (gap_text before ++ (44 ∷ rest))
        && canonical_gap n (one_line d) before (44 ∷ rest) ≡ true)
        × (canonical_gap n (one_line d) gap_after (entries_text es ++ (close ∷ after)) ≡ true) = and_parts _ _ p.0 in
        let r : (canonical_entry e n d in_seq bol (gap_text before ++ (44 ∷ rest)) ≡ true)
        × (canonical_gap n (one_line d) before (44 ∷ rest) ≡ true) = and_parts _ _ q.0 in
        let regrouped : entries_text (next e before gap_after es) ++ (close ∷ after)
        ≡ entry_text e ++ (gap_text before ++ (44 ∷ rest)) = simp append_assoc in
        let again : Option Sep → List ℕ → Read Entries =
        λ gap rest'. read_entries read_scalar fuel n d in_seq (starts_line false (gap_text gap)) close rest' in
        let opens : first (λ x. x == close) (entry_text e ++ (gap_text before ++ (44 ∷ rest))) ≡ false =
        entry_opens e n d in_seq bol close _ k r.0 in
        ap (read_entries read_scalar (suc fuel) n d in_seq bol close) regrouped
        ∙ (rw opens refl
        ∙ (ap (λ x. on x (λ e' rest'. next_entry (read_gap n (one_line d)) again e' (read_gap n (one_line d) rest')))
        (entry_read e fuel n d in_seq bol before (44 ∷ rest) i (omega arith) refl r.1 r.0)
        ∙ (ap (next_entry (read_gap n (one_line d)) again e) (gap_read n (one_line d) before (44 ∷ rest) r.1 refl)
        ∙ (ap (λ g. on (again g.0 g.1) (λ es' rest'. Some (next e before g.0 es', rest')))
        (gap_read n (one_line d) gap_after _ q.1 (entries_begin es n d in_seq _ close after k p.1))
        ∙ ap (λ x. on x (λ es' rest'. Some (next e before gap_after es', rest')))
        (entries_read es fuel n d in_seq _ close after i (omega arith) k p.1)))))

    entry_read : (e : Entry) (fuel n : ℕ) (d : FlowContext) (in_seq bol : Bool) (gap : Option Sep) (rest : List ℕ)
        → between_brackets d ≡ true → entry_size e ≤ fuel → first closing rest ≡ true
        → canonical_gap n (one_line d) gap rest ≡ true → canonical_entry e n d in_seq bol (gap_text gap ++ rest) ≡ true
        → read_entry read_scalar fuel n d in_seq bol (entry_text e ++ (gap_text gap ++ rest)) ≡ Some (e, gap_text gap ++ rest)
    entry_read (entry ask key value) zero n d in_seq bol gap rest i m k g h = absurd (omega arith)
    entry_read (entry None key value) (suc fuel) n d in_seq bol gap rest i m k g h =
        let after : List ℕ = gap_text gap ++ rest in
        let pair : Bool = single_pair in_seq None value in
        let p : (cond pair (canonical_flow key 0 flow_key bol (value_text value ++ after)
        && short_key key (before_colon value)) (canonical_flow key n d bol (value_text value ++ after)) ≡ true)
        × (canonical_value value n d (one_line d || pair) (is_plain key) after ≡ true) = and_parts _ _ h in
        let key_fits : canonical_flow key n d bol (value_text value ++ after) ≡ true = key_either pair key n d bol _ _ i p.0 in
        let value_fit : canonical_value value n d (one_line d) (is_plain key) after ≡ true =
        value_either value n d (one_line d) pair (is_plain key) after p.1 in
        let regrouped : entry_text (entry None key value) ++ after ≡ flow_text key ++ (value_text value ++ after) = simp append_assoc in
        let value_at : Bool → List ℕ → Read Value = λ after_plain rest'. read_value read_scalar fuel n d after_plain rest' in
        ap (read_entry read_scalar (suc fuel) n d in_seq bol) regrouped
        ∙ (rw ((flow_begins key n d bol _ key_fits).2) refl
        ∙ (ap (λ x. on x (λ key' rest'. keyed_entry value_at (entry_if_short n d in_seq bol None) key' rest'))
        (flow_read key fuel n d bol (value_text value ++ after) (omega arith) key_fits
        (stops_flow n d key (value_text value ++ (gap_text gap ++ rest))
        (inl (value_stop value n d (is_plain key) gap rest i k g value_fit))))
        ∙ (ap (λ x. on x (λ value' rest'. entry_if_short n d in_seq bol None key value' rest'))
        (value_read value fuel n d (is_plain key) gap rest i (omega arith) k g value_fit)
        ∙ rw (either_left pair (one_line d) _ _ (λ b. canonical_value value n d b (is_plain key) after) true p.0 p.1) refl)))
    entry_read (entry (Some sep) key value) (suc fuel) n d in_seq bol gap rest i m k g h =
        let after : List ℕ = gap_text gap ++ rest in
        let line : Bool = starts_line false (sep_text sep) in
        let p : ((canonical_gap n (one_line d) (Some sep) (flow_text key ++ (value_text value ++ after))
        && canonical_flow key n d line (value_text value ++ after)) ≡ true)
        × (canonical_value value n d (one_line d || false) (is_plain key) after ≡ true) = and_parts _ _ h in
        let q : (canonical_gap n (one_line d) (Some sep) (flow_text key ++ (value_text value ++ after)) ≡ true)
        × (canonical_flow key n d line (value_text value ++ after) ≡ true) = and_parts _ _ p.0 in
        let value_fit : canonical_value value n d (one_line d) (is_plain key) after ≡ true =
        value_either value n d (one_line d) false (is_plain key) after p.1 in
        let regrouped : entry_text (entry (Some sep) key value) ++ after
        ≡ 63 ∷ (sep_text sep ++ (flow_text key ++ (value_text value ++ after))) = simp append_assoc in
        let value_at : Bool → List ℕ → Read Value = λ after_plain rest'. read_value read_scalar fuel n d after_plain rest' in
        let again : Option Sep → List ℕ → Read Flow =
        λ gap' rest'. read_flow read_scalar fuel n d (starts_line false (gap_text gap')) rest' in
        ap (read_entry read_scalar (suc fuel) n d in_seq bol) regrouped
        ∙ (rw (sep_unsafe n (one_line d) d sep _ q.0) refl
        ∙ (ap (asked_entry again value_at) (gap_read n (one_line d) (Some sep) _ q.0 (flow_begins key n d line _ q.1).0)
        ∙ (ap (λ x. on x (λ key' rest'. keyed_entry value_at
        (λ key'' value' rest''. Some (entry (Some sep) key'' value', rest'')) key' rest'))
        (flow_read key fuel n d line (value_text value ++ after) (omega arith) q.1
        (stops_flow n d key (value_text value ++ (gap_text gap ++ rest))
        (inl (value_stop value n d (is_plain key) gap rest i k g value_fit))))
        ∙ ap (λ x. on x (λ value' rest'. Some (entry (Some sep) key value', rest')))
        (value_read value fuel n d (is_plain key) gap rest i (omega arith) k g value_fit))))

    value_read : (v : Value) (fuel n : ℕ) (d : FlowContext) (after_plain : Bool) (gap : Option Sep) (rest : List ℕ)
        → between_brackets d ≡ true → value_size v ≤ fuel → first closing rest ≡ true
        → canonical_gap n (one_line d) gap rest ≡ true → canonical_value v n d (one_line d) after_plain (gap_text gap ++ rest) ≡ true
        → read_value read_scalar fuel n d after_plain (value_text v ++ (gap_text gap ++ rest)) ≡ Some (v, gap_text gap ++ rest)
    value_read absent zero n d after_plain gap rest i m k g h = absurd (omega arith)
    value_read (empty before) zero n d after_plain gap rest i m k g h = absurd (omega arith)
    value_read (given before gap_after f) zero n d after_plain gap rest i m k g h = absurd (omega arith)
    value_read absent (suc fuel) n d after_plain gap rest i m k g h =
        let again : Option Sep → List ℕ → Read Flow =
        λ gap' rest'. read_flow read_scalar fuel n d (starts_line false (gap_text gap')) rest' in
        ap (some_value d after_plain (read_gap n (one_line d)) again (gap_text gap ++ rest))
        (gap_read n (one_line d) gap rest g (closing_solid rest k))
        ∙ rw (closing_no_colon d after_plain rest k) refl
    value_read (empty before) (suc fuel) n d after_plain gap rest i m k g h =
        let after : List ℕ = gap_text gap ++ rest in
        let p : (canonical_gap n (one_line d) before (58 ∷ after) ≡ true)
        × (not (after_plain && first (safe d) after) ≡ true) = and_parts _ _ h in
        let again : Option Sep → List ℕ → Read Flow =
        λ gap' rest'. read_flow read_scalar fuel n d (starts_line false (gap_text gap')) rest' in
        let regrouped : value_text (empty before) ++ after ≡ gap_text before ++ (58 ∷ after) = simp append_assoc in
        ap (read_value read_scalar (suc fuel) n d after_plain) regrouped
        ∙ (ap (some_value d after_plain (read_gap n (one_line d)) again (gap_text before ++ (58 ∷ after)))
        (gap_read n (one_line d) before (58 ∷ after) p.0 refl)
        ∙ (rw p.1 refl
        ∙ (ap (given_value after_plain again before after) (gap_read n (one_line d) gap rest g (closing_solid rest k))
        ∙ rw (closing_ends rest k) refl)))
    value_read (given before gap_after f) (suc fuel) n d after_plain gap rest i m k g h =
        let after : List ℕ = gap_text gap ++ rest in
        let node : List ℕ = flow_text f ++ after in
        let line : Bool = starts_line false (gap_text gap_after) in
        let p : (canonical_gap n (one_line d) before (58 ∷ (gap_text gap_after ++ node))
        && (is_some gap_after || not after_plain) && canonical_gap n (one_line d) gap_after node ≡ true)
        × (canonical_flow f n d line after ≡ true) = and_parts _ _ h in
        let q : (canonical_gap n (one_line d) before (58 ∷ (gap_text gap_after ++ node))
        && (is_some gap_after || not after_plain) ≡ true) × (canonical_gap n (one_line d) gap_after node ≡ true) =
        and_parts _ _ p.0 in
        let r : (canonical_gap n (one_line d) before (58 ∷ (gap_text gap_after ++ node)) ≡ true)
        × (is_some gap_after || not after_plain ≡ true) = and_parts _ _ q.0 in
        let again : Option Sep → List ℕ → Read Flow =
        λ gap' rest'. read_flow read_scalar fuel n d (starts_line false (gap_text gap')) rest' in
        let regrouped : value_text (given before gap_after f) ++ after
        ≡ gap_text before ++ (58 ∷ (gap_text gap_after ++ node)) = simp append_assoc in
        let b : (first solid node ≡ true) × (ends_entry node ≡ false) × (is_asked d node ≡ false) = flow_begins f n d line after p.1 in
        ap (read_value read_scalar (suc fuel) n d after_plain) regrouped
        ∙ (ap (some_value d after_plain (read_gap n (one_line d)) again
        (gap_text before ++ (58 ∷ (gap_text gap_after ++ node)))) (gap_read n (one_line d) before _ r.0 refl)
        ∙ (rw (colon_given n d after_plain gap_after node r.1 q.1) refl
        ∙ (ap (given_value after_plain again before (gap_text gap_after ++ node)) (gap_read n (one_line d) gap_after node q.1 b.0)
        ∙ (rw (b.1, given_goes_on (is_some gap_after) after_plain r.1) refl
        ∙ ap (λ x. on x (λ f' rest'. Some (given before gap_after f', rest')))
        (flow_read f fuel n d line after (omega arith) p.1
        (stops_flow n d f (gap_text gap ++ rest) (inl (closing_stop n d (is_plain f) gap rest i k g))))))))
