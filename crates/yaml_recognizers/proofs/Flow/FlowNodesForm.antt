-- The canonical form of flow nodes: their separation is canonical. Text and meaning stay.
use Rattle.std.{proofs.Common.{refl, ◌≡◌}, specs.Prelude.{Bool, List, None, Option, Some, cond, false, is_some, not, true, ℕ, ◌&&◌, ◌++◌}}
use Rattle.std.specs.Prelude.{◌||◌, ◌∷◌}
use Rattle.yaml_recognizers.proofs.Prelude.{and_from, and_parts, Entries, Entry, Flow, Value, absent, asked_text, before_colon, empty}
use Rattle.yaml_recognizers.proofs.Prelude.{entries_events, entries_fit, entries_text, entry, entry_events, entry_fits, entry_text}
use Rattle.yaml_recognizers.proofs.Prelude.{flow_events, flow_fits, flow_text, given, is_pair, is_plain, last, map, next, none, scalar, seq}
use Rattle.yaml_recognizers.proofs.Prelude.{short_key, single_pair, value_events, value_fits, value_text, FlowContext, flow_key, in_flow}
use Rattle.yaml_recognizers.proofs.{Prelude.{one_line, safe, Sep, gap_fits, gap_text, first, starts_line}, Flow.FlowNodesBegin.bracket}
use Rattle.yaml_recognizers.proofs.{Flow.FlowNodesBegin.{entries_begin, flow_begins}, Separation.CommentsForm.{gap_form, gap_form_fits}}
use Rattle.yaml_recognizers.{proofs.Separation.CommentsForm.{gap_form_text, sep_form_text}, specs.CanonicalFlowNodes.canonical_entries}
use Rattle.yaml_recognizers.specs.{CanonicalFlowNodes.{canonical_entry, canonical_flow, canonical_value}, Ends.solid}

abbrev mutual
  -- a flow node in its canonical form
  pub flow_form : Flow → Flow
  flow_form (scalar s) = scalar s
  flow_form (seq gap es) = seq (gap_form gap) (entries_form es)
  flow_form (map gap es) = map (gap_form gap) (entries_form es)

  -- entries in their canonical form
  pub entries_form : Entries → Entries
  entries_form none = none
  entries_form (last e gap) = last (entry_form e) (gap_form gap)
  entries_form (next e before after es) = next (entry_form e) (gap_form before) (gap_form after) (entries_form es)

  -- an entry in its canonical form
  pub entry_form : Entry → Entry
  entry_form (entry ask key value) = entry (gap_form ask) (flow_form key) (value_form value)

  -- a value in its canonical form
  pub value_form : Value → Value
  value_form absent = absent
  value_form (empty gap) = empty (gap_form gap)
  value_form (given before after f) = given (gap_form before) (gap_form after) (flow_form f)

-- ---- the text

-- the text of a `?` with its gap stays
asked_text_same : (ask : Option Sep) → asked_text (gap_form ask) ≡ asked_text ask
asked_text_same None = refl
asked_text_same (Some sep) = rw (sep_form_text sep)

mutual
  -- the form of a node has the same text
  pub flow_form_text : (f : Flow) → flow_text (flow_form f) ≡ flow_text f
  flow_form_text (scalar s) = refl
  flow_form_text (seq gap es) = rw (gap_form_text gap, entries_form_text es)
  flow_form_text (map gap es) = rw (gap_form_text gap, entries_form_text es)

  -- so has that of entries
  pub entries_form_text : (es : Entries) → entries_text (entries_form es) ≡ entries_text es
  entries_form_text none = refl
  entries_form_text (last e gap) = rw (entry_form_text e, gap_form_text gap)
  entries_form_text (next e before after es) = rw (entry_form_text e, gap_form_text before, gap_form_text after, entries_form_text es)

  -- so has that of an entry
  pub entry_form_text : (e : Entry) → entry_text (entry_form e) ≡ entry_text e
  entry_form_text (entry ask key value) = rw (asked_text_same ask, flow_form_text key, value_form_text value)

  -- so has that of a value
  pub value_form_text : (value : Value) → value_text (value_form value) ≡ value_text value
  value_form_text absent = refl
  value_form_text (empty gap) = rw (gap_form_text gap)
  value_form_text (given before after f) = rw (gap_form_text before, gap_form_text after, flow_form_text f)

-- ---- the meaning

-- a pair stays a pair
is_pair_same : (ask : Option Sep) (value : Value) → is_pair (gap_form ask) (value_form value) ≡ is_pair ask value
is_pair_same None absent = refl
is_pair_same None (empty gap) = refl
is_pair_same None (given before after f) = refl
is_pair_same (Some sep) value = refl

mutual
  -- the form of a node means the same
  pub flow_form_events : (f : Flow) (at : ℕ) → flow_events (flow_form f) at ≡ flow_events f at
  flow_form_events (scalar s) at = refl
  flow_form_events (seq gap es) at = rw (gap_form_text gap, entries_form_events es)
  flow_form_events (map gap es) at = rw (gap_form_text gap, entries_form_events es)

  -- so does that of entries
  pub entries_form_events : (es : Entries) (in_seq : Bool) (at : ℕ)
      → entries_events (entries_form es) in_seq at ≡ entries_events es in_seq at
  entries_form_events none in_seq at = refl
  entries_form_events (last e gap) in_seq at = entry_form_events e in_seq at
  entries_form_events (next e before after es) in_seq at =
      rw (entry_form_events e, entry_form_text e, gap_form_text before, gap_form_text after, entries_form_events es)

  -- so does that of an entry
  pub entry_form_events : (e : Entry) (in_seq : Bool) (at : ℕ) → entry_events (entry_form e) in_seq at ≡ entry_events e in_seq at
  entry_form_events (entry ask key value) in_seq at =
      simp (asked_text_same ask, flow_form_text key, is_pair_same ask value, flow_form_events key, value_form_events value)

  -- so does that of a value
  pub value_form_events : (value : Value) (at : ℕ) → value_events (value_form value) at ≡ value_events value at
  value_form_events absent at = refl
  value_form_events (empty gap) at = rw (gap_form_text gap)
  value_form_events (given before after f) at = rw (gap_form_text before, gap_form_text after, flow_form_events f)

-- ---- it fits

-- a plain scalar stays one
is_plain_same : (f : Flow) → is_plain (flow_form f) ≡ is_plain f
is_plain_same (scalar s) = refl
is_plain_same (seq gap es) = refl
is_plain_same (map gap es) = refl

-- a gap that is there stays there
is_some_same : (gap : Option Sep) → is_some (gap_form gap) ≡ is_some gap
is_some_same None = refl
is_some_same (Some sep) = refl

-- a single pair stays one
single_pair_same : (in_seq : Bool) (ask : Option Sep) (value : Value)
    → single_pair in_seq (gap_form ask) (value_form value) ≡ single_pair in_seq ask value
single_pair_same in_seq None absent = refl
single_pair_same in_seq None (empty gap) = refl
single_pair_same in_seq None (given before after f) = refl
single_pair_same in_seq (Some sep) value = refl

-- the text before a `:` stays
before_colon_same : (value : Value) → before_colon (value_form value) ≡ before_colon value
before_colon_same absent = refl
before_colon_same (empty gap) = gap_form_text gap
before_colon_same (given before after f) = gap_form_text before

-- what leads from each part leads from the choice
either : (pair a a' short b b' : Bool) → (a ≡ true → a' ≡ true) → (b ≡ true → b' ≡ true)
    → cond pair (a && short) b ≡ true → cond pair (a' && short) b' ≡ true
either true a a' short b b' f g h = let p : (a ≡ true) × (short ≡ true) = and_parts _ _ h in and_from _ _ (f p.0) p.1
either false a a' short b b' f g h = g h

-- the form of a node starts with something solid
pub form_solid : (f : Flow) (n : ℕ) (c : FlowContext) (bol : Bool) (after : List ℕ)
    → canonical_flow (flow_form f) n c bol after ≡ true → first solid (flow_text f ++ after) ≡ true
form_solid f n c bol after h = rw (flow_form_text f) at (flow_begins (flow_form f) n c bol after h).0

-- the key of an entry starts with something solid
either_solid : (pair : Bool) (f : Flow) (n : ℕ) (d : FlowContext) (b b' : Bool) (after : List ℕ) (short : Bool)
    → cond pair (canonical_flow (flow_form f) 0 flow_key b after && short) (canonical_flow (flow_form f) n d b' after)
    ≡ true → first solid (flow_text f ++ after) ≡ true
either_solid true f n d b b' after short h = form_solid f 0 flow_key b after (and_parts _ _ h).0
either_solid false f n d b b' after short h = form_solid f n d b' after h

-- a closing bracket is solid
close_solid : (close : ℕ) (after : List ℕ) → bracket close ≡ true → first solid (close ∷ after) ≡ true
close_solid close after k = entries_begin none 0 flow_key true true close after k refl

mutual
  -- the form of a node that fits is canonical
  pub flow_form_fits : (f : Flow) (n : ℕ) (c : FlowContext) (bol : Bool) (after : List ℕ)
      → flow_fits f n c bol after ≡ true → canonical_flow (flow_form f) n c bol after ≡ true
  flow_form_fits (scalar s) n c bol after h = h
  flow_form_fits (seq gap es) n c bol after h =
      let p : (gap_fits n (one_line c) gap (entries_text es ++ (93 ∷ after)) ≡ true)
      × (entries_fit es n (in_flow c) true (starts_line false (gap_text gap)) (93 ∷ after) ≡ true) = and_parts _ _ h in
      let e : canonical_entries (entries_form es) n (in_flow c) true (starts_line false (gap_text gap)) (93 ∷ after)
      ≡ true = entries_form_fit es n (in_flow c) true _ 93 after refl p.1 in
      let s : first solid (entries_text es ++ (93 ∷ after)) ≡ true =
      rw (entries_form_text es) at (entries_begin (entries_form es) n (in_flow c) true _ 93 after refl e) in
      rw (gap_form_text gap, entries_form_text es) (and_from _ _ (gap_form_fits n (one_line c) gap _ p.0 s) e)
  flow_form_fits (map gap es) n c bol after h =
      let p : (gap_fits n (one_line c) gap (entries_text es ++ (125 ∷ after)) ≡ true)
      × (entries_fit es n (in_flow c) false (starts_line false (gap_text gap)) (125 ∷ after) ≡ true) = and_parts _ _ h in
      let e : canonical_entries (entries_form es) n (in_flow c) false (starts_line false (gap_text gap)) (125 ∷ after)
      ≡ true = entries_form_fit es n (in_flow c) false _ 125 after refl p.1 in
      let s : first solid (entries_text es ++ (125 ∷ after)) ≡ true =
      rw (entries_form_text es) at (entries_begin (entries_form es) n (in_flow c) false _ 125 after refl e) in
      rw (gap_form_text gap, entries_form_text es) (and_from _ _ (gap_form_fits n (one_line c) gap _ p.0 s) e)

  -- so is that of entries
  pub entries_form_fit : (es : Entries) (n : ℕ) (d : FlowContext) (in_seq bol : Bool) (close : ℕ) (after : List ℕ) → bracket close ≡ true
      → entries_fit es n d in_seq bol (close ∷ after) ≡ true → canonical_entries (entries_form es) n d in_seq bol (close ∷ after) ≡ true
  entries_form_fit none n d in_seq bol close after k h = refl
  entries_form_fit (last e gap) n d in_seq bol close after k h =
      let p : (entry_fits e n d in_seq bol (gap_text gap ++ (close ∷ after)) ≡ true)
      × (gap_fits n (one_line d) gap (close ∷ after) ≡ true) = and_parts _ _ h in
      rw (gap_form_text gap) (and_from _ _ (entry_form_fits e n d in_seq bol _ p.0)
      (gap_form_fits n (one_line d) gap _ p.1 (close_solid close after k)))
  entries_form_fit (next e before gap_after es) n d in_seq bol close after k h =
      let rest : List ℕ = gap_text gap_after ++ (entries_text es ++ (close ∷ after)) in
      let p : (entry_fits e n d in_seq bol (gap_text before ++ (44 ∷ rest))
      && gap_fits n (one_line d) before (44 ∷ rest)
      && gap_fits n (one_line d) gap_after (entries_text es ++ (close ∷ after)) ≡ true)
      × (entries_fit es n d in_seq (starts_line false (gap_text gap_after)) (close ∷ after) ≡ true) = and_parts _ _ h in
      let q : (entry_fits e n d in_seq bol (gap_text before ++ (44 ∷ rest)) && gap_fits n (one_line d) before (44 ∷ rest) ≡ true)
      × (gap_fits n (one_line d) gap_after (entries_text es ++ (close ∷ after)) ≡ true) = and_parts _ _ p.0 in
      let r : (entry_fits e n d in_seq bol (gap_text before ++ (44 ∷ rest)) ≡ true)
      × (gap_fits n (one_line d) before (44 ∷ rest) ≡ true) = and_parts _ _ q.0 in
      let m : canonical_entries (entries_form es) n d in_seq (starts_line false (gap_text gap_after)) (close ∷ after)
      ≡ true = entries_form_fit es n d in_seq _ close after k p.1 in
      let s : first solid (entries_text es ++ (close ∷ after)) ≡ true =
      rw (entries_form_text es) at (entries_begin (entries_form es) n d in_seq _ close after k m) in
      rw (gap_form_text before, gap_form_text gap_after, entries_form_text es)
      (and_from _ _ (and_from _ _ (and_from _ _ (entry_form_fits e n d in_seq bol _ r.0)
      (gap_form_fits n (one_line d) before _ r.1 refl)) (gap_form_fits n (one_line d) gap_after _ q.1 s)) m)

  -- so is that of an entry
  pub entry_form_fits : (e : Entry) (n : ℕ) (d : FlowContext) (in_seq bol : Bool) (after : List ℕ)
      → entry_fits e n d in_seq bol after ≡ true
      → canonical_entry (entry_form e) n d in_seq bol after ≡ true
  entry_form_fits (entry ask key value) n d in_seq bol after h =
      let rest : List ℕ = value_text value ++ after in
      let alone : Bool = single_pair in_seq ask value in
      let b : Bool = cond (is_some ask) (starts_line false (gap_text ask)) bol in
      let short : Bool = short_key key (before_colon value) in
      let p : (gap_fits n (one_line d) ask (flow_text key ++ rest)
      && cond alone (flow_fits key 0 flow_key bol rest && short) (flow_fits key n d b rest) ≡ true)
      × (value_fits value n d (one_line d || alone) (is_plain key) after ≡ true) = and_parts _ _ h in
      let q : (gap_fits n (one_line d) ask (flow_text key ++ rest) ≡ true)
      × (cond alone (flow_fits key 0 flow_key bol rest && short) (flow_fits key n d b rest) ≡ true) = and_parts _ _ p.0 in
      let k : cond alone (canonical_flow (flow_form key) 0 flow_key bol rest && short) (canonical_flow (flow_form key) n d b rest) ≡ true =
      either alone _ _ short _ _ (λ i. flow_form_fits key 0 flow_key bol rest i) (λ i. flow_form_fits key n d b rest i) q.1 in
      let s : first solid (flow_text key ++ rest) ≡ true = either_solid alone key n d bol b rest short k in
      rw (
        single_pair_same in_seq ask value,
        is_some_same ask,
        gap_form_text ask,
        is_plain_same key,
        value_form_text value,
        flow_form_text key,
        before_colon_same value,
      )
      (and_from _ _ (and_from _ _ (gap_form_fits n (one_line d) ask _ q.0 s) k)
      (value_form_fits value n d (one_line d || alone) (is_plain key) after p.1))

  -- so is that of a value
  pub value_form_fits : (value : Value) (n : ℕ) (d : FlowContext) (key after_plain : Bool) (after : List ℕ)
      → value_fits value n d key after_plain after ≡ true
      → canonical_value (value_form value) n d key after_plain after ≡ true
  value_form_fits absent n d key after_plain after h = refl
  value_form_fits (empty gap) n d key after_plain after h =
      let p : (gap_fits n key gap (58 ∷ after) ≡ true) × (not (after_plain && first (safe d) after) ≡ true) = and_parts _ _ h in
      and_from _ _ (gap_form_fits n key gap _ p.0 refl) p.1
  value_form_fits (given before gap_after f) n d key after_plain after h =
      let p : (gap_fits n key before (58 ∷ (gap_text gap_after ++ (flow_text f ++ after)))
      && (is_some gap_after || not after_plain) && gap_fits n (one_line d) gap_after (flow_text f ++ after) ≡ true)
      × (flow_fits f n d (starts_line false (gap_text gap_after)) after ≡ true) = and_parts _ _ h in
      let q : (gap_fits n key before (58 ∷ (gap_text gap_after ++ (flow_text f ++ after)))
      && (is_some gap_after || not after_plain) ≡ true)
      × (gap_fits n (one_line d) gap_after (flow_text f ++ after) ≡ true) = and_parts _ _ p.0 in
      let r : (gap_fits n key before (58 ∷ (gap_text gap_after ++ (flow_text f ++ after))) ≡ true)
      × (is_some gap_after || not after_plain ≡ true) = and_parts _ _ q.0 in
      let c : canonical_flow (flow_form f) n d (starts_line false (gap_text gap_after)) after ≡ true = flow_form_fits f n d _ after p.1 in
      rw (is_some_same gap_after, gap_form_text gap_after, flow_form_text f)
      (and_from _ _ (and_from _ _ (and_from _ _ (gap_form_fits n key before _ r.0 refl) r.1)
      (gap_form_fits n (one_line d) gap_after _ q.1 (form_solid f n d _ after c))) c)
