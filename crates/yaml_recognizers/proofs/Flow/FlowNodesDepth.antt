-- The recognizer of flow nodes finds the same at each depth that is enough for the text.
use Rattle.std.{proofs.Common.{ap, arith, length-append, refl, sym, ◌∙◌, ◌≡◌, ◌≤◌}, specs.Prelude.{Bool, List, None, Option, Some, false}}
use Rattle.std.specs.Prelude.{if◌then◌else◌, is_some, length, not, suc, true, zero, ℕ, ◌&&◌, ◌*◌, ◌++◌, ◌+◌, ◌==◌, ◌||◌, ◌∷◌}
use Rattle.yaml_recognizers.proofs.Prelude.{Entries, Entry, Flow, Value, entry, entry_text, flow_text, given, is_plain, map, next, none}
use Rattle.yaml_recognizers.proofs.Prelude.{scalar, seq, FlowContext, Scalar, in_flow, one_line, Sep, gap_text, first, starts_line}
use Rattle.yaml_recognizers.proofs.{Basics.{Prefixes.head_is, Reading.{cond_same, on_same}}, Separation.GapsSound.gap_sound}
use Rattle.yaml_recognizers.{proofs.Flow.FlowNodesSound.{asked_head, colon_parts, entry_sound, flow_sound}, specs.Ends.is_colon}
use Rattle.yaml_recognizers.specs.{Prefixes.past, Gaps.{GapRead, read_gap}, Scalars.ReadsScalars, FlowNodes.{asked_entry, asked_with}}
use Rattle.yaml_recognizers.specs.FlowNodes.{ends_entry, in_brackets, is_asked, keyed_entry, entry_if_short, next_entry, read_entries}
use Rattle.yaml_recognizers.specs.FlowNodes.{read_entry, read_flow, read_value, some_value, whole_entries, whole_entry, whole_flow}
use Rattle.yaml_recognizers.specs.{FlowNodes.whole_value, Reading.{Read, read_closing, on}}

-- a gap leaves no more than the text
gap_left : (n : ℕ) (key : Bool) (text : List ℕ) → length (read_gap n key text).1 ≤ length text
gap_left n key text =
    let g : GapRead = read_gap n key text in
    let e : text ≡ gap_text g.0 ++ g.1 = (gap_sound n key text).0 in
    omega (arith, ap length e, length-append (gap_text g.0) g.1)

-- one character takes one of the text
one_past : (k : ℕ) (text : List ℕ) → text ≡ k ∷ past text → suc (length (past text)) ≡ length text
one_past k text e = sym (ap length e)

-- after the character k, and a gap
past_gap_left : (n : ℕ) (key : Bool) (k : ℕ) (text : List ℕ) → text ≡ k ∷ past text
    → suc (length (read_gap n key (past text)).1) ≤ length text
past_gap_left n key k text e = let l : length (read_gap n key (past text)).1 ≤ length (past text) =
    gap_left n key (past text) in omega (arith, l, one_past k text e)

-- recognizers that agree on what comes next read the same entry after `?`
asked_same : (again again' : Option Sep → List ℕ → Read Flow) (value_at value_at' : Bool → List ℕ → Read Value)
    (gap : Option Sep) (text : List ℕ) → again gap text ≡ again' gap text
    → ((key : Flow) (rest : List ℕ) → again' gap text ≡ Some (key, rest) → value_at (is_plain key) rest ≡ value_at' (is_plain key) rest)
    → asked_with again value_at gap text ≡ asked_with again' value_at' gap text
asked_same again again' value_at value_at' None text a f = refl
asked_same again again' value_at value_at' (Some sep) text a f =
    ap (λ r. on r (λ key rest. keyed_entry value_at (λ key' value rest'. Some (entry (Some sep) key' value, rest')) key rest)) a
    ∙ on_same (again' (Some sep) text) _ _ (λ key rest q.
    ap (λ r. on r (λ value rest'. Some (entry (Some sep) key value, rest'))) (f key rest q))

module _ (read_scalar : ℕ → FlowContext → Bool → List ℕ → Read Scalar) (scalars : ReadsScalars read_scalar) where
  flow_left : (fuel n : ℕ) (c : FlowContext) (bol : Bool) (text : List ℕ) (f : Flow) (rest : List ℕ)
      → read_flow read_scalar fuel n c bol text ≡ Some (f, rest) → length rest ≤ length text
  flow_left fuel n c bol text f rest e =
      let p = flow_sound read_scalar scalars fuel n c bol text f rest e in omega (arith, ap length p.0, length-append (flow_text f) rest)

  entry_left : (fuel n : ℕ) (d : FlowContext) (in_seq bol : Bool) (text : List ℕ) (e : Entry) (rest : List ℕ)
      → read_entry read_scalar fuel n d in_seq bol text ≡ Some (e, rest) → length rest ≤ length text
  entry_left fuel n d in_seq bol text e rest h =
      let p = entry_sound read_scalar scalars fuel n d in_seq bol text e rest h in
      omega (arith, ap length p.0, length-append (entry_text e) rest)

  mutual
    unfolding read_flow

    -- two depths that are enough for the text find the same node
    pub flow_same : (fuel fuel' n : ℕ) (c : FlowContext) (bol : Bool) (text : List ℕ) → 4 * length text + 1 ≤ fuel
        → 4 * length text + 1 ≤ fuel'
        → read_flow read_scalar fuel n c bol text ≡ read_flow read_scalar fuel' n c bol text
    flow_same zero fuel' n c bol text l l' = absurd (omega arith)
    flow_same (suc fuel) zero n c bol text l l' = absurd (omega arith)
    flow_same (suc fuel) (suc fuel') n c bol text l l' =
        let g : GapRead = read_gap n (one_line c) (past text) in
        let again : ℕ → Bool → ℕ → Read Entries =
        λ depth in_seq close. read_entries read_scalar depth n (in_flow c) in_seq
        (starts_line false (gap_text g.0)) close g.1 in
        cond_same (first (λ x. x == 91) text) _ _ _ _
        (λ e. let s : suc (length g.1) ≤ length text = past_gap_left n (one_line c) 91 text (head_is 91 text e) in
        ap (λ r. on r (λ es rest. read_closing 93 (seq g.0 es) rest))
        (entries_same fuel fuel' n (in_flow c) true (starts_line false (gap_text g.0)) 93 g.1 (omega arith) (omega arith)))
        (λ _. cond_same (first (λ x. x == 123) text) _ _ _ _
        (λ e. let s : suc (length g.1) ≤ length text = past_gap_left n (one_line c) 123 text (head_is 123 text e) in
        ap (λ r. on r (λ es rest. read_closing 125 (map g.0 es) rest))
        (entries_same fuel fuel' n (in_flow c) false (starts_line false (gap_text g.0)) 125 g.1 (omega arith) (omega arith)))
        (λ _. refl))

    -- and the same entries
    pub entries_same : (fuel fuel' n : ℕ) (d : FlowContext) (in_seq bol : Bool) (close : ℕ) (text : List ℕ)
        → 4 * length text + 4 ≤ fuel → 4 * length text + 4 ≤ fuel'
        → read_entries read_scalar fuel n d in_seq bol close text ≡ read_entries read_scalar fuel' n d in_seq bol close text
    entries_same zero fuel' n d in_seq bol close text l l' = absurd (omega arith)
    entries_same (suc fuel) zero n d in_seq bol close text l l' = absurd (omega arith)
    entries_same (suc fuel) (suc fuel') n d in_seq bol close text l l' =
        let next_at : ℕ → Entry → List ℕ → Read Entries = λ depth e rest.
        next_entry (read_gap n (one_line d)) (λ gap rest'.
        read_entries read_scalar depth n d in_seq (starts_line false (gap_text gap)) close rest') e
        (read_gap n (one_line d) rest) in
        cond_same (first (λ x. x == close) text) _ _ _ _ (λ _. refl)
        (λ _. ap (λ r. on r (next_at fuel)) (entry_same fuel fuel' n d in_seq bol text (omega arith) (omega arith))
        ∙ on_same (read_entry read_scalar fuel' n d in_seq bol text) (next_at fuel) (next_at fuel') (λ e rest q.
        let b : GapRead = read_gap n (one_line d) rest in
        let a : GapRead = read_gap n (one_line d) (past b.1) in
        let r : length rest ≤ length text = entry_left fuel' n d in_seq bol text e rest q in
        let s : length b.1 ≤ length rest = gap_left n (one_line d) rest in
        cond_same (first (λ x. x == 44) b.1) _ _ _ _
        (λ k. let t : suc (length a.1) ≤ length b.1 = past_gap_left n (one_line d) 44 b.1 (head_is 44 b.1 k) in
        ap (λ x. on x (λ es rest'. Some (next e b.0 a.0 es, rest')))
        (entries_same fuel fuel' n d in_seq (starts_line false (gap_text a.0)) close a.1 (omega arith) (omega arith)))
        (λ _. refl)))

    -- and the same entry
    pub entry_same : (fuel fuel' n : ℕ) (d : FlowContext) (in_seq bol : Bool) (text : List ℕ)
        → 4 * length text + 3 ≤ fuel → 4 * length text + 3 ≤ fuel'
        → read_entry read_scalar fuel n d in_seq bol text ≡ read_entry read_scalar fuel' n d in_seq bol text
    entry_same zero fuel' n d in_seq bol text l l' = absurd (omega arith)
    entry_same (suc fuel) zero n d in_seq bol text l l' = absurd (omega arith)
    entry_same (suc fuel) (suc fuel') n d in_seq bol text l l' =
        let a : GapRead = read_gap n (one_line d) (past text) in
        let flow_in : ℕ → Option Sep → List ℕ → Read Flow =
        λ depth gap rest. read_flow read_scalar depth n d (starts_line false (gap_text gap)) rest in
        let value_in : ℕ → Bool → List ℕ → Read Value = λ depth after_plain rest. read_value read_scalar depth n d after_plain rest in
        let keyed : ℕ → Flow → List ℕ → Read Entry =
        λ depth key rest. keyed_entry (value_in depth) (entry_if_short n d in_seq bol None) key rest in
        cond_same (is_asked d text) _ _ _ _
        (λ k. let s : suc (length a.1) ≤ length text = past_gap_left n (one_line d) 63 text (asked_head d text k) in
        asked_same (flow_in fuel) (flow_in fuel') (value_in fuel) (value_in fuel') a.0 a.1
        (flow_same fuel fuel' n d (starts_line false (gap_text a.0)) a.1 (omega arith) (omega arith))
        (λ key rest q. let r : length rest ≤ length a.1 = flow_left fuel' n d (starts_line false (gap_text a.0)) a.1 key rest q in
        value_same fuel fuel' n d (is_plain key) rest (omega arith) (omega arith)))
        (λ _. ap (λ r. on r (keyed fuel)) (flow_same fuel fuel' n d bol text (omega arith) (omega arith))
        ∙ on_same (read_flow read_scalar fuel' n d bol text) (keyed fuel) (keyed fuel') (λ key rest q.
        let r : length rest ≤ length text = flow_left fuel' n d bol text key rest q in
        ap (λ x. on x (λ value rest'. entry_if_short n d in_seq bol None key value rest'))
        (value_same fuel fuel' n d (is_plain key) rest (omega arith) (omega arith))))

    -- and the same value
    pub value_same : (fuel fuel' n : ℕ) (d : FlowContext) (after_plain : Bool) (text : List ℕ)
        → 4 * length text + 1 ≤ fuel → 4 * length text + 1 ≤ fuel'
        → read_value read_scalar fuel n d after_plain text ≡ read_value read_scalar fuel' n d after_plain text
    value_same zero fuel' n d after_plain text l l' = absurd (omega arith)
    value_same (suc fuel) zero n d after_plain text l l' = absurd (omega arith)
    value_same (suc fuel) (suc fuel') n d after_plain text l l' =
        let b : GapRead = read_gap n (one_line d) text in
        let a : GapRead = read_gap n (one_line d) (past b.1) in
        let s : length b.1 ≤ length text = gap_left n (one_line d) text in
        cond_same (is_colon d after_plain b.1) _ _ _ _
        (λ k. let t : suc (length a.1) ≤ length b.1 = past_gap_left n (one_line d) 58 b.1 (colon_parts d after_plain b.1 k).0 in
        cond_same (ends_entry a.1 || (after_plain && not (is_some a.0))) _ _ _ _ (λ _. refl)
        (λ _. ap (λ r. on r (λ f rest'. Some (given b.0 a.0 f, rest')))
        (flow_same fuel fuel' n d (starts_line false (gap_text a.0)) a.1 (omega arith) (omega arith))))
        (λ _. refl)

  -- each depth that is enough finds what all levels find
  pub any_depth : (fuel n : ℕ) (c : FlowContext) (bol : Bool) (text : List ℕ) → 4 * length text + 1 ≤ fuel
      → read_flow read_scalar fuel n c bol text ≡ whole_flow read_scalar n c bol text
  any_depth fuel n c bol text l = flow_same fuel (4 * length text + 1) n c bol text l (omega arith)

  -- ---- the recognizers by one another, where depth is no matter

  -- a flow node, from its parts
  pub flow_step : (n : ℕ) (c : FlowContext) (bol : Bool) (text : List ℕ) → whole_flow read_scalar n c bol text
      ≡ (if first (λ x. x == 91) text
      then in_brackets seq 93 (λ gap rest. whole_entries read_scalar n (in_flow c) true
      (starts_line false (gap_text gap)) 93 rest) (read_gap n (one_line c) (past text))
      else if first (λ x. x == 123) text
      then in_brackets map 125 (λ gap rest. whole_entries read_scalar n (in_flow c) false
      (starts_line false (gap_text gap)) 125 rest) (read_gap n (one_line c) (past text))
      else on (read_scalar n c bol text) (λ s rest. Some (scalar s, rest)))
  unfolding read_flow
  flow_step n c bol text =
      let g : GapRead = read_gap n (one_line c) (past text) in
      let deep : 4 * length text + 1 ≡ suc (4 * length text) = omega arith in
      ap (λ k. read_flow read_scalar k n c bol text) deep
      ∙ cond_same (first (λ x. x == 91) text) _ _ _ _
      (λ e. let s : suc (length g.1) ≤ length text = past_gap_left n (one_line c) 91 text (head_is 91 text e) in
      ap (λ r. on r (λ es rest. read_closing 93 (seq g.0 es) rest))
      (entries_same (4 * length text) (4 * length g.1 + 4) n (in_flow c) true
      (starts_line false (gap_text g.0)) 93 g.1 (omega arith) (omega arith)))
      (λ _. cond_same (first (λ x. x == 123) text) _ _ _ _
      (λ e. let s : suc (length g.1) ≤ length text = past_gap_left n (one_line c) 123 text (head_is 123 text e) in
      ap (λ r. on r (λ es rest. read_closing 125 (map g.0 es) rest))
      (entries_same (4 * length text) (4 * length g.1 + 4) n (in_flow c) false
      (starts_line false (gap_text g.0)) 125 g.1 (omega arith) (omega arith)))
      (λ _. refl))

  -- entries, from their parts
  pub entries_step : (n : ℕ) (d : FlowContext) (in_seq bol : Bool) (close : ℕ) (text : List ℕ)
      → whole_entries read_scalar n d in_seq bol close text
      ≡ (if first (λ x. x == close) text then Some (none, text)
      else on (whole_entry read_scalar n d in_seq bol text) (λ e rest.
      next_entry (read_gap n (one_line d)) (λ gap rest'.
      whole_entries read_scalar n d in_seq (starts_line false (gap_text gap)) close rest') e (read_gap n (one_line d) rest)))
  unfolding read_flow
  entries_step n d in_seq bol close text =
      let deep : 4 * length text + 4 ≡ suc (4 * length text + 3) = omega arith in
      ap (λ k. read_entries read_scalar k n d in_seq bol close text) deep
      ∙ cond_same (first (λ x. x == close) text) _ _ _ _ (λ _. refl)
      (λ _. on_same (read_entry read_scalar (4 * length text + 3) n d in_seq bol text) _ _ (λ e rest q.
      let b : GapRead = read_gap n (one_line d) rest in
      let a : GapRead = read_gap n (one_line d) (past b.1) in
      let r : length rest ≤ length text = entry_left (4 * length text + 3) n d in_seq bol text e rest q in
      let s : length b.1 ≤ length rest = gap_left n (one_line d) rest in
      cond_same (first (λ x. x == 44) b.1) _ _ _ _
      (λ k. let t : suc (length a.1) ≤ length b.1 = past_gap_left n (one_line d) 44 b.1 (head_is 44 b.1 k) in
      ap (λ x. on x (λ es rest'. Some (next e b.0 a.0 es, rest')))
      (entries_same (4 * length text + 3) (4 * length a.1 + 4) n d in_seq (starts_line false (gap_text a.0)) close a.1
      (omega arith) (omega arith)))
      (λ _. refl)))

  -- an entry, from its parts
  pub entry_step : (n : ℕ) (d : FlowContext) (in_seq bol : Bool) (text : List ℕ) → whole_entry read_scalar n d in_seq bol text
      ≡ (if is_asked d text
      then asked_entry (λ gap rest. whole_flow read_scalar n d (starts_line false (gap_text gap)) rest)
      (λ after_plain rest. whole_value read_scalar n d after_plain rest) (read_gap n (one_line d) (past text))
      else on (whole_flow read_scalar n d bol text)
      (λ key rest. keyed_entry (λ after_plain rest'. whole_value read_scalar n d after_plain rest')
      (entry_if_short n d in_seq bol None) key rest))
  unfolding read_flow
  entry_step n d in_seq bol text =
      let deep : 4 * length text + 3 ≡ suc (4 * length text + 2) = omega arith in
      let fuel : ℕ = 4 * length text + 2 in
      let a : GapRead = read_gap n (one_line d) (past text) in
      ap (λ k. read_entry read_scalar k n d in_seq bol text) deep
      ∙ cond_same (is_asked d text) _ _ _ _
      (λ k. let s : suc (length a.1) ≤ length text = past_gap_left n (one_line d) 63 text (asked_head d text k) in
      asked_same (λ gap rest. read_flow read_scalar fuel n d (starts_line false (gap_text gap)) rest)
      (λ gap rest. whole_flow read_scalar n d (starts_line false (gap_text gap)) rest)
      (λ after_plain rest. read_value read_scalar fuel n d after_plain rest)
      (λ after_plain rest. whole_value read_scalar n d after_plain rest) a.0 a.1
      (flow_same fuel (4 * length a.1 + 1) n d (starts_line false (gap_text a.0)) a.1 (omega arith) (omega arith))
      (λ key rest q. let r : length rest ≤ length a.1 =
      flow_left (4 * length a.1 + 1) n d (starts_line false (gap_text a.0)) a.1 key rest q in
      value_same fuel (4 * length rest + 1) n d (is_plain key) rest (omega arith) (omega arith)))
      (λ _. ap (λ r. on r (λ key rest. keyed_entry
      (λ after_plain rest'. read_value read_scalar fuel n d after_plain rest') (entry_if_short n d in_seq bol None) key rest))
      (flow_same fuel (4 * length text + 1) n d bol text (omega arith) (omega arith))
      ∙ on_same (whole_flow read_scalar n d bol text) _ _ (λ key rest q.
      let r : length rest ≤ length text = flow_left (4 * length text + 1) n d bol text key rest q in
      ap (λ x. on x (λ value rest'. entry_if_short n d in_seq bol None key value rest'))
      (value_same fuel (4 * length rest + 1) n d (is_plain key) rest (omega arith) (omega arith))))

  -- a value, from its parts
  pub value_step : (n : ℕ) (d : FlowContext) (after_plain : Bool) (text : List ℕ) → whole_value read_scalar n d after_plain text
      ≡ some_value d after_plain (read_gap n (one_line d))
      (λ gap rest. whole_flow read_scalar n d (starts_line false (gap_text gap)) rest) text (read_gap n (one_line d) text)
  unfolding read_flow
  value_step n d after_plain text =
      let deep : 4 * length text + 1 ≡ suc (4 * length text) = omega arith in
      let b : GapRead = read_gap n (one_line d) text in
      let a : GapRead = read_gap n (one_line d) (past b.1) in
      let s : length b.1 ≤ length text = gap_left n (one_line d) text in
      ap (λ k. read_value read_scalar k n d after_plain text) deep
      ∙ cond_same (is_colon d after_plain b.1) _ _ _ _
      (λ k. let t : suc (length a.1) ≤ length b.1 = past_gap_left n (one_line d) 58 b.1 (colon_parts d after_plain b.1 k).0 in
      cond_same (ends_entry a.1 || (after_plain && not (is_some a.0))) _ _ _ _ (λ _. refl)
      (λ _. ap (λ r. on r (λ f rest'. Some (given b.0 a.0 f, rest')))
      (flow_same (4 * length text) (4 * length a.1 + 1) n d (starts_line false (gap_text a.0)) a.1 (omega arith) (omega arith))))
      (λ _. refl)
