-- A block key is a flow node of the wider context that is on one line, is short, and has white and a `:` after it: so
-- one reading decides both.
use Rattle.std.{proofs.Common.{ap, refl, subst, sym, ◌∙◌, ◌≡◌, inl, inr}, specs.Prelude.{Bool, List, None, Some, false, true, ℕ, ◌&&◌}}
use Rattle.std.specs.Prelude.{◌++◌, ◌∷◌}
use Rattle.yaml_recognizers.proofs.Prelude.{and_parts, false≢true, ns, white, Flow, flow_text, is_plain, short_key, block_key, outer}
use Rattle.yaml_recognizers.proofs.{Prelude.{list_all, first}, Flow.{FlowNodesFound.stands, FlowNodesNarrower.flow_key_line}}
use Rattle.yaml_recognizers.proofs.Flow.{FlowNodesNarrower.flow_narrower, FlowNodesWhole.{whole_flow_read, whole_flow_sound}}
use Rattle.yaml_recognizers.proofs.{Flow.FlowNodesWider.flow_wider, Scalars.ScalarsInNodes.reads_scalars, Basics.Solid.head_of}
use Rattle.yaml_recognizers.proofs.Basics.{Prefixes.{drop_while_all, take_while_all, take_while_every, take_while_split}, Reading.none_some}
use Rattle.yaml_recognizers.proofs.{Basics.Reading.{some_parts, sound_is}, Block.BlockKeys.{WholeKey, keys_read, whole_key}}
use Rattle.yaml_recognizers.specs.{CanonicalFlowNodes.canonical_flow, Ends.Stops, FlowScalars.read_scalar, OneLine.on_one_line}
use Rattle.yaml_recognizers.specs.{Reading.Read, Recognizers.{StandsFlow, block_key_in, flow_node_at}, Prefixes.{drop_while, past, sign}}
use Rattle.yaml_recognizers.specs.Prefixes.{take_while}

-- before the `:` of a key a scalar ends
before_colon : (n : ℕ) (after_plain : Bool) (gap rest : List ℕ) → list_all white gap ≡ true → first ns rest ≡ false
    → Stops n outer after_plain (gap ++ (58 ∷ rest))
before_colon n after_plain gap rest w h = inr (inl (record { outside = refl; gap = gap; rest = rest; is = refl; gap_white = w; apart = h }))

-- what is found as a key
whole : (bol : Bool) (text : List ℕ) (key : Flow) (gap rest : List ℕ)
    → block_key_in bol text ≡ Some ((key, gap), rest) → WholeKey bol text (key, gap) rest
whole bol text key gap rest e =
    sound_is (WholeKey bol text) (block_key_in bol text) ((key, gap), rest)
    (whole_key flow_node_at (whole_flow_read read_scalar reads_scalars) (whole_flow_sound read_scalar reads_scalars) bol text) e

-- a key is found as a leaf, at each indentation
pub key_is_leaf : (m : ℕ) (bol : Bool) (text : List ℕ) (key : Flow) (gap rest : List ℕ) → block_key_in bol text ≡ Some ((key, gap), rest)
    → flow_node_at m outer bol text ≡ Some (key, gap ++ (58 ∷ rest))
key_is_leaf m bol text key gap rest e =
    let w : WholeKey bol text (key, gap) rest = whole bol text key gap rest e in
    let wide : canonical_flow key m outer bol (gap ++ (58 ∷ rest)) ≡ true =
    flow_wider key 0 m block_key outer bol (gap ++ (58 ∷ rest)) refl (w.0).1 in
    ap (flow_node_at m outer bol) (w.0).0
    ∙ whole_flow_read read_scalar reads_scalars key m outer bol (gap ++ (58 ∷ rest)) wide
    (before_colon m (is_plain key) gap rest (w.0).2 w.1)

-- whether a leaf, with what comes after it, is a key
abbrev pub is_key : Flow → List ℕ → Bool
is_key f rest = on_one_line f && (sign 58 (drop_while white rest) && short_key f (take_while white rest))

-- a leaf that passes the test for a key is the key there
pub leaf_is_key : (m : ℕ) (bol : Bool) (text : List ℕ) (f : Flow) (rest : List ℕ)
    → flow_node_at m outer bol text ≡ Some (f, rest) → is_key f rest ≡ true
    → block_key_in bol text ≡ Some ((f, take_while white rest), past (drop_while white rest))
leaf_is_key m bol text f rest e k =
    let s : StandsFlow m outer bol text f rest = stands m outer bol text f rest e in
    let p : (on_one_line f ≡ true) × (sign 58 (drop_while white rest) && short_key f (take_while white rest) ≡ true) = and_parts _ _ k in
    let q : (sign 58 (drop_while white rest) ≡ true) × (short_key f (take_while white rest) ≡ true) = and_parts _ _ p.1 in
    let h : (drop_while white rest ≡ 58 ∷ past (drop_while white rest))
    × (first ns (past (drop_while white rest)) ≡ false) = head_of 58 (drop_while white rest) q.0 in
    let r : rest ≡ take_while white rest ++ (58 ∷ past (drop_while white rest)) = take_while_split white rest
    ∙ ap (λ u. take_while white rest ++ u) h.0 in
    let fit : canonical_flow f 0 block_key bol rest ≡ true = flow_narrower f m 0 outer block_key bol rest refl p.0 s.canonical in
    ap (block_key_in bol) (s.spells ∙ ap (λ u. flow_text f ++ u) r)
    ∙ keys_read flow_node_at (whole_flow_read read_scalar reads_scalars)
    (whole_flow_sound read_scalar reads_scalars) f (take_while white rest) bol (past (drop_while white rest))
    (subst (λ (u : List ℕ). canonical_flow f 0 block_key bol u ≡ true) r fit) (take_while_every white rest) q.1 h.1

-- what is found as a key has the leaf's own rest
key_of_leaf : (m : ℕ) (bol : Bool) (text : List ℕ) (f : Flow) (rest : List ℕ) (key : Flow) (gap after : List ℕ)
    → flow_node_at m outer bol text ≡ Some (f, rest)
    → block_key_in bol text ≡ Some ((key, gap), after) → is_key f rest ≡ true
key_of_leaf m bol text f rest key gap after e k =
    let w : WholeKey bol text (key, gap) after = whole bol text key gap after k in
    let s : (f ≡ key) × (rest ≡ gap ++ (58 ∷ after)) =
    some_parts f key rest (gap ++ (58 ∷ after)) (sym e ∙ key_is_leaf m bol text key gap after k) in
    let line : on_one_line key ≡ true = flow_key_line key 0 block_key outer bol (gap ++ (58 ∷ after)) refl (w.0).1 in
    let short : short_key key gap ≡ true = (w.0).3 in
    let here : is_key key (gap ++ (58 ∷ after)) ≡ true =
    rw (take_while_all white gap (58 ∷ after) (w.0).2 refl, drop_while_all white gap (58 ∷ after) (w.0).2 refl, line, w.1, short) refl in
    ap (λ g. is_key g rest) s.0 ∙ (ap (is_key key) s.1 ∙ here)

-- a leaf that isn't such a one is no key, and where no leaf is there is no key
pub leaf_no_key : (m : ℕ) (bol : Bool) (text : List ℕ) (f : Flow) (rest : List ℕ)
    → flow_node_at m outer bol text ≡ Some (f, rest) → is_key f rest ≡ false
    → block_key_in bol text ≡ None
leaf_no_key m bol text f rest e n = none_of (block_key_in bol text)
    (λ key gap after k. false≢true (sym n ∙ key_of_leaf m bol text f rest key gap after e k))
  where
    none_of : (r : Read (Flow × List ℕ)) → ((key : Flow) (gap after : List ℕ) → r ≡ Some ((key, gap), after) → ⊥) → r ≡ None
    none_of None g = refl
    none_of (Some y) g = absurd (g (y.0).0 (y.0).1 y.1 refl)

-- without a leaf there is no key
pub no_leaf_no_key : (m : ℕ) (bol : Bool) (text : List ℕ) → flow_node_at m outer bol text ≡ None → block_key_in bol text ≡ None
no_leaf_no_key m bol text e = none_of (block_key_in bol text)
    (λ key gap after k. none_some _ (sym e ∙ key_is_leaf m bol text key gap after k))
  where
    none_of : (r : Read (Flow × List ℕ)) → ((key : Flow) (gap after : List ℕ) → r ≡ Some ((key, gap), after) → ⊥) → r ≡ None
    none_of None g = refl
    none_of (Some y) g = absurd (g (y.0).0 (y.0).1 y.1 refl)
