-- A block node that fits is read whole, before a line that ends it.
use Rattle.std.{proofs.Common.{ap, append_assoc, arith, inl, inr, refl, subst, sym, ◌∙◌, ◌≡◌, ◌≤◌}, specs.Prelude.{Bool, List, None, Some}}
use Rattle.std.specs.Prelude.{[], cond, false, is_some, nat_le, not, suc, true, zero, ℕ, ◌&&◌, ◌++◌, ◌+◌, ◌==◌, ◌||◌, ◌∷◌}
use Rattle.yaml_recognizers.proofs.Prelude.{and_from, and_left, and_parts, and_right, eq-eqb, false≢true, le-leb, le-ltb, not-true}
use Rattle.yaml_recognizers.proofs.Prelude.{not_from_false, not_from_true, or_from, or_left, or_right, ns, space, white, Indented, Items}
use Rattle.yaml_recognizers.proofs.Prelude.{Node, Pair, Pairs, asked, asked_alone, block, compact_items, compact_pairs, flow, indented_text}
use Rattle.yaml_recognizers.proofs.Prelude.{is_omitted, item, item_and, items, items_text, keyed, keyed_alone, node, node_text, omitted}
use Rattle.yaml_recognizers.proofs.Prelude.{pair, pair_and, pair_text, pairs, pairs_text, BlockScalar, block_text, past_spaces}
use Rattle.yaml_recognizers.proofs.Prelude.{spaces_before, Flow, flow_text, short_key, block_key, outer, LineEnd, Sep, comments_text}
use Rattle.yaml_recognizers.proofs.Prelude.{indents, inline, lines, sep_text, list_all, begins, first, is_empty, spaces, starts_line}
use Rattle.yaml_recognizers.proofs.Block.BlockNodesBegin.{Prefix, KeyParts, append_some, block_prefix, closes, comments_closed}
use Rattle.yaml_recognizers.proofs.Block.BlockNodesBegin.{indented_apart, items_start, key_parts, lead_deep, node_apart, pairs_prefix}
use Rattle.yaml_recognizers.proofs.Block.BlockNodesEnd.{colon_stop, dash_goes_on, deep_goes_on, block_node_stops_at, block_node_stops_items}
use Rattle.yaml_recognizers.proofs.Block.BlockNodesEnd.{block_node_stops_last, block_node_stops_pairs, block_node_stops_shallow}
use Rattle.yaml_recognizers.proofs.Block.BlockNodesEnd.{block_node_stops_value, items_stop, not_ended}
use Rattle.yaml_recognizers.proofs.Separation.{CommentsComplete.{at_line, comments_all, no_comments, not_line_end}, LineEnds.comments_no_ns}
use Rattle.yaml_recognizers.proofs.{Separation.LineEnds.{comments_unsolid, fits_end, no_comments_parts}, Flow.FlowNodesBegin.Opens}
use Rattle.yaml_recognizers.proofs.{Flow.FlowNodesBegin.flow_opens, Basics.Prefixes.{drop_while_all, spaces_counted, spaces_passed}}
use Rattle.yaml_recognizers.proofs.Basics.{Prefixes.take_while_all, Solid.{dash_solid, lead_past, solid_not_white, solid_some, solid_space}}
use Rattle.yaml_recognizers.{proofs.Basics.Solid.{unsolid_sign, white_no_ns}, specs.CanonicalBlockScalars.canonical_block}
use Rattle.yaml_recognizers.specs.{CanonicalFlowNodes.canonical_flow, Comments.all_comments, Prefixes.sign, Reading.{Read, on}}
use Rattle.yaml_recognizers.specs.BlockNodes.{asked_key, bar, flow_with, key_value, leaf_at, leaf_after, more_items, more_pairs, node_below}
use Rattle.yaml_recognizers.specs.BlockNodes.{omits, opens_pair, read_indented, read_items, read_node, read_pair, read_pairs, sep_at}
use Rattle.yaml_recognizers.specs.CanonicalBlockNodes.{canonical_indented, canonical_items, canonical_node, canonical_pair, canonical_pairs}
use Rattle.yaml_recognizers.specs.{CanonicalComments.{canonical_comments, canonical_sep, is_line_end}, Ends.{block_node_stops, less_deep}}
use Rattle.yaml_recognizers.specs.Ends.{solid}

-- ---- how deep the recognizer goes

unfoldable mutual
  -- an upper bound of the levels that reading a node takes
  pub node_size : Node → ℕ
  node_size (block sep b) = 1
  node_size (flow sep f comments) = 1
  node_size (items comments k is) = suc (items_size is)
  node_size (pairs comments k ps) = suc (pairs_size ps)

  -- the same for items
  pub items_size : Items → ℕ
  items_size (item i) = suc (indented_size i)
  items_size (item_and i is) = suc (indented_size i + items_size is)

  -- the same for pairs
  pub pairs_size : Pairs → ℕ
  pairs_size (pair p) = suc (pair_size p)
  pairs_size (pair_and p ps) = suc (pair_size p + pairs_size ps)

  -- the same for a pair
  pub pair_size : Pair → ℕ
  pair_size (asked key value) = suc (indented_size key + indented_size value)
  pair_size (asked_alone key) = suc (indented_size key)
  pair_size (keyed key gap n) = suc (node_size n)
  pair_size (keyed_alone key gap comments) = 1

  -- the same after a sign
  pub indented_size : Indented → ℕ
  indented_size (compact_items m is) = suc (items_size is)
  indented_size (compact_pairs m ps) = suc (pairs_size ps)
  indented_size (node n) = suc (node_size n)
  indented_size (omitted comments) = 1

-- the key is canonical at the start of the text, with whitespace, `:` and the rest after it
abbrev pub KeySound : Bool → List ℕ → (Flow × List ℕ) × List ℕ → Type 0
KeySound bol text r =
    (text ≡ flow_text r.0.0 ++ (r.0.1 ++ (58 ∷ r.1))) × (canonical_flow r.0.0 0 block_key bol (r.0.1 ++ (58 ∷ r.1)) ≡ true)
    × (list_all white r.0.1 ≡ true) × (short_key r.0.0 r.0.1 ≡ true)

-- what is deep enough is so where it may be less deep
le_both : (m k : ℕ) (shallow : Bool) → m ≤ k → nat_le m (cond shallow (suc k) k) ≡ true
le_both m k true h = le-leb m (suc k) (omega arith)
le_both m k false h = le-leb m k h

module _ (read_key : Bool → List ℕ → Read (Flow × List ℕ)) (read_flow : ℕ → Bool → List ℕ → Read Flow)
    (read_block : ℕ → List ℕ → Read BlockScalar)
    (key_sound : (bol : Bool) (text : List ℕ) (r : (Flow × List ℕ) × List ℕ) → read_key bol text ≡ Some r → KeySound bol text r)
    (key_read : (key : Flow) (gap : List ℕ) (bol : Bool) (rest : List ℕ)
    → canonical_flow key 0 block_key bol (gap ++ (58 ∷ rest)) ≡ true → list_all white gap ≡ true
    → short_key key gap ≡ true → first ns rest ≡ false → read_key bol (flow_text key ++ (gap ++ (58 ∷ rest))) ≡ Some ((key, gap), rest))
    (flow_no_key : (f : Flow) (m : ℕ) (b b' : Bool) (comments : List LineEnd) (after : List ℕ)
    → canonical_flow f m outer b (comments_text comments ++ after) ≡ true
    → canonical_comments false comments after ≡ true → less_deep m after ≡ true
    → read_key b' (flow_text f ++ (comments_text comments ++ after)) ≡ None)
    (flow_read : (f : Flow) (m : ℕ) (b : Bool) (comments : List LineEnd) (after : List ℕ)
    → canonical_flow f m outer b (comments_text comments ++ after) ≡ true
    → canonical_comments false comments after ≡ true → less_deep m after ≡ true
    → read_flow m b (flow_text f ++ (comments_text comments ++ after)) ≡ Some (f, comments_text comments ++ after))
    (block_read : (b : BlockScalar) (m : ℕ) (after : List ℕ) → canonical_block m b after ≡ true
    → read_block m (block_text b ++ after) ≡ Some (b, after)) where
  abbrev opens : Bool → List ℕ → Bool
  opens bol text = opens_pair read_key read_flow read_block bol text

  -- ---- no key

  key_none : (bol : Bool) (text : List ℕ) → ((r : (Flow × List ℕ) × List ℕ) → KeySound bol text r → ⊥)
      → (k : Read (Flow × List ℕ)) → read_key bol text ≡ k → is_some k ≡ false
  key_none bol text f None e = refl
  key_none bol text f (Some r) e = absurd (f r (key_sound bol text r e))

  key_opens : (bol : Bool) (text : List ℕ) (r : (Flow × List ℕ) × List ℕ) → KeySound bol text r → Opens text × (first bar text ≡ false)
  key_opens bol text r s = subst (λ (t : List ℕ). Opens t × (first bar t ≡ false)) (sym s.0)
      (flow_opens r.0.0 0 block_key bol (r.0.1 ++ (58 ∷ r.1)) refl s.1)

  unsolid_no_key : (bol : Bool) (text : List ℕ) → first solid text ≡ false → is_some (read_key bol text) ≡ false
  unsolid_no_key bol text h = key_none bol text (λ r s. false≢true (sym h ∙ (key_opens bol text r s).0.solid_first))
      (read_key bol text) refl

  bar_no_key : (bol : Bool) (text : List ℕ) → first bar text ≡ true → is_some (read_key bol text) ≡ false
  bar_no_key bol text h = key_none bol text (λ r s. false≢true (sym (key_opens bol text r s).1 ∙ h)) (read_key bol text) refl

  unsolid_closed : (bol : Bool) (text : List ℕ) → first solid text ≡ false → opens bol text ≡ false
  unsolid_closed bol text h = or_from _ _ (unsolid_sign 63 text refl h) (unsolid_no_key bol text h)

  -- ---- leaves: flow nodes and block scalars

  record Leaf (text : List ℕ) : Type 0 where
    solid_first : first solid text ≡ true
    no_dash : sign 45 text ≡ false
    closed : (bol : Bool) → opens bol text ≡ false

  -- after white
  lead_dash : (lead rest : List ℕ) → list_all white lead ≡ true → Leaf rest → sign 45 (past_spaces (lead ++ rest)) ≡ false
  lead_dash lead rest w l = elim (lead_past lead rest w l.solid_first) [
    | inl e ↦ subst (λ (t : List ℕ). sign 45 t ≡ false) (sym e) l.no_dash
    | inr e ↦ unsolid_sign 45 (past_spaces (lead ++ rest)) refl e
  ]

  lead_closed : (bol : Bool) (lead rest : List ℕ) → list_all white lead ≡ true → Leaf rest → opens bol (past_spaces (lead ++ rest)) ≡ false
  lead_closed bol lead rest w l = elim (lead_past lead rest w l.solid_first) [
    | inl e ↦ subst (λ (t : List ℕ). opens bol t ≡ false) (sym e) (l.closed bol)
    | inr e ↦ unsolid_closed bol (past_spaces (lead ++ rest)) e
  ]

  abbrev after_with : ℕ → ℕ → Bool → Bool → List LineEnd × List ℕ → Read Node
  after_with fuel m shallow bol c =
      node_below read_key read_flow read_block (λ k rest. read_items read_key read_flow read_block fuel k rest)
      (λ k b rest. read_pairs read_key read_flow read_block fuel k b rest) m shallow bol c

  abbrev leaf : ℕ → Bool → Sep → List ℕ → Read Node
  leaf m bol sep text = leaf_after read_key read_flow read_block m bol sep text

  -- neither items nor pairs, where the lead is white before a leaf
  leaf_lead : (fuel m : ℕ) (shallow bol : Bool) (comments : List LineEnd) (lead rest : List ℕ) → list_all white lead ≡ true → Leaf rest
      → after_with fuel m shallow bol (comments, lead ++ rest)
      ≡ leaf_at read_key read_flow read_block m bol (sep_at m bol comments lead) rest
  leaf_lead fuel m shallow bol comments lead rest w l =
      let s : ℕ = spaces_before (lead ++ rest) in
      let a : (bol || not (is_empty comments)) && sign 45 (past_spaces (lead ++ rest))
      && nat_le m (cond shallow (suc s) s) ≡ false = and_left _ _ (and_right _ _ (lead_dash lead rest w l)) in
      let b : (bol || not (is_empty comments)) && nat_le m s && opens (s == 0) (past_spaces (lead ++ rest)) ≡ false =
      and_right _ _ (lead_closed (s == 0) lead rest w l) in
      rw (
        a,
        b,
        take_while_all white lead rest w (solid_not_white rest l.solid_first),
        drop_while_all white lead rest w (solid_not_white rest l.solid_first),
      )

  node_leaf : (fuel m : ℕ) (shallow bol : Bool) (sep : Sep) (rest : List ℕ) → canonical_sep m false bol sep rest ≡ true → Leaf rest
      → after_with fuel m shallow bol (all_comments bol (sep_text sep ++ rest)) ≡ leaf m bol sep rest
  node_leaf fuel m shallow bol (inline blank) rest h l =
      let p : (list_all white blank ≡ true) × (bol || not (is_empty blank) ≡ true) = and_parts _ _ h in
      ap (after_with fuel m shallow bol) (no_comments bol blank rest p.0 l.solid_first)
      ∙ (leaf_lead fuel m shallow bol [] blank rest p.0 l
      ∙ rw p.1 refl)
  node_leaf fuel m shallow bol (lines [] lead) rest h l = absurd (false≢true h)
  node_leaf fuel m shallow bol (lines (e ∷ es) lead) rest h l =
      let p : (canonical_comments bol (e ∷ es) (lead ++ rest) ≡ true) × (indents m lead ≡ true) = and_parts _ _ h in
      let w : (list_all white lead ≡ true) × (begins (spaces m) lead ≡ true) = and_parts _ _ p.1 in
      let regrouped : sep_text (lines (e ∷ es) lead) ++ rest ≡ comments_text (e ∷ es) ++ (lead ++ rest) = simp append_assoc in
      ap (λ t. after_with fuel m shallow bol (all_comments bol t)) regrouped
      ∙ (ap (after_with fuel m shallow bol) (comments_all bol (e ∷ es) (lead ++ rest) p.0)
      ∙ (leaf_lead fuel m shallow bol (e ∷ es) lead rest w.0 l
      ∙ rw p.1 refl))

  -- ---- a value that is given: not compact, not left out

  record Given (k : ℕ) (shallow : Bool) (text : List ℕ) : Type 0 where
    no_dash : sign 45 (past_spaces text) ≡ false
    closed : opens false (past_spaces text) ≡ false
    given : omits (suc k) shallow (all_comments false text) ≡ false
    apart : first ns text ≡ false

  lines_given : (k : ℕ) (shallow : Bool) (comments : List LineEnd) (rest : List ℕ)
      → canonical_comments false comments rest ≡ true → is_empty rest ≡ false
      → block_node_stops (suc k) shallow rest ≡ false → Given k shallow (comments_text comments ++ rest)
  lines_given k shallow [] rest h e n = absurd (false≢true (sym e ∙ (no_comments_parts false rest h).0))
  lines_given k shallow (c ∷ cs) rest h e n =
      let u : first solid (past_spaces (comments_text (c ∷ cs) ++ rest)) ≡ false = comments_unsolid false c cs rest h in
      record {
        no_dash = unsolid_sign 45 (past_spaces (comments_text (c ∷ cs) ++ rest)) refl u;
        closed = unsolid_closed false (past_spaces (comments_text (c ∷ cs) ++ rest)) u;
        given = ap (omits (suc k) shallow) (comments_all false (c ∷ cs) rest h) ∙ and_right _ _ n;
        apart = comments_no_ns (c ∷ cs) rest h;
      }

  leaf_given : (k : ℕ) (shallow : Bool) (sep : Sep) (rest : List ℕ)
      → canonical_sep (suc k) false false sep rest ≡ true → Leaf rest → Given k shallow (sep_text sep ++ rest)
  leaf_given k shallow (inline []) rest h l = absurd (false≢true h)
  leaf_given k shallow (inline (c ∷ cs)) rest h l =
      let p : (list_all white (c ∷ cs) ≡ true) × (true ≡ true) = and_parts _ _ h in
      record {
        no_dash = lead_dash (c ∷ cs) rest p.0 l;
        closed = lead_closed false (c ∷ cs) rest p.0 l;
        given = ap (omits (suc k) shallow) (no_comments false (c ∷ cs) rest p.0 l.solid_first);
        apart = white_no_ns c (and_parts _ _ p.0).0;
      }
  leaf_given k shallow (lines [] lead) rest h l = absurd (false≢true h)
  leaf_given k shallow (lines (e ∷ es) lead) rest h l =
      let p : (canonical_comments false (e ∷ es) (lead ++ rest) ≡ true) × (indents (suc k) lead ≡ true) = and_parts _ _ h in
      let w : (list_all white lead ≡ true) × (begins (spaces (suc k)) lead ≡ true) = and_parts _ _ p.1 in
      let regrouped : sep_text (lines (e ∷ es) lead) ++ rest ≡ comments_text (e ∷ es) ++ (lead ++ rest) = simp append_assoc in
      subst (Given k shallow) (sym regrouped)
      (lines_given k shallow (e ∷ es) (lead ++ rest) p.0 (append_some lead rest l.solid_first)
      (deep_goes_on k shallow (lead ++ rest) (not_line_end lead rest w.0 l.solid_first)
      (le-leb (suc k) (spaces_before (lead ++ rest)) (lead_deep (suc k) lead rest w.1))))

  flow_leaf : (f : Flow) (m : ℕ) (b shallow : Bool) (comments : List LineEnd) (after : List ℕ)
      → canonical_flow f m outer b (comments_text comments ++ after) ≡ true
      → canonical_comments false comments after ≡ true → block_node_stops m shallow after ≡ true
      → Leaf (flow_text f ++ (comments_text comments ++ after))
  flow_leaf f m b shallow comments after h c e =
      let o : Opens (flow_text f ++ (comments_text comments ++ after)) =
      (flow_opens f m outer b (comments_text comments ++ after) refl h).0 in
      record {
        solid_first = o.solid_first;
        no_dash = o.no_dash;
        closed = λ bol. or_from _ _ o.no_ask (ap is_some
            (flow_no_key f m b bol comments after h c
            (block_node_stops_shallow m shallow after (fits_end false comments after c) e)));
      }

  block_leaf : (b : BlockScalar) (after : List ℕ) → Leaf (block_text b ++ after)
  block_leaf b after =
      let p : (first bar (block_text b ++ after) ≡ true) × (first solid (block_text b ++ after) ≡ true)
      × (sign 45 (block_text b ++ after) ≡ false) × (sign 63 (block_text b ++ after) ≡ false) = block_prefix b after in
      record { solid_first = p.1; no_dash = p.2; closed = λ bol. or_from _ _ p.3 (bar_no_key bol (block_text b ++ after) p.0) }

  -- ---- pairs

  asked_opened : (bol : Bool) (rest : List ℕ) → not (first ns rest) ≡ true → opens bol (63 ∷ rest) ≡ true
  asked_opened bol rest h = or_left (not (first ns rest)) (is_some (read_key bol (63 ∷ rest))) h

  pair_opened : (p : Pair) (k : ℕ) (bol : Bool) (after : List ℕ) → canonical_pair p k bol after ≡ true
      → opens bol (pair_text p k ++ after) ≡ true
  pair_opened (asked key value) k bol after h =
      let rest : List ℕ = spaces k ++ (58 ∷ (indented_text value k ++ after)) in
      let p : (not (first ns (indented_text key k ++ rest)) && not (is_omitted key)
      && canonical_indented key k true rest ≡ true) × (canonical_indented value k true after ≡ true) = and_parts _ _ h in
      let q : (not (first ns (indented_text key k ++ rest)) && not (is_omitted key) ≡ true)
      × (canonical_indented key k true rest ≡ true) = and_parts _ _ p.0 in
      let r : (not (first ns (indented_text key k ++ rest)) ≡ true) × (not (is_omitted key) ≡ true) = and_parts _ _ q.0 in
      let regrouped : pair_text (asked key value) k ++ after ≡ 63 ∷ (indented_text key k ++ rest) = simp append_assoc in
      subst (λ (t : List ℕ). opens bol t ≡ true) (sym regrouped) (asked_opened bol (indented_text key k ++ rest) r.0)
  pair_opened (asked_alone key) k bol after h =
      let p : (not (first ns (indented_text key k ++ after)) && not (is_omitted key) ≡ true)
      × (canonical_indented key k true after ≡ true) = and_parts _ _ h in
      let q : (not (first ns (indented_text key k ++ after)) ≡ true) × (not (is_omitted key) ≡ true) = and_parts _ _ p.0 in
      asked_opened bol (indented_text key k ++ after) q.0
  pair_opened (keyed key gap value) k bol after h =
      let rest : List ℕ = node_text value ++ after in
      let p : KeyParts key gap bol rest × (canonical_node value (suc k) true false after ≡ true) = key_parts key gap bol rest _ h in
      let regrouped : pair_text (keyed key gap value) k ++ after ≡ flow_text key ++ (gap ++ (58 ∷ rest)) = simp append_assoc in
      subst (λ (t : List ℕ). opens bol t ≡ true) (sym regrouped)
      (or_right _ _ (ap is_some (key_read key gap bol rest (p.0).fit (p.0).gap_white (p.0).short
      (node_apart value (suc k) true after p.1))))
  pair_opened (keyed_alone key gap comments) k bol after h =
      let rest : List ℕ = comments_text comments ++ after in
      let p : KeyParts key gap bol rest × (canonical_comments false comments after ≡ true) = key_parts key gap bol rest _ h in
      let regrouped : pair_text (keyed_alone key gap comments) k ++ after ≡ flow_text key ++ (gap ++ (58 ∷ rest)) = simp append_assoc in
      subst (λ (t : List ℕ). opens bol t ≡ true) (sym regrouped)
      (or_right _ _ (ap is_some (key_read key gap bol rest (p.0).fit (p.0).gap_white (p.0).short (comments_no_ns comments after p.1))))

  -- how pairs begin, and that the recognizer takes them for pairs
  record Start (bol : Bool) (text : List ℕ) : Type 0 where
    prefix : Prefix bol text
    opened : opens bol text ≡ true

  pairs_start : (ps : Pairs) (k : ℕ) (bol : Bool) (after : List ℕ) → canonical_pairs ps k bol after ≡ true
      → Start bol (pairs_text ps k ++ after)
  pairs_start (pair p) k bol after h = record { prefix = pairs_prefix (pair p) k bol after h; opened = pair_opened p k bol after h }
  pairs_start (pair_and p ps) k bol after h =
      let rest : List ℕ = spaces k ++ (pairs_text ps k ++ after) in
      let regrouped : pairs_text (pair_and p ps) k ++ after ≡ pair_text p k ++ rest = simp append_assoc in
      record {
        prefix = pairs_prefix (pair_and p ps) k bol after h;
        opened = subst (λ (t : List ℕ). opens bol t ≡ true) (sym regrouped) (pair_opened p k bol rest (and_parts _ _ h).0);
      }

  -- ---- a node that is given

  node_given : (n : Node) (k : ℕ) (shallow : Bool) (after : List ℕ)
      → canonical_node n (suc k) shallow false after ≡ true → block_node_stops (suc k) shallow after ≡ true
      → Given k shallow (node_text n ++ after)
  node_given (block sep b) k shallow after h e =
      subst (Given k shallow) (sym (append_assoc (sep_text sep) (block_text b) after))
      (leaf_given k shallow sep (block_text b ++ after) (and_parts _ _ h).0 (block_leaf b after))
  node_given (flow sep f comments) k shallow after h e =
      let rest : List ℕ = flow_text f ++ (comments_text comments ++ after) in
      let p : (canonical_sep (suc k) false false sep rest
      && canonical_flow f (suc k) outer (starts_line false (sep_text sep)) (comments_text comments ++ after)
      ≡ true) × (canonical_comments false comments after ≡ true) = and_parts _ _ h in
      let q : (canonical_sep (suc k) false false sep rest ≡ true)
      × (canonical_flow f (suc k) outer (starts_line false (sep_text sep)) (comments_text comments ++ after)
      ≡ true) = and_parts _ _ p.0 in
      let regrouped : node_text (flow sep f comments) ++ after ≡ sep_text sep ++ rest = simp append_assoc in
      subst (Given k shallow) (sym regrouped) (leaf_given k shallow sep rest q.0 (flow_leaf f (suc k) _ shallow comments after q.1 p.1 e))
  node_given (items comments j is) k shallow after h e =
      let rest : List ℕ = items_text is j ++ after in
      let p : (canonical_comments false comments (spaces j ++ rest) && nat_le (suc k) (cond shallow (suc j) j) ≡ true)
      × (canonical_items is j after ≡ true) = and_parts _ _ h in
      let q : (canonical_comments false comments (spaces j ++ rest) ≡ true)
      × (nat_le (suc k) (cond shallow (suc j) j) ≡ true) = and_parts _ _ p.0 in
      let regrouped : node_text (items comments j is) ++ after ≡ comments_text comments ++ (spaces j ++ rest) = simp append_assoc in
      let s : sign 45 rest ≡ true = items_start is j after p.1 in
      subst (Given k shallow) (sym regrouped) (lines_given k shallow comments (spaces j ++ rest) q.0
      (solid_some j rest (dash_solid rest s)) (dash_goes_on k j shallow rest s q.1))
  node_given (pairs comments j ps) k shallow after h e =
      let rest : List ℕ = pairs_text ps j ++ after in
      let p : (canonical_comments false comments (spaces j ++ rest) && nat_le (suc k) j ≡ true)
      × (canonical_pairs ps j (j == 0) after ≡ true) = and_parts _ _ h in
      let q : (canonical_comments false comments (spaces j ++ rest) ≡ true) × (nat_le (suc k) j ≡ true) = and_parts _ _ p.0 in
      let regrouped : node_text (pairs comments j ps) ++ after ≡ comments_text comments ++ (spaces j ++ rest) = simp append_assoc in
      let s : first solid rest ≡ true = (pairs_prefix ps j (j == 0) after p.1).solid_first in
      subst (Given k shallow) (sym regrouped)
      (lines_given k shallow comments (spaces j ++ rest) q.0 (solid_some j rest s)
      (deep_goes_on k shallow (spaces j ++ rest) (fits_end false comments (spaces j ++ rest) q.0)
      (subst (λ (x : ℕ). nat_le (suc k) x ≡ true) (sym (spaces_counted j rest (solid_space rest s))) q.1)))

  -- ---- steps of the recognizer

  abbrev node_at : ℕ → ℕ → Bool → Bool → List ℕ → Read Node
  node_at fuel m shallow bol text = read_node read_key read_flow read_block fuel m shallow bol text

  abbrev items_at : ℕ → ℕ → List ℕ → Read Items
  items_at fuel k text = read_items read_key read_flow read_block fuel k text

  abbrev pairs_at : ℕ → ℕ → Bool → List ℕ → Read Pairs
  pairs_at fuel k bol text = read_pairs read_key read_flow read_block fuel k bol text

  abbrev pair_at : ℕ → ℕ → Bool → List ℕ → Read Pair
  pair_at fuel k bol text = read_pair read_key read_flow read_block fuel k bol text

  abbrev indented_at : ℕ → ℕ → Bool → List ℕ → Read Indented
  indented_at fuel k shallow text = read_indented read_key read_flow read_block fuel k shallow text

  after_items : (fuel m k : ℕ) (shallow bol : Bool) (comments : List LineEnd) (rest : List ℕ)
      → bol || not (is_empty comments) ≡ true → sign 45 rest ≡ true
      → nat_le m (cond shallow (suc k) k) ≡ true
      → after_with fuel m shallow bol (comments, spaces k ++ rest)
      ≡ on (items_at fuel k rest) (λ is rest'. Some (items comments k is, rest'))
  after_items fuel m k shallow bol comments rest b s l =
      let f : first space rest ≡ false = solid_space rest (dash_solid rest s) in
      rw (spaces_counted k rest f, spaces_passed k rest f, b, s, l) refl

  after_pairs : (fuel m k : ℕ) (shallow bol : Bool) (comments : List LineEnd) (rest : List ℕ)
      → bol || not (is_empty comments) ≡ true → Start (k == 0) rest
      → nat_le m k ≡ true
      → after_with fuel m shallow bol (comments, spaces k ++ rest)
      ≡ on (pairs_at fuel k (k == 0) rest) (λ ps rest'. Some (pairs comments k ps, rest'))
  after_pairs fuel m k shallow bol comments rest b s l =
      let f : first space rest ≡ false = solid_space rest s.prefix.solid_first in
      let d : sign 45 rest ≡ false = s.prefix.no_dash in
      let o : opens (k == 0) rest ≡ true = s.opened in
      rw (spaces_counted k rest f, spaces_passed k rest f, b, d, l, o) refl

  compact_items_step : (fuel k m : ℕ) (shallow : Bool) (rest : List ℕ) → nat_le 1 m ≡ true → sign 45 rest ≡ true
      → indented_at (suc fuel) k shallow (spaces m ++ rest)
      ≡ on (items_at fuel (k + 1 + m) rest) (λ is rest'. Some (compact_items m is, rest'))
  unfolding read_node
  compact_items_step fuel k m shallow rest l s =
      let f : first space rest ≡ false = solid_space rest (dash_solid rest s) in
      rw (spaces_counted m rest f, spaces_passed m rest f, l, s) refl

  compact_pairs_step : (fuel k m : ℕ) (shallow : Bool) (rest : List ℕ) → nat_le 1 m ≡ true → Start false rest
      → indented_at (suc fuel) k shallow (spaces m ++ rest)
      ≡ on (pairs_at fuel (k + 1 + m) false rest) (λ ps rest'. Some (compact_pairs m ps, rest'))
  unfolding read_node
  compact_pairs_step fuel k m shallow rest l s =
      let f : first space rest ≡ false = solid_space rest s.prefix.solid_first in
      let d : sign 45 rest ≡ false = s.prefix.no_dash in
      let o : opens false rest ≡ true = s.opened in
      rw (spaces_counted m rest f, spaces_passed m rest f, l, d, o) refl

  given_step : (fuel k : ℕ) (shallow : Bool) (text : List ℕ) → Given k shallow text
      → indented_at (suc fuel) k shallow text ≡ on (node_at fuel (suc k) shallow false text) (λ n rest'. Some (node n, rest'))
  unfolding read_node
  given_step fuel k shallow text g =
      let a : nat_le 1 (spaces_before text) && sign 45 (past_spaces text) ≡ false = and_right _ _ g.no_dash in
      let b : nat_le 1 (spaces_before text) && opens false (past_spaces text) ≡ false = and_right _ _ g.closed in
      let c : omits (suc k) shallow (all_comments false text) ≡ false = g.given in
      rw (a, b, c) refl

  omitted_step : (fuel k : ℕ) (shallow : Bool) (comments : List LineEnd) (after : List ℕ)
      → canonical_comments false comments after ≡ true → block_node_stops (suc k) shallow after ≡ true
      → indented_at (suc fuel) k shallow (comments_text comments ++ after) ≡ Some (omitted comments, after)
  unfolding read_node
  omitted_step fuel k shallow comments after h e =
      let text : List ℕ = comments_text comments ++ after in
      let u : first solid (past_spaces text) ≡ false = comments_closed comments after h in
      let a : nat_le 1 (spaces_before text) && sign 45 (past_spaces text) ≡ false =
      and_right _ _ (unsolid_sign 45 (past_spaces text) refl u) in
      let b : nat_le 1 (spaces_before text) && opens false (past_spaces text) ≡ false =
      and_right _ _ (unsolid_closed false (past_spaces text) u) in
      let o : omits (suc k) shallow (comments, after) ≡ true = and_from _ _ (closes comments after h) e in
      rw (a, b, comments_all false comments after h, o) refl

  -- the next line has a pair
  pairs_go : (k : ℕ) (rest : List ℕ) → Start (k == 0) rest
      → (spaces_before (spaces k ++ rest) == k) && not (block_node_stops k false (spaces k ++ rest)) ≡ true
  pairs_go k rest s =
      and_from _ _ (eq-eqb (spaces_before (spaces k ++ rest)) k (spaces_counted k rest (solid_space rest s.prefix.solid_first)))
      (not_from_false _ (not_ended k k false rest s.prefix.solid_first (λ e. s.prefix.unmarked (eq-eqb k 0 e))
      (and_left _ _ (le-ltb k k (omega arith)))))

  -- ---- what fits is read

  mutual
    unfolding read_node node_size

    -- a node that fits is read whole, given levels enough
    pub node_read : (n : Node) (fuel m : ℕ) (shallow bol : Bool) (after : List ℕ) → node_size n ≤ fuel
        → canonical_node n m shallow bol after ≡ true → block_node_stops m shallow after ≡ true
        → node_at fuel m shallow bol (node_text n ++ after) ≡ Some (n, after)
    node_read (block sep b) zero m shallow bol after z h e = absurd (omega arith)
    node_read (flow sep f comments) zero m shallow bol after z h e = absurd (omega arith)
    node_read (items comments k is) zero m shallow bol after z h e = absurd (omega arith)
    node_read (pairs comments k ps) zero m shallow bol after z h e = absurd (omega arith)
    node_read (block sep b) (suc fuel) m shallow bol after z h e =
        let rest : List ℕ = block_text b ++ after in
        let p : (canonical_sep m false bol sep rest ≡ true) × (canonical_block m b after ≡ true) = and_parts _ _ h in
        let q : first bar rest ≡ true = (block_prefix b after).0 in
        ap (node_at (suc fuel) m shallow bol) (append_assoc (sep_text sep) (block_text b) after)
        ∙ (node_leaf fuel m shallow bol sep rest p.0 (block_leaf b after)
        ∙ (rw q refl
        ∙ ap (λ r. on r (λ b' rest'. Some (block sep b', rest'))) (block_read b m after p.1)))
    node_read (flow sep f comments) (suc fuel) m shallow bol after z h e =
        let more : List ℕ = comments_text comments ++ after in
        let rest : List ℕ = flow_text f ++ more in
        let p : (canonical_sep m false bol sep rest && canonical_flow f m outer (starts_line bol (sep_text sep)) more
        ≡ true) × (canonical_comments false comments after ≡ true) = and_parts _ _ h in
        let q : (canonical_sep m false bol sep rest ≡ true)
        × (canonical_flow f m outer (starts_line bol (sep_text sep)) more ≡ true) = and_parts _ _ p.0 in
        let s : less_deep m after ≡ true = block_node_stops_shallow m shallow after (fits_end false comments after p.1) e in
        let b : first bar rest ≡ false = (flow_opens f m outer (starts_line bol (sep_text sep)) more refl q.1).1 in
        let c : (not (is_empty comments) || is_empty after) && not (is_line_end after) ≡ true = closes comments after p.1 in
        let regrouped : node_text (flow sep f comments) ++ after ≡ sep_text sep ++ rest = simp append_assoc in
        ap (node_at (suc fuel) m shallow bol) regrouped
        ∙ (node_leaf fuel m shallow bol sep rest q.0 (flow_leaf f m _ shallow comments after q.1 p.1 e)
        ∙ (rw b refl
        ∙ (ap (λ r. on r (λ f' rest'. flow_with sep f' (all_comments false rest')))
        (flow_read f m (starts_line bol (sep_text sep)) comments after q.1 p.1 s)
        ∙ (ap (flow_with sep f) (comments_all false comments after p.1)
        ∙ rw c refl))))
    node_read (items comments k is) (suc fuel) m shallow bol after z h e =
        let rest : List ℕ = items_text is k ++ after in
        let p : (canonical_comments bol comments (spaces k ++ rest) && nat_le m (cond shallow (suc k) k) ≡ true)
        × (canonical_items is k after ≡ true) = and_parts _ _ h in
        let q : (canonical_comments bol comments (spaces k ++ rest) ≡ true)
        × (nat_le m (cond shallow (suc k) k) ≡ true) = and_parts _ _ p.0 in
        let s : sign 45 rest ≡ true = items_start is k after p.1 in
        let regrouped : node_text (items comments k is) ++ after ≡ comments_text comments ++ (spaces k ++ rest) = simp append_assoc in
        ap (node_at (suc fuel) m shallow bol) regrouped
        ∙ (ap (after_with fuel m shallow bol) (comments_all bol comments (spaces k ++ rest) q.0)
        ∙ (after_items fuel m k shallow bol comments rest
        (at_line bol comments (spaces k ++ rest) q.0 (solid_some k rest (dash_solid rest s))) s q.1
        ∙ ap (λ r. on r (λ is' rest'. Some (items comments k is', rest')))
        (items_read is fuel k after (omega arith) p.1 (block_node_stops_items m k shallow after q.1 e))))
    node_read (pairs comments k ps) (suc fuel) m shallow bol after z h e =
        let rest : List ℕ = pairs_text ps k ++ after in
        let p : (canonical_comments bol comments (spaces k ++ rest) && nat_le m k ≡ true)
        × (canonical_pairs ps k (k == 0) after ≡ true) = and_parts _ _ h in
        let q : (canonical_comments bol comments (spaces k ++ rest) ≡ true) × (nat_le m k ≡ true) = and_parts _ _ p.0 in
        let s : Start (k == 0) rest = pairs_start ps k (k == 0) after p.1 in
        let regrouped : node_text (pairs comments k ps) ++ after ≡ comments_text comments ++ (spaces k ++ rest) = simp append_assoc in
        ap (node_at (suc fuel) m shallow bol) regrouped
        ∙ (ap (after_with fuel m shallow bol) (comments_all bol comments (spaces k ++ rest) q.0)
        ∙ (after_pairs fuel m k shallow bol comments rest
        (at_line bol comments (spaces k ++ rest) q.0 (solid_some k rest s.prefix.solid_first)) s q.1
        ∙ ap (λ r. on r (λ ps' rest'. Some (pairs comments k ps', rest')))
        (pairs_read ps fuel k (k == 0) after (omega arith) p.1 (block_node_stops_pairs m k shallow after q.1 e))))

    items_read : (is : Items) (fuel k : ℕ) (after : List ℕ) → items_size is ≤ fuel → canonical_items is k after ≡ true
        → block_node_stops (suc k) true after ≡ true
        → items_at fuel k (items_text is k ++ after) ≡ Some (is, after)
    items_read (item i) zero k after z h e = absurd (omega arith)
    items_read (item_and i is) zero k after z h e = absurd (omega arith)
    items_read (item i) (suc fuel) k after z h e =
        let p : (not (first ns (indented_text i k ++ after)) ≡ true) × (canonical_indented i k false after ≡ true) = and_parts _ _ h in
        rw p.0 refl
        ∙ (ap (λ r. on r (λ i' rest'. more_items k (λ t. items_at fuel k t) i' rest'))
        (indented_read i fuel k false after (omega arith) p.1 (block_node_stops_last k after e))
        ∙ rw (items_stop k after e) refl)
    items_read (item_and i is) (suc fuel) k after z h e =
        let next : List ℕ = items_text is k ++ after in
        let rest : List ℕ = spaces k ++ next in
        let p : (not (first ns (indented_text i k ++ rest)) && canonical_indented i k false rest ≡ true)
        × (canonical_items is k after ≡ true) = and_parts _ _ h in
        let q : (not (first ns (indented_text i k ++ rest)) ≡ true) × (canonical_indented i k false rest ≡ true) = and_parts _ _ p.0 in
        let s : sign 45 next ≡ true = items_start is k after p.1 in
        let f : first space next ≡ false = solid_space next (dash_solid next s) in
        let regrouped : items_text (item_and i is) k ++ after ≡ 45 ∷ (indented_text i k ++ rest) = simp append_assoc in
        ap (items_at (suc fuel) k) regrouped
        ∙ (rw q.0 refl
        ∙ (ap (λ r. on r (λ i' rest'. more_items k (λ t. items_at fuel k t) i' rest'))
        (indented_read i fuel k false rest (omega arith) q.1 (block_node_stops_at k false next f refl))
        ∙ (rw (spaces_counted k next f, spaces_passed k next f, eq-eqb k k refl, s) refl
        ∙ ap (λ r. on r (λ is' rest'. Some (item_and i is', rest'))) (items_read is fuel k after (omega arith) p.1 e))))

    pairs_read : (ps : Pairs) (fuel k : ℕ) (bol : Bool) (after : List ℕ) → pairs_size ps ≤ fuel
        → canonical_pairs ps k bol after ≡ true → block_node_stops k false after ≡ true
        → pairs_at fuel k bol (pairs_text ps k ++ after) ≡ Some (ps, after)
    pairs_read (pair p) zero k bol after z h e = absurd (omega arith)
    pairs_read (pair_and p ps) zero k bol after z h e = absurd (omega arith)
    pairs_read (pair p) (suc fuel) k bol after z h e =
        let stop : (spaces_before after == k) && not (block_node_stops k false after) ≡ false = and_right _ _ (not_from_true _ e) in
        ap (λ r. on r (λ p' rest'. more_pairs k (λ t. pairs_at fuel k (k == 0) t) p' rest'))
        (pair_read p fuel k bol after (omega arith) h (block_node_stops_value k after e) (colon_stop k after e))
        ∙ rw stop refl
    pairs_read (pair_and p ps) (suc fuel) k bol after z h e =
        let next : List ℕ = pairs_text ps k ++ after in
        let rest : List ℕ = spaces k ++ next in
        let q : (canonical_pair p k bol rest ≡ true) × (canonical_pairs ps k (k == 0) after ≡ true) = and_parts _ _ h in
        let s : Start (k == 0) next = pairs_start ps k (k == 0) after q.1 in
        let f : first space next ≡ false = solid_space next s.prefix.solid_first in
        let colon : (spaces_before rest == k) && sign 58 (past_spaces rest) ≡ false =
        and_right _ _ (subst (λ (t : List ℕ). sign 58 t ≡ false) (sym (spaces_passed k next f)) s.prefix.no_colon) in
        let go : (spaces_before rest == k) && not (block_node_stops k false rest) ≡ true = pairs_go k next s in
        let regrouped : pairs_text (pair_and p ps) k ++ after ≡ pair_text p k ++ rest = simp append_assoc in
        ap (pairs_at (suc fuel) k bol) regrouped
        ∙ (ap (λ r. on r (λ p' rest'. more_pairs k (λ t. pairs_at fuel k (k == 0) t) p' rest'))
        (pair_read p fuel k bol rest (omega arith) q.0 (block_node_stops_at k true next f s.prefix.no_dash) colon)
        ∙ (rw go (rw (spaces_passed k next f) refl)
        ∙ ap (λ r. on r (λ ps' rest'. Some (pair_and p ps', rest'))) (pairs_read ps fuel k (k == 0) after (omega arith) q.1 e)))

    pair_read : (p : Pair) (fuel k : ℕ) (bol : Bool) (after : List ℕ) → pair_size p ≤ fuel
        → canonical_pair p k bol after ≡ true → block_node_stops (suc k) true after ≡ true
        → (spaces_before after == k) && sign 58 (past_spaces after) ≡ false → pair_at fuel k bol (pair_text p k ++ after) ≡ Some (p, after)
    pair_read (asked key value) zero k bol after z h e c = absurd (omega arith)
    pair_read (asked_alone key) zero k bol after z h e c = absurd (omega arith)
    pair_read (keyed key gap value) zero k bol after z h e c = absurd (omega arith)
    pair_read (keyed_alone key gap comments) zero k bol after z h e c = absurd (omega arith)
    pair_read (asked key value) (suc fuel) k bol after z h e c =
        let last : List ℕ = indented_text value k ++ after in
        let rest : List ℕ = spaces k ++ (58 ∷ last) in
        let p : (not (first ns (indented_text key k ++ rest)) && not (is_omitted key)
        && canonical_indented key k true rest ≡ true) × (canonical_indented value k true after ≡ true) = and_parts _ _ h in
        let q : (not (first ns (indented_text key k ++ rest)) && not (is_omitted key) ≡ true)
        × (canonical_indented key k true rest ≡ true) = and_parts _ _ p.0 in
        let r : (not (first ns (indented_text key k ++ rest)) ≡ true) × (not (is_omitted key) ≡ true) = and_parts _ _ q.0 in
        let a : not (first ns last) ≡ true = not_from_false _ (indented_apart value k true after p.1) in
        let regrouped : pair_text (asked key value) k ++ after ≡ 63 ∷ (indented_text key k ++ rest) = simp append_assoc in
        ap (pair_at (suc fuel) k bol) regrouped
        ∙ (rw r.0 refl
        ∙ (ap (λ x. on x (λ key' rest'. asked_key k (λ t. indented_at fuel k true t) key' rest'))
        (indented_read key fuel k true rest (omega arith) q.1 (block_node_stops_at k true (58 ∷ last) refl refl))
        ∙ (rw (not-true _ r.1, spaces_counted k (58 ∷ last) refl, spaces_passed k (58 ∷ last) refl, eq-eqb k k refl, a) refl
        ∙ ap (λ x. on x (λ value' rest'. Some (asked key value', rest'))) (indented_read value fuel k true after (omega arith) p.1 e))))
    pair_read (asked_alone key) (suc fuel) k bol after z h e c =
        let p : (not (first ns (indented_text key k ++ after)) && not (is_omitted key) ≡ true)
        × (canonical_indented key k true after ≡ true) = and_parts _ _ h in
        let q : (not (first ns (indented_text key k ++ after)) ≡ true) × (not (is_omitted key) ≡ true) = and_parts _ _ p.0 in
        rw q.0 refl
        ∙ (ap (λ x. on x (λ key' rest'. asked_key k (λ t. indented_at fuel k true t) key' rest'))
        (indented_read key fuel k true after (omega arith) p.1 e)
        ∙ rw (not-true _ q.1, c) refl)
    pair_read (keyed key gap value) (suc fuel) k bol after z h e c =
        let rest : List ℕ = node_text value ++ after in
        let p : KeyParts key gap bol rest × (canonical_node value (suc k) true false after ≡ true) = key_parts key gap bol rest _ h in
        let g : Given k true rest = node_given value k true after p.1 e in
        let o : omits (suc k) true (all_comments false rest) ≡ false = g.given in
        let ask : sign 63 (flow_text key ++ (gap ++ (58 ∷ rest))) ≡ false =
        (flow_opens key 0 block_key bol (gap ++ (58 ∷ rest)) refl (p.0).fit).0.no_ask in
        let regrouped : pair_text (keyed key gap value) k ++ after ≡ flow_text key ++ (gap ++ (58 ∷ rest)) = simp append_assoc in
        ap (pair_at (suc fuel) k bol) regrouped
        ∙ (rw ask refl
        ∙ (ap (λ x. on x (λ key' rest'. key_value k (λ t. node_at fuel (suc k) true false t) key' rest'
        (all_comments false rest'))) (key_read key gap bol rest (p.0).fit (p.0).gap_white (p.0).short g.apart)
        ∙ (rw o refl
        ∙ ap (λ x. on x (λ n rest'. Some (keyed key gap n, rest'))) (node_read value fuel (suc k) true false after (omega arith) p.1 e))))
    pair_read (keyed_alone key gap comments) (suc fuel) k bol after z h e c =
        let rest : List ℕ = comments_text comments ++ after in
        let p : KeyParts key gap bol rest × (canonical_comments false comments after ≡ true) = key_parts key gap bol rest _ h in
        let o : omits (suc k) true (comments, after) ≡ true = and_from _ _ (closes comments after p.1) e in
        let ask : sign 63 (flow_text key ++ (gap ++ (58 ∷ rest))) ≡ false =
        (flow_opens key 0 block_key bol (gap ++ (58 ∷ rest)) refl (p.0).fit).0.no_ask in
        let regrouped : pair_text (keyed_alone key gap comments) k ++ after ≡ flow_text key ++ (gap ++ (58 ∷ rest)) = simp append_assoc in
        ap (pair_at (suc fuel) k bol) regrouped
        ∙ (rw ask refl
        ∙ (ap (λ x. on x (λ key' rest'. key_value k (λ t. node_at fuel (suc k) true false t) key' rest'
        (all_comments false rest'))) (key_read key gap bol rest (p.0).fit (p.0).gap_white (p.0).short
        (comments_no_ns comments after p.1))
        ∙ (ap (key_value k (λ t. node_at fuel (suc k) true false t) (key, gap) rest) (comments_all false comments after p.1)
        ∙ rw o refl)))

    indented_read : (i : Indented) (fuel k : ℕ) (shallow : Bool) (after : List ℕ) → indented_size i ≤ fuel
        → canonical_indented i k shallow after ≡ true → block_node_stops (suc k) shallow after ≡ true
        → indented_at fuel k shallow (indented_text i k ++ after) ≡ Some (i, after)
    indented_read (compact_items m is) zero k shallow after z h e = absurd (omega arith)
    indented_read (compact_pairs m ps) zero k shallow after z h e = absurd (omega arith)
    indented_read (node n) zero k shallow after z h e = absurd (omega arith)
    indented_read (omitted comments) zero k shallow after z h e = absurd (omega arith)
    indented_read (compact_items m is) (suc fuel) k shallow after z h e =
        let rest : List ℕ = items_text is (k + 1 + m) ++ after in
        let p : (nat_le 1 m ≡ true) × (canonical_items is (k + 1 + m) after ≡ true) = and_parts _ _ h in
        let l : suc k ≤ k + 1 + m = omega arith in
        ap (indented_at (suc fuel) k shallow) (append_assoc (spaces m) (items_text is (k + 1 + m)) after)
        ∙ (compact_items_step fuel k m shallow rest p.0 (items_start is (k + 1 + m) after p.1)
        ∙ ap (λ r. on r (λ is' rest'. Some (compact_items m is', rest')))
        (items_read is fuel (k + 1 + m) after (omega arith) p.1
        (block_node_stops_items (suc k) (k + 1 + m) shallow after (le_both (suc k) (k + 1 + m) shallow l) e)))
    indented_read (compact_pairs m ps) (suc fuel) k shallow after z h e =
        let rest : List ℕ = pairs_text ps (k + 1 + m) ++ after in
        let p : (nat_le 1 m ≡ true) × (canonical_pairs ps (k + 1 + m) false after ≡ true) = and_parts _ _ h in
        let l : suc k ≤ k + 1 + m = omega arith in
        ap (indented_at (suc fuel) k shallow) (append_assoc (spaces m) (pairs_text ps (k + 1 + m)) after)
        ∙ (compact_pairs_step fuel k m shallow rest p.0 (pairs_start ps (k + 1 + m) false after p.1)
        ∙ ap (λ r. on r (λ ps' rest'. Some (compact_pairs m ps', rest')))
        (pairs_read ps fuel (k + 1 + m) false after (omega arith) p.1
        (block_node_stops_pairs (suc k) (k + 1 + m) shallow after (le-leb (suc k) (k + 1 + m) l) e)))
    indented_read (node n) (suc fuel) k shallow after z h e =
        given_step fuel k shallow (node_text n ++ after) (node_given n k shallow after h e)
        ∙ ap (λ r. on r (λ n' rest'. Some (node n', rest'))) (node_read n fuel (suc k) shallow false after (omega arith) h e)
    indented_read (omitted comments) (suc fuel) k shallow after z h e = omitted_step fuel k shallow comments after h e
