-- Each node of a presentation that fits is whole at its place: what comes after it ends it.
use Rattle.std.{proofs.Common.{ap, append-nil, append_assoc, arith, inl, inr, refl, subst, sym, ◌∙◌, ◌≡◌}, specs.Prelude.{All, Bool, List}}
use Rattle.std.specs.Prelude.{None, Option, Some, [], cond, false, flat_map, if◌then◌else◌, is_some, nat_le, not, suc, true, ℕ, ◌&&◌, ◌++◌}
use Rattle.std.specs.Prelude.{◌+◌, ◌==◌, ◌||◌, ◌∷◌}
use Rattle.yaml_recognizers.proofs.Prelude.{and_parts, cases_Bool, false≢true, le-leb, not_from_false, All-append, All-cons, All-nil, ns}
use Rattle.yaml_recognizers.proofs.Prelude.{white, Indented, Items, Node, Pair, Pairs, asked, asked_alone, block, compact_items}
use Rattle.yaml_recognizers.proofs.Prelude.{compact_pairs, flow, indented_fits, indented_text, is_omitted, item, item_and, items, items_fit}
use Rattle.yaml_recognizers.proofs.Prelude.{items_text, keyed, keyed_alone, node, node_fits, node_text, omitted, pair, pair_and, pair_fits}
use Rattle.yaml_recognizers.proofs.Prelude.{pair_text, pairs, pairs_fit, pairs_text, Entries, Entry, Flow, Value, absent, before_colon}
use Rattle.yaml_recognizers.proofs.Prelude.{empty, entries_fit, entries_text, entry, entry_fits, entry_text, flow_fits, flow_text, given}
use Rattle.yaml_recognizers.proofs.Prelude.{is_plain, last, map, next, none, scalar, seq, short_key, single_pair, value_fits, value_text}
use Rattle.yaml_recognizers.proofs.Prelude.{asked_text, FlowContext, block_key, flow_key, inner, in_flow, one_line, outer, LineEnd, Sep}
use Rattle.yaml_recognizers.proofs.Prelude.{comments_fit, comments_text, gap_fits, gap_text, sep_fits, sep_text, Document, Explicit, Part}
use Rattle.yaml_recognizers.proofs.Prelude.{Stream, bare, content, directed, directive_text, document_fits, document_text, explicit}
use Rattle.yaml_recognizers.proofs.Prelude.{explicit_fits, fits, further, line, nothing, optional_document_fits, part_fits, part_text}
use Rattle.yaml_recognizers.proofs.Prelude.{parts_fit, parts_text, suffix_text, suffixes, list_all, byte_len, first, optional, spaces}
use Rattle.yaml_recognizers.proofs.{Prelude.starts_line, Separation.{CommentsComplete.not_line_end, LineEnds.comments_no_ns}}
use Rattle.yaml_recognizers.proofs.Separation.CommentsForm.{comments_form_fit, gap_form, gap_form_fits, gap_form_text, joined_before}
use Rattle.yaml_recognizers.proofs.{Documents.DocumentEnds.parts_end, Flow.{FlowNodesFound.ends_here, FlowNodesComplete.closing_solid}}
use Rattle.yaml_recognizers.proofs.Flow.FlowNodesComplete.{closing_stop, in_flow_between_brackets, value_either, value_stop}
use Rattle.yaml_recognizers.proofs.{Flow.FlowNodesForm.{value_form, value_form_fits, value_form_text}, Basics.Prefixes.every_space}
use Rattle.yaml_recognizers.proofs.{Basics.Solid.solid_space, Block.BlockNodesBegin.{Prefix, node_apart, pairs_prefix}}
use Rattle.yaml_recognizers.proofs.Block.BlockNodesEnd.{block_node_stops_at, block_node_stops_items, block_node_stops_last}
use Rattle.yaml_recognizers.proofs.Block.BlockNodesEnd.{block_node_stops_pairs, block_node_stops_shallow, block_node_stops_value}
use Rattle.yaml_recognizers.proofs.Block.BlockNodesForm.{node_before, node_form, node_form_fits, node_open, pairs_form, pairs_form_fit}
use Rattle.yaml_recognizers.proofs.{Block.BlockNodesForm.{pairs_form_text, pairs_open}, BlockScalars.BlockScalarsForm.{takes, takes_not}}
use Rattle.yaml_recognizers.specs.{CanonicalFlowNodes.canonical_value, CanonicalComments.canonical_comments, Prefixes.sign}
use Rattle.yaml_recognizers.specs.{Recognizers.flow_node_stops, StandingNodes.EndsNode, CanonicalBlockNodes.canonical_node}
use Rattle.yaml_recognizers.specs.{CanonicalBlockNodes.canonical_pairs, Ends.{BetweenBrackets, Stops, closing, block_node_stops}}
use Rattle.yaml_recognizers.specs.{Ends.{between_brackets, solid}, NodePlaces.{NodePlace, NodeStands, block_at, document_places}}
use Rattle.yaml_recognizers.specs.NodePlaces.{entries_places, entry_places, explicit_places, flow_at, flow_places, indented_places}
use Rattle.yaml_recognizers.specs.NodePlaces.{items_places, node_places, optional_document_places, pair_places, pairs_places, part_places}
use Rattle.yaml_recognizers.specs.NodePlaces.{parts_places, stream_places, value_places}

-- each of the nodes stands at its place
abbrev Each : List NodePlace → Type 0
Each places = All NodeStands places

-- nodes of two lists stand
both : (xs ys : List NodePlace) → Each xs → Each ys → Each (xs ++ ys)
both xs ys h k = All-append NodeStands xs ys h k

-- a node and others stand
first_and : (x : NodePlace) (xs : List NodePlace) → NodeStands x → Each xs → Each (x ∷ xs)
first_and x xs h k = All-cons NodeStands x xs h k

-- a node stands
alone : (x : NodePlace) → NodeStands x → Each (x ∷ [])
alone x h = first_and x [] h (All-nil NodeStands)

-- ---- between brackets

-- what ends a node between brackets ends it as a key too
between_key : (d : FlowContext) (after_plain : Bool) (after : List ℕ) → BetweenBrackets d after_plain after
    → BetweenBrackets flow_key after_plain after
between_key outer after_plain after b = absurd (false≢true b.within)
between_key inner after_plain after b = record { within = refl; gap = b.gap; rest = b.rest; is = b.is; fits = b.fits; stop = b.stop }
between_key block_key after_plain after b = absurd (false≢true b.within)
between_key flow_key after_plain after b = b

-- what comes after a value ends it
value_ends : (v : Value) (n : ℕ) (d : FlowContext) (alike after_plain : Bool) (gap : Option Sep) (rest : List ℕ)
    → between_brackets d ≡ true → first closing rest ≡ true
    → gap_fits n (one_line d) gap rest ≡ true → value_fits v n d (one_line d || alike) after_plain (gap_text gap ++ rest) ≡ true
    → BetweenBrackets d after_plain (value_text v ++ (gap_text gap ++ rest))
value_ends v n d alike after_plain gap rest i k g h =
    let own : canonical_value (value_form v) n d (one_line d) after_plain (gap_text gap ++ rest) ≡ true =
    value_either (value_form v) n d (one_line d) alike after_plain (gap_text gap ++ rest)
    (value_form_fits v n d (one_line d || alike) after_plain (gap_text gap ++ rest) h) in
    let before : canonical_value (value_form v) n d (one_line d) after_plain (gap_text (gap_form gap) ++ rest) ≡ true =
    subst (λ (t : List ℕ). canonical_value (value_form v) n d (one_line d) after_plain (t ++ rest) ≡ true) (sym (gap_form_text gap)) own in
    let s : BetweenBrackets d after_plain (value_text (value_form v) ++ (gap_text (gap_form gap) ++ rest)) =
    value_stop (value_form v) n d after_plain (gap_form gap) rest i k
    (gap_form_fits n (one_line d) gap rest g (closing_solid rest k)) before in
    subst (λ (t : List ℕ). BetweenBrackets d after_plain (t ++ (gap_text gap ++ rest))) (value_form_text v)
    (subst (λ (t : List ℕ). BetweenBrackets d after_plain (value_text (value_form v) ++ (t ++ rest))) (gap_form_text gap) s)

-- what comes after an entry ends it
entry_ends : (n : ℕ) (d : FlowContext) (after_plain : Bool) (gap : Option Sep) (rest : List ℕ)
    → between_brackets d ≡ true → first closing rest ≡ true
    → gap_fits n (one_line d) gap rest ≡ true → BetweenBrackets d after_plain (gap_text gap ++ rest)
entry_ends n d after_plain gap rest i k g =
    subst (λ (t : List ℕ). BetweenBrackets d after_plain (t ++ rest)) (gap_form_text gap)
    (closing_stop n d after_plain (gap_form gap) rest i k (gap_form_fits n (one_line d) gap rest g (closing_solid rest k)))

-- the key of a single pair, or any other
key_each : (pair short a b : Bool) (xs ys : List NodePlace) → (a ≡ true → Each xs) → (b ≡ true → Each ys)
    → cond pair (a && short) b ≡ true → Each (cond pair xs ys)
key_each true short a b xs ys f g h = f (and_parts _ _ h).0
key_each false short a b xs ys f g h = g h

mutual
  -- the nodes in a flow node that fits are whole at their places
  pub flow_stand : (f : Flow) (n : ℕ) (c : FlowContext) (bol : Bool) (at : ℕ) (after : List ℕ)
      → flow_fits f n c bol after ≡ true → flow_node_stops n c f after ≡ true
      → Each (flow_places f n c bol at after)
  flow_stand (scalar s) n c bol at after h e = alone (flow_at n c bol at (scalar s) after) (record { spells = refl; fits = h; ends = e })
  flow_stand (seq gap es) n c bol at after h e =
      let line : Bool = starts_line false (gap_text gap) in
      let place : ℕ = at + 1 + byte_len (gap_text gap) in
      first_and (flow_at n c bol at (seq gap es) after) (entries_places es n (in_flow c) true line place (93 ∷ after))
      (record { spells = refl; fits = h; ends = e })
      (entries_stand es n (in_flow c) true line place 93 after (in_flow_between_brackets c) refl (and_parts _ _ h).1)
  flow_stand (map gap es) n c bol at after h e =
      let line : Bool = starts_line false (gap_text gap) in
      let place : ℕ = at + 1 + byte_len (gap_text gap) in
      first_and (flow_at n c bol at (map gap es) after)
      (entries_places es n (in_flow c) false line place (125 ∷ after)) (record { spells = refl; fits = h; ends = e })
      (entries_stand es n (in_flow c) false line place 125 after (in_flow_between_brackets c) refl (and_parts _ _ h).1)

  -- the nodes of entries stand
  entries_stand : (es : Entries) (n : ℕ) (d : FlowContext) (in_seq bol : Bool) (at close : ℕ) (after : List ℕ)
      → between_brackets d ≡ true → first closing (close ∷ after) ≡ true
      → entries_fit es n d in_seq bol (close ∷ after) ≡ true → Each (entries_places es n d in_seq bol at (close ∷ after))
  entries_stand none n d in_seq bol at close after i k h = All-nil NodeStands
  entries_stand (last e gap) n d in_seq bol at close after i k h =
      let p : (entry_fits e n d in_seq bol (gap_text gap ++ (close ∷ after)) ≡ true)
      × (gap_fits n (one_line d) gap (close ∷ after) ≡ true) = and_parts _ _ h in
      entry_stand e n d in_seq bol at gap (close ∷ after) i k p.1 p.0
  entries_stand (next e before gap_after es) n d in_seq bol at close after i k h =
      let rest : List ℕ = gap_text gap_after ++ (entries_text es ++ (close ∷ after)) in
      let line : Bool = starts_line false (gap_text gap_after) in
      let later : ℕ = at + byte_len (entry_text e) + byte_len (gap_text before) + 1 + byte_len (gap_text gap_after) in
      let p : (entry_fits e n d in_seq bol (gap_text before ++ (44 ∷ rest))
      && gap_fits n (one_line d) before (44 ∷ rest)
      && gap_fits n (one_line d) gap_after (entries_text es ++ (close ∷ after)) ≡ true)
      × (entries_fit es n d in_seq line (close ∷ after) ≡ true) = and_parts _ _ h in
      let q : (entry_fits e n d in_seq bol (gap_text before ++ (44 ∷ rest)) && gap_fits n (one_line d) before (44 ∷ rest) ≡ true)
      × (gap_fits n (one_line d) gap_after (entries_text es ++ (close ∷ after)) ≡ true) = and_parts _ _ p.0 in
      let r : (entry_fits e n d in_seq bol (gap_text before ++ (44 ∷ rest)) ≡ true)
      × (gap_fits n (one_line d) before (44 ∷ rest) ≡ true) = and_parts _ _ q.0 in
      both (entry_places e n d in_seq bol at (gap_text before ++ (44 ∷ rest))) (entries_places es n d in_seq line later (close ∷ after))
      (entry_stand e n d in_seq bol at before (44 ∷ rest) i refl r.1 r.0) (entries_stand es n d in_seq line later close after i k p.1)

  -- the nodes of an entry stand
  entry_stand : (e : Entry) (n : ℕ) (d : FlowContext) (in_seq bol : Bool) (at : ℕ) (gap : Option Sep) (rest : List ℕ)
      → between_brackets d ≡ true → first closing rest ≡ true
      → gap_fits n (one_line d) gap rest ≡ true → entry_fits e n d in_seq bol (gap_text gap ++ rest) ≡ true
      → Each (entry_places e n d in_seq bol at (gap_text gap ++ rest))
  entry_stand (entry ask key value) n d in_seq bol at gap rest i k g h =
      let after : List ℕ = value_text value ++ (gap_text gap ++ rest) in
      let pair : Bool = single_pair in_seq ask value in
      let b : Bool = cond (is_some ask) (starts_line false (gap_text ask)) bol in
      let short : Bool = short_key key (before_colon value) in
      let place : ℕ = at + byte_len (asked_text ask) in
      let after_key : ℕ = place + byte_len (flow_text key) in
      let p : (gap_fits n (one_line d) ask (flow_text key ++ after)
      && cond pair (flow_fits key 0 flow_key bol after && short) (flow_fits key n d b after) ≡ true)
      × (value_fits value n d (one_line d || pair) (is_plain key) (gap_text gap ++ rest) ≡ true) = and_parts _ _ h in
      let q : (gap_fits n (one_line d) ask (flow_text key ++ after) ≡ true)
      × (cond pair (flow_fits key 0 flow_key bol after && short) (flow_fits key n d b after) ≡ true) = and_parts _ _ p.0 in
      let ends : BetweenBrackets d (is_plain key) after = value_ends value n d pair (is_plain key) gap rest i k g p.1 in
      both (cond pair (flow_places key 0 flow_key bol place after) (flow_places key n d b place after))
      (value_places value n d after_key (gap_text gap ++ rest))
      (key_each pair short (flow_fits key 0 flow_key bol after) (flow_fits key n d b after)
      (flow_places key 0 flow_key bol place after) (flow_places key n d b place after)
      (λ f. flow_stand key 0 flow_key bol place after f (ends_here 0 flow_key key after (inl (between_key d (is_plain key) after ends))))
      (λ f. flow_stand key n d b place after f (ends_here n d key after (inl ends))) q.1)
      (value_stand value n d (one_line d || pair) (is_plain key) after_key gap rest i k g p.1)

  -- the nodes of a value stand
  value_stand : (v : Value) (n : ℕ) (d : FlowContext) (key after_plain : Bool) (at : ℕ) (gap : Option Sep)
      (rest : List ℕ) → between_brackets d ≡ true → first closing rest ≡ true
      → gap_fits n (one_line d) gap rest ≡ true → value_fits v n d key after_plain (gap_text gap ++ rest) ≡ true
      → Each (value_places v n d at (gap_text gap ++ rest))
  value_stand absent n d key after_plain at gap rest i k g h = All-nil NodeStands
  value_stand (empty before) n d key after_plain at gap rest i k g h = All-nil NodeStands
  value_stand (given before after f) n d key after_plain at gap rest i k g h =
      flow_stand f n d (starts_line false (gap_text after))
      (at + byte_len (gap_text before) + 1 + byte_len (gap_text after)) (gap_text gap ++ rest) (and_parts _ _ h).1
      (ends_here n d f (gap_text gap ++ rest) (inl (entry_ends n d (is_plain f) gap rest i k g)))

-- ---- what ends a part of a block node

-- what ends a node ends one that ends before the same texts
ends_as : (m m' : ℕ) (shallow shallow' : Bool) (after : List ℕ)
    → ((text : List ℕ) → block_node_stops m shallow text ≡ true → block_node_stops m' shallow' text ≡ true)
    → EndsNode m shallow after
    → EndsNode m' shallow' after
ends_as m m' shallow shallow' after f e = record {
  lines = e.lines;
  after = e.after;
  is = e.is;
  fit = e.fit;
  whole = e.whole;
  ends = f e.after e.ends;
}

-- a line at k, with something solid after its spaces
ends_at : (k : ℕ) (shallow : Bool) (rest : List ℕ) → first solid rest ≡ true → shallow && sign 45 rest ≡ false
    → EndsNode (suc k) shallow (spaces k ++ rest)
ends_at k shallow rest s d =
    record {
      lines = [];
      after = spaces k ++ rest;
      is = refl;
      fit = refl;
      whole = not_line_end (spaces k) rest (every_space k) s;
      ends = block_node_stops_at k shallow rest (solid_space rest s) d;
    }

-- the lines after a part, as many of them as it may have
record Taken (o : Option ℕ) (after : List ℕ) : Type 0 where
  ls : List LineEnd
  left : List ℕ
  is : after ≡ comments_text ls ++ left
  fit : comments_fit true ls left ≡ true
  takes : takes o ls left ≡ true

-- the lines after a node may be taken in, or not
taken : (o : Option ℕ) (m : ℕ) (shallow : Bool) (after : List ℕ) → EndsNode m shallow after → Taken o after
taken o m shallow after e = elim (cases_Bool (takes o e.lines e.after)) [
  | inl t ↦ record { ls = e.lines; left = e.after; is = e.is; fit = e.fit; takes = t }
  | inr t ↦ record {
    ls = [];
    left = comments_text e.lines ++ e.after;
    is = e.is;
    fit = refl;
    takes = takes_not o e.lines e.after e.fit e.whole t;
  }
]

-- pairs may start where they are
pairs_begin : (ps : Pairs) (k : ℕ) (bol : Bool) (m : ℕ) (shallow : Bool) (after : List ℕ)
    → pairs_fit ps k bol after ≡ true → EndsNode m shallow after
    → Prefix bol (pairs_text ps k ++ after)
pairs_begin ps k bol m shallow after h e =
    let t : Taken (pairs_open ps) after = taken (pairs_open ps) m shallow after e in
    let c : canonical_pairs (pairs_form ps t.ls) k bol t.left ≡ true =
    pairs_form_fit ps k bol t.ls t.left (subst (λ (x : List ℕ). pairs_fit ps k bol x ≡ true) t.is h) t.fit t.takes in
    let same : pairs_text (pairs_form ps t.ls) k ++ t.left ≡ pairs_text ps k ++ after =
    ap (λ x. x ++ t.left) (pairs_form_text ps k t.ls)
    ∙ (append_assoc (pairs_text ps k) (comments_text t.ls) t.left ∙ ap (λ x. pairs_text ps k ++ x) (sym t.is)) in
    subst (λ (x : List ℕ). Prefix bol x) same (pairs_prefix (pairs_form ps t.ls) k bol t.left c)

-- after the `:` of a key comes no ns
value_apart : (v : Node) (k m : ℕ) (shallow : Bool) (after : List ℕ) → node_fits v (suc k) true false after ≡ true
    → EndsNode m shallow after → first ns (node_text v ++ after) ≡ false
value_apart v k m shallow after h e =
    let t : Taken (node_open v) after = taken (node_open v) m shallow after e in
    let c : canonical_node (node_form v t.ls) (suc k) true false t.left ≡ true =
    node_form_fits v (suc k) true false t.ls t.left
    (subst (λ (x : List ℕ). node_fits v (suc k) true false x ≡ true) t.is h) t.fit t.takes in
    let same : node_text (node_form v t.ls) ++ t.left ≡ node_text v ++ after = node_before v t.ls t.left
    ∙ ap (λ x. node_text v ++ x) (sym t.is) in
    subst (λ (x : List ℕ). first ns x ≡ false) same (node_apart (node_form v t.ls) (suc k) true t.left c)

-- comments, and then the lines after them
comments_more : (comments : List LineEnd) (m : ℕ) (shallow : Bool) (after : List ℕ)
    → comments_fit false comments after ≡ true → (e : EndsNode m shallow after)
    → canonical_comments false (comments ++ e.lines) e.after ≡ true
comments_more comments m shallow after h e =
    comments_form_fit false comments e.lines e.after
    (subst (λ (x : List ℕ). comments_fit false comments x ≡ true) e.is h) e.fit (not_from_false _ e.whole)

-- the comments of a node and the lines after it, regrouped
comments_spelled : (comments : List LineEnd) (m : ℕ) (shallow : Bool) (after : List ℕ) (e : EndsNode m shallow after)
    → comments_text comments ++ after ≡ comments_text (comments ++ e.lines) ++ e.after
comments_spelled comments m shallow after e = ap (λ x. comments_text comments ++ x) e.is ∙ sym (joined_before comments e.lines e.after)

-- what comes after a flow node in a block ends it
leaf_stops : (f : Flow) (comments : List LineEnd) (m : ℕ) (shallow : Bool) (after : List ℕ)
    → comments_fit false comments after ≡ true → EndsNode m shallow after
    → Stops m outer (is_plain f) (comments_text comments ++ after)
leaf_stops f comments m shallow after h e =
    inr (inr (record {
      outside = refl;
      comments = comments ++ e.lines;
      rest = e.after;
      is = comments_spelled comments m shallow after e;
      fits = comments_more comments m shallow after h e;
      shallow = block_node_stops_shallow m shallow e.after e.whole e.ends;
    }))

-- what comes after a key ends it
key_stops : (key : Flow) (gap rest : List ℕ) → list_all white gap ≡ true → first ns rest ≡ false
    → Stops 0 block_key (is_plain key) (gap ++ (58 ∷ rest))
key_stops key gap rest w a = inr (inl (record { outside = refl; gap = gap; rest = rest; is = refl; gap_white = w; apart = a }))

-- items start with something solid
items_dash : (is : Items) (k : ℕ) (after : List ℕ) → first solid (items_text is k ++ after) ≡ true
items_dash (item i) k after = refl
items_dash (item_and i is) k after = refl

-- a compact collection is deeper than its parent
compact_deep : (k s : ℕ) (shallow : Bool) → nat_le (suc k) (cond shallow (suc (k + 1 + s)) (k + 1 + s)) ≡ true
compact_deep k s true = le-leb (suc k) (suc (k + 1 + s)) (omega arith)
compact_deep k s false = le-leb (suc k) (k + 1 + s) (omega arith)

-- ---- block nodes

mutual
  -- so are those in a block node
  pub node_stand : (n : Node) (m : ℕ) (shallow bol : Bool) (at : ℕ) (after : List ℕ)
      → node_fits n m shallow bol after ≡ true → EndsNode m shallow after
      → Each (node_places n m shallow bol at after)
  node_stand (block sep b) m shallow bol at after h e =
      alone (block_at m shallow bol at (block sep b) after) (record { spells = refl; fits = h; after = e })
  node_stand (flow sep f comments) m shallow bol at after h e =
      let place : ℕ = at + byte_len (sep_text sep) in
      let line : Bool = starts_line bol (sep_text sep) in
      let rest : List ℕ = comments_text comments ++ after in
      let p : (sep_fits m false bol sep (flow_text f ++ rest) && flow_fits f m outer line rest ≡ true)
      × (comments_fit false comments after ≡ true) = and_parts _ _ h in
      first_and (block_at m shallow bol at (flow sep f comments) after) (flow_places f m outer line place rest)
      (record { spells = refl; fits = h; after = e })
      (flow_stand f m outer line place rest (and_parts _ _ p.0).1 (ends_here m outer f rest (leaf_stops f comments m shallow after p.1 e)))
  node_stand (items comments k is) m shallow bol at after h e =
      let place : ℕ = at + byte_len (comments_text comments) + k in
      let p : (comments_fit bol comments (spaces k ++ (items_text is k ++ after)) && nat_le m (cond shallow (suc k) k)
      ≡ true) × (items_fit is k after ≡ true) = and_parts _ _ h in
      first_and (block_at m shallow bol at (items comments k is) after) (items_places is k place after)
      (record { spells = refl; fits = h; after = e })
      (items_stand is k place after p.1 (ends_as m (suc k) shallow true after
      (λ t. block_node_stops_items m k shallow t (and_parts _ _ p.0).1) e))
  node_stand (pairs comments k ps) m shallow bol at after h e =
      let place : ℕ = at + byte_len (comments_text comments) + k in
      let p : (comments_fit bol comments (spaces k ++ (pairs_text ps k ++ after)) && nat_le m k ≡ true)
      × (pairs_fit ps k (k == 0) after ≡ true) = and_parts _ _ h in
      first_and (block_at m shallow bol at (pairs comments k ps) after) (pairs_places ps k (k == 0) place after)
      (record { spells = refl; fits = h; after = e })
      (pairs_stand ps k (k == 0) place after p.1
      (ends_as m k shallow false after (λ t. block_node_stops_pairs m k shallow t (and_parts _ _ p.0).1) e))

  -- the nodes of items stand
  items_stand : (is : Items) (k at : ℕ) (after : List ℕ) → items_fit is k after ≡ true → EndsNode (suc k) true after
      → Each (items_places is k at after)
  items_stand (item i) k at after h e = indented_stand i k false (at + 1) after (and_parts _ _ h).1
      (ends_as (suc k) (suc k) true false after (λ t. block_node_stops_last k t) e)
  items_stand (item_and i is) k at after h e =
      let rest : List ℕ = spaces k ++ (items_text is k ++ after) in
      let later : ℕ = at + 1 + byte_len (indented_text i k) + k in
      let p : (not (first ns (indented_text i k ++ rest)) && indented_fits i k false rest ≡ true)
      × (items_fit is k after ≡ true) = and_parts _ _ h in
      both (indented_places i k false (at + 1) rest) (items_places is k later after)
      (indented_stand i k false (at + 1) rest (and_parts _ _ p.0).1
      (ends_at k false (items_text is k ++ after) (items_dash is k after) refl)) (items_stand is k later after p.1 e)

  -- the nodes of pairs stand
  pairs_stand : (ps : Pairs) (k : ℕ) (bol : Bool) (at : ℕ) (after : List ℕ) → pairs_fit ps k bol after ≡ true
      → EndsNode k false after → Each (pairs_places ps k bol at after)
  pairs_stand (pair p) k bol at after h e = pair_stand p k bol at after h
      (ends_as k (suc k) false true after (λ t. block_node_stops_value k t) e)
  pairs_stand (pair_and p ps) k bol at after h e =
      let rest : List ℕ = spaces k ++ (pairs_text ps k ++ after) in
      let later : ℕ = at + byte_len (pair_text p k) + k in
      let q : (pair_fits p k bol rest ≡ true) × (pairs_fit ps k (k == 0) after ≡ true) = and_parts _ _ h in
      let f : Prefix (k == 0) (pairs_text ps k ++ after) = pairs_begin ps k (k == 0) k false after q.1 e in
      both (pair_places p k bol at rest) (pairs_places ps k (k == 0) later after)
      (pair_stand p k bol at rest q.0 (ends_at k true (pairs_text ps k ++ after) f.solid_first f.no_dash))
      (pairs_stand ps k (k == 0) later after q.1 e)

  -- the nodes of a pair stand
  pair_stand : (p : Pair) (k : ℕ) (bol : Bool) (at : ℕ) (after : List ℕ) → pair_fits p k bol after ≡ true
      → EndsNode (suc k) true after → Each (pair_places p k bol at after)
  pair_stand (asked key value) k bol at after h e =
      let rest : List ℕ = spaces k ++ (58 ∷ (indented_text value k ++ after)) in
      let later : ℕ = at + 1 + byte_len (indented_text key k) + k + 1 in
      let p : (not (first ns (indented_text key k ++ rest)) && not (is_omitted key) && indented_fits key k true rest
      ≡ true) × (indented_fits value k true after ≡ true) = and_parts _ _ h in
      both (indented_places key k true (at + 1) rest) (indented_places value k true later after)
      (indented_stand key k true (at + 1) rest (and_parts _ _ p.0).1
      (ends_at k true (58 ∷ (indented_text value k ++ after)) refl refl)) (indented_stand value k true later after p.1 e)
  pair_stand (asked_alone key) k bol at after h e = indented_stand key k true (at + 1) after (and_parts _ _ h).1 e
  pair_stand (keyed key gap value) k bol at after h e =
      let rest : List ℕ = node_text value ++ after in
      let later : ℕ = at + byte_len (flow_text key) + byte_len gap + 1 in
      let p : (flow_fits key 0 block_key bol (gap ++ (58 ∷ rest)) && list_all white gap && short_key key gap ≡ true)
      × (node_fits value (suc k) true false after ≡ true) = and_parts _ _ h in
      let q : (flow_fits key 0 block_key bol (gap ++ (58 ∷ rest)) && list_all white gap ≡ true)
      × (short_key key gap ≡ true) = and_parts _ _ p.0 in
      let r : (flow_fits key 0 block_key bol (gap ++ (58 ∷ rest)) ≡ true) × (list_all white gap ≡ true) = and_parts _ _ q.0 in
      both (flow_places key 0 block_key bol at (gap ++ (58 ∷ rest))) (node_places value (suc k) true false later after)
      (flow_stand key 0 block_key bol at (gap ++ (58 ∷ rest)) r.0
      (ends_here 0 block_key key (gap ++ (58 ∷ rest))
      (key_stops key gap rest r.1 (value_apart value k (suc k) true after p.1 e))))
      (node_stand value (suc k) true false later after p.1 e)
  pair_stand (keyed_alone key gap comments) k bol at after h e =
      let rest : List ℕ = comments_text comments ++ after in
      let p : (flow_fits key 0 block_key bol (gap ++ (58 ∷ rest)) && list_all white gap && short_key key gap ≡ true)
      × (comments_fit false comments after ≡ true) = and_parts _ _ h in
      let q : (flow_fits key 0 block_key bol (gap ++ (58 ∷ rest)) && list_all white gap ≡ true)
      × (short_key key gap ≡ true) = and_parts _ _ p.0 in
      let r : (flow_fits key 0 block_key bol (gap ++ (58 ∷ rest)) ≡ true) × (list_all white gap ≡ true) = and_parts _ _ q.0 in
      let apart : first ns rest ≡ false =
      subst (λ (t : List ℕ). first ns t ≡ false) (sym (comments_spelled comments (suc k) true after e))
      (comments_no_ns (comments ++ e.lines) e.after (comments_more comments (suc k) true after p.1 e)) in
      flow_stand key 0 block_key bol at (gap ++ (58 ∷ rest)) r.0
      (ends_here 0 block_key key (gap ++ (58 ∷ rest)) (key_stops key gap rest r.1 apart))

  -- the nodes of what comes after a sign stand
  indented_stand : (i : Indented) (k : ℕ) (shallow : Bool) (at : ℕ) (after : List ℕ)
      → indented_fits i k shallow after ≡ true → EndsNode (suc k) shallow after
      → Each (indented_places i k shallow at after)
  indented_stand (compact_items s is) k shallow at after h e =
      items_stand is (k + 1 + s) (at + s) after (and_parts _ _ h).1
      (ends_as (suc k) (suc (k + 1 + s)) shallow true after
      (λ t. block_node_stops_items (suc k) (k + 1 + s) shallow t (compact_deep k s shallow)) e)
  indented_stand (compact_pairs s ps) k shallow at after h e =
      pairs_stand ps (k + 1 + s) false (at + s) after (and_parts _ _ h).1
      (ends_as (suc k) (k + 1 + s) shallow false after
      (λ t. block_node_stops_pairs (suc k) (k + 1 + s) shallow t (compact_deep k s false)) e)
  indented_stand (node n) k shallow at after h e = node_stand n (suc k) shallow false at after h e
  indented_stand (omitted comments) k shallow at after h e = All-nil NodeStands

-- ---- streams

-- the nodes after `---` stand
explicit_stand : (x : Explicit) (bol : Bool) (at : ℕ) (after : List ℕ) → explicit_fits x bol after ≡ true
    → EndsNode 0 false after → Each (explicit_places x at after)
explicit_stand (content n) bol at after h e = node_stand n 0 false false (at + 3) after (and_parts _ _ h).1 e
explicit_stand (nothing comments) bol at after h e = All-nil NodeStands

-- the nodes of a document stand
document_stand : (d : Document) (bol : Bool) (at : ℕ) (after : List ℕ) → document_fits d bol after ≡ true
    → EndsNode 0 false after → Each (document_places d bol at after)
document_stand (bare n) bol at after h e = node_stand n 0 false bol at after h e
document_stand (explicit x) bol at after h e = explicit_stand x bol at after h e
document_stand (directed blank version comments x) bol at after h e =
    explicit_stand x true (at + byte_len (directive_text blank version comments)) after (and_parts _ _ h).1 e

-- the nodes of a document that may be left out stand
optional_stand : (d : Option Document) (at : ℕ) (after : List ℕ) → optional_document_fits d true after ≡ true
    → EndsNode 0 false after → Each (optional_document_places d at after)
optional_stand None at after h e = All-nil NodeStands
optional_stand (Some d) at after h e = document_stand d true at after h e

-- the nodes of a part stand
part_stand : (p : Part) (bol : Bool) (at : ℕ) (after : List ℕ) → part_fits p bol after ≡ true → EndsNode 0 false after
    → Each (part_places p at after)
part_stand (suffixes one more prefix d) bol at after h e =
    optional_stand d (at + byte_len (suffix_text one) + byte_len (flat_map suffix_text more) + byte_len
    (comments_text prefix)) after (and_parts _ _ h).1 e
part_stand (line l) bol at after h e = All-nil NodeStands
part_stand (further x) bol at after h e = explicit_stand x bol at after h e

-- the nodes of parts stand
parts_stand : (ps : List Part) (bol : Bool) (at : ℕ) → parts_fit ps bol [] ≡ true → Each (parts_places ps at)
parts_stand [] bol at h = All-nil NodeStands
parts_stand (p ∷ ps) bol at h =
    let q : (part_fits p bol (parts_text ps ++ []) ≡ true) × (parts_fit ps (starts_line bol (part_text p)) [] ≡ true) = and_parts _ _ h in
    let later : ℕ = at + byte_len (part_text p) in
    both (part_places p at (parts_text ps)) (parts_places ps later)
    (part_stand p bol at (parts_text ps) (subst (λ (t : List ℕ). part_fits p bol t ≡ true)
    (append-nil (parts_text ps)) q.0) (parts_end ps (starts_line bol (part_text p)) q.1))
    (parts_stand ps (starts_line bol (part_text p)) later q.1)

-- so are those of a stream
pub stream_stand : (s : Stream) → fits s ≡ true → Each (stream_places s)
stream_stand s h =
    let bol : Bool = starts_line true (comments_text s.prefix ++ optional document_text s.document) in
    let p : (comments_fit true s.prefix (optional document_text s.document ++ parts_text s.parts)
    && optional_document_fits s.document true (parts_text s.parts) ≡ true)
    × (parts_fit s.parts bol [] ≡ true) = and_parts _ _ h in
    let at : ℕ = (if s.mark then 3 else 0) + byte_len (comments_text s.prefix) in
    let later : ℕ = at + byte_len (optional document_text s.document) in
    both (optional_document_places s.document at (parts_text s.parts)) (parts_places s.parts later)
    (optional_stand s.document at (parts_text s.parts) (and_parts _ _ p.0).1 (parts_end s.parts bol p.1))
    (parts_stand s.parts bol later p.1)
