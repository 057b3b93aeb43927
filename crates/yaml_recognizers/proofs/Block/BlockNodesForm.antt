-- The canonical form of block nodes: comments, separation, flow nodes and block scalars in it are canonical, and
-- further lines of comments after the node are taken in, by its last comments. Text and meaning stay.
use Rattle.std.{proofs.Common.{ap, append_assoc, refl, sym, ◌∙◌, ◌≡◌}, specs.Prelude.{Bool, List, None, Option, [], cond, false, nat_le}}
use Rattle.std.specs.Prelude.{not, suc, true, ℕ, ◌&&◌, ◌++◌, ◌+◌, ◌==◌, ◌∷◌}
use Rattle.yaml_recognizers.proofs.Prelude.{and_from, and_parts, not_from_false, append-nil, ns, white, Indented, Items, Node, Pair, Pairs}
use Rattle.yaml_recognizers.proofs.Prelude.{asked, asked_alone, block, compact_items, compact_pairs, flow, indented_end, indented_events}
use Rattle.yaml_recognizers.proofs.Prelude.{indented_fits, indented_text, is_omitted, item, item_and, items, items_end, items_events}
use Rattle.yaml_recognizers.proofs.Prelude.{items_fit, items_text, keyed, keyed_alone, node, node_end, node_events, node_fits, node_text}
use Rattle.yaml_recognizers.proofs.Prelude.{omitted, pair, pair_and, pair_end, pair_events, pair_fits, pair_text, pairs, pairs_end}
use Rattle.yaml_recognizers.proofs.Prelude.{pairs_events, pairs_fit, pairs_text, BlockScalar, block_fits, block_text, flow_fits, flow_text}
use Rattle.yaml_recognizers.proofs.Prelude.{short_key, block_key, outer, LineEnd, comments_fit, comments_text, sep_fits, sep_text, list_all}
use Rattle.yaml_recognizers.proofs.{Prelude.{first, spaces, starts_line}, Separation.CommentsComplete.not_line_end}
use Rattle.yaml_recognizers.proofs.Separation.CommentsForm.{comments_form_fit, comments_joined, joined_before, sep_form, sep_form_fits}
use Rattle.yaml_recognizers.proofs.{Separation.CommentsForm.sep_form_text, Basics.{Prefixes.every_space, Solid.dash_solid}}
use Rattle.yaml_recognizers.proofs.Block.BlockNodesBegin.{block_prefix, items_start, pairs_prefix}
use Rattle.yaml_recognizers.proofs.BlockScalars.BlockScalarsForm.{block_form, block_form_events, block_form_fits, block_form_text}
use Rattle.yaml_recognizers.proofs.BlockScalars.BlockScalarsForm.{block_open, bare_form_text, takes, takes_none}
use Rattle.yaml_recognizers.proofs.Flow.FlowNodesForm.{flow_form, flow_form_events, flow_form_fits, flow_form_text, form_solid}
use Rattle.yaml_recognizers.specs.{CanonicalComments.is_line_end, CanonicalFlowNodes.canonical_flow, Ends.solid}
use Rattle.yaml_recognizers.specs.CanonicalBlockNodes.{canonical_indented, canonical_items, canonical_node, canonical_pair, canonical_pairs}

abbrev mutual
  -- a node in its canonical form, with further comment lines
  pub node_form : Node → List LineEnd → Node
  node_form (block sep b) ls = block (sep_form sep) (block_form b ls)
  node_form (flow sep f comments) ls = flow (sep_form sep) (flow_form f) (comments ++ ls)
  node_form (items comments k is) ls = items comments k (items_form is ls)
  node_form (pairs comments k ps) ls = pairs comments k (pairs_form ps ls)

  -- items in their canonical form
  pub items_form : Items → List LineEnd → Items
  items_form (item i) ls = item (indented_form i ls)
  items_form (item_and i is) ls = item_and (indented_form i []) (items_form is ls)

  -- pairs in their canonical form
  pub pairs_form : Pairs → List LineEnd → Pairs
  pairs_form (pair p) ls = pair (pair_form p ls)
  pairs_form (pair_and p ps) ls = pair_and (pair_form p []) (pairs_form ps ls)

  -- a pair in its canonical form
  pub pair_form : Pair → List LineEnd → Pair
  pair_form (asked key value) ls = asked (indented_form key []) (indented_form value ls)
  pair_form (asked_alone key) ls = asked_alone (indented_form key ls)
  pair_form (keyed key gap value) ls = keyed (flow_form key) gap (node_form value ls)
  pair_form (keyed_alone key gap comments) ls = keyed_alone (flow_form key) gap (comments ++ ls)

  -- what comes after a sign, in its canonical form
  pub indented_form : Indented → List LineEnd → Indented
  indented_form (compact_items s is) ls = compact_items s (items_form is ls)
  indented_form (compact_pairs s ps) ls = compact_pairs s (pairs_form ps ls)
  indented_form (node n) ls = node (node_form n ls)
  indented_form (omitted comments) ls = omitted (comments ++ ls)

-- the indentation of the block scalar that a node ends with, where no comments come after it
abbrev mutual
  -- the indentation of the block scalar that ends the node, if no comments come after it
  pub node_open : Node → Option ℕ
  node_open (block sep b) = block_open b
  node_open (flow sep f comments) = None
  node_open (items comments k is) = items_open is
  node_open (pairs comments k ps) = pairs_open ps

  -- the same of items
  pub items_open : Items → Option ℕ
  items_open (item i) = indented_open i
  items_open (item_and i is) = items_open is

  -- the same of pairs
  pub pairs_open : Pairs → Option ℕ
  pairs_open (pair p) = pair_open p
  pairs_open (pair_and p ps) = pairs_open ps

  -- the same of a pair
  pub pair_open : Pair → Option ℕ
  pair_open (asked key value) = indented_open value
  pair_open (asked_alone key) = indented_open key
  pair_open (keyed key gap value) = node_open value
  pair_open (keyed_alone key gap comments) = None

  -- the same of what comes after a sign
  pub indented_open : Indented → Option ℕ
  indented_open (compact_items s is) = items_open is
  indented_open (compact_pairs s ps) = pairs_open ps
  indented_open (node n) = node_open n
  indented_open (omitted comments) = None

-- ---- the text

mutual
  -- the form of a node has the same text, with the comments taken in
  pub node_form_text : (n : Node) (ls : List LineEnd) → node_text (node_form n ls) ≡ node_text n ++ comments_text ls
  node_form_text (block sep b) ls = rw (sep_form_text sep, block_form_text b ls)
      (sym (append_assoc (sep_text sep) (block_text b) (comments_text ls)))
  node_form_text (flow sep f comments) ls = simp (sep_form_text sep, flow_form_text f, comments_joined comments ls, append_assoc)
  node_form_text (items comments k is) ls = simp (items_form_text is k ls, append_assoc)
  node_form_text (pairs comments k ps) ls = simp (pairs_form_text ps k ls, append_assoc)

  -- so has that of items
  pub items_form_text : (is : Items) (k : ℕ) (ls : List LineEnd) → items_text (items_form is ls) k ≡ items_text is k ++ comments_text ls
  items_form_text (item i) k ls = ap (λ (t : List ℕ). 45 ∷ t) (indented_form_text i k ls)
  items_form_text (item_and i is) k ls =
      let e : indented_text (indented_form i []) k ++ spaces k ++ items_text (items_form is ls) k
      ≡ indented_text i k ++ spaces k ++ items_text is k ++ comments_text ls =
      simp (indented_form_text i k [], append-nil, items_form_text is k ls, append_assoc) in
      ap (λ (t : List ℕ). 45 ∷ t) e

  -- so has that of pairs
  pub pairs_form_text : (ps : Pairs) (k : ℕ) (ls : List LineEnd) → pairs_text (pairs_form ps ls) k ≡ pairs_text ps k ++ comments_text ls
  pairs_form_text (pair p) k ls = pair_form_text p k ls
  pairs_form_text (pair_and p ps) k ls = simp (pair_form_text p k [], append-nil, pairs_form_text ps k ls, append_assoc)

  -- so has that of a pair
  pub pair_form_text : (p : Pair) (k : ℕ) (ls : List LineEnd) → pair_text (pair_form p ls) k ≡ pair_text p k ++ comments_text ls
  pair_form_text (asked key value) k ls =
      let e : indented_text (indented_form key []) k ++ spaces k ++ (58 ∷ [])
      ++ indented_text (indented_form value ls) k
      ≡ indented_text key k ++ spaces k ++ (58 ∷ []) ++ indented_text value k ++ comments_text ls =
      simp (indented_form_text key k [], append-nil, indented_form_text value k ls, append_assoc) in
      ap (λ (t : List ℕ). 63 ∷ t) e
  pair_form_text (asked_alone key) k ls = ap (λ (t : List ℕ). 63 ∷ t) (indented_form_text key k ls)
  pair_form_text (keyed key gap value) k ls =
      let e : flow_text (flow_form key) ++ gap ++ (58 ∷ []) ++ node_text (node_form value ls)
      ≡ flow_text key ++ gap ++ (58 ∷ []) ++ node_text value ++ comments_text ls =
      simp (flow_form_text key, node_form_text value ls, append_assoc) in
      e
  pair_form_text (keyed_alone key gap comments) k ls =
      let e : flow_text (flow_form key) ++ gap ++ (58 ∷ []) ++ comments_text (comments ++ ls)
      ≡ flow_text key ++ gap ++ (58 ∷ []) ++ comments_text comments ++ comments_text ls =
      simp (flow_form_text key, comments_joined comments ls, append_assoc) in
      e

  -- so has that of what comes after a sign
  pub indented_form_text : (i : Indented) (k : ℕ) (ls : List LineEnd)
      → indented_text (indented_form i ls) k ≡ indented_text i k ++ comments_text ls
  indented_form_text (compact_items s is) k ls = simp (items_form_text is (k + 1 + s) ls, append_assoc)
  indented_form_text (compact_pairs s ps) k ls = simp (pairs_form_text ps (k + 1 + s) ls, append_assoc)
  indented_form_text (node n) k ls = node_form_text n ls
  indented_form_text (omitted comments) k ls = comments_joined comments ls

-- with no further comments, what comes after a sign has the same text
indented_form_same : (i : Indented) (k : ℕ) → indented_text (indented_form i []) k ≡ indented_text i k
indented_form_same i k = indented_form_text i k [] ∙ append-nil (indented_text i k)

-- and so has a pair
pair_form_same : (p : Pair) (k : ℕ) → pair_text (pair_form p []) k ≡ pair_text p k
pair_form_same p k = pair_form_text p k [] ∙ append-nil (pair_text p k)

-- ---- where it ends, and the meaning

mutual
  -- the form of a node ends at the same place
  pub node_form_end : (n : Node) (ls : List LineEnd) (at : ℕ) → node_end (node_form n ls) at ≡ node_end n at
  node_form_end (block sep b) ls at = rw (sep_form_text sep, bare_form_text b ls)
  node_form_end (flow sep f comments) ls at = rw (sep_form_text sep, flow_form_text f)
  node_form_end (items comments k is) ls at = items_form_end is k ls _
  node_form_end (pairs comments k ps) ls at = pairs_form_end ps k ls _

  -- items end at the same place
  items_form_end : (is : Items) (k : ℕ) (ls : List LineEnd) (at : ℕ) → items_end (items_form is ls) k at ≡ items_end is k at
  items_form_end (item i) k ls at = indented_form_end i k ls _
  items_form_end (item_and i is) k ls at = rw (indented_form_same i k) (items_form_end is k ls _)

  -- so do pairs
  pairs_form_end : (ps : Pairs) (k : ℕ) (ls : List LineEnd) (at : ℕ) → pairs_end (pairs_form ps ls) k at ≡ pairs_end ps k at
  pairs_form_end (pair p) k ls at = pair_form_end p k ls at
  pairs_form_end (pair_and p ps) k ls at = rw (pair_form_same p k) (pairs_form_end ps k ls _)

  -- so does a pair
  pair_form_end : (p : Pair) (k : ℕ) (ls : List LineEnd) (at : ℕ) → pair_end (pair_form p ls) k at ≡ pair_end p k at
  pair_form_end (asked key value) k ls at = rw (indented_form_same key k) (indented_form_end value k ls _)
  pair_form_end (asked_alone key) k ls at = indented_form_end key k ls _
  pair_form_end (keyed key gap value) k ls at = rw (flow_form_text key) (node_form_end value ls _)
  pair_form_end (keyed_alone key gap comments) k ls at = rw (flow_form_text key)

  -- and what comes after a sign
  indented_form_end : (i : Indented) (k : ℕ) (ls : List LineEnd) (at : ℕ) → indented_end (indented_form i ls) k at ≡ indented_end i k at
  indented_form_end (compact_items s is) k ls at = items_form_end is (k + 1 + s) ls _
  indented_form_end (compact_pairs s ps) k ls at = pairs_form_end ps (k + 1 + s) ls _
  indented_form_end (node n) k ls at = node_form_end n ls at
  indented_form_end (omitted comments) k ls at = refl

mutual
  -- the canonical form of a node means the same
  pub node_form_events : (n : Node) (ls : List LineEnd) (at : ℕ) → node_events (node_form n ls) at ≡ node_events n at
  node_form_events (block sep b) ls at = rw (sep_form_text sep) (block_form_events b ls _)
  node_form_events (flow sep f comments) ls at = rw (sep_form_text sep) (flow_form_events f _)
  node_form_events (items comments k is) ls at = rw (items_form_events is k ls)
  node_form_events (pairs comments k ps) ls at = rw (pairs_form_events ps k ls)

  -- items mean the same
  items_form_events : (is : Items) (k : ℕ) (ls : List LineEnd) (at : ℕ) → items_events (items_form is ls) k at ≡ items_events is k at
  items_form_events (item i) k ls at = indented_form_events i k ls _
  items_form_events (item_and i is) k ls at = rw (indented_form_same i k, indented_form_events i k [], items_form_events is k ls)

  -- so do pairs
  pairs_form_events : (ps : Pairs) (k : ℕ) (ls : List LineEnd) (at : ℕ) → pairs_events (pairs_form ps ls) k at ≡ pairs_events ps k at
  pairs_form_events (pair p) k ls at = pair_form_events p k ls at
  pairs_form_events (pair_and p ps) k ls at = rw (pair_form_same p k, pair_form_events p k [], pairs_form_events ps k ls)

  -- so does a pair
  pair_form_events : (p : Pair) (k : ℕ) (ls : List LineEnd) (at : ℕ) → pair_events (pair_form p ls) k at ≡ pair_events p k at
  pair_form_events (asked key value) k ls at = rw (indented_form_same key k, indented_form_events key k [], indented_form_events value k ls)
  pair_form_events (asked_alone key) k ls at = rw (indented_form_events key k ls, indented_form_end key k ls)
  pair_form_events (keyed key gap value) k ls at = rw (flow_form_text key, flow_form_events key, node_form_events value ls)
  pair_form_events (keyed_alone key gap comments) k ls at = rw (flow_form_text key, flow_form_events key)

  -- and what comes after a sign
  indented_form_events : (i : Indented) (k : ℕ) (ls : List LineEnd) (at : ℕ)
      → indented_events (indented_form i ls) k at ≡ indented_events i k at
  indented_form_events (compact_items s is) k ls at = rw (items_form_events is (k + 1 + s) ls)
  indented_form_events (compact_pairs s ps) k ls at = rw (pairs_form_events ps (k + 1 + s) ls)
  indented_form_events (node n) k ls at = node_form_events n ls at
  indented_form_events (omitted comments) k ls at = refl

-- ---- it fits, before what comes after the lines

-- and has the same text, with the comments taken in
pub node_before : (n : Node) (ls : List LineEnd) (after : List ℕ)
    → node_text (node_form n ls) ++ after ≡ node_text n ++ (comments_text ls ++ after)
node_before n ls after = rw (node_form_text n ls) (append_assoc (node_text n) (comments_text ls) after)

-- the comments taken in come after the text of items
items_before : (is : Items) (k : ℕ) (ls : List LineEnd) (after : List ℕ)
    → items_text (items_form is ls) k ++ after ≡ items_text is k ++ (comments_text ls ++ after)
items_before is k ls after = rw (items_form_text is k ls) (append_assoc (items_text is k) (comments_text ls) after)

-- and after that of pairs
pairs_before : (ps : Pairs) (k : ℕ) (ls : List LineEnd) (after : List ℕ)
    → pairs_text (pairs_form ps ls) k ++ after ≡ pairs_text ps k ++ (comments_text ls ++ after)
pairs_before ps k ls after = rw (pairs_form_text ps k ls) (append_assoc (pairs_text ps k) (comments_text ls) after)

-- and of what comes after a sign
indented_before : (i : Indented) (k : ℕ) (ls : List LineEnd) (after : List ℕ)
    → indented_text (indented_form i ls) k ++ after ≡ indented_text i k ++ (comments_text ls ++ after)
indented_before i k ls after = rw (indented_form_text i k ls) (append_assoc (indented_text i k) (comments_text ls) after)

-- and of a block scalar
block_before : (b : BlockScalar) (ls : List LineEnd) (after : List ℕ)
    → block_text (block_form b ls) ++ after ≡ block_text b ++ (comments_text ls ++ after)
block_before b ls after = rw (block_form_text b ls) (append_assoc (block_text b) (comments_text ls) after)

-- what is omitted stays so
omitted_same : (i : Indented) (ls : List LineEnd) → is_omitted (indented_form i ls) ≡ is_omitted i
omitted_same (compact_items s is) ls = refl
omitted_same (compact_pairs s ps) ls = refl
omitted_same (node n) ls = refl
omitted_same (omitted comments) ls = refl

-- no comments begin at spaces before something solid
solid_stop : (k : ℕ) (rest : List ℕ) → first solid rest ≡ true → is_line_end (spaces k ++ rest) ≡ false
solid_stop k rest s = not_line_end (spaces k) rest (every_space k) s

-- no comment line starts where further items do
items_stop : (is : Items) (k : ℕ) (ls : List LineEnd) (after : List ℕ) → canonical_items (items_form is ls) k after ≡ true
    → is_line_end (spaces k ++ (items_text (items_form is ls) k ++ after)) ≡ false
items_stop is k ls after c =
    let text : List ℕ = items_text (items_form is ls) k ++ after in
    solid_stop k text (dash_solid text (items_start (items_form is ls) k after c))

-- nor where further pairs do
pairs_stop : (ps : Pairs) (k : ℕ) (bol : Bool) (ls : List LineEnd) (after : List ℕ) → canonical_pairs (pairs_form ps ls) k bol after ≡ true
    → is_line_end (spaces k ++ (pairs_text (pairs_form ps ls) k ++ after)) ≡ false
pairs_stop ps k bol ls after c = solid_stop k (pairs_text (pairs_form ps ls) k ++ after)
    (pairs_prefix (pairs_form ps ls) k bol after c).solid_first

mutual
  -- it is canonical if the node fits
  pub node_form_fits : (n : Node) (m : ℕ) (shallow bol : Bool) (ls : List LineEnd) (after : List ℕ)
      → node_fits n m shallow bol (comments_text ls ++ after) ≡ true
      → comments_fit true ls after ≡ true → takes (node_open n) ls after ≡ true → canonical_node (node_form n ls) m shallow bol after ≡ true
  node_form_fits (block sep b) m shallow bol ls after h l t =
      let more : List ℕ = comments_text ls ++ after in
      let p : (sep_fits m false bol sep (block_text b ++ more) ≡ true) × (block_fits m b more ≡ true) = and_parts _ _ h in
      rw (block_before b ls after) (and_from _ _ (sep_form_fits m false bol sep _ p.0 (block_prefix b more).1)
      (block_form_fits b ls m after p.1 l t))
  node_form_fits (flow sep f comments) m shallow bol ls after h l t =
      let more : List ℕ = comments_text ls ++ after in
      let rest : List ℕ = comments_text comments ++ more in
      let p : (sep_fits m false bol sep (flow_text f ++ rest)
      && flow_fits f m outer (starts_line bol (sep_text sep)) rest ≡ true)
      × (comments_fit false comments more ≡ true) = and_parts _ _ h in
      let q : (sep_fits m false bol sep (flow_text f ++ rest) ≡ true)
      × (flow_fits f m outer (starts_line bol (sep_text sep)) rest ≡ true) = and_parts _ _ p.0 in
      let c : canonical_flow (flow_form f) m outer (starts_line bol (sep_text sep)) rest ≡ true = flow_form_fits f m outer _ rest q.1 in
      rw (sep_form_text sep, flow_form_text f, joined_before comments ls after)
      (and_from _ _ (and_from _ _ (sep_form_fits m false bol sep _ q.0 (form_solid f m outer _ rest c)) c)
      (comments_form_fit false comments ls after p.1 l t))
  node_form_fits (items comments k is) m shallow bol ls after h l t =
      let more : List ℕ = comments_text ls ++ after in
      let p : (comments_fit bol comments (spaces k ++ (items_text is k ++ more)) && nat_le m (cond shallow (suc k) k)
      ≡ true) × (items_fit is k more ≡ true) = and_parts _ _ h in
      let q : (comments_fit bol comments (spaces k ++ (items_text is k ++ more)) ≡ true)
      × (nat_le m (cond shallow (suc k) k) ≡ true) = and_parts _ _ p.0 in
      let c : canonical_items (items_form is ls) k after ≡ true = items_form_fit is k ls after p.1 l t in
      let s : is_line_end (spaces k ++ (items_text is k ++ more)) ≡ false =
      rw (items_before is k ls after) at (items_stop is k ls after c) in
      rw (items_before is k ls after) (and_from _ _ (and_from _ _ (and_from _ _ q.0 (not_from_false _ s)) q.1) c)
  node_form_fits (pairs comments k ps) m shallow bol ls after h l t =
      let more : List ℕ = comments_text ls ++ after in
      let p : (comments_fit bol comments (spaces k ++ (pairs_text ps k ++ more)) && nat_le m k ≡ true)
      × (pairs_fit ps k (k == 0) more ≡ true) = and_parts _ _ h in
      let q : (comments_fit bol comments (spaces k ++ (pairs_text ps k ++ more)) ≡ true) × (nat_le m k ≡ true) = and_parts _ _ p.0 in
      let c : canonical_pairs (pairs_form ps ls) k (k == 0) after ≡ true = pairs_form_fit ps k (k == 0) ls after p.1 l t in
      let s : is_line_end (spaces k ++ (pairs_text ps k ++ more)) ≡ false =
      rw (pairs_before ps k ls after) at (pairs_stop ps k (k == 0) ls after c) in
      rw (pairs_before ps k ls after) (and_from _ _ (and_from _ _ (and_from _ _ q.0 (not_from_false _ s)) q.1) c)

  -- the form of items is canonical
  items_form_fit : (is : Items) (k : ℕ) (ls : List LineEnd) (after : List ℕ) → items_fit is k (comments_text ls ++ after) ≡ true
      → comments_fit true ls after ≡ true → takes (items_open is) ls after ≡ true → canonical_items (items_form is ls) k after ≡ true
  items_form_fit (item i) k ls after h l t =
      let p : (not (first ns (indented_text i k ++ (comments_text ls ++ after))) ≡ true)
      × (indented_fits i k false (comments_text ls ++ after) ≡ true) = and_parts _ _ h in
      rw (indented_before i k ls after) (and_from _ _ p.0 (indented_form_fits i k false ls after p.1 l t))
  items_form_fit (item_and i is) k ls after h l t =
      let rest : List ℕ = spaces k ++ (items_text is k ++ (comments_text ls ++ after)) in
      let p : (not (first ns (indented_text i k ++ rest)) && indented_fits i k false rest ≡ true)
      × (items_fit is k (comments_text ls ++ after) ≡ true) = and_parts _ _ h in
      let q : (not (first ns (indented_text i k ++ rest)) ≡ true) × (indented_fits i k false rest ≡ true) = and_parts _ _ p.0 in
      let c : canonical_items (items_form is ls) k after ≡ true = items_form_fit is k ls after p.1 l t in
      let s : is_line_end rest ≡ false = rw (items_before is k ls after) at (items_stop is k ls after c) in
      rw (items_before is k ls after, indented_form_same i k)
      (and_from _ _ (and_from _ _ q.0 (indented_form_fits i k false [] rest q.1 refl (takes_none (indented_open i) rest s))) c)

  -- the same of pairs
  pub pairs_form_fit : (ps : Pairs) (k : ℕ) (bol : Bool) (ls : List LineEnd) (after : List ℕ)
      → pairs_fit ps k bol (comments_text ls ++ after) ≡ true
      → comments_fit true ls after ≡ true → takes (pairs_open ps) ls after ≡ true → canonical_pairs (pairs_form ps ls) k bol after ≡ true
  pairs_form_fit (pair p) k bol ls after h l t = pair_form_fits p k bol ls after h l t
  pairs_form_fit (pair_and p ps) k bol ls after h l t =
      let rest : List ℕ = spaces k ++ (pairs_text ps k ++ (comments_text ls ++ after)) in
      let q : (pair_fits p k bol rest ≡ true) × (pairs_fit ps k (k == 0) (comments_text ls ++ after) ≡ true) = and_parts _ _ h in
      let c : canonical_pairs (pairs_form ps ls) k (k == 0) after ≡ true = pairs_form_fit ps k (k == 0) ls after q.1 l t in
      let s : is_line_end rest ≡ false = rw (pairs_before ps k ls after) at (pairs_stop ps k (k == 0) ls after c) in
      rw (pairs_before ps k ls after) (and_from _ _ (pair_form_fits p k bol [] rest q.0 refl (takes_none (pair_open p) rest s)) c)

  -- and that of a pair
  pair_form_fits : (p : Pair) (k : ℕ) (bol : Bool) (ls : List LineEnd) (after : List ℕ)
      → pair_fits p k bol (comments_text ls ++ after) ≡ true
      → comments_fit true ls after ≡ true → takes (pair_open p) ls after ≡ true → canonical_pair (pair_form p ls) k bol after ≡ true
  pair_form_fits (asked key value) k bol ls after h l t =
      let more : List ℕ = comments_text ls ++ after in
      let rest : List ℕ = spaces k ++ (58 ∷ (indented_text value k ++ more)) in
      let p : (not (first ns (indented_text key k ++ rest)) && not (is_omitted key) && indented_fits key k true rest
      ≡ true) × (indented_fits value k true more ≡ true) = and_parts _ _ h in
      let q : (not (first ns (indented_text key k ++ rest)) && not (is_omitted key) ≡ true)
      × (indented_fits key k true rest ≡ true) = and_parts _ _ p.0 in
      let s : is_line_end rest ≡ false = solid_stop k (58 ∷ (indented_text value k ++ more)) refl in
      rw (indented_before value k ls after, indented_form_same key k, omitted_same key [])
      (and_from _ _ (and_from _ _ q.0 (indented_form_fits key k true [] rest q.1 refl
      (takes_none (indented_open key) rest s))) (indented_form_fits value k true ls after p.1 l t))
  pair_form_fits (asked_alone key) k bol ls after h l t =
      let more : List ℕ = comments_text ls ++ after in
      let p : (not (first ns (indented_text key k ++ more)) && not (is_omitted key) ≡ true)
      × (indented_fits key k true more ≡ true) = and_parts _ _ h in
      rw (indented_before key k ls after, omitted_same key ls) (and_from _ _ p.0 (indented_form_fits key k true ls after p.1 l t))
  pair_form_fits (keyed key gap value) k bol ls after h l t =
      let rest : List ℕ = gap ++ (58 ∷ (node_text value ++ (comments_text ls ++ after))) in
      let p : (flow_fits key 0 block_key bol rest && list_all white gap && short_key key gap ≡ true)
      × (node_fits value (suc k) true false (comments_text ls ++ after) ≡ true) = and_parts _ _ h in
      let q : (flow_fits key 0 block_key bol rest && list_all white gap ≡ true) × (short_key key gap ≡ true) = and_parts _ _ p.0 in
      let r : (flow_fits key 0 block_key bol rest ≡ true) × (list_all white gap ≡ true) = and_parts _ _ q.0 in
      rw (node_before value ls after, flow_form_text key)
      (and_from _ _ (and_from _ _ (and_from _ _ (flow_form_fits key 0 block_key bol rest r.0) r.1) q.1)
      (node_form_fits value (suc k) true false ls after p.1 l t))
  pair_form_fits (keyed_alone key gap comments) k bol ls after h l t =
      let rest : List ℕ = gap ++ (58 ∷ (comments_text comments ++ (comments_text ls ++ after))) in
      let p : (flow_fits key 0 block_key bol rest && list_all white gap && short_key key gap ≡ true)
      × (comments_fit false comments (comments_text ls ++ after) ≡ true) = and_parts _ _ h in
      let q : (flow_fits key 0 block_key bol rest && list_all white gap ≡ true) × (short_key key gap ≡ true) = and_parts _ _ p.0 in
      let r : (flow_fits key 0 block_key bol rest ≡ true) × (list_all white gap ≡ true) = and_parts _ _ q.0 in
      rw (joined_before comments ls after, flow_form_text key)
      (and_from _ _ (and_from _ _ (and_from _ _ (flow_form_fits key 0 block_key bol rest r.0) r.1) q.1)
      (comments_form_fit false comments ls after p.1 l t))

  -- and that of what comes after a sign
  indented_form_fits : (i : Indented) (k : ℕ) (shallow : Bool) (ls : List LineEnd) (after : List ℕ)
      → indented_fits i k shallow (comments_text ls ++ after) ≡ true
      → comments_fit true ls after ≡ true → takes (indented_open i) ls after ≡ true
      → canonical_indented (indented_form i ls) k shallow after ≡ true
  indented_form_fits (compact_items s is) k shallow ls after h l t =
      let p : (nat_le 1 s ≡ true) × (items_fit is (k + 1 + s) (comments_text ls ++ after) ≡ true) = and_parts _ _ h in
      and_from _ _ p.0 (items_form_fit is (k + 1 + s) ls after p.1 l t)
  indented_form_fits (compact_pairs s ps) k shallow ls after h l t =
      let p : (nat_le 1 s ≡ true) × (pairs_fit ps (k + 1 + s) false (comments_text ls ++ after) ≡ true) = and_parts _ _ h in
      and_from _ _ p.0 (pairs_form_fit ps (k + 1 + s) false ls after p.1 l t)
  indented_form_fits (node n) k shallow ls after h l t = node_form_fits n (suc k) shallow false ls after h l t
  indented_form_fits (omitted comments) k shallow ls after h l t = comments_form_fit false comments ls after h l t
