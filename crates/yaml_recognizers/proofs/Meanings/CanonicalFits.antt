-- What is canonical fits, as the grammar says it.
use Rattle.std.{proofs.Common.{refl, ◌≡◌}, specs.Prelude.{Bool, List, None, Option, Some, cond, false, not, suc, true, ℕ, ◌&&◌, ◌++◌, ◌+◌}}
use Rattle.std.specs.Prelude.{◌==◌}
use Rattle.yaml_recognizers.proofs.Prelude.{and_from, and_parts, white, Indented, Items, Node, Pair, Pairs, asked, asked_alone, block}
use Rattle.yaml_recognizers.proofs.Prelude.{compact_items, compact_pairs, flow, indented_fits, item, item_and, items, items_fit, keyed}
use Rattle.yaml_recognizers.proofs.Prelude.{keyed_alone, node, node_fits, omitted, pair, pair_and, pair_fits, pairs, pairs_fit, BlockScalar}
use Rattle.yaml_recognizers.proofs.Prelude.{block_fits, Entries, Entry, Flow, Value, absent, empty, entries_fit, entry, entry_fits}
use Rattle.yaml_recognizers.proofs.Prelude.{flow_fits, given, last, map, next, none, scalar, seq, single_pair, value_fits, FlowContext}
use Rattle.yaml_recognizers.proofs.Prelude.{block_key, flow_key, in_flow, one_line, outer, LineEnd, Sep, comments_fit, gap_fits, indents}
use Rattle.yaml_recognizers.proofs.Prelude.{inline, lines, sep_fits, Document, Explicit, bare, content, directed, document_fits, explicit}
use Rattle.yaml_recognizers.proofs.Prelude.{explicit_fits, explicit_text, nothing, list_all, is_empty}
use Rattle.yaml_recognizers.specs.CanonicalBlockNodes.{canonical_indented, canonical_items, canonical_node, canonical_pair, canonical_pairs}
use Rattle.yaml_recognizers.specs.{CanonicalBlockScalars.canonical_block, CanonicalComments.{canonical_comments, canonical_gap}}
use Rattle.yaml_recognizers.specs.{CanonicalComments.canonical_sep, CanonicalFlowNodes.{canonical_entries, canonical_entry, canonical_flow}}
use Rattle.yaml_recognizers.specs.{CanonicalFlowNodes.canonical_value, CanonicalStreams.{canonical_document, canonical_explicit}}

-- canonical comments fit
pub comments_fit_too : (bol : Bool) (es : List LineEnd) (after : List ℕ) → canonical_comments bol es after ≡ true
    → comments_fit bol es after ≡ true
comments_fit_too bol es after h = (and_parts _ _ h).0

-- so does a canonical separation
pub sep_fits_too : (n : ℕ) (key bol : Bool) (sep : Sep) (after : List ℕ) → canonical_sep n key bol sep after ≡ true
    → sep_fits n key bol sep after ≡ true
sep_fits_too n key bol (inline blank) after h = h
sep_fits_too n key bol (lines es lead) after h =
    let p : (not key && not (is_empty es) && canonical_comments bol es (lead ++ after) ≡ true)
    × (indents n lead ≡ true) = and_parts _ _ h in
    let q : (not key && not (is_empty es) ≡ true) × (canonical_comments bol es (lead ++ after) ≡ true) = and_parts _ _ p.0 in
    let r : (not key ≡ true) × (not (is_empty es) ≡ true) = and_parts _ _ q.0 in
    and_from _ _ (and_from _ _ r.0 (comments_fit_too bol es (lead ++ after) q.1)) p.1

-- so does a canonical gap
pub gap_fits_too : (n : ℕ) (key : Bool) (gap : Option Sep) (after : List ℕ) → canonical_gap n key gap after ≡ true
    → gap_fits n key gap after ≡ true
gap_fits_too n key None after h = refl
gap_fits_too n key (Some sep) after h = sep_fits_too n key false sep after h

-- ---- flow nodes

-- what leads from each part leads from the choice
either : (b x y x' y' : Bool) → (x ≡ true → x' ≡ true) → (y ≡ true → y' ≡ true) → cond b x y ≡ true → cond b x' y' ≡ true
either true x y x' y' f g h = f h
either false x y x' y' f g h = g h

mutual
  -- so does a canonical flow node
  pub flow_fits_too : (f : Flow) (n : ℕ) (c : FlowContext) (bol : Bool) (after : List ℕ)
      → canonical_flow f n c bol after ≡ true → flow_fits f n c bol after ≡ true
  flow_fits_too (scalar s) n c bol after h = h
  flow_fits_too (seq gap es) n c bol after h =
      let p = and_parts _ _ h in
      and_from _ _ (gap_fits_too n (one_line c) gap _ p.0) (entries_fit_too es n (in_flow c) true _ _ p.1)
  flow_fits_too (map gap es) n c bol after h =
      let p = and_parts _ _ h in
      and_from _ _ (gap_fits_too n (one_line c) gap _ p.0) (entries_fit_too es n (in_flow c) false _ _ p.1)

  -- so do canonical entries
  entries_fit_too : (es : Entries) (n : ℕ) (d : FlowContext) (in_seq bol : Bool) (after : List ℕ)
      → canonical_entries es n d in_seq bol after ≡ true → entries_fit es n d in_seq bol after ≡ true
  entries_fit_too none n d in_seq bol after h = refl
  entries_fit_too (last e gap) n d in_seq bol after h =
      let p = and_parts _ _ h in
      and_from _ _ (entry_fits_too e n d in_seq bol _ p.0) (gap_fits_too n (one_line d) gap _ p.1)
  entries_fit_too (next e before gap_after es) n d in_seq bol after h =
      let p = and_parts _ _ h in
      let q = and_parts _ _ p.0 in
      let r = and_parts _ _ q.0 in
      and_from _ _ (and_from _ _ (and_from _ _ (entry_fits_too e n d in_seq bol _ r.0)
      (gap_fits_too n (one_line d) before _ r.1)) (gap_fits_too n (one_line d) gap_after _ q.1))
      (entries_fit_too es n d in_seq _ _ p.1)

  -- and a canonical entry
  entry_fits_too : (e : Entry) (n : ℕ) (d : FlowContext) (in_seq bol : Bool) (after : List ℕ)
      → canonical_entry e n d in_seq bol after ≡ true → entry_fits e n d in_seq bol after ≡ true
  entry_fits_too (entry ask key value) n d in_seq bol after h =
      let p = and_parts _ _ h in
      let q = and_parts _ _ p.0 in
      and_from _ _
      (and_from _ _ (gap_fits_too n (one_line d) ask _ q.0)
      (either (single_pair in_seq ask value) _ _ _ _
      (λ k. let r = and_parts _ _ k in and_from _ _ (flow_fits_too key 0 flow_key bol _ r.0) r.1)
      (λ k. flow_fits_too key n d _ _ k) q.1))
      (value_fits_too value n d _ _ after p.1)

  -- and a canonical value
  value_fits_too : (v : Value) (n : ℕ) (d : FlowContext) (key after_plain : Bool) (after : List ℕ)
      → canonical_value v n d key after_plain after ≡ true → value_fits v n d key after_plain after ≡ true
  value_fits_too absent n d key after_plain after h = refl
  value_fits_too (empty gap) n d key after_plain after h = let p = and_parts _ _ h in and_from _ _ (gap_fits_too n key gap _ p.0) p.1
  value_fits_too (given before gap_after f) n d key after_plain after h =
      let p = and_parts _ _ h in
      let q = and_parts _ _ p.0 in
      let r = and_parts _ _ q.0 in
      and_from _ _ (and_from _ _ (and_from _ _ (gap_fits_too n key before _ r.0) r.1)
      (gap_fits_too n (one_line d) gap_after _ q.1)) (flow_fits_too f n d _ _ p.1)

-- ---- block nodes

-- so does a canonical block scalar
pub block_fits_too : (m : ℕ) (b : BlockScalar) (after : List ℕ) → canonical_block m b after ≡ true → block_fits m b after ≡ true
block_fits_too m b after h = (and_parts _ _ (and_parts _ _ h).0).0

mutual
  -- so does a canonical block node
  pub node_fits_too : (n : Node) (m : ℕ) (shallow bol : Bool) (after : List ℕ)
      → canonical_node n m shallow bol after ≡ true → node_fits n m shallow bol after ≡ true
  node_fits_too (block sep b) m shallow bol after h =
      let p = and_parts _ _ h in
      and_from _ _ (sep_fits_too m false bol sep _ p.0) (block_fits_too m b after p.1)
  node_fits_too (flow sep f comments) m shallow bol after h =
      let p = and_parts _ _ h in
      let q = and_parts _ _ p.0 in
      and_from _ _ (and_from _ _ (sep_fits_too m false bol sep _ q.0) (flow_fits_too f m outer _ _ q.1))
      (comments_fit_too false comments after p.1)
  node_fits_too (items comments k is) m shallow bol after h =
      let p = and_parts _ _ h in
      let q = and_parts _ _ p.0 in
      and_from _ _ (and_from _ _ (comments_fit_too bol comments _ q.0) q.1) (items_fit_too is k after p.1)
  node_fits_too (pairs comments k ps) m shallow bol after h =
      let p = and_parts _ _ h in
      let q = and_parts _ _ p.0 in
      and_from _ _ (and_from _ _ (comments_fit_too bol comments _ q.0) q.1) (pairs_fit_too ps k (k == 0) after p.1)

  -- so do canonical items
  items_fit_too : (is : Items) (k : ℕ) (after : List ℕ) → canonical_items is k after ≡ true → items_fit is k after ≡ true
  items_fit_too (item i) k after h = let p = and_parts _ _ h in and_from _ _ p.0 (indented_fits_too i k false after p.1)
  items_fit_too (item_and i is) k after h =
      let p = and_parts _ _ h in
      let q = and_parts _ _ p.0 in
      and_from _ _ (and_from _ _ q.0 (indented_fits_too i k false _ q.1)) (items_fit_too is k after p.1)

  -- and canonical pairs
  pairs_fit_too : (ps : Pairs) (k : ℕ) (bol : Bool) (after : List ℕ) → canonical_pairs ps k bol after ≡ true
      → pairs_fit ps k bol after ≡ true
  pairs_fit_too (pair p) k bol after h = pair_fits_too p k bol after h
  pairs_fit_too (pair_and p ps) k bol after h = let q = and_parts _ _ h in
      and_from _ _ (pair_fits_too p k bol _ q.0) (pairs_fit_too ps k (k == 0) after q.1)

  -- and a canonical pair
  pair_fits_too : (p : Pair) (k : ℕ) (bol : Bool) (after : List ℕ) → canonical_pair p k bol after ≡ true → pair_fits p k bol after ≡ true
  pair_fits_too (asked key value) k bol after h =
      let p = and_parts _ _ h in
      let q = and_parts _ _ p.0 in
      and_from _ _ (and_from _ _ q.0 (indented_fits_too key k true _ q.1)) (indented_fits_too value k true after p.1)
  pair_fits_too (asked_alone key) k bol after h = let p = and_parts _ _ h in and_from _ _ p.0 (indented_fits_too key k true after p.1)
  pair_fits_too (keyed key gap value) k bol after h =
      let p = and_parts _ _ h in
      let q = and_parts _ _ p.0 in
      let r = and_parts _ _ q.0 in
      and_from _ _ (and_from _ _ (and_from _ _ (flow_fits_too key 0 block_key bol _ r.0) r.1) q.1)
      (node_fits_too value (suc k) true false after p.1)
  pair_fits_too (keyed_alone key gap comments) k bol after h =
      let p = and_parts _ _ h in
      let q = and_parts _ _ p.0 in
      let r = and_parts _ _ q.0 in
      and_from _ _ (and_from _ _ (and_from _ _ (flow_fits_too key 0 block_key bol _ r.0) r.1) q.1)
      (comments_fit_too false comments after p.1)

  -- and what comes after a sign, in its canonical form
  indented_fits_too : (i : Indented) (k : ℕ) (shallow : Bool) (after : List ℕ)
      → canonical_indented i k shallow after ≡ true → indented_fits i k shallow after ≡ true
  indented_fits_too (compact_items s is) k shallow after h = let p = and_parts _ _ h in
      and_from _ _ p.0 (items_fit_too is (k + 1 + s) after p.1)
  indented_fits_too (compact_pairs s ps) k shallow after h = let p = and_parts _ _ h in
      and_from _ _ p.0 (pairs_fit_too ps (k + 1 + s) false after p.1)
  indented_fits_too (node n) k shallow after h = node_fits_too n (suc k) shallow false after h
  indented_fits_too (omitted comments) k shallow after h = comments_fit_too false comments after h

-- ---- documents

-- so does what follows `---`
pub explicit_fits_too : (x : Explicit) (bol : Bool) (after : List ℕ) → canonical_explicit x bol after ≡ true
    → explicit_fits x bol after ≡ true
explicit_fits_too (content n) bol after h = let p = and_parts _ _ h in and_from _ _ p.0 (node_fits_too n 0 false false after p.1)
explicit_fits_too (nothing comments) bol after h = let p = and_parts _ _ h in and_from _ _ p.0 (comments_fit_too false comments after p.1)

-- so does a canonical document
pub document_fits_too : (d : Document) (opened bol : Bool) (after : List ℕ)
    → canonical_document d opened bol after ≡ true → document_fits d bol after ≡ true
document_fits_too (bare n) opened bol after h = node_fits_too n 0 false bol after (and_parts _ _ h).1
document_fits_too (explicit x) opened bol after h = explicit_fits_too x bol after h
document_fits_too (directed blank version comments x) opened bol after h =
    let p : (opened && bol && list_all white blank && not (is_empty blank)
    && canonical_comments false comments (explicit_text x ++ after) ≡ true)
    × (canonical_explicit x true after ≡ true) = and_parts _ _ h in
    let q : (opened && bol && list_all white blank && not (is_empty blank) ≡ true)
    × (canonical_comments false comments (explicit_text x ++ after) ≡ true) = and_parts _ _ p.0 in
    let r : (opened && bol && list_all white blank ≡ true) × (not (is_empty blank) ≡ true) = and_parts _ _ q.0 in
    let s : (opened && bol ≡ true) × (list_all white blank ≡ true) = and_parts _ _ r.0 in
    let t : (opened ≡ true) × (bol ≡ true) = and_parts _ _ s.0 in
    and_from _ _ (and_from _ _ (and_from _ _ (and_from _ _ t.1 s.1) r.1)
    (comments_fit_too false comments (explicit_text x ++ after) q.1)) (explicit_fits_too x true after p.1)
