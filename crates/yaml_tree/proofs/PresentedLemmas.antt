-- The events of a presentation are those of documents, each of which holds one value.
use Rattle.std.proofs.Common.{◌≡◌, ℕ, true, false, List, [], ◌∷◌, ◌++◌, Option, Some, None, append_assoc, refl, sym, ap, ap₂, ◌∙◌, arith}
use Rattle.std.specs.Prelude.{suc}
use Rattle.yaml_tree.proofs.Prelude.{append-nil, seq_end, map_end, document_end, as_seq, as_map, as_document, Reads, Shape, document_from}
use Rattle.yaml_tree.proofs.{Prelude.{document_to, seq_from, seq_to, map_from, map_to, shape, shapes}, StartLemmas.{starts, starts_counted}}
use Rattle.yaml_tree.{proofs.StartLemmas.nested_starts, specs.{Reading.document_count, Nested.{Nested, text, sequence, mapping, Values}}}
use Rattle.yaml_tree.specs.Nested.{no_value, value, Pairs, no_pair, pair, nested_shapes, values_shapes, pairs_shapes}
use Rattle.yaml_grammar.specs.BlockNodes.{Node, Items, Pair, Indented, node_events, items_events, pairs_events, pair_events}
use Rattle.yaml_grammar.specs.{BlockNodes.indented_events, BlockScalars.block_value, Events.Event, FlowNodes.{Flow, Entries, Entry, Value}}
use Rattle.yaml_grammar.specs.{FlowNodes.{flow_events, entries_events, entry_events, value_events}, FlowScalars.scalar_value}
use Rattle.yaml_grammar.specs.Streams.{Explicit, content, nothing, Document, bare, explicit, directed, Part, suffixes, line, further}
use Rattle.yaml_grammar.specs.Streams.{Stream, explicit_events, document_events, optional_document_events, part_events, parts_events}
use Rattle.yaml_grammar.specs.Streams.{stream_events}
use Rattle.yaml_grammar.specs.BlockNodes as blocks
use Rattle.yaml_grammar.specs.FlowNodes as flows

-- the shapes of two lists of events, one after the other
pub shapes-append : (xs ys : List Event) → shapes (xs ++ ys) ≡ shapes xs ++ shapes ys
shapes-append [] ys = refl
shapes-append (x ∷ xs) ys = ap (λ ss. shape x ∷ ss) (shapes-append xs ys)

-- ---- flow nodes

abbrev mutual
  flow_value : Flow → Nested
  flow_value (flows.scalar s) = text (scalar_value s)
  flow_value (flows.seq gap es) = sequence (seq_values es)
  flow_value (flows.map gap es) = mapping (map_pairs es)

  seq_values : Entries → Values
  seq_values flows.none = no_value
  seq_values (flows.last e gap) = value (entry_value e) no_value
  seq_values (flows.next e before after es) = value (entry_value e) (seq_values es)

  map_pairs : Entries → Pairs
  map_pairs flows.none = no_pair
  map_pairs (flows.last e gap) = entry_pair e no_pair
  map_pairs (flows.next e before after es) = entry_pair e (map_pairs es)

  entry_value : Entry → Nested
  entry_value (flows.entry None key flows.absent) = flow_value key
  entry_value (flows.entry None key (flows.empty gap)) = mapping (pair (flow_value key) (text []) no_pair)
  entry_value (flows.entry None key (flows.given before after f)) = mapping (pair (flow_value key) (flow_value f) no_pair)
  entry_value (flows.entry (Some sep) key v) = mapping (pair (flow_value key) (given_value v) no_pair)

  entry_pair : Entry → Pairs → Pairs
  entry_pair (flows.entry ask key v) ps = pair (flow_value key) (given_value v) ps

  given_value : Value → Nested
  given_value flows.absent = text []
  given_value (flows.empty gap) = text []
  given_value (flows.given before after f) = flow_value f

-- a key and a value, and what follows
two_shapes : (xs ys : List Event) (k v : Nested) (ps : Pairs) → shapes xs ≡ nested_shapes k → shapes ys ≡ nested_shapes v
    → shapes (xs ++ ys) ++ pairs_shapes ps ≡ pairs_shapes (pair k v ps)
two_shapes xs ys k v ps e f =
    ap (λ ss. ss ++ pairs_shapes ps) (shapes-append xs ys ∙ ap₂ (λ ss ts. ss ++ ts) e f)
    ∙ append_assoc (nested_shapes k) (nested_shapes v) (pairs_shapes ps)

-- a mapping of one pair
one_pair : (xs ys : List Event) (k v : Nested) → shapes xs ≡ nested_shapes k → shapes ys ≡ nested_shapes v
    → shapes (as_map (xs ++ ys)) ≡ nested_shapes (mapping (pair k v no_pair))
one_pair xs ys k v e f =
    ap (λ ss. map_from ∷ ss) (shapes-append (xs ++ ys) (map_end ∷ []))
    ∙ ap (λ ss. map_from ∷ (ss ++ map_to ∷ [])) (sym (append-nil (shapes (xs ++ ys))) ∙ two_shapes xs ys k v no_pair e f)

seq_shapes : (xs : List Event) (vs : Values) → shapes xs ≡ values_shapes vs → shapes (as_seq xs) ≡ nested_shapes (sequence vs)
seq_shapes xs vs e = ap (λ ss. seq_from ∷ ss) (shapes-append xs (seq_end ∷ [])) ∙ ap (λ ss. seq_from ∷ (ss ++ seq_to ∷ [])) e

map_shapes : (xs : List Event) (ps : Pairs) → shapes xs ≡ pairs_shapes ps → shapes (as_map xs) ≡ nested_shapes (mapping ps)
map_shapes xs ps e = ap (λ ss. map_from ∷ ss) (shapes-append xs (map_end ∷ [])) ∙ ap (λ ss. map_from ∷ (ss ++ map_to ∷ [])) e

values_more : (xs ys : List Event) (v : Nested) (vs : Values) → shapes xs ≡ nested_shapes v → shapes ys ≡ values_shapes vs
    → shapes (xs ++ ys) ≡ values_shapes (value v vs)
values_more xs ys v vs e f = shapes-append xs ys ∙ ap₂ (λ ss ts. ss ++ ts) e f

mutual
  flow_shapes : (f : Flow) (at : ℕ) → shapes (flow_events f at) ≡ nested_shapes (flow_value f)
  flow_shapes (flows.scalar s) at = refl
  flow_shapes (flows.seq gap es) at = seq_shapes _ (seq_values es) (seq_entries es _)
  flow_shapes (flows.map gap es) at = map_shapes _ (map_pairs es) (map_entries es _)

  seq_entries : (es : Entries) (at : ℕ) → shapes (entries_events es true at) ≡ values_shapes (seq_values es)
  seq_entries flows.none at = refl
  seq_entries (flows.last e gap) at = seq_entry e at ∙ sym (append-nil (nested_shapes (entry_value e)))
  seq_entries (flows.next e before after es) at =
      values_more (entry_events e true at) _ (entry_value e) (seq_values es) (seq_entry e at) (seq_entries es _)

  map_entries : (es : Entries) (at : ℕ) → shapes (entries_events es false at) ≡ pairs_shapes (map_pairs es)
  map_entries flows.none at = refl
  map_entries (flows.last e gap) at = sym (append-nil (shapes (entry_events e false at))) ∙ map_entry e at no_pair
  map_entries (flows.next e before after es) at =
      shapes-append (entry_events e false at) _ ∙ ap (λ ss. shapes (entry_events e false at) ++ ss) (map_entries es _)
      ∙ map_entry e at (map_pairs es)

  seq_entry : (e : Entry) (at : ℕ) → shapes (entry_events e true at) ≡ nested_shapes (entry_value e)
  seq_entry (flows.entry None key flows.absent) at = flow_shapes key _
  seq_entry (flows.entry None key (flows.empty gap)) at = one_pair _ _ (flow_value key) (text []) (flow_shapes key _) refl
  seq_entry (flows.entry None key (flows.given before after f)) at =
      one_pair _ _ (flow_value key) (flow_value f) (flow_shapes key _) (flow_shapes f _)
  seq_entry (flows.entry (Some sep) key v) at = one_pair _ _ (flow_value key) (given_value v) (flow_shapes key _) (given_shapes v _)

  map_entry : (e : Entry) (at : ℕ) (ps : Pairs) → shapes (entry_events e false at) ++ pairs_shapes ps ≡ pairs_shapes (entry_pair e ps)
  map_entry (flows.entry ask key v) at ps = two_shapes _ _ (flow_value key) (given_value v) ps (flow_shapes key _) (given_shapes v _)

  given_shapes : (v : Value) (at : ℕ) → shapes (value_events v at) ≡ nested_shapes (given_value v)
  given_shapes flows.absent at = refl
  given_shapes (flows.empty gap) at = refl
  given_shapes (flows.given before after f) at = flow_shapes f _

-- ---- block nodes

abbrev mutual
  node_value : Node → Nested
  node_value (blocks.block sep b) = text (block_value (b.header).folded (b.header).chomping (b.body).empties (b.body).texts)
  node_value (blocks.flow sep f comments) = flow_value f
  node_value (blocks.items comments k is) = sequence (items_values is)
  node_value (blocks.pairs comments k ps) = mapping (pairs_values ps)

  items_values : Items → Values
  items_values (blocks.item i) = value (indented_value i) no_value
  items_values (blocks.item_and i is) = value (indented_value i) (items_values is)

  pairs_values : blocks.Pairs → Pairs
  pairs_values (blocks.pair p) = pair_onto p no_pair
  pairs_values (blocks.pair_and p ps) = pair_onto p (pairs_values ps)

  pair_onto : Pair → Pairs → Pairs
  pair_onto (blocks.asked key v) ps = pair (indented_value key) (indented_value v) ps
  pair_onto (blocks.asked_alone key) ps = pair (indented_value key) (text []) ps
  pair_onto (blocks.keyed key gap v) ps = pair (flow_value key) (node_value v) ps
  pair_onto (blocks.keyed_alone key gap comments) ps = pair (flow_value key) (text []) ps

  indented_value : Indented → Nested
  indented_value (blocks.compact_items s is) = sequence (items_values is)
  indented_value (blocks.compact_pairs s ps) = mapping (pairs_values ps)
  indented_value (blocks.node n) = node_value n
  indented_value (blocks.omitted comments) = text []

mutual
  node_shapes : (n : Node) (at : ℕ) → shapes (node_events n at) ≡ nested_shapes (node_value n)
  node_shapes (blocks.block sep b) at = refl
  node_shapes (blocks.flow sep f comments) at = flow_shapes f _
  node_shapes (blocks.items comments k is) at = seq_shapes _ (items_values is) (items_shapes is k _)
  node_shapes (blocks.pairs comments k ps) at = map_shapes _ (pairs_values ps) (block_pairs_shapes ps k _)

  items_shapes : (is : Items) (k at : ℕ) → shapes (items_events is k at) ≡ values_shapes (items_values is)
  items_shapes (blocks.item i) k at = indented_shapes i k _ ∙ sym (append-nil (nested_shapes (indented_value i)))
  items_shapes (blocks.item_and i is) k at = values_more _ _ (indented_value i) (items_values is)
      (indented_shapes i k _) (items_shapes is k _)

  block_pairs_shapes : (ps : blocks.Pairs) (k at : ℕ) → shapes (pairs_events ps k at) ≡ pairs_shapes (pairs_values ps)
  block_pairs_shapes (blocks.pair p) k at = sym (append-nil (shapes (pair_events p k at))) ∙ pair_shapes p k at no_pair
  block_pairs_shapes (blocks.pair_and p ps) k at =
      shapes-append (pair_events p k at) _ ∙ ap (λ ss. shapes (pair_events p k at) ++ ss) (block_pairs_shapes ps k _)
      ∙ pair_shapes p k at (pairs_values ps)

  pair_shapes : (p : Pair) (k at : ℕ) (rest : Pairs) → shapes (pair_events p k at) ++ pairs_shapes rest ≡ pairs_shapes (pair_onto p rest)
  pair_shapes (blocks.asked key v) k at rest =
      two_shapes _ _ (indented_value key) (indented_value v) rest (indented_shapes key k _) (indented_shapes v k _)
  pair_shapes (blocks.asked_alone key) k at rest = two_shapes _ _ (indented_value key) (text []) rest (indented_shapes key k _) refl
  pair_shapes (blocks.keyed key gap v) k at rest = two_shapes _ _ (flow_value key) (node_value v) rest (flow_shapes key _) (node_shapes v _)
  pair_shapes (blocks.keyed_alone key gap comments) k at rest = two_shapes _ _ (flow_value key) (text []) rest (flow_shapes key _) refl

  indented_shapes : (i : Indented) (k at : ℕ) → shapes (indented_events i k at) ≡ nested_shapes (indented_value i)
  indented_shapes (blocks.compact_items s is) k at = seq_shapes _ (items_values is) (items_shapes is _ _)
  indented_shapes (blocks.compact_pairs s ps) k at = map_shapes _ (pairs_values ps) (block_pairs_shapes ps _ _)
  indented_shapes (blocks.node n) k at = node_shapes n at
  indented_shapes (blocks.omitted comments) k at = refl

-- ---- streams

abbrev documents_shapes : List Nested → List Shape
documents_shapes [] = []
documents_shapes (v ∷ vs) = document_from ∷ (nested_shapes v ++ document_to ∷ documents_shapes vs)

documents-append : (us vs : List Nested) → documents_shapes (us ++ vs) ≡ documents_shapes us ++ documents_shapes vs
documents-append [] vs = refl
documents-append (u ∷ us) vs =
    ap (λ ss. document_from ∷ (nested_shapes u ++ document_to ∷ ss)) (documents-append us vs)
    ∙ ap (λ ss. document_from ∷ ss) (sym (append_assoc (nested_shapes u) (document_to ∷ documents_shapes us) (documents_shapes vs)))

one_document : (xs : List Event) (v : Nested) → shapes xs ≡ nested_shapes v → shapes (as_document xs) ≡ documents_shapes (v ∷ [])
one_document xs v e =
    ap (λ ss. document_from ∷ ss) (shapes-append xs (document_end ∷ [])) ∙ ap (λ ss. document_from ∷ (ss ++ document_to ∷ [])) e

abbrev explicit_value : Explicit → Nested
explicit_value (content n) = node_value n
explicit_value (nothing comments) = text []

abbrev document_value : Document → Nested
document_value (bare n) = node_value n
document_value (explicit x) = explicit_value x
document_value (directed blank version comments x) = explicit_value x

abbrev optional_values : Option Document → List Nested
optional_values None = []
optional_values (Some d) = document_value d ∷ []

abbrev part_values : Part → List Nested
part_values (suffixes one more prefix document) = optional_values document
part_values (line e) = []
part_values (further x) = explicit_value x ∷ []

abbrev parts_values : List Part → List Nested
parts_values [] = []
parts_values (p ∷ ps) = part_values p ++ parts_values ps

explicit_shapes : (x : Explicit) (at : ℕ) → shapes (explicit_events x at) ≡ documents_shapes (explicit_value x ∷ [])
explicit_shapes (content n) at = one_document _ (node_value n) (node_shapes n _)
explicit_shapes (nothing comments) at = refl

document_shapes : (d : Document) (at : ℕ) → shapes (document_events d at) ≡ documents_shapes (document_value d ∷ [])
document_shapes (bare n) at = one_document _ (node_value n) (node_shapes n _)
document_shapes (explicit x) at = explicit_shapes x at
document_shapes (directed blank version comments x) at = explicit_shapes x _

optional_shapes : (d : Option Document) (at : ℕ) → shapes (optional_document_events d at) ≡ documents_shapes (optional_values d)
optional_shapes None at = refl
optional_shapes (Some d) at = document_shapes d at

part_shapes : (p : Part) (at : ℕ) → shapes (part_events p at) ≡ documents_shapes (part_values p)
part_shapes (suffixes one more prefix document) at = optional_shapes document _
part_shapes (line e) at = refl
part_shapes (further x) at = explicit_shapes x at

parts_shapes : (ps : List Part) (at : ℕ) → shapes (parts_events ps at) ≡ documents_shapes (parts_values ps)
parts_shapes [] at = refl
parts_shapes (p ∷ ps) at =
    shapes-append (part_events p at) _ ∙ ap₂ (λ ss ts. ss ++ ts) (part_shapes p at) (parts_shapes ps _)
    ∙ sym (documents-append (part_values p) (parts_values ps))

stream_shapes : (s : Stream) → shapes (stream_events s) ≡ documents_shapes (optional_values s.document ++ parts_values s.parts)
stream_shapes s =
    shapes-append (optional_document_events s.document _) _
    ∙ ap₂ (λ ss ts. ss ++ ts) (optional_shapes s.document _) (parts_shapes s.parts _)
    ∙ sym (documents-append (optional_values s.document) (parts_values s.parts))

-- ---- one document

documents_starts : (v : Nested) (vs : List Nested) → starts (documents_shapes (v ∷ vs)) ≡ suc (starts (documents_shapes vs))
documents_starts v vs = ap suc (nested_starts v (document_to ∷ documents_shapes vs))

-- the value that a document holds, whose events these shapes are
pub record OneValue (ss : List Shape) : Type 0 where
  pub value : Nested
  pub are : ss ≡ document_from ∷ (nested_shapes value ++ document_to ∷ [])

one_value : (vs : List Nested) → starts (documents_shapes vs) ≡ 1 → OneValue (documents_shapes vs)
one_value [] e = absurd (omega arith)
one_value (v ∷ []) e = record { value = v; are = refl }
one_value (v ∷ w ∷ vs) e =
    let one = documents_starts v (w ∷ vs) in
    let two = documents_starts w vs in
    absurd (omega (arith, e, one, two))

-- the events of a text with one document are those of one value
pub document_nested : (source : List ℕ) (es : List Event) → Reads source es → document_count es ≡ 1 → OneValue (shapes es)
document_nested source es reads one =
    let some = reads.some in
    let s = some.presentation in
    let vs = optional_values s.document ++ parts_values s.parts in
    let are : shapes es ≡ documents_shapes vs = ap shapes (sym some.means) ∙ stream_shapes s in
    let found = one_value vs (ap starts (sym are) ∙ sym (starts_counted es) ∙ one) in
    record { value = found.value; are = are ∙ found.are }
