-- The nodes of a presentation, each with its place in the text and what is around it. The places count bytes, as ranges
-- do. Numbers, contexts and bol are those of the grammar's conditions.
use Rattle.std.specs.Prelude.{◌≡◌, ℕ, suc, ◌+◌, Bool, true, false, ◌==◌, List, [], ◌∷◌, ◌++◌, Option, Some, None, is_some, flat_map, codes}
use Rattle.std.specs.Prelude.{if◌then◌else◌}
use Rattle.yaml_recognizers.specs.Prelude.{byte_len, optional, spaces, starts_line, comments_text, gap_text, sep_text, FlowContext, outer}
use Rattle.yaml_recognizers.specs.Prelude.{block_key, flow_key, in_flow, Flow, scalar, seq, map, Entries, none, last, next, Entry, entry}
use Rattle.yaml_recognizers.specs.Prelude.{Value, absent, empty, given, asked_text, single_pair, flow_text, entries_text, entry_text}
use Rattle.yaml_recognizers.specs.Prelude.{value_text, Node, block, flow, items, pairs, Items, item, item_and, Pairs, pair, pair_and, Pair}
use Rattle.yaml_recognizers.specs.Prelude.{asked, asked_alone, keyed, keyed_alone, Indented, compact_items, compact_pairs, node, omitted}
use Rattle.yaml_recognizers.specs.Prelude.{node_text, items_text, pairs_text, pair_text, indented_text, Explicit, content, nothing}
use Rattle.yaml_recognizers.specs.Prelude.{Document, bare, explicit, directed, Part, suffixes, line, further, Stream, directive_text}
use Rattle.yaml_recognizers.specs.{Prelude.{document_text, mark_text, suffix_text, part_text, parts_text}, StandingNodes.FlowNodeStands}
use Rattle.yaml_recognizers.specs.StandingNodes.{BlockNodeStands}

-- A flow node at n in a context, or a block node at m. Here bol says whether a line starts at its place, and `after`
-- is the text after it.
pub data NodePlace : Type 0 where
  flow_at : (n : ℕ) (c : FlowContext) (bol : Bool) (at : ℕ) (f : Flow) (after : List ℕ) → NodePlace
  block_at : (m : ℕ) (shallow bol : Bool) (at : ℕ) (node : Node) (after : List ℕ) → NodePlace

-- ---- in flow nodes: an entry between brackets has a key and perhaps a value

abbrev mutual
  -- the nodes in a flow node, and itself
  pub flow_places : Flow → ℕ → FlowContext → Bool → ℕ → List ℕ → List NodePlace
  flow_places (scalar s) n c bol at after = flow_at n c bol at (scalar s) after ∷ []
  flow_places (seq gap es) n c bol at after =
      flow_at n c bol at (seq gap es) after
      ∷ entries_places es n (in_flow c) true (starts_line false (gap_text gap)) (at + 1 + byte_len (gap_text gap))
      (codes "]" ++ after)
  flow_places (map gap es) n c bol at after =
      flow_at n c bol at (map gap es) after
      ∷ entries_places es n (in_flow c) false (starts_line false (gap_text gap)) (at + 1 + byte_len (gap_text gap))
      (codes "}" ++ after)

  -- the nodes in entries
  pub entries_places : Entries → ℕ → FlowContext → Bool → Bool → ℕ → List ℕ → List NodePlace
  entries_places none n d in_seq bol at after = []
  entries_places (last e gap) n d in_seq bol at after = entry_places e n d in_seq bol at (gap_text gap ++ after)
  entries_places (next e before gap_after es) n d in_seq bol at after =
      let later = at + byte_len (entry_text e) + byte_len (gap_text before) + 1 + byte_len (gap_text gap_after) in
      entry_places e n d in_seq bol at
      (gap_text before ++ (codes "," ++ (gap_text gap_after ++ (entries_text es ++ after))))
      ++ entries_places es n d in_seq (starts_line false (gap_text gap_after)) later after

  -- the nodes in an entry; the key of a single pair is at 0 in flow_key
  pub entry_places : Entry → ℕ → FlowContext → Bool → Bool → ℕ → List ℕ → List NodePlace
  entry_places (entry ask key value) n d in_seq bol at after =
      let place = at + byte_len (asked_text ask) in
      let rest = value_text value ++ after in
      (if single_pair in_seq ask value
      then flow_places key 0 flow_key bol place rest
      else flow_places key n d (if is_some ask then starts_line false (gap_text ask) else bol) place rest)
      ++ value_places value n d (place + byte_len (flow_text key)) after

  -- the nodes in a value
  pub value_places : Value → ℕ → FlowContext → ℕ → List ℕ → List NodePlace
  value_places absent n d at after = []
  value_places (empty gap) n d at after = []
  value_places (given before gap_after f) n d at after =
      flow_places f n d (starts_line false (gap_text gap_after))
      (at + byte_len (gap_text before) + 1 + byte_len (gap_text gap_after)) after

-- ---- in block nodes: a leaf is a flow node at m in outer, a key of a block mapping one at 0 in block_key

abbrev mutual
  -- the nodes in a block node, and itself
  pub node_places : Node → ℕ → Bool → Bool → ℕ → List ℕ → List NodePlace
  node_places (block sep b) m shallow bol at after = block_at m shallow bol at (block sep b) after ∷ []
  node_places (flow sep f comments) m shallow bol at after =
      block_at m shallow bol at (flow sep f comments) after
      ∷ flow_places f m outer (starts_line bol (sep_text sep)) (at + byte_len (sep_text sep))
      (comments_text comments ++ after)
  node_places (items comments k is) m shallow bol at after =
      block_at m shallow bol at (items comments k is) after
      ∷ items_places is k (at + byte_len (comments_text comments) + k) after
  node_places (pairs comments k ps) m shallow bol at after =
      block_at m shallow bol at (pairs comments k ps) after
      ∷ pairs_places ps k (k == 0) (at + byte_len (comments_text comments) + k) after

  -- the nodes in items
  pub items_places : Items → ℕ → ℕ → List ℕ → List NodePlace
  items_places (item i) k at after = indented_places i k false (at + 1) after
  items_places (item_and i is) k at after =
      indented_places i k false (at + 1) (spaces k ++ (items_text is k ++ after))
      ++ items_places is k (at + 1 + byte_len (indented_text i k) + k) after

  -- the nodes in pairs
  pub pairs_places : Pairs → ℕ → Bool → ℕ → List ℕ → List NodePlace
  pairs_places (pair p) k bol at after = pair_places p k bol at after
  pairs_places (pair_and p ps) k bol at after =
      pair_places p k bol at (spaces k ++ (pairs_text ps k ++ after))
      ++ pairs_places ps k (k == 0) (at + byte_len (pair_text p k) + k) after

  -- the nodes in a pair
  pub pair_places : Pair → ℕ → Bool → ℕ → List ℕ → List NodePlace
  pair_places (asked key value) k bol at after =
      indented_places key k true (at + 1) (spaces k ++ (codes ":" ++ (indented_text value k ++ after)))
      ++ indented_places value k true (at + 1 + byte_len (indented_text key k) + k + 1) after
  pair_places (asked_alone key) k bol at after = indented_places key k true (at + 1) after
  pair_places (keyed key gap value) k bol at after =
      flow_places key 0 block_key bol at (gap ++ (codes ":" ++ (node_text value ++ after)))
      ++ node_places value (suc k) true false (at + byte_len (flow_text key) + byte_len gap + 1) after
  pair_places (keyed_alone key gap comments) k bol at after =
      flow_places key 0 block_key bol at (gap ++ (codes ":" ++ (comments_text comments ++ after)))

  -- the nodes in what comes after a sign
  pub indented_places : Indented → ℕ → Bool → ℕ → List ℕ → List NodePlace
  indented_places (compact_items s is) k shallow at after = items_places is (k + 1 + s) (at + s) after
  indented_places (compact_pairs s ps) k shallow at after = pairs_places ps (k + 1 + s) false (at + s) after
  indented_places (node n) k shallow at after = node_places n (suc k) shallow false at after
  indented_places (omitted comments) k shallow at after = []

-- ---- in streams: the node of a document is at 0

-- the nodes after `---`
abbrev pub explicit_places : Explicit → ℕ → List ℕ → List NodePlace
explicit_places (content n) at after = node_places n 0 false false (at + 3) after
explicit_places (nothing comments) at after = []

-- the nodes of a document
abbrev pub document_places : Document → Bool → ℕ → List ℕ → List NodePlace
document_places (bare n) bol at after = node_places n 0 false bol at after
document_places (explicit x) bol at after = explicit_places x at after
document_places (directed blank version comments x) bol at after =
    explicit_places x (at + byte_len (directive_text blank version comments)) after

-- the nodes of a document that may be left out
abbrev pub optional_document_places : Option Document → ℕ → List ℕ → List NodePlace
optional_document_places None at after = []
optional_document_places (Some d) at after = document_places d true at after

-- the nodes of a part
abbrev pub part_places : Part → ℕ → List ℕ → List NodePlace
part_places (suffixes one more prefix document) at after =
    optional_document_places document
    (at + byte_len (suffix_text one) + byte_len (flat_map suffix_text more) + byte_len (comments_text prefix)) after
part_places (line e) at after = []
part_places (further x) at after = explicit_places x at after

-- the nodes of parts
abbrev pub parts_places : List Part → ℕ → List NodePlace
parts_places [] at = []
parts_places (p ∷ ps) at = part_places p at (parts_text ps) ++ parts_places ps (at + byte_len (part_text p))

-- all nodes of a presentation
abbrev pub stream_places : Stream → List NodePlace
stream_places s =
    let at = (if s.mark then 3 else 0) + byte_len (comments_text s.prefix) in
    optional_document_places s.document at (parts_text s.parts)
    ++ parts_places s.parts (at + byte_len (optional document_text s.document))

-- ---- what holds of each

-- the node fits where it is, and what comes after it ends it
abbrev pub NodeStands : NodePlace → Type 0
NodeStands (flow_at n c bol at f after) = FlowNodeStands n c bol (flow_text f ++ after) f after
NodeStands (block_at m shallow bol at n after) = BlockNodeStands m shallow bol (node_text n ++ after) n after

-- the part is in the text at this place, and the rest of the text after it
pub record SpelledAt (text : List ℕ) (at : ℕ) (part after : List ℕ) : Type 0 where
  pub before : List ℕ
  pub is : text ≡ before ++ (part ++ after)
  pub place : byte_len before ≡ at

-- the node is spelled at its place
abbrev pub NodeSpelled : List ℕ → NodePlace → Type 0
NodeSpelled text (flow_at n c bol at f after) = SpelledAt text at (flow_text f) after
NodeSpelled text (block_at m shallow bol at n after) = SpelledAt text at (node_text n) after

-- What comes before the part, after a byte order mark, says whether a line starts at it: the place after the mark is
-- the start of a line.
pub record StartsAt (mark : Bool) (text : List ℕ) (bol : Bool) (part after : List ℕ) : Type 0 where
  pub before : List ℕ
  pub is : text ≡ mark_text mark ++ (before ++ (part ++ after))
  pub starts : starts_line true before ≡ bol

-- a line starts at the node, or none, as `bol` says
abbrev pub NodeStarts : Bool → List ℕ → NodePlace → Type 0
NodeStarts mark text (flow_at n c bol at f after) = StartsAt mark text bol (flow_text f) after
NodeStarts mark text (block_at m shallow bol at n after) = StartsAt mark text bol (node_text n) after
