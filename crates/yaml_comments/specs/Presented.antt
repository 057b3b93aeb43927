-- The comments of a presentation, in order: those of the ends of its lines (YAML 1.2.2, 6.6). Each is what is written
-- behind its `#`.
use Rattle.std.specs.Prelude.{ℕ, List, [], ◌∷◌, ◌++◌, Option, Some, None, flat_map}
use Rattle.yaml_grammar.specs.{Separation.{LineEnd, Sep, inline, lines}, FlowNodes.{Flow, scalar, seq, map, Entries, none, last, next}}
use Rattle.yaml_grammar.specs.{FlowNodes.{Entry, entry, Value, absent, empty, given}, BlockScalars.BlockScalar, BlockNodes.{Node, block}}
use Rattle.yaml_grammar.specs.BlockNodes.{flow, items, pairs, Items, item, item_and, Pairs, pair, pair_and, Pair, asked, asked_alone, keyed}
use Rattle.yaml_grammar.specs.{BlockNodes.{keyed_alone, Indented, compact_items, compact_pairs, node, omitted}, Streams.{Explicit, content}}
use Rattle.yaml_grammar.specs.Streams.{nothing, Document, bare, explicit, directed, Part, suffixes, line, further, Stream}

-- a comment that may be left out
abbrev pub optional_comment : Option (List ℕ) → List (List ℕ)
optional_comment None = []
optional_comment (Some text) = text ∷ []

-- that of the end of a line
abbrev pub line_comments : LineEnd → List (List ℕ)
line_comments e = optional_comment e.comment

-- those of lines
abbrev pub lines_comments : List LineEnd → List (List ℕ)
lines_comments es = flat_map line_comments es

-- those of a separation
abbrev pub sep_comments : Sep → List (List ℕ)
sep_comments (inline blank) = []
sep_comments (lines comments lead) = lines_comments comments

-- those of a separation that may be left out
abbrev pub gap_comments : Option Sep → List (List ℕ)
gap_comments None = []
gap_comments (Some sep) = sep_comments sep

abbrev mutual
  -- those of a flow node
  pub flow_comments : Flow → List (List ℕ)
  flow_comments (scalar s) = []
  flow_comments (seq gap es) = gap_comments gap ++ entries_comments es
  flow_comments (map gap es) = gap_comments gap ++ entries_comments es

  -- those between brackets
  pub entries_comments : Entries → List (List ℕ)
  entries_comments none = []
  entries_comments (last e gap) = entry_comments e ++ gap_comments gap
  entries_comments (next e before after es) =
      entry_comments e ++ (gap_comments before ++ (gap_comments after ++ entries_comments es))

  -- those of an entry
  pub entry_comments : Entry → List (List ℕ)
  entry_comments (entry ask key value) = gap_comments ask ++ (flow_comments key ++ value_comments value)

  -- those of a value
  pub value_comments : Value → List (List ℕ)
  value_comments absent = []
  value_comments (empty gap) = gap_comments gap
  value_comments (given before after f) = gap_comments before ++ (gap_comments after ++ flow_comments f)

-- those of a block scalar: on its header, and behind it
abbrev pub block_comments : BlockScalar → List (List ℕ)
block_comments b = line_comments (b.header).line_end ++ lines_comments b.trail

abbrev mutual
  -- those of a block node
  pub node_comments : Node → List (List ℕ)
  node_comments (block sep b) = sep_comments sep ++ block_comments b
  node_comments (flow sep f comments) = sep_comments sep ++ (flow_comments f ++ lines_comments comments)
  node_comments (items comments k is) = lines_comments comments ++ items_comments is
  node_comments (pairs comments k ps) = lines_comments comments ++ pairs_comments ps

  -- those of items
  pub items_comments : Items → List (List ℕ)
  items_comments (item i) = indented_comments i
  items_comments (item_and i is) = indented_comments i ++ items_comments is

  -- those of pairs
  pub pairs_comments : Pairs → List (List ℕ)
  pairs_comments (pair p) = pair_comments p
  pairs_comments (pair_and p ps) = pair_comments p ++ pairs_comments ps

  -- those of a pair
  pub pair_comments : Pair → List (List ℕ)
  pair_comments (asked key value) = indented_comments key ++ indented_comments value
  pair_comments (asked_alone key) = indented_comments key
  pair_comments (keyed key gap value) = flow_comments key ++ node_comments value
  pair_comments (keyed_alone key gap comments) = flow_comments key ++ lines_comments comments

  -- those of what comes after `-`, `?` or `:`
  pub indented_comments : Indented → List (List ℕ)
  indented_comments (compact_items s is) = items_comments is
  indented_comments (compact_pairs s ps) = pairs_comments ps
  indented_comments (node n) = node_comments n
  indented_comments (omitted comments) = lines_comments comments

-- those of what follows `---`
abbrev pub explicit_comments : Explicit → List (List ℕ)
explicit_comments (content n) = node_comments n
explicit_comments (nothing comments) = lines_comments comments

-- those of a document
abbrev pub document_comments : Document → List (List ℕ)
document_comments (bare n) = node_comments n
document_comments (explicit x) = explicit_comments x
document_comments (directed blank version comments x) = lines_comments comments ++ explicit_comments x

-- those of a document that may be left out
abbrev pub optional_document_comments : Option Document → List (List ℕ)
optional_document_comments None = []
optional_document_comments (Some d) = document_comments d

-- those of a part
abbrev pub part_comments : Part → List (List ℕ)
part_comments (suffixes one more prefix document) =
    lines_comments one
    ++ (flat_map lines_comments more ++ (lines_comments prefix ++ optional_document_comments document))
part_comments (line e) = line_comments e
part_comments (further x) = explicit_comments x

-- those of a stream
abbrev pub stream_comments : Stream → List (List ℕ)
stream_comments s =
    lines_comments s.prefix ++ (optional_document_comments s.document ++ flat_map part_comments s.parts)
