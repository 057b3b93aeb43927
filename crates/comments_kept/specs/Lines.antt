-- The lines of a tree in the one style, without the bodies of literals, and where each begins and ends in the text that
-- the tree was read from. They are found by going through the events of the text. Places are bytes from 0.
use Rattle.std.specs.Prelude.{◌≡◌, ℕ, ◌+◌, ◌-◌, ◌==◌, Bool, true, false, not, ◌&&◌, ◌||◌, List, [], ◌∷◌, ◌++◌, Option, Some, None, length}
use Rattle.std.specs.Prelude.{slice_get, slice_index, if◌then◌else◌}
use Rattle.yaml_grammar.specs.Events.{Event, document_start, document_end, seq_start, seq_end, map_start, map_end, scalar_event, Style}
use Rattle.yaml_grammar.specs.{Events.{plain_style, single_style, double_style, literal_style, folded_style, omitted_style}, Style.long_key}
use Rattle.comments_kept.specs.{declared.rows.{Row.Row, Collection.Collection, Begun.Begun, Rows.Rows}, Signs.{next_sign, after_sign}}
use Rattle.comments_kept.specs.Signs.{colon_at, after_header, start_of_content, line_start}

-- what is known behind some events
pub record Reading : Type 0 where
  -- the lines so far
  pub rows : List Row
  -- the collections that have begun
  pub collections : List Collection
  -- the innermost one that is open
  pub within : Option ℕ
  -- the place behind the last token
  pub at : ℕ
  -- a key came last
  pub keyed : Bool
  -- the line that has begun
  pub line : Option Begun

-- the code's
abbrev pub reading_of : Rows → Reading
reading_of r = record {
  rows = r.rows.items;
  collections = r.collections.items;
  within = r.within;
  at = r.at;
  keyed = r.keyed;
  line = r.line;
}

-- a collection of some
abbrev pub held : List Collection → Option ℕ → Option Collection
held cs None = None
held cs (Some i) = slice_get cs i

-- the innermost collection that is open
abbrev pub innermost : Reading → Option Collection
innermost s = held s.collections s.within

-- ---- lines

-- the indentation of a line in a collection
abbrev pub indent_in : Option Collection → ℕ
indent_in None = 0
indent_in (Some c) = c.indent

-- a line begins unless one has begun
abbrev pub line_begun : ℕ → ℕ → Option Begun → Option Begun
line_begun indent start None = Some (record { indent = indent; start = start })
line_begun indent start (Some b) = Some b

-- the same
abbrev pub begun : ℕ → Reading → Reading
begun start s = record s { line = line_begun (indent_in (innermost s)) start s.line }

-- the innermost block collection, which holds what comes next
abbrev pub level_in : Option Collection → Option ℕ
level_in None = None
level_in (Some c) = c.level

-- the line that has begun, with its end
abbrev pub row_ended : ℕ → Option ℕ → Option Begun → Row
row_ended end level None = record { start = end; end = end; indent = 0; level = level }
row_ended end level (Some b) = record { start = b.start; end = end; indent = b.indent; level = level }

-- the line ends
abbrev pub ended : ℕ → Reading → Reading
ended end s = record s { rows = s.rows ++ row_ended end (level_in (innermost s)) s.line ∷ []; line = None }

-- ---- nodes

-- the next node of a collection is a key
abbrev pub is_key_in : Option Collection → Bool → Bool
is_key_in None keyed = false
is_key_in (Some c) keyed = c.is_map && not keyed

-- the next node is a key
abbrev pub is_at_key : Reading → Bool
is_at_key s = is_key_in (innermost s) s.keyed

-- the place behind the `-` of an element in a block sequence
abbrev pub dash_passed : List ℕ → Collection → Reading → Reading
dash_passed bytes c s = record s { at = if not c.is_map && not c.has_brackets then after_sign bytes s.at else s.at }

-- a node begins in a collection: a value on the line of its key, and others on a line of their own
abbrev pub node_begun_in : List ℕ → Option Collection → Reading → Reading
node_begun_in bytes None s = s
node_begun_in bytes (Some c) s =
    if c.is_map && s.keyed then s else dash_passed bytes c (begun (next_sign bytes s.at) s)

-- a node begins
abbrev pub node_begun : List ℕ → Reading → Reading
node_begun bytes s = node_begun_in bytes (innermost s) s

-- the place behind the next sign
abbrev pub passed : List ℕ → Reading → Reading
passed bytes s = record s { at = after_sign bytes s.at }

-- a collection that is a value begins behind a `:`, where the line ends if the collection is not empty
abbrev pub colon_passed : List ℕ → Bool → Reading → Reading
colon_passed bytes is_empty s =
    if not s.keyed then s else if is_empty then passed bytes s else ended (after_sign bytes s.at) (passed bytes s)

-- a bracket opens
abbrev pub is_bracket : ℕ → Bool
is_bracket b = b == 91 || b == 123

-- the collection at a place, whose number is `own`, in another one
abbrev pub collection_in : List ℕ → Bool → ℕ → ℕ → Option ℕ → Option Collection → Collection
collection_in bytes is_map sign own within None = record {
  is_map = is_map;
  has_brackets = is_bracket (slice_index bytes sign);
  is_flow = is_bracket (slice_index bytes sign);
  column = sign - line_start bytes sign;
  indent = 0;
  inside = 0 + 2;
  level = if is_bracket (slice_index bytes sign) then None else Some own;
  outer = within;
}
collection_in bytes is_map sign own within (Some c) = record {
  is_map = is_map;
  has_brackets = is_bracket (slice_index bytes sign);
  is_flow = is_bracket (slice_index bytes sign) || c.is_flow;
  column = sign - line_start bytes sign;
  indent = c.inside;
  inside = c.inside + 2;
  level = if is_bracket (slice_index bytes sign) || c.is_flow then c.level else Some own;
  outer = within;
}

-- it opens
abbrev pub opened : List ℕ → Bool → ℕ → Reading → Reading
opened bytes is_map sign s = record s {
  collections = s.collections
      ++ collection_in bytes is_map sign (length s.collections) s.within (innermost s) ∷ [];
  within = Some (length s.collections);
  keyed = false;
  at = if is_bracket (slice_index bytes sign) then after_sign bytes s.at else s.at;
}

-- the line of an empty collection begins with it, unless it has begun
abbrev pub begun_if : Bool → ℕ → Reading → Reading
begun_if is_empty start s = if is_empty then begun start s else s

-- it opens at the next sign
abbrev pub opened_next : List ℕ → Bool → Bool → Reading → Reading
opened_next bytes is_map is_empty s =
    opened bytes is_map (next_sign bytes s.at) (begun_if is_empty (next_sign bytes s.at) s)

-- a collection begins
abbrev pub started : List ℕ → Bool → Bool → Reading → Reading
started bytes is_map is_empty s = opened_next bytes is_map is_empty (colon_passed bytes is_empty (node_begun bytes s))

-- the line ends here if one has begun
abbrev pub ended_if_begun : Reading → Option Begun → Reading
ended_if_begun s None = s
ended_if_begun s (Some b) = ended s.at s

-- a collection ends
abbrev pub closed_in : List ℕ → Option Collection → Reading → Reading
closed_in bytes None s = s
closed_in bytes (Some c) s =
    ended_if_begun
    (record s { within = c.outer; keyed = false; at = if c.has_brackets then after_sign bytes s.at else s.at }) s.line

-- the innermost one ends
abbrev pub closed : List ℕ → Reading → Reading
closed bytes s = closed_in bytes (innermost s) s

-- the place behind the last token of a scalar's line: that of a block scalar is behind its header
abbrev pub scalar_end : List ℕ → Style → ℕ → ℕ → ℕ
scalar_end bytes plain_style start end = end
scalar_end bytes single_style start end = end
scalar_end bytes double_style start end = end
scalar_end bytes literal_style start end = after_header bytes start
scalar_end bytes folded_style start end = after_header bytes start
scalar_end bytes omitted_style start end = end

-- a long key has a line of its own, and its value's line begins at the `:`
abbrev pub key_taken : List ℕ → ℕ → List ℕ → Reading → Reading
key_taken bytes end key s = if long_key key then begun (colon_at bytes s.at) (ended end s) else s

-- a scalar was read
abbrev pub scalar_read : List ℕ → Bool → ℕ → ℕ → ℕ → List ℕ → Reading → Reading
scalar_read bytes is_key start end last value s =
    if is_key then key_taken bytes last value (record s { at = end; keyed = is_key })
    else ended last (begun start (record s { at = end; keyed = is_key }))

-- the same, behind the sign before it
abbrev pub scalar_taken : List ℕ → Style → ℕ → ℕ → List ℕ → Reading → Reading
scalar_taken bytes style start end value s =
    scalar_read bytes (is_at_key s) start end (scalar_end bytes style start end) value (node_begun bytes s)

-- ---- events

-- a collection ends
abbrev pub is_end : Event → Bool
is_end document_start = false
is_end document_end = false
is_end seq_start = false
is_end seq_end = true
is_end map_start = false
is_end map_end = true
is_end (scalar_event style start end value) = false

-- an event; `ends` says that the next one is the end of a collection
abbrev pub taken : List ℕ → Event → Bool → Reading → Reading
taken bytes document_start ends s = s
taken bytes document_end ends s = s
taken bytes seq_start ends s = started bytes false ends s
taken bytes seq_end ends s = closed bytes s
taken bytes map_start ends s = started bytes true ends s
taken bytes map_end ends s = closed bytes s
taken bytes (scalar_event style start end value) ends s = scalar_taken bytes style start end value s

-- the first event is an end
abbrev pub starts_with_end : List Event → Bool
starts_with_end [] = false
starts_with_end (e ∷ es) = is_end e

-- events, in order
abbrev pub all_taken : List ℕ → List Event → Reading → Reading
all_taken bytes [] s = s
all_taken bytes (e ∷ es) s = all_taken bytes es (taken bytes e (starts_with_end es) s)

-- before the first event
abbrev pub at_start : List ℕ → Reading
at_start bytes = record {
  rows = [];
  collections = [];
  within = None;
  at = start_of_content bytes;
  keyed = false;
  line = None;
}

-- behind the last one
abbrev pub reading : List ℕ → List Event → Reading
reading bytes events = all_taken bytes events (at_start bytes)

-- these are the lines of the text's tree, and its collections
pub record Shows (bytes : List ℕ) (events : List Event) (rows : List Row) (collections : List Collection) : Type 0 where
  pub lines : rows ≡ (reading bytes events).rows
  pub holders : collections ≡ (reading bytes events).collections
