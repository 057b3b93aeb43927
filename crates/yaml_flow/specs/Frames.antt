-- How far the scanner of flow collections is: what is read, what is still to be read, and the events so far.
use Rattle.std.specs.Prelude.{◌≡◌, ℕ, ◌+◌, ◌-◌, ◌*◌, ◌≤◌, ◌==◌, Bool, true, false, ◌&&◌, nat_le, nat_lt, List, [], ◌∷◌, ◌++◌, length, take}
use Rattle.std.{specs.Prelude.{insert, Option, Some, is_some}, proofs.Math.Logic.◌⊎◌}
use Rattle.yaml_flow.specs.Prelude.{IsCharBoundary, rest, between, Flow, flow_text, flow_events, entry_text, entry_events, asked_text}
use Rattle.yaml_flow.specs.Prelude.{is_plain, key_limit, FlowContext, one_line, byte_len, starts_line, line_starts, is_colon, FlowPart}
use Rattle.yaml_flow.specs.Prelude.{first_node, asked_key, pair_value, Bracket, OpenFlow, closer, close_with, entries_of, plug}
use Rattle.yaml_flow.specs.Prelude.{key_is_short, entry_if_short, flow_node_at, flow_entries_at, flow_value_at, MapStart, first, is_asked}
use Rattle.yaml_flow.specs.{Prelude.{unbroken_between, question, open_bracket, open_brace}, FlowNodes.Appended}
use Rattle.yaml_flow.specs.declared.collection.{BracketKind.{BracketKind, TheVariants.{Sequence, Mapping}}, NodeEnd.NodeEnd}
use Rattle.yaml_flow.specs.declared.collection.{NodeEnd.TheVariants.{Plain, Delimited}, Part.{Part, TheVariants.{First, Asked, Value}}}
use Rattle.yaml_flow.specs.declared.collection.{Open.Open, Next.{Next, TheVariants.{Entry, Node, AfterEntry, Closed}}}
use Rattle.yaml_grammar.specs.{Events.{Event, seq_start, seq_end, map_start, map_end, omitted_at}, Separation.{Sep, gap_text}}
use Rattle.{yaml_events.specs.declared.event.Event.Event as ListedEvent, yaml_recognizers.specs.{Gaps.read_gap, Reading.{Read, on}}}
use Rattle.{yaml_recognizers.proofs.Meanings.EventPrefixes.{done_end, done_events}, yaml_scan.proofs.ByteSigns.IsSign}
use Rattle.yaml_grammar.specs.FlowNodes as nodes
use Rattle.yaml_grammar.specs.Events as grammar

-- ---- the code's types

-- the events of the code, in order
abbrev pub EventList : Type 0
EventList = List ListedEvent

-- the first k events stay
abbrev pub Kept : ℕ → EventList → EventList → Type 0
Kept k old new = k ≤ length old → (k ≤ length new) × (take k new ≡ take k old)

-- the bracket is a sequence's
abbrev pub in_sequence : BracketKind → Bool
in_sequence Sequence = true
in_sequence Mapping = false

-- which part of an entry is being read
abbrev pub part_of : FlowPart → Part
part_of (first_node bol) = First
part_of (asked_key sep) = Asked
part_of (pair_value ask bol key before after) = Value

-- the style is plain
abbrev pub is_plain_style : grammar.Style → Bool
is_plain_style grammar.plain_style = true
is_plain_style grammar.single_style = false
is_plain_style grammar.double_style = false
is_plain_style grammar.literal_style = false
is_plain_style grammar.folded_style = false
is_plain_style grammar.omitted_style = false

-- the node that ended is a plain scalar
abbrev pub ends_plain : NodeEnd → Bool
ends_plain Plain = true
ends_plain Delimited = false

-- the part is the first node of an entry without `?`
abbrev pub is_first : Part → Bool
is_first First = true
is_first Asked = false
is_first Value = false

-- the part is a value
abbrev pub is_value : Part → Bool
is_value First = false
is_value Asked = false
is_value Value = true

-- where the next step starts
abbrev pub place_of : Next → ℕ
place_of (Entry at) = at
place_of (Node at) = at
place_of (AfterEntry at) = at
place_of (Closed end) = end

-- a bound of the steps that are left
abbrev pub steps_left : List ℕ → Next → ℕ
steps_left text (Entry at) = 2 * (length text - at) + 1
steps_left text (Node at) = 2 * (length text - at)
steps_left text (AfterEntry at) = 2 * (length text - at)
steps_left text (Closed end) = 2 * (length text - end) + 1

-- the step leads from the place to a later one, or to the same
pub record Onward (text : List ℕ) (at : ℕ) (next : Next) : Type 0 where
  pub boundary : IsCharBoundary text (place_of next)
  pub above : at ≤ place_of next
  pub within : place_of next ≤ length text

-- ---- brackets

-- the opening bracket of a sequence or of a mapping
abbrev pub opener : Bool → ℕ
opener true = open_bracket
opener false = open_brace

-- the opening bracket of this kind is at the place
abbrev pub IsBracket : List ℕ → ℕ → Bool → Type 0
IsBracket text at in_seq = IsSign text at (opener in_seq)

-- ---- lines

-- the start of the line is at `from` or before it exactly if no break is between the two places
abbrev pub SameLine : List ℕ → ℕ → ℕ → ℕ → Type 0
SameLine text line from to = nat_le line from ≡ unbroken_between text from to

-- From one place to the other the line's start moves with the breaks between them.
pub record LineMoves (text : List ℕ) (old at new to : ℕ) : Type 0 where
  pub within : old ≤ at → new ≤ to
  pub tells : (from : ℕ) → IsCharBoundary text from → from ≤ at → SameLine text old from at → SameLine text new from to

-- ---- the events of what is read

-- the event at an opening bracket
abbrev pub bracket_start : Bool → Event
bracket_start true = seq_start
bracket_start false = map_start

-- the event at a closing bracket
abbrev pub bracket_end : Bool → Event
bracket_end true = seq_end
bracket_end false = map_end

-- the event at the start of a pair in a sequence, which is a mapping of its own; in a mapping there is none
abbrev pub pair_start : Bool → List Event
pair_start true = map_start ∷ []
pair_start false = []

-- the event at the end of such a pair
abbrev pub pair_end : Bool → List Event
pair_end true = map_end ∷ []
pair_end false = []

-- where the first entry of a bracket starts
abbrev pub entries_start : Bracket → ℕ → ℕ
entries_start b from = from + 1 + byte_len (gap_text b.gap)

-- where the entry that is being read starts
abbrev pub entry_start : Bracket → ℕ → ℕ
entry_start b from = done_end b.done (entries_start b from)

-- the events of a bracket so far
abbrev pub bracket_prefix : Bracket → ℕ → List Event
bracket_prefix b from = bracket_start b.in_seq ∷ done_events b.done b.in_seq (entries_start b from)

-- the place of the node that is being read, from where its entry starts
abbrev pub part_start : FlowPart → ℕ → ℕ
part_start (first_node bol) at = at
part_start (asked_key sep) at = at + byte_len (asked_text (Some sep))
part_start (pair_value ask bol key before after) at =
    at + byte_len (asked_text ask) + byte_len (flow_text key) + byte_len (gap_text before) + 1
    + byte_len (gap_text after)

-- the events of an entry so far
abbrev pub part_prefix : Bool → FlowPart → ℕ → List Event
part_prefix in_seq (first_node bol) at = []
part_prefix in_seq (asked_key sep) at = pair_start in_seq
part_prefix in_seq (pair_value ask bol key before after) at =
    pair_start in_seq ++ flow_events key (at + byte_len (asked_text ask))

-- where the node that is being read starts
abbrev pub node_start : OpenFlow → ℕ → ℕ
node_start o from = part_start o.part (entry_start o.bracket from)

-- the events of an open bracket and its entry so far
abbrev pub frame_prefix : OpenFlow → ℕ → List Event
frame_prefix o from = bracket_prefix o.bracket from ++ part_prefix o.bracket.in_seq o.part (entry_start o.bracket from)

-- ---- a collection that is being read

-- what is read of it in all, where it starts, and the events before it
pub record Collection : Type 0 where
  pub reads : Read Flow
  pub start : ℕ
  pub kept : EventList

-- the code's frame keeps the kind of the bracket and of the part
pub record Keeps (top : Open) (o : OpenFlow) : Type 0 where
  pub kind : o.bracket.in_seq ≡ in_sequence top.kind
  pub part : part_of o.part ≡ top.part

-- the states of the scanner, at n, in the context d between the brackets of one text
module _ (n : ℕ) (d : FlowContext) (text : List ℕ) where
  -- what is known of the part before its node is read at the place: of a single pair, that its key fits whatever its
  -- value is
  abbrev pub PartFits : Bool → FlowPart → ℕ → Type 0
  PartFits in_seq (first_node bol) at = bol ≡ line_starts text at
  PartFits in_seq (asked_key sep) at = Unit {0}
  PartFits in_seq (pair_value ask bol key before after) at =
      (f : Flow) (r : List ℕ) → flow_node_at n d (line_starts text at) (rest text at) ≡ Some (f, r)
      → key_is_short n d in_seq bol ask key (nodes.given before after f) r ≡ true

  -- the closing bracket or an entry may be at the place
  pub record AtEntry (w : Collection) (in_seq : Bool) (at : ℕ) (events : EventList) : Type 0 where
    pub bracket : Bracket
    pub kind : bracket.in_seq ≡ in_seq
    pub place : entry_start bracket w.start ≡ at
    pub written : Appended text w.kept events (bracket_prefix bracket w.start)
    pub reads : w.reads ≡ close_with bracket
        (flow_entries_at n d bracket.in_seq (line_starts text at) (closer bracket.in_seq) (rest text at))

  -- the `?` of an entry comes before the place
  pub record AfterQuestion (w : Collection) (in_seq : Bool) (at : ℕ) (events : EventList) : Type 0 where
    pub prefix : ℕ
    pub after : prefix + 1 ≡ at
    pub entry : AtEntry w in_seq prefix events
    pub sign : IsSign text prefix question
    pub asked : is_asked d (rest text prefix) ≡ true
    pub unclosed : first (λ x. x == closer in_seq) (rest text prefix) ≡ false

  -- the node that the frame waits for is at the place
  pub record AtNode (w : Collection) (top : Open) (at : ℕ) (events : EventList) : Type 0 where
    pub frame : OpenFlow
    pub keeps : Keeps top frame
    pub fits : PartFits frame.bracket.in_seq frame.part at
    pub place : node_start frame w.start ≡ at
    pub written : Appended text w.kept events (frame_prefix frame w.start)
    pub reads : w.reads ≡ on (flow_node_at n d (line_starts text at) (rest text at)) (λ f r. plug n d frame f r)

  -- that node is read
  pub record NodeRead (w : Collection) (top : Open) (end_is : NodeEnd) (end : ℕ) (events : EventList) : Type 0 where
    pub before : EventList
    pub waits : AtNode w top top.start before
    pub count : length before ≡ top.before
    pub node : Flow
    pub plain : is_plain node ≡ ends_plain end_is
    pub found : flow_node_at n d (line_starts text top.start) (rest text top.start) ≡ Some (node, rest text end)
    pub written : Appended text before events (flow_events node top.start)

  -- The key of a pair is read, and its `:` is at the place. What the value may be, the key fits.
  pub record AtColon (w : Collection) (in_seq : Bool) (end_is : NodeEnd) (colon : ℕ) (events : EventList) : Type 0 where
    pub bracket : Bracket
    pub kind : bracket.in_seq ≡ in_seq
    pub ask : Option Sep
    pub bol : Bool
    pub key : Flow
    pub plain : is_plain key ≡ ends_plain end_is
    pub follows : List ℕ
    pub gap : Option Sep
    pub passes : read_gap n (one_line d) follows ≡ (gap, rest text colon)
    pub sign : is_colon d (ends_plain end_is) (rest text colon) ≡ true
    pub place : entry_start bracket w.start + byte_len (asked_text ask) + byte_len (flow_text key)
        + byte_len (gap_text gap) ≡ colon
    pub fits : (v : nodes.Value) (r : List ℕ) → flow_value_at n d (is_plain key) follows ≡ Some (v, r)
        → key_is_short n d bracket.in_seq bol ask key v r ≡ true
    pub written : Appended text w.kept events
        (bracket_prefix bracket w.start
        ++ (pair_start bracket.in_seq ++ flow_events key (entry_start bracket w.start + byte_len (asked_text ask))))
    pub reads : w.reads ≡ close_with bracket
        (on (on (flow_value_at n d (is_plain key) follows) (λ v r. entry_if_short n d bracket.in_seq bol ask key v r))
        (λ e r. entries_of n d bracket.in_seq e r))

  -- an entry is read, and the gap after it is passed
  pub record EntryRead (w : Collection) (in_seq : Bool) (at : ℕ) (events : EventList) : Type 0 where
    pub bracket : Bracket
    pub kind : bracket.in_seq ≡ in_seq
    pub entry : nodes.Entry
    pub follows : List ℕ
    pub gap : Option Sep
    pub passes : read_gap n (one_line d) follows ≡ (gap, rest text at)
    pub place : entry_start bracket w.start + byte_len (entry_text entry) + byte_len (gap_text gap) ≡ at
    pub written : Appended text w.kept events
        (bracket_prefix bracket w.start ++ entry_events entry bracket.in_seq (entry_start bracket w.start))
    pub reads : w.reads ≡ close_with bracket (entries_of n d bracket.in_seq entry follows)

  -- the gap after an opening bracket or a comma is to be passed
  pub record BeforeGap (w : Collection) (in_seq : Bool) (at : ℕ) (events : EventList) : Type 0 where
    pub bracket : Bracket
    pub kind : bracket.in_seq ≡ in_seq
    pub place : at + byte_len (gap_text (read_gap n (one_line d) (rest text at)).0) ≡ entry_start bracket w.start
    pub written : Appended text w.kept events (bracket_prefix bracket w.start)
    pub reads : w.reads ≡ close_with bracket
        (flow_entries_at n d bracket.in_seq (starts_line false (gap_text (read_gap n (one_line d) (rest text at)).0))
        (closer bracket.in_seq)
        (read_gap n (one_line d) (rest text at)).1)

  -- the collection is read
  pub record WholeRead (w : Collection) (end : ℕ) (events : EventList) : Type 0 where
    pub node : Flow
    pub plain : is_plain node ≡ false
    pub inside_line : line_starts text end ≡ false
    pub written : Appended text w.kept events (flow_events node w.start)
    pub reads : w.reads ≡ Some (node, rest text end)

  -- how far the collection is, by what is next
  abbrev pub Stands : Collection → Open → Next → EventList → Type 0
  Stands w top (Entry at) events = AtEntry w (in_sequence top.kind) at events
  Stands w top (Node at) events = AtNode w top at events
  Stands w top (AfterEntry at) events = EntryRead w (in_sequence top.kind) at events
  Stands w top (Closed end) events = WholeRead w end events

  -- ---- the collections around

  -- The outer collection waits, in the code's frame, for the node that the inner one is.
  pub record Around (inner : Collection) (top : Open) (outer : Collection) : Type 0 where
    pub waits : AtNode outer top inner.start inner.kept
    pub start : top.start ≡ inner.start
    pub count : length inner.kept ≡ top.before
    pub node : inner.reads ≡ flow_node_at n d (line_starts text inner.start) (rest text inner.start)

  -- the collections around the inner one, of which the last is the whole, and the code's frames, of which the first is
  -- the outermost
  abbrev pub Stack : Collection → List Collection → List Open → Collection → Type 0
  Stack whole [] opens inner = (opens ≡ []) × (inner ≡ whole)
  Stack whole (outer ∷ around) opens inner =
      (prefix : List Open) × (top : Open) × (opens ≡ prefix ++ top ∷ []) × Around inner top outer
      × Stack whole around prefix outer

  -- the open brackets around the innermost one wait for it
  pub record Waits (whole : Collection) (opens : List Open) (top : Open) (next : Next)
      (events : EventList) : Type 0 where
    pub inner : Collection
    pub around : List Collection
    pub stack : Stack whole around opens inner
    pub stands : Stands inner top next events

-- where the node of an open frame starts, and whether a break follows before the place
pub record Started (text : List ℕ) (line at : ℕ) (top : Open) : Type 0 where
  pub boundary : IsCharBoundary text top.start
  pub above : top.start ≤ at
  pub same_line : SameLine text line top.start at

-- ---- gaps

-- The gap at the place goes to the end.
pub record Passes (n : ℕ) (d : FlowContext) (text : List ℕ) (at end : ℕ) : Type 0 where
  pub above : at ≤ end
  pub boundary : IsCharBoundary text end
  pub gap : Option Sep
  pub reads : read_gap n (one_line d) (rest text at) ≡ (gap, rest text end)
  pub length : at + byte_len (gap_text gap) ≡ end
  pub some : is_some gap ≡ nat_lt at end
  pub starts : line_starts text at ≡ false → starts_line false (gap_text gap) ≡ line_starts text end

-- ---- single pairs

-- the node of a sequence's entry is its key, should a `:` follow: the entry has no `?`
abbrev pub is_single : Open → Bool
is_single top = in_sequence top.kind && is_first top.part

-- the events after a node, or after a key, that ends at a place and has no `:`
abbrev pub absent_events : Bool → Bool → ℕ → List Event
absent_events true in_seq end = []
absent_events false in_seq end = omitted_at end ++ pair_end in_seq

-- no break and at most 1,024 characters are between the key's start and its `:`
abbrev pub fits_single : List ℕ → ℕ → ℕ → ℕ → Bool
fits_single text line start colon = nat_le line start && nat_le (length (between text start colon)) key_limit

-- a single pair fits, and its mapping starts before its key
pub record BeganPair (text : List ℕ) (top : Open) (line colon : ℕ) (old new : EventList) : Type 0 where
  pub single : is_single top ≡ true
      → (fits_single text line top.start colon ≡ true) × (new ≡ insert old top.before MapStart)
  pub other : is_single top ≡ false → new ≡ old

-- a single pair whose key is too long, or over several lines
abbrev pub NoPair : List ℕ → Open → ℕ → ℕ → Type 0
NoPair text top line colon = (is_single top ≡ true) × (fits_single text line top.start colon ≡ false)

-- ---- the stack of open brackets

-- a frame is put onto the stack, whose node starts at the place, or none is
abbrev pub Pushes : List Open → ℕ → List Open → Type 0
Pushes old at new = (new ≡ old) ⊎ ((top : Open) × (new ≡ old ++ top ∷ []) × (top.start ≡ at))
