-- Flow nodes: scalars, and the collections between brackets (YAML 1.2.2, 7.4 and 7.5).
-- The number n is counted as for flow scalars.
use Rattle.std.specs.Prelude.{ℕ, ◌+◌, Bool, true, false, not, ◌&&◌, ◌||◌, nat_le, List, [], ◌++◌, length, Option, Some, None, is_some}
use Rattle.std.specs.Prelude.{codes, if◌then◌else◌}
use Rattle.yaml_grammar.specs.{Texts.{first, byte_len, starts_line}, Separation.{Sep, sep_text, gap_text, gap_fits}}
use Rattle.yaml_grammar.specs.FlowScalars.{FlowContext, flow_key, in_flow, one_line, safe, Scalar, plain, scalar_text, scalar_fits}
use Rattle.yaml_grammar.specs.{FlowScalars.scalar_events, Events.{Event, omitted_at, as_seq, as_map}}

-- ---- presentations

mutual
  -- [161] ns-flow-node, 7.5: a scalar; a sequence or a mapping, with the separation after its opening bracket and its
  -- entries
  pub data Flow : Type 0 where
    scalar : Scalar → Flow
    seq map : Option Sep → Entries → Flow

  -- [138], [141], 7.4: what comes before the closing bracket, after the separation: nothing; a last entry; or an entry,
  -- a comma and more
  pub data Entries : Type 0 where
    none : Entries
    last : Entry → Option Sep → Entries
    next : Entry → Option Sep → Option Sep → Entries → Entries

  -- [139] ns-flow-seq-entry, [142] ns-flow-map-entry and [150] ns-flow-pair, 7.4: perhaps a `?` and the separation
  -- after it; a node, which is the key unless it is alone in a sequence; and a value. An entry with `?` is an explicit
  -- one ([143]), which is asked; others are implicit ([144], [151]).
  pub data Entry : Type 0 where
    entry : Option Sep → Flow → Value → Entry

  -- [147] and [149], 7.4.2: no `:`; a `:` with nothing after it; a `:` with a node
  pub data Value : Type 0 where
    absent : Value
    empty : Option Sep → Value
    given : Option Sep → Option Sep → Flow → Value

-- ---- what they spell

-- a `?` and the separation after it, if there is one
abbrev pub asked_text : Option Sep → List ℕ
asked_text None = []
asked_text (Some sep) = codes "?" ++ sep_text sep

abbrev mutual
  -- the text of a flow node
  pub flow_text : Flow → List ℕ
  flow_text (scalar s) = scalar_text s
  flow_text (seq gap es) = codes "[" ++ gap_text gap ++ entries_text es ++ codes "]"
  flow_text (map gap es) = codes "{" ++ gap_text gap ++ entries_text es ++ codes "}"

  -- the text up to the closing bracket
  pub entries_text : Entries → List ℕ
  entries_text none = []
  entries_text (last e gap) = entry_text e ++ gap_text gap
  entries_text (next e before after es) =
      entry_text e ++ gap_text before ++ codes "," ++ gap_text after ++ entries_text es

  -- the text of an entry
  pub entry_text : Entry → List ℕ
  entry_text (entry ask key value) = asked_text ask ++ flow_text key ++ value_text value

  -- the text from the key on
  pub value_text : Value → List ℕ
  value_text absent = []
  value_text (empty gap) = gap_text gap ++ codes ":"
  value_text (given before after f) = gap_text before ++ codes ":" ++ gap_text after ++ flow_text f

-- ---- what they have to meet

-- the node is a plain scalar
abbrev pub is_plain : Flow → Bool
is_plain (scalar (plain prefix more)) = true
is_plain _ = false

-- the value has a `:`
abbrev pub has_colon : Value → Bool
has_colon absent = false
has_colon (empty gap) = true
has_colon (given before after f) = true

-- the text between the key and its `:`
abbrev pub before_colon : Value → List ℕ
before_colon absent = []
before_colon (empty gap) = gap_text gap
before_colon (given before after f) = gap_text before

-- [152], [153], 7.4.2: an entry of a sequence that is a pair without `?`; its key is on one line
abbrev pub single_pair : Bool → Option Sep → Value → Bool
single_pair in_seq None value = in_seq && has_colon value
single_pair in_seq (Some sep) value = false

-- [154], [155], 7.4.2, 8.2.2: how many characters may come before the `:` of a key on one line
abbrev pub key_limit : ℕ
key_limit = 1024

-- [154], [155], 7.4.2, 8.2.2: the key is within that limit; whitespace before the `:` counts
abbrev pub short_key : Flow → List ℕ → Bool
short_key key gap = nat_le (length (flow_text key ++ gap)) key_limit

abbrev mutual
  -- [161] ns-flow-node, 7.5
  pub flow_fits : Flow → ℕ → FlowContext → Bool → List ℕ → Bool
  -- [156] ns-flow-yaml-content and [157] c-flow-json-content, 7.5: a scalar
  flow_fits (scalar s) n c bol after = scalar_fits n c bol s after
  -- [137] c-flow-sequence, 7.4.1
  flow_fits (seq gap es) n c bol after =
      gap_fits n (one_line c) gap (entries_text es ++ (codes "]" ++ after))
      && entries_fit es n (in_flow c) true (starts_line false (gap_text gap)) (codes "]" ++ after)
  -- [140] c-flow-mapping, 7.4.2
  flow_fits (map gap es) n c bol after =
      gap_fits n (one_line c) gap (entries_text es ++ (codes "}" ++ after))
      && entries_fit es n (in_flow c) false (starts_line false (gap_text gap)) (codes "}" ++ after)

  -- [138] ns-s-flow-seq-entries, 7.4.1, and [141] ns-s-flow-map-entries, 7.4.2: in the context d between the brackets;
  -- in_seq says whether they are those of a sequence
  pub entries_fit : Entries → ℕ → FlowContext → Bool → Bool → List ℕ → Bool
  -- [137], 7.4.1, and [140], 7.4.2: no entry, or none after a comma
  entries_fit none n d in_seq bol after = true
  -- [138], 7.4.1, and [141], 7.4.2: the last entry, with no comma after it
  entries_fit (last e gap) n d in_seq bol after =
      entry_fits e n d in_seq bol (gap_text gap ++ after) && gap_fits n (one_line d) gap after
  -- [138], 7.4.1, and [141], 7.4.2: an entry, a comma, and perhaps further entries
  entries_fit (next e before gap_after es) n d in_seq bol after =
      let rest = gap_text gap_after ++ (entries_text es ++ after) in
      entry_fits e n d in_seq bol (gap_text before ++ (codes "," ++ rest))
      && gap_fits n (one_line d) before (codes "," ++ rest)
      && gap_fits n (one_line d) gap_after (entries_text es ++ after)
      && entries_fit es n d in_seq (starts_line false (gap_text gap_after)) after

  -- [139] ns-flow-seq-entry, [142] ns-flow-map-entry and [150] ns-flow-pair
  pub entry_fits : Entry → ℕ → FlowContext → Bool → Bool → List ℕ → Bool
  -- [143] ns-flow-map-explicit-entry, [144] ns-flow-map-implicit-entry and [151] ns-flow-pair-entry, 7.4.2; the key
  -- of the last is [154] ns-s-implicit-yaml-key or [155] c-s-implicit-json-key
  entry_fits (entry ask key value) n d in_seq bol after =
      gap_fits n (one_line d) ask (flow_text key ++ (value_text value ++ after))
      && (if single_pair in_seq ask value
      then flow_fits key 0 flow_key bol (value_text value ++ after) && short_key key (before_colon value)
      else flow_fits key n d (if is_some ask then starts_line false (gap_text ask) else bol)
      (value_text value ++ after))
      && value_fits value n d (one_line d || single_pair in_seq ask value) (is_plain key) after

  -- [147], [149], 7.4.2. key: the whitespace before the `:` is on its line. after_plain: after a plain key, `:` needs
  -- whitespace before a value.
  pub value_fits : Value → ℕ → FlowContext → Bool → Bool → List ℕ → Bool
  -- [145] ns-flow-map-yaml-key-entry and [148] c-ns-flow-map-json-key-entry, 7.4.2: no value ([106] e-node, 7.2)
  value_fits absent n d key after_plain after = true
  -- [147] and [149], 7.4.2: `:`, and no node after it ([106] e-node, 7.2)
  value_fits (empty gap) n d key after_plain after =
      gap_fits n key gap (codes ":" ++ after) && not (after_plain && first (safe d) after)
  -- [147] and [149], 7.4.2: `:`, and a node after it
  value_fits (given before gap_after f) n d key after_plain after =
      gap_fits n key before (codes ":" ++ (gap_text gap_after ++ (flow_text f ++ after)))
      && (is_some gap_after || not after_plain) && gap_fits n (one_line d) gap_after (flow_text f ++ after)
      && flow_fits f n d (starts_line false (gap_text gap_after)) after

-- ---- what they mean, from the place `at` on

-- [150] ns-flow-pair, 7.4.2: an entry of a sequence that is a pair is a mapping of one key
abbrev pub is_pair : Option Sep → Value → Bool
is_pair None absent = false
is_pair ask value = true

abbrev mutual
  -- the events of a flow node
  pub flow_events : Flow → ℕ → List Event
  flow_events (scalar s) at = scalar_events at s
  flow_events (seq gap es) at = as_seq (entries_events es true (at + 1 + byte_len (gap_text gap)))
  flow_events (map gap es) at = as_map (entries_events es false (at + 1 + byte_len (gap_text gap)))

  -- the events of all entries
  pub entries_events : Entries → Bool → ℕ → List Event
  entries_events none in_seq at = []
  entries_events (last e gap) in_seq at = entry_events e in_seq at
  entries_events (next e before after es) in_seq at =
      entry_events e in_seq at
      ++ entries_events es in_seq (at + byte_len (entry_text e) + byte_len (gap_text before) + 1
      + byte_len (gap_text after))

  -- the events of one entry
  pub entry_events : Entry → Bool → ℕ → List Event
  entry_events (entry ask key value) in_seq at =
      let place = at + byte_len (asked_text ask) in
      let after = place + byte_len (flow_text key) in
      if not in_seq then flow_events key place ++ value_events value after
      else if is_pair ask value then as_map (flow_events key place ++ value_events value after)
      else flow_events key place

  -- the events of a value; one that is left out is omitted at its place
  pub value_events : Value → ℕ → List Event
  value_events absent at = omitted_at at
  value_events (empty gap) at = omitted_at (at + byte_len (gap_text gap) + 1)
  value_events (given before after f) at =
      flow_events f (at + byte_len (gap_text before) + 1 + byte_len (gap_text after))
