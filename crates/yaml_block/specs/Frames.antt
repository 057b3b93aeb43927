-- The state of the scanner of block nodes: the open collections around a place, what is read of each, and their events
-- so far.
use Rattle.std.specs.Prelude.{◌≡◌, ℕ, ◌+◌, Bool, true, false, not, ◌||◌, ◌==◌, List, [], ◌∷◌, ◌++◌, Option, Some, None}
use Rattle.yaml_block.specs.Prelude.{rest, is_empty, starts_line, byte_len, LineEnd, comments_text, Sep, sep_text, Flow, flow_text}
use Rattle.yaml_block.specs.Prelude.{flow_events, block_key, Pair, Indented, compact_items, compact_pairs, node, omitted, is_omitted}
use Rattle.yaml_block.specs.Prelude.{indented_text, indented_end, indented_events, pair_text, pair_end, pair_events, seq_start, map_start}
use Rattle.yaml_block.specs.Prelude.{Read, node_below, read_block, block_key_in, flow_leaf_at, flow_node_at, block_node_at, block_items_at}
use Rattle.yaml_block.specs.Prelude.{block_pairs_at, block_indented_at, Sits, on_sign_line, on_lines, PairKey, key_asked, key_on_line}
use Rattle.yaml_block.specs.Prelude.{BlockFrame, waits_item, waits_key, waits_value, close_pairs, pairs_after, keyed_part, unwind}
use Rattle.yaml_block.specs.{Prelude.line_starts, Signs.is_colon, declared.frame.Waits.{Waits, TheVariants.{Item, Key, Value}}}
use Rattle.yaml_block.specs.{declared.line_sign.Sign.{Sign, TheVariants.{Dash, Asked, Colon}}, BlockParts.{as_part, part_at}}
use Rattle.{yaml_grammar.specs.Events.Event, yaml_recognizers.proofs.Meanings.EventPrefixes.{done_items_end, done_items_events}}
use Rattle.yaml_recognizers.proofs.Meanings.EventPrefixes.{done_pairs_end, done_pairs_events}

-- ---- frames

-- where the open collection is in its part
abbrev pub sits_of : BlockFrame → Sits
sits_of (waits_item sits k done) = sits
sits_of (waits_key sits k done) = sits
sits_of (waits_value sits k done key) = sits

-- the indentation of the open collection
abbrev pub indent_of : BlockFrame → ℕ
indent_of (waits_item sits k done) = k
indent_of (waits_key sits k done) = k
indent_of (waits_value sits k done key) = k

-- what the open collection waits for
abbrev pub waits_of : BlockFrame → Waits
waits_of (waits_item sits k done) = Item
waits_of (waits_key sits k done) = Key
waits_of (waits_value sits k done key) = Value

-- the sign before the value of this key
abbrev pub sign_after : PairKey → Sign
sign_after (key_asked key) = Asked
sign_after (key_on_line key gap) = Colon

-- the sign before the part that it waits for
abbrev pub sign_of : BlockFrame → Sign
sign_of (waits_item sits k done) = Dash
sign_of (waits_key sits k done) = Asked
sign_of (waits_value sits k done key) = sign_after key

-- A collection at k is in the part that the innermost frame waits for: a compact one follows the sign of that frame,
-- which is not the `:` of a key on its line.
abbrev pub Seated : Sits → ℕ → List BlockFrame → Type 0
Seated (on_lines comments j) k fs = j ≡ k
Seated (on_sign_line s) k [] = ⊥
Seated (on_sign_line s) k (g ∷ fs) = (is_colon (sign_of g) ≡ false) × (k ≡ indent_of g + 1 + s)

-- each open collection is where it may be in the ones around it
abbrev pub Nested : List BlockFrame → Type 0
Nested [] = Unit {0}
Nested (f ∷ fs) = Seated (sits_of f) (indent_of f) fs × Nested fs

-- the innermost frame waits for a part after this sign, at this indentation
abbrev pub Awaits : Sign → ℕ → List BlockFrame → Type 0
Awaits sign k [] = ⊥
Awaits sign k (f ∷ fs) = (sign_of f ≡ sign) × (indent_of f ≡ k)

-- the part is a compact collection
abbrev pub is_compact : Indented → Bool
is_compact (compact_items s is) = true
is_compact (compact_pairs s ps) = true
is_compact (node n) = false
is_compact (omitted comments) = false

-- the part may be the one that the collection waits for
abbrev pub fits_frame : BlockFrame → Indented → Bool
fits_frame (waits_item sits k done) i = true
fits_frame (waits_key sits k done) i = not (is_omitted i)
fits_frame (waits_value sits k done (key_asked key)) i = true
fits_frame (waits_value sits k done (key_on_line key gap)) i = not (is_compact i)

-- the same of the innermost collection
abbrev pub fits_frames : List BlockFrame → Indented → Bool
fits_frames [] i = true
fits_frames (f ∷ fs) i = fits_frame f i

-- ---- places and events

-- the indentation that a part's text and events take
abbrev pub inner_indent : List BlockFrame → ℕ
inner_indent [] = 0
inner_indent (f ∷ fs) = indent_of f

-- where the first sign or key of a collection is, from where its part begins
abbrev pub sits_place : Sits → ℕ → ℕ
sits_place (on_sign_line s) at = at + s
sits_place (on_lines comments k) at = at + byte_len (comments_text comments) + k

-- the events of a pair's key, from where the pair begins
abbrev pub key_events : ℕ → PairKey → ℕ → List Event
key_events k (key_asked key) at = indented_events key k (at + 1)
key_events k (key_on_line key gap) at = flow_events key at

-- where a pair's value begins, from where the pair begins
abbrev pub value_place : ℕ → PairKey → ℕ → ℕ
value_place k (key_asked key) at = at + 1 + byte_len (indented_text key k) + k + 1
value_place k (key_on_line key gap) at = at + byte_len (flow_text key) + byte_len gap + 1

-- where the part begins that a frame waits for, from where its own part begins
abbrev pub part_place : BlockFrame → ℕ → ℕ
part_place (waits_item sits k done) at = done_items_end k done (sits_place sits at) + 1
part_place (waits_key sits k done) at = done_pairs_end k done (sits_place sits at) + 1
part_place (waits_value sits k done key) at = value_place k key (done_pairs_end k done (sits_place sits at))

-- its events so far
abbrev pub prefix_events : BlockFrame → ℕ → List Event
prefix_events (waits_item sits k done) at = seq_start ∷ done_items_events k done (sits_place sits at)
prefix_events (waits_key sits k done) at = map_start ∷ done_pairs_events k done (sits_place sits at)
prefix_events (waits_value sits k done key) at =
    map_start ∷ (done_pairs_events k done (sits_place sits at) ++ key_events k key
    (done_pairs_end k done (sits_place sits at)))

-- the same for all frames, from where the outermost part begins
abbrev pub place_in : List BlockFrame → ℕ → ℕ
place_in [] from = from
place_in (f ∷ fs) from = part_place f (place_in fs from)

-- the events so far of the open collections
abbrev pub events_in : List BlockFrame → ℕ → List Event
events_in [] from = []
events_in (f ∷ fs) from = events_in fs from ++ prefix_events f (place_in fs from)

-- ---- what the call reads, W, by what is still to be read

-- the part after a sign, as the recognizer reads it
abbrev pub part_after : Sign → ℕ → List ℕ → Read Indented
part_after Dash k text = block_indented_at k false text
part_after Asked k text = block_indented_at k true text
part_after Colon k text = keyed_part k text

-- the indentation of the pairs that may start here
abbrev pub pairs_of : Option (Sits × ℕ) → Option ℕ
pairs_of None = None
pairs_of (Some (sits, k)) = Some k

-- where the mapping would sit
abbrev pub MaySit : List BlockFrame → ℕ → ℕ → Option (Sits × ℕ) → Type 0
MaySit fs from at None = Unit {0}
MaySit fs from at (Some (sits, k)) = Seated sits k fs × (sits_place sits (place_in fs from) ≡ at)

-- W is what the call reads of the text, as a part that begins at `from`; evs are the events that it has given
module _ (W : Read Indented) (text : List ℕ) (from : ℕ) (fs : List BlockFrame) (evs : List Event) where
  -- after a sign of the innermost collection, which is at k
  pub record AfterSign (sign : Sign) (k at : ℕ) : Type 0 where
    pub reads : W ≡ unwind fs (part_after sign k (rest text at))
    pub nested : Nested fs
    pub awaits : Awaits sign k fs
    pub place : place_in fs from ≡ at
    pub wrote : evs ≡ events_in fs from

  -- before a pair of a mapping at k, of which `done` is read
  pub record AtPair (k at : ℕ) : Type 0 where
    pub sits : Sits
    pub done : List Pair
    pub starts : line_starts text at ≡ (k == 0)
    pub reads : W ≡ unwind fs (close_pairs sits done (block_pairs_at k (k == 0) (rest text at)))
    pub nested : Nested fs
    pub seated : Seated sits k fs
    pub place : done_pairs_end k done (sits_place sits (place_in fs from)) ≡ at
    pub wrote : evs ≡ events_in fs from ++ map_start ∷ done_pairs_events k done (sits_place sits (place_in fs from))

  -- a pair of a mapping at k is read, and a line starts after it
  pub record AfterPair (k start end : ℕ) : Type 0 where
    pub sits : Sits
    pub done : List Pair
    pub last : Pair
    pub reads : W ≡ unwind fs (pairs_after sits k done last (rest text start))
    pub nested : Nested fs
    pub seated : Seated sits k fs
    pub place : done_pairs_end k done (sits_place sits (place_in fs from)) + byte_len (pair_text last k) ≡ start
    pub ends : pair_end last k (done_pairs_end k done (sits_place sits (place_in fs from))) ≡ end
    pub wrote : evs ≡ events_in fs from
        ++ map_start ∷ (done_pairs_events k done (sits_place sits (place_in fs from)) ++ pair_events last k
        (done_pairs_end k done (sits_place sits (place_in fs from))))

  -- A part is read, and a line starts after it, at `start`; its last scalar or closing bracket ended at `end`.
  pub record AtLine (start end : ℕ) : Type 0 where
    pub part : Indented
    pub reads : W ≡ unwind fs (Some (part, rest text start))
    pub nested : Nested fs
    pub fits : fits_frames fs part ≡ true
    pub place : place_in fs from + byte_len (indented_text part (inner_indent fs)) ≡ start
    pub ends : indented_end part (inner_indent fs) (place_in fs from) ≡ end
    pub wrote : evs ≡ events_in fs from ++ indented_events part (inner_indent fs) (place_in fs from)

  -- a node at m, with its separation, is at the place
  pub record AtNode (m : ℕ) (shallow bol : Bool) (at : ℕ) : Type 0 where
    pub reads : W ≡ unwind fs (as_part (block_node_at m shallow bol (rest text at)))
    pub nested : Nested fs
    pub place : place_in fs from ≡ at
    pub wrote : evs ≡ events_in fs from

  -- A node at m is read from a place before which its comments are read, at the start of a line;
  -- alone: there are none.
  pub record AtNodeLine (m : ℕ) (shallow alone : Bool) (start : ℕ) : Type 0 where
    pub bol : Bool
    pub comments : List LineEnd
    pub reads : W ≡ unwind fs (as_part (node_below block_key_in flow_leaf_at read_block (λ k t. block_items_at k t)
        (λ k b t. block_pairs_at k b t) m shallow bol (comments, rest text start)))
    pub nested : Nested fs
    pub starts : bol || not (is_empty comments) ≡ true
    pub alone_is : is_empty comments ≡ alone
    pub lines : starts_line bol (comments_text comments) ≡ line_starts text start
    pub place : place_in fs from + byte_len (comments_text comments) ≡ start
    pub wrote : evs ≡ events_in fs from

  -- A leaf is at the place after its separation; or the first pair of a mapping at k, where one may begin there.
  pub record AtLeaf (m : ℕ) (pairs : Option ℕ) (at : ℕ) : Type 0 where
    pub sep : Sep
    pub mapping : Option (Sits × ℕ)
    pub reads : W ≡ unwind fs (part_at mapping m (line_starts text at) sep (rest text at))
    pub nested : Nested fs
    pub pairs_is : pairs_of mapping ≡ pairs
    pub may_sit : MaySit fs from at mapping
    pub place : place_in fs from + byte_len (sep_text sep) ≡ at
    pub wrote : evs ≡ events_in fs from

-- The key of a pair of a mapping at k is read, which is on one line between the two places; no frame is made of it yet.
pub record AtColon (W : Read Indented) (text : List ℕ) (from : ℕ) (fs : List BlockFrame) (evs : List Event)
    (k at end : ℕ) : Type 0 where
  pub key : Flow
  pub found : flow_node_at 0 block_key (line_starts text at) (rest text at) ≡ Some (key, rest text end)
  pub before : List Event
  pub pair : AtPair W text from fs before k at
  pub wrote : evs ≡ before ++ flow_events key at
