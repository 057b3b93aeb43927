-- What a text reads as, and the tree that it gives within limits.
use Rattle.std.specs.Prelude.{◌≡◌, ℕ, ◌≤◌, List, IsTrue}
use Rattle.yaml_grammar.specs.{Texts.{IsText, byte_len}, Events.Event, Streams.{Stream, stream_text, fits, stream_events}, Trees.Tree}
use Rattle.yaml_grammar.specs.{Trees.{IsTreeOf, depth, distinct, IsTextTree}, Style.style_text}

-- a presentation of the text, which fits
pub record Presents (p : Stream) (text : List ℕ) : Type 0 where
  pub fits : IsTrue (fits p)
  pub spells : stream_text p ≡ text

-- some presentation of the text means these events
pub record CanRead (text : List ℕ) (events : List Event) : Type 0 where
  pub presentation : Stream
  pub presents : Presents presentation text
  pub means : stream_events presentation ≡ events

-- some presentation means these events, and every one does
pub record Reads (text : List ℕ) (events : List Event) : Type 0 where
  pub source : IsText text
  pub some : CanRead text events
  pub every : (p : Stream) → Presents p text → stream_events p ≡ events

-- the most bytes of a text, the greatest depth of its tree, and the most bytes of the tree in the one style
pub record Limits : Type 0 where
  pub bytes : ℕ
  pub depth : ℕ
  pub style : ℕ

-- everything is text, in each mapping the keys differ, and the tree is within the limits of depth and style
pub record Good (t : Tree) (limits : Limits) : Type 0 where
  pub texts : IsTextTree t
  pub keys : IsTrue (distinct t)
  pub deep : depth t ≤ limits.depth
  pub long : byte_len (style_text t) ≤ limits.style

-- the text reads as one document that holds the tree, and both are within the limits
pub record Gives (text : List ℕ) (limits : Limits) (t : Tree) : Type 0 where
  pub short : byte_len text ≤ limits.bytes
  pub events : List Event
  pub reads : Reads text events
  pub tree : IsTreeOf events t
  pub good : Good t limits
