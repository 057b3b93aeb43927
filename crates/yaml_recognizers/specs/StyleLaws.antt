-- The laws of the one style, as statements.
use Rattle.std.specs.Prelude.{◌≤◌, List, ℕ}
use Rattle.yaml_recognizers.specs.Prelude.{IsText, byte_len, Event, Tree, IsTextTree, IsTreeOf, style_text, CanRead, Limits, Good, Gives}
use Rattle.yaml_recognizers.specs.Closings.{framed_text}

-- the source is a text, and can be read as the events of the tree
pub record CanReadAs (source : List ℕ) (t : Tree) : Type 0 where
  pub text : IsText source
  pub events : List Event
  pub reads : CanRead source events
  pub tree : IsTreeOf events t

-- each tree of texts can be read from its text in the one style
abbrev pub StylePresents : Type 0
StylePresents = (t : Tree) → IsTextTree t → CanReadAs (style_text t) t

-- and from that text between lines of `---` and `...`
abbrev pub FramedPresents : Type 0
FramedPresents = (t : Tree) → IsTextTree t → CanReadAs (framed_text t) t

-- a good tree's text in the one style gives that tree
abbrev pub StyleReads : Type 0
StyleReads = (t : Tree) (limits : Limits) → Good t limits → byte_len (style_text t) ≤ limits.bytes
    → Gives (style_text t) limits t

-- and so does that text between lines of `---` and `...`
abbrev pub FramedReads : Type 0
FramedReads = (t : Tree) (limits : Limits) → Good t limits → byte_len (framed_text t) ≤ limits.bytes
    → Gives (framed_text t) limits t
