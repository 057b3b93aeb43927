-- A document that is written while its events come, and what was written of it at the end.
use Rattle.std.specs.Prelude.{◌≡◌, ℕ, ◌<◌, Bool, List, Option, Some, ◌-◌, ◌+◌, encode_utf8_all}
use Rattle.yaml_tree.specs.Prelude.{Event, Limits, style_text, Tree, IsTreeOf, IsTextTree, distinct, Shape, document_from, document_to}
use Rattle.yaml_tree.specs.{Prelude.{seq_from, seq_to, map_from, map_to, scalar_of}, OpenParts.HoldsKeys, Frames.Frame, OpenText.indent_in}
use Rattle.yaml_tree.specs.{OpenText.{text_of, AreTextFrames}, Reading.IsRead, declared.format.DocumentWriter.DocumentWriter}

-- the bytes give a tree within the limits, and this is its text in the one style
pub record IsFormatted (bytes : List ℕ) (limits : Limits) (text : List ℕ) : Type 0 where
  pub tree : Tree
  pub reads : IsRead bytes limits tree
  pub style : text ≡ encode_utf8_all (style_text tree)

-- the indentation of what is opened after an event
abbrev pub indent_after : ℕ → Shape → ℕ
indent_after i document_from = i
indent_after i document_to = i
indent_after i seq_from = i + 2
indent_after i seq_to = i - 2
indent_after i map_from = i + 2
indent_after i map_to = i - 2
indent_after i (scalar_of value) = i

-- In what follows, a writer puts a document into a sink; `takes` says which characters lead from one sink to another.

-- the writer after the events that opened these parts, and the sink before the first event and now
pub record Writes {S : Type 0} (takes : S → List ℕ → S → Type 0) (start now : S) (writer : DocumentWriter)
    (fs : List Frame) : Type 0 where
  pub keeps : HoldsKeys writer.parts fs
  pub indent : writer.indent ≡ indent_in fs
  pub room : writer.indent < 4294967296
  pub texts : AreTextFrames fs
  pub text : takes start (text_of fs) now

-- the event has a place, and this is the writer after it
pub record Wrote {S : Type 0} (takes : S → List ℕ → S → Type 0) (start now : S) (writer : DocumentWriter)
    (o : Option (List Frame)) : Type 0 where
  pub parts : List Frame
  pub are : o ≡ Some parts
  pub writes : Writes takes start now writer parts

-- the events are those of one document; its tree was written, and this is whether its keys differ
pub record IsWritten {S : Type 0} (takes : S → List ℕ → S → Type 0) (start now : S) (events : List Event)
    (differ : Bool) : Type 0 where
  pub tree : Tree
  pub is_tree : IsTreeOf events tree
  pub texts : IsTextTree tree
  pub keys : differ ≡ distinct tree
  pub text : takes start (style_text tree) now
