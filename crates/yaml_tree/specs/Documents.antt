-- A text that was read as one document, and the text of its tree in the one style.
use Rattle.std.specs.Prelude.{◌≡◌, ℕ, List}
use Rattle.yaml_tree.specs.{Prelude.{ReadsAs, events_of, Limits, style_text, byte_len, Tree, IsTreeOf, depth}, Reading.IsRead}
use Rattle.yaml_tree.specs.{Reading.document_count, declared.documents.Document.Document}

-- the bytes read as the events of one document, which say how deep its tree is, if it has one
pub record IsDocument (bytes : List ℕ) (limits : Limits) (document : Document) : Type 0 where
  pub reads : ReadsAs bytes limits.bytes document.events
  pub one : document_count (events_of document.events) ≡ 1
  pub as_deep : (t : Tree) → IsTreeOf (events_of document.events) t → document.depth ≡ depth t

-- the limits with another one of the length in the one style
abbrev pub with_style : Limits → ℕ → Limits
with_style limits style = record { bytes = limits.bytes; depth = limits.depth; style = style }

-- The bytes give a tree within the limits, but for its length in the one style, which has no limit. A sink has taken
-- its text in the one style; `takes` says which characters lead from one sink to another.
pub record IsWrittenTo {S : Type 0} (takes : S → List ℕ → S → Type 0) (bytes : List ℕ) (limits : Limits)
    (before after : S) : Type 0 where
  pub tree : Tree
  pub reads : IsRead bytes (with_style limits (byte_len (style_text tree))) tree
  pub text : takes before (style_text tree) after
