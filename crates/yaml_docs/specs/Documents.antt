-- Documents of a stream at places of a text.
use Rattle.std.{specs.Prelude.{◌≡◌, ℕ, ◌<◌, true, false, List, Some, None, drop}, proofs.Math.Logic.◌⊎◌}
use Rattle.yaml_docs.specs.Prelude.{IsCharBoundary, chars, rest, node_events, Document, Explicit, content, nothing, document_events}
use Rattle.yaml_docs.specs.Prelude.{explicit_events, first, LineEnd, Event, omits, suffix, all_comments, document_node_at, explicit_with}
use Rattle.yaml_docs.specs.{Prelude.{order_mark, suffix_with, read_directed, read_explicit, IsLineStart, Appended}, Sections.meaning_from}
use Rattle.{yaml_docs.specs.Sections.stream_meaning, yaml_grammar.specs.Events.omitted_at}
use Rattle.yaml_grammar.specs.Events as grammar

-- the place after a byte order mark at the start of a text, or its start
pub record IsMarkEnd (text : List ℕ) (end : ℕ) : Type 0 where
  pub boundary : IsCharBoundary text end
  pub starts : IsLineStart text end
  pub unmarked : (0 < end) ⊎ (first order_mark (rest text end) ≡ false)
  pub reads : stream_meaning (chars text) ≡ meaning_from true text end

-- the `...` at the place and its line are read
pub record SuffixRead (text : List ℕ) (at end : ℕ) : Type 0 where
  pub boundary : IsCharBoundary text end
  pub starts : IsLineStart text end
  pub comments : List LineEnd
  pub reads : suffix_with (all_comments false (drop 3 (rest text at))) ≡ Some (suffix comments, rest text end)

-- comments, and after them the end of the document: its node is left out
pub record IsOmitted (text : List ℕ) (at end : ℕ) : Type 0 where
  pub boundary : IsCharBoundary text end
  pub starts : IsLineStart text end
  pub omitted : omits 0 false (all_comments false (rest text at)) ≡ true
  pub leaves : (all_comments false (rest text at)).1 ≡ rest text end

-- what the node after a `---` means, or an omitted one
abbrev pub after_dashes : Explicit → ℕ → List grammar.Event
after_dashes (content n) at = node_events n at
after_dashes (nothing comments) at = omitted_at at

-- the node after a `---` that ends at the place, or an omitted one, is read
pub record ExplicitNodeRead (text : List ℕ) (at : ℕ) (old new : List Event) (end : ℕ) : Type 0 where
  pub boundary : IsCharBoundary text end
  pub starts : IsLineStart text end
  pub document : Explicit
  pub reads : explicit_with document_node_at (rest text at) (all_comments false (rest text at))
      ≡ Some (document, rest text end)
  pub appended : Appended text old new (after_dashes document at)

-- the document whose `---` is at the place is read
pub record ExplicitRead (text : List ℕ) (at : ℕ) (old new : List Event) (end : ℕ) : Type 0 where
  pub boundary : IsCharBoundary text end
  pub starts : IsLineStart text end
  pub document : Explicit
  pub reads : read_explicit document_node_at (rest text at) ≡ Some (document, rest text end)
  pub appended : Appended text old new (explicit_events document at)

-- the document whose directive is at the place is read
pub record DocumentRead (text : List ℕ) (at : ℕ) (old new : List Event) (end : ℕ) : Type 0 where
  pub boundary : IsCharBoundary text end
  pub starts : IsLineStart text end
  pub document : Document
  pub reads : read_directed document_node_at (rest text at) ≡ Some (document, rest text end)
  pub appended : Appended text old new (document_events document at)

-- ---- where there is none

-- no suffix is there
abbrev pub NoSuffix : List ℕ → Type 0
NoSuffix text = suffix_with (all_comments false (drop 3 text)) ≡ None

-- no node is after a `---`
abbrev pub NoExplicitNode : List ℕ → Type 0
NoExplicitNode text = explicit_with document_node_at text (all_comments false text) ≡ None

-- no explicit document is there
abbrev pub NoExplicit : List ℕ → Type 0
NoExplicit text = read_explicit document_node_at text ≡ None

-- no document with a directive is there
abbrev pub NoDirected : List ℕ → Type 0
NoDirected text = read_directed document_node_at text ≡ None
