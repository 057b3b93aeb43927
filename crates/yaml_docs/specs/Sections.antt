-- What the sections of a stream mean: those of a whole text, and those from a place on.
use Rattle.std.{specs.Prelude.{◌≡◌, ℕ, ◌<◌, Bool, true, false, List, ◌++◌, Option, Some, None, drop, All}, proofs.Math.Logic.◌⊎◌}
use Rattle.yaml_docs.specs.Prelude.{IsCharBoundary, chars, rest, bare, explicit, first, BorrowsPlain, events_of, Event, FlatStream}
use Rattle.yaml_docs.specs.Prelude.{section_events, sections_events, flat_events, all_comments, Read, on, document_node_at, section_at}
use Rattle.yaml_docs.specs.Prelude.{sections_at, stream_at, dash, dot, marker_of, order_mark, read_directed, read_explicit, suffix_with}
use Rattle.yaml_docs.specs.{Prelude.{IsLineStart, Appended}, declared.documents.Section.{Section, TheVariants.{Suffix, Explicit, Directed}}}
use Rattle.yaml_docs.specs.declared.documents.Section.TheVariants.{Bare}
use Rattle.yaml_grammar.specs.Events as grammar
use Rattle.yaml_recognizers.specs.CanonicalStreams as flat

-- what the sections from a place on mean, if there are any
abbrev pub sections_meaning : ℕ → Option (List flat.Section) → Option (List grammar.Event)
sections_meaning at None = None
sections_meaning at (Some sections) = Some (sections_events sections at)

-- the events of the sections from a place on, where a line starts; opened: a bare document or a directive may be there
abbrev pub meaning_from : Bool → List ℕ → ℕ → Option (List grammar.Event)
meaning_from opened text at = sections_meaning at (sections_at opened true (rest text at))

-- the events of a stream, if one is read
abbrev pub flat_meaning : Option FlatStream → Option (List grammar.Event)
flat_meaning None = None
flat_meaning (Some stream) = Some (flat_events stream)

-- the events of a text, if it is a stream
abbrev pub stream_meaning : List ℕ → Option (List grammar.Event)
stream_meaning text = flat_meaning (stream_at text)

-- events, and then those that follow, if what follows is a stream
abbrev pub and_then : List grammar.Event → Option (List grammar.Event) → Option (List grammar.Event)
and_then events None = None
and_then events (Some more) = Some (events ++ more)

-- ---- sections at places of a text

-- what the recognizer reads where such a section begins
abbrev pub read_as : Section → List ℕ → Read flat.Section
read_as Suffix text = suffix_with (all_comments false (drop 3 text))
read_as Explicit text = on (read_explicit document_node_at text) (λ x after. Some (flat.document (explicit x), after))
read_as Directed text = on (read_directed document_node_at text) (λ d after. Some (flat.document d, after))
read_as Bare text = on (document_node_at true text) (λ n after. Some (flat.document (bare n), after))

-- a bare document or a directive may follow such a section
abbrev pub ends_document : Section → Bool
ends_document Suffix = true
ends_document Explicit = false
ends_document Directed = false
ends_document Bare = false

-- a section with a marker begins with it
abbrev pub Begins : Section → List ℕ → Type 0
Begins Suffix text = marker_of dot text ≡ true
Begins Explicit text = marker_of dash text ≡ true
Begins Directed text = Unit {0}
Begins Bare text = Unit {0}

-- the text begins with such a section, if with any
pub record BeginsSection (opened : Bool) (text : List ℕ) (section : Section) : Type 0 where
  pub begins : Begins section text
  pub reads : section_at opened true text ≡ read_as section text

-- the section from one place to another is read, and its events are appended
pub record SectionRead (text : List ℕ) (at : ℕ) (section : Section) (old new : List Event) (end : ℕ) : Type 0 where
  pub boundary : IsCharBoundary text end
  pub starts : IsLineStart text end
  pub found : flat.Section
  pub reads : read_as section (rest text at) ≡ Some (found, rest text end)
  pub appended : Appended text old new (section_events found at)

-- The events of the whole text are these, and then those of the sections from the place on.
pub record ReadUpTo (text : List ℕ) (opened : Bool) (at : ℕ) (events : List Event) : Type 0 where
  pub boundary : IsCharBoundary text at
  pub starts : IsLineStart text at
  pub unmarked : (0 < at) ⊎ (first order_mark (rest text at) ≡ false)
  pub reads : stream_meaning (chars text) ≡ and_then (events_of events) (meaning_from opened text at)
  pub borrows : All (BorrowsPlain text) events
