-- The canonical form of streams: a flat list of sections. Each line before a document or after one is a section of its own,
-- unless the document's node or the marker before it may have it.
use Rattle.std.specs.Prelude.{ℕ, ◌+◌, Bool, true, false, not, ◌&&◌, List, [], ◌∷◌, ◌++◌, flat_map, if◌then◌else◌}
use Rattle.yaml_recognizers.specs.Prelude.{white, list_all, is_empty, byte_len, marker, starts_line, LineEnd, line_end_text}
use Rattle.yaml_recognizers.specs.Prelude.{comment_line_fits, node_text, Event, Explicit, content, nothing, Document, bare, explicit}
use Rattle.yaml_recognizers.specs.Prelude.{directed, explicit_text, document_text, document_events, suffix_text, mark_text}
use Rattle.yaml_recognizers.specs.{CanonicalComments.{is_line_end, canonical_comments}, CanonicalBlockNodes.canonical_node}

-- ---- presentations

-- a `...` line with its comments; a line of whitespace or a comment; a document
pub data Section : Type 0 where
  suffix : List LineEnd → Section
  line : LineEnd → Section
  document : Document → Section

-- perhaps a byte order mark, and sections
pub record FlatStream : Type 0 where
  pub mark : Bool
  pub sections : List Section

-- ---- what they spell

-- the text of a section
abbrev pub section_text : Section → List ℕ
section_text (suffix comments) = suffix_text comments
section_text (line e) = line_end_text e
section_text (document d) = document_text d

-- the text of sections
abbrev pub sections_text : List Section → List ℕ
sections_text ps = flat_map section_text ps

-- the text of a flat stream
abbrev pub flat_text : FlatStream → List ℕ
flat_text s = mark_text s.mark ++ sections_text s.sections

-- ---- what they have to meet

-- [208] l-explicit-document, 9.1.4: `---` is at the start of a line, as a marker
abbrev pub canonical_explicit : Explicit → Bool → List ℕ → Bool
canonical_explicit (content n) bol after =
    bol && marker (explicit_text (content n) ++ after) && canonical_node n 0 false false after
canonical_explicit (nothing comments) bol after =
    bol && marker (explicit_text (nothing comments) ++ after) && canonical_comments false comments after

-- [210] l-any-document, 9.2: A bare document and a directive are at the start of the stream or after a suffix,
-- perhaps with lines between; opened says so. The lines before a bare document are sections of their own.
abbrev pub canonical_document : Document → Bool → Bool → List ℕ → Bool
canonical_document (bare n) opened bol after =
    opened && not (is_line_end (node_text n ++ after)) && canonical_node n 0 false bol after
canonical_document (explicit x) opened bol after = canonical_explicit x bol after
canonical_document (directed blank version comments x) opened bol after =
    opened && bol && list_all white blank && not (is_empty blank)
    && canonical_comments false comments (explicit_text x ++ after)
    && canonical_explicit x true after

-- [211] l-yaml-stream, 9.2: a section in its canonical form; `...` is at the start of a line, as a marker
abbrev pub canonical_section : Section → Bool → Bool → List ℕ → Bool
canonical_section (suffix comments) opened bol after =
    bol && marker (suffix_text comments ++ after) && canonical_comments false comments after
canonical_section (line e) opened bol after = comment_line_fits bol e after
canonical_section (document d) opened bol after = canonical_document d opened bol after

-- whether a bare document or a directive may follow
abbrev pub opens : Bool → Section → Bool
opens opened (suffix comments) = true
opens opened (line e) = opened
opens opened (document d) = false

-- [211] l-yaml-stream, 9.2: each of the sections is canonical where it is
abbrev pub canonical_sections : List Section → Bool → Bool → Bool
canonical_sections [] opened bol = true
canonical_sections (p ∷ ps) opened bol =
    canonical_section p opened bol (sections_text ps)
    && canonical_sections ps (opens opened p) (starts_line bol (section_text p))

-- [211] l-yaml-stream, 9.2: a flat stream is canonical; the place after a byte order mark is the start of a line
abbrev pub canonical_stream : FlatStream → Bool
canonical_stream s = canonical_sections s.sections true true

-- ---- what they mean

-- the events of a section
abbrev pub section_events : Section → ℕ → List Event
section_events (suffix comments) at = []
section_events (line e) at = []
section_events (document d) at = document_events d at

-- the events of sections
abbrev pub sections_events : List Section → ℕ → List Event
sections_events [] at = []
sections_events (p ∷ ps) at = section_events p at ++ sections_events ps (at + byte_len (section_text p))

-- the events of a flat stream; a byte order mark has 3 bytes
abbrev pub flat_events : FlatStream → List Event
flat_events s = sections_events s.sections (if s.mark then 3 else 0)
