-- A stream as a flat list of sections, with the same text and meaning: each line before or after a document is a section of
-- its own, and so are the lines of comments that a bare document begins with. The other comments are as they were.
use Rattle.std.{proofs.Common.{append_assoc, refl, sym, ◌∙◌, ◌≡◌}, specs.Prelude.{List, None, Option, Some, [], flat_map, if◌then◌else◌, ℕ}}
use Rattle.std.specs.Prelude.{◌++◌, ◌+◌, ◌∷◌}
use Rattle.yaml_recognizers.proofs.Prelude.{add-zero, add_assoc, flat_map-append, append-nil, node_events, node_text, as_document, LineEnd}
use Rattle.yaml_recognizers.proofs.Prelude.{comments_text, line_end_text, Document, Part, Stream, bare, directed, directive_text}
use Rattle.yaml_recognizers.proofs.Prelude.{document_events, document_text, explicit, explicit_text, further, mark_text, stream_events}
use Rattle.yaml_recognizers.proofs.Prelude.{optional_document_events, part_events, part_text, parts_events, parts_text, stream_text}
use Rattle.yaml_recognizers.proofs.{Prelude.{suffix_text, suffixes, byte_len, optional}, Block.BareNodes.{leading, parted_events}}
use Rattle.yaml_recognizers.proofs.{Block.BareNodes.{parted_text, unled}, Basics.LineStarts.byte_len_joined}
use Rattle.yaml_recognizers.specs.CanonicalStreams.{Section, document, line, section_events, section_text, sections_events, sections_text}
use Rattle.{yaml_recognizers.specs.CanonicalStreams.suffix, yaml_grammar.specs.Streams.line as part_line}

-- ---- the sections

-- a section for each line
abbrev pub lines_sections : List LineEnd → List Section
lines_sections [] = []
lines_sections (e ∷ es) = line e ∷ lines_sections es

-- the lines before a bare document, and the document
abbrev pub document_sections : Document → List Section
document_sections (bare n) = lines_sections (leading n) ++ document (bare (unled n)) ∷ []
document_sections (explicit x) = document (explicit x) ∷ []
document_sections (directed blank version comments x) = document (directed blank version comments x) ∷ []

-- the sections of a document that may be left out
abbrev pub optional_sections : Option Document → List Section
optional_sections None = []
optional_sections (Some d) = document_sections d

-- a section for each suffix
abbrev pub suffixes_sections : List (List LineEnd) → List Section
suffixes_sections [] = []
suffixes_sections (s ∷ ss) = suffix s ∷ suffixes_sections ss

-- the sections of a part
abbrev pub part_sections : Part → List Section
part_sections (suffixes one more prefix d) = suffix one ∷ (suffixes_sections more ++ (lines_sections prefix ++ optional_sections d))
part_sections (part_line e) = line e ∷ []
part_sections (further x) = document (explicit x) ∷ []

-- the sections of parts
abbrev pub parts_sections : List Part → List Section
parts_sections [] = []
parts_sections (p ∷ ps) = part_sections p ++ parts_sections ps

-- the sections of a stream
abbrev pub stream_sections : Stream → List Section
stream_sections s = lines_sections s.prefix ++ (optional_sections s.document ++ parts_sections s.parts)

-- ---- the text

-- the text of sections, joined
pub sections_joined : (ps qs : List Section) → sections_text (ps ++ qs) ≡ sections_text ps ++ sections_text qs
sections_joined ps qs = flat_map-append section_text ps qs

-- the sections of lines spell the lines
pub lines_sections_text : (es : List LineEnd) → sections_text (lines_sections es) ≡ comments_text es
lines_sections_text [] = refl
lines_sections_text (e ∷ es) = rw (lines_sections_text es)

-- the sections of a document have its text
document_sections_text : (d : Document) → sections_text (document_sections d) ≡ document_text d
document_sections_text (bare n) =
    sections_joined (lines_sections (leading n)) (document (bare (unled n)) ∷ [])
    ∙ (rw (lines_sections_text (leading n), append-nil (node_text (unled n))) (sym (parted_text n)))
document_sections_text (explicit x) = append-nil (explicit_text x)
document_sections_text (directed blank version comments x) = append-nil (directive_text blank version comments ++ explicit_text x)

-- those of a document spell the document
pub optional_sections_text : (d : Option Document) → sections_text (optional_sections d) ≡ optional document_text d
optional_sections_text None = refl
optional_sections_text (Some d) = document_sections_text d

-- those of suffixes spell the suffixes
pub suffixes_sections_text : (ss : List (List LineEnd)) → sections_text (suffixes_sections ss) ≡ flat_map suffix_text ss
suffixes_sections_text [] = refl
suffixes_sections_text (s ∷ ss) = rw (suffixes_sections_text ss)

-- the sections of a part have its text
part_sections_text : (p : Part) → sections_text (part_sections p) ≡ part_text p
part_sections_text (suffixes one more prefix d) =
    let text : sections_text (suffixes_sections more ++ (lines_sections prefix ++ optional_sections d))
    ≡ flat_map suffix_text more ++ (comments_text prefix ++ optional document_text d) =
    simp (sections_joined, suffixes_sections_text more, lines_sections_text prefix, optional_sections_text d) in
    rw text (sym (append_assoc (suffix_text one ++ flat_map suffix_text more) (comments_text prefix)
    (optional document_text d) ∙ append_assoc (suffix_text one) (flat_map suffix_text more) _))
part_sections_text (part_line e) = append-nil (line_end_text e)
part_sections_text (further x) = append-nil (explicit_text x)

-- those of parts spell the parts
pub parts_sections_text : (ps : List Part) → sections_text (parts_sections ps) ≡ parts_text ps
parts_sections_text [] = refl
parts_sections_text (p ∷ ps) = sections_joined (part_sections p) (parts_sections ps) ∙ rw (part_sections_text p, parts_sections_text ps)

-- those of a stream spell the stream
pub stream_sections_text : (s : Stream) → mark_text s.mark ++ sections_text (stream_sections s) ≡ stream_text s
stream_sections_text s =
    let text : sections_text (stream_sections s) ≡ comments_text s.prefix ++ (optional document_text s.document ++ parts_text s.parts) =
    simp (sections_joined, lines_sections_text s.prefix, optional_sections_text s.document, parts_sections_text s.parts) in
    rw text (sym (append_assoc (mark_text s.mark ++ comments_text s.prefix) (optional document_text s.document) (parts_text s.parts)
    ∙ append_assoc (mark_text s.mark) (comments_text s.prefix) _))

-- ---- the meaning

-- the events of sections, joined
pub sections_events_joined : (ps qs : List Section) (at : ℕ)
    → sections_events (ps ++ qs) at ≡ sections_events ps at ++ sections_events qs (at + byte_len (sections_text ps))
sections_events_joined [] qs at = rw add-zero
sections_events_joined (p ∷ ps) qs at =
    let after : ℕ = at + byte_len (section_text p) in
    let place : at + byte_len (section_text p ++ sections_text ps) ≡ after + byte_len (sections_text ps) =
    rw byte_len_joined (sym (add_assoc at _ _)) in
    rw (sections_events_joined ps qs after, place) (sym (append_assoc (section_events p at) (sections_events ps after) _))

-- lines have no events
lines_sections_events : (es : List LineEnd) (at : ℕ) → sections_events (lines_sections es) at ≡ []
lines_sections_events [] at = refl
lines_sections_events (e ∷ es) at = lines_sections_events es _

-- suffixes have no events
suffixes_sections_events : (ss : List (List LineEnd)) (at : ℕ) → sections_events (suffixes_sections ss) at ≡ []
suffixes_sections_events [] at = refl
suffixes_sections_events (s ∷ ss) at = suffixes_sections_events ss _

-- the sections of a document mean what it means
document_sections_events : (d : Document) (at : ℕ) → sections_events (document_sections d) at ≡ document_events d at
document_sections_events (bare n) at =
    sections_events_joined (lines_sections (leading n)) (document (bare (unled n)) ∷ []) at
    ∙ (rw (lines_sections_events (leading n) at, lines_sections_text (leading n), parted_events n at)
    (append-nil (as_document (node_events (unled n) (at + byte_len (comments_text (leading n)))))))
document_sections_events (explicit x) at = append-nil (document_events (explicit x) at)
document_sections_events (directed blank version comments x) at = append-nil (document_events (directed blank version comments x) at)

-- and so do those of one that may be left out
optional_sections_events : (d : Option Document) (at : ℕ) → sections_events (optional_sections d) at ≡ optional_document_events d at
optional_sections_events None at = refl
optional_sections_events (Some d) at = document_sections_events d at

-- the sections of a part mean what it means
part_sections_events : (p : Part) (at : ℕ) → sections_events (part_sections p) at ≡ part_events p at
part_sections_events (suffixes one more prefix d) at =
    let after : ℕ = at + byte_len (suffix_text one) in
    let last : ℕ = after + byte_len (flat_map suffix_text more) in
    sections_events_joined (suffixes_sections more) (lines_sections prefix ++ optional_sections d) after
    ∙ rw (suffixes_sections_events more after, suffixes_sections_text more)
    (sections_events_joined (lines_sections prefix) (optional_sections d) last
    ∙ rw (lines_sections_events prefix last, lines_sections_text prefix)
    (optional_sections_events d (last + byte_len (comments_text prefix))))
part_sections_events (part_line e) at = refl
part_sections_events (further x) at = append-nil (document_events (explicit x) at)

-- and so do those of parts
parts_sections_events : (ps : List Part) (at : ℕ) → sections_events (parts_sections ps) at ≡ parts_events ps at
parts_sections_events [] at = refl
parts_sections_events (p ∷ ps) at =
    sections_events_joined (part_sections p) (parts_sections ps) at
    ∙ rw (part_sections_events p at, part_sections_text p, parts_sections_events ps)

-- the sections of a stream mean what it does
pub stream_sections_events : (s : Stream) → sections_events (stream_sections s) (if s.mark then 3 else 0) ≡ stream_events s
stream_sections_events s =
    let at : ℕ = if s.mark then 3 else 0 in
    let after : ℕ = at + byte_len (comments_text s.prefix) in
    sections_events_joined (lines_sections s.prefix) (optional_sections s.document ++ parts_sections s.parts) at
    ∙ rw (lines_sections_events s.prefix at, lines_sections_text s.prefix)
    (sections_events_joined (optional_sections s.document) (parts_sections s.parts) after
    ∙ rw (optional_sections_events s.document after, optional_sections_text s.document, parts_sections_events s.parts))
