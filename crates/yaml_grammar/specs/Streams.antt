-- Streams of documents (YAML 1.2.2, 6.8 and chapter 9).
use Rattle.std.specs.Prelude.{ℕ, ◌+◌, Bool, true, false, not, ◌&&◌, List, [], ◌∷◌, ◌++◌, Option, Some, None, codes, flat_map, if◌then◌else◌}
use Rattle.std.specs.List.{list_all}
use Rattle.{yaml_chars.specs.{Signs.byte_order_mark, Classes.white}, yaml_grammar.specs.Texts.{is_empty, optional, byte_len, marker}}
use Rattle.yaml_grammar.specs.{Texts.starts_line, Separation.{LineEnd, line_end_text, comment_line_fits, comments_text, comments_fit}}
use Rattle.yaml_grammar.specs.{BlockNodes.{Node, node_text, node_fits, node_events}, Events.{Event, omitted_at, as_document}}

-- ---- presentations

-- what follows `---`: a node, or nothing (9.1.4)
pub data Explicit : Type 0 where
  content : Node → Explicit
  nothing : List LineEnd → Explicit

-- [87] ns-yaml-version, 6.8.1: 1.1 or 1.2
pub data Version : Type 0 where
  yaml_1_1 yaml_1_2 : Version

-- [207] l-bare-document, [208] l-explicit-document and [209] l-directive-document, 9.1.3 to 9.1.5; the last with its
-- `%YAML` line: its whitespace, its version and comments (6.8.1)
pub data Document : Type 0 where
  bare : Node → Document
  explicit : Explicit → Document
  directed : List ℕ → Version → List LineEnd → Explicit → Document

-- [211] l-yaml-stream, 9.2: what follows a first document: `...` lines, comments and perhaps a document; a line; a
-- further explicit document
pub data Part : Type 0 where
  suffixes : List LineEnd → List (List LineEnd) → List LineEnd → Option Document → Part
  line : LineEnd → Part
  further : Explicit → Part

-- [211] l-yaml-stream, 9.2: perhaps a byte order mark (5.2), comments, perhaps a document, and what follows
pub record Stream : Type 0 where
  pub mark : Bool
  pub prefix : List LineEnd
  pub document : Option Document
  pub parts : List Part

-- ---- what they spell

-- [203] c-directives-end, 9.1.2, and what follows it
abbrev pub explicit_text : Explicit → List ℕ
explicit_text (content n) = codes "---" ++ node_text n
explicit_text (nothing comments) = codes "---" ++ comments_text comments

-- [87] ns-yaml-version, 6.8.1
abbrev pub version_text : Version → List ℕ
version_text yaml_1_1 = codes "1.1"
version_text yaml_1_2 = codes "1.2"

-- [86] ns-yaml-directive, 6.8.1, and comments
abbrev pub directive_text : List ℕ → Version → List LineEnd → List ℕ
directive_text blank version comments = codes "%YAML" ++ blank ++ version_text version ++ comments_text comments

-- the text of a document
abbrev pub document_text : Document → List ℕ
document_text (bare n) = node_text n
document_text (explicit x) = explicit_text x
document_text (directed blank version comments x) = directive_text blank version comments ++ explicit_text x

-- [205] l-document-suffix, 9.1.2
abbrev pub suffix_text : List LineEnd → List ℕ
suffix_text comments = codes "..." ++ comments_text comments

-- the text of a part
abbrev pub part_text : Part → List ℕ
part_text (suffixes one more prefix document) =
    suffix_text one ++ flat_map suffix_text more ++ comments_text prefix ++ optional document_text document
part_text (line e) = line_end_text e
part_text (further x) = explicit_text x

-- the text of parts
abbrev pub parts_text : List Part → List ℕ
parts_text ps = flat_map part_text ps

-- [3] c-byte-order-mark, 5.2
abbrev pub mark_text : Bool → List ℕ
mark_text mark = if mark then byte_order_mark ∷ [] else []

-- the text of a stream
abbrev pub stream_text : Stream → List ℕ
stream_text s = mark_text s.mark ++ comments_text s.prefix ++ optional document_text s.document ++ parts_text s.parts

-- ---- what they have to meet

-- `---` is at the start of a line, as a marker
abbrev pub explicit_fits : Explicit → Bool → List ℕ → Bool
-- [208] l-explicit-document, 9.1.4: [203] c-directives-end and a node
explicit_fits (content n) bol after =
    bol && marker (explicit_text (content n) ++ after) && node_fits n 0 false false after
-- [208] l-explicit-document, 9.1.4: [203] c-directives-end, [106] e-node and [79] s-l-comments
explicit_fits (nothing comments) bol after =
    bol && marker (explicit_text (nothing comments) ++ after) && comments_fit false comments after

-- [210] l-any-document, 9.2
abbrev pub document_fits : Document → Bool → List ℕ → Bool
-- [207] l-bare-document, 9.1.3
document_fits (bare n) bol after = node_fits n 0 false bol after
-- [208] l-explicit-document, 9.1.4
document_fits (explicit x) bol after = explicit_fits x bol after
-- [209] l-directive-document, 9.1.5, with [86] ns-yaml-directive, 6.8.1
document_fits (directed blank version comments x) bol after =
    bol && list_all white blank && not (is_empty blank) && comments_fit false comments (explicit_text x ++ after)
    && explicit_fits x true after

-- [211] l-yaml-stream, 9.2: a document that may be left out
abbrev pub optional_document_fits : Option Document → Bool → List ℕ → Bool
optional_document_fits None bol after = true
optional_document_fits (Some d) bol after = document_fits d bol after

-- [205] l-document-suffix, 9.1.2: `...` is at the start of a line, as a marker
abbrev pub suffix_fits : List LineEnd → Bool → List ℕ → Bool
suffix_fits comments bol after = bol && marker (suffix_text comments ++ after) && comments_fit false comments after

-- [205] l-document-suffix, 9.1.2: each of the suffixes fits
abbrev pub suffixes_fit : List (List LineEnd) → List ℕ → Bool
suffixes_fit [] after = true
suffixes_fit (s ∷ ss) after = suffix_fits s true (flat_map suffix_text ss ++ after) && suffixes_fit ss after

-- [211] l-yaml-stream, 9.2: what follows a first document
abbrev pub part_fits : Part → Bool → List ℕ → Bool
-- [211], 9.2: [205] l-document-suffix, once or more; [202] l-document-prefix; perhaps [210] l-any-document
part_fits (suffixes one more prefix document) bol after =
    let rest = optional document_text document ++ after in
    suffix_fits one bol (flat_map suffix_text more ++ (comments_text prefix ++ rest))
    && suffixes_fit more (comments_text prefix ++ rest) && comments_fit true prefix rest
    && optional_document_fits document true after
-- [78] l-comment, 6.6
part_fits (line e) bol after = comment_line_fits bol e after
-- [208] l-explicit-document, 9.1.4
part_fits (further x) bol after = explicit_fits x bol after

-- [211] l-yaml-stream, 9.2: each of the parts fits
abbrev pub parts_fit : List Part → Bool → List ℕ → Bool
parts_fit [] bol after = is_empty after
parts_fit (p ∷ ps) bol after =
    part_fits p bol (parts_text ps ++ after) && parts_fit ps (starts_line bol (part_text p)) after

-- [211] l-yaml-stream, 9.2: a stream fits; the place after a byte order mark is the start of a line
abbrev pub fits : Stream → Bool
fits s =
    comments_fit true s.prefix (optional document_text s.document ++ parts_text s.parts)
    && optional_document_fits s.document true (parts_text s.parts)
    && parts_fit s.parts (starts_line true (comments_text s.prefix ++ optional document_text s.document)) []

-- ---- what they mean

-- the events of what follows `---`; if that is nothing, an omitted value
abbrev pub explicit_events : Explicit → ℕ → List Event
explicit_events (content n) at = as_document (node_events n (at + 3))
explicit_events (nothing comments) at = as_document (omitted_at (at + 3))

-- the events of a document
abbrev pub document_events : Document → ℕ → List Event
document_events (bare n) at = as_document (node_events n at)
document_events (explicit x) at = explicit_events x at
document_events (directed blank version comments x) at =
    explicit_events x (at + byte_len (directive_text blank version comments))

-- the events of a document that may be left out
abbrev pub optional_document_events : Option Document → ℕ → List Event
optional_document_events None at = []
optional_document_events (Some d) at = document_events d at

-- the events of a part
abbrev pub part_events : Part → ℕ → List Event
part_events (suffixes one more prefix document) at =
    optional_document_events document
    (at + byte_len (suffix_text one) + byte_len (flat_map suffix_text more) + byte_len (comments_text prefix))
part_events (line e) at = []
part_events (further x) at = explicit_events x at

-- the events of parts
abbrev pub parts_events : List Part → ℕ → List Event
parts_events [] at = []
parts_events (p ∷ ps) at = part_events p at ++ parts_events ps (at + byte_len (part_text p))

-- the events of a stream; a byte order mark has 3 bytes
abbrev pub stream_events : Stream → List Event
stream_events s =
    let at = (if s.mark then 3 else 0) + byte_len (comments_text s.prefix) in
    optional_document_events s.document at ++ parts_events s.parts (at + byte_len (optional document_text s.document))
