-- The recognizer of streams (YAML 1.2.2, 6.8 and chapter 9), over one of a document's node: node_at takes whether the
-- node is at the start of a line.
use Rattle.std.specs.Prelude.{ℕ, zero, suc, Bool, true, false, ◌&&◌, ◌==◌, List, [], ◌∷◌, length, drop, Option, Some, None, codes}
use Rattle.std.specs.Prelude.{if◌then◌else◌}
use Rattle.yaml_recognizers.specs.Prelude.{white, is_empty, first, begins, ends_word, starts_line, LineEnd, FlowContext, Scalar}
use Rattle.yaml_recognizers.specs.Prelude.{BlockScalar, Node, Explicit, content, nothing, Version, yaml_1_1, yaml_1_2, Document, bare}
use Rattle.yaml_recognizers.specs.{Prelude.{explicit, directed, byte_order_mark, dash, dot, percent_sign}, Prefixes.take_while}
use Rattle.yaml_recognizers.specs.{Prefixes.drop_while, Reading.{Read, on}, CanonicalComments.is_line_end, BlockNodes.{omits, whole_node}}
use Rattle.yaml_recognizers.specs.CanonicalStreams.{Section, suffix, line, document, FlatStream, section_text, opens}
use Rattle.yaml_recognizers.specs.Comments.{read_line_end, all_comments, closes_line}

-- the marker of three times this sign: `---` or `...` (`marker` is either)
abbrev pub marker_of : ℕ → List ℕ → Bool
marker_of x text = begins (x ∷ x ∷ x ∷ []) text && ends_word (drop 3 text)

-- `%` starts a directive: a bare node does not start with it
abbrev pub percent : ℕ → Bool
percent c = c == percent_sign

-- a byte order mark starts the stream: a bare node does not start with it
abbrev pub order_mark : ℕ → Bool
order_mark c = c == byte_order_mark

-- ---- documents

-- after `---`: comments and the end of the document, or a node
abbrev pub explicit_with : (Bool → List ℕ → Read Node) → List ℕ → List LineEnd × List ℕ → Read Explicit
explicit_with node_at text c =
    if omits 0 false c then Some (nothing c.0, c.1) else on (node_at false text) (λ n rest. Some (content n, rest))

-- [208] l-explicit-document, 9.1.4, after its `---`
unfoldable pub read_explicit : (Bool → List ℕ → Read Node) → List ℕ → Read Explicit
read_explicit node_at text =
    if marker_of dash text then explicit_with node_at (drop 3 text) (all_comments false (drop 3 text)) else None

-- [87] ns-yaml-version, 6.8.1
abbrev pub read_version : List ℕ → Read Version
read_version text =
    if begins (codes "1.1") text then Some (yaml_1_1, drop 3 text)
    else if begins (codes "1.2") text then Some (yaml_1_2, drop 3 text)
    else None

-- a document after its directive and comments
abbrev pub directed_with : (Bool → List ℕ → Read Node) → List ℕ → Version → List LineEnd × List ℕ → Read Document
directed_with node_at blank version c =
    if closes_line c then on (read_explicit node_at c.1) (λ x rest. Some (directed blank version c.0 x, rest)) else None

-- a document after the whitespace of its directive
abbrev pub version_with : (Bool → List ℕ → Read Node) → List ℕ → List ℕ → Read Document
version_with node_at blank text =
    if is_empty blank then None
    else on (read_version text) (λ version rest. directed_with node_at blank version (all_comments false rest))

-- [209] l-directive-document, 9.1.5
abbrev pub read_directed : (Bool → List ℕ → Read Node) → List ℕ → Read Document
read_directed node_at text =
    if begins (codes "%YAML") text
    then version_with node_at (take_while white (drop 5 text)) (drop_while white (drop 5 text)) else None

-- ---- sections

-- [205] l-document-suffix, 9.1.2
abbrev pub suffix_with : List LineEnd × List ℕ → Read Section
suffix_with c = if closes_line c then Some (suffix c.0, c.1) else None

-- one section; opened says whether a bare document or a directive may come here
unfoldable pub read_section : (Bool → List ℕ → Read Node) → Bool → Bool → List ℕ → Read Section
read_section node_at opened bol text =
    if is_line_end text then on (read_line_end bol text) (λ e rest. Some (line e, rest))
    else if bol && marker_of dot text then suffix_with (all_comments false (drop 3 text))
    else if bol && marker_of dash text
    then on (read_explicit node_at text) (λ x rest. Some (document (explicit x), rest))
    else if opened && bol && first percent text then on (read_directed node_at text) (λ d rest. Some (document d, rest))
    else if opened then on (node_at bol text) (λ n rest. Some (document (bare n), rest))
    else None

-- a section before others
abbrev pub section_and : Section → Option (List Section) → Option (List Section)
section_and p None = None
section_and p (Some ps) = Some (p ∷ ps)

-- the sections, from the first one
abbrev pub more_sections : (Section → List ℕ → Option (List Section)) → Read Section → Option (List Section)
more_sections again None = None
more_sections again (Some r) = section_and r.0 (again r.0 r.1)

-- all sections up to the end of the text, fewer than this number
unfoldable pub read_sections : (Bool → List ℕ → Read Node) → ℕ → Bool → Bool → List ℕ → Option (List Section)
read_sections node_at zero opened bol text = None
read_sections node_at (suc fuel) opened bol text =
    if is_empty text then Some []
    else more_sections (λ p rest. read_sections node_at fuel (opens opened p) (starts_line bol (section_text p)) rest)
    (read_section node_at opened bol text)

-- ---- streams

-- a flat stream, from its mark and sections
abbrev pub with_mark : Bool → Option (List Section) → Option FlatStream
with_mark mark None = None
with_mark mark (Some ps) = Some (record { mark = mark; sections = ps })

-- a whole text
abbrev pub stream_of : (Bool → List ℕ → Read Node) → List ℕ → Option FlatStream
stream_of node_at text =
    if first order_mark text then with_mark true (read_sections node_at (suc (length text)) true true (drop 1 text))
    else with_mark false (read_sections node_at (suc (length text)) true true text)

-- a whole text, over recognizers of scalars
abbrev pub read_stream : (ℕ → FlowContext → Bool → List ℕ → Read Scalar) → (ℕ → List ℕ → Read BlockScalar) → List ℕ
    → Option FlatStream
read_stream read_scalar read_block text = stream_of (λ bol t. whole_node read_scalar read_block 0 false bol t) text
