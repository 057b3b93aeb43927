-- Worked examples at the edges of productions: what is refused there though it looks much like what is read, and what
-- is read. The checker computes both sides. The expected events come from YAML 1.2.2 and from other readers of these
-- texts, never from the recognizer.
use Rattle.std.{proofs.Common.{◌≡◌, refl}, specs.Prelude.{List, [], ◌∷◌, ◌++◌, codes}}
use Rattle.yaml_recognizers.proofs.Prelude.{document_start, document_end, seq_start, seq_end, map_start, map_end, scalar_event, plain_style}
use Rattle.yaml_recognizers.proofs.{Prelude.{double_style, literal_style, folded_style}, Documents.StreamExamples.{Example, found, read}}
use Rattle.yaml_recognizers.{proofs.Documents.StreamExamples.{refused, wanted}, specs.{FlowNodes.read_flow, BlockNodes.read_node}}
use Rattle.yaml_recognizers.specs.{Streams.{read_explicit, read_section, read_sections}, Repeated.repeated, Joins.{read_empty, after_blank}}
use Rattle.yaml_recognizers.specs.{Joins.read_join, FlowScalars.{read_scalar, scalar_ends}, QuotedScalars.{read_held, read_quoted_line}}
use Rattle.yaml_recognizers.specs.QuotedScalars.{read_quoted, read_single_one, single_closes, read_single, read_item, double_closes}
use Rattle.yaml_recognizers.specs.{QuotedScalars.read_double, PlainScalars.{read_run, read_plain_line, read_plain, last_of, last_char}}
use Rattle.yaml_recognizers.specs.PlainScalars.{plain_ends}

-- ---- comments, and where they begin

abbrev where_comments_begin : List Example
where_comments_begin =
    -- a `#` after a break and spaces begins a comment, so the plain scalar before it ends
    read (codes "a\n #c\n") (document_start ∷ scalar_event plain_style 0 1 (codes "a") ∷ document_end ∷ [])
    ∷ read (codes "k: a\n  #c\n") (document_start ∷ map_start ∷ scalar_event plain_style 0 1 (codes "k")
    ∷ scalar_event plain_style 3 4 (codes "a") ∷ map_end ∷ document_end ∷ [])
    -- no control may be in a comment
    ∷ refused (codes "a\n#" ++ (1 ∷ []) ++ codes "\n")
    ∷ []

where_comments_begin_found : found where_comments_begin ≡ wanted where_comments_begin
unfolding read_flow read_node read_explicit read_section read_sections repeated read_empty after_blank read_join
    read_held read_quoted_line read_quoted read_single_one single_closes read_single read_item double_closes
    read_double read_run read_plain_line read_plain last_of last_char plain_ends read_scalar scalar_ends
where_comments_begin_found = refl

-- ---- scalars over several lines, and characters that aren't allowed in them

abbrev scalars_over_lines : List Example
scalars_over_lines =
    -- an empty line in a scalar that is deeper than the margin is spaces alone, where it has fewer than the scalar's
    -- indentation
    refused (codes "k: a\n" ++ (9 ∷ []) ++ codes "\n b\n")
    ∷ refused (codes "- 'a\n" ++ (9 ∷ []) ++ codes "\n b'")
    ∷ refused (codes "k: \"a\n" ++ (9 ∷ []) ++ codes "\n b\"")
    -- at the margin it may have white of any kind
    ∷ read (codes "\"a\n" ++ (9 ∷ []) ++ codes "\nb\"") (document_start ∷ scalar_event double_style 0 7 (codes "a\nb") ∷ document_end ∷ [])
    -- no control may be in a scalar in single quotes
    ∷ refused (codes "'a" ++ (1 ∷ []) ++ codes "b'")
    ∷ []

scalars_over_lines_found : found scalars_over_lines ≡ wanted scalars_over_lines
unfolding read_flow read_node read_explicit read_section read_sections repeated read_empty after_blank read_join
    read_held read_quoted_line read_quoted read_single_one single_closes read_single read_item double_closes
    read_double read_run read_plain_line read_plain last_of last_char plain_ends read_scalar scalar_ends
scalars_over_lines_found = refl

-- ---- a key of a block mapping is on one line

abbrev keys_over_lines : List Example
keys_over_lines =
    refused (codes "[a\n]: b")
    ∷ refused (codes "[\na]: b")
    ∷ refused (codes "[a,\nb]: c")
    ∷ refused (codes "{\na: b}: c")
    ∷ refused (codes "\"a\n b\": c")
    ∷ refused (codes "'a\n b': c")
    ∷ []

keys_over_lines_found : found keys_over_lines ≡ wanted keys_over_lines
unfolding read_flow read_node read_explicit read_section read_sections repeated read_empty after_blank read_join
    read_held read_quoted_line read_quoted read_single_one single_closes read_single read_item double_closes
    read_double read_run read_plain_line read_plain last_of last_char plain_ends read_scalar scalar_ends
keys_over_lines_found = refl

-- ---- entries between brackets

abbrev entries : List Example
entries =
    -- after a plain key the value is apart from its `:`
    refused (codes "{a:[b]}")
    ∷ read (codes "{\"a\":[b]}") (document_start ∷ map_start ∷ scalar_event double_style 1 4 (codes "a") ∷ seq_start
    ∷ scalar_event plain_style 6 7 (codes "b") ∷ seq_end ∷ map_end ∷ document_end ∷ [])
    -- so does a key from its `?`
    ∷ refused (codes "[?[a]]")
    ∷ refused (codes "{?{a}}")
    -- a comma comes after an entry
    ∷ refused (codes "[,]")
    ∷ refused (codes "{,}")
    ∷ refused (codes "[a,,]")
    -- a marker is no entry, no value and no key
    ∷ refused (codes "[\n---\n]")
    ∷ refused (codes "{a:\n---\n}")
    ∷ refused (codes "{?\n---\n}")
    ∷ []

entries_found : found entries ≡ wanted entries
unfolding read_flow read_node read_explicit read_section read_sections repeated read_empty after_blank read_join
    read_held read_quoted_line read_quoted read_single_one single_closes read_single read_item double_closes
    read_double read_run read_plain_line read_plain last_of last_char plain_ends read_scalar scalar_ends
entries_found = refl

-- ---- headers of block scalars, and comments after them

abbrev block_scalars : List Example
block_scalars =
    -- the header may end the text
    read (codes "|") (document_start ∷ scalar_event literal_style 0 1 [] ∷ document_end ∷ [])
    ∷ read (codes "k: >-") (document_start ∷ map_start ∷ scalar_event plain_style 0 1 (codes "k")
    ∷ scalar_event folded_style 3 5 [] ∷ map_end ∷ document_end ∷ [])
    -- the indentation is one digit, from 1, before the chomping mark or after it
    ∷ refused (codes "|0\n a\n")
    ∷ refused (codes "|10\n a\n")
    ∷ read (codes "k: |-2\n   a\n") (document_start ∷ map_start ∷ scalar_event plain_style 0 1 (codes "k")
    ∷ scalar_event literal_style 3 12 (codes " a") ∷ map_end ∷ document_end ∷ [])
    ∷ read (codes ">+1\n  a\n\n") (document_start ∷ scalar_event folded_style 0 9 (codes " a\n\n") ∷ document_end ∷ [])
    -- a comment that is less deep ends the scalar, and the collection goes on
    ∷ read (codes "k: |\n  a\n # c\nb: x\n") (document_start ∷ map_start ∷ scalar_event plain_style 0 1 (codes "k")
    ∷ scalar_event literal_style 3 9 (codes "a\n") ∷ scalar_event plain_style 14 15 (codes "b")
    ∷ scalar_event plain_style 17 18 (codes "x") ∷ map_end ∷ document_end ∷ [])
    ∷ read (codes "- |\n a\n# c\n- b\n") (document_start ∷ seq_start ∷ scalar_event literal_style 2 7 (codes "a\n")
    ∷ scalar_event plain_style 13 14 (codes "b") ∷ seq_end ∷ document_end ∷ [])
    ∷ []

block_scalars_found : found block_scalars ≡ wanted block_scalars
unfolding read_flow read_node read_explicit read_section read_sections repeated read_empty after_blank read_join
    read_held read_quoted_line read_quoted read_single_one single_closes read_single read_item double_closes
    read_double read_run read_plain_line read_plain last_of last_char plain_ends read_scalar scalar_ends
block_scalars_found = refl

-- ---- directives, and the marks of documents

abbrev directives_and_marks : List Example
directives_and_marks =
    -- white comes after the directive's name
    refused (codes "%YAML1.2\n---\n")
    -- after a document a directive needs `...` before it
    ∷ refused (codes "[a]\n%YAML 1.2\n---\nb\n")
    -- after `...` nothing but a comment is on its line
    ∷ refused (codes "... a\n")
    ∷ refused (codes "a\n... b\n")
    ∷ []

directives_and_marks_found : found directives_and_marks ≡ wanted directives_and_marks
unfolding read_flow read_node read_explicit read_section read_sections repeated read_empty after_blank read_join
    read_held read_quoted_line read_quoted read_single_one single_closes read_single read_item double_closes
    read_double read_run read_plain_line read_plain last_of last_char plain_ends read_scalar scalar_ends
directives_and_marks_found = refl
