-- Worked examples of streams: texts, with the events that each means, or that it is refused. The checker computes both
-- sides. The expected events come from YAML 1.2.2 and from other readers of these texts, never from the recognizer.
use Rattle.std.{proofs.Common.{◌≡◌, refl}, specs.Prelude.{ℕ, List, [], ◌∷◌, ◌++◌, Option, Some, None, codes, replicate}}
use Rattle.yaml_recognizers.proofs.Prelude.{Event, document_start, document_end, seq_start, seq_end, map_start, map_end, scalar_event}
use Rattle.yaml_recognizers.proofs.Prelude.{plain_style, single_style, double_style, literal_style, folded_style, omitted_style}
use Rattle.yaml_recognizers.specs.{CanonicalStreams.{FlatStream, flat_events}, FlowNodes.read_flow, BlockNodes.read_node, Repeated.repeated}
use Rattle.yaml_recognizers.specs.{FlowScalars.{read_scalar, scalar_ends}, Recognizers.stream_at, Streams.{read_explicit, read_section}}
use Rattle.yaml_recognizers.specs.{Streams.read_sections, Joins.{read_empty, after_blank, read_join}, QuotedScalars.read_held}
use Rattle.yaml_recognizers.specs.QuotedScalars.{read_quoted_line, read_quoted, read_single_one, single_closes, read_single, read_item}
use Rattle.yaml_recognizers.specs.{QuotedScalars.{double_closes, read_double}, PlainScalars.{read_run, read_plain_line, read_plain}}
use Rattle.yaml_recognizers.specs.PlainScalars.{last_of, last_char, plain_ends}

-- a text, and what it means or that it is refused
pub record Example : Type 0 where
  pub text : List ℕ
  pub events : Option (List Event)

-- an example of a text that is refused
abbrev pub refused : List ℕ → Example
refused text = record { text = text; events = None }

-- an example of a text that is read
abbrev pub read : List ℕ → List Event → Example
read text events = record { text = text; events = Some events }

abbrev events_of : Option FlatStream → Option (List Event)
events_of None = None
events_of (Some s) = Some (flat_events s)

-- what the examples should give
abbrev pub wanted : List Example → List (Option (List Event))
wanted [] = []
wanted (e ∷ es) = e.events ∷ wanted es

-- what the recognizer gives for them
abbrev pub found : List Example → List (Option (List Event))
found [] = []
found (e ∷ es) = events_of (stream_at e.text) ∷ found es

-- ---- documents and the marks between them

abbrev documents : List Example
documents =
    read (codes "---") (document_start ∷ scalar_event omitted_style 3 3 [] ∷ document_end ∷ [])
    ∷ read (codes "---\n") (document_start ∷ scalar_event omitted_style 3 3 [] ∷ document_end ∷ [])
    ∷ read (codes "--- a") (document_start ∷ scalar_event plain_style 4 5 (codes "a") ∷ document_end ∷ [])
    ∷ read (codes "---\na\n---\nb\n") (document_start ∷ scalar_event plain_style 4 5 (codes "a") ∷ document_end
    ∷ document_start ∷ scalar_event plain_style 10 11 (codes "b") ∷ document_end ∷ [])
    ∷ read (codes "...\n") []
    ∷ read (codes "...") []
    ∷ read (codes "\n...") []
    ∷ refused (codes "--- a: 1\n")
    ∷ read (codes "--- |\nx\n") (document_start ∷ scalar_event literal_style 4 8 (codes "x\n") ∷ document_end ∷ [])
    ∷ read (codes "a\n...\n") (document_start ∷ scalar_event plain_style 0 1 (codes "a") ∷ document_end ∷ [])
    ∷ read (codes "---\n...\n---\n...\n") (document_start ∷ scalar_event omitted_style 3 3 [] ∷ document_end
    ∷ document_start ∷ scalar_event omitted_style 11 11 [] ∷ document_end ∷ [])
    ∷ read (codes "---\n---\n") (document_start ∷ scalar_event omitted_style 3 3 [] ∷ document_end ∷ document_start
    ∷ scalar_event omitted_style 7 7 [] ∷ document_end ∷ [])
    ∷ read (codes "---a\n") (document_start ∷ scalar_event plain_style 0 4 (codes "---a") ∷ document_end ∷ [])
    ∷ read (codes "--- # c\n") (document_start ∷ scalar_event omitted_style 3 3 [] ∷ document_end ∷ [])
    ∷ refused (codes "---" ++ (9 ∷ []) ++ codes "- a\n")
    ∷ refused (codes "--- - a\n")
    ∷ read (codes "--- |\n a\n--- b\n") (document_start ∷ scalar_event literal_style 4 9 (codes "a\n") ∷ document_end
    ∷ document_start ∷ scalar_event plain_style 13 14 (codes "b") ∷ document_end ∷ [])
    ∷ refused (codes "\"a\n---\n\"")
    ∷ refused (codes "\"a\n--- b\"")
    ∷ refused (codes "'a\n...\n'")
    ∷ refused (codes "[a,\n---\n]")
    ∷ read (codes "|\n a\n...\nb\n") (document_start ∷ scalar_event literal_style 0 5 (codes "a\n") ∷ document_end
    ∷ document_start ∷ scalar_event plain_style 9 10 (codes "b") ∷ document_end ∷ [])
    ∷ read (codes "a: |\n---\n") (document_start ∷ map_start ∷ scalar_event plain_style 0 1 (codes "a")
    ∷ scalar_event literal_style 3 5 [] ∷ map_end ∷ document_end ∷ document_start ∷ scalar_event omitted_style 8 8
    [] ∷ document_end ∷ [])
    ∷ refused (codes "{a: 'b\n---\n'}")
    ∷ read (codes "- a\n...\n- b\n") (document_start ∷ seq_start ∷ scalar_event plain_style 2 3 (codes "a") ∷ seq_end
    ∷ document_end ∷ document_start ∷ seq_start ∷ scalar_event plain_style 10 11 (codes "b") ∷ seq_end ∷ document_end ∷ [])
    ∷ read (codes "a\n... # c\nb\n") (document_start ∷ scalar_event plain_style 0 1 (codes "a") ∷ document_end
    ∷ document_start ∷ scalar_event plain_style 10 11 (codes "b") ∷ document_end ∷ [])
    ∷ read (codes "a\n...x\n") (document_start ∷ scalar_event plain_style 0 6 (codes "a ...x") ∷ document_end ∷ [])
    ∷ read (codes "a\n....\n") (document_start ∷ scalar_event plain_style 0 6 (codes "a ....") ∷ document_end ∷ [])
    ∷ []

documents_found : found documents ≡ wanted documents
unfolding read_flow read_node read_explicit read_section read_sections repeated read_empty after_blank read_join
    read_held read_quoted_line read_quoted read_single_one single_closes read_single read_item double_closes
    read_double read_run read_plain_line read_plain last_of last_char plain_ends read_scalar scalar_ends
documents_found = refl

-- ---- directives

abbrev directives : List Example
directives =
    read (codes "a\n%YAML 1.2\n---\nb\n") (document_start ∷ scalar_event plain_style 0 11 (codes "a %YAML 1.2")
    ∷ document_end ∷ document_start ∷ scalar_event plain_style 16 17 (codes "b") ∷ document_end ∷ [])
    ∷ refused (codes "%YAML 1.2\na\n")
    ∷ refused (codes "%YAML 1.3\n---\n")
    ∷ refused (codes "%YAML 1.2\n%YAML 1.2\n---\n")
    ∷ read (codes "%YAML 1.2 # c\n---\na\n") (document_start ∷ scalar_event plain_style 18 19 (codes "a") ∷ document_end ∷ [])
    ∷ read (codes "%YAML" ++ (9 ∷ []) ++ codes "1.2\n--- a\n")
    (document_start ∷ scalar_event plain_style 14 15 (codes "a") ∷ document_end ∷ [])
    ∷ refused (codes "%YAML 1.2#c\n---\n")
    ∷ read (codes "# c\n%YAML 1.2\n--- a\n") (document_start ∷ scalar_event plain_style 18 19 (codes "a") ∷ document_end ∷ [])
    ∷ read (codes "\n%YAML 1.2\n--- a\n") (document_start ∷ scalar_event plain_style 15 16 (codes "a") ∷ document_end ∷ [])
    ∷ refused (codes " %YAML 1.2\n--- a\n")
    ∷ read (codes "%YAML 1.1\n--- a\n") (document_start ∷ scalar_event plain_style 14 15 (codes "a") ∷ document_end ∷ [])
    ∷ read (codes "--- a\n%YAML 1.2\n---\nb\n")
    (document_start ∷ scalar_event plain_style 4 15 (codes "a %YAML 1.2") ∷ document_end ∷ document_start
    ∷ scalar_event plain_style 20 21 (codes "b") ∷ document_end ∷ [])
    ∷ read (codes "--- a\n...\n%YAML 1.2\n--- b\n")
    (document_start ∷ scalar_event plain_style 4 5 (codes "a") ∷ document_end ∷ document_start
    ∷ scalar_event plain_style 24 25 (codes "b") ∷ document_end ∷ [])
    ∷ read (codes "%YAML 1.2\n\n# x\n---\n") (document_start ∷ scalar_event omitted_style 18 18 [] ∷ document_end ∷ [])
    ∷ refused (codes "%YAML 1.2\n...\n")
    ∷ read (codes "...\n...\n") []
    ∷ read ((0xfeff ∷ []) ++ codes "%YAML 1.1\n---\na: yes\n")
    (document_start ∷ map_start ∷ scalar_event plain_style 17 18 (codes "a") ∷ scalar_event plain_style 20 23
    (codes "yes") ∷ map_end ∷ document_end ∷ [])
    ∷ []

directives_found : found directives ≡ wanted directives
unfolding read_flow read_node read_explicit read_section read_sections repeated read_empty after_blank read_join
    read_held read_quoted_line read_quoted read_single_one single_closes read_single read_item double_closes
    read_double read_run read_plain_line read_plain last_of last_char plain_ends read_scalar scalar_ends
directives_found = refl

-- ---- byte order marks, comments, breaks, and texts without a document

abbrev marks_and_comments : List Example
marks_and_comments =
    read [] []
    ∷ read (codes "# c\n") []
    ∷ read (codes "# c") []
    ∷ read (0xfeff ∷ []) []
    ∷ read ((0xfeff ∷ []) ++ codes "a") (document_start ∷ scalar_event plain_style 3 4 (codes "a") ∷ document_end ∷ [])
    ∷ read ((0xfeff ∷ []) ++ codes "--- a") (document_start ∷ scalar_event plain_style 7 8 (codes "a") ∷ document_end ∷ [])
    ∷ read ((0xfeff ∷ []) ++ codes "# c\na") (document_start ∷ scalar_event plain_style 7 8 (codes "a") ∷ document_end ∷ [])
    ∷ refused ((0xfeff ∷ 0xfeff ∷ []) ++ codes "a\n")
    ∷ read (codes "a #") (document_start ∷ scalar_event plain_style 0 1 (codes "a") ∷ document_end ∷ [])
    ∷ refused (codes "a #" ++ (1 ∷ []) ++ codes "\n")
    ∷ refused (codes "# " ++ (127 ∷ []) ++ codes "\na\n")
    ∷ read (codes "a: b" ++ (13 ∷ []) ++ codes "\n")
    (document_start ∷ map_start ∷ scalar_event plain_style 0 1 (codes "a") ∷ scalar_event plain_style 3 4
    (codes "b") ∷ map_end ∷ document_end ∷ [])
    ∷ read (codes "a: b") (document_start ∷ map_start ∷ scalar_event plain_style 0 1 (codes "a")
    ∷ scalar_event plain_style 3 4 (codes "b") ∷ map_end ∷ document_end ∷ [])
    ∷ read (codes "a" ++ (13 ∷ []) ++ codes "b" ++ (13 ∷ []))
    (document_start ∷ scalar_event plain_style 0 3 (codes "a b") ∷ document_end ∷ [])
    ∷ read (codes "a: b" ++ (13 ∷ []) ++ codes "\nc: d" ++ (13 ∷ []) ++ codes "\n")
    (document_start ∷ map_start ∷ scalar_event plain_style 0 1 (codes "a") ∷ scalar_event plain_style 3 4
    (codes "b") ∷ scalar_event plain_style 6 7 (codes "c") ∷ scalar_event plain_style 9 10 (codes "d") ∷ map_end
    ∷ document_end ∷ [])
    ∷ read (codes "a:  1 \n") (document_start ∷ map_start ∷ scalar_event plain_style 0 1 (codes "a")
    ∷ scalar_event plain_style 4 5 (codes "1") ∷ map_end ∷ document_end ∷ [])
    ∷ []

marks_and_comments_found : found marks_and_comments ≡ wanted marks_and_comments
unfolding read_flow read_node read_explicit read_section read_sections repeated read_empty after_blank read_join
    read_held read_quoted_line read_quoted read_single_one single_closes read_single read_item double_closes
    read_double read_run read_plain_line read_plain last_of last_char plain_ends read_scalar scalar_ends
marks_and_comments_found = refl

-- ---- plain scalars

abbrev plain_scalars : List Example
plain_scalars =
    read (codes "k: a\n  b\n\n  c\n") (document_start ∷ map_start ∷ scalar_event plain_style 0 1 (codes "k")
    ∷ scalar_event plain_style 3 13 (codes "a b\nc") ∷ map_end ∷ document_end ∷ [])
    ∷ read (codes "a\n- b\n") (document_start ∷ scalar_event plain_style 0 5 (codes "a - b") ∷ document_end ∷ [])
    ∷ read (codes "a:b, c") (document_start ∷ scalar_event plain_style 0 6 (codes "a:b, c") ∷ document_end ∷ [])
    ∷ read (codes "a:,") (document_start ∷ scalar_event plain_style 0 3 (codes "a:,") ∷ document_end ∷ [])
    ∷ read (codes "a:b\n") (document_start ∷ scalar_event plain_style 0 3 (codes "a:b") ∷ document_end ∷ [])
    ∷ read (codes "a::") (document_start ∷ map_start ∷ scalar_event plain_style 0 2 (codes "a:")
    ∷ scalar_event omitted_style 3 3 [] ∷ map_end ∷ document_end ∷ [])
    ∷ read (codes "a" ++ (133 ∷ []) ++ codes "b\n")
    (document_start ∷ scalar_event plain_style 0 4 (codes "a" ++ (133 ∷ []) ++ codes "b") ∷ document_end ∷ [])
    ∷ read (codes "- " ++ (160 ∷ []) ++ codes "\n")
    (document_start ∷ seq_start ∷ scalar_event plain_style 2 4 (160 ∷ []) ∷ seq_end ∷ document_end ∷ [])
    ∷ read ((160 ∷ []) ++ codes "a: b\n") (document_start ∷ map_start ∷ scalar_event plain_style 0 3
    ((160 ∷ []) ++ codes "a") ∷ scalar_event plain_style 5 6 (codes "b") ∷ map_end ∷ document_end ∷ [])
    ∷ refused (codes "a" ++ (0xfeff ∷ []) ++ codes "b\n")
    ∷ refused (codes "a" ++ (127 ∷ []) ++ codes "b\n")
    ∷ []

plain_scalars_found : found plain_scalars ≡ wanted plain_scalars
unfolding read_flow read_node read_explicit read_section read_sections repeated read_empty after_blank read_join
    read_held read_quoted_line read_quoted read_single_one single_closes read_single read_item double_closes
    read_double read_run read_plain_line read_plain last_of last_char plain_ends read_scalar scalar_ends
plain_scalars_found = refl

-- ---- quoted scalars

abbrev quoted_scalars : List Example
quoted_scalars =
    read (codes "'it''s'") (document_start ∷ scalar_event single_style 0 7 (codes "it's") ∷ document_end ∷ [])
    ∷ read (codes "\"a \\\n   b\"") (document_start ∷ scalar_event double_style 0 10 (codes "a b") ∷ document_end ∷ [])
    ∷ refused (codes "\"\\uD800\"")
    ∷ refused (codes "\"\\U00110000\"")
    ∷ read (codes "\"\n\n\"") (document_start ∷ scalar_event double_style 0 4 (codes "\n") ∷ document_end ∷ [])
    ∷ refused (codes "\"a\n\\\nb\"")
    ∷ refused (codes "\"a\\\n\\\nb\"")
    ∷ read (codes "\" \n\"") (document_start ∷ scalar_event double_style 0 4 (codes " ") ∷ document_end ∷ [])
    ∷ read (codes "\"a \n b\"") (document_start ∷ scalar_event double_style 0 7 (codes "a b") ∷ document_end ∷ [])
    ∷ read (codes "\"\\ \n\"") (document_start ∷ scalar_event double_style 0 5 (codes "  ") ∷ document_end ∷ [])
    ∷ read (codes "\"a" ++ (0xfeff ∷ []) ++ codes "b\"\n")
    (document_start ∷ scalar_event double_style 0 7 (codes "a" ++ (0xfeff ∷ []) ++ codes "b") ∷ document_end ∷ [])
    ∷ read (codes "\"a" ++ (127 ∷ []) ++ codes "b\"\n")
    (document_start ∷ scalar_event double_style 0 5 (codes "a" ++ (127 ∷ []) ++ codes "b") ∷ document_end ∷ [])
    ∷ refused (codes "\"a" ++ (1 ∷ []) ++ codes "b\"\n")
    ∷ read (codes "\"a" ++ (13 ∷ []) ++ codes "\n" ++ (13 ∷ []) ++ codes "\nb\"")
    (document_start ∷ scalar_event double_style 0 8 (codes "a\nb") ∷ document_end ∷ [])
    ∷ read (codes "\"\\" ++ (13 ∷ []) ++ codes "\n  a\"") (document_start ∷ scalar_event double_style 0 8 (codes "a") ∷ document_end ∷ [])
    ∷ read (codes "a: \"b" ++ (0x2028 ∷ []) ++ codes "c\"\n")
    (document_start ∷ map_start ∷ scalar_event plain_style 0 1 (codes "a") ∷ scalar_event double_style 3 10
    (codes "b" ++ (0x2028 ∷ []) ++ codes "c") ∷ map_end ∷ document_end ∷ [])
    ∷ []

quoted_scalars_found : found quoted_scalars ≡ wanted quoted_scalars
unfolding read_flow read_node read_explicit read_section read_sections repeated read_empty after_blank read_join
    read_held read_quoted_line read_quoted read_single_one single_closes read_single read_item double_closes
    read_double read_run read_plain_line read_plain last_of last_char plain_ends read_scalar scalar_ends
quoted_scalars_found = refl

-- ---- block scalars

abbrev block_scalars : List Example
block_scalars =
    read (codes ">\n  a\n  b\n\n  c\n   d\n  e\n")
    (document_start ∷ scalar_event folded_style 0 24 (codes "a b\nc\n d\ne\n") ∷ document_end ∷ [])
    ∷ read (codes "k: |+\n  a\n\n...\n") (document_start ∷ map_start ∷ scalar_event plain_style 0 1 (codes "k")
    ∷ scalar_event literal_style 3 11 (codes "a\n\n") ∷ map_end ∷ document_end ∷ [])
    ∷ read (codes "k: |\n  a\n # c\n") (document_start ∷ map_start ∷ scalar_event plain_style 0 1 (codes "k")
    ∷ scalar_event literal_style 3 9 (codes "a\n") ∷ map_end ∷ document_end ∷ [])
    ∷ refused (codes "k: |\n   \n  a\n")
    ∷ read (codes "k: |2-\n   a\n") (document_start ∷ map_start ∷ scalar_event plain_style 0 1 (codes "k")
    ∷ scalar_event literal_style 3 12 (codes " a") ∷ map_end ∷ document_end ∷ [])
    ∷ read (codes "|1\n  x\n") (document_start ∷ scalar_event literal_style 0 7 (codes " x\n") ∷ document_end ∷ [])
    ∷ read (codes "|\na\n ") (document_start ∷ scalar_event literal_style 0 5 (codes "a\n ") ∷ document_end ∷ [])
    ∷ read (codes "|\n|\n ") (document_start ∷ scalar_event literal_style 0 5 (codes "|\n ") ∷ document_end ∷ [])
    ∷ read (codes "|\n#c") (document_start ∷ scalar_event literal_style 0 4 (codes "#c") ∷ document_end ∷ [])
    ∷ refused (codes "|\n \n#c")
    ∷ refused (codes "|\n  \n #\n")
    ∷ refused (codes "- |\n   \n a\n")
    ∷ read (codes "- |\n   \n- a\n-\n - x") (document_start ∷ seq_start ∷ scalar_event literal_style 2 8 []
    ∷ scalar_event plain_style 10 11 (codes "a") ∷ seq_start ∷ scalar_event plain_style 17 18 (codes "x")
    ∷ seq_end ∷ seq_end ∷ document_end ∷ [])
    ∷ refused (codes "- |\n" ++ (9 ∷ []) ++ codes "\n- b")
    ∷ read (codes "--- >\n# c\n") (document_start ∷ scalar_event folded_style 4 10 (codes "# c\n") ∷ document_end ∷ [])
    ∷ read (codes "|\n  ") (document_start ∷ scalar_event literal_style 0 2 [] ∷ document_end ∷ [])
    ∷ read (codes "|+\n \n  ") (document_start ∷ scalar_event literal_style 0 5 (codes "\n") ∷ document_end ∷ [])
    ∷ read (codes "- |\n  \n") (document_start ∷ seq_start ∷ scalar_event literal_style 2 7 [] ∷ seq_end ∷ document_end ∷ [])
    ∷ read (codes "- |\n  \n- |\n x\n") (document_start ∷ seq_start ∷ scalar_event literal_style 2 7 []
    ∷ scalar_event literal_style 9 14 (codes "x\n") ∷ seq_end ∷ document_end ∷ [])
    ∷ read (codes "k: |\n   \nb: |\n  x\n") (document_start ∷ map_start ∷ scalar_event plain_style 0 1 (codes "k")
    ∷ scalar_event literal_style 3 9 [] ∷ scalar_event plain_style 9 10 (codes "b")
    ∷ scalar_event literal_style 12 18 (codes "x\n") ∷ map_end ∷ document_end ∷ [])
    ∷ refused (codes "- |\n a\n" ++ (9 ∷ []) ++ codes "\n- b\n")
    ∷ read (codes "- |\n a\n" ++ (9 ∷ []) ++ codes "\n")
    (document_start ∷ seq_start ∷ scalar_event literal_style 2 7 (codes "a\n") ∷ seq_end ∷ document_end ∷ [])
    ∷ read (codes "k: |\n a") (document_start ∷ map_start ∷ scalar_event plain_style 0 1 (codes "k")
    ∷ scalar_event literal_style 3 7 (codes "a") ∷ map_end ∷ document_end ∷ [])
    ∷ read (codes "k: |\n a\n  ") (document_start ∷ map_start ∷ scalar_event plain_style 0 1 (codes "k")
    ∷ scalar_event literal_style 3 10 (codes "a\n ") ∷ map_end ∷ document_end ∷ [])
    ∷ read (codes "|1\n x\n") (document_start ∷ scalar_event literal_style 0 6 (codes "x\n") ∷ document_end ∷ [])
    ∷ read (codes "--- |1\n x\n") (document_start ∷ scalar_event literal_style 4 10 (codes "x\n") ∷ document_end ∷ [])
    ∷ refused (codes "--- |1\nx\n")
    ∷ read (codes "--- >2-\n  x\n") (document_start ∷ scalar_event folded_style 4 12 (codes "x") ∷ document_end ∷ [])
    ∷ read (codes "- |1\n x\n") (document_start ∷ seq_start ∷ scalar_event literal_style 2 8 (codes "x\n") ∷ seq_end ∷ document_end ∷ [])
    ∷ read (codes "- |1\n  x\n") (document_start ∷ seq_start ∷ scalar_event literal_style 2 9 (codes " x\n") ∷ seq_end ∷ document_end ∷ [])
    ∷ read (codes "|" ++ (13 ∷ []) ++ codes "\n a" ++ (13 ∷ []) ++ codes "\n b" ++ (13 ∷ []))
    (document_start ∷ scalar_event literal_style 0 10 (codes "a\nb\n") ∷ document_end ∷ [])
    ∷ []

block_scalars_found : found block_scalars ≡ wanted block_scalars
unfolding read_flow read_node read_explicit read_section read_sections repeated read_empty after_blank read_join
    read_held read_quoted_line read_quoted read_single_one single_closes read_single read_item double_closes
    read_double read_run read_plain_line read_plain last_of last_char plain_ends read_scalar scalar_ends
block_scalars_found = refl

-- ---- block collections

abbrev block_collections : List Example
block_collections =
    read (codes "host: \"example\"\nport: 8080\n")
    (document_start ∷ map_start ∷ scalar_event plain_style 0 4 (codes "host") ∷ scalar_event double_style 6 15
    (codes "example") ∷ scalar_event plain_style 16 20 (codes "port") ∷ scalar_event plain_style 22 26
    (codes "8080") ∷ map_end ∷ document_end ∷ [])
    ∷ read (codes "a: 1\na: 2\n") (document_start ∷ map_start ∷ scalar_event plain_style 0 1 (codes "a")
    ∷ scalar_event plain_style 3 4 (codes "1") ∷ scalar_event plain_style 5 6 (codes "a")
    ∷ scalar_event plain_style 8 9 (codes "2") ∷ map_end ∷ document_end ∷ [])
    ∷ read (codes "- - a\n  - b\n- ? k\n  : v\n")
    (document_start ∷ seq_start ∷ seq_start ∷ scalar_event plain_style 4 5 (codes "a")
    ∷ scalar_event plain_style 10 11 (codes "b") ∷ seq_end ∷ map_start ∷ scalar_event plain_style 16 17
    (codes "k") ∷ scalar_event plain_style 22 23 (codes "v") ∷ map_end ∷ seq_end ∷ document_end ∷ [])
    ∷ refused (codes "-" ++ (9 ∷ []) ++ codes "- a\n")
    ∷ read (codes "a:\n- b\n") (document_start ∷ map_start ∷ scalar_event plain_style 0 1 (codes "a") ∷ seq_start
    ∷ scalar_event plain_style 5 6 (codes "b") ∷ seq_end ∷ map_end ∷ document_end ∷ [])
    ∷ read (codes "a:\n- b\n- c: 1\n  d: null\n")
    (document_start ∷ map_start ∷ scalar_event plain_style 0 1 (codes "a") ∷ seq_start
    ∷ scalar_event plain_style 5 6 (codes "b") ∷ map_start ∷ scalar_event plain_style 9 10 (codes "c")
    ∷ scalar_event plain_style 12 13 (codes "1") ∷ scalar_event plain_style 16 17 (codes "d")
    ∷ scalar_event plain_style 19 23 (codes "null") ∷ map_end ∷ seq_end ∷ map_end ∷ document_end ∷ [])
    ∷ read (codes "a:") (document_start ∷ map_start ∷ scalar_event plain_style 0 1 (codes "a")
    ∷ scalar_event omitted_style 2 2 [] ∷ map_end ∷ document_end ∷ [])
    ∷ read (codes "a:\na:") (document_start ∷ map_start ∷ scalar_event plain_style 0 1 (codes "a")
    ∷ scalar_event omitted_style 2 2 [] ∷ scalar_event plain_style 3 4 (codes "a")
    ∷ scalar_event omitted_style 5 5 [] ∷ map_end ∷ document_end ∷ [])
    ∷ refused (codes "-\na\n-")
    ∷ read (codes "-\n-") (document_start ∷ seq_start ∷ scalar_event omitted_style 1 1 []
    ∷ scalar_event omitted_style 3 3 [] ∷ seq_end ∷ document_end ∷ [])
    ∷ read (codes "-") (document_start ∷ seq_start ∷ scalar_event omitted_style 1 1 [] ∷ seq_end ∷ document_end ∷ [])
    ∷ refused (codes "? ?")
    ∷ read (codes "a:\n- b\n- c") (document_start ∷ map_start ∷ scalar_event plain_style 0 1 (codes "a") ∷ seq_start
    ∷ scalar_event plain_style 5 6 (codes "b") ∷ scalar_event plain_style 9 10 (codes "c") ∷ seq_end ∷ map_end
    ∷ document_end ∷ [])
    ∷ read (codes "? a\n:b: c\n") (document_start ∷ map_start ∷ scalar_event plain_style 2 3 (codes "a")
    ∷ scalar_event omitted_style 3 3 [] ∷ scalar_event plain_style 4 6 (codes ":b") ∷ scalar_event plain_style 8 9
    (codes "c") ∷ map_end ∷ document_end ∷ [])
    ∷ read (codes "? - a\n  -\n") (document_start ∷ map_start ∷ seq_start ∷ scalar_event plain_style 4 5 (codes "a")
    ∷ scalar_event omitted_style 9 9 [] ∷ seq_end ∷ scalar_event omitted_style 9 9 [] ∷ map_end ∷ document_end ∷ [])
    ∷ read (codes "? |\n a\n") (document_start ∷ map_start ∷ scalar_event literal_style 2 7 (codes "a\n")
    ∷ scalar_event omitted_style 7 7 [] ∷ map_end ∷ document_end ∷ [])
    ∷ read (codes "- ") (document_start ∷ seq_start ∷ scalar_event omitted_style 1 1 [] ∷ seq_end ∷ document_end ∷ [])
    ∷ read (codes "k:") (document_start ∷ map_start ∷ scalar_event plain_style 0 1 (codes "k")
    ∷ scalar_event omitted_style 2 2 [] ∷ map_end ∷ document_end ∷ [])
    ∷ read (codes "k: # c\n") (document_start ∷ map_start ∷ scalar_event plain_style 0 1 (codes "k")
    ∷ scalar_event omitted_style 2 2 [] ∷ map_end ∷ document_end ∷ [])
    ∷ read (codes "? a") (document_start ∷ map_start ∷ scalar_event plain_style 2 3 (codes "a")
    ∷ scalar_event omitted_style 3 3 [] ∷ map_end ∷ document_end ∷ [])
    ∷ refused (codes "a: b: c\n")
    ∷ refused (codes "k: &x a\n")
    ∷ refused (codes "k: *x\n")
    ∷ refused (codes "k: !!str a\n")
    ∷ refused (codes ": v\n")
    ∷ []

block_collections_found : found block_collections ≡ wanted block_collections
unfolding read_flow read_node read_explicit read_section read_sections repeated read_empty after_blank read_join
    read_held read_quoted_line read_quoted read_single_one single_closes read_single read_item double_closes
    read_double read_run read_plain_line read_plain last_of last_char plain_ends read_scalar scalar_ends
block_collections_found = refl

-- ---- flow collections

abbrev flow_collections : List Example
flow_collections =
    read (codes "[a: 1, b]\n") (document_start ∷ seq_start ∷ map_start ∷ scalar_event plain_style 1 2 (codes "a")
    ∷ scalar_event plain_style 4 5 (codes "1") ∷ map_end ∷ scalar_event plain_style 7 8 (codes "b") ∷ seq_end
    ∷ document_end ∷ [])
    ∷ read (codes "{a, b: }\n") (document_start ∷ map_start ∷ scalar_event plain_style 1 2 (codes "a")
    ∷ scalar_event omitted_style 2 2 [] ∷ scalar_event plain_style 4 5 (codes "b")
    ∷ scalar_event omitted_style 6 6 [] ∷ map_end ∷ document_end ∷ [])
    ∷ read (codes "[a,]\n") (document_start ∷ seq_start ∷ scalar_event plain_style 1 2 (codes "a") ∷ seq_end ∷ document_end ∷ [])
    ∷ refused (codes "[a,,b]\n")
    ∷ read (codes "{a: 1, a: 2}\n") (document_start ∷ map_start ∷ scalar_event plain_style 1 2 (codes "a")
    ∷ scalar_event plain_style 4 5 (codes "1") ∷ scalar_event plain_style 7 8 (codes "a")
    ∷ scalar_event plain_style 10 11 (codes "2") ∷ map_end ∷ document_end ∷ [])
    ∷ read (codes "{\"a\":1}\n") (document_start ∷ map_start ∷ scalar_event double_style 1 4 (codes "a")
    ∷ scalar_event plain_style 5 6 (codes "1") ∷ map_end ∷ document_end ∷ [])
    ∷ read (codes "[a]: b\n") (document_start ∷ map_start ∷ seq_start ∷ scalar_event plain_style 1 2 (codes "a")
    ∷ seq_end ∷ scalar_event plain_style 5 6 (codes "b") ∷ map_end ∷ document_end ∷ [])
    ∷ refused (codes "a: [\n  b\n]\n")
    ∷ read (codes "a: [\n  b\n ]\n") (document_start ∷ map_start ∷ scalar_event plain_style 0 1 (codes "a")
    ∷ seq_start ∷ scalar_event plain_style 7 8 (codes "b") ∷ seq_end ∷ map_end ∷ document_end ∷ [])
    ∷ read (codes "[a:b, c]") (document_start ∷ seq_start ∷ scalar_event plain_style 1 4 (codes "a:b")
    ∷ scalar_event plain_style 6 7 (codes "c") ∷ seq_end ∷ document_end ∷ [])
    ∷ read (codes "[a:,]") (document_start ∷ seq_start ∷ map_start ∷ scalar_event plain_style 1 2 (codes "a")
    ∷ scalar_event omitted_style 3 3 [] ∷ map_end ∷ seq_end ∷ document_end ∷ [])
    ∷ read (codes "[a:a]") (document_start ∷ seq_start ∷ scalar_event plain_style 1 4 (codes "a:a") ∷ seq_end ∷ document_end ∷ [])
    ∷ read (codes "[\"a\":a]") (document_start ∷ seq_start ∷ map_start ∷ scalar_event double_style 1 4 (codes "a")
    ∷ scalar_event plain_style 5 6 (codes "a") ∷ map_end ∷ seq_end ∷ document_end ∷ [])
    ∷ read (codes "[?a]") (document_start ∷ seq_start ∷ scalar_event plain_style 1 3 (codes "?a") ∷ seq_end ∷ document_end ∷ [])
    ∷ read (codes "[::]") (document_start ∷ seq_start ∷ map_start ∷ scalar_event plain_style 1 2 (codes ":")
    ∷ scalar_event omitted_style 3 3 [] ∷ map_end ∷ seq_end ∷ document_end ∷ [])
    ∷ read (codes "[? :a]") (document_start ∷ seq_start ∷ map_start ∷ scalar_event plain_style 3 5 (codes ":a")
    ∷ scalar_event omitted_style 5 5 [] ∷ map_end ∷ seq_end ∷ document_end ∷ [])
    ∷ read (codes "{a\n:}") (document_start ∷ map_start ∷ scalar_event plain_style 1 2 (codes "a")
    ∷ scalar_event omitted_style 4 4 [] ∷ map_end ∷ document_end ∷ [])
    ∷ refused (codes "? [\n]")
    ∷ refused (codes "a: [\n]")
    ∷ read (codes "? [[a] ]\n") (document_start ∷ map_start ∷ seq_start ∷ seq_start ∷ scalar_event plain_style 4 5
    (codes "a") ∷ seq_end ∷ seq_end ∷ scalar_event omitted_style 8 8 [] ∷ map_end ∷ document_end ∷ [])
    ∷ read (codes "{? [a ] }") (document_start ∷ map_start ∷ seq_start ∷ scalar_event plain_style 4 5 (codes "a")
    ∷ seq_end ∷ scalar_event omitted_style 7 7 [] ∷ map_end ∷ document_end ∷ [])
    ∷ read (codes "[? a]") (document_start ∷ seq_start ∷ map_start ∷ scalar_event plain_style 3 4 (codes "a")
    ∷ scalar_event omitted_style 4 4 [] ∷ map_end ∷ seq_end ∷ document_end ∷ [])
    ∷ read (codes "{? a}") (document_start ∷ map_start ∷ scalar_event plain_style 3 4 (codes "a")
    ∷ scalar_event omitted_style 4 4 [] ∷ map_end ∷ document_end ∷ [])
    ∷ read (codes "{a: , b}") (document_start ∷ map_start ∷ scalar_event plain_style 1 2 (codes "a")
    ∷ scalar_event omitted_style 3 3 [] ∷ scalar_event plain_style 6 7 (codes "b")
    ∷ scalar_event omitted_style 7 7 [] ∷ map_end ∷ document_end ∷ [])
    ∷ read (codes "{a}") (document_start ∷ map_start ∷ scalar_event plain_style 1 2 (codes "a")
    ∷ scalar_event omitted_style 2 2 [] ∷ map_end ∷ document_end ∷ [])
    ∷ read (codes "[a: ]") (document_start ∷ seq_start ∷ map_start ∷ scalar_event plain_style 1 2 (codes "a")
    ∷ scalar_event omitted_style 3 3 [] ∷ map_end ∷ seq_end ∷ document_end ∷ [])
    ∷ read (codes "[on, 12, \"\", " ++ (233 ∷ []) ++ codes ", \"\\0\", \"\\L\"]\n")
    (document_start ∷ seq_start ∷ scalar_event plain_style 1 3 (codes "on") ∷ scalar_event plain_style 5 7
    (codes "12") ∷ scalar_event double_style 9 11 [] ∷ scalar_event plain_style 13 15 (233 ∷ [])
    ∷ scalar_event double_style 17 21 (0 ∷ []) ∷ scalar_event double_style 23 27 (0x2028 ∷ []) ∷ seq_end ∷ document_end ∷ [])
    ∷ []

flow_collections_found : found flow_collections ≡ wanted flow_collections
unfolding read_flow read_node read_explicit read_section read_sections repeated read_empty after_blank read_join
    read_held read_quoted_line read_quoted read_single_one single_closes read_single read_item double_closes
    read_double read_run read_plain_line read_plain last_of last_char plain_ends read_scalar scalar_ends
flow_collections_found = refl

-- ---- keys of 1,024 characters and more

abbrev long_keys : List Example
long_keys =
    read (replicate 1022 107 ++ codes ": v\n") (document_start ∷ map_start ∷ scalar_event plain_style 0 1022
    (replicate 1022 107) ∷ scalar_event plain_style 1024 1025 (codes "v") ∷ map_end ∷ document_end ∷ [])
    ∷ read (codes "[" ++ replicate 1022 107 ++ codes ": v]\n")
    (document_start ∷ seq_start ∷ map_start ∷ scalar_event plain_style 1 1023 (replicate 1022 107)
    ∷ scalar_event plain_style 1025 1026 (codes "v") ∷ map_end ∷ seq_end ∷ document_end ∷ [])
    ∷ read (replicate 1022 107 ++ codes " : v\n")
    (document_start ∷ map_start ∷ scalar_event plain_style 0 1022 (replicate 1022 107)
    ∷ scalar_event plain_style 1025 1026 (codes "v") ∷ map_end ∷ document_end ∷ [])
    ∷ read (codes "\"" ++ replicate 1022 107 ++ codes "\": v\n")
    (document_start ∷ map_start ∷ scalar_event double_style 0 1024 (replicate 1022 107)
    ∷ scalar_event plain_style 1026 1027 (codes "v") ∷ map_end ∷ document_end ∷ [])
    ∷ read (codes "[\"" ++ replicate 1022 107 ++ codes "\":v]\n")
    (document_start ∷ seq_start ∷ map_start ∷ scalar_event double_style 1 1025 (replicate 1022 107)
    ∷ scalar_event plain_style 1026 1027 (codes "v") ∷ map_end ∷ seq_end ∷ document_end ∷ [])
    ∷ read (replicate 1023 107 ++ codes ": v\n")
    (document_start ∷ map_start ∷ scalar_event plain_style 0 1023 (replicate 1023 107)
    ∷ scalar_event plain_style 1025 1026 (codes "v") ∷ map_end ∷ document_end ∷ [])
    ∷ read (codes "[" ++ replicate 1023 107 ++ codes ": v]\n")
    (document_start ∷ seq_start ∷ map_start ∷ scalar_event plain_style 1 1024 (replicate 1023 107)
    ∷ scalar_event plain_style 1026 1027 (codes "v") ∷ map_end ∷ seq_end ∷ document_end ∷ [])
    ∷ read (replicate 1023 107 ++ codes " : v\n")
    (document_start ∷ map_start ∷ scalar_event plain_style 0 1023 (replicate 1023 107)
    ∷ scalar_event plain_style 1026 1027 (codes "v") ∷ map_end ∷ document_end ∷ [])
    ∷ refused (codes "\"" ++ replicate 1023 107 ++ codes "\": v\n")
    ∷ refused (codes "[\"" ++ replicate 1023 107 ++ codes "\":v]\n")
    ∷ read (replicate 1024 107 ++ codes ": v\n")
    (document_start ∷ map_start ∷ scalar_event plain_style 0 1024 (replicate 1024 107)
    ∷ scalar_event plain_style 1026 1027 (codes "v") ∷ map_end ∷ document_end ∷ [])
    ∷ read (codes "[" ++ replicate 1024 107 ++ codes ": v]\n")
    (document_start ∷ seq_start ∷ map_start ∷ scalar_event plain_style 1 1025 (replicate 1024 107)
    ∷ scalar_event plain_style 1027 1028 (codes "v") ∷ map_end ∷ seq_end ∷ document_end ∷ [])
    ∷ refused (replicate 1024 107 ++ codes " : v\n")
    ∷ refused (codes "\"" ++ replicate 1024 107 ++ codes "\": v\n")
    ∷ refused (codes "[\"" ++ replicate 1024 107 ++ codes "\":v]\n")
    ∷ refused (replicate 1025 107 ++ codes ": v\n")
    ∷ refused (codes "[" ++ replicate 1025 107 ++ codes ": v]\n")
    ∷ refused (replicate 1025 107 ++ codes " : v\n")
    ∷ refused (codes "\"" ++ replicate 1025 107 ++ codes "\": v\n")
    ∷ refused (codes "[\"" ++ replicate 1025 107 ++ codes "\":v]\n")
    ∷ []

long_keys_found : found long_keys ≡ wanted long_keys
unfolding read_flow read_node read_explicit read_section read_sections repeated read_empty after_blank read_join
    read_held read_quoted_line read_quoted read_single_one single_closes read_single read_item double_closes
    read_double read_run read_plain_line read_plain last_of last_char plain_ends read_scalar scalar_ends
long_keys_found = refl
