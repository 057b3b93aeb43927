-- Worked examples of the grammar, for whoever reads its definitions for the first time or is about to change one.  How
-- to read one. Above it is the text. `presentation` is what a reader of the text has found, part by part, down to the
-- white, breaks and comments. `Holds` says five things of it: it spells the text; it fits, that is, it meets what the
-- grammar asks of it; it means these events, each scalar with its style and its range in bytes, counted from 0; the
-- events are those of this tree; and this is the tree's text in the one style.
-- Each fact is closed, and the checker computes both its sides (`refl`). The expected values come from YAML 1.2.2, from
-- the rules of the one style, and from two other readers of these texts, never from the definitions. So an edit of a
-- definition that changes one of them is refused here.  After the examples are conditions that each carry weight: texts
-- that would be read wrongly, or in two ways, without them.
use Rattle.std.{proofs.Common.{◌≡◌, refl}, specs.Prelude.{ℕ, Bool, true, false, List, [], ◌∷◌, ◌++◌, Option, Some, None, replicate, codes}}
use Rattle.yaml_grammar.specs.{Texts.spaces, Separation.{lf, LineEnd, Sep, inline, lines}, FlowScalars.{QuotedChar, raw, escape}}
use Rattle.yaml_grammar.specs.{FlowScalars.{FlowEmptyLine, Line, plain, double}, FlowNodes.{Flow, scalar, seq, Entries, last, next, Entry}}
use Rattle.yaml_grammar.specs.{FlowNodes.{entry, absent, given}, BlockScalars.{Chomping, clip, keep, Header, BlockEmptyLine, TextLine}}
use Rattle.yaml_grammar.specs.{BlockScalars.BlockScalar, BlockNodes.{Node, block, flow, items, pairs, item, item_and, Pairs, pair}}
use Rattle.yaml_grammar.specs.{BlockNodes.{pair_and, Pair, keyed, keyed_alone, compact_pairs, node, omitted}, Events.Event}
use Rattle.yaml_grammar.specs.Events.{document_start, document_end, seq_start, seq_end, map_start, map_end, scalar_event, plain_style}
use Rattle.yaml_grammar.specs.{Events.{double_style, literal_style, folded_style, omitted_style}, Streams.{content, nothing, bare}}
use Rattle.yaml_grammar.specs.{Streams.{explicit, yaml_1_1, directed, suffixes, line, Stream, stream_text, fits, stream_events}, Trees.Tree}
use Rattle.yaml_grammar.specs.Trees.{text, sequence, mapping, Elements, no_element, element, no_member, member, IsTreeOf}
use Rattle.yaml_grammar.specs.Style.{style_text}

-- ---- what an example says

record Example : Type 0 where
  source : List ℕ
  presentation : Stream
  events : List Event
  tree : Tree
  styled : List ℕ

record Holds (e : Example) : Type 0 where
  spells : stream_text e.presentation ≡ e.source
  fits : fits e.presentation ≡ true
  means : stream_events e.presentation ≡ e.events
  tree : IsTreeOf e.events e.tree
  style : style_text e.tree ≡ e.styled

-- a presentation of the text, which fits, and what it means
record Read (p : Stream) (source : List ℕ) (events : List Event) : Type 0 where
  spells : stream_text p ≡ source
  fits : fits p ≡ true
  means : stream_events p ≡ events

-- a presentation of the text that doesn't fit
record Refused (p : Stream) (source : List ℕ) : Type 0 where
  spells : stream_text p ≡ source
  fits : fits p ≡ false

-- ---- short forms

-- one bare document, and nothing else
abbrev stream_of : Node → Stream
stream_of n = record { mark = false; prefix = []; document = Some (bare n); parts = [] }

-- a line's end that is a line feed alone
abbrev newline : LineEnd
newline = record { blank = []; comment = None; stop = Some lf }

abbrev raws : List ℕ → List QuotedChar
raws [] = []
raws (c ∷ cs) = raw c ∷ raws cs

-- a plain scalar on one line; a double-quoted one without escapes
abbrev word : List ℕ → Flow
word w = scalar (plain w [])

abbrev quotes : List ℕ → Flow
quotes w = scalar (double (raws w) [])

-- a further line of a plain scalar
abbrev continued : List FlowEmptyLine → List ℕ → List ℕ → Line ℕ
continued empties lead held = record { escaped = false; blank = []; stop = lf; empties = empties; lead = lead; held = held }

-- a flow node at a document's first place, to the end of its line or of the text
abbrev alone : Flow → List LineEnd → Stream
alone f comments = stream_of (flow (inline []) f comments)

-- a flow node after one space, to the end of its line
abbrev on_line : Flow → Node
on_line f = flow (inline (spaces 1)) f (newline ∷ [])

-- a mapping at a document's first place; a plain key with a value
abbrev top_mapping : Pairs → Stream
top_mapping ps = stream_of (pairs [] 0 ps)

abbrev simple : List ℕ → Node → Pair
simple key n = keyed (word key) [] n

-- an entry between brackets that is a node alone
abbrev only : Flow → Entry
only f = entry None f absent

-- the header of a block scalar with no digit; a text line with its break, and empty lines after it
abbrev header : Bool → Chomping → Header
header folded chomping = record { folded = folded; digit = None; chomping = chomping; digit_last = false; line_end = newline }

abbrev text_line : List ℕ → List BlockEmptyLine → TextLine
text_line t empties = record { text = t; stop = Some lf; empties = empties }

abbrev empty_line : BlockEmptyLine
empty_line = record { width = 0; stop = lf }

-- a block scalar with no empty line at its start
abbrev block_of : Header → ℕ → List TextLine → BlockScalar
block_of h indent texts = record { header = h; body = record { indent = indent; empties = []; texts = texts }; trail = [] }

-- ---- a mapping of a quoted and a plain value
--
-- host: "example"
-- port: 8080

abbrev host : Pair
host = simple (codes "host") (on_line (quotes (codes "example")))

abbrev port : Pair
port = simple (codes "port") (on_line (word (codes "8080")))

abbrev host_and_port : Example
host_and_port =
    record {
      source = codes "host: \"example\"\nport: 8080\n";
      presentation = top_mapping (pair_and host (pair port));
      events =
          document_start ∷ map_start ∷ scalar_event plain_style 0 4 (codes "host") ∷ scalar_event double_style 6 15 (codes "example")
          ∷ scalar_event plain_style 16 20 (codes "port") ∷ scalar_event plain_style 22 26 (codes "8080") ∷ map_end ∷ document_end ∷ [];
      tree = mapping (member (codes "host") (text (codes "example")) (member (codes "port") (text (codes "8080")) no_member));
      styled = codes "host: example\nport: \"8080\"\n";
    }

host_and_port_holds : Holds host_and_port
host_and_port_holds = record { spells = refl; fits = refl; means = refl; tree = refl; style = refl }

-- ---- a plain scalar over lines: a break is a space, an empty line a line feed
--
-- k: a
--   b
--
--   c

abbrev further_lines : List (Line ℕ)
further_lines = continued [] (spaces 2) (codes "b") ∷ continued (record { blank = []; stop = lf } ∷ []) (spaces 2) (codes "c") ∷ []

abbrev plain_over_lines : Example
plain_over_lines =
    record {
      source = codes "k: a\n  b\n\n  c\n";
      presentation = top_mapping (pair (simple (codes "k") (on_line (scalar (plain (codes "a") further_lines)))));
      events =
          document_start ∷ map_start ∷ scalar_event plain_style 0 1 (codes "k") ∷ scalar_event plain_style 3 13
          (codes "a b\nc") ∷ map_end ∷ document_end ∷ [];
      tree = mapping (member (codes "k") (text (codes "a b\nc")) no_member);
      styled = codes "k: |-\n  a b\n  c\n";
    }

plain_over_lines_holds : Holds plain_over_lines
plain_over_lines_holds = record { spells = refl; fits = refl; means = refl; tree = refl; style = refl }

-- ---- on a further line of a plain scalar a dash is text
--
-- a
-- - b

abbrev dash_in_text : Example
dash_in_text =
    record {
      source = codes "a\n- b\n";
      presentation = alone (scalar (plain (codes "a") (continued [] [] (codes "- b") ∷ []))) (newline ∷ []);
      events = document_start ∷ scalar_event plain_style 0 5 (codes "a - b") ∷ document_end ∷ [];
      tree = text (codes "a - b");
      styled = codes "\"a - b\"\n";
    }

dash_in_text_holds : Holds dash_in_text
dash_in_text_holds = record { spells = refl; fits = refl; means = refl; tree = refl; style = refl }

-- ---- after a key a dash begins a sequence, which may be at the key's place
--
-- a:
-- - b

abbrev dash_after_key : Example
dash_after_key =
    record {
      source = codes "a:\n- b\n";
      presentation = top_mapping (pair (simple (codes "a") (items (newline ∷ []) 0 (item (node (on_line (word (codes "b"))))))));
      events =
          document_start ∷ map_start ∷ scalar_event plain_style 0 1 (codes "a") ∷ seq_start
          ∷ scalar_event plain_style 5 6 (codes "b") ∷ seq_end ∷ map_end
          ∷ document_end ∷ [];
      tree = mapping (member (codes "a") (sequence (element (text (codes "b")) no_element)) no_member);
      styled = codes "a:\n  - b\n";
    }

dash_after_key_holds : Holds dash_after_key
dash_after_key_holds = record { spells = refl; fits = refl; means = refl; tree = refl; style = refl }

-- ---- a folded scalar: a break is a space, but not beside a line that begins with white
--
-- >
--   a
--   b
--
--   c
--    d
--   e

abbrev folded_lines : List TextLine
folded_lines = text_line (codes "a") [] ∷ text_line (codes "b") (empty_line ∷ []) ∷ text_line (codes "c") []
    ∷ text_line (codes " d") [] ∷ text_line (codes "e") [] ∷ []

abbrev folded : Example
folded =
    record {
      source = codes ">\n  a\n  b\n\n  c\n   d\n  e\n";
      presentation = stream_of (block (inline []) (block_of (header true clip) 2 folded_lines));
      events = document_start ∷ scalar_event folded_style 0 24 (codes "a b\nc\n d\ne\n") ∷ document_end ∷ [];
      tree = text (codes "a b\nc\n d\ne\n");
      styled = codes "|\n  a b\n  c\n   d\n  e\n";
    }

folded_holds : Holds folded
folded_holds = record { spells = refl; fits = refl; means = refl; tree = refl; style = refl }

-- ---- a literal that keeps its empty lines, up to the end of the document
--
-- k: |+
--   a
--
-- ...

abbrev kept_literal : Node
kept_literal = block (inline (spaces 1)) (block_of (header false keep) 2 (text_line (codes "a") (empty_line ∷ []) ∷ []))

abbrev kept_document : Stream
kept_document =
    record {
      mark = false;
      prefix = [];
      document = Some (bare (pairs [] 0 (pair (simple (codes "k") kept_literal))));
      parts = suffixes (newline ∷ []) [] [] None ∷ [];
    }

abbrev kept : Example
kept =
    record {
      source = codes "k: |+\n  a\n\n...\n";
      presentation = kept_document;
      events =
          document_start ∷ map_start ∷ scalar_event plain_style 0 1 (codes "k") ∷ scalar_event literal_style 3 11
          (codes "a\n\n") ∷ map_end ∷ document_end ∷ [];
      tree = mapping (member (codes "k") (text (codes "a\n\n")) no_member);
      styled = codes "k: |+\n  a\n\n";
    }

kept_holds : Holds kept
kept_holds = record { spells = refl; fits = refl; means = refl; tree = refl; style = refl }

-- ---- a backslash at the end of a line joins it to the next: whitespace before it stays, that after the break doesn't
--
-- "a \
--    b"

abbrev joined_line : Line QuotedChar
joined_line = record { escaped = true; blank = []; stop = lf; empties = []; lead = spaces 3; held = raws (codes "b") }

abbrev joined : Example
joined =
    record {
      source = codes "\"a \\\n   b\"\n";
      presentation = alone (scalar (double (raws (codes "a ")) (joined_line ∷ []))) (newline ∷ []);
      events = document_start ∷ scalar_event double_style 0 10 (codes "a b") ∷ document_end ∷ [];
      tree = text (codes "a b");
      styled = codes "\"a b\"\n";
    }

joined_holds : Holds joined
joined_holds = record { spells = refl; fits = refl; means = refl; tree = refl; style = refl }

-- ---- a flow sequence over lines: its closing bracket, too, is deeper than the key
--
-- a: [
--   b
--  ]

-- a line feed, and so many spaces on the next line
abbrev next_line : ℕ → Option Sep
next_line width = Some (lines (newline ∷ []) (spaces width))

abbrev bracketed : ℕ → Flow
bracketed before_bracket = seq (next_line 2) (last (only (word (codes "b"))) (next_line before_bracket))

abbrev flow_value : ℕ → Stream
flow_value before_bracket = top_mapping (pair (simple (codes "a") (on_line (bracketed before_bracket))))

abbrev flow_over_lines : Example
flow_over_lines =
    record {
      source = codes "a: [\n  b\n ]\n";
      presentation = flow_value 1;
      events =
          document_start ∷ map_start ∷ scalar_event plain_style 0 1 (codes "a") ∷ seq_start
          ∷ scalar_event plain_style 7 8 (codes "b") ∷ seq_end ∷ map_end
          ∷ document_end ∷ [];
      tree = mapping (member (codes "a") (sequence (element (text (codes "b")) no_element)) no_member);
      styled = codes "a:\n  - b\n";
    }

flow_over_lines_holds : Holds flow_over_lines
flow_over_lines_holds = record { spells = refl; fits = refl; means = refl; tree = refl; style = refl }

bracket_under_key_refused : Refused (flow_value 0) (codes "a: [\n  b\n]\n")
bracket_under_key_refused = record { spells = refl; fits = refl }

-- ---- a key on one line: the `:` comes at most 1,024 characters after its start
-- The one style puts a `?` before a key whose spelling, quotes counted, has more than 1,000.
--
-- kkk..k: v

abbrev letters : ℕ → List ℕ
letters n = replicate n 107

abbrev key_of_letters : ℕ → Stream
key_of_letters n = top_mapping (pair (simple (letters n) (on_line (word (codes "v")))))

abbrev longest_key : Example
longest_key =
    record {
      source = letters 1024 ++ codes ": v\n";
      presentation = key_of_letters 1024;
      events =
          document_start ∷ map_start ∷ scalar_event plain_style 0 1024 (letters 1024)
          ∷ scalar_event plain_style 1026 1027 (codes "v") ∷ map_end ∷ document_end ∷ [];
      tree = mapping (member (letters 1024) (text (codes "v")) no_member);
      styled = codes "? \"" ++ letters 1024 ++ codes "\"\n: v\n";
    }

longest_key_holds : Holds longest_key
longest_key_holds = record { spells = refl; fits = refl; means = refl; tree = refl; style = refl }

longer_key_refused : Refused (key_of_letters 1025) (letters 1025 ++ codes ": v\n")
longer_key_refused = record { spells = refl; fits = refl }

-- ---- what most programs write: a sequence at its key's place, a mapping after its dash
--
-- a:
-- - b
-- - c: 1
--   d: null

abbrev usual_mapping : Pairs
usual_mapping = pair_and (simple (codes "c") (on_line (word (codes "1")))) (pair (simple (codes "d") (on_line (word (codes "null")))))

abbrev usual_sequence : Node
usual_sequence = items (newline ∷ []) 0 (item_and (node (on_line (word (codes "b")))) (item (compact_pairs 1 usual_mapping)))

abbrev usual_elements : Elements
usual_elements =
    let inner : Tree = mapping (member (codes "c") (text (codes "1")) (member (codes "d") (text (codes "null")) no_member)) in
    element (text (codes "b")) (element inner no_element)

abbrev usual : Example
usual =
    record {
      source = codes "a:\n- b\n- c: 1\n  d: null\n";
      presentation = top_mapping (pair (simple (codes "a") usual_sequence));
      events =
          document_start ∷ map_start ∷ scalar_event plain_style 0 1 (codes "a") ∷ seq_start
          ∷ scalar_event plain_style 5 6 (codes "b") ∷ map_start
          ∷ scalar_event plain_style 9 10 (codes "c") ∷ scalar_event plain_style 12 13 (codes "1")
          ∷ scalar_event plain_style 16 17 (codes "d")
          ∷ scalar_event plain_style 19 23 (codes "null") ∷ map_end ∷ seq_end ∷ map_end ∷ document_end ∷ [];
      tree = mapping (member (codes "a") (sequence usual_elements) no_member);
      styled = codes "a:\n  - b\n  - c: \"1\"\n    d: \"null\"\n";
    }

usual_holds : Holds usual
usual_holds = record { spells = refl; fits = refl; means = refl; tree = refl; style = refl }

-- ---- after a byte order mark a version and the start of a document; ranges count the mark's three bytes
--
-- %YAML 1.1
-- ---
-- a: yes

abbrev after_version : Node
after_version = pairs (newline ∷ []) 0 (pair (simple (codes "a") (on_line (word (codes "yes")))))

abbrev marked : Example
marked =
    record {
      source = 0xfeff ∷ codes "%YAML 1.1\n---\na: yes\n";
      presentation = record {
        mark = true;
        prefix = [];
        document = Some (directed (spaces 1) yaml_1_1 (newline ∷ []) (content after_version));
        parts = [];
      };
      events =
          document_start ∷ map_start ∷ scalar_event plain_style 17 18 (codes "a") ∷ scalar_event plain_style 20 23
          (codes "yes") ∷ map_end ∷ document_end ∷ [];
      tree = mapping (member (codes "a") (text (codes "yes")) no_member);
      styled = codes "a: \"yes\"\n";
    }

marked_holds : Holds marked
marked_holds = record { spells = refl; fits = refl; means = refl; tree = refl; style = refl }

-- ---- escapes, and how the one style writes what isn't a word; the e with an accent has two bytes
--
-- [on, 12, "", é, "\0", "\L"]

abbrev six_values : Entries
six_values =
    let comma : Option Sep = Some (inline (spaces 1)) in
    let escaped : ℕ → Flow = λ c. scalar (double (escape c ∷ []) []) in
    next (only (word (codes "on"))) None comma
    (next (only (word (codes "12"))) None comma
    (next (only (quotes [])) None comma
    (next (only (word (0xe9 ∷ []))) None comma
    (next (only (escaped 48)) None comma
    (last (only (escaped 76)) None)))))

abbrev texts_in_order : List (List ℕ) → Elements
texts_in_order [] = no_element
texts_in_order (t ∷ ts) = element (text t) (texts_in_order ts)

abbrev escapes : Example
escapes =
    record {
      source = codes "[on, 12, \"\", " ++ 0xe9 ∷ codes ", \"\\0\", \"\\L\"]\n";
      presentation = alone (seq None six_values) (newline ∷ []);
      events =
          document_start ∷ seq_start ∷ scalar_event plain_style 1 3 (codes "on") ∷ scalar_event plain_style 5 7 (codes "12")
          ∷ scalar_event double_style 9 11 [] ∷ scalar_event plain_style 13 15 (0xe9 ∷ []) ∷ scalar_event double_style 17 21 (0 ∷ [])
          ∷ scalar_event double_style 23 27 (0x2028 ∷ []) ∷ seq_end ∷ document_end ∷ [];
      tree = sequence (texts_in_order (codes "on" ∷ codes "12" ∷ [] ∷ (0xe9 ∷ []) ∷ (0 ∷ []) ∷ (0x2028 ∷ []) ∷ []));
      styled = codes "- \"on\"\n- \"12\"\n- \"\"\n- \"" ++ 0xe9 ∷ codes "\"\n- \"\\0\"\n- \"\\u2028\"\n";
    }

escapes_holds : Holds escapes
escapes_holds = record { spells = refl; fits = refl; means = refl; tree = refl; style = refl }

-- ---- conditions that each carry weight
-- Each of these texts has a presentation that breaks one condition alone, and so doesn't fit; without the condition the
-- text would be read by it. After it is how the text is read, or where it has no reading, the nearest text that has
-- one.

-- No marker is at a node's first place, so `---` is no text, but begins a document; after a space it is text.

marker_is_no_text : Refused (alone (word (codes "---")) []) (codes "---")
marker_is_no_text = record { spells = refl; fits = refl }

marker_read :
    Read
    (record { mark = false; prefix = []; document = Some (explicit (nothing [])); parts = [] })
    (codes "---")
    (document_start ∷ scalar_event omitted_style 3 3 [] ∷ document_end ∷ [])
marker_read = record { spells = refl; fits = refl; means = refl }

marker_after_a_space_read :
    Read
    (stream_of (flow (inline (spaces 1)) (word (codes "---")) []))
    (codes " ---")
    (document_start ∷ scalar_event plain_style 1 4 (codes "---") ∷ document_end ∷ [])
marker_after_a_space_read = record { spells = refl; fits = refl; means = refl }

-- No fold begins where a fold ends: two breaks between quotes are one fold with an empty line, a line feed, and not two
-- spaces.

abbrev folds : List QuotedChar → List FlowEmptyLine → Line QuotedChar
folds held empties = record { escaped = false; blank = []; stop = lf; empties = empties; lead = []; held = held }

two_folds_refused : Refused (alone (scalar (double [] (folds [] [] ∷ folds [] [] ∷ []))) []) (codes "\"\n\n\"")
two_folds_refused = record { spells = refl; fits = refl }

one_fold_read :
    Read
    (alone (scalar (double [] (folds [] (record { blank = []; stop = lf } ∷ []) ∷ []))) [])
    (codes "\"\n\n\"")
    (document_start ∷ scalar_event double_style 0 4 (codes "\n") ∷ document_end ∷ [])
one_fold_read = record { spells = refl; fits = refl; means = refl }

-- White before a break between quotes belongs to the fold, and is dropped.

white_before_break_refused : Refused (alone (scalar (double (raws (codes " ")) (folds [] [] ∷ []))) []) (codes "\" \n\"")
white_before_break_refused = record { spells = refl; fits = refl }

white_before_break_read :
    Read
    (alone (scalar (double [] (record { escaped = false; blank = spaces 1; stop = lf; empties = []; lead = []; held = [] } ∷ []))) [])
    (codes "\" \n\"")
    (document_start ∷ scalar_event double_style 0 4 (codes " ") ∷ document_end ∷ [])
white_before_break_read = record { spells = refl; fits = refl; means = refl }

-- A block scalar runs to the first line that is neither text nor empty: the space below is text of it, and no line
-- after it.

abbrev bar : List TextLine → BlockScalar
bar texts = block_of (header false clip) 0 texts

scalar_ends_early_refused :
    Refused
    (record {
      mark = false;
      prefix = [];
      document = Some (bare (block (inline []) (bar (text_line (codes "|") [] ∷ []))));
      parts = line (record { blank = spaces 1; comment = None; stop = None }) ∷ [];
    })
    (codes "|\n|\n ")
scalar_ends_early_refused = record { spells = refl; fits = refl }

scalar_to_its_end_read :
    Read
    (stream_of (block (inline []) (bar (text_line (codes "|") [] ∷ record { text = spaces 1; stop = None; empties = [] } ∷ []))))
    (codes "|\n|\n ")
    (document_start ∷ scalar_event literal_style 0 5 (codes "|\n ") ∷ document_end ∷ [])
scalar_to_its_end_read = record { spells = refl; fits = refl; means = refl }

-- In a plain scalar `#` is only after a character that is not whitespace; after whitespace it starts a comment.

hash_after_white_refused : Refused (alone (word (codes "a #")) []) (codes "a #")
hash_after_white_refused = record { spells = refl; fits = refl }

hash_after_white_read :
    Read
    (alone (word (codes "a")) (record { blank = spaces 1; comment = Some []; stop = None } ∷ []))
    (codes "a #")
    (document_start ∷ scalar_event plain_style 0 1 (codes "a") ∷ document_end ∷ [])
hash_after_white_read = record { spells = refl; fits = refl; means = refl }

-- In a plain scalar `:` is only before a character that may follow it there; else it ends a key.

colon_at_the_end_refused : Refused (alone (word (codes "a:")) []) (codes "a:")
colon_at_the_end_refused = record { spells = refl; fits = refl }

colon_at_the_end_read :
    Read
    (top_mapping (pair (keyed_alone (word (codes "a")) [] [])))
    (codes "a:")
    (document_start ∷ map_start ∷ scalar_event plain_style 0 1 (codes "a") ∷ scalar_event omitted_style 2 2 []
    ∷ map_end ∷ document_end ∷ [])
colon_at_the_end_read = record { spells = refl; fits = refl; means = refl }

-- After a plain key's `:` whitespace comes before its value; without whitespace the `:` is text.

abbrev in_brackets : Entry → Stream
in_brackets e = alone (seq None (last e None)) []

no_white_before_value_refused : Refused (in_brackets (entry None (word (codes "a")) (given None None (word (codes "a"))))) (codes "[a:a]")
no_white_before_value_refused = record { spells = refl; fits = refl }

no_white_before_value_read :
    Read
    (in_brackets (only (word (codes "a:a"))))
    (codes "[a:a]")
    (document_start ∷ seq_start ∷ scalar_event plain_style 1 4 (codes "a:a") ∷ seq_end ∷ document_end ∷ [])
no_white_before_value_read = record { spells = refl; fits = refl; means = refl }

-- A mapping that is a mapping's value is deeper than its key; at the key's place it goes on with the pairs.

abbrev key_alone : List LineEnd → Pair
key_alone comments = keyed_alone (word (codes "a")) [] comments

mapping_under_key_refused : Refused (top_mapping
    (pair (simple (codes "a") (pairs (newline ∷ []) 0 (pair (key_alone [])))))) (codes "a:\na:")
mapping_under_key_refused = record { spells = refl; fits = refl }

mapping_goes_on_read :
    Read
    (top_mapping (pair_and (key_alone (newline ∷ [])) (pair (key_alone []))))
    (codes "a:\na:")
    (document_start ∷ map_start ∷ scalar_event plain_style 0 1 (codes "a") ∷ scalar_event omitted_style 2 2 []
    ∷ scalar_event plain_style 3 4 (codes "a") ∷ scalar_event omitted_style 5 5 [] ∷ map_end ∷ document_end ∷ [])
mapping_goes_on_read = record { spells = refl; fits = refl; means = refl }

-- A sequence may be at the place of the key that it belongs to, and not at that of another sequence's dash.

sequence_under_dash_refused : Refused (stream_of (items [] 0 (item (node (items (newline ∷ []) 0 (item (omitted []))))))) (codes "-\n-")
sequence_under_dash_refused = record { spells = refl; fits = refl }

sequence_goes_on_read :
    Read
    (stream_of (items [] 0 (item_and (omitted (newline ∷ [])) (item (omitted [])))))
    (codes "-\n-")
    (document_start ∷ seq_start ∷ scalar_event omitted_style 1 1 [] ∷ scalar_event omitted_style 3 3 [] ∷ seq_end ∷ document_end ∷ [])
sequence_goes_on_read = record { spells = refl; fits = refl; means = refl }

-- A flow node is deeper than its parent. With no space before the `a` the text has no reading.

abbrev below_dash : ℕ → Stream
below_dash before_text =
    stream_of (items [] 0 (item_and (node (flow (lines (newline ∷ []) (spaces before_text)) (word (codes "a"))
    (newline ∷ []))) (item (omitted []))))

text_under_dash_refused : Refused (below_dash 0) (codes "-\na\n-")
text_under_dash_refused = record { spells = refl; fits = refl }

text_deeper_than_dash_read :
    Read
    (below_dash 1)
    (codes "-\n a\n-")
    (document_start ∷ seq_start ∷ scalar_event plain_style 3 4 (codes "a") ∷ scalar_event omitted_style 6 6 []
    ∷ seq_end ∷ document_end ∷ [])
text_deeper_than_dash_read = record { spells = refl; fits = refl; means = refl }
