-- The recognizer of block scalars on closed texts. An example names the byte at which the block scalar is in its
-- document, the least indentation that it may have, and the text from there on; and the event that it gives, whose
-- range is counted from the document's start, with what is left of the text. The checker computes both sides. The
-- expected values come from YAML 1.2.2 and from other readers of these texts.
use Rattle.std.{proofs.Common.{◌≡◌, refl}, specs.Prelude.{ℕ, List, [], ◌∷◌, Some, None, codes}}
use Rattle.yaml_recognizers.{proofs.Prelude.{block_events, Event, scalar_event, literal_style, folded_style}, specs.Reading.{Read, on}}
use Rattle.yaml_recognizers.specs.BlockScalars.{read_block}

-- the events of the block scalar at the start, and what is left
abbrev read_events : ℕ → ℕ → List ℕ → Read (List Event)
read_events at m text = on (read_block m text) (λ b rest. Some (block_events at b, rest))

literal_hash : read_events 0 0 (codes "|\n#c") ≡ Some (scalar_event literal_style 0 4 (codes "#c") ∷ [], [])
literal_hash = refl

-- a line of spaces that is wider than the first text line
spaces_before_hash : read_events 0 0 (codes "|\n \n#c") ≡ None
spaces_before_hash = refl

spaces_before_hash_line : read_events 0 0 (codes "|\n  \n #\n") ≡ None
spaces_before_hash_line = refl

spaces_before_text : read_events 2 1 (codes "|\n   \n a\n") ≡ None
spaces_before_text = refl

spaces_before_key_text : read_events 3 1 (codes "|\n   \n  a\n") ≡ None
spaces_before_key_text = refl

-- the last line is wider than the indentation, and so a text line, though no break ends it
wide_last_line : read_events 0 0 (codes "|\na\n ") ≡ Some (scalar_event literal_style 0 5 (codes "a\n ") ∷ [], [])
wide_last_line = refl

wide_last_line_of_key : read_events 3 1 (codes "|\n a\n  ") ≡ Some (scalar_event literal_style 3 10 (codes "a\n ") ∷ [], [])
wide_last_line_of_key = refl

own_sign : read_events 0 0 (codes "|\n|\n ") ≡ Some (scalar_event literal_style 0 5 (codes "|\n ") ∷ [], [])
own_sign = refl

no_last_break : read_events 3 1 (codes "|\n a") ≡ Some (scalar_event literal_style 3 7 (codes "a") ∷ [], [])
no_last_break = refl

-- spaces up to the end of the text, with no break, are no empty line
spaces_alone : read_events 0 0 (codes "|\n  ") ≡ Some (scalar_event literal_style 0 2 [] ∷ [], codes "  ")
spaces_alone = refl

kept_spaces : read_events 0 0 (codes "|+\n \n  ") ≡ Some (scalar_event literal_style 0 5 (codes "\n") ∷ [], codes "  ")
kept_spaces = refl

empty_line : read_events 2 1 (codes "|\n  \n") ≡ Some (scalar_event literal_style 2 7 [] ∷ [], [])
empty_line = refl

-- where no line sets an indentation, the widest empty line does
empty_then_item : read_events 2 1 (codes "|\n   \n- a\n-\n - x") ≡ Some (scalar_event literal_style 2 8 [] ∷ [], codes "- a\n-\n - x")
empty_then_item = refl

empty_then_block : read_events 2 1 (codes "|\n  \n- |\n x\n") ≡ Some (scalar_event literal_style 2 7 [] ∷ [], codes "- |\n x\n")
empty_then_block = refl

empty_then_pair : read_events 3 1 (codes "|\n   \nb: |\n  x\n") ≡ Some (scalar_event literal_style 3 9 [] ∷ [], codes "b: |\n  x\n")
empty_then_pair = refl

folded_hash : read_events 4 0 (codes ">\n# c\n") ≡ Some (scalar_event folded_style 4 10 (codes "# c\n") ∷ [], [])
folded_hash = refl

-- a line of a TAB has no spaces
tab_less_deep : read_events 2 1 (codes "|\n\t\n- b") ≡ Some (scalar_event literal_style 2 4 [] ∷ [], codes "\t\n- b")
tab_less_deep = refl

tab_after : read_events 2 1 (codes "|\n a\n\t\n- b\n") ≡ Some (scalar_event literal_style 2 7 (codes "a\n") ∷ [], codes "\t\n- b\n")
tab_after = refl

key : read_events 2 1 (codes "|\n a\n") ≡ Some (scalar_event literal_style 2 7 (codes "a\n") ∷ [], [])
key = refl

-- a comment less deep than the text
comment_after : read_events 3 1 (codes "|\n  a\n # c\n") ≡ Some (scalar_event literal_style 3 9 (codes "a\n") ∷ [], [])
comment_after = refl

folded_lines : read_events 0 0 (codes ">\n  a\n  b\n\n  c\n   d\n  e\n")
    ≡ Some (scalar_event folded_style 0 24 (codes "a b\nc\n d\ne\n") ∷ [], [])
folded_lines = refl

digit_and_mark : read_events 3 1 (codes "|2-\n   a\n") ≡ Some (scalar_event literal_style 3 12 (codes " a") ∷ [], [])
digit_and_mark = refl

kept_lines : read_events 3 1 (codes "|+\n  a\n\n...\n") ≡ Some (scalar_event literal_style 3 11 (codes "a\n\n") ∷ [], codes "...\n")
kept_lines = refl

digit_at_top : read_events 0 0 (codes "|1\n x\n") ≡ Some (scalar_event literal_style 0 6 (codes "x\n") ∷ [], [])
digit_at_top = refl

digit_before_space : read_events 0 0 (codes "|1\n  x\n") ≡ Some (scalar_event literal_style 0 7 (codes " x\n") ∷ [], [])
digit_before_space = refl

digit_and_less_deep : read_events 4 0 (codes "|1\nx\n") ≡ Some (scalar_event literal_style 4 7 [] ∷ [], codes "x\n")
digit_and_less_deep = refl

folded_digit : read_events 4 0 (codes ">2-\n  x\n") ≡ Some (scalar_event folded_style 4 12 (codes "x") ∷ [], [])
folded_digit = refl

digit_in_item : read_events 2 1 (codes "|1\n  x\n") ≡ Some (scalar_event literal_style 2 9 (codes " x\n") ∷ [], [])
digit_in_item = refl

at_the_margin : read_events 4 0 (codes "|\nx\n") ≡ Some (scalar_event literal_style 4 8 (codes "x\n") ∷ [], [])
at_the_margin = refl

marker_after : read_events 4 0 (codes "|\n a\n--- b\n") ≡ Some (scalar_event literal_style 4 9 (codes "a\n") ∷ [], codes "--- b\n")
marker_after = refl

dots_after : read_events 0 0 (codes "|\n a\n...\nb\n") ≡ Some (scalar_event literal_style 0 5 (codes "a\n") ∷ [], codes "...\nb\n")
dots_after = refl

marker_at_once : read_events 3 1 (codes "|\n---\n") ≡ Some (scalar_event literal_style 3 5 [] ∷ [], codes "---\n")
marker_at_once = refl

breaks_of_cr : read_events 0 0 (codes "|\r\n a\r\n b\r") ≡ Some (scalar_event literal_style 0 10 (codes "a\nb\n") ∷ [], [])
breaks_of_cr = refl

-- the header may end the text
header_alone : read_events 0 0 (codes "|") ≡ Some (scalar_event literal_style 0 1 [] ∷ [], [])
header_alone = refl

header_of_key_alone : read_events 3 1 (codes ">-") ≡ Some (scalar_event folded_style 3 5 [] ∷ [], [])
header_of_key_alone = refl

header_with_comment : read_events 0 0 (codes "| # c\n a\n") ≡ Some (scalar_event literal_style 0 9 (codes "a\n") ∷ [], [])
header_with_comment = refl

-- a comment comes after white
comment_not_apart : read_events 0 0 (codes "|# c\n a\n") ≡ None
comment_not_apart = refl

-- digit and mark in either order
mark_and_digit : read_events 0 0 (codes "|-2\n  a\n") ≡ Some (scalar_event literal_style 0 8 (codes "a") ∷ [], [])
mark_and_digit = refl

two_marks : read_events 0 0 (codes "|-+\n a\n") ≡ None
two_marks = refl

two_digits : read_events 0 0 (codes "|12\n a\n") ≡ None
two_digits = refl

digit_zero : read_events 0 0 (codes "|0\n a\n") ≡ None
digit_zero = refl

-- a text line holds printable characters
unprintable : read_events 0 0 (codes "|\n a\u{1}\n") ≡ None
unprintable = refl

-- after the first comment line come lines of white and comments at any depth
comments_then_text : read_events 2 1 (codes "|\n  a\n # b\n\n   # c\n- d")
    ≡ Some (scalar_event literal_style 2 8 (codes "a\n") ∷ [], codes "- d")
comments_then_text = refl
