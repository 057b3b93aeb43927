-- Worked trees, and worked closings, by computation.
use Rattle.std.{proofs.Common.{◌≡◌, refl}, specs.Prelude.{true, false, ◌++◌, codes}}
use Rattle.yaml_grammar.specs.{Streams.{stream_text, fits, stream_events}, Trees.{Tree, text, sequence, mapping, no_element, element}}
use Rattle.yaml_grammar.specs.{Trees.{no_member, member, IsTreeOf}, Style.style_text, Closings.ClosesAt}
use Rattle.yaml_recognizers.proofs.OneStyle.{Presented.{presentation_of, framed_presentation_of}, Closings.{closes, closes_at}}

-- ---- a tree with a kept, a stripped and a quoted text, and with empty collections

-- a tree with every form
abbrev tree : Tree
tree =
    mapping
    (member (codes "k") (text (codes "a\n\nb\n\n"))
    (member (codes "1")
    (sequence (element (text (codes "x")) (element (mapping (member (codes "y") (text (codes "q\nr")) no_member))
    (element (sequence no_element) no_element))))
    (member (codes "m") (mapping (member (codes "z") (mapping no_member) no_member)) no_member)))

-- its text in the one style
row_text : style_text tree ≡ codes "k: |+\n  a\n\n  b\n\n\"1\":\n  - x\n  - \"y\": |-\n      q\n      r\n  - []\nm:\n  z: {}\n"
row_text = refl

-- its presentation spells that text
row_spelled : stream_text (presentation_of tree) ≡ style_text tree
row_spelled = refl

-- it fits
row_fits : fits (presentation_of tree) ≡ true
row_fits = refl

-- it means the tree
row_tree : IsTreeOf (stream_events (presentation_of tree)) tree
row_tree = refl

-- between lines of `---` and `...`
row_framed : stream_text (framed_presentation_of tree) ≡ codes "---\n" ++ (style_text tree ++ codes "...\n")
row_framed = refl

-- that fits too
row_framed_fits : fits (framed_presentation_of tree) ≡ true
row_framed_fits = refl

-- ---- closings

-- a closing line at the start closes
two_lines : ClosesAt (codes "...\n...\n") 4
two_lines = closes_at (codes "...\n...\n") 4 refl

-- a closing line after text closes
after_text : ClosesAt (codes "a\n...\n...\n") 10
after_text = closes_at (codes "a\n...\n...\n") 10 refl

-- dots at the end of a line close nothing
within_line : closes true (codes "a...\n") 5 ≡ false
within_line = refl

-- dots before CR LF close nothing
other_break : closes true (codes "...\r\n") 5 ≡ false
other_break = refl

-- dots after a CR close nothing
after_return : closes true (codes "a\r...\n") 6 ≡ false
after_return = refl

-- dots before a comment close nothing
with_comment : closes true (codes "... #\n") 6 ≡ false
with_comment = refl
