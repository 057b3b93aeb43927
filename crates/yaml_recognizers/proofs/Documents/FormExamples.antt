-- Worked examples of the canonical form: presentations of one text that differ, and the form that they share.
use Rattle.std.{proofs.Common.{refl, ◌≡◌}, specs.Prelude.{Bool, List, None, Some, [], codes, false, true, ℕ, ◌∷◌}}
use Rattle.yaml_recognizers.proofs.Prelude.{Node, block, flow, strip, scalar, plain, LineEnd, Sep, inline, lf, lines, Part, Stream, bare}
use Rattle.yaml_recognizers.proofs.{Prelude.{fits, line, stream_text}, Documents.StreamsForm.stream_form}
use Rattle.yaml_recognizers.specs.CanonicalStreams.{line as line_section, Section, document}

-- two presentations of a text that fit, and their one form
record Share (one other : Stream) (source : List ℕ) (sections : List Section) : Type 0 where
  one_spells : stream_text one ≡ source
  one_fits : fits one ≡ true
  one_form : stream_form one ≡ record { mark = false; sections = sections }
  other_spells : stream_text other ≡ source
  other_fits : fits other ≡ true
  other_form : stream_form other ≡ record { mark = false; sections = sections }

abbrev newline : LineEnd
newline = record { blank = []; comment = None; stop = Some lf }

abbrev note : LineEnd
note = record { blank = []; comment = Some (codes "c"); stop = Some lf }

-- white without a break, at the end of a text
abbrev tab : LineEnd
tab = record { blank = 9 ∷ []; comment = None; stop = None }

abbrev word_after : Sep → List LineEnd → Node
word_after sep comments = flow sep (scalar (plain (codes "a") [])) comments

abbrev stream_of : List LineEnd → Node → List Part → Stream
stream_of prefix n parts = record { mark = false; prefix = prefix; document = Some (bare n); parts = parts }

-- ---- a comment after a document belongs to its node
--
-- a
-- #c

comment_after :
    Share
    (stream_of [] (word_after (inline []) (newline ∷ [])) (line note ∷ []))
    (stream_of [] (word_after (inline []) (newline ∷ note ∷ [])) [])
    (codes "a\n#c\n")
    (document (bare (word_after (inline []) (newline ∷ note ∷ []))) ∷ [])
comment_after = record { one_spells = refl; one_fits = refl; one_form = refl; other_spells = refl; other_fits = refl; other_form = refl }

-- ---- one before a bare document does not
--
-- #c
-- a

comment_before :
    Share
    (stream_of (note ∷ []) (word_after (inline []) []) [])
    (stream_of [] (word_after (lines (note ∷ []) []) []) [])
    (codes "#c\na")
    (line_section note ∷ document (bare (word_after (inline []) [])) ∷ [])
comment_before = record { one_spells = refl; one_fits = refl; one_form = refl; other_spells = refl; other_fits = refl; other_form = refl }

-- ---- at the start of a line, white is no separation over lines

white_before :
    Share
    (stream_of [] (word_after (inline (32 ∷ [])) []) [])
    (stream_of [] (word_after (lines [] (32 ∷ [])) []) [])
    (codes " a")
    (document (bare (word_after (inline (32 ∷ [])) [])) ∷ [])
white_before = record { one_spells = refl; one_fits = refl; one_form = refl; other_spells = refl; other_fits = refl; other_form = refl }

-- ---- after a block scalar a comment with fewer spaces belongs to it; its header's digit, which it lacks, is first
--
-- |-
--  a
-- #c

abbrev scalar_of : Bool → List LineEnd → Node
scalar_of digit_last trail =
    block (inline []) (record {
      header = record { folded = false; digit = None; chomping = strip; digit_last = digit_last; line_end = newline };
      body = record { indent = 1; empties = []; texts = record { text = codes "a"; stop = Some lf; empties = [] } ∷ [] };
      trail = trail;
    })

comment_trails :
    Share
    (stream_of [] (scalar_of true []) (line note ∷ []))
    (stream_of [] (scalar_of false (note ∷ [])) [])
    (codes "|-\n a\n#c\n")
    (document (bare (scalar_of false (note ∷ []))) ∷ [])
comment_trails = record { one_spells = refl; one_fits = refl; one_form = refl; other_spells = refl; other_fits = refl; other_form = refl }

-- ---- but a line of white doesn't, and stays a line of the stream

white_stays :
    Share
    (stream_of [] (scalar_of true []) (line tab ∷ []))
    (stream_of [] (scalar_of false []) (line tab ∷ []))
    (codes "|-\n a\n\t")
    (document (bare (scalar_of false [])) ∷ line_section tab ∷ [])
white_stays = record { one_spells = refl; one_fits = refl; one_form = refl; other_spells = refl; other_fits = refl; other_form = refl }
