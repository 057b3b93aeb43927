-- A worked tree with comments, by computation.
use Rattle.std.{proofs.Common.{◌≡◌, refl}, specs.Prelude.{◌++◌, true, [], ◌∷◌, Some, None, List, codes}}
use Rattle.yaml_grammar.specs.{Streams.{stream_text, fits, stream_events}, Trees.{Tree, text, sequence, mapping, no_element, element}}
use Rattle.{yaml_grammar.specs.Trees.{no_member, member, IsTreeOf}, yaml_commented.specs.Trails.{empty_line, comment_line, Trail}}
use Rattle.yaml_commented.{specs.Commented.commented_text, proofs.Presented.presentation_of}

-- a tree with every form
abbrev tree : Tree
tree =
    mapping
    (member (codes "k") (text (codes "a\n\nb\n\n"))
    (member (codes "1")
    (sequence (element (text (codes "x")) (element (mapping (member (codes "y") (text (codes "q\nr")) no_member))
    (element (sequence no_element) no_element))))
    (member (codes "m") (mapping (member (codes "z") (mapping no_member) no_member)) no_member)))

-- a trail with a comment on the line
abbrev behind : List Trail → List Trail
behind ws = record { behind = Some (codes " b"); lines = [] } ∷ ws

-- what is behind each of its lines
abbrev trails : List Trail
trails =
    record { behind = Some (codes " 1"); lines = comment_line 0 (codes " 2") ∷ empty_line ∷ [] }
    ∷ record { behind = Some (codes "3"); lines = comment_line 4 (codes "4") ∷ [] }
    ∷ record { behind = None; lines = empty_line ∷ comment_line 3 (codes " # 5") ∷ [] }
    ∷ record { behind = None; lines = empty_line ∷ empty_line ∷ comment_line 2 (codes "6") ∷ empty_line ∷ comment_line 9 [] ∷ [] }
    ∷ record { behind = Some (codes " 7"); lines = [] }
    ∷ record { behind = None; lines = comment_line 1 (codes " 8") ∷ [] }
    ∷ record { behind = Some (codes " 9"); lines = empty_line ∷ comment_line 0 (codes " 10") ∷ empty_line ∷ [] }
    ∷ []

-- its text
row_text : commented_text (comment_line 0 (codes " 0") ∷ empty_line ∷ []) tree trails
    ≡ codes "# 0\n\nk: |+ # 1\n  a\n\n  b\n\n# 2\n\n\"1\": #3\n    #4\n  - x\n\n"
    ++ codes "   # # 5\n  - \"y\": |-\n      q\n      r\n\n\n  #6\n\n         #\n  - [] # 7\nm:\n # 8\n  z: {} # 9\n\n# 10\n\n"
row_text = refl

-- its presentation spells that text
row_spelled : stream_text (presentation_of (comment_line 0 (codes " 0") ∷ empty_line ∷ []) tree trails)
    ≡ commented_text (comment_line 0 (codes " 0") ∷ empty_line ∷ []) tree trails
row_spelled = refl

-- it fits
row_fits : fits (presentation_of (comment_line 0 (codes " 0") ∷ empty_line ∷ []) tree trails) ≡ true
row_fits = refl

-- it means the tree
row_tree : IsTreeOf (stream_events (presentation_of (comment_line 0 (codes " 0") ∷ empty_line ∷ []) tree trails)) tree
row_tree = refl
