-- A tree's text that is woven with comments and empty lines: what a step of the writing adds, and what it takes.
use Rattle.std.specs.Prelude.{◌≡◌, ◌⊎◌, ◌<◌, Bool, true, false, ℕ, ◌+◌, List, [], ◌∷◌, ◌++◌, Option, Some, None, codes, encode_utf8_all}
use Rattle.std.{specs.{Prelude.{string_bytes, flat_map, drop, length}, List.{AllByRecursion, list_all}, Str.chars}, proofs.Common.get_or}
use Rattle.{yaml_chars.specs.Classes.nb, yaml_grammar.specs.{Style.{literal_mark, feeds_at_end, literal_lines}, Texts.spaces, Trees.Tree}}
use Rattle.{yaml_grammar.specs.Trees.{Elements, no_element, element, Members, no_member, member}, yaml_commented.specs.Trails.Extra}
use Rattle.yaml_commented.specs.Trails.{empty_line, comment_line, Trail, IsBare, trail_comments, trail_text, extra_text, extras_text}
use Rattle.yaml_commented.specs.{Trails.{extras_comments, behind_comments, end_text}, Commented.{next_trail, later_trails, after_key}}
use Rattle.yaml_commented.specs.Commented.{after_tree, after_value, after_elements, after_members, scalar_with, key_with, element_with}
use Rattle.yaml_commented.specs.{Commented.{value_with, elements_with, members_with, tree_with, commented_text}, TrailsFit.trail_fits}
use Rattle.yaml_commented.specs.TrailsFit.{scalar_trail_fits, key_trail_fits, ElementFits, ValueFits, ElementsFit, MembersFit, TreeFits}
use Rattle.{yaml_commented.specs.TrailsFit.{Fits, starts_low, starts_filled, extra_fits}, yaml_comments.specs.CommentLaws.comments_of}
use Rattle.comments_kept.specs.{declared.weaver.{Kept.{Kept, TheVariants.{EmptyLine, Comment}}, Placed.Placed, Weaver.Weaver}, Places.Mark}
use Rattle.comments_kept.specs.{Places.{marks_of, kept_text}, Laid.{Below, freely, below_scalar, below_key, below_element, below_value}}
use Rattle.comments_kept.specs.Laid.{below_elements, below_members, below_tree, marks_to, marks_after, filled_from, lines_of, behind_of}
use Rattle.comments_kept.specs.Laid.{after_behind, Coming, trails_at, behind_all, left_over, woven_text}

-- the comment of what is kept, by what is behind its `#`
abbrev pub kept_texts : Kept → List (List ℕ)
kept_texts EmptyLine = []
kept_texts (Comment text) = chars text.now ∷ []

-- the comments of what is kept, in order
abbrev pub texts_of : List Placed → List (List ℕ)
texts_of [] = []
texts_of (p ∷ ps) = kept_texts p.kept ++ texts_of ps

-- what a weaver still has to write
abbrev pub left : Weaver → List Placed
left w = drop w.taken w.kept.now

-- the same in the words of the rule
abbrev pub left_marks : Weaver → List Mark
left_marks w = marks_of (left w)

-- what it still has to write, and at which place it is
abbrev pub coming : Weaver → Coming
coming w = record { place = w.place; marks = left_marks w }

-- In what follows, `written` says what trails spell, `after` which of them are left, and `Meets` what they have to meet.

-- trails of which this text was written; `used` is what they keep, `those` are the ones that were written, and `us` the
-- trails that come after
pub record AreTrails (written : List Trail → List ℕ) (after : List Trail → List Trail) (Meets : List Trail → Type 0)
    (before now : List ℕ) (used : List Placed) (those us : List Trail) : Type 0 where
  pub trails : List Trail
  pub exact : trails ≡ those ++ us
  pub spells : now ≡ before ++ encode_utf8_all (written trails)
  pub leaves : after trails ≡ us
  pub meets : Meets trails
  pub comments : flat_map trail_comments trails ≡ texts_of used ++ flat_map trail_comments us
  pub bare : used ≡ [] → AllByRecursion IsBare us → AllByRecursion IsBare trails

-- The second weaver is the first one after it wrote a text with trails, those behind lines below which this may be. It
-- took what these keep.
pub record Woven (written : List Trail → List ℕ) (after : List Trail → List Trail) (Meets : List Trail → Type 0)
    (below : List Below) (a b : Weaver) : Type 0 where
  pub used : List Placed
  pub taken : left a ≡ used ++ left b
  pub goes : coming b ≡ behind_all below (coming a)
  pub trails : list_all (list_all nb) (texts_of used) ≡ true → (us : List Trail)
      → AreTrails written after Meets (string_bytes a.text) (string_bytes b.text) used
      (trails_at below (coming a)) us

-- it wrote this text, which has no trail, and took nothing
abbrev pub Wrote : Weaver → List ℕ → Weaver → Type 0
Wrote a cs b =
    (string_bytes b.text ≡ string_bytes a.text ++ encode_utf8_all cs) × (b.kept ≡ a.kept) × (b.taken ≡ a.taken)
    × (b.place ≡ a.place)

-- it ended a line, with the comment that may be behind it
pub record WroteEnd (a b : Weaver) : Type 0 where
  pub behind : Option (List ℕ)
  pub used : List Placed
  pub spells : string_bytes b.text ≡ string_bytes a.text ++ encode_utf8_all (end_text behind)
  pub taken : left a ≡ used ++ left b
  pub texts : texts_of used ≡ behind_comments behind
  pub none : used ≡ [] → behind ≡ None
  pub exact : behind ≡ behind_of (a.place + 1) (left_marks a)
  pub leaves : left_marks b ≡ after_behind (a.place + 1) (left_marks a)
  pub place : b.place ≡ a.place + 2

-- the first of what is left is a comment at this place
pub record StartsBehind (place : ℕ) (w : Weaver) (text : List ℕ) : Type 0 where
  pub first : Placed
  pub within : w.taken < length w.kept.now
  pub is : first ≡ get_or w.kept.now w.taken first
  pub here : first.place ≡ place
  pub comment : kept_text first.kept ≡ Some text
  pub texts : kept_texts first.kept ≡ text ∷ []

-- it is none, or at another place
pub record StartsElsewhere (place : ℕ) (w : Weaver) : Type 0 where
  pub none : behind_of place (left_marks w) ≡ None
  pub same : after_behind place (left_marks w) ≡ left_marks w

-- what is kept, as a line of its own after n spaces
abbrev pub extra_of : Kept → ℕ → Extra
extra_of EmptyLine n = empty_line
extra_of (Comment text) n = comment_line n (chars text.now)

-- it wrote that line, and took nothing
abbrev pub WroteExtra : Kept → ℕ → Weaver → Weaver → Type 0
WroteExtra kept n a b = Wrote a (extra_text (extra_of kept n)) b

-- this is a comment
abbrev pub IsComment : Kept → Type 0
IsComment EmptyLine = ⊥
IsComment (Comment text) = Unit {0}

-- what comes first is behind this place, or a comment
abbrev pub StartsFilled : ℕ → List Placed → Type 0
StartsFilled place [] = Unit {0}
StartsFilled place (p ∷ ps) = (place < p.place) ⊎ IsComment p.kept

-- it wrote lines of its own, those of `marks` up to its place, each comment after at most `most` spaces
pub record WroteLines (most : ℕ) (marks : List Mark) (a b : Weaver) : Type 0 where
  pub lines : List Extra
  pub used : List Placed
  pub spells : string_bytes b.text ≡ string_bytes a.text ++ encode_utf8_all (extras_text lines)
  pub taken : left a ≡ used ++ left b
  pub texts : texts_of used ≡ extras_comments lines
  pub fit : list_all (list_all nb) (texts_of used) ≡ true → list_all extra_fits lines ≡ true
  pub low : starts_low most lines ≡ true
  pub filled : StartsFilled a.place (left a) → starts_filled lines ≡ true
  pub none : used ≡ [] → lines ≡ []
  pub exact : lines ≡ lines_of most (marks_to a.place marks)
  pub leaves : left_marks b ≡ marks_after a.place marks
  pub place : b.place ≡ a.place

-- such lines, of which the first is no empty one
pub record WroteFilledLines (most : ℕ) (a b : Weaver) : Type 0 where
  pub wrote : WroteLines most (filled_from a.place (left_marks a)) a b
  pub filled : starts_filled wrote.lines ≡ true

-- the lines below a literal, where this says that the last line of its body is blank
abbrev pub WroteBelow : Bool → ℕ → Weaver → Weaver → Type 0
WroteBelow true i a b = WroteFilledLines i a b
WroteBelow false i a b = WroteLines i (left_marks a) a b

-- it took empty lines, and wrote nothing
pub record HasSkipped (a b : Weaver) : Type 0 where
  pub used : List Placed
  pub taken : left a ≡ used ++ left b
  pub texts : texts_of used ≡ []
  pub same : string_bytes b.text ≡ string_bytes a.text
  pub filled : StartsFilled b.place (left b)
  pub exact : left_marks b ≡ filled_from a.place (left_marks a)
  pub place : b.place ≡ a.place

-- it wrote a literal in a collection at the indentation i, through its last line
pub record WroteLiteral (value : List ℕ) (i : ℕ) (a d : Weaver) : Type 0 where
  pub b : Weaver
  pub c : Weaver
  pub header : Wrote a (literal_mark (feeds_at_end value)) b
  pub ended : WroteEnd b c
  pub body : Wrote c (literal_lines (i + 2) true value) d

-- ---- the parts of a tree

-- the end of a line that is no literal's header, with what is behind it
abbrev pub WovenEnd : Weaver → Weaver → Type 0
WovenEnd = Woven (λ ws. trail_text (next_trail ws)) later_trails (λ ws. trail_fits (next_trail ws) ≡ true)
    (freely ∷ [])

-- a text that ends its line, with the end
abbrev pub WovenLine : List ℕ → Weaver → Weaver → Type 0
WovenLine cs = Woven (λ ws. cs ++ trail_text (next_trail ws)) later_trails (λ ws. trail_fits (next_trail ws) ≡ true)
    (freely ∷ [])

-- a text as a value, in a collection at the indentation i
abbrev pub WovenScalar : List ℕ → ℕ → Weaver → Weaver → Type 0
WovenScalar value i = Woven (λ ws. scalar_with (i + 2) value (next_trail ws)) later_trails
    (λ ws. scalar_trail_fits i value (next_trail ws) ≡ true) (below_scalar i value ∷ [])

-- a key through its `:`
abbrev pub WovenKey : List ℕ → ℕ → Weaver → Weaver → Type 0
WovenKey key i = Woven (key_with i key) (after_key key) (λ ws. key_trail_fits key ws ≡ true) (below_key key)

-- an element after its `- `
abbrev pub WovenElement : Tree → ℕ → Weaver → Weaver → Type 0
WovenElement t i = Woven (element_with t i) (after_tree t) (ElementFits t i) (below_element t i)

-- a value after the `:` of its key
abbrev pub WovenValue : Tree → ℕ → Weaver → Weaver → Type 0
WovenValue t i = Woven (value_with t i) (after_value t) (ValueFits t i) (below_value t i)

-- a tree at the top
abbrev pub WovenTop : Tree → Weaver → Weaver → Type 0
WovenTop t = Woven (tree_with t) (after_tree t) (TreeFits t) (below_tree t)

-- elements, with this many spaces before the first
abbrev pub elements_led : ℕ → Elements → ℕ → List Trail → List ℕ
elements_led lead no_element i ws = []
elements_led lead (element t ts) i ws =
    spaces lead ++ codes "- " ++ element_with t i ws ++ elements_with ts i (after_tree t ws)

-- such elements
abbrev pub WovenElements : ℕ → Elements → ℕ → Weaver → Weaver → Type 0
WovenElements lead ts i = Woven (elements_led lead ts i) (after_elements ts) (ElementsFit ts i) (below_elements ts i)

-- members, with this many spaces before the first
abbrev pub members_led : ℕ → Members → ℕ → List Trail → List ℕ
members_led lead no_member i ws = []
members_led lead (member key t ms) i ws =
    spaces lead ++ key_with i key ws ++ value_with t i (after_key key ws)
    ++ members_with ms i (after_value t (after_key key ws))

-- such members
abbrev pub WovenMembers : ℕ → Members → ℕ → Weaver → Weaver → Type 0
WovenMembers lead ms i = Woven (members_led lead ms i) (after_members ms) (MembersFit ms i) (below_members ms i)

-- ---- the whole

-- the text of a tree with exactly the comments of what is kept, in order; if nothing is, it has no line of its own
pub record IsWoven (t : Tree) (kept : List Placed) (text : List ℕ) : Type 0 where
  pub lead : List Extra
  pub trails : List Trail
  pub fits : Fits lead t trails
  pub spells : text ≡ encode_utf8_all (commented_text lead t trails)
  pub has : comments_of lead trails ≡ texts_of kept
  pub exact : text ≡ encode_utf8_all (woven_text t (marks_of kept))
  pub all : left_over t (marks_of kept) ≡ []
  pub bare : kept ≡ [] → (lead ≡ []) × AllByRecursion IsBare trails

-- some of it has no place in the tree
abbrev pub LeavesOver : Tree → List Placed → Type 0
LeavesOver t kept = left_over t (marks_of kept) ≡ [] → ⊥
