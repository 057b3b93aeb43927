-- A text that is formatted with its comments.
use Rattle.std.specs.{Prelude.{◌≡◌, ◌⊎◌, ℕ, ◌+◌, ◌≤◌, List, [], ◌∷◌, length, map, encode_utf8_all}, Str.{IsUtf8, chars}}
use Rattle.{yaml_grammar.specs.{Reads.{Limits, Reads}, Style.style_text, Trees.Tree, Events.Event}, yaml_tree.specs.Reading.IsRead}
use Rattle.{yaml_tree.specs.Reading.Refuses, yaml_commented.specs.{Trails.{Extra, Trail}, Commented.commented_text, TrailsFit.Fits}}
use Rattle.yaml_comments.specs.{declared.find.Comment.Comment, Comments.{HasComments, AreComments, comment_at}, Found.{place_of, places_of}}
use Rattle.comments_kept.specs.{declared.{fault.KeepFault.{KeepFault, TheVariants.{Read, Unsettled}}, weaver.Placed.Placed}, Places.Mark}
use Rattle.comments_kept.specs.{Places.{marks, marks_of}, Laid.{left_over, woven_text}, Weaving.{IsWoven, texts_of}, Blanks.HasBlankLine}
use Rattle.{comments_kept.specs.Blanks.trimmed, yaml_docs.specs.Reading.RefusesBytes}

-- the limits with another one of the length of the text
abbrev pub with_bytes : Limits → ℕ → Limits
with_bytes limits bytes = record { bytes = bytes; depth = limits.depth; style = limits.style }

-- The bytes give a tree within the limits, and the text gives that tree, within the same limits of the tree.
pub record GivesSameTree (bytes : List ℕ) (limits : Limits) (text : List ℕ) : Type 0 where
  pub tree : Tree
  pub reads : IsRead bytes limits tree
  pub again : IsRead text (with_bytes limits (length text)) tree

-- a comment, in bytes, without spaces and TABs at its end
abbrev pub without_white : List ℕ → List ℕ
without_white comment = encode_utf8_all (trimmed (chars comment))

-- The text has the comments of the bytes, in order, each without whitespace at its end.
pub record HasSameComments (bytes text : List ℕ) : Type 0 where
  pub comments : List (List ℕ)
  pub has : HasComments bytes comments
  pub again : HasComments text (map without_white comments)

-- The bytes give a tree, and the text is that tree's in the one style with comments and empty lines: bare of them it is
-- the tree's text in the one style.
pub record IsStyledWithComments (bytes : List ℕ) (limits : Limits) (text : List ℕ) : Type 0 where
  pub tree : Tree
  pub reads : IsRead bytes limits tree
  pub lead : List Extra
  pub trails : List Trail
  pub fits : Fits lead tree trails
  pub spells : text ≡ encode_utf8_all (commented_text lead tree trails)

-- no line of the bytes is blank
abbrev pub HasNoBlankLine : List ℕ → Type 0
HasNoBlankLine bytes = HasBlankLine bytes → ⊥

-- Bytes without comments and blank lines give a tree whose text in the one style this is.
abbrev pub IsStyledIfBare : List ℕ → Limits → List ℕ → Type 0
IsStyledIfBare bytes limits text =
    (t : Tree) → HasNoBlankLine bytes → HasComments bytes [] → IsRead bytes limits t → text ≡ encode_utf8_all (style_text t)

-- ---- places

-- what the rule keeps of the bytes, by the events that they read as and by their comments
pub record Plans (bytes : List ℕ) (kept : List Mark) : Type 0 where
  pub events : List Event
  pub means : Reads (chars bytes) events
  pub found : List Comment
  pub comments : AreComments bytes events 0 (places_of found)
  pub are : kept ≡ marks bytes events found

-- the text is that of the tree with what the rule keeps of the bytes, at its places
pub record Writes (bytes : List ℕ) (t : Tree) (text : List ℕ) : Type 0 where
  pub kept : List Mark
  pub plans : Plans bytes kept
  pub all : left_over t kept ≡ []
  pub spells : text ≡ encode_utf8_all (woven_text t kept)

-- something of it has no place in the tree
pub record Leaves (bytes : List ℕ) (t : Tree) : Type 0 where
  pub kept : List Mark
  pub plans : Plans bytes kept
  pub some : left_over t kept ≡ [] → ⊥

-- The text is what the rule gives: that of the tree of the bytes, with the comments and empty lines at their places.
pub record Keeps (bytes : List ℕ) (limits : Limits) (text : List ℕ) : Type 0 where
  pub tree : Tree
  pub read : IsRead bytes limits tree
  pub writes : Writes bytes tree text

-- formatted once more within the same limits of depth and style, the text is what it was
abbrev pub IsSettled : Limits → List ℕ → Type 0
IsSettled limits text = Keeps text (with_bytes limits (length text)) text

-- the text of a tree is another one when it is formatted once more, or has no other
abbrev pub Changes : Tree → List ℕ → Type 0
Changes t text = Leaves text t ⊎ ((other : List ℕ) × Writes text t other × (other ≡ text → ⊥))

-- the bytes give a tree, of which no text is settled
pub record GivesUnsettled (bytes : List ℕ) (limits : Limits) : Type 0 where
  pub tree : Tree
  pub read : IsRead bytes limits tree
  pub changes : Leaves bytes tree ⊎ ((text : List ℕ) × Writes bytes tree text × Changes tree text)

-- the fault of bytes: that of reading them, or their text is not settled
abbrev pub RefusesKeeping : List ℕ → Limits → KeepFault → Type 0
RefusesKeeping bytes limits (Read fault) = Refuses bytes limits fault
RefusesKeeping bytes limits Unsettled = GivesUnsettled bytes limits

-- ---- comments that were found

-- each is within the bytes, and its text is UTF-8
abbrev pub AreTexts : List ℕ → List Comment → Type 0
AreTexts bytes [] = Unit {0}
AreTexts bytes (c ∷ cs) =
    (c.start + 1 ≤ c.end) × (c.end ≤ length bytes) × IsUtf8 (comment_at bytes (place_of c)) × AreTexts bytes cs

-- their texts, without whitespace at their ends
abbrev pub texts_at : List ℕ → List Comment → List (List ℕ)
texts_at bytes [] = []
texts_at bytes (c ∷ cs) = trimmed (chars (comment_at bytes (place_of c))) ∷ texts_at bytes cs

-- ---- one text

-- The text was written, with what the code kept of the bytes.
pub record IsWritten (bytes : List ℕ) (t : Tree) (text : List ℕ) : Type 0 where
  pub events : List Event
  pub means : Reads (chars bytes) events
  pub found : List Comment
  pub comments : AreComments bytes events 0 (places_of found)
  pub kept : List Placed
  pub are : marks_of kept ≡ marks bytes events found
  pub texts : texts_of kept ≡ texts_at bytes found
  pub bare : HasNoBlankLine bytes → found ≡ [] → kept ≡ []
  pub woven : IsWoven t kept text

-- the fault of writing: that of reading the bytes again, or something is left over
abbrev pub RefusesWriting : List ℕ → ℕ → Tree → KeepFault → Type 0
RefusesWriting bytes max t (Read fault) = RefusesBytes bytes max fault
RefusesWriting bytes max t Unsettled = Leaves bytes t
