-- The laws of comments, as statements.
use Rattle.std.specs.{Prelude.{◌≡◌, true, List, ◌++◌, encode_utf8_all, map, flat_map, ℕ}, List.list_all, Str.IsUtf8}
use Rattle.{yaml_chars.specs.Classes.nb, yaml_grammar.specs.{Streams.{Stream, stream_text, fits, stream_events}, Trees.{Tree, IsTextTree}}}
use Rattle.yaml_commented.specs.{Trails.{Extra, Trail, extras_comments, trail_comments}, Commented.commented_text, TrailsFit.Fits}
use Rattle.yaml_comments.specs.{Comments.{Place, AreComments, comment_at, HasComments}, Presented.stream_comments}

-- The bytes of a presentation have its comments, by its events. Each is on one line, of characters that may be in a
-- comment (6.6).
pub record HasItsComments (p : Stream) : Type 0 where
  pub places : List Place
  pub are : AreComments (encode_utf8_all (stream_text p)) (stream_events p) 0 places
  pub written : map (comment_at (encode_utf8_all (stream_text p))) places ≡ map encode_utf8_all (stream_comments p)
  pub lines : list_all (list_all nb) (stream_comments p) ≡ true

-- so has each presentation
abbrev pub PresentedComments : Type 0
PresentedComments = (p : Stream) → fits p ≡ true → HasItsComments p

-- the comments before a tree and behind its lines, in order
abbrev pub comments_of : List Extra → List Trail → List (List ℕ)
comments_of lead ws = extras_comments lead ++ flat_map trail_comments ws

-- the text of a tree with comments has these, in order
abbrev pub CommentedComments : Type 0
CommentedComments = (lead : List Extra) (t : Tree) (ws : List Trail) → IsTextTree t → Fits lead t ws
    → HasComments (encode_utf8_all (commented_text lead t ws)) (map encode_utf8_all (comments_of lead ws))

-- a text has one list of comments
abbrev pub CommentsOnce : Type 0
CommentsOnce = (bytes : List ℕ) (one other : List (List ℕ)) → HasComments bytes one → HasComments bytes other → one ≡ other

-- the comments are these, each on one line, of characters that may be in a comment
pub record AreOnLines (comments : List (List ℕ)) : Type 0 where
  pub texts : List (List ℕ)
  pub written : comments ≡ map encode_utf8_all texts
  pub lines : list_all (list_all nb) texts ≡ true

-- so are those of each text
abbrev pub CommentsOnLines : Type 0
CommentsOnLines = (bytes : List ℕ) (comments : List (List ℕ)) → IsUtf8 bytes → HasComments bytes comments → AreOnLines comments
