-- Where the comments and empty lines of a text are written: the rule. Lines are those of the tree in the one style,
-- counted from 0, and each ends in the text where its last token ends.
use Rattle.std.specs.Prelude.{ℕ, zero, suc, ◌+◌, ◌-◌, ◌*◌, Bool, true, false, ◌&&◌, nat_lt, nat_le, max, List, [], ◌∷◌, ◌++◌, Option, Some}
use Rattle.std.specs.{Prelude.{None, length, map, drop, slice_get, slice_range, if◌then◌else◌}, Str.chars}
use Rattle.{yaml_grammar.specs.Events.Event, yaml_comments.specs.{declared.find.Comment.Comment, Comments.comment_at, Found.place_of}}
use Rattle.comments_kept.specs.declared.{rows.{Row.Row, Collection.Collection}, weaver.Kept.TheVariants.{EmptyLine, Comment as KeptComment}}
use Rattle.comments_kept.specs.{declared.weaver.Placed.Placed, Blanks.trimmed, Signs.{line_start, is_first, is_below_blank_line}}
use Rattle.comments_kept.specs.Lines.{held, reading}
use Rattle.comments_kept.specs.declared.weaver.Kept as code

-- What is kept: a comment by what is written behind its `#`, or an empty line. Place 2n is above line n, on lines of
-- their own, and place 2n + 1 is behind it.
pub record Mark : Type 0 where
  pub place : ℕ
  pub indent : ℕ
  pub text : Option (List ℕ)

-- the comment of what the code keeps
abbrev pub kept_text : code.Kept → Option (List ℕ)
kept_text EmptyLine = None
kept_text (KeptComment text) = Some (chars text.now)

-- what the code keeps
abbrev pub mark_of : Placed → Mark
mark_of p = record { place = p.place; indent = p.indent; text = kept_text p.kept }

abbrev pub marks_of : List Placed → List Mark
marks_of = map mark_of

-- ---- behind a line, or above one

-- how many lines end up to a place
abbrev pub rows_to : ℕ → List Row → ℕ
rows_to place [] = 0
rows_to place (r ∷ rs) = if nat_lt place r.end then 0 else rows_to place rs + 1

-- The line of a comment, of those from one on: the first that ends behind the start of the comment's line in the text.
abbrev pub row_of : List Row → ℕ → ℕ → ℕ
row_of rows from line = from + rows_to line (drop from rows)

-- it ends before the comment, which is behind it then, and else above it
abbrev pub is_before : ℕ → Option Row → Bool
is_before at None = false
is_before at (Some r) = nat_le r.end at

-- ---- the indentation of a comment on a line of its own

-- that of the line below; behind the last line it is 0
abbrev pub indent_of_row : Option Row → ℕ
indent_of_row None = 0
indent_of_row (Some r) = r.indent

-- the innermost block collection that holds a line
abbrev pub level_of_row : Option Row → Option ℕ
level_of_row None = None
level_of_row (Some r) = r.level

-- that of the line above a line
abbrev pub level_above : List Row → ℕ → Option ℕ
level_above rows zero = None
level_above rows (suc above) = level_of_row (slice_get rows above)

-- a collection, the one that holds it, and so on
abbrev pub with_outer : Option Collection → (Option ℕ → List Collection) → List Collection
with_outer None more = []
with_outer (Some c) more = c ∷ more c.outer

-- at most n of these
abbrev pub holders : ℕ → List Collection → Option ℕ → List Collection
holders zero cs at = []
holders (suc n) cs at = with_outer (held cs at) (holders n cs)

-- a column is not less than that of the best so far
abbrev pub is_as_good : ℕ → Option Collection → Bool
is_as_good column None = true
is_as_good column (Some best) = nat_le best.column column

-- the better of two collections, of which the first one is further out
abbrev pub better : ℕ → Collection → Option Collection → Option Collection
better column c best = if nat_le c.column column && is_as_good c.column best then Some c else best

-- of collections from the inside out, the last one with the greatest column not above a column; or the best so far
abbrev pub nearest : ℕ → Option Collection → List Collection → Option Collection
nearest column best [] = best
nearest column best (c ∷ cs) = nearest column (better column c best) cs

-- its indentation
abbrev pub indent_of : Option Collection → ℕ
indent_of None = 0
indent_of (Some c) = c.indent

-- the indentation of a column, by the innermost collection and the nearest one
abbrev pub indent_by : ℕ → Option Collection → Option Collection → ℕ
indent_by column None best = 0
indent_by column (Some c) best = if nat_lt c.column column then c.inside else indent_of best

-- by the collections that hold a line, where this is the innermost block collection of these
abbrev pub indent_below : List Collection → Option ℕ → ℕ → ℕ
indent_below cs level column =
    indent_by column (held cs level) (nearest column None (holders (length cs) cs level))

-- The indentation of a comment above a line: that of the line, or a greater one by the line above and by the comment's
-- column, if the comment is alone on its line of the text.
abbrev pub indent_at : List ℕ → List Row → List Collection → ℕ → ℕ → ℕ
indent_at bytes rows cs row at =
    if is_first bytes at
    then max (indent_below cs (level_above rows row) (at - line_start bytes at)) (indent_of_row (slice_get rows row))
    else indent_of_row (slice_get rows row)

-- ---- empty lines

-- the empty line above what begins at a place of the text, where what begins is above a line of the tree or that line
abbrev pub empty_above : List ℕ → ℕ → ℕ → List Mark
empty_above bytes row at =
    if is_below_blank_line bytes at then record { place = row * 2; indent = 0; text = None } ∷ [] else []

-- those above lines, of which the first one's number is this
abbrev pub empties : List ℕ → ℕ → List Row → List Mark
empties bytes row [] = []
empties bytes row (r ∷ rs) = empty_above bytes row r.start ++ empties bytes (row + 1) rs

-- those above the lines from one up to another
abbrev pub empties_between : List ℕ → List Row → ℕ → ℕ → List Mark
empties_between bytes rows from to = empties bytes from (slice_range rows from to)

-- ---- all of them

-- what is written behind the `#` of a comment, without whitespace at its end
abbrev pub text_of : List ℕ → Comment → List ℕ
text_of bytes c = trimmed (chars (comment_at bytes (place_of c)))

-- a comment behind a line, and the empty lines above the lines before it
abbrev pub marks_behind : List ℕ → List Row → ℕ → ℕ → Comment → List Mark
marks_behind bytes rows from row c =
    empties_between bytes rows from (row + 1)
    ++ record { place = row * 2 + 1; indent = 0; text = Some (text_of bytes c) } ∷ []

-- a comment above a line, with the empty line above it, and the empty lines above the lines before it
abbrev pub marks_above : List ℕ → List Row → List Collection → ℕ → ℕ → Comment → List Mark
marks_above bytes rows cs from row c =
    empties_between bytes rows from row ++ empty_above bytes row c.start
    ++ record { place = row * 2; indent = indent_at bytes rows cs row c.start; text = Some (text_of bytes c) } ∷ []

-- what a comment adds, where these are the lines from one on that come before it, and the line that comes next
pub record Step : Type 0 where
  pub marks : List Mark
  pub next : ℕ

abbrev pub step_by : Bool → List ℕ → List Row → List Collection → ℕ → ℕ → Comment → Step
step_by true bytes rows cs from row c = record { marks = marks_behind bytes rows from row c; next = row + 1 }
step_by false bytes rows cs from row c = record { marks = marks_above bytes rows cs from row c; next = row }

abbrev pub step_at : List ℕ → List Row → List Collection → ℕ → ℕ → Comment → Step
step_at bytes rows cs from row c = step_by (is_before c.start (slice_get rows row)) bytes rows cs from row c

abbrev pub step_of : List ℕ → List Row → List Collection → ℕ → Comment → Step
step_of bytes rows cs from c = step_at bytes rows cs from (row_of rows from (line_start bytes c.start)) c

-- what is kept from a line on, with these comments
abbrev pub marks_from : List ℕ → List Row → List Collection → ℕ → List Comment → List Mark
marks_from bytes rows cs from [] = empties_between bytes rows from (length rows)
marks_from bytes rows cs from (c ∷ found) =
    (step_of bytes rows cs from c).marks ++ marks_from bytes rows cs (step_of bytes rows cs from c).next found

-- what is kept of a text with these events and comments
abbrev pub marks : List ℕ → List Event → List Comment → List Mark
marks bytes events found = marks_from bytes (reading bytes events).rows (reading bytes events).collections 0 found
