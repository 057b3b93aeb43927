-- The members of an edit on their lines, as bytes.
use Rattle.std.specs.Prelude.{ℕ, List, [], ◌∷◌, ◌++◌, codes}
use Rattle.conf_record.specs.{Prelude.{Bor, line_feed, spaces}, declared.edit_lines.Place.{Place, TheVariants.{Alone, InBatch}}}
use Rattle.conf_record.specs.declared.edit_members.EditMembers.{EditMembers}
use Rattle.conf_record.specs.declared.edit_members.EditMembers.TheVariants as cut

-- how many spaces are before each member but the first
abbrev pub indent_of : Place → ℕ
indent_of Alone = 0
indent_of InBatch = 4

-- a member, by its key with the `: `, and what is written after it
abbrev pub member_line : (key value : List ℕ) → List ℕ
member_line key value = key ++ (value ++ line_feed ∷ [])

-- members at an indentation, where the value of an import is after this key; the first is without its spaces
abbrev pub lines_of : EditMembers (Bor (List ℕ)) (Bor (List ℕ)) → (import_key : List ℕ) → ℕ → List ℕ
lines_of (cut.Import name value) key indent =
    member_line (codes "import: ") name.now ++ (spaces indent ++ member_line key value.now)
lines_of (cut.Set name path value) key indent =
    member_line (codes "set: ") name.now ++ (spaces indent ++ (member_line (codes "path: ") path.now
    ++ (spaces indent ++ member_line (codes "value: ") value.now)))
lines_of (cut.Delete name path) key indent =
    member_line (codes "delete: ") name.now ++ (spaces indent ++ member_line (codes "path: ") path.now)
