-- The texts of a part, as they were cut from its lines. They are bytes, and mean characters.
use Rattle.std.specs.{Prelude.{List, ℕ}, Borrow.Bor}
use Rattle.conf_session.specs.{Prelude.{chars, text, set_at, delete_at}, Said.{Part, import_text, plain}}
use Rattle.conf_record.specs.declared.edit_members.EditMembers.{EditMembers}
use Rattle.conf_record.specs.declared.edit_members.EditMembers.TheVariants as cut

-- the part with these texts
abbrev pub part_cut : EditMembers (Bor (List ℕ)) (Bor (List ℕ)) → Part
part_cut (cut.Import name source) = import_text (chars name.now) (chars source.now)
part_cut (cut.Set name path value) =
    plain (set_at (chars name.now) (chars path.now) (text (chars value.now)))
part_cut (cut.Delete name path) = plain (delete_at (chars name.now) (chars path.now))
