-- The members of an edit as they were read of their lines: texts, each without its quotes.
use Rattle.std.specs.Prelude.{◌≡◌, ◌<◌, ℕ, ◌+◌, List, ◌++◌, length, codes, decimal, encode_utf8_all, ◌≤◌}
use Rattle.conf_record.specs.Prelude.{Bor, chars, IsText, text, config_limits, Edit, import_as, set_at, delete_at, record_limit}
use Rattle.conf_record.specs.{Prelude.count_limit, declared.{edit_members.EditMembers.EditMembers, lines.LineValue.LineValue}}
use Rattle.conf_record.specs.Written.{IsLineOf}
use Rattle.conf_record.specs.declared.edit_members.EditMembers.TheVariants as cut

-- the value is a text on this line, which is short enough for a configuration, and has so many bytes with its line feed
pub record IsValueLine (line : List ℕ) (value : LineValue) : Type 0 where
  pub is : IsLineOf line (chars value.text.now)
  pub bytes : value.bytes ≡ length line + 1
  pub short : length line < config_limits.style
  pub texts : IsText (chars value.text.now)

-- it is on some line
abbrev pub HasLine : LineValue → Type 0
HasLine value = (line : List ℕ) × IsValueLine line value

-- the edit with these members
abbrev pub edit_cut : EditMembers (Bor (List ℕ)) LineValue → Edit
edit_cut (cut.Import name value) = import_as (chars name.now) (text (chars value.text.now))
edit_cut (cut.Set name path value) = set_at (chars name.now) (chars path.now) (text (chars value.text.now))
edit_cut (cut.Delete name path) = delete_at (chars name.now) (chars path.now)

-- the value of an import or a set is on some line
abbrev pub HasValueLine : EditMembers (Bor (List ℕ)) LineValue → Type 0
HasValueLine (cut.Import name value) = HasLine value
HasValueLine (cut.Set name path value) = HasLine value
HasValueLine (cut.Delete name path) = Unit {0}

-- the lines come after the number of a record, as a store writes it
pub record FollowsNumber (bytes : List ℕ) (number : ℕ) (lines : List ℕ) : Type 0 where
  pub is : bytes ≡ codes "---\nat: \"" ++ (encode_utf8_all (decimal number) ++ (codes "\"\n" ++ lines))
  pub small : number ≤ count_limit
  pub short : length bytes ≤ record_limit
