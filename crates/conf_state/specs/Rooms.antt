-- Whether the journal has room for a command's record.
use Rattle.std.specs.Prelude.{ℕ, ◌+◌, Bool, ◌&&◌, nat_le, nat_lt, if◌then◌else◌}
use Rattle.conf_state.specs.declared.room.Room.{Room, TheVariants.{Enough, LongRecord, Missing}}

-- the most bytes of the record of a batch, or of a command with an about
abbrev pub record_limit : ℕ
record_limit = 67108864

-- the room for the record of so many bytes in a journal of this size, where it may be long or may not
abbrev pub room_of : (may_be_long : Bool) (bytes size limit : ℕ) → Room
room_of may_be_long bytes size limit =
    if may_be_long && nat_lt record_limit bytes then LongRecord
    else if nat_le (size + bytes) limit then Enough
    else Missing
