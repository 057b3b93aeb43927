-- What is read of a file to which another program appends.
use Rattle.std.specs.Prelude.{◌≡◌, ◌+◌, ◌≤◌, ℕ, Bool, List, ◌++◌, length, take, replicate, Some, Ok}
use Rattle.conf_history.specs.Prelude.{store_limit, Command, Contents, after, record_pieces, records_bytes, AreRecords}
use Rattle.conf_history.specs.Prelude.{Means, AfterPrefix, IsNoted, IsWholeStore, Zeroed}

-- Any prefix of bytes that mean a state, if it holds their base, means the state after the first of their commands.
abbrev pub PrefixesAreRead : Type 0
PrefixesAreRead = (several : Bool) (bytes : List ℕ) (s : Contents) (m : Means several bytes s) (kept : ℕ)
    → length m.mean.base ≤ kept → AfterPrefix several m.mean.start m.mean.commands (Some (take kept bytes))

-- The bytes are a whole store, which means `s`. It accepts the commands, and has room for their records.
pub record TakesRecords (bytes : List ℕ) (s : Contents) (commands : List Command) : Type 0 where
  pub whole : IsWholeStore bytes s
  pub are : AreRecords s.count (record_pieces s.count commands) commands
  pub end : Contents
  pub leads : after s commands ≡ Ok end
  pub short : length bytes + length (records_bytes s.count commands) ≤ store_limit

-- The records of accepted commands are appended to a whole store. Whatever prefix of them is there, also with zeros
-- after it, the bytes mean the state after the first of the commands.
abbrev pub AppendedRecordsAreRead : Type 0
AppendedRecordsAreRead = (several : Bool) (bytes : List ℕ) (s : Contents) (commands : List Command) (kept zeros : ℕ)
    → TakesRecords bytes s commands → kept + zeros ≤ length (records_bytes s.count commands)
    → AfterPrefix several s commands (Some (bytes ++ take kept (records_bytes s.count commands) ++ replicate zeros 0))

-- The same of what a crash leaves of the records: each byte as it was or zero. Several are noted.
abbrev pub WornRecordsAreRead : Type 0
WornRecordsAreRead = (several : Bool) (bytes : List ℕ) (s : Contents) (commands : List Command) (left : List ℕ)
    → TakesRecords bytes s commands → IsNoted several commands → Zeroed (records_bytes s.count commands) left
    → AfterPrefix several s commands (Some (bytes ++ left))
