-- Records and bases as bytes: which bytes are one, and what is left of written ones that a crash cuts.
use Rattle.std.specs.{Prelude.{◌≡◌, ◌≤◌, ℕ, ◌+◌, List, [], ◌∷◌, ◌++◌, length, take, replicate, Ok}, List.concat}
use Rattle.conf_record.specs.{Prelude.{chars, IsUtf8, Command, Contents, count_limit, base_limit, IsState, step, Room}, Records.FitsRecord}
use Rattle.conf_record.specs.{Records.record_bytes, RecordsRead.{IsCommand, ReadsRecord, ReadsBase}, Formats.base_in}
use Rattle.{conf_record.specs.declared.format.Format.Format, yaml_grammar.specs.Closings.{ClosesOnce, Pieces}}

-- the bytes are a text that reads as a command with a number
pub record IsRecord (bytes : List ℕ) (command : Command) (number : ℕ) : Type 0 where
  pub utf8 : IsUtf8 bytes
  pub reads : ReadsRecord (chars bytes) command number

-- the bytes are a text that reads as a state
pub record IsBase (bytes : List ℕ) (state : Contents) : Type 0 where
  pub utf8 : IsUtf8 bytes
  pub reads : ReadsBase (chars bytes) state

-- the bytes are no record
abbrev pub IsNoRecord : List ℕ → Type 0
IsNoRecord bytes = (command : Command) (number : ℕ) → IsRecord bytes command number → ⊥

-- the bytes are no base
abbrev pub IsNoBase : List ℕ → Type 0
IsNoBase bytes = (state : Contents) → IsBase bytes state → ⊥

-- the records of consecutive commands, numbered on from a count
abbrev pub record_pieces : ℕ → List Command → List (List ℕ)
record_pieces count [] = []
record_pieces count (command ∷ commands) = record_bytes command (count + 1) ∷ record_pieces (count + 1) commands

-- the same in a row
abbrev pub records_bytes : ℕ → List Command → List ℕ
records_bytes count commands = concat (record_pieces count commands)

-- The bytes are the records of the first commands, whole, and a rest that is not closed.
pub record TornRecords (count : ℕ) (commands : List Command) (bytes : List ℕ) : Type 0 where
  pub whole : ℕ
  pub rest : List ℕ
  pub pieces : Pieces bytes (record_pieces count (take whole commands)) rest

-- ---- laws

-- the base of a state, in each format, reads as that state
abbrev pub BasesAreRead : Type 0
BasesAreRead = (format : Format) (s : Contents) → IsState s → IsBase (base_in format s) s

-- The record of a command that some state accepts reads as that command with its number. That of a batch has to be of
-- at most 67,108,864 bytes.
abbrev pub RecordsAreRead : Type 0
RecordsAreRead = (s new : Contents) (command : Command) (room : Room) (number : ℕ) → IsState s → IsCommand command
    → step s command room ≡ Ok new → number ≤ count_limit → FitsRecord command number
    → IsRecord (record_bytes command number) command number

-- a base has at most 67,108,864 bytes
abbrev pub BasesFit : Type 0
BasesFit = (format : Format) (s : Contents) → IsState s → length (base_in format s) ≤ base_limit

-- any bytes are the base of at most one state
abbrev pub OneBase : Type 0
OneBase = (bytes : List ℕ) (s other : Contents) → IsBase bytes s → IsBase bytes other → other ≡ s

-- any bytes are the record of at most one command, with one number
abbrev pub OneRecord : Type 0
OneRecord = (bytes : List ℕ) (command other : Command) (number another : ℕ)
    → IsRecord bytes command number → IsRecord bytes other another → (other ≡ command) × (another ≡ number)

-- a base closes once, at its end
abbrev pub BasesClose : Type 0
BasesClose = (format : Format) (s : Contents) → ClosesOnce (base_in format s)

-- a record closes once, at its end
abbrev pub RecordsClose : Type 0
RecordsClose = (command : Command) (number : ℕ) → ClosesOnce (record_bytes command number)

-- consecutive records of which a prefix is kept, with any number of zeros after it
abbrev pub RecordsTear : Type 0
RecordsTear = (count : ℕ) (commands : List Command) (kept zeros : ℕ)
    → TornRecords count commands (take kept (records_bytes count commands) ++ replicate zeros 0)
