-- Open files, as contracts see them.
use Rattle.std.specs.{Prelude.{ℕ, List, Vec, Option, Some, Bool}, Io.Cursor.cursor_remaining, declared.alloc.Global.Global}
use Rattle.{conf_store.specs.Holes.is_several, test_worlds.specs.declared.file.MemoryFile.MemoryFile}

abbrev pub bytes_of : Vec ℕ Global → Option (List ℕ)
bytes_of bytes = Some bytes.items

-- the bytes that an open file still gives
abbrev pub remaining_of : MemoryFile → Option (List ℕ)
remaining_of file = cursor_remaining bytes_of file.cursor

-- whether it is noted of the file that several records may have waited for one sync
abbrev pub waiting_of : MemoryFile → Bool
waiting_of file = is_several file.waiting
