-- The letters that are left go on to what all of them give.
use Rattle.std.{proofs.Common.{◌≡◌, drop, length, map}, specs.{Prelude.Ok, Str.chars}}
use Rattle.command_line.specs.{Readers.reading_of, Rows.row_of, Words.take_letters}
use Rattle.command_line.proofs.reader.Reader.take_letters.Given as goal

abbrev pub invariant-loop-letter : goal.invariant-loop-letter
invariant-loop-letter l =
    (l.self.arguments.now ≡ l.fn.self.arguments.now)
    × (take_letters (map row_of l.fn.self.arguments.now) (drop (length l.yielded) (chars l.letters)) (Ok (reading_of l.self))
    ≡ take_letters (map row_of l.fn.self.arguments.now) (chars l.letters) (Ok (reading_of l.fn.self)))
