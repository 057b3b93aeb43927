-- The words that are left go on to what all of them give.
use Rattle.std.{proofs.Common.{◌≡◌, drop, map, string_bytes}, specs.Prelude.Ok}
use Rattle.command_line.specs.{Readers.reading_of, Rows.row_of, Words.read_words}
use Rattle.command_line.proofs.reader.Reader.read_words.Given as goal

abbrev pub invariant-loop-word : goal.invariant-loop-word
invariant-loop-word l =
    (l.self.arguments.now ≡ l.fn.self.arguments.now)
    × (read_words (map row_of l.fn.self.arguments.now) (map string_bytes (drop l.word-index l.words)) (Ok (reading_of l.self))
    ≡ read_words (map row_of l.fn.self.arguments.now) (map string_bytes l.words) (Ok (reading_of l.fn.self)))
