-- A word that is refused.
use Rattle.std.{proofs.Common.{map, rules, string_bytes}, specs.Prelude.Ok}
use Rattle.command_line.{specs.{Readers.reading_of, Rows.row_of, Words.read_words}, proofs.WordLemmas.word_refused}
use Rattle.command_line.proofs.reader.Reader.read_words.Goals as goal

pub returns-in-Err-clause-read : goal.returns-in-Err-clause-read
returns-in-Err-clause-read c =
    word_refused (map row_of c.args.self.now.arguments.now) c.args.words.now c.loop-word.word-index c.word-item.result
    (reading_of c.loop-word.self) c.in-Err.refusal
    (read_words (map row_of c.args.self.now.arguments.now) (map string_bytes c.args.words.now) (Ok (reading_of c.args.self.now)))
    (search rules) (search rules) (rw (c.loop-word.invariant.0, c.deref.ensures) at c.in-Err.ensures.read) c.loop-word.invariant.1
