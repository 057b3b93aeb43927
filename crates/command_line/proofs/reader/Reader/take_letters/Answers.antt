-- One more letter, and the end of the word.
use Rattle.std.proofs.{Common.{[], ◌∷◌, ◌++◌, ◌∙◌, length, arith, map}, lemmas.Iterator.{YieldsList-from_chars, Consumers.YieldsList-turn}}
use Rattle.std.{proofs.lemmas.{Iterator.Consumers.YieldsList-end, List.length_push}, specs.{Prelude.Ok, Str.chars}}
use Rattle.command_line.{specs.{Readers.reading_of, Rows.row_of, Words.take_letters}, proofs.WordLemmas.{letter_refused, letter_taken}}
use Rattle.command_line.proofs.WordLemmas.{letters_done}
use Rattle.command_line.proofs.reader.Reader.take_letters.Goals as goal

pub loop-letter-preserved : goal.loop-letter-preserved
loop-letter-preserved c =
    let turn = YieldsList-turn (YieldsList-from_chars c.args.letters.now c.utf8.letters cc) c.loop-letter.yielded _
    c.loop-letter.yielded_by _ _ c.in-Some.letter c.in-Some.is c.next.ensures.steps in
    let table = map row_of c.args.self.now.arguments.now in (
      c.take_letter.ensures.table ∙ c.loop-letter.invariant.0,
      letter_taken table (chars c.args.letters.now)
          (length c.loop-letter.yielded) (length (c.loop-letter.yielded ++ c.in-Some.letter ∷ [])) c.in-Some.letter
          (reading_of c.loop-letter.self) (reading_of c.take_letter.new.self)
          (take_letters table (chars c.args.letters.now) (Ok (reading_of c.args.self.now))) turn
          (length_push c.loop-letter.yielded c.in-Some.letter)
          (rw c.loop-letter.invariant.0 at c.in_default.ensures.read) c.loop-letter.invariant.1,
    )

pub returns-in-Err-clause-read : goal.returns-in-Err-clause-read
returns-in-Err-clause-read c =
    let turn = YieldsList-turn (YieldsList-from_chars c.args.letters.now c.utf8.letters cc) c.loop-letter.yielded _
    c.loop-letter.yielded_by _ _ c.in-Some.letter c.in-Some.is c.next.ensures.steps in
    letter_refused (map row_of c.args.self.now.arguments.now) (chars c.args.letters.now) (length c.loop-letter.yielded) c.in-Some.letter
    (reading_of c.loop-letter.self) c.in-Err.refusal
    (take_letters (map row_of c.args.self.now.arguments.now) (chars c.args.letters.now) (Ok (reading_of c.args.self.now))) turn
    (rw c.loop-letter.invariant.0 at c.in-Err.ensures.read) c.loop-letter.invariant.1

pub returns-clause-read : goal.returns-clause-read
returns-clause-read c =
    let end = YieldsList-end (YieldsList-from_chars c.args.letters.now c.utf8.letters cc) c.loop-letter.yielded _
    c.loop-letter.yielded_by _ _ c.in-None.is c.next.ensures.steps in
    letters_done (map row_of c.args.self.now.arguments.now) (chars c.args.letters.now) (length c.loop-letter.yielded)
    (reading_of c.loop-letter.self) (take_letters (map row_of c.args.self.now.arguments.now) (chars c.args.letters.now)
    (Ok (reading_of c.args.self.now))) (omega (arith, end.1)) c.loop-letter.invariant.1
