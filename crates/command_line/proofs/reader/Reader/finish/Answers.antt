-- What is wrong of the argument is the first that is wrong.
use Rattle.std.{proofs.Common.{map, rules, inr, sym, ap, ◌∙◌}, specs.Prelude.{Err, if◌then◌else◌}}
use Rattle.command_line.specs.{Rows.row_of, Words.checked, declared.refusal.Refusal.TheVariants.MissingText}
use Rattle.command_line.proofs.WordLemmas.{any_argument, waits_on, wrong_at}
use Rattle.command_line.proofs.reader.Reader.finish.Goals as goal

pub returns-in-Some : goal.returns-in-Some
returns-in-Some c =
    inr (ap (λ b. if b then Err MissingText else checked c.args.self.given (map row_of c.args.self.arguments.now))
    (waits_on c.args.self.waits ∙ sym c.is_some.ensures ∙ c.if-is_some.false)
    ∙ wrong_at c.args.self.given c.args.self.arguments.now c.loop-argument.argument-index any_argument c.in-Some.refusal (search rules)
    (search rules) c.loop-argument.invariant)
