-- It is the first such place.
use Rattle.std.{proofs.Common.rules, specs.Prelude.{◌&&◌, ◌||◌, not}}
use Rattle.command_line.{specs.{Forms.{is_place, may_repeat}, Rows.row_of, Matches.has}, proofs.FindLemmas.found_as}
use Rattle.command_line.proofs.WordLemmas.{any_argument}
use Rattle.command_line.proofs.reader.Reader.next_place.Goals as goal

pub returns-then-not-flag : goal.returns-then-not-flag
returns-then-not-flag c =
    found_as (λ a. is_place a.kind && (may_repeat a.kind || not (has c.args.self.now.given a.name))) row_of
    c.args.self.now.arguments.now c.loop-argument.argument-index any_argument (search rules) (search rules)
    c.loop-argument.invariant
