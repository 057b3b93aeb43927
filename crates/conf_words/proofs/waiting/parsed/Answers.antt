-- What std reads a text as.
use Rattle.std.{proofs.Common.◌^◌, specs.Str.Parse.without_leading_plus}
use Rattle.command_line.proofs.NumberLemmas.{read_as, read_as_none}
use Rattle.conf_words.proofs.waiting.parsed.Goals as goal

pub returns-in-Ok : goal.returns-in-Ok
returns-in-Ok c =
    read_as (2 ^ 32) (without_leading_plus c.args.text.now) c.in-Ok.number c.in-Ok.ensures.value.0.0 c.in-Ok.ensures.value.0.1

pub returns-in-Err : goal.returns-in-Err
returns-in-Err c = read_as_none (2 ^ 32) (without_leading_plus c.args.text.now) c.in-Err.ensures.value.0
