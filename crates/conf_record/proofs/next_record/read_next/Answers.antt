use Rattle.std.proofs.Common.{◌+◌, sym, subst}
use Rattle.conf_record.{proofs.{Prelude.command_of, WrittenLemmas.follows_is}, specs.Written.IsWritten}
use Rattle.conf_record.proofs.next_record.read_next.Goals as goal

pub returns-in_ok-made_command-in-Some-cut_single-clause-ok : goal.returns-in_ok-made_command-in-Some-cut_single-clause-ok
returns-in_ok-made_command-in-Some-cut_single-clause-ok c =
    let lines = c.in-Some.lines.now in
    let command = c.in_ok-made_command-in-Some-cut_single.field-0 in
    follows_is c.records_read.ensures.small c.args.bytes.now (c.args.count + 1) lines (command_of command) c.in-Some.ensures.lines
    (subst (IsWritten lines) (sym c.in_ok-made_command-in-Some-cut_single.ensures) c.in-Some-cut_single.ensures.written)

pub returns-in-Ok-clause-ok : goal.returns-in-Ok-clause-ok
returns-in-Ok-clause-ok c =
    follows_is c.records_read.ensures.small c.args.bytes.now (c.args.count + 1) c.in-Some.lines.now
    (command_of c.in-Ok.command) c.in-Some.ensures.lines c.in-Ok.ensures
