-- Nothing is there, or it can't be told, by the fault that ended the look.
use Rattle.conf_tools.{proofs.{Prelude.chars, FoundLemmas.{presence-hidden, presence-told}}, specs.Reads.{tree_found, value_in}}
use Rattle.conf_tools.proofs.reads.presence_in.Goals as goal

pub returns-in-Err-clause-ok : goal.returns-in-Err-clause-ok
returns-in-Err-clause-ok c =
    presence-told (value_in (tree_found c.args.found) (chars c.args.place.name.now) (chars c.args.place.pointer.now))
    c.in-Err.fault c.presence_after.result
    c.in-Err.ensures.refused c.presence_after.ensures

pub returns-in-Err-clause-refused : goal.returns-in-Err-clause-refused
returns-in-Err-clause-refused c =
    presence-hidden (value_in (tree_found c.args.found) (chars c.args.place.name.now) (chars c.args.place.pointer.now))
    c.in-Err.fault c.presence_after.result
    c.in-Err.ensures.refused c.presence_after.ensures
