-- What was found is shown, or what stands for it.
use Rattle.std.proofs.Common.{string_bytes}
use Rattle.conf_tools.proofs.{Prelude.{chars, tree_of}, FoundLemmas.{found-lacks-all, found-shown-all, missing-lacks-all}}
use Rattle.conf_tools.{proofs.FoundLemmas.missing-shown-all, specs.Reads.{tree_found, value_in}}
use Rattle.conf_tools.proofs.reads.value_text.Goals as goal

pub returns-in-Ok-clause-ok : goal.returns-in-Ok-clause-ok
returns-in-Ok-clause-ok c =
    found-shown-all c.args.missing (value_in (tree_found c.args.found) (chars c.args.place.name.now)
    (chars c.args.place.pointer.now)) (tree_of c.in-Ok.value.now) c.in-Ok.ensures.ok
    c.args.form string_bytes c.shown.result c.shown.ensures.ok

pub returns-in-Ok-clause-refused : goal.returns-in-Ok-clause-refused
returns-in-Ok-clause-refused c =
    found-lacks-all c.args.missing (value_in (tree_found c.args.found) (chars c.args.place.name.now)
    (chars c.args.place.pointer.now)) (tree_of c.in-Ok.value.now) c.in-Ok.ensures.ok
    c.args.form c.shown.result c.shown.ensures.refused

pub returns-in-Err-clause-ok : goal.returns-in-Err-clause-ok
returns-in-Err-clause-ok c =
    missing-shown-all c.args.missing (value_in (tree_found c.args.found) (chars c.args.place.name.now)
    (chars c.args.place.pointer.now)) c.in-Err.fault
    c.args.form c.in-Err.ensures.refused string_bytes c.missing_text.result c.missing_text.ensures.ok

pub returns-in-Err-clause-refused : goal.returns-in-Err-clause-refused
returns-in-Err-clause-refused c =
    missing-lacks-all c.args.missing (value_in (tree_found c.args.found) (chars c.args.place.name.now)
    (chars c.args.place.pointer.now)) c.in-Err.fault
    c.args.form c.in-Err.ensures.refused c.missing_text.result c.missing_text.ensures.refused
