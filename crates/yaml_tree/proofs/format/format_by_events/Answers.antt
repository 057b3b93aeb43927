use Rattle.std.proofs.Common.{Err, sym, subst, refl}
use Rattle.yaml_tree.proofs.{Prelude.{err_from_is_err_and, limits_of}, WriterLemmas.{formatted, too_large, not_too_long}}
use Rattle.yaml_tree.specs.Formatting.{IsFormatted}
use Rattle.yaml_tree.proofs.format.format_by_events.Goals as goal

pub returns-in_err-write-clause-too_long : goal.returns-in_err-write-clause-too_long
returns-in_err-write-clause-too_long c =
    let p = err_from_is_err_and c.from_residual-in_err-write.result c.from_residual-in_err-write.ensures.1 in
    let refused = c.in_err-write.ensures c.args.bytes.now c.in_ok-document.ensures.read in
    rw (p.1, p.2)
    (not_too_long c.args.bytes.now (limits_of c.args.limits.now) c.in_ok-document.document c.in_err-write.field-0.0
    (Err c.in_err-write.field-0.0)
    c.in_ok-document.ensures.read refused refl)

pub returns-in_err-write-clause-refused : goal.returns-in_err-write-clause-refused
returns-in_err-write-clause-refused c =
    let p = err_from_is_err_and c.from_residual-in_err-write.result c.from_residual-in_err-write.ensures.1 in
    rw (p.1, p.2) (c.in_err-write.ensures c.args.bytes.now c.in_ok-document.ensures.read)

pub returns-in-Some-clause-given : goal.returns-in-Some-clause-given
returns-in-Some-clause-given c =
    let limits = limits_of c.args.limits.now in
    let written = c.in_ok-write.ensures c.args.bytes.now c.in_ok-document.ensures.read in
    subst (IsFormatted c.args.bytes.now limits) (sym c.in-Some.ensures.some.1)
    (formatted c.args.bytes.now limits c.in_ok-text.text c.write.new.sink written
    c.in_ok-text.ensures.0 c.in_ok-text.ensures.1 c.in-Some.ensures.some.0)

pub returns-in-None-clause-refused : goal.returns-in-None-clause-refused
returns-in-None-clause-refused c =
    let limits = limits_of c.args.limits.now in
    let written = c.in_ok-write.ensures c.args.bytes.now c.in_ok-document.ensures.read in
    too_large c.args.bytes.now limits c.in_ok-text.text c.write.new.sink written c.in_ok-text.ensures.0 c.in-None.ensures.none
