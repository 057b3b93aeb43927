use Rattle.std.proofs.Common.{◌≡◌, IfSome, sym, ◌∙◌, ap, subst}
use Rattle.conf_session.proofs.Prelude.{edit_of, IfSome_then, IfOk-weaker}
use Rattle.conf_session.specs.{PartLines.part_cut, Said.{part_seen, plain, single_part}, CommandLines.EndsChange}
use Rattle.conf_session.proofs.command_lines.edit_in_lines.Goals as goal

pub returns-in-Some-Plain : goal.returns-in-Some-Plain
returns-in-Some-Plain c =
    let texts = c.in-Some.texts in
    let rest = c.in-Some.rest.now in
    let edit = c.in-Some-Plain.edit in
    let made : part_seen c.in-Some-Plain.field-0 ≡ part_cut texts =
    subst (λ made. IfSome made (λ part. part_seen part ≡ part_cut texts)) c.in-Some-Plain.is c.in_ok-edit.ensures in
    let same : plain (edit_of edit) ≡ part_cut texts = ap part_seen (sym c.in-Some-Plain.field-0-is) ∙ made in
    IfOk-weaker c.edit_before.result _ _
    (λ found is. IfSome_then found is (λ command asks. (
      asks.0,
      c.in-Some.ensures asks.0 (subst (λ part. EndsChange rest (single_part part) asks.0) same asks.1),
      asks.2,
    ))) c.edit_before.ensures
