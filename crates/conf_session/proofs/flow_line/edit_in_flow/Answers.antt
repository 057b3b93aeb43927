use Rattle.std.proofs.Common.{◌≡◌, IfSome, sym, ◌∙◌, ap, subst}
use Rattle.conf_session.{proofs.Prelude.edit_of, specs.{PartLines.part_cut, Requests.changing, Said.{Says, part_seen, plain, single_part}}}
use Rattle.conf_session.proofs.flow_line.edit_in_flow.Goals as goal

pub returns-in-Some-Plain : goal.returns-in-Some-Plain
returns-in-Some-Plain c =
    let texts = c.in-Some.texts in
    let edit = c.in-Some-Plain.edit in
    let made : part_seen c.in-Some-Plain.field-0 ≡ part_cut texts =
    subst (λ made. IfSome made (λ part. part_seen part ≡ part_cut texts)) c.in-Some-Plain.is c.in_ok-edit.ensures in
    let same : plain (edit_of edit) ≡ part_cut texts = ap part_seen (sym c.in-Some-Plain.field-0-is) ∙ made in (
      single_part (plain (edit_of edit)),
      subst (λ part. Says c.args.piece.now (single_part part)) (sym same) c.in-Some.ensures,
      ap changing c.from.ensures,
    )
