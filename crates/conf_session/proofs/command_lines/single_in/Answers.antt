use Rattle.std.proofs.Common.{◌≡◌, IfSome, subst}
use Rattle.conf_session.proofs.{Prelude.{IfSome_then, IfOk-weaker}, CommandLineLemmas.part_lines}
use Rattle.conf_session.specs.{PartLines.part_cut, Said.{part_seen, single_part, said_of}, CommandLines.EndsChange}
use Rattle.conf_session.proofs.command_lines.single_in.Goals as goal

pub returns : goal.returns
returns c =
    let texts = c.in-Some.texts in
    let rest = c.in-Some.rest.now in
    let same : part_seen c.in-Some-2.part ≡ part_cut texts =
    subst (λ found. IfSome found (λ part. part_seen part ≡ part_cut texts)) c.in-Some-2.is c.in_ok-part.ensures in
    IfOk-weaker c.change_before.result _ _
    (λ found is. IfSome_then found is (λ said ends.
    part_lines c.args.lines.now rest (part_cut texts) (said_of said) c.in-Some.ensures
    (subst (λ part. EndsChange rest (single_part part) (said_of said)) same ends)))
    c.change_before.ensures
