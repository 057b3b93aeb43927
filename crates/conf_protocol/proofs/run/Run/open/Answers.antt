use Rattle.std.proofs.Common.{◌≡◌, refl, ◌∙◌}
use Rattle.conf_protocol.proofs.Opened.{told-known}
use Rattle.conf_protocol.proofs.run.Run.open.Goals as goal

pub invariant_of-result : goal.invariant_of-result
invariant_of-result g c = record {
  known = λ h. c.in-Ok.ensures.sure h c.if-note.true;
  safe = λ h. (c.begin.ensures.opens h).now.safe;
  noted = λ h known is. (let same : c.in-Ok.note ≡ known = cc in (c.in-Ok.ensures.noted h).is ∙ same);
}

pub invariant_of-result-2 : goal.invariant_of-result-2
invariant_of-result-2 g c = record {
  known = λ h. c.in-Ok.ensures.settled h c.if-note.false;
  safe = λ h. (c.begin.ensures.opens h).now.safe;
  noted = λ h known is. (let same : c.in-Ok.note ≡ known = cc in (c.in-Ok.ensures.noted h).is ∙ same);
}

pub returns-then-note-clause-told : goal.returns-then-note-clause-told
returns-then-note-clause-told g c h =
    let known = c.in-Ok.ensures.sure h c.if-note.true in
    told-known c.in-Ok.note.several (g.S.System.model.machine c.begin.new.system) (known.one refl)
    (c.in-Ok.ensures.noted h).noted (known.told refl)

pub returns-clause-told : goal.returns-clause-told
returns-clause-told g c h =
    let known = c.in-Ok.ensures.settled h c.if-note.false in
    told-known c.in-Ok.note.several (g.S.System.model.machine c.begin.new.system) (known.one refl)
    (c.in-Ok.ensures.noted h).noted (known.told refl)
