use Rattle.std.proofs.Common.{arith, refl}
use Rattle.yaml_docs.proofs.CutLines.{takes_seam, takes_later, unclosed_all}
use Rattle.yaml_docs.proofs.cutter.first_closing.Goals as goal

pub returns-in-Some-clause-takes : goal.returns-in-Some-clause-takes
returns-in-Some-clause-takes c =
    let found = c.in-Some.ensures.found in
    takes_seam c.args.held.now c.args.bytes.now c.in-Some.taken found.0 c.requires found.1 found.2

pub returns-in-Some-find-clause-takes : goal.returns-in-Some-find-clause-takes
returns-in-Some-find-clause-takes c =
    let found = c.in-Some-find.ensures in
    takes_later c.args.held.now c.args.bytes.now c.in-Some-find.line c.requires c.in_default.ensures.none found.1
    (λ i less occurs. found.0.before i (omega arith) less occurs)

pub returns-in-None-clause-takes : goal.returns-in-None-clause-takes
returns-in-None-clause-takes c = (
  refl,
  unclosed_all c.args.held.now c.args.bytes.now c.requires c.in_default.ensures.none
      (λ k occurs. c.in-None.ensures k (omega arith) (omega (arith, occurs.fits)) occurs),
)
