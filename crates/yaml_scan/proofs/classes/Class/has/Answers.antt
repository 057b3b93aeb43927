use Rattle.std.proofs.Common.{ap, ◌∙◌, get_or}
use Rattle.yaml_scan.{specs.declared.classes.TheConstants.CLASSES, proofs.ClassTable.{has, class_is}}
use Rattle.yaml_scan.proofs.classes.Class.has.Goals as goal

pub returns : goal.returns
returns c = ap (λ m. has m (get_or CLASSES c.args.byte 0)) c.bit.ensures ∙ class_is c.args.self c.args.byte c.ranges.byte.fits
