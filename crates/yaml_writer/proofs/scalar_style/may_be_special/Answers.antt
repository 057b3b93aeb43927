use Rattle.std.proofs.Common.{length}
use Rattle.yaml_writer.proofs.SpecialWords.{same_length, none_longer}
use Rattle.yaml_writer.proofs.scalar_style.may_be_special.Goals as goal

pub returns-then-text-gt-LONGEST_SPECIAL : goal.returns-then-text-gt-LONGEST_SPECIAL
returns-then-text-gt-LONGEST_SPECIAL c = λ no.
    none_longer _ (length c.args.text.now) (same_length c.requires) c.if-text-gt-LONGEST_SPECIAL.true
