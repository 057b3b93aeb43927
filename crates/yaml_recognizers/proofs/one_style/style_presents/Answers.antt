use Rattle.yaml_recognizers.proofs.OneStyle.StyleRead.{style_presented, framed_presented}
use Rattle.yaml_recognizers.proofs.one_style.style_presents.Goals as goal

pub returns-clause-alone : goal.returns-clause-alone
returns-clause-alone c = style_presented

pub returns-clause-framed : goal.returns-clause-framed
returns-clause-framed c = framed_presented
