use Rattle.yaml_recognizers.proofs.OneStyle.StyleRead.{style_read, framed_read}
use Rattle.yaml_recognizers.proofs.one_style.style_reads.Goals as goal

pub returns-clause-alone : goal.returns-clause-alone
returns-clause-alone c = style_read c.unambiguous.ensures

pub returns-clause-framed : goal.returns-clause-framed
returns-clause-framed c = framed_read c.unambiguous.ensures
