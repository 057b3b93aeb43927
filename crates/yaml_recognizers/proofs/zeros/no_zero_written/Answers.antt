use Rattle.yaml_recognizers.proofs.Zeroed.Written.{no_zero_written}
use Rattle.yaml_recognizers.proofs.zeros.no_zero_written.Goals as goal

pub returns : goal.returns
returns c = no_zero_written c.style_presents.ensures.framed
