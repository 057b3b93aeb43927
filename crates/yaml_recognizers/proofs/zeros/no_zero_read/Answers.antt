use Rattle.yaml_recognizers.proofs.Zeroed.Written.{no_zero_presented, no_zero_byte}
use Rattle.yaml_recognizers.proofs.zeros.no_zero_read.Goals as goal

pub returns-clause-text : goal.returns-clause-text
returns-clause-text c = no_zero_presented

pub returns-clause-bytes : goal.returns-clause-bytes
returns-clause-bytes c = no_zero_byte
