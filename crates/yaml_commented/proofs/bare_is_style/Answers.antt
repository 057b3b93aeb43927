use Rattle.yaml_commented.proofs.Bare.{bare_same}
use Rattle.yaml_commented.proofs.bare_is_style.Goals as goal

pub returns : goal.returns
returns c = bare_same
