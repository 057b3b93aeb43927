use Rattle.std.proofs.Common.{◌∙◌}
use Rattle.yaml_styled.proofs.Prelude.{same_key}
use Rattle.yaml_styled.proofs.open_keys.have_same_bytes.Goals as goal

pub returns : goal.returns
returns c = c.eq.ensures ∙ same_key c.args.key.now c.args.other.now c.utf8.key c.utf8.other
