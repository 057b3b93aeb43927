use Rattle.std.proofs.Common.{◌∙◌}
use Rattle.yaml_flow_scalars.proofs.DoublePlaces.{break_there}
use Rattle.yaml_flow_scalars.proofs.double_quoted.breaks_at.Goals as goal

pub returns : goal.returns
returns c = c.is_some.ensures ∙ break_there c.args.text.now c.args.at c.break_end.result c.break_end.ensures.found c.break_end.ensures.none
