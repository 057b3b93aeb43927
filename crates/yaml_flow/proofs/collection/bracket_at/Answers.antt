use Rattle.std.proofs.Common.{true, false, sym, ◌∙◌}
use Rattle.yaml_flow.proofs.Signs.{bracket_there}
use Rattle.yaml_flow.proofs.collection.bracket_at.Goals as goal

pub returns-then-stands_at-clause-found : goal.returns-then-stands_at-clause-found
returns-then-stands_at-clause-found c = bracket_there c.args.text.now c.args.at true c.utf8.text c.requires
    (sym c.stands_at.ensures ∙ c.if-stands_at.true)

pub returns-then-stands_at-2-clause-found : goal.returns-then-stands_at-2-clause-found
returns-then-stands_at-2-clause-found c = bracket_there c.args.text.now c.args.at false c.utf8.text c.requires
    (sym c.stands_at-2.ensures ∙ c.if-stands_at-2.true)
