use Rattle.yaml_config.proofs.measure.plan_set.Goals as goal

pub of_element-requires-clause-deep : goal.of_element-requires-clause-deep
of_element-requires-clause-deep c = c.requires.kept.deep

pub of_element-requires-clause-long : goal.of_element-requires-clause-long
of_element-requires-clause-long c = c.requires.kept.long
