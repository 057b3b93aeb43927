use Rattle.std.proofs.Common.{arith}
use Rattle.yaml_config.proofs.TextTreeLemmas.{tree_of-IsTextTree}
use Rattle.yaml_config.proofs.config.Config.with_distinct_keys.Goals as goal

pub with_size-requires-clause-kept : goal.with_size-requires-clause-kept
with_size-requires-clause-kept c = record {
  texts = tree_of-IsTextTree c.args.tree;
  keys = c.requires.keys;
  deep = omega (arith, c.requires.shallow, c.requires.depth);
  long = omega (arith, c.in-Some.ensures.1, c.requires.style);
}

pub returns-in-Some-clause-ok : goal.returns-in-Some-clause-ok
returns-in-Some-clause-ok c = (
  c.with_size.ensures,
  record {
    texts = tree_of-IsTextTree c.args.tree;
    keys = c.requires.keys;
    deep = c.requires.shallow;
    long = c.in-Some.ensures.1;
  },
)
