-- What was formatted is the tree in the one style.
use Rattle.conf_tools.proofs.styles.bare_text.Goals as goal

pub returns-in-Ok-clause-ok : goal.returns-in-Ok-clause-ok
returns-in-Ok-clause-ok c = record {
  tree = c.in-Ok.ensures.given.tree;
  reads = c.in-Ok.ensures.given.reads;
  is = c.in-Ok.ensures.given.style;
}
