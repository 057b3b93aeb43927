-- What was formatted keeps the comments.
use Rattle.conf_tools.proofs.styles.kept_text.Goals as goal

pub returns-in-Ok-clause-ok : goal.returns-in-Ok-clause-ok
returns-in-Ok-clause-ok c = record {
  tree = c.in-Ok.ensures.tree;
  comments = c.in-Ok.ensures.comments;
  style = c.in-Ok.ensures.style;
  bare = c.in-Ok.ensures.bare;
  places = c.in-Ok.ensures.places;
  again = c.in-Ok.ensures.again;
}
