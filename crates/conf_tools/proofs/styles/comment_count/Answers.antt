-- As many as were found.
use Rattle.std.proofs.Common.{arith}
use Rattle.{yaml_comments.specs.Found.places_of, conf_tools.proofs.StyleLemmas.places_length}
use Rattle.conf_tools.proofs.styles.comment_count.Goals as goal

pub comments_of-requires : goal.comments_of-requires
comments_of-requires c = c.in-Ok.ensures.in_order

pub returns : goal.returns
returns c = record {
  events = _;
  reads = c.in-Ok.ensures.reads.reads;
  places = places_of c.in_ok-comments.comments.items;
  are = c.in_ok-comments.ensures;
  is = omega (arith, c.len.ensures, c.in_ok-comments.comments.ok, places_length c.in_ok-comments.comments.items);
}
