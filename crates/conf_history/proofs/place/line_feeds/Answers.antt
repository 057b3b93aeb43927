-- The places of line feeds are as many as the line feeds.
use Rattle.std.proofs.Common.{◌∙◌, ap, length}
use Rattle.memchr.{specs.Find.is_byte, proofs.lemmas.CallerLemmas.length-places}
use Rattle.conf_history.proofs.place.line_feeds.Goals as goal

pub returns : goal.returns
returns c = c.count.ensures ∙ ap length c.memchr_iter.ensures.value ∙ length-places (is_byte 10) c.args.bytes.now
