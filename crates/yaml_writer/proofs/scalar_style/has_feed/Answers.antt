use Rattle.std.proofs.Common.{◌∙◌}
use Rattle.yaml_writer.proofs.LiteralLemmas.{feed_found}
use Rattle.yaml_writer.proofs.scalar_style.has_feed.Goals as goal

pub returns : goal.returns
returns c =
    c.is_some.ensures ∙ feed_found c.args.text.now c.split_line.result c.utf8.text c.split_line.ensures
