use Rattle.std.proofs.{Common.arith, lemmas.Iterator.Consumers.count_from_yields_List}
use Rattle.yaml_writer.proofs.Prelude.{YieldsList-from_chars}
use Rattle.comments_kept.proofs.long_key.CharCountSink.put_text.Goals as goal

pub returns : goal.returns
returns c =
    let counted = count_from_yields_List _ _ c.count.ensures.ran (YieldsList-from_chars c.args.text.now c.utf8.text c.chars.ensures.rest) in
    omega (arith, counted, c.saturating_add-self.ensures)
