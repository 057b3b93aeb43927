use Rattle.std.proofs.Common.{ap, arith}
use Rattle.yaml_config.proofs.{Prelude.{chars, byte_len, style_text}, TallyLemmas.text_bound}
use Rattle.yaml_writer.proofs.ByteLemmas.{byte_len-chars}
use Rattle.yaml_config.proofs.tally.long_tally.Goals as goal

pub exact_tally-requires-clause-long : goal.exact_tally-requires-clause-long
exact_tally-requires-clause-long c =
    let own = byte_len-chars c.args.text.now c.utf8.text in
    let whole = ap (λ t. byte_len (style_text t)) c.requires in
    omega (arith, own, whole, text_bound (chars c.args.text.now))
