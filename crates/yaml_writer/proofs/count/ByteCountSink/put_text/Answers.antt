use Rattle.std.proofs.Common.{arith}
use Rattle.yaml_writer.proofs.ByteLemmas.{byte_len-chars}
use Rattle.yaml_writer.proofs.count.ByteCountSink.put_text.Goals as goal

pub returns : goal.returns
returns c = omega (arith, byte_len-chars c.args.text.now c.utf8.text)
