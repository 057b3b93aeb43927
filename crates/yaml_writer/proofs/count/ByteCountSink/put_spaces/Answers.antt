use Rattle.std.proofs.Common.{arith}
use Rattle.yaml_writer.proofs.ByteLemmas.{byte_len-spaces}
use Rattle.yaml_writer.proofs.count.ByteCountSink.put_spaces.Goals as goal

pub returns : goal.returns
returns c = omega (arith, byte_len-spaces c.args.count)
