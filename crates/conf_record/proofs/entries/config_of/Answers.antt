use Rattle.std.proofs.Common.{ap, arith}
use Rattle.conf_record.proofs.{Prelude.tree_of, SizeLemmas.element_least}
use Rattle.conf_record.proofs.entries.config_of.Goals as goal

pub with_size-requires-clause-kept : goal.with_size-requires-clause-kept
with_size-requires-clause-kept c =
    let t = tree_of c.args.tree in
    let sound = c.requires.sound in
    let bytes = ap (λ s. s.bytes) c.requires.size in
    record {
      texts = sound.texts;
      keys = sound.keys;
      deep = omega (arith, sound.shallow);
      long = omega (arith, bytes, element_least t);
    }
