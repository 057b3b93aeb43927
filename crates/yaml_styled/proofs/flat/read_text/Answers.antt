use Rattle.std.proofs.Common.{refl}
use Rattle.yaml_styled.proofs.{Prelude.{chars, text}, SoundLemmas.text_sound}
use Rattle.yaml_styled.proofs.flat.read_text.Goals as goal

pub returns : goal.returns
returns g c = record {
  tree = text (chars c.args.text.now);
  is = (c.in_ok-made.ensures, refl);
  took = c.in_ok-take_line.ensures c.args.indent;
  sound = text_sound c.args.text.now c.utf8.text;
}
