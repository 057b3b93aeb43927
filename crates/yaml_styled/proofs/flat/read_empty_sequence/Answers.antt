use Rattle.std.proofs.Common.{codes, refl, subst}
use Rattle.yaml_styled.{proofs.{Prelude.{sequence, no_element, chars-literal}, SoundLemmas.no_elements_sound}, specs.Taking.Took}
use Rattle.yaml_styled.proofs.flat.read_empty_sequence.Goals as goal

pub returns : goal.returns
returns g c =
    let a = c.args.lines.now in
    let b = c.take.new.self in
    record {
      tree = sequence no_element;
      is = (c.empty_sequence.ensures, refl);
      took = subst (λ cs. Took a.rest.now a.counted cs 0 b.rest.now b.counted) (chars-literal (codes "[]\n") refl) c.in_ok-take.ensures;
      sound = no_elements_sound;
    }
