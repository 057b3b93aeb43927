use Rattle.std.proofs.Common.{codes, refl, subst}
use Rattle.yaml_styled.{proofs.{Prelude.{mapping, no_member, chars-literal}, SoundLemmas.no_members_sound}, specs.Taking.Took}
use Rattle.yaml_styled.proofs.flat.read_empty_mapping.Goals as goal

pub returns : goal.returns
returns g c =
    let a = c.args.lines.now in
    let b = c.take.new.self in
    record {
      tree = mapping no_member;
      is = (c.empty_mapping.ensures, refl);
      took = subst (λ cs. Took a.rest.now a.counted cs 0 b.rest.now b.counted) (chars-literal (codes "{}\n") refl) c.in_ok-take.ensures;
      sound = no_members_sound;
    }
