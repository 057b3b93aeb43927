use Rattle.std.proofs.Common.{Ok, inr, subst}
use Rattle.conf_state.{proofs.Prelude.{IfErr-weaker, chars}, specs.{Endings.EndsInPlace, States.cut_config}}
use Rattle.conf_state.proofs.in_place.InPlaceEditor.remove.Goals as goal

pub returns : goal.returns
returns c =
    let old = c.args.target.now in
    subst (λ bs. EndsInPlace c.args.self.now.room old (Ok (cut_config old.configs (chars bs))) c.take_out.result c.take_out.new.self)
    c.deref.ensures
    (record {
      ok = c.take_out.ensures.ok;
      refused = IfErr-weaker c.take_out.result _ _ (λ fault is. inr is) c.take_out.ensures.refused;
      unchanged = c.take_out.ensures.unchanged;
    })
