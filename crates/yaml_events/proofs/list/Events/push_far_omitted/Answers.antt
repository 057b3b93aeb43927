use Rattle.std.proofs.Common.{◌∷◌, ◌++◌, [], ap, ◌∙◌}
use Rattle.yaml_events.proofs.{PartLemmas.appends_omitted, list.Events.push_far_omitted.Goals.{in-Ok, in-Err}}
use Rattle.yaml_events.proofs.list.Events.push_far_omitted.Goals as goal

pub returns-clause-ok : goal.returns-clause-ok
returns-clause-ok c = elim c.match-push.branch [
  | in-Ok w ↦ rw (w.result-is)
      (appends_omitted c.push.inside.empty c.args.at c.args.self.now _ c.push.invariant.1
      (w.in-Ok.ensures.ok ∙ ap (λ e. c.args.self.now ++ e ∷ []) c.omitted_scalar.ensures))
  | in-Err w ↦ rw (w.result-is) tt
]
