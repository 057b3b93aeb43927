use Rattle.std.proofs.Common.{◌≡◌, ◌∷◌, ◌++◌, [], true, is_ok, ap, ◌∙◌}
use Rattle.yaml_events.{specs.Parts.events_in, proofs.PartLemmas.{events-push, fits-push}}
use Rattle.yaml_events.proofs.list.Events.push.Goals as goal

pub invariant_of-self-in-Ok : goal.invariant_of-self-in-Ok
invariant_of-self-in-Ok c =
    let parts = c.self.inside in
    let grown : is_ok c.push.result ≡ true = c.if-is_err.ensures.negation in
    rw (c.push.ensures.items, grown, c.in-Ok.ensures.borrowed, c.in-Ok.ensures.others, c.kind.ensures) (
      fits-push parts.kinds.items parts.borrowed.items parts.omitted.items parts.others.items c.of-stored.result
          c.self.invariant.0,
      c.self.invariant.1,
    )

pub returns-in-Ok-clause-ok : goal.returns-in-Ok-clause-ok
returns-in-Ok-clause-ok c =
    let parts = c.self.inside in
    let grown : is_ok c.push.result ≡ true = c.if-is_err.ensures.negation in
    rw (c.push.ensures.items, grown, c.in-Ok.ensures.borrowed, c.in-Ok.ensures.others, c.kind.ensures, ← c.self.view_is)
    (events-push parts.empty parts.kinds.items parts.borrowed.items parts.omitted.items parts.others.items
    c.of-stored.result c.self.invariant.0
    ∙ ap (λ e. events_in parts.empty parts.kinds.items parts.borrowed.items parts.omitted.items parts.others.items ++ e ∷ [])
    c.of-stored.ensures)
