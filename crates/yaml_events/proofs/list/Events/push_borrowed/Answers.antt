use Rattle.std.{proofs.Common.{◌≡◌, ◌∷◌, ◌++◌, [], true, is_ok, refl, ap, ◌∙◌}, specs.declared.borrow.CowStr.TheVariants.Borrowed}
use Rattle.yaml_events.specs.{declared.{event.Event.TheVariants.Scalar, parts.BorrowedScalar.BorrowedScalar}, Parts.borrowed_event}
use Rattle.yaml_events.{specs.Parts.events_in, proofs.PartLemmas.events-push_borrowed}
use Rattle.yaml_events.proofs.list.Events.push_borrowed.Goals as goal

pub returns-clause-ok : goal.returns-clause-ok
returns-clause-ok c =
    let parts = c.self.inside in
    let grown : is_ok c.push-2.result ≡ true = c.if-is_err.ensures.negation in
    let scalar : BorrowedScalar = record { start = c.in-Some.start; end = c.in-Some.end; value = c.args.value } in
    let same : borrowed_event c.args.style scalar ≡ Scalar c.args.style c.args.span (Borrowed c.args.value) =
    rw (c.in-Some.ensures.0, c.in-Some.ensures.1) refl in
    rw (c.in_ok-push.ensures.items, c.push-2.ensures.items, grown, ← c.self.view_is)
    (events-push_borrowed parts.empty parts.kinds.items parts.borrowed.items parts.omitted.items parts.others.items
    c.args.style scalar c.self.invariant.0
    ∙ ap (λ e. events_in parts.empty parts.kinds.items parts.borrowed.items parts.omitted.items parts.others.items ++ e ∷ [])
    same)
