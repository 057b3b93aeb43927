use Rattle.std.proofs.Common.{◌≡◌, true, is_ok}
use Rattle.yaml_events.proofs.PartLemmas.{appends_omitted, events-push_omitted}
use Rattle.yaml_events.proofs.list.Events.push_omitted.Goals as goal

pub returns-clause-ok : goal.returns-clause-ok
returns-clause-ok c =
    let parts = c.self.inside in
    let grown : is_ok c.push-2.result ≡ true = c.if-is_err.ensures.negation in
    appends_omitted parts.empty c.args.at c.args.self.now _ c.self.invariant.1
    (rw (c.in_ok-push.ensures.items, c.push-2.ensures.items, grown, ← c.self.view_is)
    (events-push_omitted parts.empty parts.kinds.items parts.borrowed.items parts.omitted.items parts.others.items c.args.at
    c.self.invariant.0))
