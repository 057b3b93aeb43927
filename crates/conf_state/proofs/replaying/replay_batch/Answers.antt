use Rattle.std.proofs.Common.{◌≡◌, inr, [], map, ap, sym, ◌∙◌}
use Rattle.conf_state.proofs.{Prelude.{on_ok_weaker, IfErr-weaker, err_from_is_err_and}, PlanningLemmas.or_so}
use Rattle.conf_state.{proofs.replaying.replay_batch.Goals.In_ok-draft_batch, specs.{Commands.{edit_of, batch}, Drafts.drafted}}
use Rattle.conf_state.specs.{declared.room.Room.TheVariants.Enough, Steps.{and_then, performed, next_state, step}}
use Rattle.conf_state.proofs.replaying.replay_batch.Goals as goal

-- the state is what the draft makes of the one that is left
whole : (c : In_ok-draft_batch)
    → step c.args.state.now (batch (map edit_of c.args.edits.items)) Enough
    ≡ next_state c.take_configs-held.new.self Enough (drafted c.take_configs-held.new.self.configs c.draft_batch.new.draft)
whole c =
    let s = c.args.state.now in
    let left = c.take_configs-held.new.self in
    let edits = map edit_of c.args.edits.items in
    let all = ap (λ es. performed es (batch edits)) (sym c.take_configs-held.ensures.same) ∙ c.in_ok-draft_batch.ensures.ok in
    ap (λ r. and_then r (next_state s Enough)) all
    ∙ ap (λ n. next_state (record { configs = []; count = n }) Enough (drafted left.configs c.draft_batch.new.draft))
    (sym c.take_configs-held.ensures.count)

pub returns-clause-ok : goal.returns-clause-ok
returns-clause-ok c =
    on_ok_weaker c.fill.result (λ is. whole (goal.at.returns-clause-ok c).In_ok-draft_batch ∙ is) c.fill.ensures.ok

pub returns-clause-refused : goal.returns-clause-refused
returns-clause-refused c =
    IfErr-weaker c.fill.result _ _ (λ fault is. inr (whole (goal.at.returns-clause-refused c).In_ok-draft_batch ∙ is))
    c.fill.ensures.refused

pub returns-in_err-draft_batch-clause-refused : goal.returns-in_err-draft_batch-clause-refused
returns-in_err-draft_batch-clause-refused c =
    let s = c.args.state.now in
    let edits = map edit_of c.args.edits.items in
    let p = err_from_is_err_and c.from_residual.result c.from_residual.ensures.1 in
    rw (p.1, p.2)
    (or_so (λ is. ap (λ r. and_then r (next_state s Enough))
    (ap (λ es. performed es (batch edits)) (sym c.take_configs-held.ensures.same) ∙ is)) c.in_err-draft_batch.ensures.refused)
