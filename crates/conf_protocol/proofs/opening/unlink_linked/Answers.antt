use Rattle.std.proofs.Common.{◌≡◌, Bool, true, sym, ◌∙◌}
use Rattle.{conf_system.specs.Machine.{UnlinkNext, are_linked}, conf_protocol.proofs.{Shown.blamed-ok, Opened.{Opens-call, as-unlinked}}}
use Rattle.conf_protocol.proofs.Opened.{as-unlink_part}
use Rattle.conf_protocol.proofs.opening.unlink_linked.Goals as goal

pub returns-in_err-blame-2-clause-opens : goal.returns-in_err-blame-2-clause-opens
returns-in_err-blame-2-clause-opens g c h =
    let model = g.S.System.model in
    let m = model.machine c.args.system.now in
    let linked : are_linked m.now.store m.now.next ≡ true =
    sym (blamed-ok c.are_linked.result c.in_ok-blame.field-0 _ (λ (b : Bool). b ≡ are_linked m.now.store m.now.next) _
    c.in_ok-blame.ensures (c.are_linked.ensures h)) ∙ c.if-branch.true in
    Opens-call model UnlinkNext c.args.system.now c.unlink_next.new.self c.unlink_next.result (c.unlink_next.ensures.change h)
    (c.unlink_next.ensures.time h) (as-unlinked m linked (c.requires h)) (as-unlink_part m linked (c.requires h))

pub returns-in_ok-blame-2-clause-opens : goal.returns-in_ok-blame-2-clause-opens
returns-in_ok-blame-2-clause-opens g c h =
    let model = g.S.System.model in
    let m = model.machine c.args.system.now in
    let linked : are_linked m.now.store m.now.next ≡ true =
    sym (blamed-ok c.are_linked.result c.in_ok-blame.field-0 _ (λ (b : Bool). b ≡ are_linked m.now.store m.now.next) _
    c.in_ok-blame.ensures (c.are_linked.ensures h)) ∙ c.if-branch.true in
    Opens-call model UnlinkNext c.args.system.now c.unlink_next.new.self c.unlink_next.result (c.unlink_next.ensures.change h)
    (c.unlink_next.ensures.time h) (as-unlinked m linked (c.requires h)) (as-unlink_part m linked (c.requires h))
