use Rattle.std.proofs.Common.{ap, sym}
use Rattle.conf_state.proofs.Prelude.{on_ok_weaker, IfErr-weaker}
use Rattle.conf_state.proofs.state.State.check_room.Goals as goal

pub returns-clause-ok : goal.returns-clause-ok
returns-clause-ok c =
    let same = sym (ap (λ s. s.count) c.self.view_is) in
    on_ok_weaker c.check_room.result (λ ok configs is. ok c.args.self.now configs same is) c.check_room.ensures.ok

pub returns-clause-refused : goal.returns-clause-refused
returns-clause-refused c =
    let same = sym (ap (λ s. s.count) c.self.view_is) in
    IfErr-weaker c.check_room.result _ _ (λ fault no configs is. no c.args.self.now configs same is) c.check_room.ensures.refused
