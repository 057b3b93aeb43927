use Rattle.std.{proofs.Common.{refl, sym, ap, subst}, specs.Prelude.{Err, is_ok}}
use Rattle.conf_session.{specs.{ReadChanges.{EndsByMemory, IsRequest}, Replies.Handles}, proofs.RequestLemmas.handles-unread}
use Rattle.conf_session.proofs.reply.change_read.Goals as goal

pub returns-in-Ok : goal.returns-in-Ok
returns-in-Ok g c =
    let d = g.D.Disk in
    subst (λ r. Handles d.model c.args.store.now c.change.new.store (IsRequest r) c.change.result) (sym c.in-Ok.is) c.change.ensures

pub returns-in-Err : goal.returns-in-Err
returns-in-Err g c =
    let d = g.D.Disk in
    let f = c.in-Err.fault in
    let store = c.args.store.now in
    subst (λ r. Handles d.model store store (IsRequest r) c.refused.result) (sym c.in-Err.is)
    (subst (Handles d.model store store (IsRequest (Err f))) (sym c.refused.ensures)
    (handles-unread d.model store c.requires.means (IsRequest (Err f)) (λ image h is. g.met.D.Disk.only_now store.disk image h is) f
    (λ reason is. (refl, ap is_ok is)) (subst EndsByMemory c.in-Err.is c.requires.memory)))
