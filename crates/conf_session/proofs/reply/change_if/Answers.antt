use Rattle.std.proofs.Common.{sym, subst}
use Rattle.conf_session.proofs.{Prelude.{conditions_of, StoreView}, ConditionalLemmas.{handles-met, handles-unmet-read}}
use Rattle.conf_session.specs.{ReadChanges.{IfMet, IsRequest}, Replies.{Handles, MeansPrefixes}}
use Rattle.conf_session.proofs.reply.change_if.Goals as goal

pub change_read-requires-clause-means : goal.change_read-requires-clause-means
change_read-requires-clause-means g c =
    let d = g.D.Disk in
    subst (λ (s : StoreView g.row.D.Denot). MeansPrefixes d.model s) (sym c.index_for.ensures) c.requires.means

pub returns-in-Ok : goal.returns-in-Ok
returns-in-Ok g c =
    let d = g.D.Disk in
    let conditions = conditions_of c.args.conditions.now in
    let Asked = IfMet conditions (IsRequest c.args.read) in
    subst (λ (s : StoreView g.row.D.Denot). Handles d.model s c.change_read.new.store Asked c.change_read.result) c.index_for.ensures
    (handles-met d.model c.index_for.new.store c.change_read.new.store conditions (IsRequest c.args.read) c.in-Ok.ensures.ok
    c.change_read.result c.change_read.ensures)

pub returns-in-Err : goal.returns-in-Err
returns-in-Err g c =
    let d = g.D.Disk in
    let store = c.index_for.new.store in
    let conditions = conditions_of c.args.conditions.now in
    let means = subst (λ (s : StoreView g.row.D.Denot). MeansPrefixes d.model s) (sym c.index_for.ensures) c.requires.means in
    subst (λ (s : StoreView g.row.D.Denot). Handles d.model s store (IfMet conditions (IsRequest c.args.read)) c.unmet.result)
    c.index_for.ensures
    (subst (Handles d.model store store (IfMet conditions (IsRequest c.args.read))) (sym c.unmet.ensures)
    (handles-unmet-read d.model store means (λ image h is. g.met.D.Disk.only_now store.disk image h is) conditions
    c.args.read c.requires.memory c.in-Err.fault c.in-Err.ensures.refused))
