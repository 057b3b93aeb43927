use Rattle.std.proofs.Common.{arith, ◌≡◌, ◌-◌, ◌≤◌, false, ap, ◌∙◌, subst}
use Rattle.conf_store.{proofs.{Prelude.{bytes_under, Store}, FileLemmas.held-length, GrownLemmas.file-grown}, specs.Grown.HasGrown}
use Rattle.conf_store.specs.View.{StoreView}
use Rattle.conf_store.proofs.store.Store.grown.Goals as goal

pub returns-clause-grown : goal.returns-clause-grown
returns-clause-grown g c h on =
    let d = g.D.Disk in
    let inside = c.self.inside in
    let off : inside.reopen ≡ false = ap (λ (s : StoreView g.row.D.Denot). s.reopen) c.self.view_is ∙ on in
    subst (λ (s : StoreView g.row.D.Denot). HasGrown (bytes_under (d.model.folder s.disk) Store) (inside.size - inside.base)) c.self.view_is
    (file-grown (bytes_under (d.model.folder inside.disk) Store) inside.size inside.base (c.self.invariant.6 h off).0
    (held-length (d.model.folder inside.disk) inside.state inside.size inside.waits (c.self.invariant.3 h off).0))

pub returns-clause-within : goal.returns-clause-within
returns-clause-within g c =
    let inside = c.self.inside in
    subst (λ (s : StoreView g.row.D.Denot). inside.size - inside.base ≤ s.size) c.self.view_is (omega arith)
