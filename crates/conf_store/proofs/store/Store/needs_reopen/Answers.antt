use Rattle.std.{proofs.Common.{◌≡◌, false, subst, ap, ◌∙◌}, specs.Prelude.{List, IsSome}}
use Rattle.conf_store.proofs.{Prelude.{bytes_under, Store, Command, Contents}, FileLemmas.{held-length, staging-length}}
use Rattle.conf_store.{proofs.HeldLemmas.{held-flushed, held-images}, specs.{Stagings.staged_of, View.StoreView, Staged.staged_length}}
use Rattle.conf_store.specs.{Files.HasLength, Durable.{HasFlushed, AllImagesAfterPrefix, staged_text}}
use Rattle.conf_store.proofs.store.Store.needs_reopen.Goals as goal

pub returns-clause-waits : goal.returns-clause-waits
returns-clause-waits g c h on =
    let d = g.D.Disk in
    let inside = c.self.inside in
    let off : inside.reopen ≡ false = ap (λ (s : StoreView g.row.D.Denot). s.reopen) c.self.view_is ∙ on in
    let held = (c.self.invariant.3 h off).0 in
    subst (λ (s : StoreView g.row.D.Denot). (flushed : Contents)
    × ((since : List Command) × HasFlushed (d.model.folder s.disk) flushed since s.state)) c.self.view_is
    (held.flushed, (held.since, held-flushed (d.model.folder inside.disk) inside.state inside.size inside.waits held))

pub returns-clause-now : goal.returns-clause-now
returns-clause-now g c h on flushed since has =
    let d = g.D.Disk in
    let inside = c.self.inside in
    let off : inside.reopen ≡ false = ap (λ (s : StoreView g.row.D.Denot). s.reopen) c.self.view_is ∙ on in
    let held = (c.self.invariant.3 h off).0 in
    subst (λ (s : StoreView g.row.D.Denot). HasFlushed (d.model.folder s.disk) flushed since s.state
    → AllImagesAfterPrefix (d.model.folder s.disk) flushed since) c.self.view_is
    (held-images c.held_store_is_left.ensures.noted c.holes_mean.ensures
    (d.model.folder inside.disk) inside.state inside.size inside.waits held flushed since) has

pub returns-clause-size : goal.returns-clause-size
returns-clause-size g c h on =
    let d = g.D.Disk in
    let inside = c.self.inside in
    let off : inside.reopen ≡ false = ap (λ (s : StoreView g.row.D.Denot). s.reopen) c.self.view_is ∙ on in
    subst (λ (s : StoreView g.row.D.Denot). HasLength (bytes_under (d.model.folder s.disk) Store) s.size) c.self.view_is
    (held-length (d.model.folder inside.disk) inside.state inside.size inside.waits (c.self.invariant.3 h off).0)

pub returns-clause-staged_size : goal.returns-clause-staged_size
returns-clause-staged_size g c h on some =
    let d = g.D.Disk in
    let inside = c.self.inside in
    let off : inside.reopen ≡ false = ap (λ (s : StoreView g.row.D.Denot). s.reopen) c.self.view_is ∙ on in
    subst (λ (s : StoreView g.row.D.Denot). IsSome s.staged
    → HasLength (staged_text (d.model.folder s.disk) s.staged) (staged_length s.staged)) c.self.view_is
    (staging-length (d.model.folder inside.disk) inside.state (staged_of inside.state inside.staging) (c.self.invariant.3 h off).1) some
