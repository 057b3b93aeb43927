use Rattle.std.{specs.Prelude.Ok, proofs.Common.{◌≡◌, false, refl, sym, ◌∙◌, ap, subst}}
use Rattle.conf_system.specs.{declared.system.{Linking.Linking, Note.Note}, Machine.{Machine, LinkNext, UnlinkNext, after, after_linking}}
use Rattle.{conf_system.specs.{Machine.failing, Folders.{folder_of, IsTold}}, conf_protocol.specs.Moments.Goes}
use Rattle.conf_protocol.{specs.declared.refusal.Refusal.Refusal, proofs.{Known.safe-off, Moving.Quiet-call, Shown.{blamed-ok, blamed-err}}}
use Rattle.conf_protocol.proofs.{Calls.{link-step, link-part, next-some, linked-folder, unlink-note, unlink-told}, Going.Goes-done}
use Rattle.conf_protocol.proofs.Going.{Goes-failed, Goes-before, Goes-then, Goes-late}
use Rattle.conf_disk.specs.Folder as disk
use Rattle.conf_protocol.proofs.run.Run.take_free_name.Goals as goal

pub returns-in_err-blame : goal.returns-in_err-blame
returns-in_err-blame g c h =
    let model = g.S.System.model in
    let run = c.args.self.now in
    let m = model.machine run.system in
    let some = next-some m ((run.known h).apart c.requires.may) (c.requires.there h) in
    Goes-failed model LinkNext disk.RenameNext run.several run.system c.from_residual.result c.link_next.new.self
    c.from_residual.ensures.0
    (blamed-err c.link_next.result _ _ _ _ c.in_err-blame.ensures (c.link_next.ensures.change h)) (c.link_next.ensures.time h)
    (link-part run.several m (some, c.requires.free h) (c.requires.off h))

pub returns-in_err-blame-in-Linked : goal.returns-in_err-blame-in-Linked
returns-in_err-blame-in-Linked g c h =
    let model = g.S.System.model in
    let run = c.args.self.now in
    let m = model.machine run.system in
    let mid = model.machine c.link_next.new.self in
    let new = model.machine c.unlink_next.new.self in
    let some = next-some m ((run.known h).apart c.requires.may) (c.requires.there h) in
    let done : mid ≡ after LinkNext m =
    blamed-ok c.link_next.result c.in_ok-blame.field-0 _ (λ (l : Linking). mid ≡ after_linking l m) _
    c.in_ok-blame.ensures (c.link_next.ensures.change h)
    ∙ ap (λ (l : Linking). after_linking l m) c.in-Linked.is in
    let part = blamed-err c.unlink_next.result _ _ _ _ c.in_err-blame-in-Linked.ensures (c.unlink_next.ensures.change h) in
    let same : folder_of new ≡ folder_of mid = ap folder_of (part.1 ∙ ap (failing part.0 UnlinkNext) done)
    ∙ linked-folder m some part.0 ∙ sym (ap folder_of done) in
    let off = ap (λ (n : Note). n.on_device) (ap (λ (x : Machine). x.note) part.1 ∙ unlink-note mid part.0
    ∙ ap (λ (x : Machine). x.note) done) ∙ c.requires.off h in
    let linked : Goes {E = Refusal} model disk.RenameNext run.several run.system (Ok tt) false c.link_next.new.self =
    Goes-done model LinkNext disk.RenameNext run.several false run.system (Ok tt) c.link_next.new.self refl done
    (c.link_next.ensures.time h)
    (link-step run.several m (some, c.requires.free h) (c.requires.off h)) in
    Goes-before model disk.RenameNext run.several false run.system c.link_next.new.self c.from_residual-in_err-blame-in-Linked.result
    c.unlink_next.new.self
    (Goes-late model disk.RenameNext run.several false run.system (Ok tt) c.from_residual-in_err-blame-in-Linked.result
    c.link_next.new.self 2
    refl c.from_residual-in_err-blame-in-Linked.ensures.0 refl linked)
    (Quiet-call model c.link_next.new.self c.unlink_next.new.self (c.unlink_next.ensures.time h) same (safe-off new off)
    (λ told. subst IsTold (sym part.1) (unlink-told mid part.0 told)))

pub returns-in_ok-blame-in-Linked : goal.returns-in_ok-blame-in-Linked
returns-in_ok-blame-in-Linked g c h =
    let model = g.S.System.model in
    let run = c.args.self.now in
    let m = model.machine run.system in
    let mid = model.machine c.link_next.new.self in
    let new = model.machine c.unlink_next.new.self in
    let some = next-some m ((run.known h).apart c.requires.may) (c.requires.there h) in
    let done : mid ≡ after LinkNext m =
    blamed-ok c.link_next.result c.in_ok-blame.field-0 _ (λ (l : Linking). mid ≡ after_linking l m) _
    c.in_ok-blame.ensures (c.link_next.ensures.change h)
    ∙ ap (λ (l : Linking). after_linking l m) c.in-Linked.is in
    let last : new ≡ after UnlinkNext mid = blamed-ok c.unlink_next.result _ _ (λ _. new ≡ after UnlinkNext mid) _
    c.in_ok-blame-in-Linked.ensures (c.unlink_next.ensures.change h) in
    let same : folder_of new ≡ folder_of mid = ap folder_of (last ∙ ap (after UnlinkNext) done)
    ∙ linked-folder m some 1 ∙ sym (ap folder_of done) in
    let off = ap (λ (n : Note). n.on_device) (ap (λ (x : Machine). x.note) last
    ∙ ap (λ (x : Machine). x.note) done) ∙ c.requires.off h in
    Goes-before model disk.RenameNext run.several false run.system c.link_next.new.self (Ok tt) c.unlink_next.new.self
    (Goes-done model LinkNext disk.RenameNext run.several false run.system (Ok tt) c.link_next.new.self refl done
    (c.link_next.ensures.time h)
    (link-step run.several m (some, c.requires.free h) (c.requires.off h)))
    (Quiet-call model c.link_next.new.self c.unlink_next.new.self (c.unlink_next.ensures.time h) same (safe-off new off)
    (λ told. subst IsTold (sym last) (unlink-told mid 1 told)))

pub returns-else-is_some : goal.returns-else-is_some
returns-else-is_some g c h =
    let model = g.S.System.model in
    let run = c.args.self.now in
    let m = model.machine run.system in
    let mid = model.machine c.link_next.new.self in
    let done : mid ≡ m =
    blamed-ok c.link_next.result c.in_ok-blame.field-0 _ (λ (l : Linking). mid ≡ after_linking l m) _
    c.in_ok-blame.ensures (c.link_next.ensures.change h)
    ∙ ap (λ (l : Linking). after_linking l m) c.in-Unsupported.is in
    let off = ap (λ (x : Machine). x.note.on_device) done ∙ c.requires.off h in
    Goes-then model disk.RenameNext run.several _ run.system c.link_next.new.self _ _
    (Quiet-call model run.system c.link_next.new.self (c.link_next.ensures.time h) (ap folder_of done) (safe-off mid off)
    (λ told. subst IsTold (sym done) told))
    (c.replace_store.ensures h)
