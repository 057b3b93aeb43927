use Rattle.std.proofs.Common.{ap, sym, subst, ◌∙◌}
use Rattle.{conf_disk.specs.{Folder.several_waited, Image.IsImage, Moments.Elapses}, conf_system.specs.Folders.folder_of}
use Rattle.conf_protocol.{specs.Moments.LeftSince, proofs.Moving.{Elapses-of, Changes-quiet}}
use Rattle.conf_protocol.proofs.disk.SystemDiskDisk.read.Goals as goal

pub invariant_of-self : goal.invariant_of-self
invariant_of-self g c = record {
  exact = λ h. ap several_waited (c.read.ensures.quiet h).folder ∙ c.args.self.now.exact h ∙ sym c.read.ensures.same;
}

pub returns-in-Err-2-clause-same : goal.returns-in-Err-2-clause-same
returns-in-Err-2-clause-same g c h =
    ap (λ run. folder_of (g.S.System.model.machine run.system)) c.fail.ensures.same ∙ (c.read.ensures.quiet h).folder

pub returns-in-Err-2-clause-time : goal.returns-in-Err-2-clause-time
returns-in-Err-2-clause-time g c h =
    let model = g.S.System.model in
    let old = c.args.self.now.run.system in
    let mid = c.read.new.self.system in
    let same = ap (λ run. run.system) c.fail.ensures.same in
    subst (λ s. Elapses (model.moment old) (model.moment s) (LeftSince model old) (LeftSince model s)
    (IsImage (folder_of (model.machine s)))) (sym same)
    (Elapses-of model old mid (λ t. g.met.S.System.holds_now old t h) (Changes-quiet model old mid (c.read.ensures.quiet h)))
