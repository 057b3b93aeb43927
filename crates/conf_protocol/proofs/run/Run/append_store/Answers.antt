use Rattle.std.proofs.Common.{Bool, subst}
use Rattle.conf_protocol.{specs.Moments.Goes, proofs.Going.Goes-then}
use Rattle.conf_disk.specs.Folder as disk
use Rattle.conf_disk.specs.declared.disk.Name.TheVariants as disk_name
use Rattle.conf_protocol.proofs.run.Run.append_store.Goals as goal

pub returns : goal.returns
returns g c h =
    let model = g.S.System.model in
    let run = c.args.self.now in
    let step = disk.Append disk_name.Store c.args.bytes.now in
    Goes-then model step run.several _ run.system c.note_append.new.self.system _ _ (c.note_append.ensures.quiet h)
    (subst (λ (was : Bool). Goes model step was c.note_append.new.self.system c.write_store.result
    c.write_store.new.self.several c.write_store.new.self.system) c.note_append.ensures.same.3 (c.write_store.ensures h))
