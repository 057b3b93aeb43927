use Rattle.std.proofs.Common.{Bool, subst}
use Rattle.conf_protocol.{specs.Moments.Goes, proofs.Going.Goes-then}
use Rattle.conf_disk.specs.Folder as disk
use Rattle.conf_protocol.proofs.run.Run.rename_next.Goals as goal

pub returns-in-Some : goal.returns-in-Some
returns-in-Some g c h =
    let model = g.S.System.model in
    let run = c.args.self.now in
    Goes-then model disk.RenameNext run.several _ run.system c.have_noted.new.self.system _ _ (c.have_noted.ensures.quiet h)
    (subst (λ (was : Bool). Goes model disk.RenameNext was c.have_noted.new.self.system c.replace_store.result
    c.replace_store.new.self.several c.replace_store.new.self.system) c.have_noted.ensures.same.3 (c.replace_store.ensures h))

pub returns-in-None : goal.returns-in-None
returns-in-None g c h =
    let model = g.S.System.model in
    let run = c.args.self.now in
    Goes-then model disk.RenameNext run.several _ run.system c.have_noted.new.self.system _ _ (c.have_noted.ensures.quiet h)
    (subst (λ (was : Bool). Goes model disk.RenameNext was c.have_noted.new.self.system c.take_free_name.result
    c.take_free_name.new.self.several c.take_free_name.new.self.system) c.have_noted.ensures.same.3 (c.take_free_name.ensures h))
