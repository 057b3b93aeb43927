use Rattle.std.proofs.Common.{sym, ◌∙◌}
use Rattle.conf_protocol.proofs.disk.SystemDiskDisk.several_waited.Goals as goal

pub returns : goal.returns
returns g c h = c.several_waited.ensures ∙ sym (c.args.self.now.exact h)
