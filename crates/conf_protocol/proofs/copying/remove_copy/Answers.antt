use Rattle.{conf_system.specs.Machine.UnlinkCopy, conf_protocol.proofs.Copied.{Copies-none, Copies-goes, unlinks}}
use Rattle.conf_protocol.proofs.copying.remove_copy.Goals as goal

pub returns-in_err-blame-clause-copies : goal.returns-in_err-blame-clause-copies
returns-in_err-blame-clause-copies g c h = Copies-none g.S.System.model c.args.system.now

pub returns-in_err-blame-2-clause-copies : goal.returns-in_err-blame-2-clause-copies
returns-in_err-blame-2-clause-copies g c h =
    Copies-goes g.S.System.model UnlinkCopy c.args.system.now c.unlink_copy.result c.unlink_copy.new.self unlinks
    c.unlink_copy.ensures h
