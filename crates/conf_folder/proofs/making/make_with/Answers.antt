use Rattle.std.proofs.Common.{◌≡◌, Ok}
use Rattle.conf_folder.{specs.declared.calls.FolderMaking.TheVariants.{Made, Exists}, proofs.NewFolders.{makes-none, makes-there}}
use Rattle.conf_folder.proofs.making.make_with.Goals as goal

pub returns-in-Err-sync_parent : goal.returns-in-Err-sync_parent
returns-in-Err-sync_parent g c =
    let made : c.make.result ≡ Ok Made = cc (c.in-Ok-Made.is, c.in-Ok-Made.field-0-is) in
    makes-none g.C.FolderCalls.model c.args.calls.now c.make.new.self c.sync_parent.new.self c.remove.new.self c.make.result
    c.sync_parent.result c.remove.result c.cause.result c.make.ensures made c.sync_parent.ensures c.remove.ensures

pub returns-in-Ok-sync_parent : goal.returns-in-Ok-sync_parent
returns-in-Ok-sync_parent g c =
    let there : c.make.result ≡ Ok Exists = cc (c.in-Ok-Exists.is, c.in-Ok-Exists.field-0-is) in
    makes-there g.C.FolderCalls.model c.args.calls.now c.make.new.self c.sync_parent-in-Ok-Exists.new.self c.make.result
    c.sync_parent-in-Ok-Exists.result c.make.ensures there c.sync_parent-in-Ok-Exists.ensures
