use Rattle.std.proofs.Common.{◌≡◌, ◌∙◌, sym, ap, subst, length, None}
use Rattle.{conf_disk.specs.{Folder.bytes_under, declared.disk.Name.{Name, TheVariants.{Store, Next}}}, conf_system.specs.Machine.stages}
use Rattle.{conf_system.specs.Folders.folder_of, test_worlds.{specs.Entries.IsBlank, proofs.Blank.{blank, new-safe, new-reads}}}
use Rattle.test_worlds.proofs.new_disk.SystemDiskNewDisk.of_new_folder.Goals as goal

pub open-requires : goal.open-requires
open-requires g c honest = new-safe _ (c.in_ok-of_new_folder.ensures honest)

pub returns : goal.returns
returns g c honest =
    let model = g.S.System.model in
    let system = c.put_away-system.result.0 in
    let one : length (stages (model.machine system)) ≡ 1 = sym (c.in_ok-stage_count.ensures honest) ∙ c.if-branch-ne1.false in
    let none : (name : Name) → bytes_under (folder_of (model.machine system)) name ≡ None =
    λ (name : Name). ap (λ (s : g.row.S.Denot). bytes_under (folder_of (model.machine s)) name) c.put_away-system.ensures.system
    ∙ c.in-Ok.ensures.reads honest name ∙ new-reads _ name (c.in_ok-of_new_folder.ensures honest) in
    subst (λ (s : g.row.S.Denot). IsBlank (folder_of (model.machine s))) (sym c.take_up.ensures.system)
    (blank (model.machine system) one (none Store) (none Next))
