use Rattle.std.proofs.Common.{◌≡◌, ◌∙◌, ap}
use Rattle.{file_calls.specs.Machine.{Machine, rights_at, Leads.New}, conf_files.proofs.Filled.{IsGiven-same, TakesAfter-set}}
use Rattle.conf_files.proofs.Standing.{KeepsStanding-told, KeepsStanding-mode, KeepsStanding-joined}
use Rattle.conf_files.proofs.rights.give_mode.Goals as goal

pub returns-clause-done : goal.returns-clause-done
returns-clause-done g c h =
    let model = g.C.FileCalls.model in
    let old = model.machine c.args.calls.now in
    let mid = model.machine c.new_rights.new.self in
    let same : mid ≡ old = c.new_rights.ensures.same h in
    TakesAfter-set model c.args.replaced c.in-Ok.made c.kept_mode-mode.result c.new_rights.new.self c.set_mode.result
    c.set_mode.new.self h c.set_mode.ensures (IsGiven-same c.args.replaced old mid same (c.requires.given h))
    (ap (λ (m : Machine). rights_at m New) same ∙ c.in-Ok.ensures.told h) c.kept_mode-mode.ensures.kept

pub returns-clause-keeps : goal.returns-clause-keeps
returns-clause-keeps g c h =
    let model = g.C.FileCalls.model in
    let replaced = c.args.replaced in
    let same = c.new_rights.ensures.same h in
    KeepsStanding-joined model replaced c.args.calls.now c.new_rights.new.self c.set_mode.new.self
    (KeepsStanding-told model replaced c.args.calls.now c.new_rights.new.self same (c.new_rights.ensures.time h))
    (KeepsStanding-mode model replaced c.in-Ok.made c.kept_mode-mode.result c.new_rights.new.self c.set_mode.result
    c.set_mode.new.self h (ap (λ (m : Machine). rights_at m New) same ∙ c.in-Ok.ensures.told h) c.kept_mode-mode.ensures.kept
    c.set_mode.ensures)
