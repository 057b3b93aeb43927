use Rattle.std.proofs.Common.{ℕ, zero, suc, sym, subst}
use Rattle.{file_calls.specs.Machine.{Machine, GiveOwner, failing}, conf_files.specs.Modes.NewIsPrivate}
use Rattle.conf_files.proofs.Standing.{KeepsStanding-owner, KeepsStanding-group, KeepsStanding-joined, private-owner}
use Rattle.conf_files.proofs.rights.give_owner_and_group.Goals as goal

pub returns-in-Ok-clause-keeps : goal.returns-in-Ok-clause-keeps
returns-in-Ok-clause-keeps g c h =
    let replaced = c.args.replaced in
    KeepsStanding-owner g.C.FileCalls.model replaced replaced.owner replaced.group c.args.calls.now c.give_owner.result
    c.give_owner.new.self h (c.requires.narrow h) c.give_owner.ensures

private-failed : (owner group k : ℕ) (m : Machine) → NewIsPrivate m.new → NewIsPrivate (failing k (GiveOwner owner group) m).new
private-failed owner group zero m private = private
private-failed owner group (suc k) m private = private-owner m.new owner group private

pub returns-in-Err-clause-keeps : goal.returns-in-Err-clause-keeps
returns-in-Err-clause-keeps g c h =
    let model = g.C.FileCalls.model in
    let replaced = c.args.replaced in
    let failed = c.in-Err.ensures.change h in
    KeepsStanding-joined model replaced c.args.calls.now c.give_owner.new.self c.give_group.new.self
    (KeepsStanding-owner model replaced replaced.owner replaced.group c.args.calls.now c.give_owner.result
    c.give_owner.new.self h (c.requires.narrow h) c.give_owner.ensures)
    (KeepsStanding-group model replaced replaced.group c.give_owner.new.self c.give_group.result c.give_group.new.self h
    (subst (λ (m : Machine). NewIsPrivate m.new) (sym failed.1)
    (private-failed replaced.owner replaced.group failed.0 (model.machine c.args.calls.now) (c.requires.narrow h)))
    c.give_group.ensures)
