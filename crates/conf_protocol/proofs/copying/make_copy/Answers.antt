use Rattle.std.{specs.Prelude.{is_some, IsSome}, proofs.Common.{ap, sym, subst}}
use Rattle.conf_system.specs.{declared.system.FileName.TheVariants.{Store, Copy}, Machine.{Machine, CreateCopy, Sync, under}}
use Rattle.conf_protocol.proofs.Copied.{Copies-joined, Copies-goes, creates, syncs, store-bytes}
use Rattle.conf_protocol.proofs.copying.make_copy.Goals as goal

pub sync-requires : goal.sync-requires
sync-requires g c h =
    let model = g.S.System.model in
    let copies = Copies-joined model c.args.system.now c.create_copy.new.self c.fill_copy.new.system
    (Copies-joined model c.args.system.now c.remove_copy.new.system c.create_copy.new.self (c.remove_copy.ensures.copies h)
    (Copies-goes model CreateCopy c.remove_copy.new.system c.create_copy.result c.create_copy.new.self creates c.create_copy.ensures h))
    (c.fill_copy.ensures.copies h) in
    let there = store-bytes (model.machine c.fill_copy.new.system)
    (subst (λ (m : Machine). IsSome (under m Store)) (sym copies.is) (c.requires h)) in
    ap is_some (c.in_ok-fill_copy.ensures.filled h there.0 there.1)

pub returns-clause-copies : goal.returns-clause-copies
returns-clause-copies g c h =
    let model = g.S.System.model in
    Copies-joined model c.args.system.now c.create_copy.new.self c.sync.new.self
    (Copies-joined model c.args.system.now c.remove_copy.new.system c.create_copy.new.self (c.remove_copy.ensures.copies h)
    (Copies-goes model CreateCopy c.remove_copy.new.system c.create_copy.result c.create_copy.new.self creates c.create_copy.ensures h))
    (Copies-joined model c.create_copy.new.self c.fill_copy.new.system c.sync.new.self (c.fill_copy.ensures.copies h)
    (Copies-goes model (Sync Copy) c.fill_copy.new.system c.sync.result c.sync.new.self syncs c.sync.ensures h))
