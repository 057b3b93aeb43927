use Rattle.std.proofs.Common.{◌≡◌, ◌<◌, length, refl, arith, Some}
use Rattle.test_worlds.proofs.Setting.{place-changes}
use Rattle.test_worlds.proofs.places.Places.take_back.Goals as goal

pub returns-then-place-len : goal.returns-then-place-len
returns-then-place-len g c place held bound =
    let same : place ≡ c.in-Some.place = cc (held, c.in-Some.ensures.value) in
    let within : c.in-Some.place < length c.args.self.now.places.items = omega arith in
    rw same
    (place-changes g.D.Disk.model c.args.self.now.places.items c.in-Some.place c.index_mut.result.now
    (record { path = c.index_mut.result.now.path; disk = Some c.args.disk }) (Some (g.D.Disk.model.folder c.args.disk))
    within c.index_mut.ensures.value refl refl)
