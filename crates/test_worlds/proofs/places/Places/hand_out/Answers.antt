use Rattle.std.proofs.Common.{◌∙◌, ap, refl, None}
use Rattle.test_worlds.{specs.Entries.Entry, proofs.Setting.{entry-at, place-changes, place-same, same-entry}}
use Rattle.test_worlds.proofs.places.Places.hand_out.Goals as goal

pub returns-in-Ok-clause-handed_out : goal.returns-in-Ok-clause-handed_out
returns-in-Ok-clause-handed_out g c honest =
    let model = g.D.Disk.model in
    let items = c.args.self.now.places.items in
    let place = c.in-Some.place in
    let was = c.index_mut.result.now in
    let at = c.index_mut.ensures.value in
    record {
      place = place;
      first = c.in-Some.ensures.found;
      was = ap (λ (e : Entry). e.folder) (entry-at model items place was c.in-Some.ensures.within at) ∙ c.in-Ok.ensures.was honest;
      change = place-changes model items place was c.open.new.self None c.in-Some.ensures.within at c.open.ensures.path
          c.in-Ok.ensures.taken;
      held = refl;
      wanted = c.in-Ok.ensures.wanted honest;
    }

pub returns-in-Err-clause-refused : goal.returns-in-Err-clause-refused
returns-in-Err-clause-refused g c honest =
    place-same g.D.Disk.model c.args.self.now.places.items c.in-Some.place c.index_mut.result.now c.open.new.self
    c.in-Some.ensures.within c.index_mut.ensures.value
    (same-entry g.D.Disk.model c.index_mut.result.now c.open.new.self c.open.ensures.path (c.in-Err.ensures.refused honest))
