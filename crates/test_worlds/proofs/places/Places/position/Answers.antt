use Rattle.std.proofs.Common.{◌≡◌, ◌≢◌, ◌∙◌, ℕ, ◌<◌, length, sym, ap, arith, below_more}
use Rattle.test_worlds.{specs.{Entries.{Entry, entry_at}, Places.{entries_of, entry_of}}, proofs.Setting.entry-at}
use Rattle.test_worlds.proofs.places.Places.position.Goals as goal

pub loop-place-preserved : goal.loop-place-preserved
loop-place-preserved g c =
    let items = c.args.self.now.places.items in
    let within : c.loop-place.place < length items = omega arith in
    let at : entry_at (entries_of g.D.Disk.model c.args.self.now) c.loop-place.place
    ≡ entry_of g.D.Disk.model c.index.result.now
    = entry-at g.D.Disk.model items c.loop-place.place c.index.result.now within c.index.ensures in
    below_more (λ (other : ℕ). (entry_at (entries_of g.D.Disk.model c.args.self.now) other).path ≢ c.args.path.now)
    c.loop-place.place c.loop-place.invariant
    (λ is. c.is_same.ensures.others c.if-is_same.false
    (c.as_str.ensures.value ∙ sym (ap (λ (e : Entry). e.path) at) ∙ is))
