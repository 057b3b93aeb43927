use Rattle.std.proofs.{Common.{◌≡◌, ◌<◌, rules, ℕ, List, length, get_or, set, take, sym, ◌∙◌, ap, arith}, lemmas.List.take_more}
use Rattle.{conf_disk.specs.Image.with_zeros, test_disks.proofs.Holes.with_zeros-push}
use Rattle.test_disks.proofs.folder.worn_bytes.Goals as goal

pub loop-place-preserved : goal.loop-place-preserved
loop-place-preserved c =
    let places = c.args.places.now in
    let i = c.loop-place.place-index in
    let within : i < length places = omega (arith, c.loop-place-test.true) in
    let zeroed : c.zero_at.new.bytes.items ≡ set c.loop-place.worn.items (get_or places i 0) 0 =
    search rules in
    zeroed ∙ ap (λ (l : List ℕ). set l (get_or places i 0) 0) c.loop-place.invariant
    ∙ sym (with_zeros-push (take i places) (get_or places i 0) c.args.bytes.now)
    ∙ ap (λ (l : List ℕ). with_zeros l c.args.bytes.now) (sym (take_more places i 0 within))
