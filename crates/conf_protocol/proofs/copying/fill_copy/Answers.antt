use Rattle.std.proofs.Common.{◌≡◌, ◌+◌, ◌≤◌, ℕ, [], length, take, drop, Some, false, sym, ◌∙◌, ap, arith, length-drop}
use Rattle.std.proofs.Math.Seq.{take-length}
use Rattle.conf_system.specs.{declared.system.FileName.TheVariants.Store, Machine.{Machine, bytes_under}}
use Rattle.conf_protocol.proofs.Copied.{Copies-stays, Copies-joined, Copies-wrote, copied-more}
use Rattle.conf_protocol.proofs.copying.fill_copy.Goals as goal

pub returns-in_err-total-clause-copies : goal.returns-in_err-total-clause-copies
returns-in_err-total-clause-copies g c h =
    Copies-stays g.S.System.model c.args.system.now c.open.new.self (c.open.ensures.stays h)

pub loop-done-preserved : goal.loop-done-preserved
loop-done-preserved g c h =
    let model = g.S.System.model in
    let done = c.loop-done.done in
    let count = c.in-Ok.count in
    let slice = take count c.read_at.new.buffer in
    let before = c.loop-done.invariant h in
    let wrote = c.in_default-write_all.ensures h in
    let old = model.machine c.loop-done.system in
    let new = model.machine c.write_all.new.system in (
      Copies-joined model c.args.system.now c.loop-done.system c.write_all.new.system before.0
          (Copies-wrote model slice (length slice) c.loop-done.system c.write_all.new.system wrote),
      λ bytes is.
          (let was : bytes_under old Store ≡ bytes_under new Store = sym (ap (λ (m : Machine). bytes_under m Store) wrote.change) in
          let so = before.1 bytes (was ∙ is) in
          let fills = c.in-Ok.ensures h bytes (was ∙ is) in
          let front : take (length slice) slice ≡ take count (drop done bytes) = take-length slice ∙ fills.front in
          let within : done + count ≤ length bytes = omega (arith, fills.within, length-drop done bytes, so.1) in
          let sum : c.saturating_add-done.result ≡ done + count = omega arith in (
            copied-more old new bytes (take (length slice) slice) done count wrote.change front so.0
                ∙ ap (λ (n : ℕ). Some (record { device = []; pending = take n bytes; failed = false })) (sym sum),
            omega (arith, sum, within),
            so.2,
          )),
    )
