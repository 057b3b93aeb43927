use Rattle.std.{specs.Prelude.IsSome, proofs.Common.{◌≡◌, ◌+◌, ◌-◌, ◌≤◌, ℕ, List, length, length-drop, arith, rules, take, drop, subst}}
use Rattle.std.proofs.{Common.sym, lemmas.List.take_all}
use Rattle.{conf_system.specs.Machine.with_pending, file_calls.specs.{Machine.{Machine, with_version}, Models.Wrote}}
use Rattle.conf_files.proofs.{Filled.some-changed, Moving.wrote-more}
use Rattle.conf_files.proofs.writing.write_all.Goals as goal

-- the slice from a place to the end
to_end : (n : ℕ) (bytes : List ℕ) → take (length bytes - n) (drop n bytes) ≡ drop n bytes
to_end n bytes =
    let le : length (drop n bytes) ≤ length bytes - n = omega (arith, length-drop n bytes) in
    take_all (length bytes - n) (drop n bytes) le

pub returns-in-Err : goal.returns-in-Err
returns-in-Err g c h =
    let model = g.C.FileCalls.model in
    let bytes = c.args.bytes.now in
    let done = c.loop-done.done in
    let part = subst (λ (l : List ℕ). (count : ℕ) × Wrote model l count c.loop-done.calls c.write.new.self)
    (to_end done bytes) (c.in-Err.ensures h) in
    let within : done + part.0 ≤ length bytes = omega (arith, part.1.within, length-drop done bytes, c.loop-done.invariant.0) in
    (done + part.0, wrote-more model bytes done part.0 _ _ _ within (c.loop-done.invariant.1 h) part.1)

pub returns-then-count-eq0 : goal.returns-then-count-eq0
returns-then-count-eq0 g c h =
    let model = g.C.FileCalls.model in
    let bytes = c.args.bytes.now in
    let done = c.loop-done.done in
    let count = c.in-Ok.count in
    let part = subst (λ (l : List ℕ). Wrote model l count c.loop-done.calls c.write.new.self)
    (to_end done bytes) (c.in-Ok.ensures h) in
    let within : done + count ≤ length bytes = omega (arith, part.within, length-drop done bytes, c.loop-done.invariant.0) in
    (done + count, wrote-more model bytes done count _ _ _ within (c.loop-done.invariant.1 h) part)

pub loop-done-preserved : goal.loop-done-preserved
loop-done-preserved g c =
    let model = g.C.FileCalls.model in
    let bytes = c.args.bytes.now in
    let done = c.loop-done.done in
    let count = c.in-Ok.count in
    let within : done + count ≤ length bytes = search rules in
    let wrote = λ (h : model.honest). wrote-more model bytes done count c.args.calls.now c.loop-done.calls c.write.new.self
    within (c.loop-done.invariant.1 h)
    (subst (λ (l : List ℕ). Wrote model l count c.loop-done.calls c.write.new.self) (to_end done bytes) (c.in-Ok.ensures h)) in (
      within,
      wrote,
      λ h. subst (λ (m : Machine). IsSome m.new) (sym (wrote h).change)
          (some-changed (model.machine c.args.calls.now).new (with_version (with_pending (take (done + count) bytes))) (c.requires h)),
    )
