use Rattle.std.{specs.Prelude.IsSome, proofs.Common.{◌≡◌, ◌+◌, ◌-◌, ◌≤◌, ℕ, List, length, length-drop, arith, rules, take, drop, subst}}
use Rattle.std.proofs.{Common.sym, lemmas.List.take_all}
use Rattle.{conf_system.specs.{Machine.{Machine, WriteRest, under}, Models.Wrote}, conf_protocol.proofs.Writes.{wrote-more, some-written}}
use Rattle.conf_protocol.proofs.writing.write_all.Goals as goal

-- the slice from a place to the end
to_end : (n : ℕ) (bytes : List ℕ) → take (length bytes - n) (drop n bytes) ≡ drop n bytes
to_end n bytes =
    let le : length (drop n bytes) ≤ length bytes - n = omega (arith, length-drop n bytes) in
    take_all (length bytes - n) (drop n bytes) le

pub returns-in-Err-write_rest : goal.returns-in-Err-write_rest
returns-in-Err-write_rest g c h =
    let model = g.S.System.model in
    let bytes = c.args.bytes.now in
    let done = c.loop-done.done in
    let part = subst (λ (l : List ℕ). (count : ℕ) × Wrote model (WriteRest c.args.name) l count c.loop-done.system c.write_rest.new.self)
    (to_end done bytes) (c.in-Err-write_rest.ensures h) in
    let within : done + part.0 ≤ length bytes = omega (arith, part.1.within, length-drop done bytes, c.loop-done.invariant.0) in
    (done + part.0, wrote-more model c.args.name bytes done part.0 _ _ _ within (c.loop-done.invariant.1 h) part.1)

pub returns-then-count-eq0 : goal.returns-then-count-eq0
returns-then-count-eq0 g c h =
    let model = g.S.System.model in
    let bytes = c.args.bytes.now in
    let done = c.loop-done.done in
    let count = c.in-Ok-write_rest.count in
    let part = subst (λ (l : List ℕ). Wrote model (WriteRest c.args.name) l count c.loop-done.system c.write_rest.new.self)
    (to_end done bytes) (c.in-Ok-write_rest.ensures h) in
    let within : done + count ≤ length bytes = omega (arith, part.within, length-drop done bytes, c.loop-done.invariant.0) in
    (done + count, wrote-more model c.args.name bytes done count _ _ _ within (c.loop-done.invariant.1 h) part)

pub loop-done-preserved : goal.loop-done-preserved
loop-done-preserved g c =
    let model = g.S.System.model in
    let bytes = c.args.bytes.now in
    let done = c.loop-done.done in
    let count = c.in-Ok-write_rest.count in
    let within : done + count ≤ length bytes = search rules in
    let wrote = λ (h : model.honest). wrote-more model c.args.name bytes done count c.args.system.now c.loop-done.system
    c.write_rest.new.self
    within (c.loop-done.invariant.1 h)
    (subst (λ (l : List ℕ). Wrote model (WriteRest c.args.name) l count c.loop-done.system c.write_rest.new.self)
    (to_end done bytes) (c.in-Ok-write_rest.ensures h)) in (
      within,
      wrote,
      λ h. subst (λ (m : Machine). IsSome (under m c.args.name)) (sym (wrote h).change)
          (some-written c.args.name (take (done + count) bytes) (model.machine c.args.system.now) (c.requires h)),
    )
