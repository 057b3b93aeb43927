use Rattle.std.proofs.Common.{◌≡◌, ℕ, ◌+◌, ◌-◌, take, ap, sym, subst, ◌∙◌, arith}
use Rattle.conf_store.proofs.Prelude.{replicate-append-replicate, take-replicate, get_or-replicate, spaces}
use Rattle.conf_store.specs.{Room.AppendsWithin, RoomLaws.AppendsWithin-none, RoomLaws.AppendsWithin-joined}
use Rattle.conf_store.proofs.part_text.append_spaces.Goals as goal

pub loop-left-init : goal.loop-left-init
loop-left-init c =
    let none : c.args.count - c.args.count ≡ 0 = omega arith in
    record {
      within = omega arith;
      so_far = subst (λ n. AppendsWithin c.args.text.now (spaces n) c.args.text.now) (sym none) (AppendsWithin-none c.args.text.now);
    }

pub loop-left-preserved : goal.loop-left-preserved
loop-left-preserved c =
    let left = c.loop-left.left in
    let count = c.args.count in
    let within = c.loop-left.invariant.within in
    let more : (count - left) + 64 ≡ count - (left - 64) = omega (arith, within) in
    record {
      within = omega (arith, within);
      so_far = subst (λ bs. AppendsWithin c.args.text.now bs c.append.new.text)
          (replicate-append-replicate (count - left) 64 32 ∙ ap spaces more)
          (AppendsWithin-joined c.args.text.now c.loop-left.text c.append.new.text (spaces (count - left))
          (spaces 64) c.loop-left.invariant.so_far c.append.ensures);
    }

pub range-requires-clause-end_boundary : goal.range-requires-clause-end_boundary
range-requires-clause-end_boundary c = (
  omega arith,
  λ within wide.
      let space = get_or-replicate {A = ℕ} 64 c.loop-left.left 32 0 within in absurd (omega (arith, space, wide)),
)

pub returns : goal.returns
returns c =
    let left = c.loop-left.left in
    let count = c.args.count in
    let within = c.loop-left.invariant.within in
    let same : left - 0 ≡ left = omega arith in
    let prefix : c.range.result.now ≡ spaces left =
    c.range.ensures.value ∙ ap (λ n. take n (spaces 64)) same ∙ take-replicate left 64 32 (omega arith) in
    let all : (count - left) + left ≡ count = omega (arith, within) in
    subst (λ bs. AppendsWithin c.args.text.now bs c.append-2.new.text) (replicate-append-replicate (count - left) left 32 ∙ ap spaces all)
    (AppendsWithin-joined c.args.text.now c.loop-left.text c.append-2.new.text (spaces (count - left))
    (spaces left) c.loop-left.invariant.so_far
    (subst (λ bs. AppendsWithin c.loop-left.text bs c.append-2.new.text) prefix c.append-2.ensures))
