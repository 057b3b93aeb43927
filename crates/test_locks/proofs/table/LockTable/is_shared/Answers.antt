use Rattle.std.proofs.Common.{rules, ◌≡◌, ◌<◌, ◌≤◌, ℕ, List, Bool, false, get_or, length, below_more, inl, inr, arith}
use Rattle.std.proofs.lemmas.{Bool.cases_lt, List.get_or_past}
use Rattle.test_locks.proofs.table.LockTable.is_shared.Goals as goal

-- none below a place, and none from there on
none-at : (xs : List Bool) (place : ℕ) → ((k : ℕ) → k < place → get_or xs k false ≡ false) → length xs ≤ place
    → (k : ℕ) → get_or xs k false ≡ false
none-at xs place below past k = elim (cases_lt k place) [
  | inl lt ↦ below k lt
  | inr ge ↦ get_or_past xs k false (omega (arith, ge, past))
]

pub loop-run-preserved : goal.loop-run-preserved
loop-run-preserved c =
    let sharers = c.args.self.now.sharers.items in
    let none : get_or sharers c.loop-run.run false ≡ false = search rules in
    below_more (λ (k : ℕ). get_or sharers k false ≡ false) c.loop-run.run c.loop-run.invariant none

pub returns : goal.returns
returns c is =
    let sharers = c.args.self.now.sharers.items in
    let past : length sharers ≤ c.loop-run.run = search rules in
    none-at sharers c.loop-run.run c.loop-run.invariant past
