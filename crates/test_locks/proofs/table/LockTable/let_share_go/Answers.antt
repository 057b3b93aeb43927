use Rattle.std.proofs.{Common.{rules, ◌≤◌, length, false}, lemmas.List.get_or_past}
use Rattle.test_locks.{specs.Tables.locks_of, proofs.Entries.entry-kept}
use Rattle.test_locks.proofs.table.LockTable.let_share_go.Goals as goal

pub returns-else-run-len : goal.returns-else-run-len
returns-else-run-len c =
    let before = locks_of c.args.self.now in
    let sharers = c.args.self.now.sharers.items in
    let past : length sharers ≤ c.args.run = search rules in
    λ i. record before { shared = entry-kept c.args.run false before.shared (get_or_past sharers c.args.run false past) i }
