use Rattle.std.proofs.{Common.{rules, ◌≤◌, length, None, ap}, lemmas.List.get_or_past}
use Rattle.test_locks.{specs.Tables.{locks_of, no_file}, proofs.Entries.entry-kept}
use Rattle.test_locks.specs.declared.table.LockFile as file
use Rattle.test_locks.proofs.table.LockTable.clear_holder.Goals as goal

pub returns-else-file-len-clause-cleared : goal.returns-else-file-len-clause-cleared
returns-else-file-len-clause-cleared c =
    let before = locks_of c.args.self.now in
    let files = c.args.self.now.files.items in
    let past : length files ≤ c.args.file = search rules in
    λ i. record before {
      holder = entry-kept c.args.file None before.holder
          (ap (λ (f : file.LockFile). f.holder) (get_or_past files c.args.file no_file past)) i;
    }
