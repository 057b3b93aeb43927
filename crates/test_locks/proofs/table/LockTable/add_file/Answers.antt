use Rattle.std.proofs.Common.{◌∙◌, ap, List, Some, get_or}
use Rattle.{conf_locks.specs.Locks.Locks, test_locks.{specs.Tables.{locks_of, no_file}, proofs.Entries.parts-more}}
use Rattle.test_locks.specs.declared.table.LockFile as file
use Rattle.test_locks.proofs.table.LockTable.add_file.Goals as goal

pub returns-in-Ok : goal.returns-in-Ok
returns-in-Ok c =
    let files = c.args.self.now.files.items in
    let before = locks_of c.args.self.now in
    ap (λ (fs : List file.LockFile). let l : Locks = record before {
      path = Some c.args.file;
      marked = λ place. (get_or fs place no_file).is_marked;
      holder = λ place. (get_or fs place no_file).holder;
    } in l) c.in-Ok.ensures.items
    ∙ (λ i. record before {
      path = Some c.args.file;
      marked = parts-more (λ (f : file.LockFile). f.is_marked) no_file files i;
      holder = parts-more (λ (f : file.LockFile). f.holder) no_file files i;
    })
