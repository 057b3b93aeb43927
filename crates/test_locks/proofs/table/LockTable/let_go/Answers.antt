use Rattle.test_locks.{specs.Tables.locks_of, proofs.LetGo.{reaches-all, holds-none}}
use Rattle.test_locks.proofs.table.LockTable.let_go.Goals as goal

pub returns-clause-reaches : goal.returns-clause-reaches
returns-clause-reaches c =
    reaches-all c.args.run (locks_of c.args.self.now) (locks_of c.let_files_go.new.self) (locks_of c.let_folder_go.new.self)
    (locks_of c.let_share_go.new.self) c.let_files_go.ensures.reaches c.let_folder_go.ensures c.let_share_go.ensures

pub returns-clause-none : goal.returns-clause-none
returns-clause-none c =
    holds-none c.args.run (locks_of c.let_files_go.new.self) (locks_of c.let_folder_go.new.self)
    (locks_of c.let_share_go.new.self) c.let_files_go.ensures.none c.let_folder_go.ensures c.let_share_go.ensures
