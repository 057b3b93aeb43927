use Rattle.std.proofs.Common.{rules, ◌≤◌, ◌∙◌, length, arith}
use Rattle.{conf_locks.proofs.Going.{reach-same, reach-then}, test_locks.{specs.Tables.locks_of, proofs.LetGo.{reaches-file, below-next}}}
use Rattle.test_locks.proofs.LetGo.{none-past}
use Rattle.test_locks.proofs.table.LockTable.let_files_go.Goals as goal

pub loop-file-init : goal.loop-file-init
loop-file-init c = (reach-same (locks_of c.args.self.now), λ k lt. absurd (omega (arith, lt)), search rules)

pub loop-file-preserved : goal.loop-file-preserved
loop-file-preserved c =
    let old = locks_of c.loop-file.self in
    let new = locks_of c.let_file_go.new.self in (
      reach-then (locks_of c.args.self.now) old new c.loop-file.invariant.0
          (reaches-file c.args.run c.loop-file.file old new c.let_file_go.ensures.goes),
      below-next c.args.run c.loop-file.file old new c.let_file_go.ensures.goes c.loop-file.invariant.1,
      c.let_file_go.ensures.count ∙ c.loop-file.invariant.2,
    )

pub returns-clause-none : goal.returns-clause-none
returns-clause-none c =
    let files = c.loop-file.self.files.items in
    let past : length files ≤ c.loop-file.file = search rules in
    none-past c.args.run c.loop-file.file files c.loop-file.invariant.1 past
