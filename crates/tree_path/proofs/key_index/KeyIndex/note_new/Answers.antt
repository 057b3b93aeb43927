use Rattle.std.proofs.Common.{sym, ◌∙◌}
use Rattle.tree_path.proofs.TableLemmas.{on-ok}
use Rattle.tree_path.proofs.key_index.KeyIndex.note_new.Goals as goal

pub returns-then-not-is_worn-clause-table : goal.returns-then-not-is_worn-clause-table
returns-then-not-is_worn-clause-table c = (
  c.in-Some.table,
  sym c.take.ensures.value ∙ c.in-Some.is,
  on-ok c.add.result c.is_ok.result c.is_ok.ensures.value c.if-is_ok.true c.add.ensures,
)
