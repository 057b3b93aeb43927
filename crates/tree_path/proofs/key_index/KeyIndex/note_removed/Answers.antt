use Rattle.std.proofs.Common.{sym, ◌∙◌}
use Rattle.tree_path.proofs.TableLemmas.{on-ok}
use Rattle.tree_path.proofs.key_index.KeyIndex.note_removed.Goals as goal

pub returns-then-is_ok-clause-table : goal.returns-then-is_ok-clause-table
returns-then-is_ok-clause-table c = (
  c.in-Some.table,
  sym c.take.ensures.value ∙ c.in-Some.is,
  on-ok c.remove.result c.is_ok.result c.is_ok.ensures.value c.if-is_ok.true c.remove.ensures,
)
