use Rattle.tree_path.proofs.{Prelude.texts, IndexLemmas.table-told}
use Rattle.tree_path.proofs.key_index.table_at.Goals as goal

pub returns-in-Some : goal.returns-in-Some
returns-in-Some c =
    table-told c.table_at.result c.args.index c.in-Some.index (texts c.args.tokens.now) c.in-Some.is c.table_at.ensures
