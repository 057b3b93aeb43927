use Rattle.std.proofs.Common.{sym, ap, ◌∙◌}
use Rattle.tree_path.{proofs.{Prelude.texts, IndexLemmas.table-copied}, specs.Tables.steps_of}
use Rattle.tree_path.proofs.key_index.KeyIndex.table_at.Goals as goal

pub returns : goal.returns
returns c =
    table-copied c.as_ref.result c.args.self.now (texts c.args.tokens.now) c.as_ref.ensures.value
    (ap steps_of (sym c.deref.ensures.value) ∙ c.are_steps.ensures c.if-not-are_steps.false)
