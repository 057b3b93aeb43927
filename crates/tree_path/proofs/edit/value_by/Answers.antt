use Rattle.std.proofs.Common.{Err, take, sym, ap, ◌∙◌}
use Rattle.tree_path.proofs.{Prelude.{cow_str_bytes, chars, tree_of, texts}, Descents.{at_from-turn, at_from-missed}}
use Rattle.tree_path.{proofs.{EditLaws.child-distinct, IndexLemmas.table-known}, specs.Paths.child}
use Rattle.tree_path.proofs.edit.value_by.Goals as goal

pub returns-in-Err-clause-refused : goal.returns-in-Err-clause-refused
returns-in-Err-clause-refused c =
    at_from-missed c.args.tokens.now c.loop-passed.passed c.index-tokens-passed.result (tree_of c.args.tree.now)
    (tree_of c.loop-passed.value.now) c.in-Err.miss
    c.loop-passed-test.true c.index-tokens-passed.is c.loop-passed.invariant.0
    (ap (λ bytes. child (tree_of c.loop-passed.value.now) (chars bytes)) (sym c.as_str.ensures.value) ∙ c.in-Err.ensures.missed)
    ∙ ap Err (sym c.at_step.ensures)

pub loop-passed-preserved : goal.loop-passed-preserved
loop-passed-preserved c =
    let node = tree_of c.loop-passed.value.now in
    let next = tree_of c.in-Ok.child.now in
    let token = c.index-tokens-passed.result in
    let found = ap (λ bytes. child node (chars bytes)) (sym c.as_str.ensures.value) ∙ c.in-Ok.ensures.ok in (
      at_from-turn c.args.tokens.now c.loop-passed.passed token (tree_of c.args.tree.now) node next
          c.loop-passed-test.true c.index-tokens-passed.is c.loop-passed.invariant.0 found,
      child-distinct node next (chars (cow_str_bytes token)) c.loop-passed.invariant.1 found,
    )

pub child_by-requires-clause-table : goal.child_by-requires-clause-table
child_by-requires-clause-table c =
    table-known c.table_at-table.result c.args.index (tree_of c.args.tree.now) (tree_of c.loop-passed.value.now)
    (texts (take c.loop-passed.passed c.args.tokens.now)) c.table_at-table.ensures c.requires.index c.loop-passed.invariant.0
