use Rattle.std.proofs.Common.{IfSome, sym, subst}
use Rattle.yaml_tree.{proofs.{Prelude.{limits_of, tree_of}, InStyleLemmas.{own_good, styled_good, styled_read}}, specs.InStyle.AreLinesOf}
use Rattle.yaml_tree.specs.Reading.{IsRead}
use Rattle.yaml_data.specs.declared.tree.Tree as trees
use Rattle.yaml_tree.proofs.in_style.read_in_style.Goals as goal

pub with_size-requires-clause-kept : goal.with_size-requires-clause-kept
with_size-requires-clause-kept c =
    let limits = limits_of c.args.limits.now in
    let lines = c.in-Some.lines.now in
    let read = c.in-Some-2 in
    let are : AreLinesOf lines (tree_of read.tree) read.size =
    subst (λ found. IfSome found (λ r. AreLinesOf lines (tree_of r.0) r.1)) read.is c.in_ok-tree.ensures in
    own_good (tree_of read.tree) limits c.requires are.sound.shallow
    (styled_good c.args.bytes.now lines limits (tree_of read.tree) read.size c.in-Some.ensures.some are)

pub returns-in-Some-2-clause-given : goal.returns-in-Some-2-clause-given
returns-in-Some-2-clause-given c =
    let bytes = c.args.bytes.now in
    let limits = limits_of c.args.limits.now in
    let lines = c.in-Some.lines.now in
    let read = c.in-Some-2 in
    let are : AreLinesOf lines (tree_of read.tree) read.size =
    subst (λ found. IfSome found (λ r. AreLinesOf lines (tree_of r.0) r.1)) read.is c.in_ok-tree.ensures in
    subst (λ (config : trees.Tree). IsRead bytes limits (tree_of config)) (sym c.with_size.ensures)
    (styled_read c.style_reads.ensures.alone c.style_reads.ensures.framed bytes lines limits (tree_of read.tree) read.size
    c.in-Some.ensures.some are)
