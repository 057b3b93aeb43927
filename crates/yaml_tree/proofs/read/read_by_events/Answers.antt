use Rattle.std.proofs.Common.{◌≡◌, ◌<◌, Bool, true, false, List, sym, ap, subst, ◌∙◌, arith}
use Rattle.yaml_tree.proofs.Prelude.{err_from_is_err_and, events_of, Event, Tree, IsTreeOf, depth, distinct, limits_of, tree_of}
use Rattle.yaml_tree.{proofs.ReadLemmas.{tree_read, shallow_refused, deep_refused}, specs.{OpenParts.IsOutcome, Reading.IsRead}}
use Rattle.yaml_tree.specs.Kept as keep
use Rattle.yaml_data.specs.declared.tree.Tree as trees
use Rattle.yaml_tree.proofs.read.read_by_events.Goals as goal

-- the tree is that of the events
tree_built : (es : List Event) (t : trees.Tree) (differ : Bool)
    → IsOutcome keep.trees (tree_of t) differ (events_of es) → IsTreeOf (events_of es) (tree_of t)
tree_built es t differ built = subst (IsTreeOf (events_of es)) (sym built.kept_is) built.is_tree

keys_built : (es : List Event) (t : trees.Tree) (differ b : Bool)
    → IsOutcome keep.trees (tree_of t) differ (events_of es) → differ ≡ b → distinct (tree_of t) ≡ b
keys_built es t differ b built is = ap distinct built.kept_is ∙ sym built.keys ∙ is

pub returns-in-Ok-clause-given : goal.returns-in-Ok-clause-given
returns-in-Ok-clause-given c =
    let limits = limits_of c.args.limits.now in
    let is = c.in_ok-events.ensures.read in
    let good = c.in-Ok.ensures.ok in
    subst (λ (config : trees.Tree). IsRead c.args.bytes.now limits (tree_of config)) (sym good.0)
    (tree_read c.args.bytes.now limits c.in_ok-events.field-0.events (tree_of c.in_ok-tree.tree) is.reads
    (tree_built c.in_ok-events.field-0.events c.in_ok-tree.tree c.in_ok-tree.keys_differ c.in_ok-tree.ensures) good.1)

pub returns-then-not-keys_differ-clause-refused : goal.returns-then-not-keys_differ-clause-refused
returns-then-not-keys_differ-clause-refused c =
    let is = c.in_ok-events.ensures.read in
    let es = c.in_ok-events.field-0.events in
    let tree = c.in_ok-tree.tree in
    record {
      text = is.reads.text;
      events = events_of es;
      reads = is.reads.reads;
      tree = tree_of tree;
      is_tree = tree_built es tree c.in_ok-tree.keys_differ c.in_ok-tree.ensures;
      first = keys_built es tree c.in_ok-tree.keys_differ false c.in_ok-tree.ensures c.if-not-keys_differ.true;
    }

pub with_distinct_keys-requires-clause-keys : goal.with_distinct_keys-requires-clause-keys
with_distinct_keys-requires-clause-keys c =
    keys_built c.in_ok-events.field-0.events c.in_ok-tree.tree c.in_ok-tree.keys_differ true c.in_ok-tree.ensures c.if-not-keys_differ.false

pub returns-then-depth-limits-clause-refused : goal.returns-then-depth-limits-clause-refused
returns-then-depth-limits-clause-refused c =
    let is = c.in_ok-events.ensures.read in
    let es = c.in_ok-events.field-0.events in
    let deep : (t : Tree) → IsTreeOf (events_of es) t → c.args.limits.now.depth < depth t = λ t tree.
    let e = is.as_deep t tree in
    omega (arith, e, c.if-depth-limits.true) in
    deep_refused c.args.bytes.now (limits_of c.args.limits.now) es c.deep_fault.result is.reads is.one deep c.deep_fault.ensures

pub returns-in_err-tree-clause-refused : goal.returns-in_err-tree-clause-refused
returns-in_err-tree-clause-refused c =
    let is = c.in_ok-events.ensures.read in
    let p = err_from_is_err_and c.from_residual-in_err-tree.result c.from_residual-in_err-tree.ensures.1 in
    rw (p.1, p.2)
    (shallow_refused c.args.bytes.now (limits_of c.args.limits.now) c.in_ok-events.field-0.events _ is.reads is.one c.in_err-tree.ensures)

pub with_distinct_keys-requires-clause-shallow : goal.with_distinct_keys-requires-clause-shallow
with_distinct_keys-requires-clause-shallow c =
    let is = c.in_ok-events.ensures.read in
    let es = c.in_ok-events.field-0.events in
    let deep = is.as_deep (tree_of c.in_ok-tree.tree) (tree_built es c.in_ok-tree.tree c.in_ok-tree.keys_differ c.in_ok-tree.ensures) in
    omega (arith, deep, c.if-depth-limits.false)

pub with_distinct_keys-requires-clause-depth : goal.with_distinct_keys-requires-clause-depth
with_distinct_keys-requires-clause-depth c = c.requires.deep

pub with_distinct_keys-requires-clause-style : goal.with_distinct_keys-requires-clause-style
with_distinct_keys-requires-clause-style c = c.requires.long
