use Rattle.std.{proofs.{Common.{sym, subst, string_bytes, inr}, lemmas.Str.IsUtf8-string_bytes}, specs.Prelude.MatchBool}
use Rattle.{yaml_config.specs.Kept.limits_of, yaml_data.specs.Seen.tree_of, yaml_tree.specs.Reading.IsRead}
use Rattle.comments_kept.{specs.Keeping.{Writes, Changes}, proofs.Keeping.{read_again, same_tree, settled, writes, written_bare}}
use Rattle.comments_kept.proofs.Keeping.{written_comments, written_style}
use Rattle.comments_kept.proofs.format.format_keeping.Goals as goal

pub returns-then-branch-clause-tree : goal.returns-then-branch-clause-tree
returns-then-branch-clause-tree c =
    let bytes = c.args.bytes.now in
    let limits = limits_of c.args.limits.now in
    let t = tree_of c.tree-tree.result.now in
    let read = subst (λ t. IsRead bytes limits (tree_of t)) (sym c.tree-tree.ensures.same) c.in_ok-config.ensures.given in
    let text = string_bytes c.in_ok-text.text in
    let w = c.in_ok-text.ensures.written in
    same_tree bytes text limits t w.kept w.woven read c.commented_reads.ensures (IsUtf8-string_bytes c.in_ok-text.text)

pub returns-then-branch-clause-comments : goal.returns-then-branch-clause-comments
returns-then-branch-clause-comments c =
    let bytes = c.args.bytes.now in
    let limits = limits_of c.args.limits.now in
    let t = tree_of c.tree-tree.result.now in
    let read = subst (λ t. IsRead bytes limits (tree_of t)) (sym c.tree-tree.ensures.same) c.in_ok-config.ensures.given in
    let text = string_bytes c.in_ok-text.text in
    written_comments bytes t text c.in_ok-text.ensures.written limits read c.commented_comments.ensures

pub returns-then-branch-clause-style : goal.returns-then-branch-clause-style
returns-then-branch-clause-style c =
    let bytes = c.args.bytes.now in
    let limits = limits_of c.args.limits.now in
    let t = tree_of c.tree-tree.result.now in
    let read = subst (λ t. IsRead bytes limits (tree_of t)) (sym c.tree-tree.ensures.same) c.in_ok-config.ensures.given in
    let text = string_bytes c.in_ok-text.text in
    written_style bytes t text c.in_ok-text.ensures.written limits read

pub returns-then-branch-clause-bare : goal.returns-then-branch-clause-bare
returns-then-branch-clause-bare c =
    let bytes = c.args.bytes.now in
    let limits = limits_of c.args.limits.now in
    let t = tree_of c.tree-tree.result.now in
    let read = subst (λ t. IsRead bytes limits (tree_of t)) (sym c.tree-tree.ensures.same) c.in_ok-config.ensures.given in
    let text = string_bytes c.in_ok-text.text in
    written_bare bytes t text c.in_ok-text.ensures.written limits read c.bare_is_style.ensures c.comments_once.ensures
    c.bytes_give_one.ensures

pub returns-then-branch-clause-places : goal.returns-then-branch-clause-places
returns-then-branch-clause-places c =
    let bytes = c.args.bytes.now in
    let limits = limits_of c.args.limits.now in
    let t = tree_of c.tree-tree.result.now in
    let read = subst (λ t. IsRead bytes limits (tree_of t)) (sym c.tree-tree.ensures.same) c.in_ok-config.ensures.given in
    let text = string_bytes c.in_ok-text.text in
    record { tree = t; read = read; writes = writes bytes t text c.in_ok-text.ensures.written }

pub returns-then-branch-clause-again : goal.returns-then-branch-clause-again
returns-then-branch-clause-again c =
    let bytes = c.args.bytes.now in
    let limits = limits_of c.args.limits.now in
    let t = tree_of c.tree-tree.result.now in
    let read = subst (λ t. IsRead bytes limits (tree_of t)) (sym c.tree-tree.ensures.same) c.in_ok-config.ensures.given in
    let text = string_bytes c.in_ok-text.text in
    let w = c.in_ok-text.ensures.written in
    let again = read_again bytes text limits t w.kept w.woven read c.commented_reads.ensures (IsUtf8-string_bytes c.in_ok-text.text) in
    let writes = subst (λ b. MatchBool b (Writes c.deref.result.now t c.deref.result.now) (Changes t c.deref.result.now))
    c.if-branch.true c.in_ok-is_settled.ensures.settled in
    settled limits t text again (subst (λ bytes. Writes bytes t bytes) c.deref.ensures writes)

pub returns-clause-refused : goal.returns-clause-refused
returns-clause-refused c =
    let bytes = c.args.bytes.now in
    let limits = limits_of c.args.limits.now in
    let t = tree_of c.tree-tree.result.now in
    let read = subst (λ t. IsRead bytes limits (tree_of t)) (sym c.tree-tree.ensures.same) c.in_ok-config.ensures.given in
    let text = string_bytes c.in_ok-text.text in
    let changes = subst (λ b. MatchBool b (Writes c.deref.result.now t c.deref.result.now) (Changes t c.deref.result.now))
    c.if-branch.false c.in_ok-is_settled.ensures.settled in
    record {
      tree = t;
      read = read;
      changes = inr (text, writes bytes t text c.in_ok-text.ensures.written, subst (Changes t) c.deref.ensures changes);
    }

pub is_settled-requires-clause-written : goal.is_settled-requires-clause-written
is_settled-requires-clause-written c =
    let bytes = c.args.bytes.now in
    let t = tree_of c.tree-tree.result.now in
    subst (Writes bytes t) (sym c.deref.ensures) (writes bytes t (string_bytes c.in_ok-text.text) c.in_ok-text.ensures.written)
