use Rattle.std.proofs.Common.{◌≡◌, ◌-◌, length, take, Global, sym, ap, subst, ◌∙◌, arith}
use Rattle.tree_path.proofs.{Prelude.{cow_str_bytes, CowStr, chars, length-map, length-take-le, tree_of}, UndoLemmas.leads-made}
use Rattle.tree_path.{proofs.UndoLemmas.{leads-long, leads-take}, specs.{Steps.{Leads, parents_of}, Undoing.IsBack}}
use Rattle.tree_path.proofs.undo.set_undoable.Goals as goal

pub returns-clause-undo : goal.returns-clause-undo
returns-clause-undo c =
    let path = c.args.path.now in
    let steps = parents_of path in
    let ps = c.args.places.parents.items in
    let tokens = c.tokens-tokens.result.now in
    let now = tree_of c.set_last.new.tree in
    let before = tree_of c.args.tree.now in
    let back = subst (λ xs. IsBack c.in-Ok.displaced (parents_of xs) now before) c.tokens-tokens.ensures c.in-Ok.ensures.back in
    let count : length path ≡ length tokens =
    ap length (sym c.tokens-tokens.ensures) ∙ length-map tokens (λ (x : CowStr Global). chars (cow_str_bytes x)) in
    let some = c.requires.steps in
    let long : length steps ≡ length path - 1 = length-take-le (length path - 1) path (omega arith) in
    let n : length tokens - 1 ≡ length steps = omega (arith, count, long) in
    let items = c.truncate.ensures.items ∙ ap (λ k. take k ps) n in
    let enough = leads-long steps before ps c.requires.places.parents in
    let leads = leads-take steps now ps (leads-made steps before back.here now ps back.made c.requires.places.parents) in
    record {
      steps = steps;
      long = sym (ap length items ∙ length-take-le (length steps) ps enough);
      leads = subst (Leads steps now) (sym items) leads;
      back = back;
    }
