use Rattle.std.proofs.Common.{length, sym, ap, subst, ◌∙◌}
use Rattle.tree_path.{proofs.{Prelude.tree_of, Descents.{Ok-same, at_from-Lowered}, UndoLemmas.{at-made, undo-same}}, specs.Steps.Leads}
use Rattle.tree_path.specs.{Steps.Rebuilt, Undoing.PutsBack, Paths.at}
use Rattle.tree_path.proofs.undo.undo_set.Goals as goal

pub lower-requires : goal.lower-requires
lower-requires c =
    let is = c.requires.1 in
    let ps = c.as_slice-places.ensures.value in
    (is.steps, is.long ∙ ap length (sym ps), subst (Leads is.steps (tree_of c.args.tree.now)) (sym ps) is.leads)

pub put_back-requires : goal.put_back-requires
put_back-requires c =
    let is = c.requires.1 in
    let ps = c.as_slice-places.ensures.value in
    let now = tree_of c.args.tree.now in
    let low = c.lower.ensures is.steps (is.long ∙ ap length (sym ps)) (subst (Leads is.steps now) (sym ps) is.leads) in
    let same = Ok-same (at now is.steps) is.back.here (tree_of c.lower.new.tree)
    (at-made is.steps 1 c.requires.0 is.back.here now is.back.made)
    (at_from-Lowered is.steps 1 now _ (tree_of c.lower.new.tree) (tree_of c.lower.new.above) low) in
    (is.back.there, subst (λ x. PutsBack c.args.undo.displaced x is.back.there) same is.back.puts)

pub raise-requires : goal.raise-requires
raise-requires c =
    let is = c.requires.1 in
    let ps = c.as_slice-places.ensures.value in
    let now = tree_of c.args.tree.now in
    let long = is.long ∙ ap length (sym ps) in
    let leads = subst (Leads is.steps now) (sym ps) is.leads in
    (is.steps, now, _, tree_of c.lower.new.tree, long, leads, c.lower.ensures is.steps long leads)

pub returns : goal.returns
returns c = λ before is.
    let ps = c.as_slice-places.ensures.value in
    let now = tree_of c.args.tree.now in
    let long = is.long ∙ ap length (sym ps) in
    let leads = subst (Leads is.steps now) (sym ps) is.leads in
    let low = c.lower.ensures is.steps long leads in
    let same = Ok-same (at now is.steps) is.back.here (tree_of c.lower.new.tree)
    (at-made is.steps 1 before is.back.here now is.back.made)
    (at_from-Lowered is.steps 1 now _ (tree_of c.lower.new.tree) (tree_of c.lower.new.above) low) in
    let there = c.put_back.ensures is.back.there (subst (λ x. PutsBack c.args.undo.displaced x is.back.there) same is.back.puts) in
    let built = c.raise.ensures is.steps now _ (tree_of c.lower.new.tree) long leads low in
    undo-same is.steps 1 before is.back.here now is.back.there (tree_of c.raise.new.tree) is.back.made is.back.found
    (subst (λ x. Rebuilt is.steps now x (tree_of c.raise.new.tree)) there built)
