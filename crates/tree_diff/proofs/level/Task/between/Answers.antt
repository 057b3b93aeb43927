use Rattle.std.proofs.Common.{◌≡◌, true, Some, if◌then◌else◌, sym, ap, ap₂, ◌∙◌}
use Rattle.tree_diff.{proofs.Prelude.{mapping, tree_of, members_of, tree_of-Map}, specs.Differences.{differences, here, member_differences}}
use Rattle.tree_diff.specs.Choices.{is_set_whole}
use Rattle.tree_diff.proofs.level.Task.between.Goals as goal

pub returns-in-Map-second-clause-differences : goal.returns-in-Map-second-clause-differences
returns-in-Map-second-clause-differences c =
    let ms = members_of c.in-Map.pairs.items in
    let ns = members_of c.in-Map-second.others.items in
    let first = ap tree_of c.in-Map.is ∙ tree_of-Map c.in-Map.pairs in
    let second = ap tree_of c.in-Map-second.is ∙ tree_of-Map c.in-Map-second.others in
    let whole : is_set_whole ms ns ≡ true = sym (c.is_set_whole.ensures
    ∙ ap₂ (λ xs ys. is_set_whole (members_of xs) (members_of ys)) c.deref-in-Map.ensures.value c.deref-in-Map-2.ensures.value)
    ∙ c.if-is_set_whole.true in
    sym (ap₂ differences first second
    ∙ ap (λ b. if b then here (Some (mapping ns)) else member_differences ms ns) whole
    ∙ ap (λ t. here (Some t)) (sym second))
