use Rattle.std.proofs.Common.{◌++◌, map, rules, ap, subst, ◌∙◌}
use Rattle.conf_diff.proofs.{Prelude.{changes_of, chars, edit_of, into_iter_items, tree_of}, Parts.{AreFine, differences-fine, fine-kept}}
use Rattle.conf_diff.specs.StateEdits.{edit_in}
use Rattle.conf_diff.proofs.configs.place_edits.Goals as goal

pub loop-difference-init : goal.loop-difference-init
loop-difference-init c =
    let left = into_iter_items c.into_iter-difference-iterator.result in
    let gives = ap changes_of c.into_iter-difference-iterator.ensures.into_iter_gives.0 ∙ c.in_ok-difference-items.ensures.differences in (
      ap (λ es. map edit_of es ++ map (edit_in (chars c.args.name.now)) (changes_of left))
          c.new-edits.ensures.items ∙ ap (map (edit_in (chars c.args.name.now))) gives,
      differences-fine (tree_of c.args.first.now) (tree_of c.args.second.now) _ c.requires.second gives,
      search rules,
    )

pub edit_in-requires : goal.edit_in-requires
edit_in-requires c =
    fine-kept c.in-Some.difference (into_iter_items c.next.new.self)
    (subst (λ xs. AreFine (changes_of xs)) c.in-Some.ensures.steps.0 c.loop-difference.invariant.1)
