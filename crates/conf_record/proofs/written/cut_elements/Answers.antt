use Rattle.std.proofs.{Common.{rules, [], ◌∷◌, codes, map, ap, sym, subst, ◌∙◌}, lemmas.List.map-append}
use Rattle.conf_record.{proofs.{Prelude.edit_of, WrittenLemmas.one_written}, specs.{EditLines.lines_of, Written.ElementsWritten}}
use Rattle.conf_record.proofs.written.cut_elements.Goals as goal

pub loop-left-preserved : goal.loop-left-preserved
loop-left-preserved c =
    let l = c.loop-left in
    let elements = c.args.elements.now in
    let own = lines_of c.in-Some.members (codes "tree: ") in (
      subst (λ es. ElementsWritten elements es c.in-Some.after.now)
          (sym (ap (map edit_of) c.in_ok-push.ensures.items ∙ map-append edit_of l.edits.items (c.in_ok-edit.edit ∷ [])))
          (one_written elements l.left.now c.in-Some.after.now own (map edit_of l.edits.items)
          (edit_of c.in_ok-edit.edit) l.invariant.0 c.in-Some.ensures c.in_ok-edit.ensures),
      search rules,
    )
