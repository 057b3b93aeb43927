use Rattle.std.proofs.Common.{sym, ap, ◌∙◌}
use Rattle.tree_edits.proofs.{Prelude.{chars, tree_of}, Points.{found-Ok, kept-part, leads-there, point-kept, read-met, spelled-read}}
use Rattle.tree_edits.specs.Insertions.{list_with}
use Rattle.tree_edits.proofs.insertion.find_point.Goals as goal

pub returns-in-Some-value_at : goal.returns-in-Some-value_at
returns-in-Some-value_at c =
    let pointer = chars c.args.path.now in
    let t = tree_of c.args.tree.now in
    let list = c.in-Some-value_at.list.now in
    let reads = read-met pointer c.in-Ok.path c.in-Ok.ensures.met in
    record {
      spelled = spelled-read pointer c.in-Ok.path reads c.in-Ok.ensures.ok;
      leads = λ v. c.point_in.ensures.leads v ∙ ap (λ bytes. list_with (tree_of list) (chars bytes) v) c.as_str.ensures.value
          ∙ sym (leads-there t pointer c.in-Ok.path reads c.tokens.result.now c.in-Some.parents.now c.in-Some.last.now
          c.tokens.ensures c.in-Some.ensures.cases v (tree_of list) c.in-Some-value_at.ensures);
      inside = c.point_in.ensures.inside;
      kept = point-kept c.point_in.result (tree_of list)
          (kept-part t _ list (found-Ok _ (tree_of list) c.in-Some-value_at.ensures) c.requires) c.point_in.ensures.same;
    }
