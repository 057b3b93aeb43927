use Rattle.std.proofs.Common.{sym, ap, subst, ◌∙◌}
use Rattle.yaml_tree.proofs.{Prelude.{MatchResult-weaker, cow_str_bytes, chars, text}, CheckLemmas.{took, has_none}}
use Rattle.yaml_tree.{proofs.KeptLemmas.{scalar_stepped, scalar_refused}, specs.{Building.HasNone, OpenParts.part_frames}}
use Rattle.yaml_tree.specs.{Frames.{frames_with, innermost}, Kept.{kept_frames, frames_distinct, scalar_placed}}
use Rattle.yaml_tree.proofs.parts.Parts.scalar.Goals as goal

pub returns : goal.returns
returns g c = λ fs keeps.
    let keep = g.V.Kept.keep in
    let value = chars (cow_str_bytes c.args.value) in
    let new = part_frames g.V.Kept.tree g.V.Kept.elements c.put_scalar.new.self.parts.items in
    MatchResult-weaker c.put_scalar.result c.put_scalar.ensures.parts
    (λ _ e. took keep new _ (frames_distinct fs) (frames_with fs (text value))
    (scalar_stepped keep fs new value (ap (innermost (scalar_placed keep value)) (sym keeps.frames) ∙ e))
    (c.put_scalar.ensures.keys ∙ keeps.differ))
    (λ fault h. has_none (innermost (scalar_placed keep value) (kept_frames keep fs)) (frames_with fs (text value))
    (scalar_refused keep fs value) fault
    (subst (λ gs. HasNone (innermost (scalar_placed keep value) gs) fault) keeps.frames h))
