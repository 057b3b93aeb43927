use Rattle.std.proofs.Common.{◌≡◌, ◌&&◌, Bool, sym, ap, subst, ◌∙◌}
use Rattle.yaml_tree.proofs.{Prelude.{MatchResult-weaker, err_from_is_err_and, key_members, keys_differ}, CheckLemmas.{took, has_none}}
use Rattle.yaml_tree.proofs.{PartLemmas.keys_differ-by, parts.Parts.end_map.Goals.{then-self, else-self}, KeptLemmas.in_map_parts}
use Rattle.yaml_tree.{proofs.KeptLemmas.{map_stepped, map_put_none, map_none}, specs.{Building.HasNone, OpenParts.part_frames}}
use Rattle.yaml_tree.specs.{Frames.{after_map_end, innermost}, Kept.{kept_frames, value_placed, members_by, map_ended}}
use Rattle.yaml_tree.proofs.parts.Parts.end_map.Goals as goal

pub returns-in_err-pairs : goal.returns-in_err-pairs
returns-in_err-pairs g c = λ fs keeps.
    let p = err_from_is_err_and c.from_residual.result c.from_residual.ensures.1 in
    rw (p.1, p.2)
    (has_none (map_ended (kept_frames g.V.Kept.keep fs)) (after_map_end fs) (map_none g.V.Kept.keep fs) c.in_err-pairs.field-0.0
    (subst (λ gs. HasNone (map_ended gs) c.in_err-pairs.field-0.0) keeps.frames c.in_err-pairs.ensures.parts))

pub returns : goal.returns
returns g c = λ fs keeps.
    let keep = g.V.Kept.keep in
    let rest = part_frames g.V.Kept.tree g.V.Kept.elements c.take_map.new.self.parts.items in
    let new = part_frames g.V.Kept.tree g.V.Kept.elements c.put_collection.new.self.parts.items in
    let ms = members_by g.V.Kept.tree c.in_ok-pairs.pairs.items in
    let v = g.V.Kept.tree c.of_map.result in
    let before : Bool = c.take_map.new.self.keys_differ in
    let parts = in_map_parts keep fs ms rest (sym keeps.frames ∙ c.in_ok-pairs.ensures.parts) in
    let flag : c.if-self.self ≡ (before && keys_differ ms) =
    let answer = c.in_ok-differ.ensures ∙ ap (λ xs. keys_differ (key_members xs)) c.deref.ensures.value
    ∙ keys_differ-by g.V.Kept.tree c.in_ok-pairs.pairs.items in
    elim c.if-self.branch [
      | then-self w ↦ w.self-is ∙ answer ∙ sym (ap (λ b. b && keys_differ ms) w.if-self.true)
      | else-self w ↦ w.self-is ∙ w.if-self.false ∙ sym (ap (λ b. b && keys_differ ms) w.if-self.false)
    ] in
    MatchResult-weaker c.put_collection.result c.put_collection.ensures.parts
    (λ _ e. took keep new _ (before && keys_differ ms) (after_map_end fs)
    (map_stepped keep fs rest new ms v before parts c.of_map.ensures e (c.take_map.ensures.keys ∙ keeps.differ))
    (c.put_collection.ensures.keys ∙ flag))
    (λ fault h. has_none (innermost (value_placed keep v) rest) (after_map_end fs)
    (map_put_none keep fs rest ms v parts c.of_map.ensures) fault h)
