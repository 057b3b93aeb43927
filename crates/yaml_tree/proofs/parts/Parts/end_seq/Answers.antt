use Rattle.std.proofs.Common.{sym, subst, ◌∙◌}
use Rattle.yaml_tree.proofs.{Prelude.{MatchResult-weaker, err_from_is_err_and}, CheckLemmas.{took, has_none}, KeptLemmas.in_seq_parts}
use Rattle.yaml_tree.{proofs.KeptLemmas.{seq_stepped, seq_put_none, seq_none}, specs.{Building.HasNone, OpenParts.part_frames}}
use Rattle.yaml_tree.specs.{Frames.{after_seq_end, innermost}, Kept.{kept_frames, value_placed, frames_distinct, seq_ended}}
use Rattle.yaml_tree.proofs.parts.Parts.end_seq.Goals as goal

pub returns-in_err-items : goal.returns-in_err-items
returns-in_err-items g c = λ fs keeps.
    let p = err_from_is_err_and c.from_residual.result c.from_residual.ensures.1 in
    rw (p.1, p.2)
    (has_none (seq_ended (kept_frames g.V.Kept.keep fs)) (after_seq_end fs) (seq_none g.V.Kept.keep fs) c.in_err-items.field-0.0
    (subst (λ gs. HasNone (seq_ended gs) c.in_err-items.field-0.0) keeps.frames c.in_err-items.ensures.parts))

pub returns : goal.returns
returns g c = λ fs keeps.
    let keep = g.V.Kept.keep in
    let rest = part_frames g.V.Kept.tree g.V.Kept.elements c.take_seq.new.self.parts.items in
    let new = part_frames g.V.Kept.tree g.V.Kept.elements c.put_collection.new.self.parts.items in
    let us = g.V.Kept.elements c.in_ok-items.items in
    let v = g.V.Kept.tree c.of_seq.result in
    let parts = in_seq_parts keep fs us rest (sym keeps.frames ∙ c.in_ok-items.ensures.parts) in
    MatchResult-weaker c.put_collection.result c.put_collection.ensures.parts
    (λ _ e. took keep new _ (frames_distinct fs) (after_seq_end fs) (seq_stepped keep fs rest new us v parts c.of_seq.ensures e)
    (c.put_collection.ensures.keys ∙ c.take_seq.ensures.keys ∙ keeps.differ))
    (λ fault h. has_none (innermost (value_placed keep v) rest) (after_seq_end fs)
    (seq_put_none keep fs rest us v parts c.of_seq.ensures) fault h)
