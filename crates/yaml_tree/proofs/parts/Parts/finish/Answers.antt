use Rattle.std.proofs.Common.{sym, ap, subst, ◌∙◌}
use Rattle.yaml_tree.proofs.{Prelude.err_from_is_err_and, CheckLemmas.has_none, KeptLemmas.{finished_kept, finished_none}}
use Rattle.yaml_tree.specs.{Building.HasNone, Kept.kept_frames, Frames.finished_tree}
use Rattle.yaml_tree.proofs.parts.Parts.finish.Goals as goal

pub returns-in_err-value : goal.returns-in_err-value
returns-in_err-value g c = λ fs keeps.
    let p = err_from_is_err_and c.from_residual.result c.from_residual.ensures.1 in
    rw (p.1, p.2)
    (has_none (finished_tree (kept_frames g.V.Kept.keep fs)) (finished_tree fs) (finished_none g.V.Kept.keep fs) c.in_err-value.field-0.0
    (subst (λ gs. HasNone (finished_tree gs) c.in_err-value.field-0.0) keeps.frames c.in_err-value.ensures.parts))

pub returns : goal.returns
returns g c = λ fs keeps.
    finished_kept g.V.Kept.keep fs (g.V.Kept.tree c.in_ok-value.value) c.take_whole.new.self.keys_differ
    (ap finished_tree (sym keeps.frames) ∙ c.in_ok-value.ensures.parts) (c.take_whole.ensures.keys ∙ keeps.differ)
