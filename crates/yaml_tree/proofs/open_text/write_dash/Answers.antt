use Rattle.std.proofs.Common.{◌++◌, codes, subst, refl, sym, ap, ◌∙◌}
use Rattle.yaml_tree.{proofs.{Prelude.{on_ok_weaker, chars-literal}, OpenPartLemmas.dash_of}, specs.OpenParts.{open_frame, open_frames}}
use Rattle.yaml_tree.specs.OpenText.{line_start, dash}
use Rattle.yaml_tree.proofs.open_text.write_dash.Goals as goal

pub returns-in_ok-write_line_start-in-Seq : goal.returns-in_ok-write_line_start-in-Seq
returns-in_ok-write_line_start-in-Seq g c =
    let fs = open_frames c.args.outer.now in
    let line = ap (λ cs. line_start c.in-Seq.items.is_empty fs ++ cs) (chars-literal (codes "- ") refl)
    ∙ dash_of c.in-Seq.items.is_empty fs
    ∙ sym (ap (λ p. dash (open_frame p) fs) c.in-Seq.is) in
    on_ok_weaker c.put_text.result
    (λ put. subst (λ cs. g.S.Sink.Takes c.args.sink.now cs c.put_text.new.self) line
    (g.met.S.Sink.takes_both _ _ _ _ _ c.in_ok-write_line_start-in-Seq.ensures put))
    c.put_text.ensures
