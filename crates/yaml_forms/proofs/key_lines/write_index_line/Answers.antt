use Rattle.std.proofs.Common.{subst, ◌∙◌}
use Rattle.yaml_forms.proofs.Prelude.{on_ok_weaker, chars-IsAscii}
use Rattle.yaml_forms.proofs.key_lines.write_index_line.Goals as goal

pub returns : goal.returns
returns g c =
    let digits = chars-IsAscii c.format.result.now c.format.ensures.ascii ∙ c.format.ensures.text in
    on_ok_weaker c.end_line.result
    (g.met.S.Sink.takes_both _ _ _ _ _
    (subst (λ cs. g.S.Sink.Takes c.args.sink.now cs c.put_text.new.self) digits c.in_ok-put_text.ensures))
    c.end_line.ensures
