use Rattle.std.proofs.Common.{subst, sym, ◌∙◌}
use Rattle.yaml_tree.{proofs.{Prelude.on_ok_weaker, OpenPartLemmas.line_start-after_key}, specs.OpenParts.open_frames}
use Rattle.yaml_tree.proofs.open_text.write_line_start.Goals as goal

pub returns : goal.returns
returns g c =
    let awaited = sym c.awaits_value.ensures ∙ c.if-not-awaits_value.false in
    let line = line_start-after_key c.args.is_first
    (open_frames c.args.outer.now) c.args.indent c.if-not-is_first.false awaited c.requires in
    on_ok_weaker c.put_spaces-2.result
    (λ put. subst (λ cs. g.S.Sink.Takes c.args.sink.now cs c.put_spaces-2.new.self) line
    (g.met.S.Sink.takes_both _ _ _ _ _ c.in_ok-put_char.ensures put))
    c.put_spaces-2.ensures
