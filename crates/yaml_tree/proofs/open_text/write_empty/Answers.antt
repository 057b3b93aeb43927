use Rattle.std.proofs.Common.{subst, sym, ◌∙◌}
use Rattle.yaml_tree.{proofs.{Prelude.{on_ok_weaker, chars}, OpenPartLemmas.empty_line-after_key}, specs.OpenParts.open_frames}
use Rattle.yaml_tree.proofs.open_text.write_empty.Goals as goal

pub returns : goal.returns
returns g c =
    let awaited = sym c.awaits_value.ensures ∙ c.if-not-awaits_value.false in
    let line = empty_line-after_key (chars c.args.brackets.now) (open_frames c.args.outer.now) awaited in
    on_ok_weaker c.put_text-2.result
    (λ put. subst (λ cs. g.S.Sink.Takes c.args.sink.now cs c.put_text-2.new.self) line
    (g.met.S.Sink.takes_both _ _ _ _ _ c.in_ok-put_char.ensures put))
    c.put_text-2.ensures
