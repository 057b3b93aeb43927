use Rattle.std.proofs.Common.{true, subst, sym, ap, ◌∙◌}
use Rattle.yaml_writer.proofs.Prelude.{eqb-true, eqb-false, on_ok_weaker, chars, literal_lines, chars_empty, chars_filled}
use Rattle.yaml_writer.proofs.LiteralLemmas.{literal_line, literal_last, after_IsUtf8, chars-lines}
use Rattle.comments_kept.proofs.literal.write_literal_lines.Goals as goal

pub loop-line-preserved : goal.loop-line-preserved
loop-line-preserved g c =
    let rest = c.loop-line.rest.now in
    let utf8 = c.loop-line.invariant.0 in
    let line = c.in-Some.line.now in
    let after = c.in-Some.after.now in
    let cut = c.in-Some.ensures.0 in
    let one = c.in-Some.ensures.1 in (
      after_IsUtf8 rest line after utf8 cut,
      λ end left. c.loop-line.invariant.1 end
          (subst (λ cs. g.S.Sink.Takes c.loop-line.sink cs end)
          (literal_line c.args.indent (chars line) (chars after) one
          ∙ ap (literal_lines c.args.indent true) (sym (chars-lines rest line after utf8 cut)))
          (g.met.S.Sink.takes_both _ _ _ _ _ c.in_ok-write_line.ensures left)),
    )

pub returns-then-is_empty : goal.returns-then-is_empty
returns-then-is_empty g c =
    let sink = c.loop-line.sink in
    let empty = chars_empty c.loop-line.rest.now (eqb-true _ _ (sym c.if-is_empty.ensures)) in
    c.loop-line.invariant.1 sink
    (subst (λ cs. g.S.Sink.Takes sink (literal_lines c.args.indent true cs) sink) (sym empty) (g.met.S.Sink.takes_none sink))

pub returns : goal.returns
returns g c =
    let rest = c.loop-line.rest.now in
    let utf8 = c.loop-line.invariant.0 in
    let filled = chars_filled rest utf8 (eqb-false _ _ (sym c.if-is_empty.ensures)) in
    on_ok_weaker c.write_line-2.result
    (λ last. c.loop-line.invariant.1 c.write_line-2.new.sink
    (subst (λ cs. g.S.Sink.Takes c.loop-line.sink cs c.write_line-2.new.sink)
    (literal_last c.args.indent (chars rest) c.in_default.ensures filled) last))
    c.write_line-2.ensures
