use Rattle.std.proofs.Common.{subst, sym}
use Rattle.yaml_writer.proofs.{Prelude.{eqb-true, eqb-false, on_ok_weaker, chars, chars_empty, chars_filled}, LiteralLemmas.line_filled}
use Rattle.yaml_writer.specs.Lines.{line_text}
use Rattle.yaml_writer.proofs.literal.write_line.Goals as goal

pub returns-then-is_empty : goal.returns-then-is_empty
returns-then-is_empty g c =
    let empty = chars_empty c.args.line.now (eqb-true _ _ (sym c.if-is_empty.ensures)) in
    on_ok_weaker c.put_char.result
    (subst (λ cs. g.S.Sink.Takes c.args.sink.now (line_text c.args.indent cs) c.put_char.new.self) (sym empty))
    c.put_char.ensures

pub returns : goal.returns
returns g c =
    let both = g.met.S.Sink.takes_both in
    let filled = chars_filled c.args.line.now c.utf8.line (eqb-false _ _ (sym c.if-is_empty.ensures)) in
    on_ok_weaker c.put_char-2.result
    (λ feed. subst (λ cs. g.S.Sink.Takes c.args.sink.now cs c.put_char-2.new.self)
    (line_filled c.args.indent (chars c.args.line.now) filled)
    (both _ _ _ _ _ (both _ _ _ _ _ c.in_ok-put_spaces.ensures c.in_ok-put_text.ensures) feed))
    c.put_char-2.ensures
