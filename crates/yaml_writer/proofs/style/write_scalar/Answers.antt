use Rattle.std.proofs.Common.{◌++◌, codes, true, subst, refl, sym, ap, ◌∙◌}
use Rattle.yaml_writer.proofs.Prelude.{on_ok_weaker, chars, literal_lines, chars-literal}
use Rattle.yaml_writer.proofs.StyleLemmas.{value_plain, value_double, value_strip, value_clip, value_keep}
use Rattle.yaml_writer.proofs.style.write_scalar.Goals as goal

pub returns-in_ok-put_text-in-Plain : goal.returns-in_ok-put_text-in-Plain
returns-in_ok-put_text-in-Plain g c =
    on_ok_weaker c.put_char.result
    (λ feed. subst (λ cs. g.S.Sink.Takes c.args.sink.now cs c.put_char.new.self)
    (value_plain c.args.indent (chars c.args.text.now) (sym c.in-Plain.ensures))
    (g.met.S.Sink.takes_both _ _ _ _ _ c.in_ok-put_text-in-Plain.ensures feed))
    c.put_char.ensures

pub returns-in_ok-write_quoted-in-Double : goal.returns-in_ok-write_quoted-in-Double
returns-in_ok-write_quoted-in-Double g c =
    on_ok_weaker c.put_char-in-Double.result
    (λ feed. subst (λ cs. g.S.Sink.Takes c.args.sink.now cs c.put_char-in-Double.new.self)
    (value_double c.args.indent (chars c.args.text.now) (sym c.in-Double.ensures))
    (g.met.S.Sink.takes_both _ _ _ _ _ c.in_ok-write_quoted-in-Double.ensures feed))
    c.put_char-in-Double.ensures

pub returns-in-LiteralStrip : goal.returns-in-LiteralStrip
returns-in-LiteralStrip g c =
    let value = chars c.args.text.now in
    let header = ap (λ cs. cs ++ literal_lines c.args.indent true value) (chars-literal (codes "|-\n") refl) in
    on_ok_weaker c.write_literal.result
    (subst (λ cs. g.S.Sink.Takes c.args.sink.now cs c.write_literal.new.sink)
    (header ∙ value_strip c.args.indent value (sym c.in-LiteralStrip.ensures)))
    c.write_literal.ensures

pub returns-in-LiteralClip : goal.returns-in-LiteralClip
returns-in-LiteralClip g c =
    let value = chars c.args.text.now in
    let header = ap (λ cs. cs ++ literal_lines c.args.indent true value) (chars-literal (codes "|\n") refl) in
    on_ok_weaker c.write_literal-in-LiteralClip.result
    (subst (λ cs. g.S.Sink.Takes c.args.sink.now cs c.write_literal-in-LiteralClip.new.sink)
    (header ∙ value_clip c.args.indent value (sym c.in-LiteralClip.ensures)))
    c.write_literal-in-LiteralClip.ensures

pub returns-in-LiteralKeep : goal.returns-in-LiteralKeep
returns-in-LiteralKeep g c =
    let value = chars c.args.text.now in
    let header = ap (λ cs. cs ++ literal_lines c.args.indent true value) (chars-literal (codes "|+\n") refl) in
    on_ok_weaker c.write_literal-in-LiteralKeep.result
    (subst (λ cs. g.S.Sink.Takes c.args.sink.now cs c.write_literal-in-LiteralKeep.new.sink)
    (header ∙ value_keep c.args.indent value (sym c.in-LiteralKeep.ensures)))
    c.write_literal-in-LiteralKeep.ensures
