use Rattle.std.{proofs.{Common.{codes, refl, sym, subst, ◌∙◌}, lemmas.Str.encodes-chars}, specs.Str.chars}
use Rattle.comments_kept.{specs.{Laid.ends_blank, Weaving.WroteBelow}, proofs.ScalarParts.{is_plain, is_double, is_strip, is_clip, is_keep}}
use Rattle.comments_kept.proofs.ScalarParts.{plain_woven, double_woven, short_literal, filled_literal}
use Rattle.yaml_writer.proofs.Prelude.{on_ok_weaker, chars-literal}
use Rattle.comments_kept.proofs.scalars.weave_scalar.Goals as goal

pub weave_literal-requires-clause-header : goal.weave_literal-requires-clause-header
weave_literal-requires-clause-header c =
    chars-literal (codes "|-") refl ∙ (is_strip (chars c.args.text.now) (sym c.in-LiteralStrip.ensures)).2

pub weave_literal-requires-in-LiteralClip-clause-header : goal.weave_literal-requires-in-LiteralClip-clause-header
weave_literal-requires-in-LiteralClip-clause-header c =
    chars-literal (codes "|") refl ∙ (is_clip (chars c.args.text.now) (sym c.in-LiteralClip.ensures)).2

pub weave_literal-requires-in-LiteralKeep-clause-header : goal.weave_literal-requires-in-LiteralKeep-clause-header
weave_literal-requires-in-LiteralKeep-clause-header c =
    chars-literal (codes "|+") refl ∙ (is_keep (chars c.args.text.now) (sym c.in-LiteralKeep.ensures)).2

pub returns-in_ok-weave_literal-in-LiteralStrip : goal.returns-in_ok-weave_literal-in-LiteralStrip
returns-in_ok-weave_literal-in-LiteralStrip c =
    let value = chars c.args.text.now in
    let p = is_strip value (sym c.in-LiteralStrip.ensures) in
    on_ok_weaker c.put_below.result
    (λ lines. short_literal value c.args.indent c.args.weaver.now c.weave_literal.new.weaver c.put_below.new.weaver p.0 p.1
    c.in_ok-weave_literal-in-LiteralStrip.ensures p.3
    (subst (λ bytes. WroteBelow (ends_blank bytes) c.args.indent c.weave_literal.new.weaver c.put_below.new.weaver)
    (sym (encodes-chars c.args.text.now c.utf8.text)) lines)) c.put_below.ensures

pub returns-in_ok-weave_literal-in-LiteralClip : goal.returns-in_ok-weave_literal-in-LiteralClip
returns-in_ok-weave_literal-in-LiteralClip c =
    let value = chars c.args.text.now in
    let p = is_clip value (sym c.in-LiteralClip.ensures) in
    on_ok_weaker c.put_below-in-LiteralClip.result
    (λ lines. short_literal value c.args.indent c.args.weaver.now c.weave_literal-in-LiteralClip.new.weaver
    c.put_below-in-LiteralClip.new.weaver p.0 p.1 c.in_ok-weave_literal-in-LiteralClip.ensures p.3
    (subst (λ bytes. WroteBelow (ends_blank bytes) c.args.indent c.weave_literal-in-LiteralClip.new.weaver
    c.put_below-in-LiteralClip.new.weaver) (sym (encodes-chars c.args.text.now c.utf8.text)) lines))
    c.put_below-in-LiteralClip.ensures

pub returns-in_ok-weave_literal-in-LiteralKeep : goal.returns-in_ok-weave_literal-in-LiteralKeep
returns-in_ok-weave_literal-in-LiteralKeep c =
    let value = chars c.args.text.now in
    let p = is_keep value (sym c.in-LiteralKeep.ensures) in
    on_ok_weaker c.put_filled_lines.result
    (filled_literal value c.args.indent c.args.weaver.now c.weave_literal-in-LiteralKeep.new.weaver c.put_filled_lines.new.self
    p.0 p.1 c.in_ok-weave_literal-in-LiteralKeep.ensures p.3) c.put_filled_lines.ensures

pub returns-in_ok-put_text-in-Plain : goal.returns-in_ok-put_text-in-Plain
returns-in_ok-put_text-in-Plain c =
    let value = chars c.args.text.now in
    on_ok_weaker c.end_line.result
    (plain_woven value c.args.indent c.args.weaver.now c.put_text.new.self c.end_line.new.self (is_plain value (sym c.in-Plain.ensures))
    c.in_ok-put_text-in-Plain.ensures) c.end_line.ensures

pub returns-in_ok-write_quoted-in-Double : goal.returns-in_ok-write_quoted-in-Double
returns-in_ok-write_quoted-in-Double c =
    let value = chars c.args.text.now in
    let p = is_double value (sym c.in-Double.ensures) in
    on_ok_weaker c.end_line-in-Double.result
    (double_woven value c.args.indent c.args.weaver.now c.write_quoted.new.sink c.end_line-in-Double.new.self p.0 p.1
    c.in_ok-write_quoted-in-Double.ensures) c.end_line-in-Double.ensures
