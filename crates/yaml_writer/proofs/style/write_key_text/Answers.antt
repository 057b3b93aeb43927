use Rattle.std.proofs.Common.{subst, sym, ◌∙◌}
use Rattle.yaml_writer.proofs.{Prelude.{on_ok_weaker, chars}, StyleLemmas.{key_plain, key_quoted}}
use Rattle.yaml_writer.proofs.style.write_key_text.Goals as goal

pub returns-in-Plain : goal.returns-in-Plain
returns-in-Plain g c =
    let key = chars c.args.key.now in
    on_ok_weaker c.put_text.result
    (subst (λ cs. g.S.Sink.Takes c.args.sink.now cs c.put_text.new.self) (sym (key_plain key (sym c.in-Plain.ensures))))
    c.put_text.ensures

pub returns-in_default : goal.returns-in_default
returns-in_default g c =
    let key = chars c.args.key.now in
    on_ok_weaker c.write_quoted.result
    (subst (λ cs. g.S.Sink.Takes c.args.sink.now cs c.write_quoted.new.sink)
    (sym (key_quoted key (λ e. c.in_default.not-Plain (c.key_style.ensures ∙ e)))))
    c.write_quoted.ensures
