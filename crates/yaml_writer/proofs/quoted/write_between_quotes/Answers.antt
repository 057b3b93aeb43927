use Rattle.std.proofs.Common.{sym, ap, ◌∙◌, subst}
use Rattle.yaml_writer.proofs.{Prelude.{on_ok_weaker, list_all, chars, every-bytes}, QuotedLemmas.{quoted_chars-alone, stands_alone-below}}
use Rattle.yaml_writer.specs.Runs.{stands_alone}
use Rattle.yaml_writer.proofs.quoted.write_between_quotes.Goals as goal

pub returns-then-stand_alone : goal.returns-then-stand_alone
returns-then-stand_alone g c =
    let text = c.args.text.now in
    let same = ap (list_all stands_alone) (sym c.as_bytes.ensures.value) in
    let all = sym (every-bytes stands_alone stands_alone-below text c.utf8.text) ∙ same ∙ sym c.stand_alone.ensures
    ∙ c.if-stand_alone.true in
    on_ok_weaker c.put_text.result
    (subst (λ cs. g.S.Sink.Takes c.args.sink.now cs c.put_text.new.self) (sym (quoted_chars-alone (chars text) all)))
    c.put_text.ensures
