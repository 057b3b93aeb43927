use Rattle.std.proofs.Common.{◌++◌, codes, refl, subst}
use Rattle.conf_history.{proofs.Prelude.{chars, on_ok_weaker, in_double_quotes, ascii}, specs.Logs.label}
use Rattle.conf_history.proofs.line.write_labelled.Goals as goal

pub returns-in-Some : goal.returns-in-Some
returns-in-Some g c =
    let start = c.args.sink.now in
    let end = c.write_at.new.sink in
    let key = chars c.args.key.now in
    on_ok_weaker c.write_at.result
    (λ written. subst (λ found. g.S.Sink.Takes start (label key found) end) c.in-Some.ensures
    (subst (λ cs. g.S.Sink.Takes start (cs ++ key ++ codes " " ++ in_double_quotes (chars c.in-Some.text.now)) end)
    (ascii (codes " ") refl) written))
    c.write_at.ensures
