use Rattle.std.proofs.Common.{◌++◌, codes, refl, subst}
use Rattle.conf_history.proofs.Prelude.{chars, on_ok_weaker, in_double_quotes, ascii}
use Rattle.conf_history.proofs.line.write_set.Goals as goal

pub returns : goal.returns
returns g c =
    let place = subst
    (λ cs. g.S.Sink.Takes c.args.sink.now (cs ++ chars c.args.name.now ++ codes " "
    ++ in_double_quotes (chars c.args.path.now)) c.write_at.new.sink)
    (ascii (codes " set ") refl) c.in_ok-write_at.ensures in
    on_ok_weaker c.write_value.result (g.met.S.Sink.takes_both _ _ _ _ _ place) c.write_value.ensures
