use Rattle.std.proofs.Common.{◌++◌, codes, refl, subst}
use Rattle.conf_history.proofs.Prelude.{chars, on_ok_weaker, in_double_quotes, ascii}
use Rattle.conf_history.proofs.line.write_delete.Goals as goal

pub returns : goal.returns
returns g c =
    on_ok_weaker c.write_at.result
    (subst
    (λ cs. g.S.Sink.Takes c.args.sink.now (cs ++ chars c.args.name.now ++ codes " "
    ++ in_double_quotes (chars c.args.path.now)) c.write_at.new.sink)
    (ascii (codes " delete ") refl))
    c.write_at.ensures
