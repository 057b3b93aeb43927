use Rattle.std.proofs.Common.{codes, refl, subst}
use Rattle.tree_hidden.proofs.Prelude.{chars-literal, on_ok_weaker}
use Rattle.tree_hidden.proofs.json.write_mark.Goals as goal

pub returns : goal.returns
returns g c =
    on_ok_weaker c.put_text.result
    (subst (λ cs. g.S.Sink.Takes c.args.sink.now cs c.put_text.new.self) (chars-literal (codes "hidden") refl))
    c.put_text.ensures
