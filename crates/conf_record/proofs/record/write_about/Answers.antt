use Rattle.std.proofs.Common.{◌++◌, codes, refl, sym, ap, subst, arith}
use Rattle.conf_about.{proofs.ReadLemmas.about-good, specs.Abouts.IsAbout}
use Rattle.conf_record.proofs.Prelude.{ascii, on_ok_weaker, key_lines, own_limits, tree_of, value_at}
use Rattle.conf_record.proofs.record.write_about.Goals as goal

pub write_value-requires : goal.write_value-requires
write_value-requires g c =
    let is = subst (λ t. IsAbout (tree_of t)) (sym c.tree-tree.ensures.same) c.tree-tree.ensures.about in
    let good = about-good (tree_of c.tree-tree.result.now) own_limits is
    (record { bytes = omega arith; depth = omega arith; style = omega arith }) in
    record { deep = good.deep; room = omega arith }

pub returns-clause-takes : goal.returns-clause-takes
returns-clause-takes g c =
    let start = c.args.sink.now in
    let end = c.write_value.new.sink in
    let key = subst (λ cs. g.S.Sink.Takes start cs c.put_text.new.self) (ascii (codes "about:") refl) c.in_ok-put_text.ensures in
    on_ok_weaker c.write_value.result
    (λ written. subst (λ t. g.S.Sink.Takes start (key_lines 0 (codes "about") ++ value_at (tree_of t) 0) end) c.tree-tree.ensures.same
    (g.met.S.Sink.takes_both _ _ _ _ _ key written)) c.write_value.ensures
