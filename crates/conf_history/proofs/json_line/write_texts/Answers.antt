use Rattle.std.proofs.Common.{subst, sym, arith}
use Rattle.conf_history.{proofs.{Prelude.{drop_all, drop_more, tree_of}, LineLemmas.no_key}, specs.{AboutKeys.keys_of, JsonLogs.texts_json}}
use Rattle.conf_history.proofs.json_line.write_texts.Goals as goal

pub loop-key-preserved : goal.loop-key-preserved
loop-key-preserved g c =
    let l = c.loop-key in
    let t = tree_of c.args.about.now in
    let here = drop_more c.args.keys.now l.key-index no_key (omega arith) in
    λ end left. l.invariant end (subst (λ keys. g.S.Sink.Takes l.sink (texts_json (keys_of keys) t) end) (sym here)
    (g.met.S.Sink.takes_both _ _ _ _ _ c.in_ok-write_text.ensures left))

pub returns : goal.returns
returns g c =
    let l = c.loop-key in
    let t = tree_of c.args.about.now in
    let none = drop_all l.key-index c.args.keys.now (omega arith) in
    l.invariant l.sink (subst (λ keys. g.S.Sink.Takes l.sink (texts_json (keys_of keys) t) l.sink) (sym none)
    (g.met.S.Sink.takes_none l.sink))
