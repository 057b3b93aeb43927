-- The bytes are put in two parts, if there are two.
use Rattle.std.proofs.Common.{ℕ, List, ◌++◌, arith, length, length-append, subst, sym, take}
use Rattle.conf_session.proofs.{Prelude.{Appends, Appends-trans}, HandedLemmas.hands-both, PassedLemmas.take-beyond}
use Rattle.conf_session.proofs.SinkLemmas.{first-acknowledged, last-acknowledged}
use Rattle.conf_session.proofs.unwritten.put_both.Goals as goal

pub put_some-requires : goal.put_some-requires
put_some-requires g c =
    first-acknowledged g.D.Disk.model (g.S.AnswerSink.taken c.args.sink.now) c.args.store.now c.args.text.now
    c.args.last.now c.requires.acknowledged

pub put_some-requires-2 : goal.put_some-requires-2
put_some-requires-2 g c =
    let taken = g.S.AnswerSink.taken in
    last-acknowledged g.D.Disk.model (taken c.args.sink.now) c.args.store.now c.args.text.now c.args.last.now
    c.requires.acknowledged (taken c.put_some.new.sink) c.in_default.ensures.whole

pub returns-in-Ok-clause-hands : goal.returns-in-Ok-clause-hands
returns-in-Ok-clause-hands g c =
    let had = g.S.AnswerSink.handings in
    hands-both (had c.args.sink.now) (had c.put_some.new.sink) (had c.put_some-2.new.sink)
    (g.D.Disk.model.moment c.args.store.now.disk) (length c.args.text.now) (length c.args.last.now)
    (length (c.args.text.now ++ c.args.last.now)) c.put_some.ensures.hands c.put_some-2.ensures.hands
    (let sum = length-append c.args.text.now c.args.last.now in omega (arith, sum))

pub returns-in-Err-put_some-clause-prefix : goal.returns-in-Err-put_some-clause-prefix
returns-in-Err-put_some-clause-prefix g c =
    let taken = g.S.AnswerSink.taken in
    subst (λ (l : List ℕ). Appends (taken c.args.sink.now) (taken c.put_some-2.new.sink) l)
    (sym (take-beyond c.in-Err-put_some.count c.args.text.now c.args.last.now))
    (Appends-trans (taken c.args.sink.now) (taken c.put_some.new.sink) (taken c.put_some-2.new.sink) c.args.text.now
    (take c.in-Err-put_some.count c.args.last.now) c.in_default.ensures.whole c.in-Err-put_some.ensures.prefix)

pub returns-in-Err-put_some-clause-hands : goal.returns-in-Err-put_some-clause-hands
returns-in-Err-put_some-clause-hands g c =
    let had = g.S.AnswerSink.handings in
    hands-both (had c.args.sink.now) (had c.put_some.new.sink) (had c.put_some-2.new.sink)
    (g.D.Disk.model.moment c.args.store.now.disk) (length c.args.text.now) (length c.args.last.now)
    (length (c.args.text.now ++ c.args.last.now)) c.put_some.ensures.hands c.put_some-2.ensures.hands
    (let sum = length-append c.args.text.now c.args.last.now in omega (arith, sum))
