use Rattle.std.proofs.Common.{ap, subst, ◌∙◌}
use Rattle.yaml_tree.{proofs.{Prelude.{event_of, shape}, WriterLemmas.wrote}, specs.{OpenParts.open_frames, OpenText.{added, BringsText}}}
use Rattle.yaml_tree.proofs.format.DocumentWriter.take.Goals as goal

pub returns : goal.returns
returns g c = λ start fs writes.
    let s = shape (event_of c.args.event) in
    let parts = ap open_frames c.deref.ensures.value ∙ writes.keeps.frames in
    let lines = subst (λ gs. g.S.Sink.Takes c.args.sink.now (added gs s) c.write_event.new.sink) parts c.in_ok-write_event.ensures.lines in
    let brings = subst (λ gs. BringsText gs s) parts c.in_ok-write_event.ensures.text in
    wrote g.S.Sink.Takes g.met.S.Sink.takes_both start c.args.sink.now c.write_event.new.sink c.args.self.now _ fs s writes
    (c.in_ok-take.ensures fs writes.keeps) c.in_ok-indent.ensures.0 c.in_ok-indent.ensures.1 brings lines
