use Rattle.yaml_tree.proofs.Prelude.{err_from_is_err_and, limits_of}
use Rattle.yaml_tree.proofs.{ReadLemmas.shallow_refused, WriterLemmas.written_to, WriterLemmas.twice_refused, WriterLemmas.depth_refused}
use Rattle.yaml_tree.proofs.documents.Document.write.Goals as goal

pub returns-in_err-keys_differ : goal.returns-in_err-keys_differ
returns-in_err-keys_differ g c = λ bytes is.
    let p = err_from_is_err_and c.from_residual.result c.from_residual.ensures.1 in
    rw (p.1, p.2)
    (shallow_refused bytes (limits_of c.args.limits.now) c.args.self.events _ is.reads is.one c.in_err-keys_differ.ensures)

pub returns-then-not-keys_differ : goal.returns-then-not-keys_differ
returns-then-not-keys_differ g c = λ bytes is.
    twice_refused g.S.Sink.Takes bytes (limits_of c.args.limits.now) c.args.self c.args.sink.now c.write_document.new.sink _ is
    c.in_ok-keys_differ.ensures c.if-not-keys_differ.true

pub returns-then-depth-limits : goal.returns-then-depth-limits
returns-then-depth-limits g c = λ bytes is.
    depth_refused g.S.Sink.Takes bytes (limits_of c.args.limits.now) c.args.self c.args.sink.now c.write_document.new.sink _ is
    c.in_ok-keys_differ.ensures c.if-not-keys_differ.false c.if-depth-limits.true

pub returns : goal.returns
returns g c = λ bytes is.
    written_to g.S.Sink.Takes bytes (limits_of c.args.limits.now) c.args.self c.args.sink.now c.write_document.new.sink _ is
    c.in_ok-keys_differ.ensures c.if-not-keys_differ.false c.if-depth-limits.false
