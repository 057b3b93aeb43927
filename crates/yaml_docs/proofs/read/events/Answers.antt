use Rattle.std.{proofs.Common.{refl, subst, ◌≡◌}, specs.Prelude.{List, None, Some, ℕ}}
use Rattle.yaml_docs.proofs.{Prelude.{IsUtf8, chars, events_of, Refuses}, Readings.{bytes_read, ranges_read, syntax_refused}}
use Rattle.{yaml_docs.specs.Sections.stream_meaning, yaml_events.specs.declared.fault.ScanFault.ScanFault}
use Rattle.yaml_docs.proofs.read.events.Goals as goal

pub returns-in-Ok-stream-clause-reads : goal.returns-in-Ok-stream-clause-reads
returns-in-Ok-stream-clause-reads c =
    let bytes = c.args.bytes.now in
    let utf8 : IsUtf8 bytes = c.in-Ok.ensures.valid.0 refl in
    let found : stream_meaning (chars bytes) ≡ Some (events_of c.in-Ok-stream.events) =
    subst (λ (t : List ℕ). stream_meaning (chars t) ≡ Some (events_of c.in-Ok-stream.events)) c.in-Ok.ensures.text
    c.in-Ok-stream.ensures.found in
    record {
      text = record { short = c.if-bytes-max.false; utf8 = utf8 };
      reads = bytes_read bytes (events_of c.in-Ok-stream.events) utf8 found;
    }

pub returns-in-Ok-stream-clause-in_order : goal.returns-in-Ok-stream-clause-in_order
returns-in-Ok-stream-clause-in_order c =
    let read = returns-in-Ok-stream-clause-reads c in
    ranges_read c.args.bytes.now (events_of c.in-Ok-stream.events) read.text.utf8 read.reads

pub returns-in-Err-At-clause-refused : goal.returns-in-Err-At-clause-refused
returns-in-Err-At-clause-refused c =
    let bytes = c.args.bytes.now in
    let utf8 : IsUtf8 bytes = c.in-Ok.ensures.valid.0 refl in
    let refused : stream_meaning (chars c.in-Ok.text.now) ≡ None =
    subst (λ (fault : ScanFault). Refuses fault (stream_meaning (chars c.in-Ok.text.now) ≡ None))
    c.in-Err-At.field-0-is c.in-Err-At.ensures.none in
    let none : stream_meaning (chars bytes) ≡ None = subst (λ (t : List ℕ). stream_meaning (chars t) ≡ None) c.in-Ok.ensures.text refused in
    syntax_refused bytes c.args.max c.syntax.result (record { short = c.if-bytes-max.false; utf8 = utf8 }) none c.syntax.ensures

pub returns-in-Err-OutOfMemory-clause-refused : goal.returns-in-Err-OutOfMemory-clause-refused
returns-in-Err-OutOfMemory-clause-refused c = record { short = c.if-bytes-max.false; utf8 = c.in-Ok.ensures.valid.0 refl }
