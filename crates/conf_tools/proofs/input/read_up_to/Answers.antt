-- What was read so far and what the last read gave are what the reader lost.
use Rattle.std.proofs.Common.{[], ◌++◌, ◌≤◌, length, take, sym, Ok, refl, ap, ◌∙◌, append-nil, subst, arith}
use Rattle.conf_tools.proofs.Prelude.{Consumes-trans, Consumes-kept, common_steps, take-append-le, Consumes, ReadConsumes}
use Rattle.conf_tools.proofs.input.read_up_to.Goals.{in-Ok+in_ok-extend_from_slice-in-Ok, in-Err}
use Rattle.conf_tools.proofs.input.read_up_to.Goals as goal

pub returns-then-room-eq0-clause-ok : goal.returns-then-room-eq0-clause-ok
returns-then-room-eq0-clause-ok g c =
    record { taken = c.loop.invariant.1; within = c.loop.invariant.0; at_end = λ h. absurd (omega (arith, h, c.loop.bytes.ok.0)) }

pub returns-in-Ok-eq0-clause-ok : goal.returns-in-Ok-eq0-clause-ok
returns-in-Ok-eq0-clause-ok g c =
    let left = g.R.Read.remaining c.read.new.self in
    let read = subst (λ r. ReadConsumes (g.R.Read.remaining c.loop.reader) left r c.read.new.buf)
    (c.in-Ok-eq0.is ∙ ap Ok c.in-Ok-eq0.field-0-test) c.read.ensures.bytes in
    let joined = Consumes-trans _ _ _ c.loop.bytes.items [] c.loop.invariant.1 read.0 in
    record {
      taken = subst (Consumes (g.R.Read.remaining c.args.reader.now) left) (append-nil c.loop.bytes.items) joined;
      within = c.loop.invariant.0;
      at_end = λ _. read.1 refl (grind (arith, common_steps));
    }

pub returns-then-room-eq0-clause-bounded : goal.returns-then-room-eq0-clause-bounded
returns-then-room-eq0-clause-bounded g c =
    record { bytes = c.loop.bytes.items; taken = c.loop.invariant.1; within = c.loop.invariant.0 }

pub returns-in-Ok-eq0-clause-bounded : goal.returns-in-Ok-eq0-clause-bounded
returns-in-Ok-eq0-clause-bounded g c =
    let left = g.R.Read.remaining c.read.new.self in
    let read = subst (λ r. ReadConsumes (g.R.Read.remaining c.loop.reader) left r c.read.new.buf)
    (c.in-Ok-eq0.is ∙ ap Ok c.in-Ok-eq0.field-0-test) c.read.ensures.bytes in
    let joined = Consumes-trans _ _ _ c.loop.bytes.items [] c.loop.invariant.1 read.0 in
    record {
      bytes = c.loop.bytes.items;
      taken = subst (Consumes (g.R.Read.remaining c.args.reader.now) left) (append-nil c.loop.bytes.items) joined;
      within = c.loop.invariant.0;
    }

pub returns-in_err-extend_from_slice-in-Ok-clause-bounded : goal.returns-in_err-extend_from_slice-in-Ok-clause-bounded
returns-in_err-extend_from_slice-in-Ok-clause-bounded g c = record {
  bytes = c.loop.bytes.items ++ take c.in-Ok.count c.read.new.buf;
  taken = Consumes-trans _ _ _ c.loop.bytes.items _ c.loop.invariant.1 c.in-Ok.ensures.bytes.0;
  within = grind (arith, common_steps);
}

pub loop-preserved : goal.loop-preserved
loop-preserved g c =
    let first = g.R.Read.remaining c.args.reader.now in
    let left = g.R.Read.remaining c.read.new.self in
    elim c.match-read.branch [
      | in-Ok+in_ok-extend_from_slice-in-Ok w ↦
          let read = take-append-le w.in-Ok.count c.read.new.buf _ w.in-Ok.ensures.bound.0 in
          let joined = ap (λ b. b.items) w.bytes-is ∙ w.in_ok-extend_from_slice-in-Ok.ensures.items
          ∙ ap (λ xs. c.loop.bytes.items ++ xs) read in (
            subst (λ xs. length xs ≤ c.args.most) (sym joined) (grind (arith, common_steps)),
            subst (Consumes first left) (sym joined) (Consumes-trans _ _ _ c.loop.bytes.items _ c.loop.invariant.1 w.in-Ok.ensures.bytes.0),
          )
      | in-Err w ↦ (
        subst (λ b. length b.items ≤ c.args.most) (sym w.bytes-is) c.loop.invariant.0,
        subst (λ b. Consumes first left b.items) (sym w.bytes-is)
            (Consumes-kept _ _ _ c.loop.bytes.items c.loop.invariant.1 w.in-Err.ensures.bytes),
      )
    ]
