-- Each turn performs one piece, and copies it.
use Rattle.std.{proofs.Common.{sym, ◌∙◌, ap, [], ◌∷◌, ◌++◌}, specs.Prelude.{None, Ok}}
use Rattle.conf_history.{specs.{Prelude.is_several, Walks.with_state}, proofs.Prelude.{concat, append-nil, err_from_is_err_and}}
use Rattle.conf_history.proofs.{Prelude.piece_or_rest, CopyLemmas.reads-copy, ReadingLemmas.{goes-further, fails-reading, refuses-start}}
use Rattle.conf_history.proofs.WalkLemmas.{any-bytes, concat-last}
use Rattle.conf_history.proofs.copying.read_copy.Goals as goal

pub returns-in_err-part-clause-refused : goal.returns-in_err-part-clause-refused
returns-in_err-part-clause-refused g c =
    let given = g.R.Read.remaining c.args.reader.now in
    let fails = refuses-start (is_several c.args.waiting) given None c.in_err-part.field-0.0
    (c.in_err-part.ensures.refused given (g.R.Read.remaining c.begin.new.reader) c.in_ok-walk.ensures.ok) in
    let p = err_from_is_err_and c.from_residual-in_err-part.result c.from_residual-in_err-part.ensures.1 in
    rw (p.1, p.2) fails

pub records-init : goal.records-init
records-init g c =
    let piece = piece_or_rest c.in_ok-walk.walk.pieces in (
      piece ∷ [],
      c.in_ok-part.part.part,
      [],
      c.in_ok-part.ensures.ok (g.R.Read.remaining c.args.reader.now) (g.R.Read.remaining c.begin.new.reader) c.in_ok-walk.ensures.ok,
      c.in_ok-copy.ensures.items ∙ c.piece.ensures ∙ sym (append-nil piece),
    )

pub next-requires : goal.next-requires
next-requires g c =
    let walked = c.records.invariant in
    record { given = g.R.Read.remaining c.args.reader.now; pieces = walked.0; start = walked.1; commands = walked.2; on = walked.3 }

pub returns-in_err-next-clause-refused : goal.returns-in_err-next-clause-refused
returns-in_err-next-clause-refused g c =
    let given = g.R.Read.remaining c.args.reader.now in
    let walked = c.records.invariant in
    let fails = fails-reading (is_several c.args.waiting) given None walked.0 c.in_err-next.field-0.0
    (c.in_err-next.ensures.stops given walked.0 walked.1 walked.2 walked.3) in
    let p = err_from_is_err_and c.from_residual-in_err-next.result c.from_residual-in_err-next.ensures.1 in
    rw (p.1, p.2) fails

pub records-smaller : goal.records-smaller
records-smaller g c =
    let given = g.R.Read.remaining c.args.reader.now in
    let walked = c.records.invariant in
    let goes = c.in_ok-next.ensures.goes given walked.0 walked.1 walked.2 walked.3 (ap Ok c.if-branch.true) in
    goes-further given (g.R.Read.remaining c.records.reader) (g.R.Read.remaining c.next.new.reader)
    (with_state c.records.walk c.records.part.part) (with_state c.next.new.self c.next.new.held.part)
    walked.0 (piece_or_rest c.next.new.self.pieces) walked.1 walked.2 (walked.2 ++ goes.command ∷ []) walked.3.between
    goes.closes goes.on.between

pub records-preserved : goal.records-preserved
records-preserved g c =
    let walked = c.records.invariant in
    let goes = c.in_ok-next.ensures.goes (g.R.Read.remaining c.args.reader.now) walked.0 walked.1 walked.2 walked.3
    (ap Ok c.if-branch.true) in
    let piece = piece_or_rest c.next.new.self.pieces in (
      walked.0 ++ piece ∷ [],
      walked.1,
      walked.2 ++ goes.command ∷ [],
      goes.on,
      c.in_ok-extend_from_slice.ensures.items ∙ ap (λ copy. copy ++ c.piece-in-records.result.now) walked.4
          ∙ ap (λ l. concat walked.0 ++ l) c.piece-in-records.ensures ∙ sym (concat-last walked.0 piece),
    )

pub returns-in_err-extend_from_slice-clause-refused : goal.returns-in_err-extend_from_slice-clause-refused
returns-in_err-extend_from_slice-clause-refused g c =
    let p = err_from_is_err_and c.from_residual-in_err-extend_from_slice.result
    c.from_residual-in_err-extend_from_slice.ensures.1 in
    rw (p.1, p.2) (any-bytes (g.R.Read.remaining c.args.reader.now) _ (λ bytes. tt))

pub returns-clause-ok : goal.returns-clause-ok
returns-clause-ok g c =
    let given = g.R.Read.remaining c.args.reader.now in
    let walked = c.records.invariant in
    let left = g.R.Read.remaining c.next.new.reader in
    let walk = with_state c.next.new.self c.next.new.held.part in
    let ended = c.in_ok-next.ensures.ended given walked.0 walked.1 walked.2 walked.3 (ap Ok c.if-branch.false) in
    reads-copy (is_several c.args.waiting) given left walk walked.0 walked.1 walked.2 c.records.copy.items walked.4 ended.0
