-- Each turn performs one piece, and writes what is told of its command.
use Rattle.std.{proofs.Common.{◌≡◌, ◌∙◌, inl, sym, ap, subst, ℕ, ◌+◌, ◌<◌, List, [], ◌∷◌, ◌++◌, length, take}, specs.Prelude.Ok}
use Rattle.conf_history.{specs.{Prelude.is_several, Logs.{TellsEntry, entry_bytes}, Walks.with_state}, proofs.Prelude.Appends}
use Rattle.conf_history.proofs.{Prelude.{Appends-nil, err_from_is_err_and, piece_or_rest}, ReadingLemmas.goes-further}
use Rattle.conf_history.proofs.{LogLemmas.{begins-empty, cuts-log, logged-more, logs-all, start-fails, stops-log}, WalkLemmas.some-map}
use Rattle.conf_history.proofs.log.log_each.Goals as goal

pub returns-in_err-walk-clause-refused : goal.returns-in_err-walk-clause-refused
returns-in_err-walk-clause-refused g c =
    let given = g.R.Read.remaining c.args.reader.now in
    let fails = start-fails (is_several c.args.waiting) c.args.request given (g.W.Write.contents c.args.writer.now) c.args.at
    c.in_err-walk.field-0.0
    (some-map given _ _ (λ bytes r. inl r) c.in_err-walk.ensures.refused) in
    let p = err_from_is_err_and c.from_residual.result c.from_residual.ensures.1 in
    rw (p.1, p.2) fails

pub returns-in_err-part-clause-refused : goal.returns-in_err-part-clause-refused
returns-in_err-part-clause-refused g c =
    let given = g.R.Read.remaining c.args.reader.now in
    let fails = start-fails (is_several c.args.waiting) c.args.request given (g.W.Write.contents c.args.writer.now) c.args.at
    c.in_err-part.field-0.0
    (c.in_err-part.ensures.refused given (g.R.Read.remaining c.begin.new.reader) c.in_ok-walk.ensures.ok) in
    let p = err_from_is_err_and c.from_residual-in_err-part.result c.from_residual-in_err-part.ensures.1 in
    rw (p.1, p.2) fails

pub records-init : goal.records-init
records-init g c =
    let pieces = piece_or_rest c.in_ok-walk.walk.pieces ∷ [] in
    let held = g.W.Write.contents c.args.writer.now in
    let part = c.in_ok-part.field-0.part in
    let begun = c.in_ok-part.ensures.ok (g.R.Read.remaining c.args.reader.now) (g.R.Read.remaining c.begin.new.reader)
    c.in_ok-walk.ensures.ok in
    rw c.new-logged.ensures.part
    (record {
      walked = (pieces, part, [], begun, subst (Appends held held) (sym (begins-empty c.args.request pieces part)) (Appends-nil held));
      form = c.new-logged.ensures.request;
    })

pub next-requires : goal.next-requires
next-requires g c =
    let walked = c.records.invariant.walked in
    record { given = g.R.Read.remaining c.args.reader.now; pieces = walked.0; start = walked.1; commands = walked.2; on = walked.3 }

pub returns-in_err-next-clause-refused : goal.returns-in_err-next-clause-refused
returns-in_err-next-clause-refused g c =
    let given = g.R.Read.remaining c.args.reader.now in
    let walked = c.records.invariant.walked in
    let fails = stops-log c.args.request given (g.R.Read.remaining c.records.reader) (with_state c.records.walk c.records.logged.part)
    walked.0 walked.1 walked.2 walked.3.between c.one_list_of_pieces.ensures.some
    (g.W.Write.contents c.args.writer.now) (g.W.Write.contents c.records.writer) walked.4 (is_several c.args.waiting) c.args.at
    c.in_err-next.field-0.0
    (c.in_err-next.ensures.stops given walked.0 walked.1 walked.2 walked.3) in
    let p = err_from_is_err_and c.from_residual-in_err-next.result c.from_residual-in_err-next.ensures.1 in
    rw (p.1, p.2) fails

pub returns-in_err-put_bytes-clause-refused : goal.returns-in_err-put_bytes-clause-refused
returns-in_err-put_bytes-clause-refused g c =
    let given = g.R.Read.remaining c.args.reader.now in
    let left = g.R.Read.remaining c.next.new.reader in
    let walked = c.records.invariant.walked in
    let old = with_state c.records.walk c.records.logged.part in
    let piece = piece_or_rest c.next.new.self.pieces in
    let goes = c.in_ok-next.ensures.goes given walked.0 walked.1 walked.2 walked.3 (ap Ok c.if-branch.true) in
    let form : c.next.new.held.request ≡ c.args.request = goes.told.0 ∙ c.records.invariant.form in
    let told = subst (λ form. TellsEntry form c.next.new.held.told (old.state.count + 1) goes.command) (sym goes.told.0) goes.told.1 in
    let same : c.entry.result.now ≡ entry_bytes c.args.request (old.state.count + 1) piece goes.command =
    c.entry.ensures (old.state.count + 1) goes.command told
    ∙ ap (λ form. entry_bytes form (old.state.count + 1) c.piece.result.now goes.command) form
    ∙ ap (λ bytes. entry_bytes c.args.request (old.state.count + 1) bytes goes.command) c.piece.ensures in
    let Part : List ℕ → Type 0 = λ bytes. (kept : ℕ) × (kept < length bytes)
    × Appends (g.W.Write.contents c.records.writer) (g.W.Write.contents c.put_bytes.new.writer) (take kept bytes) in
    let fails = cuts-log c.args.request given (g.R.Read.remaining c.records.reader) old walked.0 walked.1 walked.2 walked.3.between
    c.one_list_of_pieces.ensures.some (g.W.Write.contents c.args.writer.now) (g.W.Write.contents c.records.writer) walked.4
    (g.W.Write.contents c.put_bytes.new.writer) piece goes.command (is_several c.args.waiting) c.args.at left
    (with_state c.next.new.self c.next.new.held.part)
    goes.on.between (subst Part same c.in_err-put_bytes.ensures.part) c.in_err-put_bytes.field-0.0 c.in_err-put_bytes.ensures.fault in
    let p = err_from_is_err_and c.from_residual-in_err-put_bytes.result c.from_residual-in_err-put_bytes.ensures.1 in
    rw (p.1, p.2) fails

pub records-smaller : goal.records-smaller
records-smaller g c =
    let given = g.R.Read.remaining c.args.reader.now in
    let walked = c.records.invariant.walked in
    let goes = c.in_ok-next.ensures.goes given walked.0 walked.1 walked.2 walked.3 (ap Ok c.if-branch.true) in
    goes-further given (g.R.Read.remaining c.records.reader) (g.R.Read.remaining c.next.new.reader)
    (with_state c.records.walk c.records.logged.part) (with_state c.next.new.self c.next.new.held.part)
    walked.0 (piece_or_rest c.next.new.self.pieces) walked.1 walked.2 (walked.2 ++ goes.command ∷ []) walked.3.between
    goes.closes goes.on.between

pub records-preserved : goal.records-preserved
records-preserved g c =
    let given = g.R.Read.remaining c.args.reader.now in
    let left = g.R.Read.remaining c.next.new.reader in
    let walked = c.records.invariant.walked in
    let old = with_state c.records.walk c.records.logged.part in
    let piece = piece_or_rest c.next.new.self.pieces in
    let goes = c.in_ok-next.ensures.goes given walked.0 walked.1 walked.2 walked.3 (ap Ok c.if-branch.true) in
    let form : c.next.new.held.request ≡ c.args.request = goes.told.0 ∙ c.records.invariant.form in
    let told = subst (λ form. TellsEntry form c.next.new.held.told (old.state.count + 1) goes.command) (sym goes.told.0) goes.told.1 in
    let same : c.entry.result.now ≡ entry_bytes c.args.request (old.state.count + 1) piece goes.command =
    c.entry.ensures (old.state.count + 1) goes.command told
    ∙ ap (λ form. entry_bytes form (old.state.count + 1) c.piece.result.now goes.command) form
    ∙ ap (λ bytes. entry_bytes c.args.request (old.state.count + 1) bytes goes.command) c.piece.ensures in
    record {
      walked = (
        walked.0 ++ piece ∷ [],
        walked.1,
        walked.2 ++ goes.command ∷ [],
        goes.on,
        logged-more c.args.request given (g.R.Read.remaining c.records.reader) old walked.0 walked.1 walked.2 walked.3.between
            c.one_list_of_pieces.ensures.some (g.W.Write.contents c.args.writer.now) (g.W.Write.contents c.records.writer) walked.4
            (g.W.Write.contents c.put_bytes.new.writer) piece goes.command
            (subst (Appends (g.W.Write.contents c.records.writer) (g.W.Write.contents c.put_bytes.new.writer)) same
            c.in_ok-put_bytes.ensures.whole),
      );
      form = form;
    }

pub returns-clause-ok : goal.returns-clause-ok
returns-clause-ok g c =
    let given = g.R.Read.remaining c.args.reader.now in
    let walked = c.records.invariant.walked in
    let ended = c.in_ok-next.ensures.ended given walked.0 walked.1 walked.2 walked.3 (ap Ok c.if-branch.false) in
    logs-all c.args.request given (g.R.Read.remaining c.records.reader) (with_state c.records.walk c.records.logged.part)
    walked.0 walked.1 walked.2 walked.3.between c.one_list_of_pieces.ensures.some
    (g.W.Write.contents c.args.writer.now) (g.W.Write.contents c.records.writer) walked.4 (is_several c.args.waiting) c.args.at
    (g.R.Read.remaining c.next.new.reader) (with_state c.next.new.self c.next.new.held.part) ended.0
