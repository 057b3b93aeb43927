-- The first piece is a base, or the file is no store.
use Rattle.std.{proofs.Common.subst, specs.Prelude.Ok}
use Rattle.conf_history.proofs.{Prelude.{store_limit, Advances, AdvancesToPiece, AdvancesToEnd, piece_or_rest}, WalkLemmas.own-limits}
use Rattle.conf_history.proofs.WalkLemmas.{placed, no-piece, no-base, begun}
use Rattle.conf_history.proofs.walk.Walk.begin.Goals as goal

pub returns-in-Ok-false-clause-refused : goal.returns-in-Ok-false-clause-refused
returns-in-Ok-false-clause-refused g c =
    let given = g.R.Read.remaining c.args.reader.now in
    let left = g.R.Read.remaining c.advance.new.reader in
    let old = c.in_ok-pieces.pieces in
    let now = c.advance.new.self in
    let end : AdvancesToEnd store_limit store_limit given left old now =
    subst (λ b. Advances store_limit store_limit given left old now (Ok b)) c.in-Ok-false.field-0-test
    (own-limits given left old now (Ok c.in-Ok-false.field-0) c.in_ok-pieces.ensures.sound c.in-Ok-false.ensures) in
    no-piece given left old now c.in_ok-pieces.ensures.unread.0 c.in_ok-pieces.ensures.unread.1 end

pub returns-clause-ok : goal.returns-clause-ok
returns-clause-ok g c =
    let given = g.R.Read.remaining c.args.reader.now in
    let left = g.R.Read.remaining c.advance.new.reader in
    let old = c.in_ok-pieces.pieces in
    let now = c.advance.new.self in
    let unread = c.in_ok-pieces.ensures.unread in
    let first : AdvancesToPiece store_limit store_limit given left old now =
    subst (λ b. Advances store_limit store_limit given left old now (Ok b)) c.in-Ok-true.field-0-test
    (own-limits given left old now (Ok c.in-Ok-true.field-0) c.in_ok-pieces.ensures.sound c.in-Ok-true.ensures) in
    let after = placed c.start.result c.after-place.result (piece_or_rest now) c.piece.result.now c.start.ensures
    c.piece.ensures c.after-place.ensures in
    record {
      base = λ s is. begun given left old now unread.0 unread.1 s c.after-place.result first is after;
      none = λ other. no-base given left old now unread.0 unread.1 c.one_list_of_pieces.ensures.some first other;
    }
