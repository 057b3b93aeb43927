-- What follows the bad piece is counted.
use Rattle.std.proofs.Common.{refl, ap, ◌∙◌, ◌++◌}
use Rattle.conf_history.{specs.{BadPieces.zeros_of, Prelude.is_several, Walks.with_state}, proofs.Prelude.{concat, err_from_is_err_and}}
use Rattle.conf_history.proofs.{Prelude.piece_or_rest, SurveyLemmas.{past-piece, surveyed-bad}}
use Rattle.conf_history.proofs.walk.Walk.find_after.Goals as goal

pub returns-in_err-pieces-clause-refused : goal.returns-in_err-pieces-clause-refused
returns-in_err-pieces-clause-refused g c = λ given s pieces start commands p.
    let walk = with_state c.args.self.now s in
    let past = past-piece given (g.R.Read.remaining c.args.reader.now) walk pieces start commands p in
    let fails = c.in_err-pieces.ensures given (concat pieces ++ piece_or_rest walk.pieces) past.0 past.1 in
    let p = err_from_is_err_and c.from_residual.result c.from_residual.ensures.1 in
    rw (p.1, p.2) fails

pub returns-clause-ok : goal.returns-clause-ok
returns-clause-ok g c = λ given s pieces start commands p here base count kept.
    let walk = with_state c.args.self.now s in
    let mid = g.R.Read.remaining c.args.reader.now in
    let left = g.R.Read.remaining c.look_behind.new.reader in
    let past = past-piece given mid walk pieces start commands p in
    let follows = c.in_ok-pieces.ensures given (concat pieces ++ piece_or_rest walk.pieces) past.0 past.1 in
    surveyed-bad (is_several c.args.waiting) given left walk pieces start commands mid c.look_behind.new.pieces
    (record {
      piece = c.args.piece;
      zeros = c.zeros_of-zeros.result;
      following = c.in_ok-pieces.field-0.pieces;
      kind = c.in_ok-pieces.field-0.kind;
    })
    p here (c.zeros_of-zeros.ensures ∙ ap
    (zeros_of c.args.self.now.place.byte) c.piece.ensures) c.in_ok-pieces.field-0 refl follows c.args.base
    c.args.count base count kept c.findings.result c.findings.ensures
