-- Each turn goes past one piece.
use Rattle.std.{proofs.Common.{rules, ◌+◌, inl, inr, ⊎_elim, ap, arith, subst}, specs.Prelude.Ok}
use Rattle.conf_history.{specs.Prelude.is_several, proofs.Prelude.{Advances, AdvancesToPiece, IsAnyRecord, IsNoRecord, piece_or_rest}}
use Rattle.conf_history.proofs.{Prelude.store_limit, SurveyLemmas.{counts-none, counts-more, counts-few, counts-smaller, known-none}}
use Rattle.conf_history.proofs.{SurveyLemmas.known-counted, WalkLemmas.own-limits}
use Rattle.conf_history.proofs.following.look_behind.Goals as goal

pub pieces-init : goal.pieces-init
pieces-init g c = record {
  so_far = counts-none (g.R.Read.remaining c.args.reader.now) c.args.pieces.now c.requires;
  few = omega arith;
  known = known-none (is_several c.args.waiting) (g.R.Read.remaining c.args.reader.now) c.args.pieces.now c.requires
      (piece_or_rest c.args.pieces.now) _ (search rules);
}

pub pieces-smaller : goal.pieces-smaller
pieces-smaller g c =
    let given = g.R.Read.remaining c.args.reader.now in
    let mid = g.R.Read.remaining c.pieces.reader in
    let left = g.R.Read.remaining c.advance.new.reader in
    let now = c.pieces.pieces in
    let new = c.advance.new.self in
    let so_far = c.pieces.invariant.so_far in
    let next : AdvancesToPiece store_limit store_limit mid left now new =
    subst (λ b. Advances store_limit store_limit mid left now new (Ok b)) c.in-Ok-true.field-0-test
    (own-limits mid left now new (Ok c.in-Ok-true.field-0) so_far.limits c.in-Ok-true.ensures) in
    counts-smaller given mid left c.args.pieces.now now new c.pieces.count so_far next

pub pieces-preserved : goal.pieces-preserved
pieces-preserved g c =
    let given = g.R.Read.remaining c.args.reader.now in
    let mid = g.R.Read.remaining c.pieces.reader in
    let left = g.R.Read.remaining c.advance.new.reader in
    let now = c.pieces.pieces in
    let new = c.advance.new.self in
    let so_far = c.pieces.invariant.so_far in
    let next : AdvancesToPiece store_limit store_limit mid left now new =
    subst (λ b. Advances store_limit store_limit mid left now new (Ok b)) c.in-Ok-true.field-0-test
    (own-limits mid left now new (Ok c.in-Ok-true.field-0) so_far.limits c.in-Ok-true.ensures) in
    let more = counts-more given mid left c.args.pieces.now now new c.pieces.count so_far next in
    record {
      so_far = more;
      few = counts-few given left c.args.pieces.now new (c.pieces.count + 1) c.requires more;
      known = known-counted (is_several c.args.waiting) given mid left c.args.pieces.now now new c.pieces.count so_far next
          (piece_or_rest c.args.pieces.now) c.pieces.is_kept c.in_ok-is_kept-in-Ok-true.is_kept
          c.pieces.invariant.known c.in_ok-is_kept-in-Ok-true.ensures.still
          (λ old is. (let some = c.in_ok-is_kept-in-Ok-true.ensures.some old (ap Ok is) in
          (some.0, subst IsAnyRecord c.piece-in-Ok-true.ensures some.1)))
          (λ old is. ⊎_elim (λ noted. inl noted) (λ none. inr (subst IsNoRecord c.piece-in-Ok-true.ensures none))
          (c.in_ok-is_kept-in-Ok-true.ensures.none old (ap Ok is)));
    }
