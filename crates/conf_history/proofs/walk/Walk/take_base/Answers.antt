-- A base begins the walk, also once it was taken out of the reader.
use Rattle.std.{proofs.Common.{rules, refl, subst, inl, inr, ◌<◌, [], ◌∷◌}, specs.Prelude.{ℕ, IfSome, ◌≤◌}}
use Rattle.conf_history.proofs.{Prelude.{err_from_is_err_and, piece_or_rest, store_limit, IsBase, IsNoBase}, WalkLemmas.any-bytes}
use Rattle.conf_history.{proofs.WalkLemmas.{some-map, starts-after, taken-out}, specs.Walks.with_state}
use Rattle.conf_history.proofs.walk.Walk.take_base.Goals as goal

pub returns-in_err-held-clause-refused : goal.returns-in_err-held-clause-refused
returns-in_err-held-clause-refused g c =
    let p = err_from_is_err_and c.from_residual.result c.from_residual.ensures.1 in
    rw (p.1, p.2) (λ given left begins. any-bytes given _ (λ bytes. inl tt))

pub returns-in_default-clause-refused : goal.returns-in_default-clause-refused
returns-in_default-clause-refused g c = λ given left begins.
    let none : IsNoBase c.take_piece.result.items = search rules in
    some-map given _ _ (λ bytes r. inl r) (begins.none (subst IsNoBase c.take_piece.ensures.taken none))

pub returns-then-is_before-clause-refused : goal.returns-then-is_before-clause-refused
returns-then-is_before-clause-refused g c = λ given left begins.
    let walk = c.args.self.now in
    let held = g.T.Replayed.contents c.in-Some.held in
    let taken = c.take_piece.ensures in
    let base : IsBase c.take_piece.result.items held = search rules in
    let between = begins.base held (subst (λ bytes. IsBase bytes held) taken.taken base) in
    let before = c.is_before.ensures.before c.if-is_before.true in
    some-map given _ _ (λ bytes starts. inr (refl, before.0, before.1, starts))
    (starts-after given left (with_state walk held) (piece_or_rest walk.pieces ∷ []) held [] c.one_list_of_pieces.ensures.some between
    before.0 (subst (λ n. before.0 < n) c.accepted.ensures.count before.2))

pub returns-clause-ok : goal.returns-clause-ok
returns-clause-ok g c = λ given left begins.
    let walk = c.args.self.now in
    let held = g.T.Replayed.contents c.in-Some.held in
    let taken = c.take_piece.ensures in
    let base : IsBase c.take_piece.result.items held = search rules in
    let between = begins.base held (subst (λ bytes. IsBase bytes held) taken.taken base) in
    record {
      between = taken-out given left (with_state walk held) c.take_piece.new.self (piece_or_rest walk.pieces ∷ []) held []
          taken.ahead taken.read (taken.sound store_limit store_limit between.limits) between;
      up_to = subst (λ (n : ℕ). IfSome c.args.at (λ number. n ≤ number)) c.accepted.ensures.count
          (c.is_before.ensures.not_before c.if-is_before.false);
    }
