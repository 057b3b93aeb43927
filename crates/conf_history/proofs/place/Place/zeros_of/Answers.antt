-- The first zero is one of the piece's bytes.
use Rattle.std.proofs.{Common.{arith, sym, ◌∙◌, ◌≡◌, ◌<◌, ◌∷◌, ℕ, List, length, subst, All}, lemmas.List.Elements.All-head}
use Rattle.memchr.{specs.Find.{Passes, is_byte, places}, proofs.lemmas.CallerLemmas.All-places}
use Rattle.conf_history.proofs.place.Place.zeros_of.Goals as goal

first-within : (piece : List ℕ) (first : ℕ) (others : List ℕ) → places (is_byte 0) piece ≡ first ∷ others → first < length piece
first-within piece first others is =
    let P = λ (k : ℕ). (k < length piece) × Passes (is_byte 0) piece k in
    (All-head P first others (subst (All P) is (All-places (is_byte 0) piece))).0

pub overflow_add-result : goal.overflow_add-result
overflow_add-result c =
    let within = first-within c.args.piece.now c.in-Some.first c.next.new.self
    (sym c.memchr_iter-places.ensures.value ∙ c.in-Some.ensures.steps) in
    let room = c.requires in
    omega (arith, within, room)
