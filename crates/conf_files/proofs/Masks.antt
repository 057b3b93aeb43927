-- What is left of a mode under a mask.
use Rattle.std.{proofs.{Common.{ℕ, ◌≡◌, sym, ap, ◌∙◌, bit_and}, lemmas.Nat.{and_comm, and_assoc}}, specs.Int.Bits.and_self}

pub masked_is_within : (mode mask : ℕ) → bit_and (bit_and mode mask) mode ≡ bit_and mode mask
masked_is_within mode mask =
    and_comm (bit_and mode mask) mode ∙ sym (and_assoc mask mode mode) ∙ ap (λ m. bit_and m mask) (and_self mode)
