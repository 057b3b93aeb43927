-- What is seen of the slice that is made next.
use Rattle.std.{specs.Prelude.{ℕ, List}, proofs.Common.refl}
use Rattle.conf_store.specs.Prelude.{Coded, code_by, coded×, coded_ℕ, coded_list}

-- the slice as far as it is made, what is left of the part, and how many bytes there is room for in both
pub record Cut : Type 0 where
  pub slice : List ℕ
  pub rest : List ℕ
  pub slice_room : ℕ
  pub part_room : ℕ

abbrev pub cut_code : Coded Cut
cut_code =
    code_by (List ℕ × (List ℕ × (ℕ × ℕ))) (coded× (coded_list coded_ℕ) (coded× (coded_list coded_ℕ) (coded× coded_ℕ coded_ℕ)))
    (λ c. (c.slice, (c.rest, (c.slice_room, c.part_room))))
    (λ p. record { slice = p.0; rest = p.1.0; slice_room = p.1.1.0; part_room = p.1.1.1 }) (λ c. refl)
