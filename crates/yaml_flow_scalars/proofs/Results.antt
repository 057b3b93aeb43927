-- Facts of a result, put together.
use Rattle.std.{proofs.Common.{Ok, Err}, specs.Prelude.{Result, IfOk}}

-- two facts of an Ok together
pub ok_both : {A E : Type 0} (r : Result A E) (P Q : A → Type 0) → IfOk r P → IfOk r Q → IfOk r (λ x. P x × Q x)
ok_both (Ok x) P Q p q = (p, q)
ok_both (Err e) P Q p q = p
