-- Two facts of one result.
use Rattle.std.specs.Prelude.{Result, IfOk, Ok, Err}

-- what follows from two facts of an Ok
pub ok_two : {A E : Type 0} (r : Result A E) (P Q R : A → Type 0) → ((x : A) → P x → Q x → R x) → IfOk r P → IfOk r Q → IfOk r R
ok_two (Ok x) P Q R f h k = f x h k
ok_two (Err e) P Q R f h k = h
