-- What a string does that has room.
use Rattle.std.proofs.Common.{◌≡◌, ◌≤◌, ℕ, ◌+◌, false, if◌then◌else◌, List, ◌++◌, length, String, Global, Result, string_bytes, sym, ap}
use Rattle.std.{proofs.Common.◌∙◌, specs.Prelude.{string_capacity, string_len, is_ok, is_err, IsOk, OnOk, Ok, Err}}
use Rattle.conf_store.{proofs.Prelude.false≢true, specs.Room.AppendsWithin}

pub appended : {E : Type 0} (old new : String Global) (more : List ℕ) (result : Result (Unit {0}) E)
    → string_capacity old ≤ string_capacity new
    → string_len new ≡ (if is_ok result then string_len old + length more else string_len old)
    → string_bytes new ≡ (if is_ok result then string_bytes old ++ more else string_bytes old)
    → (string_len old + length more ≤ string_capacity old → IsOk result) → AppendsWithin old more new
appended old new more result wider long bytes succeeds = record {
  room = wider;
  long = λ fits. long ∙ ap (λ b. if b then string_len old + length more else string_len old) (succeeds fits);
  bytes = λ fits. bytes ∙ ap (λ b. if b then string_bytes old ++ more else string_bytes old) (succeeds fits);
}

-- what holds of a result that is no error
pub ok-holds : {A E : Type 0} (r : Result A E) (P : Type 0) → is_err r ≡ false → OnOk r P → P
ok-holds (Ok x) P ok holds = holds
ok-holds (Err e) P ok holds = absurd (false≢true (sym ok))
