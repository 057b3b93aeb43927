-- Texts of ASCII, by a test that computes, and no text.
use Rattle.std.{proofs.{Common.{◌≡◌, ◌<◌, nat_lt, arith}, lemmas.Bool.Decides.nat_tests}, specs.{Prelude.{ℕ, true, List, []}, Borrow.Bor}}
use Rattle.{conf_history.proofs.Prelude.{list_all, IsUtf8, IsUtf8-from_ascii}, yaml_data.proofs.CharacterLemmas.every-IsAscii}

pub ascii-text : (cs : List ℕ) → list_all (λ c. nat_lt c 128) cs ≡ true → IsUtf8 cs
ascii-text cs e = IsUtf8-from_ascii cs (every-IsAscii (λ c. nat_lt c 128) below cs e)
  where
    below : (c : ℕ) → nat_lt c 128 ≡ true → c < 128
    below c passed = grind (arith, nat_tests)

-- the key behind the last one
abbrev pub no_key : Bor (List ℕ)
no_key = record { ref_ptr = (0, 0); now = [] }
