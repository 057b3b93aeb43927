-- What is between the quotes of a string of JSON.
use Rattle.std.proofs.Common.{◌≡◌, ℕ, true, [], ◌∷◌, refl, arith}
use Rattle.{yaml_forms.{proofs.Prelude.{nat_tests, Spells}, specs.Json.{json_char, json_chars}}, yaml_writer.specs.Runs.stands_alone}

json_char-alone : (c : ℕ) → stands_alone c ≡ true → json_char c ≡ c ∷ []
json_char-alone c e = grind (arith, nat_tests)

-- characters are written one by one, and those that mean themselves as they are
pub json_spells : Spells json_char json_chars
json_spells = record { none = refl; more = λ c cs. refl; alone = json_char-alone }
