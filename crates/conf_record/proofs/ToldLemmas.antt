-- A base tells its format by how it begins.
use Rattle.std.proofs.Common.{◌≡◌, ℕ, Bool, true, false, nat_eq, if◌then◌else◌, List, ◌++◌, length, drop, codes, decimal, encode_utf8_all}
use Rattle.std.proofs.{Common.{append_assoc, refl, sym, ap, ◌∙◌}, lemmas.{Slice.Eq.starts_is, Bool.Decides.Decides-eqb}}
use Rattle.std.specs.List.{starts_with}
use Rattle.conf_record.proofs.{Prelude.{value_at, text, mapping, members, line, Contents}, FormatLemmas.{lines_in, bytes_in}}
use Rattle.conf_record.{proofs.WrittenLemmas.before, specs.Formats.{base_in, third_start, format_of, BeginsThird, FormatsAreTold}}
use Rattle.conf_record.specs.{Formats.ThirdsBegin, declared.format.Format.{Format, TheVariants.{Second, Third}}}

second_start : List ℕ
second_start = codes "---\nstore: confstore-2\n"

-- what comes after the line of the format
tail : Contents → List ℕ
tail s = line (codes "at") (text (decimal s.count)) ++ codes "configs:" ++ value_at (mapping (members s.configs)) 0 ++ codes "...\n"

starts_third : (s : Contents) (after : List ℕ) → base_in Third s ++ after ≡ third_start ++ (encode_utf8_all (tail s) ++ after)
unfolding tail
starts_third s after =
    ap (λ bs. bs ++ after) (bytes_in Third s ∙ ap encode_utf8_all (sym (lines_in Third s)) ∙ before third_start (tail s) refl)
    ∙ append_assoc third_start (encode_utf8_all (tail s)) after

starts_second : (s : Contents) (after : List ℕ) → base_in Second s ++ after ≡ second_start ++ (encode_utf8_all (tail s) ++ after)
unfolding tail second_start
starts_second s after =
    ap (λ bs. bs ++ after) (bytes_in Second s ∙ ap encode_utf8_all (sym (lines_in Second s)) ∙ before second_start (tail s) refl)
    ∙ append_assoc second_start (encode_utf8_all (tail s)) after

pub told : FormatsAreTold
unfolding second_start
told Second s after =
    ap format_of (starts_second s after) ∙ ap (λ b. if b then Third else Second) (other (encode_utf8_all (tail s) ++ after))
  where
    other : (rest : List ℕ) → starts_with nat_eq (second_start ++ rest) third_start ≡ false
    other rest = refl
told Third s after =
    ap format_of (starts_third s after) ∙ ap (λ b. if b then Third else Second) (same (encode_utf8_all (tail s) ++ after))
  where
    same : (rest : List ℕ) → starts_with nat_eq (third_start ++ rest) third_start ≡ true
    same rest = refl

third_if : (b : Bool) → (if b then Third else Second) ≡ Third → b ≡ true
third_if true is = refl
third_if false is = cc

pub begin : ThirdsBegin
begin bytes third =
    let starts = third_if (starts_with nat_eq bytes third_start) third in
    let is = (starts_is Decides-eqb bytes third_start (starts_with nat_eq bytes third_start) refl).0 starts in
    record { rest = drop (length third_start) bytes; is = is }
