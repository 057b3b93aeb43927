-- What the words that read a store write, piece after piece.
use Rattle.std.proofs.Common.{◌≡◌, ℕ, List, [], ◌∷◌, ◌++◌, refl, sym, ap, ◌∙◌, append_assoc, arith, ◌≤◌, codes, Ok, Err}
use Rattle.std.{proofs.lemmas.Str.encodes-chars, specs.Prelude.{Bool, encode_utf8_all, Result, OnOk, is_ok, suc, if◌then◌else◌, Option}}
use Rattle.std.specs.Prelude.{Some, None}
use Rattle.conf_tools.{proofs.Prelude.{IsUtf8, chars, Tree, depth, IsKept, own_limits, Contents}, specs.Surveys.{CannotWrite, FileIsAs}}
use Rattle.conf_tools.specs.{Surveys.{RefusesWriting, findings_text}, declared.reading_fault.ReadingFault.ReadingFault}
use Rattle.tree_path.specs.{Paths.{at, at_from, at_step, child, refusal}, declared.place.Miss.Miss}
use Rattle.{yaml_config.proofs.Located.child-within, conf_history.specs.declared.survey.Findings.Findings}
use Rattle.conf_history.specs.declared.fault.HistoryFault.TheVariants as history
use Rattle.conf_tools.specs.declared.reading_fault.ReadingFault.TheVariants as reading

-- bytes that were put behind others, where there was memory for them
pub on_pushed : {A E Q : Type 0} (r : Result A E) (new more old : List ℕ) → new ≡ (if is_ok r then more else old)
    → (new ≡ more → Q) → OnOk r Q
on_pushed (Ok x) new more old is leads = leads is
on_pushed (Err fault) new more old is leads = tt

-- a name and its line feed, one after the other
pub name_pushed : (old one two name : List ℕ) → IsUtf8 name → one ≡ old ++ name → two ≡ one ++ codes "\n"
    → two ≡ old ++ (encode_utf8_all (chars name) ++ codes "\n")
name_pushed old one two name utf8 first second =
    second ∙ ap (λ x. x ++ codes "\n") first ∙ append_assoc old name (codes "\n")
    ∙ ap (λ b. old ++ (b ++ codes "\n")) (sym (encodes-chars name utf8))

-- ---- the value at a pointer

at-within : (step : ℕ) (t v : Tree) (tokens : List (List ℕ)) → at_from step t tokens ≡ Ok v → depth v ≤ depth t
at-within step t v [] e = let same : t ≡ v = cc in let deep = ap depth same in omega (arith, deep)
at-within step t v (token ∷ tokens) e = by (child t token) (λ u. at-within (suc step) u v tokens) refl e
  where
    by : (r : Result Tree Miss) → ((u : Tree) → at_from (suc step) u tokens ≡ Ok v → depth v ≤ depth u) → child t token ≡ r
        → at_step step r (λ u. at_from (suc step) u tokens) ≡ Ok v → depth v ≤ depth t
    by (Ok u) rest is e = let deeper = rest u e in let here = (child-within t u token is).1 in omega (arith, deeper, here)
    by (Err miss) rest is e = let never : Err (refusal miss step) ≡ Ok v = e in cc

-- a value in a configuration is no deeper than what is written
pub value-shallow : (t v : Tree) (tokens : List (List ℕ)) → IsKept t → at t tokens ≡ Ok v → depth v ≤ own_limits.depth
value-shallow t v tokens kept e =
    let within = at-within 1 t v tokens e in let deep = kept.deep in omega (arith, within, deep)

-- ---- findings

-- why the findings of a file were not written whole
pub cannot_write : (several : Bool) (given held written : Option (List ℕ)) (state : Contents) (findings : Findings)
    → FileIsAs several given state findings
    → (fault : ReadingFault) → CannotWrite (findings_text findings) held written fault
    → RefusesWriting several given held written fault
cannot_write several None held written state findings is (reading.History history.OutOfMemory) kept = (tt, kept)
cannot_write several (Some bytes) held written state findings is (reading.History history.OutOfMemory) kept = (tt, kept)
cannot_write several given held written state findings is reading.Output cannot = (state, findings, is, cannot)
cannot_write several given held written state findings is (reading.History history.Input) cannot = absurd cannot
cannot_write several given held written state findings is (reading.History history.Output) cannot = absurd cannot
cannot_write several given held written state findings is (reading.History history.NotAStore) cannot = absurd cannot
cannot_write several given held written state findings is (reading.History (history.Damaged bad)) cannot = absurd cannot
cannot_write several given held written state findings is (reading.History history.NoSuchCommand) cannot = absurd cannot
cannot_write several given held written state findings is (reading.Folder fault) cannot = absurd cannot
cannot_write several given held written state findings is (reading.Value fault) cannot = absurd cannot
cannot_write several given held written state findings is reading.NotText cannot = absurd cannot
cannot_write several given held written state findings is reading.NotCollection cannot = absurd cannot
cannot_write several given held written state findings is (reading.Salvage fault) cannot = absurd cannot
