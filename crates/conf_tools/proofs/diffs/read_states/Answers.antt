-- The bytes that were read are those of the file, where these are known.
use Rattle.std.proofs.Common.{◌≡◌, ℕ, Bool, List, Option, Some, None, Result, Ok, Err, IfErr, IfSome, sym, subst}
use Rattle.{conf_tools.specs.{Diffs.RefusesBoth, Prelude.{HistoryFault, Span}}, conf_store.specs.Holes.is_several}
use Rattle.conf_tools.proofs.diffs.read_states.Goals as goal

refused-both : {X : Type 0} (r : Result X HistoryFault) (several : Bool) (bytes : List ℕ) (span : Span) (given : Option (List ℕ))
    → IfSome given (λ known. known ≡ bytes) → IfErr r (RefusesBoth several bytes span)
    → IfErr r (λ fault. IfSome given (λ known. RefusesBoth several known span fault))
refused-both (Ok x) several bytes span given same refuses = tt
refused-both (Err fault) several bytes span None same refuses = tt
refused-both (Err fault) several bytes span (Some known) same refuses =
    subst (λ bs. RefusesBoth several bs span fault) (sym same) refuses

pub returns-clause-refused : goal.returns-clause-refused
returns-clause-refused g c =
    refused-both c.states_in.result (is_several c.args.waiting) c.in-Ok.bytes.items c.args.span
    (g.R.Read.remaining c.args.reader.now) c.in-Ok.ensures.ok
    (subst (λ bs. IfErr c.states_in.result (RefusesBoth (is_several c.args.waiting) bs c.args.span)) c.deref.ensures.value
    c.states_in.ensures.refused)
