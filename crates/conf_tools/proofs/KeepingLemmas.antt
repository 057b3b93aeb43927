-- How many bytes of a store's file an opening keeps.
use Rattle.std.{proofs.{Common.{◌≤◌, ap, arith, length-append}, lemmas.List.Folds.concat-append}, specs.Prelude.{ℕ, Bool, List, ◌++◌}}
use Rattle.std.specs.{Prelude.length, List.concat}
use Rattle.{conf_history.specs.{Histories.IsSurvey, declared.survey.Findings.Findings}, conf_tools.proofs.Prelude.Contents}

-- no more than there are
pub kept-within : (several : Bool) (bytes : List ℕ) (state : Contents) (findings : Findings) → IsSurvey several bytes state findings
    → findings.kept ≤ length bytes
kept-within several bytes state findings s =
    let all = ap length s.cut.joined in
    let ends = length-append (concat (s.pieces ++ s.unread)) s.rest in
    let parts = ap length (concat-append s.pieces s.unread) in
    let both = length-append (concat s.pieces) (concat s.unread) in
    omega (arith, s.kept, all, ends, parts, both)
