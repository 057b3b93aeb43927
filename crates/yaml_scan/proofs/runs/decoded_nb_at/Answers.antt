use Rattle.std.proofs.Common.{◌≡◌, ◌<◌, ◌≤◌, ℕ, Bool, true, false, inl, inr, length}
use Rattle.yaml_scan.proofs.{Prelude.{cases_lt, false≢true, nb}, ByteRuns.first_at_end}
use Rattle.yaml_scan.proofs.runs.decoded_nb_at.Goals as goal

ended : (at end : ℕ) → (at < end → ◌≡◌ {A = Bool} false true) → end ≤ at
ended at end h = elim (cases_lt at end) [ inl l ↦ absurd (false≢true (h l)) | inr l ↦ l ]

pub returns-in_default-clause-none : goal.returns-in_default-clause-none
returns-in_default-clause-none c = first_at_end nb c.args.text.now c.args.at
    (ended c.args.at (length c.args.text.now) c.in_default.ensures.found.1)
