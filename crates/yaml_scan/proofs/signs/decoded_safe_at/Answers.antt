use Rattle.std.proofs.Common.{◌≡◌, ◌<◌, ◌≤◌, ℕ, Bool, true, false, inl, inr, length, sym}
use Rattle.yaml_scan.proofs.{Prelude.{context_of, safe, cases_lt, false≢true}, ByteRuns.first_at_end}
use Rattle.yaml_scan.proofs.signs.decoded_safe_at.Goals as goal

ended : (at end : ℕ) → (at < end → ◌≡◌ {A = Bool} false true) → end ≤ at
ended at end h = elim (cases_lt at end) [ inl l ↦ absurd (false≢true (h l)) | inr l ↦ l ]

pub returns-in-None : goal.returns-in-None
returns-in-None c = sym (first_at_end (safe (context_of c.args.context)) c.args.text.now c.args.at
    (ended c.args.at (length c.args.text.now) c.in-None.ensures.found.1))
