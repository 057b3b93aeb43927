-- A finding on a later line.
use Rattle.std.proofs.Common.{ℕ, Bool, nat_lt}
use Rattle.yaml_style.specs.declared.finding.Finding.{Finding}

-- the finding is on a later line
abbrev pub later : ℕ → Finding → Bool
later line f = nat_lt line f.line
