-- A count of bytes that stops at the greatest u64, beside a limit.
use Rattle.std.proofs.Common.{◌≡◌, ℕ, ◌+◌, ◌≤◌, ◌<◌, min, arith}
use Rattle.yaml_style.proofs.Prelude.{config_limits}

-- a count from 0 that is within the limit is that of so many bytes
pub counted_within : {before after : ℕ} (n : ℕ) → before ≡ 0 → min after 18446744073709551615 ≡ min (before + n) 18446744073709551615
    → after ≤ config_limits.style → n ≤ config_limits.style
counted_within n start count within = omega (arith, start, count, within)

-- and one beyond it is too
pub counted_beyond : {before after : ℕ} (n : ℕ) → before ≡ 0 → min after 18446744073709551615 ≡ min (before + n) 18446744073709551615
    → config_limits.style < after → config_limits.style < n
counted_beyond n start count beyond = omega (arith, start, count, beyond)
