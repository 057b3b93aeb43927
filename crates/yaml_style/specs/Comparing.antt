-- A text compared with one that is written: what is left of the text after the longest prefix that both share, and
-- whether all that is written is that prefix. And a count of what is written.
use Rattle.std.specs.Prelude.{◌≡◌, ℕ, ◌+◌, min, Bool, true, false, ◌==◌, List, [], ◌∷◌, if◌then◌else◌}
use Rattle.yaml_style.specs.Prelude.{byte_len}

-- the comparison after more is written: what is left of the text, and whether all that was written agrees with it
abbrev pub comparison_after : List ℕ → Bool → List ℕ → List ℕ × Bool
comparison_after left false written = (left, false)
comparison_after left true [] = (left, true)
comparison_after [] true (c ∷ cs) = ([], false)
comparison_after (d ∷ ds) true (c ∷ cs) = if d == c then comparison_after ds true cs else (d ∷ ds, false)

-- a count of bytes, which stops at the greatest u64, before and after more is written
abbrev pub IsCount : ℕ → List ℕ → ℕ → Type 0
IsCount before written after = min after 18446744073709551615 ≡ min (before + byte_len written) 18446744073709551615
