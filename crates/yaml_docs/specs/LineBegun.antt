-- A closing line that is begun at the end of bytes.
use Rattle.std.specs.Prelude.{◌≡◌, ◌≤◌, ℕ, List, ◌++◌, take, drop, codes, IsTrue}
use Rattle.yaml_docs.specs.Prelude.{ends_line}

-- the last bytes are this number of dots, at most three, and a line starts before them
pub record IsBegun (held : List ℕ) (dots : ℕ) : Type 0 where
  pub prefix : List ℕ
  pub few : dots ≤ 3
  pub is : held ≡ prefix ++ take dots (codes "...\n")
  pub line : IsTrue (ends_line prefix)

-- and further bytes complete it as a closing line
pub record Completes (held more : List ℕ) (dots : ℕ) : Type 0 where
  pub begun : IsBegun held dots
  pub after : List ℕ
  pub is : more ≡ drop dots (codes "...\n") ++ after
