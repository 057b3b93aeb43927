-- What a session reads and writes.
use Rattle.std.specs.Prelude.{ℕ, List, Option}

-- What the reader has before and after, and what the writer has, where they are known.
pub record Streams : Type 0 where
  pub given : Option (List ℕ)
  pub left : Option (List ℕ)
  pub held : Option (List ℕ)
  pub written : Option (List ℕ)

-- the streams of these four
abbrev pub streams_of : Option (List ℕ) → Option (List ℕ) → Option (List ℕ) → Option (List ℕ) → Streams
streams_of given left held written = record { given = given; left = left; held = held; written = written }
