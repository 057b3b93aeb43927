-- Sizes that are counted up to the greatest number.
use Rattle.std.specs.Prelude.{◌≡◌, ℕ, ◌<◌, ◌≤◌}
use Rattle.yaml_writer.specs.declared.size.Size.{Size}

abbrev pub most : ℕ
most = 18446744073709551615

-- so many bytes and lines, or more bytes than any configuration has
pub record IsTally (bytes lines whole : ℕ) (size : Size) : Type 0 where
  pub same_bytes : bytes < most → bytes ≡ size.bytes
  pub same_lines : bytes < most → lines ≡ size.lines
  pub over : most ≤ bytes → 67108864 < whole
