-- The start of a base text, up to the configurations.
use Rattle.std.specs.Prelude.{ℕ, List, [], ◌∷◌, ◌++◌, codes, decimal}
use Rattle.conf_record.specs.{Prelude.{text, key_lines, value_at, Entry, Contents}, Formats.format_line, declared.format.Format.Format}

-- what is between `configs:` and the first configuration, or the last line if there is none
abbrev pub configs_start : List Entry → List ℕ
configs_start [] = codes " {}\n"
configs_start (e ∷ es) = codes "\n"

-- the format, the count, and the key of the configurations
abbrev pub base_head : Format → ℕ → List ℕ
base_head format count =
    codes "---\n" ++ format_line format ++ (key_lines 0 (codes "at") ++ value_at (text (decimal count)) 0) ++ codes "configs:"

-- a base text up to its first configuration
abbrev pub base_start : Format → Contents → List ℕ
base_start format s = base_head format s.count ++ configs_start s.configs
