-- What a scanner says of a place in a text, which counts bytes from 0, and how it refuses.
use Rattle.std.specs.Prelude.{ℕ, Bool, true, ◌==◌, List, [], ◌∷◌, if◌then◌else◌}
use Rattle.{yaml_chars.specs.{Signs.byte_order_mark, Places.between}, yaml_grammar.specs.Texts.starts_line}
use Rattle.yaml_events.specs.declared.fault.ScanFault.{ScanFault, TheVariants.{At, OutOfMemory}}

-- the characters after a byte order mark, which may be at the start (5.2)
abbrev pub without_mark : List ℕ → List ℕ
without_mark [] = []
without_mark (c ∷ cs) = if c == byte_order_mark then cs else c ∷ cs

-- a line starts at the place: at the start of the text, after a byte order mark there, or after a break
abbrev pub line_starts : List ℕ → ℕ → Bool
line_starts text at = starts_line true (without_mark (between text 0 at))

-- A scanner refuses if memory runs out, or if nothing is there.
abbrev pub Refuses : ScanFault → Type 0 → Type 0
Refuses (At at why) nothing_stands = nothing_stands
Refuses OutOfMemory nothing_stands = Unit {0}
