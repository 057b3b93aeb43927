-- The end of what a reader gave, and why its rest has no closing line.
use Rattle.std.specs.Prelude.{◌≡◌, ℕ, ◌+◌, ◌-◌, ◌^◌, min, nat_le, Bool, false, ◌||◌, ◌==◌, if◌then◌else◌, List, [], ◌∷◌, ◌++◌, length, drop}
use Rattle.std.specs.{Prelude.{codes, decimal, Option, Some, None}, List.{list_any, starts_with, ends_with}}
use Rattle.conf_tools.specs.declared.{tail.Tail.Tail, rest.Cause.{Cause, TheVariants.{NulBytes, CrLf, NoLineFeed, Dashes, NoClosingLine}}}

-- whether a byte is a space, a TAB, a CR or an LF
abbrev pub is_blank : ℕ → Bool
is_blank byte = byte == 32 || byte == 9 || byte == 13 || byte == 10

-- How many bytes were given since the last one that is not blank, where it was `blanks` before these bytes. It stops at
-- the greatest number.
abbrev pub blanks_after : ℕ → List ℕ → ℕ
blanks_after blanks [] = blanks
blanks_after blanks (byte ∷ bytes) =
    blanks_after (if is_blank byte then min (blanks + 1) (2 ^ 64 - 1) else 0) bytes

-- the tail after these bytes
pub record Follows (old : Tail) (bytes : List ℕ) (new : Tail) : Type 0 where
  pub kept : new.kept ≡ drop (length bytes) (old.kept ++ bytes)
  pub blanks : new.blanks ≡ blanks_after old.blanks bytes

-- the last bytes of a rest, of those that are kept; none if all of the rest is blank
abbrev pub end_of_rest : List ℕ → ℕ → ℕ → Option (List ℕ)
end_of_rest kept blanks rest =
    if nat_le rest blanks then None else Some (drop (length kept - min rest (length kept)) kept)

-- whether a part, which is not empty, stands somewhere in the bytes
abbrev pub has_part : List ℕ → List ℕ → Bool
has_part part [] = false
has_part part (byte ∷ bytes) = starts_with ◌==◌ (byte ∷ bytes) part || has_part part bytes

-- Why bytes that end an input have no closing line: the first cause that they show. NUL bytes are in UTF-16, and a line
-- of `---` may have been meant for a closing line.
abbrev pub cause_of : List ℕ → Cause
cause_of end =
    if list_any (λ byte. byte == 0) end then NulBytes
    else if has_part (codes "\r\n") end then CrLf
    else if ends_with ◌==◌ end (codes "...") then NoLineFeed
    else if has_part (codes "\n---") end then Dashes
    else NoClosingLine

-- ---- what is told of a rest

-- what is told of a cause
abbrev pub cause_text : Cause → List ℕ
cause_text NulBytes = codes "it has NUL bytes, as in UTF-16, and commands are UTF-8"
cause_text CrLf = codes "its lines end in CR LF, and a closing line ends in LF alone"
cause_text NoLineFeed = codes "no line feed follows its last \"...\""
cause_text Dashes = codes "a line of \"---\" begins a document, and \"...\" closes one"
cause_text NoClosingLine = codes "a command ends with a line of exactly \"...\" and a line feed"

-- that more than one byte was not performed
abbrev pub many_bytes : ℕ → List ℕ
many_bytes rest = codes "confstore: the last " ++ decimal rest ++ codes " bytes of the input were not performed: "

-- that so many bytes were not performed
abbrev pub unperformed_bytes : ℕ → List ℕ
unperformed_bytes rest =
    if rest == 1 then codes "confstore: the last byte of the input was not performed: " else many_bytes rest

-- the line for a rest of so many bytes, and its cause
abbrev pub unperformed_line : ℕ → Cause → List ℕ
unperformed_line rest cause = unperformed_bytes rest ++ cause_text cause ++ codes "\n"

-- That a rest which ends so was not performed was told in a line. Nothing was told where all of it is blank.
abbrev pub TellsRest : {E : Type 0} → (E → List ℕ → E → Type 0) → Option (List ℕ) → ℕ → E → E → Type 0
TellsRest hears None rest old new = new ≡ old
TellsRest hears (Some end) rest old new = hears old (unperformed_line rest (cause_of end)) new
