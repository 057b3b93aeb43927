-- What a tool has read from its reader, and what it has written to its writer. The bytes of a reader or a writer are
-- known, or nothing is said of them (`None`).
use Rattle.std.specs.Prelude.{◌≡◌, ◌⊎◌, ℕ, ◌+◌, ◌<◌, ◌≤◌, List, [], ◌∷◌, ◌++◌, Option, Result, Vec, IfOk, IfErr, length, codes, decimal}
use Rattle.conf_tools.specs.Prelude.{Global, Consumes, IsAtEnd, Keeps, Appends, Tree, IsRead, Refuses, OutOfMemory, config_limits, name_of}
use Rattle.conf_tools.specs.{Prelude.{Finding, Style}, Parts.WritesPart, Styles.{IsCheckedIn, IsStyled}, declared.texts.ToolFault.ToolFault}
use Rattle.conf_tools.specs.declared.texts.ToolFault.TheVariants.{Input, Output, Read, Comments, Unsettled, OneValue}
use Rattle.comments_kept.specs.Keeping.{GivesUnsettled}

-- ---- what was read

-- the bytes that the reader gave up to its end, or the first `most` of them
pub record HasRead (given left : Option (List ℕ)) (bytes : List ℕ) (most : ℕ) : Type 0 where
  pub taken : Consumes given left bytes
  pub within : length bytes ≤ most
  pub at_end : length bytes < most → IsAtEnd left

-- no more than so many bytes were taken from the reader
pub record ReadsAtMost (given left : Option (List ℕ)) (most : ℕ) : Type 0 where
  pub bytes : List ℕ
  pub taken : Consumes given left bytes
  pub within : length bytes ≤ most

-- The most bytes of an input that are read: one more than a text may have, by which a text that is too long is found.
abbrev pub most_input : ℕ
most_input = config_limits.bytes + 1

-- what came of reading a text
abbrev pub Taken : Type 0
Taken = Result (Vec ℕ Global) ToolFault

-- A text that was read: its bytes to the end, unless they are more than a text may have; or reading failed, or memory
-- ran out.
pub record IsTaken (read : Taken) (given left : Option (List ℕ)) : Type 0 where
  pub ok : IfOk read (λ text. HasRead given left text.items most_input)
  pub faults : IfErr read (λ fault. (fault ≡ Input) ⊎ (fault ≡ Read OutOfMemory))
  pub bounded : ReadsAtMost given left most_input

-- ---- what was written of it

-- the bytes give a tree
abbrev pub GivesTree : List ℕ → Type 0
GivesTree bytes = (tree : Tree) × IsRead bytes config_limits tree

-- what the bytes are in a style was written
pub record Formats (style : Style) (bytes : List ℕ) (held written : Option (List ℕ)) : Type 0 where
  pub text : List ℕ
  pub is : IsStyled style bytes text
  pub writes : Appends held written text

-- the line for a finding: the rule's name, a space, and the number of the line
abbrev pub report_line : Finding → List ℕ
report_line f = name_of f.rule ++ codes " " ++ decimal f.line ++ codes "\n"

-- the lines for all findings
abbrev pub report : List Finding → List ℕ
report [] = []
report (f ∷ fs) = report_line f ++ report fs

-- these are the lines for the findings of the bytes
abbrev pub IsReport : Style → List ℕ → List ℕ → Type 0
IsReport style bytes lines = (found : List Finding) × IsCheckedIn style bytes found × (lines ≡ report found)

-- the lines of the findings of bytes were written; count is their number
pub record Checks (style : Style) (bytes : List ℕ) (held written : Option (List ℕ)) (count : ℕ) : Type 0 where
  pub found : List Finding
  pub checked : IsCheckedIn style bytes found
  pub counts : count ≡ length found
  pub writes : Appends held written (report found)

-- What holds if a tool ends with a fault: the bytes are refused, and nothing was written; or the writer failed, and took
-- the first bytes of a text of which `Is` holds.
abbrev pub Stops : (List ℕ → Type 0) → List ℕ → Option (List ℕ) → Option (List ℕ) → ToolFault → Type 0
Stops Is bytes held written Input = ⊥
Stops Is bytes held written Output = (text : List ℕ) × Is text × WritesPart text held written
Stops Is bytes held written (Read fault) = Refuses bytes config_limits fault × Keeps held written
Stops Is bytes held written (Comments place) = ⊥
Stops Is bytes held written Unsettled = GivesUnsettled bytes config_limits × Keeps held written
Stops Is bytes held written fault = ⊥
