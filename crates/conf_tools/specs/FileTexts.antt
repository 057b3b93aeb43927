-- What a tool has written for the text of a file that was named.
use Rattle.std.specs.Prelude.{◌≡◌, ◌≢◌, ◌⊎◌, ℕ, Bool, true, false, List, [], ◌∷◌, ◌++◌, Option, length, codes, decimal, string_bytes}
use Rattle.conf_tools.specs.Prelude.{Appends, Keeps, Refuses, config_limits, HasComment, HasNoComment, name_of, Finding, Comments, Style}
use Rattle.conf_tools.specs.{Styles.{IsCheckedIn, IsStyled, style_of}, declared.texts.ToolFault.ToolFault}
use Rattle.conf_tools.specs.declared.texts.ToolFault.TheVariants.{Comments as HasComments, Input, Output, Read, Unsettled, OneValue}
use Rattle.conf_tools.specs.{declared.file_texts.Restyled.{Restyled, TheVariants.{Same, Changed}}, Parts.WritesPart, Tools.Stops}
use Rattle.{yaml_events.specs.declared.read_fault.ReadFault.ReadFault, yaml_style.specs.declared.finding.Rule.Rule}
use Rattle.yaml_style.specs.declared.finding.Rule.TheVariants.{TrailingWhitespace, LineEnd, LongLine, NotInStyle}
use Rattle.{conf_words.specs.declared.invocation.Comments.TheVariants.{Refused, Dropped, Kept}, comments_kept.specs.Keeping.GivesUnsettled}

-- ---- the text in a style

-- what bytes are in a style, given their text in it: the same bytes, or others
abbrev pub IsRestyled : List ℕ → List ℕ → Restyled → Type 0
IsRestyled bytes styled Same = bytes ≡ styled
IsRestyled bytes styled (Changed text) = (string_bytes text ≡ styled) × (bytes ≢ styled)

-- another text may take the place of this one: it has no comment, or comments are dropped, or kept
abbrev pub MayLose : Comments → List ℕ → Type 0
MayLose Dropped bytes = Unit {0}
MayLose Kept bytes = Unit {0}
MayLose Refused bytes = HasNoComment bytes

-- the same where the other text is that in the style, if that is another one
abbrev pub MayBecome : Comments → List ℕ → Restyled → Type 0
MayBecome comments bytes Same = Unit {0}
MayBecome comments bytes (Changed text) = MayLose comments bytes

-- this is what bytes are in the style, which may take their place
pub record Restyles (comments : Comments) (bytes : List ℕ) (restyled : Restyled) : Type 0 where
  pub text : List ℕ
  pub is : IsStyled (style_of comments) bytes text
  pub styled : IsRestyled bytes text restyled
  pub loses : MayBecome comments bytes restyled

-- Why there is nothing that may take the place of a text: it is refused, or it has a comment, and is to have none, or it
-- would change if it were formatted once more.
abbrev pub StopsRestyling : Comments → List ℕ → ToolFault → Type 0
StopsRestyling comments bytes Input = ⊥
StopsRestyling comments bytes Output = ⊥
StopsRestyling comments bytes (Read fault) = Refuses bytes config_limits fault
StopsRestyling comments bytes (HasComments place) = (comments ≡ Refused) × HasComment bytes
StopsRestyling comments bytes Unsettled = GivesUnsettled bytes config_limits
StopsRestyling comments bytes fault = ⊥

-- what is written of a file: a line of its name, if its text would change
abbrev pub name_line : List ℕ → Bool → List ℕ
name_line file false = []
name_line file true = file ++ codes "\n"

-- whether a text is another one in a style
abbrev pub Differs : List ℕ → List ℕ → Bool → Type 0
Differs bytes styled false = bytes ≡ styled
Differs bytes styled true = bytes ≢ styled

-- this is the line of the name of a file whose bytes are other ones in a style
abbrev pub IsNameLine : Style → List ℕ → List ℕ → List ℕ → Type 0
IsNameLine style file bytes line =
    (text : List ℕ) × IsStyled style bytes text × (bytes ≢ text) × (line ≡ name_line file true)

-- the file's name was written if its bytes are other ones in a style
pub record Lists (style : Style) (file bytes : List ℕ) (held written : Option (List ℕ)) (changes : Bool) : Type 0 where
  pub text : List ℕ
  pub is : IsStyled style bytes text
  pub differs : Differs bytes text changes
  pub writes : Appends held written (name_line file changes)

-- ---- findings

-- what a finding of a rule says of its line
abbrev pub words_of : Rule → List ℕ
words_of TrailingWhitespace = codes "the line ends in a space or TAB"
words_of LineEnd = codes "the line does not end in LF"
words_of LongLine = codes "the line has more than 120 characters"
words_of NotInStyle = codes "the text first differs from the one style here"

-- The line for a finding of a file: the file's name, a colon, the number of the line, a colon and a space, the rule's
-- name, a space, and its words.
abbrev pub file_line : List ℕ → Finding → List ℕ
file_line file f =
    file ++ codes ":" ++ decimal f.line ++ codes ": " ++ name_of f.rule ++ codes " " ++ words_of f.rule ++ codes "\n"

-- the lines for all findings of a file
abbrev pub file_report : List ℕ → List Finding → List ℕ
file_report file [] = []
file_report file (f ∷ fs) = file_line file f ++ file_report file fs

-- these are the lines for the findings of the bytes of a file
abbrev pub IsFileReport : Style → List ℕ → List ℕ → List ℕ → Type 0
IsFileReport style file bytes lines =
    (found : List Finding) × IsCheckedIn style bytes found × (lines ≡ file_report file found)

-- the lines of the findings of bytes were written; count is their number
pub record ChecksFile (style : Style) (file bytes : List ℕ) (held written : Option (List ℕ)) (count : ℕ) : Type 0 where
  pub found : List Finding
  pub checked : IsCheckedIn style bytes found
  pub counts : count ≡ length found
  pub writes : Appends held written (file_report file found)

-- What holds if the lines of a file end early, as of a tool that stops. But memory may run out before all of them are
-- written, too.
abbrev pub StopsInFile : (List ℕ → Type 0) → List ℕ → Option (List ℕ) → Option (List ℕ) → ToolFault → Type 0
StopsInFile Is bytes held written (Read ReadFault.OutOfMemory) =
    Keeps held written ⊎ ((lines : List ℕ) × Is lines × WritesPart lines held written)
StopsInFile Is bytes held written fault = Stops Is bytes held written fault
