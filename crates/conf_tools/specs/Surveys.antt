-- What is written of a store's file by `verify`: what an opening would find in it.
use Rattle.std.specs.Prelude.{◌≡◌, ℕ, Bool, List, [], ◌++◌, Option, Some, None, IfSome, codes, decimal}
use Rattle.conf_tools.specs.{Prelude.{Keeps, Appends, Contents, fault_name, IsSurvey, RefusesSurvey, Findings}, Parts.WritesPart}
use Rattle.conf_tools.specs.declared.{reading_fault.ReadingFault.{ReadingFault, TheVariants.{History, Output}}, surveys.Soundness.Soundness}
use Rattle.conf_tools.specs.declared.surveys.Soundness.TheVariants.{Whole, Damaged}
use Rattle.conf_history.specs.declared.{fault.HistoryFault.TheVariants.OutOfMemory, place.Zeros.Zeros, survey.Bad.Bad}
use Rattle.conf_history.specs.declared.following.BadKind.{BadKind, TheVariants.{Torn, Unexpected}}
use Rattle.conf_store.specs.declared.records.NoRecord.{NoRecord, TheVariants.{NotARecord, WrongNumber, Refused}}

-- why a piece is not the next record: the name of the innermost fault, if its command is refused
abbrev pub why_word : NoRecord → List ℕ
why_word NotARecord = codes "NotARecord"
why_word (WrongNumber found) = codes "WrongNumber"
why_word (Refused fault) = fault_name fault

-- ---- the text

-- the line of a key whose value is a word
abbrev pub word_line : List ℕ → List ℕ → List ℕ
word_line key word = key ++ codes ": " ++ word ++ codes "\n"

-- the line of a key whose value is a number
abbrev pub number_line : List ℕ → ℕ → List ℕ
number_line key number = key ++ codes ": \"" ++ decimal number ++ codes "\"\n"

-- whether the file can be opened: also if a crash may have left its bad piece
abbrev pub soundness_of_kind : BadKind → Soundness
soundness_of_kind Torn = Whole
soundness_of_kind Unexpected = Damaged

abbrev pub soundness_of : Option Bad → Soundness
soundness_of None = Whole
soundness_of (Some bad) = soundness_of_kind bad.kind

abbrev pub kind_word : BadKind → List ℕ
kind_word Torn = codes "torn"
kind_word Unexpected = codes "damaged"

abbrev pub state_word : Option Bad → List ℕ
state_word None = codes "whole"
state_word (Some bad) = kind_word bad.kind

-- the lines on the zeros of a bad piece, if it has any
abbrev pub zero_lines : Option Zeros → List ℕ
zero_lines None = []
zero_lines (Some zeros) =
    number_line (codes "first_zero") zeros.first ++ number_line (codes "zeros") zeros.count

-- the lines on the first bad piece, if there is one
abbrev pub bad_lines : Option Bad → List ℕ
bad_lines None = []
bad_lines (Some bad) =
    number_line (codes "piece") bad.piece.number ++ number_line (codes "byte") bad.piece.byte
    ++ number_line (codes "line") bad.piece.line ++ word_line (codes "why") (why_word bad.piece.why)
    ++ zero_lines bad.zeros ++ number_line (codes "following") bad.following

-- what an opening would find: a YAML mapping in the one style
abbrev pub findings_text : Findings → List ℕ
findings_text found =
    word_line (codes "state") (state_word found.bad) ++ number_line (codes "base") found.base
    ++ number_line (codes "commands") found.commands ++ bad_lines found.bad
    ++ number_line (codes "dropped") found.dropped

-- ---- what was written

-- the bytes of the file, where they are known, are as the findings say
abbrev pub FileIsAs : Bool → Option (List ℕ) → Contents → Findings → Type 0
FileIsAs several given state findings = IfSome given (λ bytes. IsSurvey several bytes state findings)

-- the bytes were not written whole: memory ran out before, or the writer failed
abbrev pub CannotWrite : List ℕ → Option (List ℕ) → Option (List ℕ) → ReadingFault → Type 0
CannotWrite bytes held written (History OutOfMemory) = Keeps held written
CannotWrite bytes held written Output = WritesPart bytes held written
CannotWrite bytes held written fault = ⊥

-- what an opening would find in the file was written
pub record WritesSurvey (several : Bool) (given held written : Option (List ℕ)) (sound : Soundness) : Type 0 where
  pub state : Contents
  pub findings : Findings
  pub finds : FileIsAs several given state findings
  pub writes : Appends held written (findings_text findings)
  pub says : sound ≡ soundness_of findings.bad

-- why that was not written whole: the file doesn't answer, and nothing was written; or the writer failed
abbrev pub RefusesWriting : Bool → Option (List ℕ) → Option (List ℕ) → Option (List ℕ) → ReadingFault → Type 0
RefusesWriting several given held written (History fault) =
    IfSome given (λ bytes. RefusesSurvey bytes fault) × Keeps held written
RefusesWriting several given held written Output =
    (state : Contents) × (findings : Findings) × FileIsAs several given state findings
    × WritesPart (findings_text findings) held written
RefusesWriting several given held written fault = ⊥
