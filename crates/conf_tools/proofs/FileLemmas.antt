-- What the text of one file says of the reader and the writer.
use Rattle.std.{proofs.Common.{◌≡◌, inl, ℕ, List, [], ◌∷◌, ◌++◌, sym, ap, ◌∙◌, append_assoc, append-nil, subst, take}, specs.Prelude.Option}
use Rattle.conf_tools.proofs.{Prelude.{Appends, Appends-trans, Keeps-refl, config_limits}, PartLemmas.{part_before, part_more}}
use Rattle.conf_tools.specs.{Prelude.Comments, FileTexts.{StopsInFile, StopsRestyling, file_line, file_report}, Parts.WritesPart}
use Rattle.conf_tools.specs.{Styles.HasNoStyle, Tools.Stops, declared.texts.ToolFault.{ToolFault, TheVariants.{ImportText, Input, NoEdits}}}
use Rattle.conf_tools.specs.declared.texts.ToolFault.TheVariants.{OneValue, Output, Read, Unsettled, Comments as HasComments}
use Rattle.yaml_events.specs.declared.read_fault.ReadFault.{ReadFault, TheVariants.{TooLong, NotUtf8, Syntax, Documents, KeyNotText}}
use Rattle.yaml_events.specs.declared.read_fault.ReadFault.TheVariants.{KeyTwice, TooDeep, LargeInStyle, OutOfMemory}
use Rattle.{yaml_style.specs.declared.finding.Finding.Finding, yaml_docs.specs.Reading.RefusesBytes, yaml_tree.specs.Reading.Refuses}

-- ---- one text

-- a text that is refused, of which no line was written
pub refused_file : (Is : List ℕ → Type 0) (bytes : List ℕ) (held : Option (List ℕ)) (fault : ReadFault)
    → Refuses bytes config_limits fault → StopsInFile Is bytes held held (Read fault)
refused_file Is bytes held TooLong refuses = (refuses, Keeps-refl held)
refused_file Is bytes held (NotUtf8 at) refuses = (refuses, Keeps-refl held)
refused_file Is bytes held (Syntax line column why) refuses = (refuses, Keeps-refl held)
refused_file Is bytes held (Documents count) refuses = (refuses, Keeps-refl held)
refused_file Is bytes held KeyNotText refuses = (refuses, Keeps-refl held)
refused_file Is bytes held KeyTwice refuses = (refuses, Keeps-refl held)
refused_file Is bytes held TooDeep refuses = (refuses, Keeps-refl held)
refused_file Is bytes held LargeInStyle refuses = (refuses, Keeps-refl held)
refused_file Is bytes held OutOfMemory refuses = inl (Keeps-refl held)

-- a text that is nothing in a style, of which nothing was written
pub no_style : (Is : List ℕ → Type 0) (bytes : List ℕ) (held : Option (List ℕ)) (fault : ToolFault) → HasNoStyle bytes fault
    → Stops Is bytes held held fault
no_style Is bytes held Input none = absurd none
no_style Is bytes held Output none = absurd none
no_style Is bytes held (Read fault) none = (none, Keeps-refl held)
no_style Is bytes held (HasComments place) none = absurd none
no_style Is bytes held OneValue none = absurd none
no_style Is bytes held NoEdits none = absurd none
no_style Is bytes held (ImportText fault) none = absurd none
no_style Is bytes held Unsettled none = (none, Keeps-refl held)

-- of which no line was written
pub no_style_of_file : (Is : List ℕ → Type 0) (bytes : List ℕ) (held : Option (List ℕ)) (fault : ToolFault)
    → HasNoStyle bytes fault → StopsInFile Is bytes held held fault
no_style_of_file Is bytes held Input none = absurd none
no_style_of_file Is bytes held Output none = absurd none
no_style_of_file Is bytes held (Read fault) none = refused_file Is bytes held fault none
no_style_of_file Is bytes held (HasComments place) none = absurd none
no_style_of_file Is bytes held OneValue none = absurd none
no_style_of_file Is bytes held NoEdits none = absurd none
no_style_of_file Is bytes held (ImportText fault) none = absurd none
no_style_of_file Is bytes held Unsettled none = (none, Keeps-refl held)

-- which has no other text in its place
pub no_style_to_take : (comments : Comments) (bytes : List ℕ) (fault : ToolFault) → HasNoStyle bytes fault
    → StopsRestyling comments bytes fault
no_style_to_take comments bytes Input none = absurd none
no_style_to_take comments bytes Output none = absurd none
no_style_to_take comments bytes (Read fault) none = none
no_style_to_take comments bytes (HasComments place) none = absurd none
no_style_to_take comments bytes OneValue none = absurd none
no_style_to_take comments bytes NoEdits none = absurd none
no_style_to_take comments bytes (ImportText fault) none = absurd none
no_style_to_take comments bytes Unsettled none = none

-- what is refused as a stream is refused as a text
pub refused_stream : (bytes : List ℕ) (fault : ReadFault) → RefusesBytes bytes config_limits.bytes fault → Refuses bytes config_limits fault
refused_stream bytes TooLong refuses = refuses
refused_stream bytes (NotUtf8 at) refuses = refuses
refused_stream bytes (Syntax line column why) refuses = refuses
refused_stream bytes (Documents count) refuses = absurd refuses
refused_stream bytes KeyNotText refuses = absurd refuses
refused_stream bytes KeyTwice refuses = absurd refuses
refused_stream bytes TooDeep refuses = absurd refuses
refused_stream bytes LargeInStyle refuses = absurd refuses
refused_stream bytes OutOfMemory refuses = tt

-- ---- the lines of a file

-- what was written of a file, before the lines of the findings that are left, is all of its lines
abbrev pub WritesUpTo : Option (List ℕ) → Option (List ℕ) → List ℕ → List Finding → List ℕ → Type 0
WritesUpTo held written file rest all = (lines : List ℕ) × Appends held written lines × (lines ++ file_report file rest ≡ all)

-- the line of one more finding was written
pub one_line_written : (held now written : Option (List ℕ)) (file line all : List ℕ) (f : Finding) (rest more : List Finding)
    → WritesUpTo held now file rest all → Appends now written line → line ≡ file_line file f → rest ≡ f ∷ more
    → WritesUpTo held written file more all
one_line_written held now written file line all f rest more (lines, before, whole) appends is split = (
  lines ++ line,
  Appends-trans held now written lines line before appends,
  ap (λ l. lines ++ l ++ file_report file more) is
      ∙ append_assoc lines (file_line file f) (file_report file more) ∙ ap (λ fs. lines ++ file_report file fs) (sym split) ∙ whole,
)

-- what was written before the lines that are left is the first of all
pub lines_before : (held now : Option (List ℕ)) (file : List ℕ) (rest : List Finding) (all : List ℕ)
    → WritesUpTo held now file rest all → WritesPart all held now
lines_before held now file rest all (lines, before, whole) = part_before held now lines (file_report file rest) all before whole

-- with the first of the next line
pub line_cut : (held now written : Option (List ℕ)) (file line all : List ℕ) (f : Finding) (rest more : List Finding) (count : ℕ)
    → WritesUpTo held now file rest all → Appends now written (take count line) → line ≡ file_line file f → rest ≡ f ∷ more
    → WritesPart all held written
line_cut held now written file line all f rest more count (lines, before, whole) appends is split =
    part_more held now written lines line (file_report file more) all count before appends
    (ap (λ l. lines ++ (l ++ file_report file more)) is ∙ ap (λ fs. lines ++ file_report file fs) (sym split) ∙ whole)

-- with no line left, it is all
pub all_lines : (held now : Option (List ℕ)) (file : List ℕ) (rest : List Finding) (all : List ℕ)
    → WritesUpTo held now file rest all → rest ≡ [] → Appends held now all
all_lines held now file rest all (lines, before, whole) none =
    let same : lines ≡ all = sym (append-nil lines) ∙ ap (λ fs. lines ++ file_report file fs) (sym none) ∙ whole in
    subst (λ l. Appends held now l) same before
