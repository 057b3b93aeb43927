-- Arguments without what a help says of them. How words are read depends on nothing else.
use Rattle.std.specs.Prelude.{ℕ, List, map}
use Rattle.command_line.specs.declared.argument.{Argument.Argument, Form.Form, Relation.Relation}
use Rattle.command_line.specs.declared.argument.Form.TheVariants as form
use Rattle.command_line.specs.declared.argument.Relation.TheVariants as relation

-- how an argument is given
pub data Kind : Type 0 where
  Required : Kind
  Optional : Kind
  OptionalText : Kind
  Several : Kind
  Flag : Kind
  ShortFlag : ℕ → Kind
  Word : Kind
  Words : Kind
  Text : Kind
  Number : ℕ → Kind

-- what it has to do with others
pub data Tie : Type 0 where
  Free : Tie
  Needs : List ℕ → Tie
  Excludes : List (List ℕ) → Tie
  Replaces : List ℕ → Tie

pub record Row : Type 0 where
  pub name : List ℕ
  pub kind : Kind
  pub tie : Tie

abbrev pub kind_of : Form → Kind
kind_of form.Required = Required
kind_of form.Optional = Optional
kind_of form.OptionalText = OptionalText
kind_of form.Several = Several
kind_of form.Flag = Flag
kind_of (form.ShortFlag letter) = ShortFlag letter
kind_of (form.Word shown) = Word
kind_of (form.Words shown) = Words
kind_of (form.Text shown) = Text
kind_of (form.Number shown least) = Number least

abbrev pub tie_of : Relation → Tie
tie_of relation.Free = Free
tie_of (relation.Needs other) = Needs other.now
tie_of (relation.Excludes others) = Excludes (map (λ s. s.now) others.now)
tie_of (relation.Replaces other) = Replaces other.now

abbrev pub row_of : Argument → Row
row_of argument = record {
  name = argument.name.now;
  kind = kind_of argument.form;
  tie = tie_of argument.relation;
}
