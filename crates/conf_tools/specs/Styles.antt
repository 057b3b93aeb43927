-- What a text is in a style, and what is told of comments that are left out.
use Rattle.std.specs.Prelude.{◌≡◌, ◌⊎◌, ℕ, List, ◌++◌, codes, decimal, encode_utf8_all, length}
use Rattle.conf_tools.specs.Prelude.{chars, config_limits, Tree, IsRead, Refuses, style_text, IsChecked, Finding, Style, Comments}
use Rattle.conf_tools.specs.declared.texts.ToolFault.{ToolFault, TheVariants.{Read, Unsettled}}
use Rattle.conf_words.specs.declared.invocation.{Style.TheVariants.{Bare, WithComments}, Comments.TheVariants.{Refused, Dropped, Kept}}
use Rattle.comments_kept.specs.Keeping.{GivesSameTree, HasSameComments, IsStyledIfBare, IsStyledWithComments, GivesUnsettled, IsSettled}
use Rattle.{comments_kept.specs.Keeping.Keeps, yaml_comments.specs.Comments.{AreComments, Place}, yaml_grammar.specs.Events.Event}
use Rattle.{yaml_grammar.specs.Reads.Reads, yaml_style.specs.Findings.findings}

-- The text has the tree of the bytes and their comments, at the places of the rule, and is in the one style but for these.
-- Formatted once more it stays as it is.
pub record KeepsComments (bytes text : List ℕ) : Type 0 where
  pub tree : GivesSameTree bytes config_limits text
  pub comments : HasSameComments bytes text
  pub style : IsStyledWithComments bytes config_limits text
  pub bare : IsStyledIfBare bytes config_limits text
  pub places : Keeps bytes config_limits text
  pub again : IsSettled config_limits text

-- the text is the tree of the bytes in the one style
pub record IsBare (bytes text : List ℕ) : Type 0 where
  pub tree : Tree
  pub reads : IsRead bytes config_limits tree
  pub is : text ≡ encode_utf8_all (style_text tree)

-- what bytes are in a style: their tree in the one style, or that with their comments
abbrev pub IsStyled : Style → List ℕ → List ℕ → Type 0
IsStyled Bare bytes text = IsBare bytes text
IsStyled WithComments bytes text = KeepsComments bytes text

-- why bytes are nothing in a style: they are refused, or would change if they were formatted once more
abbrev pub HasNoStyle : List ℕ → ToolFault → Type 0
HasNoStyle bytes (Read fault) = Refuses bytes config_limits fault
HasNoStyle bytes Unsettled = GivesUnsettled bytes config_limits
HasNoStyle bytes fault = ⊥

-- the style of what takes the place of a file
abbrev pub style_of : Comments → Style
style_of Refused = Bare
style_of Dropped = Bare
style_of Kept = WithComments

-- the findings of bytes that are compared with what they are in a style
abbrev pub IsCheckedIn : Style → List ℕ → List Finding → Type 0
IsCheckedIn Bare bytes found = IsChecked bytes found
IsCheckedIn WithComments bytes found =
    (text : List ℕ) × KeepsComments bytes text × (found ≡ findings (chars bytes) (chars text))

-- ---- comments that are left out

-- how many comments the bytes have
pub record CountsComments (bytes : List ℕ) (count : ℕ) : Type 0 where
  pub events : List Event
  pub reads : Reads (chars bytes) events
  pub places : List Place
  pub are : AreComments bytes events 0 places
  pub is : count ≡ length places

-- the line for so many comments
abbrev pub left_out_line : ℕ → List ℕ
left_out_line count = codes "confstore: comments left out: " ++ decimal count ++ codes "\n"

-- the line where the value of a `set` is the text `-`
abbrev pub dash_line : List ℕ
dash_line = codes "confstore: the value is the text \"-\"; --file - takes what standard input has\n"

module _ {E : Type 0} (hears : E → List ℕ → E → Type 0) where
  -- at most how many comments were left out was told
  abbrev pub TellsLeftOut : E → E → Type 0
  TellsLeftOut old new = (new ≡ old) ⊎ ((count : ℕ) × hears old (left_out_line count) new)

  -- the same, or that a value is the text `-` itself
  abbrev pub TellsOfValue : E → E → Type 0
  TellsOfValue old new = TellsLeftOut old new ⊎ hears old dash_line new

  -- the same of the comments of these bytes
  abbrev pub TellsLeftOutOf : List ℕ → E → E → Type 0
  TellsLeftOutOf bytes old new =
      (new ≡ old) ⊎ ((count : ℕ) × CountsComments bytes count × hears old (left_out_line count) new)
