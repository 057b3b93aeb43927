-- Sets and deletes that are spelled as a flow mapping on one line (YAML 1.2.2, 7.4.2), as a JSON object is (RFC 8259, 4).
-- Their texts are ASCII, and so their bytes are their characters.
use Rattle.std.specs.Prelude.{◌≡◌, ℕ, Bool, true, false, not, ◌&&◌, List, [], ◌∷◌, ◌++◌, codes, map}
use Rattle.conf_session.specs.{Prelude.list_all, Said.Part, CommandLines.{Spelling, bare, phrase, quoted, single_quoted, Line, spelled}}
use Rattle.{conf_session.specs.CommandLines.{stands, bare_char, begins_bare, SaysPart}, yaml_chars.specs.Classes.flow_indicator}

-- an ASCII character that is not whitespace, `:`, `#` or a flow indicator
abbrev pub flow_char : ℕ → Bool
flow_char c = bare_char c && not (flow_indicator c)

-- the text may be spelled so between braces
abbrev pub stands_in_flow : Spelling → List ℕ → Bool
stands_in_flow bare value = begins_bare value && list_all flow_char value
stands_in_flow phrase value = false
stands_in_flow quoted value = stands quoted value
stands_in_flow single_quoted value = stands single_quoted value

-- a text begins with one that may be spelled so, and the rest follows
pub record BeginsWith (text value rest : List ℕ) : Type 0 where
  pub spelling : Spelling
  pub stands : stands_in_flow spelling value ≡ true
  pub is : text ≡ spelled spelling value ++ rest

-- a key, or its text, as it is spelled
pub record Word : Type 0 where
  pub spelling : Spelling
  pub value : List ℕ

abbrev pub word_text : Word → List ℕ
word_text w = spelled w.spelling w.value

-- a member: its key and its text, and whether a space stands before it, and behind its `:`
pub record Field : Type 0 where
  pub key : Word
  pub word : Word
  pub before : Bool
  pub behind : Bool

-- a space, or none
abbrev pub gap : Bool → List ℕ
gap true = codes " "
gap false = []

abbrev pub field_text : Field → List ℕ
field_text f = gap f.before ++ (word_text f.key ++ (codes ":" ++ (gap f.behind ++ word_text f.word)))

-- members with commas between them
abbrev pub fields_text : Field → List Field → List ℕ
fields_text f [] = field_text f
fields_text f (g ∷ gs) = field_text f ++ (codes "," ++ fields_text g gs)

-- the mapping of some members, perhaps with a space before its end, the end of its line, and the closing line
abbrev pub flow_line_text : Field → List Field → Bool → List ℕ
flow_line_text f fs last = codes "{" ++ (fields_text f fs ++ (gap last ++ codes "}\n...\n"))

-- A key is one word, after which a space stands behind the `:`, or between quotes.
abbrev pub is_apart : Spelling → Bool → Bool
is_apart bare behind = behind
is_apart phrase behind = false
is_apart quoted behind = true
is_apart single_quoted behind = true

-- a key and its text may be spelled so between braces
pub record StandsInFlow (f : Field) : Type 0 where
  pub key : stands_in_flow f.key.spelling f.key.value ≡ true
  pub word : stands_in_flow f.word.spelling f.word.value ≡ true
  pub apart : is_apart f.key.spelling f.behind ≡ true

-- those of each member
abbrev pub StandInFlow : List Field → Type 0
StandInFlow [] = Unit {0}
StandInFlow (f ∷ fs) = StandsInFlow f × StandInFlow fs

-- the same key and text on a line of their own
abbrev pub line_of : Field → Line
line_of f = record { key = f.key.value; spelling = f.word.spelling; value = f.word.value }

-- the text is a flow mapping that says this part
pub record IsFlowLine (text : List ℕ) (part : Part) : Type 0 where
  pub first : Field
  pub more : List Field
  pub last : Bool
  pub stand : StandInFlow (first ∷ more)
  pub says : SaysPart (record { first = line_of first; more = map line_of more }) part
  pub is : text ≡ flow_line_text first more last

-- what stands before and after a text that is spelled so, in which no quote is
abbrev pub quotes : Spelling → List ℕ
quotes bare = []
quotes phrase = []
quotes quoted = codes "\""
quotes single_quoted = codes "'"

-- the text begins with a key, its `:` and perhaps a space, and the rest follows
pub record IsKeyOf (text key rest : List ℕ) : Type 0 where
  pub spelling : Spelling
  pub behind : Bool
  pub apart : is_apart spelling behind ≡ true
  pub is : text ≡ quotes spelling ++ (key ++ (quotes spelling ++ (codes ":" ++ (gap behind ++ rest))))

-- the text begins with a member of this key, perhaps behind a space, and the rest follows
pub record IsMember (text key value rest : List ℕ) : Type 0 where
  pub before : Bool
  pub own : List ℕ
  pub after_key : List ℕ
  pub spaced : text ≡ gap before ++ own
  pub key_is : IsKeyOf own key after_key
  pub value_is : BeginsWith after_key value rest
