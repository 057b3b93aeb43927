-- JSON texts of trees (RFC 8259): on one line and without whitespace. A mapping is an object with its members in order,
-- a sequence an array, and each text a string.
use Rattle.std.specs.Prelude.{ℕ, ◌/◌, ◌%◌, Bool, ◌||◌, ◌==◌, if◌then◌else◌, List, [], ◌∷◌, ◌++◌, codes}
use Rattle.yaml_forms.specs.Prelude.{backspace, tab, line_feed, form_feed, carriage_return, double_quote, backslash}
use Rattle.yaml_forms.specs.Prelude.{is_in, Tree, text, sequence, mapping, Elements, no_element, element, Members}
use Rattle.yaml_forms.specs.Prelude.{no_member, member, shown, hex, letter_escape}

-- ---- strings (RFC 8259, 7)

-- a control character whose escape in JSON is a letter
abbrev pub has_letter : ℕ → Bool
has_letter c = is_in c (backspace ∷ tab ∷ line_feed ∷ form_feed ∷ carriage_return ∷ [])

-- a character by its number: `\u` and four hexadecimal digits
abbrev pub number_escape : ℕ → List ℕ
number_escape c = codes "\\u" ++ hex (c / 4096) ∷ hex (c / 256 % 16) ∷ hex (c / 16 % 16) ∷ hex (c % 16) ∷ []

-- a character of a string: itself if the one style shows it so, else an escape
abbrev pub json_char : ℕ → List ℕ
json_char c =
    if (c == double_quote) || (c == backslash) then backslash ∷ c ∷ []
    else if shown c then c ∷ []
    else if has_letter c then backslash ∷ letter_escape c ∷ []
    else number_escape c

-- the characters between the quotes
abbrev pub json_chars : List ℕ → List ℕ
json_chars [] = []
json_chars (c ∷ cs) = json_char c ++ json_chars cs

-- a text as a string
abbrev pub json_string : List ℕ → List ℕ
json_string value = codes "\"" ++ json_chars value ++ codes "\""

-- ---- trees (RFC 8259, 3 to 5)

-- a member of an object, from its key and the text of its value
abbrev pub json_member : List ℕ → List ℕ → List ℕ
json_member key value = json_string key ++ codes ":" ++ value

abbrev mutual
  -- the JSON text of a tree
  pub json_text : Tree → List ℕ
  json_text (text value) = json_string value
  json_text (sequence ts) = codes "[" ++ json_elements ts ++ codes "]"
  json_text (mapping ms) = codes "{" ++ json_members ms ++ codes "}"

  -- the elements, with a comma between two
  pub json_elements : Elements → List ℕ
  json_elements no_element = []
  json_elements (element t ts) = json_text t ++ more_elements ts

  -- further elements, each after a comma
  pub more_elements : Elements → List ℕ
  more_elements no_element = []
  more_elements (element t ts) = codes "," ++ json_text t ++ more_elements ts

  -- the members, with a comma between two
  pub json_members : Members → List ℕ
  json_members no_member = []
  json_members (member key t ms) = json_member key (json_text t) ++ more_members ms

  -- further members, each after a comma
  pub more_members : Members → List ℕ
  more_members no_member = []
  more_members (member key t ms) = codes "," ++ json_member key (json_text t) ++ more_members ms

-- the JSON text of a tree, with a line feed after it
abbrev pub json_line : Tree → List ℕ
json_line t = json_text t ++ codes "\n"

-- ---- texts alone

-- texts as the elements of a sequence
abbrev pub text_elements : List (List ℕ) → Elements
text_elements [] = no_element
text_elements (value ∷ values) = element (text value) (text_elements values)

-- the JSON text of a sequence of texts
abbrev pub json_texts : List (List ℕ) → List ℕ
json_texts values = json_text (sequence (text_elements values))
