-- The presentation of a tree spells the tree's JSON text.
use Rattle.std.{proofs.Common.{◌≡◌, refl, sym, ◌∙◌, ap, append_assoc}, specs.Prelude.{ℕ, ◌/◌, ◌%◌, Bool, true, false, cond, ◌||◌, ◌==◌}}
use Rattle.std.specs.Prelude.{List, [], ◌∷◌, ◌++◌, flat_map}
use Rattle.yaml_forms.proofs.Prelude.{append-nil, LineEnd, comments_text, raw, escape, number, quoted_char_text, Flow, flow_text, Entry}
use Rattle.yaml_forms.proofs.Prelude.{entry_text, entries_text, Tree, text, sequence, mapping, Elements, no_element, element, Members}
use Rattle.yaml_forms.proofs.{Prelude.{no_member, member, stream_text, shown, hex, letter_escape}, JsonPresented.{item_of, items_of_text}}
use Rattle.yaml_forms.proofs.JsonPresented.{string_flow, element_entry, member_entry, json_flow, elements_from, members_from}
use Rattle.yaml_forms.{proofs.JsonPresented.presentation_of, specs.Json.{has_letter, json_char, json_chars, json_string, json_member}}
use Rattle.yaml_forms.specs.Json.{json_text, more_elements, more_members}

-- ---- strings

-- the text of a character that is chosen by tests is chosen by the same tests
item_cases : (a b d : Bool) (x e : ℕ) (digits : List ℕ)
    → quoted_char_text (cond a (escape x) (cond b (raw x) (cond d (escape e) (number 117 digits))))
    ≡ cond a (92 ∷ x ∷ []) (cond b (x ∷ []) (cond d (92 ∷ e ∷ []) (92 ∷ 117 ∷ digits)))
item_cases true b d x e digits = refl
item_cases false true d x e digits = refl
item_cases false false true x e digits = refl
item_cases false false false x e digits = refl

-- a character is spelled as JSON writes it
item_spelled : (c : ℕ) → quoted_char_text (item_of c) ≡ json_char c
item_spelled c =
    item_cases ((c == 34) || (c == 92)) (shown c) (has_letter c) c (letter_escape c)
    (hex (c / 4096) ∷ hex (c / 256 % 16) ∷ hex (c / 16 % 16) ∷ hex (c % 16) ∷ [])

-- and so are the characters of a text
items_spelled : (value : List ℕ) → flat_map quoted_char_text (items_of_text value) ≡ json_chars value
items_spelled [] = refl
items_spelled (c ∷ cs) = rw (item_spelled c, items_spelled cs)

-- a string is spelled as JSON writes it
string_spelled : (value : List ℕ) → flow_text (string_flow value) ≡ json_string value
string_spelled value = ap (λ t. 34 ∷ (t ++ (34 ∷ []))) (append-nil _ ∙ items_spelled value)

-- ---- trees

-- two texts and the comma between them
comma_joined : (a b : List ℕ) → (((a ++ []) ++ (44 ∷ [])) ++ []) ++ b ≡ a ++ (44 ∷ b)
comma_joined a b =
    ap (λ t. t ++ b) (append-nil ((a ++ []) ++ (44 ∷ []))) ∙ ap (λ t. (t ++ (44 ∷ [])) ++ b) (append-nil a)
    ∙ append_assoc a (44 ∷ []) b

-- a member spells its key, a colon and its value
member_spelled : (key : List ℕ) (f : Flow) (value : List ℕ) → flow_text f ≡ value → entry_text (member_entry key f) ≡ json_member key value
member_spelled key f value e =
    ap (λ x. x ++ (58 ∷ flow_text f)) (string_spelled key) ∙ ap (λ x. json_string key ++ (58 ∷ x)) e
    ∙ sym (append_assoc (json_string key) (58 ∷ []) value)

mutual
  -- a tree spells its JSON text
  pub flow_spelled : (t : Tree) → flow_text (json_flow t) ≡ json_text t
  flow_spelled (text value) = string_spelled value
  flow_spelled (sequence no_element) = refl
  flow_spelled (sequence (element t ts)) =
      ap (λ x. 91 ∷ (x ++ (93 ∷ [])))
      (elements_spelled (element_entry (json_flow t)) ts ∙ ap (λ x. x ++ more_elements ts) (append-nil _ ∙ flow_spelled t))
  flow_spelled (mapping no_member) = refl
  flow_spelled (mapping (member key t ms)) =
      ap (λ x. 123 ∷ (x ++ (125 ∷ [])))
      (members_spelled (member_entry key (json_flow t)) ms
      ∙ ap (λ x. x ++ more_members ms) (member_spelled key (json_flow t) (json_text t) (flow_spelled t)))

  -- a first element and further ones are spelled with commas between them
  elements_spelled : (one : Entry) (ts : Elements) → entries_text (elements_from one ts) ≡ entry_text one ++ more_elements ts
  elements_spelled one no_element = refl
  elements_spelled one (element t ts) =
      comma_joined (entry_text one) (entries_text (elements_from (element_entry (json_flow t)) ts))
      ∙ ap (λ x. entry_text one ++ (44 ∷ x))
      (elements_spelled (element_entry (json_flow t)) ts ∙ ap (λ x. x ++ more_elements ts) (append-nil _ ∙ flow_spelled t))

  -- a first member and further ones are spelled with commas between them
  members_spelled : (one : Entry) (ms : Members) → entries_text (members_from one ms) ≡ entry_text one ++ more_members ms
  members_spelled one no_member = refl
  members_spelled one (member key t ms) =
      comma_joined (entry_text one) (entries_text (members_from (member_entry key (json_flow t)) ms))
      ∙ ap (λ x. entry_text one ++ (44 ∷ x))
      (members_spelled (member_entry key (json_flow t)) ms
      ∙ ap (λ x. x ++ more_members ms) (member_spelled key (json_flow t) (json_text t) (flow_spelled t)))

-- the presentation of a tree spells its JSON text and the end of its line
pub presentation_spelled : (line_end : List LineEnd) (t : Tree)
    → stream_text (presentation_of line_end t) ≡ json_text t ++ comments_text line_end
presentation_spelled line_end t = append-nil _ ∙ ap (λ x. x ++ comments_text line_end) (flow_spelled t)
