-- The JSON text of a tree of texts is a text.
use Rattle.std.{proofs.Common.refl, specs.Prelude.{ℕ, List, [], ◌∷◌, ◌++◌}}
use Rattle.yaml_forms.proofs.Prelude.{and_from, IsText, Tree, text, sequence, mapping, Elements, no_element, element, Members, no_member}
use Rattle.yaml_forms.proofs.{Prelude.{member, IsTextTree, AreTextElements, AreTextMembers}, JsonCharacters.{joined, string_text}}
use Rattle.yaml_forms.specs.Json.{json_string, json_member, json_text, more_elements, more_members}

-- a member is a text, if its value is one
member_text : (key value : List ℕ) → IsText key → IsText value → IsText (json_member key value)
member_text key value h k = joined (json_string key ++ (58 ∷ [])) value (joined (json_string key) (58 ∷ []) (string_text key h) refl) k

mutual
  -- the JSON text of a tree of texts is a text
  pub json_is_text : (t : Tree) → IsTextTree t → IsText (json_text t)
  json_is_text (text value) h = string_text value h
  json_is_text (sequence no_element) h = refl
  json_is_text (sequence (element t ts)) h =
      and_from _ _ refl (joined (json_text t ++ more_elements ts) (93 ∷ [])
      (joined (json_text t) (more_elements ts) (json_is_text t h.0) (elements_text ts h.1)) refl)
  json_is_text (mapping no_member) h = refl
  json_is_text (mapping (member key t ms)) h =
      and_from _ _ refl
      (joined (json_member key (json_text t) ++ more_members ms) (125 ∷ [])
      (joined (json_member key (json_text t)) (more_members ms)
      (member_text key (json_text t) h.0 (json_is_text t h.1)) (members_text ms h.2)) refl)

  -- further elements are a text
  elements_text : (ts : Elements) → AreTextElements ts → IsText (more_elements ts)
  elements_text no_element h = refl
  elements_text (element t ts) h = and_from _ _ refl (joined (json_text t) (more_elements ts) (json_is_text t h.0) (elements_text ts h.1))

  -- further members are a text
  members_text : (ms : Members) → AreTextMembers ms → IsText (more_members ms)
  members_text no_member h = refl
  members_text (member key t ms) h =
      and_from _ _ refl (joined (json_member key (json_text t)) (more_members ms)
      (member_text key (json_text t) h.0 (json_is_text t h.1)) (members_text ms h.2))
