-- The presentation of a tree's JSON text fits.
use Rattle.std.{proofs.Common.{◌≡◌, refl}, specs.Prelude.{ℕ, Bool, true, false, List, [], ◌∷◌, ◌++◌, None}}
use Rattle.yaml_forms.proofs.Prelude.{and_parts, and_from, list_all, code_point, IsText, LineEnd, comments_text, comments_fit, FlowContext}
use Rattle.yaml_forms.proofs.Prelude.{outer, in_flow, quoted_char_fits, Flow, flow_fits, given, value_text, Entry, entry_fits, entries_fit}
use Rattle.yaml_forms.proofs.Prelude.{fits, Tree, text, sequence, mapping, Elements, no_element, element, Members, no_member, member}
use Rattle.yaml_forms.proofs.{Prelude.{IsTextTree, AreTextElements, AreTextMembers}, JsonPresented.{items_of_text, string_flow}}
use Rattle.yaml_forms.proofs.JsonPresented.{element_entry, member_entry, json_flow, elements_from, members_from, presentation_of}
use Rattle.yaml_forms.proofs.JsonCharacters.{json_quotes}

-- ---- strings

-- each character may stand between double quotes as it is written
items_fit : (value : List ℕ) → IsText value → list_all quoted_char_fits (items_of_text value) ≡ true
items_fit [] t = refl
items_fit (c ∷ cs) t =
    let p : (code_point c ≡ true) × (list_all code_point cs ≡ true) = and_parts _ _ t in
    and_from _ _ (json_quotes c p.0).0 (items_fit cs p.1)

-- a string fits wherever a flow node may be
string_fits : (value : List ℕ) (n : ℕ) (c : FlowContext) (bol : Bool) (after : List ℕ) → IsText value
    → flow_fits (string_flow value) n c bol after ≡ true
string_fits value n c bol after t = and_from _ _ (and_from _ _ (items_fit value t) refl) refl

-- ---- trees

-- the entry fits at each place between the brackets in this context; in_seq says whether they are those of a sequence
abbrev FitsAt : ℕ → FlowContext → Bool → Entry → Type 0
FitsAt n d in_seq e = (bol : Bool) (after : List ℕ) → entry_fits e n d in_seq bol after ≡ true

-- a member fits, if its value does
member_fits : (key : List ℕ) (f : Flow) (n : ℕ) (d : FlowContext) → IsText key
    → ((bol : Bool) (after : List ℕ) → flow_fits f n d bol after ≡ true)
    → FitsAt n d false (member_entry key f)
member_fits key f n d h g =
    λ b rest. and_from _ _ (and_from _ _ refl (string_fits key n d b (value_text (given None None f) ++ rest) h))
    (and_from _ _ refl (g false rest))

mutual
  -- a tree fits wherever a flow node may be
  pub tree_fits : (t : Tree) (n : ℕ) (c : FlowContext) (bol : Bool) (after : List ℕ) → IsTextTree t
      → flow_fits (json_flow t) n c bol after ≡ true
  tree_fits (text value) n c bol after h = string_fits value n c bol after h
  tree_fits (sequence no_element) n c bol after h = refl
  tree_fits (sequence (element t ts)) n c bol after h =
      and_from _ _ refl
      (elements_fit (element_entry (json_flow t)) ts n (in_flow c) false (93 ∷ after)
      (λ b rest. and_from _ _ (and_from _ _ refl (tree_fits t n (in_flow c) b rest h.0)) refl) h.1)
  tree_fits (mapping no_member) n c bol after h = refl
  tree_fits (mapping (member key t ms)) n c bol after h =
      and_from _ _ refl
      (members_fit (member_entry key (json_flow t)) ms n (in_flow c) false (125 ∷ after)
      (member_fits key (json_flow t) n (in_flow c) h.0 (λ b rest. tree_fits t n (in_flow c) b rest h.1)) h.2)

  -- further elements fit after one that does
  elements_fit : (one : Entry) (ts : Elements) (n : ℕ) (d : FlowContext) (bol : Bool) (after : List ℕ)
      → FitsAt n d true one → AreTextElements ts
      → entries_fit (elements_from one ts) n d true bol after ≡ true
  elements_fit one no_element n d bol after f h = and_from _ _ (f bol after) refl
  elements_fit one (element t ts) n d bol after f h =
      and_from _ _ (and_from _ _ (and_from _ _ (f bol _) refl) refl)
      (elements_fit (element_entry (json_flow t)) ts n d false after
      (λ b rest. and_from _ _ (and_from _ _ refl (tree_fits t n d b rest h.0)) refl) h.1)

  -- further members fit after one that does
  members_fit : (one : Entry) (ms : Members) (n : ℕ) (d : FlowContext) (bol : Bool) (after : List ℕ)
      → FitsAt n d false one → AreTextMembers ms
      → entries_fit (members_from one ms) n d false bol after ≡ true
  members_fit one no_member n d bol after f h = and_from _ _ (f bol after) refl
  members_fit one (member key t ms) n d bol after f h =
      and_from _ _ (and_from _ _ (and_from _ _ (f bol _) refl) refl)
      (members_fit (member_entry key (json_flow t)) ms n d false after
      (member_fits key (json_flow t) n d h.0 (λ b rest. tree_fits t n d b rest h.1)) h.2)

-- the presentation fits, if the end of its line does
pub presentation_fits : (line_end : List LineEnd) (t : Tree) → comments_fit false line_end [] ≡ true → IsTextTree t
    → fits (presentation_of line_end t) ≡ true
presentation_fits line_end t e h =
    and_from _ _ (and_from _ _ refl (and_from _ _ (and_from _ _ refl (tree_fits t 0 outer true (comments_text line_end ++ []) h)) e)) refl
