-- What is shown of a value of which not the whole is hidden, and texts of ASCII, by a test that computes.
use Rattle.std.proofs.{Common.{◌≡◌, ◌<◌, ◌+◌, nat_lt, arith, codes, [], ◌++◌, refl, ap, ap₂}, lemmas.Bool.Decides.nat_tests}
use Rattle.std.specs.Prelude.{ℕ, true, false, List}
use Rattle.yaml_grammar.specs.Trees.{Elements, no_element, element, Members, no_member, member, text, sequence, mapping, Tree}
use Rattle.tree_hidden.{proofs.Prelude.{list_all, IsUtf8, IsUtf8-from_ascii, every-IsAscii, json_member}, specs.Hidden.hides_whole}
use Rattle.{tree_hidden.specs.Hidden.{shown_elements, shown_json, shown_members}, yaml_forms.specs.Json.{json_elements, json_members}}
use Rattle.yaml_forms.specs.Json.{json_text, more_elements, more_members}

pub ascii-text : (cs : List ℕ) → list_all (λ c. nat_lt c 128) cs ≡ true → IsUtf8 cs
ascii-text cs e = IsUtf8-from_ascii cs (every-IsAscii (λ c. nat_lt c 128) below cs e)
  where
    below : (c : ℕ) → nat_lt c 128 ≡ true → c < 128
    below c passed = grind (arith, nat_tests)

pub shown-mapping : (paths : List (List (List ℕ))) (ms : Members) → hides_whole paths ≡ false
    → codes "{" ++ shown_members paths [] ms ++ codes "}" ≡ shown_json paths (mapping ms)
shown-mapping paths ms visible = rw visible refl

-- ---- where nothing is hidden

mutual
  -- all of a value is shown
  pub all-shown : (t : Tree) → shown_json [] t ≡ json_text t
  all-shown (text value) = refl
  all-shown (sequence ts) = ap (λ cs. codes "[" ++ cs ++ codes "]") (first-shown ts)
  all-shown (mapping ms) = ap (λ cs. codes "{" ++ cs ++ codes "}") (first-members ms)

  first-shown : (ts : Elements) → shown_elements [] [] 0 ts ≡ json_elements ts
  first-shown no_element = refl
  first-shown (element t ts) = ap₂ (λ x y. x ++ y) (all-shown t) (more-shown 1 ts)

  more-shown : (index : ℕ) (ts : Elements) → shown_elements [] (codes ",") index ts ≡ more_elements ts
  more-shown index no_element = refl
  more-shown index (element t ts) = ap₂ (λ x y. codes "," ++ x ++ y) (all-shown t) (more-shown (index + 1) ts)

  first-members : (ms : Members) → shown_members [] [] ms ≡ json_members ms
  first-members no_member = refl
  first-members (member key t ms) = ap₂ (λ x y. json_member key x ++ y) (all-shown t) (more-members-shown ms)

  more-members-shown : (ms : Members) → shown_members [] (codes ",") ms ≡ more_members ms
  more-members-shown no_member = refl
  more-members-shown (member key t ms) =
      ap₂ (λ x y. codes "," ++ json_member key x ++ y) (all-shown t) (more-members-shown ms)
