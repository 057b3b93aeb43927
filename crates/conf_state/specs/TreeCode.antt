-- A code for what a state holds: states with the same code are equal. A tree is stored as instructions that
-- build it on a stack of trees; each is a list of numbers, of which the first says what it does.
use Rattle.std.specs.{Prelude.{◌≡◌, ℕ, zero, suc, List, [], ◌∷◌, ◌++◌, refl}, Coded.{Coded, code_by, coded_list, coded×, coded_ℕ}}
use Rattle.std.proofs.Common.{ap, ◌∙◌}
use Rattle.conf_state.specs.Prelude.{Tree, text, sequence, mapping, Elements, no_element, element, Members, no_member, member}
use Rattle.conf_state.specs.States.{Contents}

-- 0: a text; 1: an empty sequence; 2: an empty mapping; 3: the tree on top becomes the first element of the sequence
-- below it; 4: the tree on top becomes the first value of the mapping below it, under the key
abbrev pub perform : List ℕ → List Tree → List Tree
perform (zero ∷ value) stack = text value ∷ stack
perform (suc zero ∷ rest) stack = sequence no_element ∷ stack
perform (suc (suc zero) ∷ rest) stack = mapping no_member ∷ stack
perform (suc (suc (suc zero)) ∷ rest) (t ∷ sequence ts ∷ stack) = sequence (element t ts) ∷ stack
perform (suc (suc (suc (suc n))) ∷ key) (t ∷ mapping ms ∷ stack) = mapping (member key t ms) ∷ stack
perform instruction stack = stack

abbrev pub perform_all : List (List ℕ) → List Tree → List Tree
perform_all [] stack = stack
perform_all (i ∷ is) stack = perform_all is (perform i stack)

abbrev mutual
  pub stored : Tree → List (List ℕ)
  stored (text value) = (0 ∷ value) ∷ []
  stored (sequence ts) = stored_elements ts
  stored (mapping ms) = stored_members ms

  pub stored_elements : Elements → List (List ℕ)
  stored_elements no_element = (1 ∷ []) ∷ []
  stored_elements (element t ts) = stored_elements ts ++ (stored t ++ (3 ∷ []) ∷ [])

  pub stored_members : Members → List (List ℕ)
  stored_members no_member = (2 ∷ []) ∷ []
  stored_members (member key t ms) = stored_members ms ++ (stored t ++ (4 ∷ key) ∷ [])

perform_all-append : (is js : List (List ℕ)) (stack : List Tree)
    → perform_all (is ++ js) stack ≡ perform_all js (perform_all is stack)
perform_all-append [] js stack = refl
perform_all-append (i ∷ is) js stack = perform_all-append is js (perform i stack)

mutual
  pub built : (t : Tree) (stack : List Tree) → perform_all (stored t) stack ≡ t ∷ stack
  built (text value) stack = refl
  built (sequence ts) stack = built_elements ts stack
  built (mapping ms) stack = built_members ms stack

  pub built_elements : (ts : Elements) (stack : List Tree)
      → perform_all (stored_elements ts) stack ≡ sequence ts ∷ stack
  built_elements no_element stack = refl
  built_elements (element t ts) stack =
      perform_all-append (stored_elements ts) (stored t ++ (3 ∷ []) ∷ []) stack
      ∙ ap (perform_all (stored t ++ (3 ∷ []) ∷ [])) (built_elements ts stack)
      ∙ perform_all-append (stored t) ((3 ∷ []) ∷ []) (sequence ts ∷ stack)
      ∙ ap (perform (3 ∷ [])) (built t (sequence ts ∷ stack))

  pub built_members : (ms : Members) (stack : List Tree) → perform_all (stored_members ms) stack ≡ mapping ms ∷ stack
  built_members no_member stack = refl
  built_members (member key t ms) stack =
      perform_all-append (stored_members ms) (stored t ++ (4 ∷ key) ∷ []) stack
      ∙ ap (perform_all (stored t ++ (4 ∷ key) ∷ [])) (built_members ms stack)
      ∙ perform_all-append (stored t) ((4 ∷ key) ∷ []) (mapping ms ∷ stack)
      ∙ ap (perform (4 ∷ key)) (built t (mapping ms ∷ stack))

abbrev pub top : List Tree → Tree
top [] = text []
top (t ∷ stack) = t

abbrev pub tree_code : Coded Tree
tree_code = code_by (List (List ℕ)) (coded_list (coded_list coded_ℕ)) stored (λ is. top (perform_all is []))
    (λ t. ap top (built t []))

abbrev pub contents_code : Coded Contents
contents_code =
    code_by (List (List ℕ × Tree) × ℕ) (coded× (coded_list (coded× (coded_list coded_ℕ) tree_code)) coded_ℕ)
    (λ s. (s.configs, s.count)) (λ p. record { configs = p.0; count = p.1 }) (λ s. refl)
