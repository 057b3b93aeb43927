-- The texts of answers, and what they answer.
use Rattle.std.{proofs.Common.{◌≡◌, refl, sym, ◌∙◌, ap, arith, ◌≤◌, append_assoc}, specs.Prelude.{ℕ, suc, List, [], ◌∷◌, ◌++◌, codes}}
use Rattle.std.specs.{Prelude.{Result, Ok, Err}, Str.Parse.AllDigits}
use Rattle.conf_session.proofs.Prelude.{chars, Tree, text, sequence, Elements, no_element, element, depth, elements_depth, framed_text}
use Rattle.conf_session.proofs.Prelude.{tree_of, elements_of, text_bytes, tree_of-Text, join_elements, elements_of-append, at, at_from}
use Rattle.conf_session.proofs.Prelude.{at_step, child, refusal, Miss, own_limits, child-within, IsState, Contents, count_line, and_then-Ok}
use Rattle.conf_session.proofs.{Prelude.{tree_named, tree_at}, LengthLemmas.{by_path-Ok, tree_named-good}, WordLemmas.framed-one}
use Rattle.{conf_session.specs.Answers.{one, text_elements}, yaml_data.specs.declared.text.Text.Text}
use Rattle.yaml_data.specs.declared.tree.Tree as code

-- ---- the text of an answer

count_end : (ds : List ℕ) → ds ++ codes "\"\n...\n" ≡ ds ++ codes "\"" ++ codes "\n" ++ codes "...\n"
count_end ds = sym (append_assoc (ds ++ codes "\"") (codes "\n") (codes "...\n") ∙ append_assoc ds (codes "\"") (codes "\n...\n"))

-- the text of a count between its first line and its last, by its digits
pub framed-count : (ds : List ℕ) → AllDigits 10 ds
    → codes "---\nok: \"" ++ ds ++ codes "\"\n...\n" ≡ framed_text (one (codes "ok") (text ds))
framed-count ds all =
    ap (λ cs. codes "---\nok: \"" ++ cs) (count_end ds)
    ∙ ap (λ cs. codes "---\nok: " ++ (cs ++ codes "...\n")) (sym (count_line ds all))
    ∙ framed-one (codes "ok") (text ds)

-- ---- depths

-- texts are one deep at most
pub texts-shallow : (ns : List (List ℕ)) → elements_depth (text_elements ns) ≤ 1
texts-shallow [] = omega arith
texts-shallow (n ∷ ns) = let more = texts-shallow ns in omega (arith, more)

at-within : (step : ℕ) (t v : Tree) (tokens : List (List ℕ)) → at_from step t tokens ≡ Ok v → depth v ≤ depth t
at-within step t v [] e = let same : t ≡ v = cc in let deep = ap depth same in omega (arith, deep)
at-within step t v (token ∷ tokens) e = by (child t token) (λ u. at-within (suc step) u v tokens) refl e
  where
    by : (r : Result Tree Miss) → ((u : Tree) → at_from (suc step) u tokens ≡ Ok v → depth v ≤ depth u) → child t token ≡ r
        → at_step step r (λ u. at_from (suc step) u tokens) ≡ Ok v → depth v ≤ depth t
    by (Ok u) rest is e = let deeper = rest u e in let here = (child-within t u token is).1 in omega (arith, deeper, here)
    by (Err miss) rest is e = let never : Err (refusal miss step) ≡ Ok v = e in cc

-- a value in a configuration of a state is no deeper than what is written
pub value-shallow : (s : Contents) (name : List ℕ) (tokens : List (List ℕ)) (v : Tree) → IsState s
    → tree_at s name tokens ≡ Ok v → depth v ≤ own_limits.depth
value-shallow s name tokens v kept e =
    let named = and_then-Ok (tree_named s name) _ v e in
    let within = at-within 1 named.0 v tokens (by_path-Ok (at named.0 tokens) v named.2) in
    let deep = (tree_named-good s name named.0 kept named.1).deep in
    omega (arith, within, deep)

-- ---- names that are put into a list one after the other

join-one : (a b : Elements) (t : Tree) → join_elements (join_elements a (element t no_element)) b ≡ join_elements a (element t b)
join-one no_element b t = refl
join-one (element u us) b t = ap (element u) (join-one us b t)

join-none : (a : Elements) → join_elements a no_element ≡ a
join-none no_element = refl
join-none (element u us) = ap (element u) (join-none us)

-- one name more is in the list, and one less is left
pub names-more : (was now : List code.Tree) (left later : List (List ℕ)) (t : Text) (name : List ℕ)
    → now ≡ was ++ code.Text t ∷ [] → left ≡ chars name ∷ later → text_bytes t ≡ name
    → join_elements (elements_of now) (text_elements later) ≡ join_elements (elements_of was) (text_elements left)
names-more was now left later t name pushed first bytes =
    ap (λ ts. join_elements (elements_of ts) (text_elements later)) pushed
    ∙ ap (λ es. join_elements es (text_elements later)) (elements_of-append was (code.Text t ∷ []))
    ∙ join-one (elements_of was) (text_elements later) (tree_of (code.Text t))
    ∙ ap (λ u. join_elements (elements_of was) (element u (text_elements later))) (tree_of-Text t ∙ ap (λ b. text (chars b)) bytes)
    ∙ ap (λ l. join_elements (elements_of was) (text_elements l)) (sym first)

-- none is left
pub names-all : (names : List code.Tree) (left all : List (List ℕ))
    → join_elements (elements_of names) (text_elements left) ≡ text_elements all → left ≡ []
    → elements_of names ≡ text_elements all
names-all names left all are none =
    sym (join-none (elements_of names)) ∙ ap (λ l. join_elements (elements_of names) (text_elements l)) (sym none) ∙ are

-- the tree of all names is no deeper than what is written
pub names-shallow : (t : Tree) (all : List (List ℕ)) → t ≡ sequence (text_elements all) → depth t ≤ own_limits.depth
names-shallow t all is = let few = texts-shallow all in let same = ap depth is in omega (arith, few, same)
