-- Going down a tree along a path and back up: what a step adds to each, and what the definitions of paths say of them.
use Rattle.std.proofs.Common.{◌≡◌, ℕ, suc, ◌+◌, ◌-◌, ◌≤◌, List, [], ◌∷◌, ◌++◌, length, Result, Ok, Err, Global, take, drop, get_or, ◌<◌}
use Rattle.std.proofs.Common.{refl, sym, ap, subst, ◌∙◌, add-zero, arith}
use Rattle.tree_path.proofs.Prelude.{cow_str_bytes, CowStr, chars, take_more, at_drop_more, take-append-drop, length-map, length-take-le}
use Rattle.tree_path.{proofs.{Prelude.{Tree, texts, PathFault}, StepLaws.{child-put, put-put, put-child}}, specs.Steps.{Lowered, Rebuilt}}
use Rattle.tree_path.specs.{declared.place.Miss.Miss, Paths.{child, put, refusal, at_step, and_then, at_from, edit_from, key_in, last_key}}
use Rattle.tree_path.specs.Paths.{in_child}

-- ---- one step more, and one less

pub Ok-same : {E : Type 0} (r : Result Tree E) (x y : Tree) → r ≡ Ok x → r ≡ Ok y → x ≡ y
Ok-same r x y p q = cc

-- one step further down
pub Lowered-push : (tokens : List (List ℕ)) (token : List ℕ) (t a u b next left : Tree)
    → Lowered tokens t a u b → child u token ≡ Ok next → put u token b ≡ Ok left → Lowered (tokens ++ token ∷ []) t a next left
Lowered-push [] token t a u b next left low found is = (
  next,
  left,
  subst (λ x. child x token ≡ Ok next) low.0 found,
  subst (λ x. put t token x ≡ Ok left) low.1 (subst (λ x. put x token b ≡ Ok left) low.0 is),
  (refl, refl),
)
Lowered-push (first ∷ tokens) token t a u b next left low found is =
    (low.0, low.1, low.2, low.3, Lowered-push tokens token low.0 low.1 u b next left low.4 found is)

-- one step back up
pub Lowered-pop : (tokens : List (List ℕ)) (token : List ℕ) (t a u b : Tree) → Lowered (tokens ++ token ∷ []) t a u b
    → (c : Tree) × (d : Tree) × Lowered tokens t a c d × (child c token ≡ Ok u) × (put c token d ≡ Ok b)
Lowered-pop [] token t a u b low =
    (t, a, (refl, refl), subst (λ x. child t token ≡ Ok x) (sym low.4.0) low.2, subst (λ x. put t token a ≡ Ok x) (sym low.4.1) low.3)
Lowered-pop (first ∷ tokens) token t a u b low =
    let p = Lowered-pop tokens token low.0 low.1 u b low.4 in
    (p.0, p.1, (low.0, low.1, low.2, low.3, p.2), p.3, p.4)

-- one step further, with the trees on the way
pub Rebuilt-push : (tokens : List (List ℕ)) (token : List ℕ) (t a c d u v w r : Tree)
    → Lowered tokens t a c d → child c token ≡ Ok u → put c token v ≡ Ok w → Rebuilt tokens t w r → Rebuilt (tokens ++ token ∷ []) t v r
Rebuilt-push [] token t a c d u v w r low found is built = (
  u,
  v,
  subst (λ x. child x token ≡ Ok u) low.0 found,
  refl,
  subst (λ x. put t token v ≡ Ok x) (sym built) (subst (λ x. put x token v ≡ Ok w) low.0 is),
)
Rebuilt-push (first ∷ tokens) token t a c d u v w r low found is built =
    let inner = subst (λ x. Rebuilt tokens x w built.1) (Ok-same (child t first) built.0 low.0 built.2 low.2) built.3 in
    (low.0, built.1, low.2, Rebuilt-push tokens token low.0 low.1 c d u v w built.1 low.4 found is inner, built.4)

-- the way up, one step: what is taken out of the tree above is what was above that
pub Lowered-there : (tokens : List (List ℕ)) (token : List ℕ) (t a u b : Tree) → Lowered (tokens ++ token ∷ []) t a u b
    → (d : Tree) × (child b token ≡ Ok d)
Lowered-there tokens token t a u b low =
    let p = Lowered-pop tokens token t a u b low in (p.1, child-put p.0 b token u p.1 p.3 p.4)

-- on the way up the tree is put into its parent
pub Rebuilt-step : (tokens : List (List ℕ)) (token : List ℕ) (t a u b here above left : Tree) → Lowered (tokens ++ token ∷ []) t a u b
    → child b token ≡ Ok above → put b token here ≡ Ok left
    → (c : Tree) × Lowered tokens t a c above × ((r : Tree) → Rebuilt tokens t left r → Rebuilt (tokens ++ token ∷ []) t here r)
Rebuilt-step tokens token t a u b here above left low found is =
    let p = Lowered-pop tokens token t a u b low in
    let same = Ok-same (child b token) p.1 above (child-put p.0 b token u p.1 p.3 p.4) found in (
      p.0,
      subst (λ x. Lowered tokens t a p.0 x) same p.2,
      λ r built. Rebuilt-push tokens token t a p.0 p.1 u here left r p.2 p.3 (sym (put-put p.0 b token u p.1 here p.3 p.4) ∙ is) built,
    )

-- what was taken out, put back, gives the tree that was
pub Rebuilt-same : (tokens : List (List ℕ)) (t a u b r : Tree) → Lowered tokens t a u b → Rebuilt tokens t u r → r ≡ t
Rebuilt-same [] t a u b r low built = built ∙ low.0
Rebuilt-same (token ∷ tokens) t a u b r low built =
    let inner = subst (λ x. Rebuilt tokens x u built.1) (Ok-same (child t token) built.0 low.0 built.2 low.2) built.3 in
    let w : built.1 ≡ low.0 = Rebuilt-same tokens low.0 low.1 u b built.1 low.4 inner in
    Ok-same (put t token low.0) r t (subst (λ x. put t token x ≡ Ok r) w built.4) (put-child t token low.0 low.2)

-- ---- the definitions of paths

-- the value at two paths in turn
pub at_from-append : (xs ys : List (List ℕ)) (step : ℕ) (t : Tree)
    → at_from step t (xs ++ ys) ≡ and_then (at_from step t xs) (λ u. at_from (step + length xs) u ys)
at_from-append [] ys step t = ap (λ s. at_from s t ys) (sym (add-zero step))
at_from-append (x ∷ xs) ys step t =
    let P : Result Tree Miss → Type 0 = λ r. at_step step r (λ u. at_from (suc step) u (xs ++ ys))
    ≡ and_then (at_step step r (λ u. at_from (suc step) u xs)) (λ u. at_from (step + suc (length xs)) u ys) in
    elim (child t x) as P [
      | Ok u ↦ at_from-append xs ys (suc step) u ∙ ap (λ s. and_then (at_from (suc step) u xs) (λ w. at_from s w ys)) (omega arith)
      | Err miss ↦ refl
    ]

-- the value at a path that was gone down
pub at_from-Lowered : (tokens : List (List ℕ)) (step : ℕ) (t a u b : Tree) → Lowered tokens t a u b → at_from step t tokens ≡ Ok u
at_from-Lowered [] step t a u b low = ap Ok (sym low.0)
at_from-Lowered (token ∷ tokens) step t a u b low = rw low.2 (at_from-Lowered tokens (suc step) low.0 low.1 u b low.4)

-- an edit at the end of a path that isn't empty
abbrev pub edit_path : (Tree → List ℕ → Result Tree Miss) → ℕ → Tree → List (List ℕ) → Result Tree PathFault
edit_path edit step t [] = Ok t
edit_path edit step t (token ∷ tokens) = edit_from edit step t token tokens

-- an edit one step further down
pub edit_path-step : (edit : Tree → List ℕ → Result Tree Miss) (step : ℕ) (t : Tree) (token last : List ℕ) (tokens : List (List ℕ))
    → edit_path edit step t (token ∷ (tokens ++ last ∷ []))
    ≡ at_step step (child t token) (λ u. and_then (edit_path edit (suc step) u (tokens ++ last ∷ []))
    (λ v. at_step step (put t token v) Ok))
edit_path-step edit step t token last [] = refl
edit_path-step edit step t token last (next ∷ tokens) = refl

-- what an edit of the value below gives, rebuilt, is the edit of the whole
pub edit_path-Rebuilt : (edit : Tree → List ℕ → Result Tree Miss) (parents : List (List ℕ)) (last : List ℕ) (step : ℕ) (t a u b v r : Tree)
    → Lowered parents t a u b → edit u last ≡ Ok v → Rebuilt parents t v r → edit_path edit step t (parents ++ last ∷ []) ≡ Ok r
edit_path-Rebuilt edit [] last step t a u b v r low is built =
    ap (λ x. at_step step x Ok) (subst (λ x. edit x last ≡ Ok v) low.0 is) ∙ ap Ok (sym built)
edit_path-Rebuilt edit (token ∷ parents) last step t a u b v r low is built =
    let inner = subst (λ x. Rebuilt parents x v built.1) (Ok-same (child t token) built.0 low.0 built.2 low.2) built.3 in
    edit_path-step edit step t token last parents
    ∙ rw (low.2, edit_path-Rebuilt edit parents last (suc step) low.0 low.1 u b v built.1 low.4 is inner, built.4)

-- a refusal of the last step
pub edit_path-missed : (edit : Tree → List ℕ → Result Tree Miss) (parents : List (List ℕ)) (last : List ℕ) (step : ℕ)
    (t a u b : Tree) (miss : Miss)
    → Lowered parents t a u b → edit u last ≡ Err miss
    → edit_path edit step t (parents ++ last ∷ []) ≡ Err (refusal miss (step + length parents))
edit_path-missed edit [] last step t a u b miss low is =
    ap (λ x. at_step step x Ok) (subst (λ x. edit x last ≡ Err miss) low.0 is) ∙ ap (λ s. Err (refusal miss s)) (sym (add-zero step))
edit_path-missed edit (token ∷ parents) last step t a u b miss low is =
    edit_path-step edit step t token last parents
    ∙ rw (low.2, edit_path-missed edit parents last (suc step) low.0 low.1 u b miss low.4 is) (ap (λ s. Err (refusal miss s)) (omega arith))

-- a refusal of an earlier step
pub edit_path-refused : (edit : Tree → List ℕ → Result Tree Miss) (parents : List (List ℕ)) (last : List ℕ) (step : ℕ)
    (t : Tree) (fault : PathFault)
    → at_from step t parents ≡ Err fault → edit_path edit step t (parents ++ last ∷ []) ≡ Err fault
edit_path-refused edit [] last step t fault is = cc
edit_path-refused edit (token ∷ parents) last step t fault is =
    let P : Result Tree Miss → Type 0 = λ r. at_step step r (λ u. at_from (suc step) u parents) ≡ Err fault
    → at_step step r (λ u. and_then (edit_path edit (suc step) u (parents ++ last ∷ []))
    (λ v. at_step step (put t token v) Ok)) ≡ Err fault in
    edit_path-step edit step t token last parents
    ∙ (elim (child t token) as P [
      | Ok u ↦ λ e. rw (edit_path-refused edit parents last (suc step) u fault e)
      | Err miss ↦ λ e. e
    ]) is

-- ---- the last key

-- what comes before the last step leads to its mapping
pub last_key-parent : (parents : List (List ℕ)) (last : List ℕ) (step : ℕ) (t u : Tree) → at_from step t parents ≡ Ok u
    → last_key t (parents ++ last ∷ []) ≡ key_in u last
last_key-parent [] last step t u is = let same : t ≡ u = cc in ap (λ x. key_in x last) same
last_key-parent (token ∷ parents) last step t u is =
    let P : Result Tree Miss → Type 0 = λ r. child t token ≡ r → at_step step r (λ w. at_from (suc step) w parents) ≡ Ok u
    → last_key t (token ∷ (parents ++ last ∷ [])) ≡ key_in u last in
    (elim (child t token) as P [
      | Ok w ↦ λ found e. last_key-step t token last parents ∙ ap (λ r. in_child r (λ x. last_key x (parents ++ last ∷ []))) found
          ∙ last_key-parent parents last (suc step) w u e
      | Err miss ↦ λ found e. cc
    ]) refl is
  where
    last_key-step : (t : Tree) (token last : List ℕ) (parents : List (List ℕ))
        → last_key t (token ∷ (parents ++ last ∷ [])) ≡ in_child (child t token) (λ x. last_key x (parents ++ last ∷ []))
    last_key-step t token last [] = refl
    last_key-step t token last (next ∷ parents) = refl

-- ---- the tokens of the code

-- the texts of two lists of strings
pub texts-append : (xs ys : List (CowStr Global)) → texts (xs ++ ys) ≡ texts xs ++ texts ys
texts-append [] ys = refl
texts-append (x ∷ xs) ys = ap (λ ts. chars (cow_str_bytes x) ∷ ts) (texts-append xs ys)

-- the text of the string at a place
pub texts-turn : (tokens : List (CowStr Global)) (n : ℕ) (token : CowStr Global) → n < length tokens → token ≡ get_or tokens n token
    → texts (take (n + 1) tokens) ≡ texts (take n tokens) ++ chars (cow_str_bytes token) ∷ []
texts-turn tokens n token within is =
    ap texts (take_more tokens n token within) ∙ texts-append (take n tokens) (get_or tokens n token ∷ [])
    ∙ ap (λ x. texts (take n tokens) ++ chars (cow_str_bytes x) ∷ []) (sym is)

-- the same from the end on
pub texts-back : (tokens : List (CowStr Global)) (left : ℕ) (token : CowStr Global) → 0 < left → left ≤ length tokens
    → token ≡ get_or tokens (left - 1) token
    → texts (take left tokens) ≡ texts (take (left - 1) tokens) ++ chars (cow_str_bytes token) ∷ []
texts-back tokens left token some within is =
    let next : left - 1 + 1 ≡ left = omega arith in
    ap (λ n. texts (take n tokens)) (sym next) ∙ texts-turn tokens (left - 1) token (omega arith) is

-- the texts before the string at a place, its own, and those after it
pub texts-split : (tokens : List (CowStr Global)) (n : ℕ) (token : CowStr Global) → n < length tokens → token ≡ get_or tokens n token
    → texts tokens ≡ texts (take n tokens) ++ chars (cow_str_bytes token) ∷ texts (drop (n + 1) tokens)
texts-split tokens n token within is =
    ap texts (sym (take-append-drop n tokens)) ∙ texts-append (take n tokens) (drop n tokens)
    ∙ ap (λ ts. texts (take n tokens) ++ ts) (at_drop_more texts tokens n token within)
    ∙ ap (λ x. texts (take n tokens) ++ chars (cow_str_bytes x) ∷ texts (drop (n + 1) tokens)) (sym is)

-- the value one step further down
pub at_from-turn : (tokens : List (CowStr Global)) (n : ℕ) (token : CowStr Global) (t u w : Tree) → n < length tokens
    → token ≡ get_or tokens n token
    → at_from 1 t (texts (take n tokens)) ≡ Ok u → child u (chars (cow_str_bytes token)) ≡ Ok w
    → at_from 1 t (texts (take (n + 1) tokens)) ≡ Ok w
at_from-turn tokens n token t u w within is before found =
    ap (at_from 1 t) (texts-turn tokens n token within is)
    ∙ at_from-append (texts (take n tokens)) (chars (cow_str_bytes token) ∷ []) 1 t
    ∙ rw (before, found)

-- a step that leads to nothing ends the way
pub at_from-missed : (tokens : List (CowStr Global)) (n : ℕ) (token : CowStr Global) (t u : Tree) (miss : Miss)
    → n < length tokens → token ≡ get_or tokens n token
    → at_from 1 t (texts (take n tokens)) ≡ Ok u → child u (chars (cow_str_bytes token)) ≡ Err miss
    → at_from 1 t (texts tokens) ≡ Err (refusal miss (n + 1))
at_from-missed tokens n token t u miss within is before missed =
    ap (at_from 1 t) (texts-split tokens n token within is)
    ∙ at_from-append (texts (take n tokens)) (chars (cow_str_bytes token) ∷ texts (drop (n + 1) tokens)) 1 t
    ∙ rw (before, missed)
    (ap (λ s. Err (refusal miss s)) (omega (
      arith,
      length-map (take n tokens) (λ (x : CowStr Global). chars (cow_str_bytes x)),
      length-take-le n tokens (omega arith),
    )))
