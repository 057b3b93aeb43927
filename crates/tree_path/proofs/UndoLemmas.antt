-- What takes a set back: the way down by places, and back up with what was there.
use Rattle.std.proofs.Common.{◌≡◌, ℕ, zero, suc, ◌+◌, ◌-◌, ◌<◌, ◌≤◌, Bool, true, false, cond, List, [], ◌∷◌, ◌++◌, length, take, drop}
use Rattle.std.proofs.Common.{get_or, Option, Some, None, option_map, Ok, Err, refl, sym, ap, subst, ◌∙◌, arith}
use Rattle.tree_path.proofs.Prelude.{take_more, take-append-drop, length-take-le, at_drop_more, same_text, Tree, text, sequence, mapping}
use Rattle.tree_path.proofs.Prelude.{Elements, no_element, element, Members, no_member, member, Pair, elements_of, members_of, tree_of}
use Rattle.tree_path.proofs.{StepLaws.{child-put, put-put, put-child}, Ways.{place-put, Leads-step}, Descents.{Ok-same, at_from-Lowered}}
use Rattle.tree_path.{proofs.Descents.Lowered-pop, specs.Paths.{Index, number, after_last, no_index, index_of, at_index, present}}
use Rattle.tree_path.specs.Paths.{element_at, put_element, push_element, value_of, put_member, child, put, at_step, at_from}
use Rattle.tree_path.specs.{Steps.{step_place, Leads, Lowered, Rebuilt}, declared.place.Miss.TheVariants.Absent}
use Rattle.yaml_data.specs.declared.tree.Tree.{Tree as Node}

-- ---- one step

-- a value that was replaced goes back to its place
pub puts-back : (t u : Tree) (token : List ℕ) (c b : Tree) (place : ℕ) → child t token ≡ Ok c → put t token b ≡ Ok u
    → step_place t token ≡ Ok place → (x : List ℕ) × (step_place u x ≡ Ok place) × (put u x c ≡ Ok t)
puts-back t u token c b place found made placed =
    (token, place-put t u token c b found made ∙ placed, put-put t u token c b c found made ∙ put-child t token c found)

-- nothing is put into a text
pub no-text-put : (before : Tree) (token : List ℕ) (x : Tree) (value : List ℕ) → put before token x ≡ Ok (text value) → ⊥
unfolding put
no-text-put (text other) token x value made = cc
no-text-put (sequence ts) token x value made = by (index_of token) made
  where
    from : (o : Option Elements) → present (option_map sequence o) ≡ Ok (text value) → ⊥
    from None e = cc
    from (Some us) e = cc

    by : (index : Index) → at_index index (λ n. option_map sequence (put_element ts n x)) (Ok (sequence (push_element ts x)))
        ≡ Ok (text value) → ⊥
    by (number n) e = from (put_element ts n x) e
    by after_last e = cc
    by no_index e = cc
no-text-put (mapping ms) token x value made = cc

-- where no element is, none is replaced
put-nowhere : (ts : Elements) (n : ℕ) (x : Tree) → element_at ts n ≡ None → put_element ts n x ≡ None
put-nowhere no_element n x none = refl
put-nowhere (element t ts) zero x none = cc
put-nowhere (element t ts) (suc n) x none = ap (option_map (element t)) (put-nowhere ts n x none)

present-none : {A : Type 0} (o : Option A) → present o ≡ Err Absent → o ≡ None
present-none None is = refl
present-none (Some x) is = cc

-- there is an element after a push
push-some : (us : Elements) (x : Tree) → push_element us x ≡ no_element → ⊥
push-some no_element x is = cc
push-some (element u us) x is = cc

put-some : (ms : Members) (key : List ℕ) (x : Tree) → put_member ms key x ≡ no_member → ⊥
put-some no_member key x is = cc
put-some (member other t ms) key x is = by (same_text key other) is
  where
    by : (b : Bool) → cond b (member other x ms) (member other t (put_member ms key x)) ≡ no_member → ⊥
    by true e = cc
    by false e = cc

-- without the last element they are those before a push
push-last : (us : Elements) (x : Tree) (ts : List Node) (n : ℕ) → push_element us x ≡ elements_of ts → suc n ≡ length ts
    → elements_of (take n ts) ≡ us
push-last us x [] n is long = absurd (omega (arith, long))
push-last no_element x (t ∷ ts) zero is long = refl
push-last no_element x (t ∷ []) (suc n) is long = absurd (omega (arith, long))
push-last no_element x (t ∷ s ∷ ts) (suc n) is long = cc
push-last (element u us) x (t ∷ []) zero is long = let none : push_element us x ≡ no_element = cc in absurd (push-some us x none)
push-last (element u us) x (t ∷ s ∷ ts) zero is long = absurd (omega (arith, long))
push-last (element u us) x (t ∷ ts) (suc n) is long =
    let first : u ≡ tree_of t = cc in
    let rest : push_element us x ≡ elements_of ts = cc in
    ap (element (tree_of t)) (push-last us x ts n rest (omega (arith, long))) ∙ ap (λ y. element y us) (sym first)

-- without the last member they are those before a new key
abbrev LastPut : Members → List ℕ → Tree → Type 0
LastPut ms key x =
    (qs : List Pair) (k : ℕ) → value_of ms key ≡ None → put_member ms key x ≡ members_of qs → suc k ≡ length qs
    → members_of (take k qs) ≡ ms

put-last : (ms : Members) (key : List ℕ) (x : Tree) (ps : List Pair) (n : ℕ) → value_of ms key ≡ None
    → put_member ms key x ≡ members_of ps → suc n ≡ length ps → members_of (take n ps) ≡ ms
put-last ms key x [] n none is long = absurd (omega (arith, long))
put-last no_member key x (p ∷ ps) zero none is long = refl
put-last no_member key x (p ∷ []) (suc n) none is long = absurd (omega (arith, long))
put-last no_member key x (p ∷ q ∷ ps) (suc n) none is long = cc
put-last (member other t ms) key x (p ∷ ps) n none is long =
    by (same_text key other) (λ qs k absent rest more. put-last ms key x qs k absent rest more) none is
  where
    head : (qs rs : List Pair) → member other t (members_of qs) ≡ members_of (p ∷ qs)
        → member other t (members_of rs) ≡ members_of (p ∷ rs)
    head qs rs e = cc

    more : (qs : List Pair) (n : ℕ) → suc n ≡ length (p ∷ qs) → LastPut ms key x → value_of ms key ≡ None
        → member other t (put_member ms key x) ≡ members_of (p ∷ qs) → members_of (take n (p ∷ qs)) ≡ member other t ms
    more [] zero long inner absent e = let empty : put_member ms key x ≡ no_member = cc in absurd (put-some ms key x empty)
    more (q ∷ qs) zero long inner absent e = absurd (omega (arith, long))
    more qs (suc k) long inner absent e =
        let rest : put_member ms key x ≡ members_of qs = cc in
        sym (head qs (take k qs) (ap (member other t) (sym rest) ∙ e))
        ∙ ap (member other t) (inner qs k absent rest (omega (arith, long)))

    by : (b : Bool) → LastPut ms key x → cond b (Some t) (value_of ms key) ≡ None
        → cond b (member other x ms) (member other t (put_member ms key x)) ≡ members_of (p ∷ ps)
        → members_of (take n (p ∷ ps)) ≡ member other t ms
    by true inner e made = cc
    by false inner e made = more ps n long inner e made

pub take-last-Seq : (ts : List Node) (before : Tree) (token : List ℕ) (x : Tree) → child before token ≡ Err Absent
    → put before token x ≡ Ok (sequence (elements_of ts)) → sequence (elements_of (take (length ts - 1) ts)) ≡ before
unfolding child put
take-last-Seq ts (text value) token x absent made = cc
take-last-Seq ts (mapping ms) token x absent made = cc
take-last-Seq ts (sequence us) token x absent made = by (index_of token) absent made
  where
    pushed : (ts : List Node) → push_element us x ≡ elements_of ts → elements_of (take (length ts - 1) ts) ≡ us
    pushed [] e = absurd (push-some us x e)
    pushed (t ∷ ts) e =
        let n : length (t ∷ ts) - 1 ≡ length ts = omega arith in
        ap (λ k. elements_of (take k (t ∷ ts))) n ∙ push-last us x (t ∷ ts) (length ts) e refl

    by : (index : Index) → at_index index (element_at us) (Err Absent) ≡ Err Absent
        → at_index index (λ n. option_map sequence (put_element us n x)) (Ok (sequence (push_element us x)))
        ≡ Ok (sequence (elements_of ts)) → sequence (elements_of (take (length ts - 1) ts)) ≡ sequence us
    by (number n) none e =
        let nowhere = ap (λ o. present (option_map sequence o)) (put-nowhere us n x (present-none (element_at us n) none)) in
        absurd (cc (sym nowhere ∙ e))
    by after_last none e = let same : push_element us x ≡ elements_of ts = cc in ap sequence (pushed ts same)
    by no_index none e = cc

pub take-last-Map : (ps : List Pair) (before : Tree) (token : List ℕ) (x : Tree) → child before token ≡ Err Absent
    → put before token x ≡ Ok (mapping (members_of ps)) → mapping (members_of (take (length ps - 1) ps)) ≡ before
unfolding child put
take-last-Map ps (text value) token x absent made = cc
take-last-Map ps (sequence us) token x absent made = by (index_of token) made
  where
    from : (o : Option Elements) → present (option_map sequence o) ≡ Ok (mapping (members_of ps)) → ⊥
    from None e = cc
    from (Some us) e = cc

    by : (index : Index) → at_index index (λ n. option_map sequence (put_element us n x)) (Ok (sequence (push_element us x)))
        ≡ Ok (mapping (members_of ps)) → mapping (members_of (take (length ps - 1) ps)) ≡ sequence us
    by (number n) e = absurd (from (put_element us n x) e)
    by after_last e = cc
    by no_index e = cc
take-last-Map ps (mapping ms) token x absent made =
    let same : put_member ms token x ≡ members_of ps = cc in
    ap mapping (put ps same)
  where
    put : (ps : List Pair) → put_member ms token x ≡ members_of ps → members_of (take (length ps - 1) ps) ≡ ms
    put [] e = absurd (put-some ms token x e)
    put (p ∷ ps) e =
        let n : length (p ∷ ps) - 1 ≡ length ps = omega arith in
        ap (λ k. members_of (take k (p ∷ ps))) n
        ∙ put-last ms token x (p ∷ ps) (length ps) (present-none (value_of ms token) absent) e refl

-- ---- some steps

-- the value where the steps lead is what was put there
pub at-made : (steps : List (List ℕ)) (step : ℕ) (before here now : Tree) → Rebuilt steps before here now
    → at_from step now steps ≡ Ok here
at-made [] step before here now made = ap Ok made
at-made (token ∷ tokens) step before here now made =
    rw (child-put before now token made.0 made.1 made.2 made.4, at-made tokens (suc step) made.0 here made.1 made.3)

-- the places lead on in the tree with another value there
pub leads-made : (steps : List (List ℕ)) (before here now : Tree) (ps : List ℕ) → Rebuilt steps before here now
    → Leads steps before ps → Leads steps now ps
leads-made [] before here now ps made leads = tt
leads-made (token ∷ tokens) before here now [] made leads = absurd leads
leads-made (token ∷ tokens) before here now (p ∷ ps) made leads = (
  made.1,
  place-put before now token made.0 made.1 made.2 made.4 ∙ leads.1,
  child-put before now token made.0 made.1 made.2 made.4,
  leads-made tokens made.0 here made.1 ps made.3
      (subst (λ x. Leads tokens x ps) (Ok-same (child before token) leads.0 made.0 leads.2 made.2) leads.3),
)

-- with what was there in its place again, the tree is the one before
pub undo-same : (steps : List (List ℕ)) (step : ℕ) (before here now there r : Tree) → Rebuilt steps before here now
    → at_from step before steps ≡ Ok there → Rebuilt steps now there r → r ≡ before
undo-same [] step before here now there r made found back = let same : before ≡ there = cc in back ∙ sym same
undo-same (token ∷ tokens) step before here now there r made found back =
    let below : at_from (suc step) made.0 tokens ≡ Ok there =
    ap (λ c. at_step step c (λ u. at_from (suc step) u tokens)) (sym made.2) ∙ found in
    let seen = child-put before now token made.0 made.1 made.2 made.4 in
    let inner = subst (λ x. Rebuilt tokens x there back.1) (Ok-same (child now token) back.0 made.1 back.2 seen) back.3 in
    let same = undo-same tokens (suc step) made.0 here made.1 there back.1 made.3 below inner in
    Ok-same (put now token back.1) r before back.4
    (put-put before now token made.0 made.1 back.1 made.2 made.4 ∙ ap (put before token) same ∙ put-child before token made.0 made.2)

-- ---- the places of the steps

pub leads-long : (steps : List (List ℕ)) (t : Tree) (ps : List ℕ) → Leads steps t ps → length steps ≤ length ps
leads-long [] t ps leads = omega arith
leads-long (token ∷ tokens) t [] leads = absurd leads
leads-long (token ∷ tokens) t (p ∷ ps) leads = omega (arith, leads-long tokens leads.0 ps leads.3)

pub leads-take : (steps : List (List ℕ)) (t : Tree) (ps : List ℕ) → Leads steps t ps → Leads steps t (take (length steps) ps)
leads-take [] t ps leads = tt
leads-take (token ∷ tokens) t [] leads = absurd leads
leads-take (token ∷ tokens) t (p ∷ ps) leads = (leads.0, leads.1, leads.2, leads-take tokens leads.0 ps leads.3)

-- the steps before one, itself, and those after it
split-at : (steps : List (List ℕ)) (i : ℕ) → i < length steps → steps ≡ take i steps ++ get_or steps i [] ∷ drop (i + 1) steps
split-at steps i within =
    sym (take-append-drop i steps) ∙ ap (λ ts. take i steps ++ ts) (at_drop_more (λ (ts : List (List ℕ)). ts) steps i [] within)

-- the place of the step after some that were gone down
pub lead-step : (steps : List (List ℕ)) (i : ℕ) (t a u b : Tree) (ps : List ℕ) → i < length ps → length steps ≡ length ps
    → Leads steps t ps → Lowered (take i steps) t a u b → step_place u (get_or steps i []) ≡ Ok (get_or ps i 0)
lead-step steps i t a u b ps within long leads low =
    let count : length (take i steps) ≡ i = length-take-le i steps (omega (arith, within, long)) in
    let split = subst (λ ts. Leads ts t ps) (split-at steps i (omega (arith, within, long))) leads in
    let found = Leads-step (take i steps) (get_or steps i []) (drop (i + 1) steps) 1 t u ps split
    (at_from-Lowered (take i steps) 1 t a u b low) in
    found.1 ∙ ap (λ k. Ok (get_or ps k 0)) count

-- the last of some steps, and those before it
pub split-back : (steps : List (List ℕ)) (left : ℕ) → 0 < left → left ≤ length steps
    → take left steps ≡ take (left - 1) steps ++ get_or steps (left - 1) [] ∷ []
split-back steps left some within =
    let next : left - 1 + 1 ≡ left = omega (arith, some) in
    ap (λ n. take n steps) (sym next) ∙ take_more steps (left - 1) [] (omega (arith, some, within))

-- on the way up, the place of the step in the tree above
pub above-place : (steps : List (List ℕ)) (left : ℕ) (t a u b : Tree) (ps : List ℕ) → 0 < left → left ≤ length ps
    → length steps ≡ length ps → Leads steps t ps → Lowered (take left steps) t a u b
    → step_place b (get_or steps (left - 1) []) ≡ Ok (get_or ps (left - 1) 0)
above-place steps left t a u b ps some within long leads low =
    let token = get_or steps (left - 1) [] in
    let rest = take (left - 1) steps in
    let p = Lowered-pop rest token t a u b
    (subst (λ ts. Lowered ts t a u b) (split-back steps left some (omega (arith, within, long))) low) in
    place-put p.0 b token u p.1 p.3 p.4
    ∙ lead-step steps (left - 1) t a p.0 p.1 ps (omega (arith, some, within)) long leads p.2
