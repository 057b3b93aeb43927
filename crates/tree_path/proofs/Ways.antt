-- The places of the steps of a path: where they lead, what stays of them after an edit below, and the lists of them.
use Rattle.std.proofs.Common.{◌≡◌, ℕ, zero, suc, ◌+◌, ◌-◌, ◌<◌, Bool, true, false, cond, nat_lt, List, [], ◌∷◌, ◌++◌, length, take, drop}
use Rattle.std.proofs.Common.{get_or, Option, Some, None, option_map, Ok, Err, Global, refl, sym, ap, subst, ◌∙◌, arith}
use Rattle.tree_path.proofs.Prelude.{cow_str_bytes, CowStr, ok_or, chars, length-append, length-map, length-take-le, take_at, same_text}
use Rattle.tree_path.proofs.Prelude.{Tree, text, sequence, mapping, Elements, Members, no_member, member, Pair, elements_of, members_of}
use Rattle.tree_path.proofs.{Prelude.texts, Descents.{last_key-parent, texts-split}, Places.{place_of-pairs, element_at-past}}
use Rattle.tree_path.proofs.{Steps.{below_true, below_false}, StepLaws.{option_map-Some, option_map-None, present-Ok}}
use Rattle.tree_path.{proofs.StepLaws.element_at-put_element, specs.declared.place.Miss.{Miss, TheVariants.{Absent, NoIndex}}}
use Rattle.tree_path.specs.{declared.step_places.Known.{Known, TheVariants.{Found, Nothing}}, Paths.{Index, number, after_last, no_index}}
use Rattle.tree_path.specs.Paths.{index_of, at_index, present, element_at, put_element, value_of, put_member, push_element, place_of, child}
use Rattle.tree_path.specs.{Paths.{put, at_step, at_from, last_key, key_in}, Steps.{index_below, key_place, step_place, Leads, parents_of}}
use Rattle.{tree_path.specs.Steps.{Knows, KnowsWay, KnowsStep, KnowsLast}, yaml_data.specs.declared.tree.Tree.Tree as Node}

-- ---- the place of a step

-- of a key that is there
pub place_of-there : (ms : Members) (key : List ℕ) (c : Tree) → value_of ms key ≡ Some c → (i : ℕ) × (place_of ms key ≡ Some i)
place_of-there no_member key c is = cc
place_of-there (member other t ms) key c is =
    let P : Bool → Type 0 = λ b. cond b (Some t) (value_of ms key) ≡ Some c
    → (i : ℕ) × (cond b (Some 0) (option_map suc (place_of ms key)) ≡ Some i) in
    (elim (same_text key other) as P [
      | true ↦ λ e. (0, refl)
      | false ↦ λ e. let p = place_of-there ms key c e in (suc p.0, ap (option_map suc) p.1)
    ]) is

-- of one that is missing
pub value_of-missed : (ms : Members) (key : List ℕ) → place_of ms key ≡ None → value_of ms key ≡ None
value_of-missed no_member key is = refl
value_of-missed (member other t ms) key is =
    let P : Bool → Type 0 = λ b. cond b (Some 0) (option_map suc (place_of ms key)) ≡ None → cond b (Some t) (value_of ms key) ≡ None in
    (elim (same_text key other) as P [
      | true ↦ λ e. cc
      | false ↦ λ e. value_of-missed ms key (option_map-None suc (place_of ms key) e)
    ]) is

-- a key that is there keeps its place
place_of-put : (ms : Members) (key : List ℕ) (c b : Tree) → value_of ms key ≡ Some c → place_of (put_member ms key b) key ≡ place_of ms key
place_of-put no_member key c b is = cc
place_of-put (member other t ms) key c b is =
    let P : Bool → Type 0 = λ x. same_text key other ≡ x → cond x (Some t) (value_of ms key) ≡ Some c
    → place_of (cond x (member other b ms) (member other t (put_member ms key b))) key
    ≡ cond x (Some 0) (option_map suc (place_of ms key)) in
    (elim (same_text key other) as P [
      | true ↦ λ e found. rw e
      | false ↦ λ e found. rw e (ap (option_map suc) (place_of-put ms key c b found))
    ]) refl is

present-missed : {A : Type 0} (o : Option A) (miss : Miss) → present o ≡ Err miss → (o ≡ None) × (Absent ≡ miss)
present-missed None miss is = (refl, cc)
present-missed (Some a) miss is = cc

-- where a step leads to a value it has a place
pub place-there : (t c : Tree) (token : List ℕ) → child t token ≡ Ok c → (place : ℕ) × (step_place t token ≡ Ok place)
unfolding child step_place
place-there (text value) c token is = cc
place-there (sequence ts) c token is = by (index_of token) is
  where
    by : (index : Index) → at_index index (element_at ts) (Err Absent) ≡ Ok c
        → (place : ℕ) × (at_index index (λ n. option_map (λ _. n) (element_at ts n)) (Err Absent) ≡ Ok place)
    by (number n) found = (n, ap (λ o. present (option_map (λ _. n) o)) (present-Ok (element_at ts n) c found))
    by after_last found = cc
    by no_index found = cc
place-there (mapping ms) c token is =
    let p = place_of-there ms token c (present-Ok (value_of ms token) c is) in (p.0, ap present p.1)

-- where it has none it leads to nothing, for the same reason
pub place-missed : (t : Tree) (token : List ℕ) (miss : Miss) → step_place t token ≡ Err miss → child t token ≡ Err miss
unfolding child step_place
place-missed (text value) token miss is = let same : Absent ≡ miss = cc in ap Err same
place-missed (sequence ts) token miss is = by (index_of token) is
  where
    by : (index : Index) → at_index index (λ n. option_map (λ _. n) (element_at ts n)) (Err Absent) ≡ Err miss
        → at_index index (element_at ts) (Err Absent) ≡ Err miss
    by (number n) missed =
        let m = present-missed (option_map (λ _. n) (element_at ts n)) miss missed in
        ap present (option_map-None (λ _. n) (element_at ts n) m.0) ∙ ap Err m.1
    by after_last missed = let same : Absent ≡ miss = cc in ap Err same
    by no_index missed = let same : NoIndex ≡ miss = cc in ap Err same
place-missed (mapping ms) token miss is =
    let m = present-missed (place_of ms token) miss is in
    ap present (value_of-missed ms token m.0) ∙ ap Err m.1

-- a value that is replaced keeps its place
pub place-put : (t u : Tree) (token : List ℕ) (c b : Tree) → child t token ≡ Ok c → put t token b ≡ Ok u
    → step_place u token ≡ step_place t token
unfolding child put step_place
place-put (text value) u token c b found is = cc
place-put (sequence ts) u token c b found is =
    let p = by (index_of token) found is in
    subst (λ x. step_place x token ≡ step_place (sequence ts) token) p.1 p.2
  where
    by : (index : Index) → at_index index (element_at ts) (Err Absent) ≡ Ok c
        → at_index index (λ n. option_map sequence (put_element ts n b)) (Ok (sequence (push_element ts b))) ≡ Ok u
        → (us : Elements) × (sequence us ≡ u)
        × (at_index index (λ n. option_map (λ _. n) (element_at us n)) (Err Absent)
        ≡ at_index index (λ n. option_map (λ _. n) (element_at ts n)) (Err Absent))
    by (number n) there made =
        let o = option_map-Some sequence (put_element ts n b) u (present-Ok _ u made) in (
          o.0,
          o.2,
          ap (λ e. present (option_map (λ _. n) e)) (element_at-put_element ts o.0 n b o.1)
              ∙ sym (ap (λ e. present (option_map (λ _. n) e)) (present-Ok (element_at ts n) c there)),
        )
    by after_last there made = cc
    by no_index there made = cc
place-put (mapping ms) u token c b found is =
    let e : mapping (put_member ms token b) ≡ u = cc in
    subst (λ x. step_place x token ≡ step_place (mapping ms) token) e
    (ap present (place_of-put ms token c b (present-Ok (value_of ms token) c found)))

-- ---- the place that the code finds

element-there : (ts : List Node) (n place : ℕ) → n < length ts → option_map (λ _. place) (element_at (elements_of ts) n) ≡ Some place
element-there [] n place within = absurd (omega arith)
element-there (t ∷ ts) zero place within = refl
element-there (t ∷ ts) (suc n) place within = element-there ts n place (omega arith)

-- in a sequence it is the index
pub step_place-Seq : (ts : List Node) (token : List ℕ) → step_place (sequence (elements_of ts)) token ≡ index_below token (length ts)
unfolding step_place
step_place-Seq ts token = by (index_of token)
  where
    same : (n : ℕ) → option_map (λ _. n) (element_at (elements_of ts) n) ≡ cond (nat_lt n (length ts)) (Some n) None
    same n =
        let P : Bool → Type 0 = λ b. nat_lt n (length ts) ≡ b
        → option_map (λ _. n) (element_at (elements_of ts) n) ≡ cond b (Some n) None in
        (elim (nat_lt n (length ts)) as P [
          | true ↦ λ e. element-there ts n n (below_true n (length ts) e)
          | false ↦ λ e. ap (option_map (λ _. n)) (element_at-past ts n (below_false n (length ts) e))
        ]) refl

    by : (index : Index) → at_index index (λ n. option_map (λ _. n) (element_at (elements_of ts) n)) (Err Absent)
        ≡ at_index index (λ n. cond (nat_lt n (length ts)) (Some n) None) (Err Absent)
    by (number n) = ap present (same n)
    by after_last = refl
    by no_index = refl

-- in a mapping that of the first pair with the key
pub step_place-Map : (ps : List Pair) (token : List ℕ) → step_place (mapping (members_of ps)) token ≡ present (key_place token ps)
unfolding step_place
step_place-Map ps token = ap present (place_of-pairs ps token)

-- a text has none
pub step_place-Text : (value token : List ℕ) → step_place (text value) token ≡ Err Absent
unfolding step_place
step_place-Text value token = refl

-- so a place of one is none
pub no-place : (value token : List ℕ) (place : ℕ) → step_place (text value) token ≡ Ok place → ⊥
no-place value token place is = cc (sym (step_place-Text value token) ∙ is)

-- the index, and the pair with the key
pub index-placed : (ts : List Node) (token : List ℕ) (place : ℕ)
    → step_place (sequence (elements_of ts)) token ≡ Ok place → index_below token (length ts) ≡ Ok place
index-placed ts token place is = sym (step_place-Seq ts token) ∙ is

pub key-placed : (ps : List Pair) (token : List ℕ) (place : ℕ) → step_place (mapping (members_of ps)) token ≡ Ok place
    → key_place token ps ≡ Some place
key-placed ps token place is = present-Ok (key_place token ps) place (sym (step_place-Map ps token) ∙ is)

-- a place that may be missing
pub ok_or-present : (o : Option ℕ) → ok_or o Absent ≡ present o
ok_or-present None = refl
ok_or-present (Some place) = refl

-- ---- the steps of a path

pub Leads-prefix : (xs ys : List (List ℕ)) (t : Tree) (ps : List ℕ) → Leads (xs ++ ys) t ps → Leads xs t ps
Leads-prefix [] ys t ps leads = tt
Leads-prefix (x ∷ xs) ys t [] leads = leads
Leads-prefix (x ∷ xs) ys t (p ∷ ps) leads = (leads.0, leads.1, leads.2, Leads-prefix xs ys leads.0 ps leads.3)

-- the value at the end of the steps after one
after-step : (x : List ℕ) (xs : List (List ℕ)) (step : ℕ) (t u cur : Tree) → child t x ≡ Ok u
    → at_from step t (x ∷ xs) ≡ Ok cur → at_from (suc step) u xs ≡ Ok cur
after-step x xs step t u cur found is = ap (λ r. at_step step r (λ w. at_from (suc step) w xs)) (sym found) ∙ is

-- the place of one of them
pub Leads-step : (xs : List (List ℕ)) (token : List ℕ) (ys : List (List ℕ)) (step : ℕ) (t cur : Tree) (ps : List ℕ)
    → Leads (xs ++ token ∷ ys) t ps → at_from step t xs ≡ Ok cur
    → (length xs < length ps) × (step_place cur token ≡ Ok (get_or ps (length xs) 0))
Leads-step [] token ys step t cur [] leads is = absurd leads
Leads-step [] token ys step t cur (p ∷ ps) leads is =
    let same : t ≡ cur = cc in (omega arith, subst (λ x. step_place x token ≡ Ok p) same leads.1)
Leads-step (x ∷ xs) token ys step t cur [] leads is = absurd leads
Leads-step (x ∷ xs) token ys step t cur (p ∷ ps) leads is =
    let below = Leads-step xs token ys (suc step) leads.0 cur ps leads.3 (after-step x xs step t leads.0 cur leads.2 is) in
    let within = below.0 in
    (omega arith, below.1)

-- one step more
pub Leads-push : (xs : List (List ℕ)) (token : List ℕ) (step : ℕ) (t cur next : Tree) (ps : List ℕ) (p : ℕ)
    → Leads xs t ps → length ps ≡ length xs → at_from step t xs ≡ Ok cur → step_place cur token ≡ Ok p → child cur token ≡ Ok next
    → Leads (xs ++ token ∷ []) t (ps ++ p ∷ [])
Leads-push [] token step t cur next [] p leads long is place found =
    let same : cur ≡ t = cc in
    (next, subst (λ x. step_place x token ≡ Ok p) same place, subst (λ x. child x token ≡ Ok next) same found, tt)
Leads-push [] token step t cur next (q ∷ ps) p leads long is place found = cc
Leads-push (x ∷ xs) token step t cur next [] p leads long is place found = absurd leads
Leads-push (x ∷ xs) token step t cur next (q ∷ ps) p leads long is place found = (
  leads.0,
  leads.1,
  leads.2,
  Leads-push xs token (suc step) leads.0 cur next ps p leads.3 (omega (arith, long))
      (after-step x xs step t leads.0 cur leads.2 is) place found,
)

-- the steps before the last
pub parents-split : (path parents : List (List ℕ)) (last : List ℕ) → path ≡ parents ++ last ∷ [] → parents_of path ≡ parents
parents-split path parents last split =
    let long = length-append parents (last ∷ []) in
    ap parents_of split ∙ take_at parents (last ∷ []) (length (parents ++ last ∷ []) - 1) (omega (arith, long))

-- a path that isn't empty is those before the last, and the last
pub parents-more : (x y : List ℕ) (ys : List (List ℕ)) → parents_of (x ∷ y ∷ ys) ≡ x ∷ parents_of (y ∷ ys)
parents-more x y ys =
    let here : length (x ∷ y ∷ ys) - 1 ≡ suc (length ys) = omega arith in
    let below : length (y ∷ ys) - 1 ≡ length ys = omega arith in
    ap (λ n. take n (x ∷ y ∷ ys)) here ∙ sym (ap (λ n. x ∷ take n (y ∷ ys)) below)

split-last : (x : List ℕ) (xs : List (List ℕ)) → (last : List ℕ) × (x ∷ xs ≡ parents_of (x ∷ xs) ++ last ∷ [])
split-last x [] = (x, refl)
split-last x (y ∷ ys) =
    let p = split-last y ys in
    (p.0, ap (λ rest. x ∷ rest) p.1 ∙ sym (ap (λ before. before ++ p.0 ∷ []) (parents-more x y ys)))

pub path-split : (path : List (List ℕ)) → 0 < length path → (last : List ℕ) × (path ≡ parents_of path ++ last ∷ [])
path-split [] some = absurd (omega (arith, some))
path-split (x ∷ xs) some = split-last x xs

-- ---- what is known of them

pub knows-way : (known : Known) (t : Tree) (path parents : List (List ℕ)) (last : List ℕ)
    → path ≡ parents ++ last ∷ [] → Knows known t path → KnowsWay known parents t
knows-way (Found places) t path parents last split knows =
    subst (λ xs. Leads xs t places.now.parents.items) (parents-split path parents last split) knows.parents
knows-way Nothing t path parents last split knows = tt

pub knows-prefix : (known : Known) (xs ys : List (List ℕ)) (t : Tree) → KnowsWay known (xs ++ ys) t → KnowsWay known xs t
knows-prefix (Found places) xs ys t knows = Leads-prefix xs ys t places.now.parents.items knows
knows-prefix Nothing xs ys t knows = tt

pub knows-last : (known : Known) (t u : Tree) (path parents : List (List ℕ)) (last : List ℕ)
    → path ≡ parents ++ last ∷ [] → at_from 1 t parents ≡ Ok u
    → Knows known t path → KnowsLast known (key_in u last)
knows-last (Found places) t u path parents last split is knows = knows.last ∙ ap (last_key t) split ∙ last_key-parent parents last 1 t u is
knows-last Nothing t u path parents last split is knows = tt

pub knows-step : (known : Known) (tokens : List (CowStr Global)) (n : ℕ) (token : CowStr Global) (t cur : Tree)
    → n < length tokens → token ≡ get_or tokens n token
    → KnowsWay known (texts tokens) t → at_from 1 t (texts (take n tokens)) ≡ Ok cur → KnowsStep known n cur (chars (cow_str_bytes token))
knows-step (Found places) tokens n token t cur within same knows is =
    let ps = places.now.parents.items in
    let text = chars (cow_str_bytes token) in
    let before = texts (take n tokens) in
    let long : length before ≡ n = length-map (take n tokens) (λ (x : CowStr Global). chars (cow_str_bytes x))
    ∙ length-take-le n tokens (omega arith) in
    subst (λ k. (k < length ps) × (step_place cur text ≡ Ok (get_or ps k 0))) long
    (Leads-step before text (texts (drop (n + 1) tokens)) 1 t cur ps
    (subst (λ ts. Leads ts t ps) (texts-split tokens n token within same) knows) is)
knows-step Nothing tokens n token t cur within same knows is = tt

-- in the tree with another value there
pub knows-above : (known : Known) (n : ℕ) (c b u d : Tree) (token : List ℕ) → child c token ≡ Ok u
    → put c token d ≡ Ok b → KnowsStep known n c token → KnowsStep known n b token
knows-above (Found places) n c b u d token found is knows = (knows.0, place-put c b token u d found is ∙ knows.1)
knows-above Nothing n c b u d token found is knows = tt
