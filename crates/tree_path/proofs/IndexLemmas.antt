-- What an edit does to the mapping of an index: at one of its keys, below one, or elsewhere.
use Rattle.std.proofs.Common.{◌≡◌, ℕ, zero, suc, ◌+◌, ◌-◌, ◌<◌, Bool, true, false, cond, List, [], ◌∷◌, ◌++◌, length, get_or, take, drop}
use Rattle.std.proofs.Common.{Bor, Global, Option, Some, None, is_some, option_map, IfSome, Result, Ok, refl, sym, ap, subst, ◌∙◌, arith}
use Rattle.std.proofs.Common.{rules}
use Rattle.tree_path.proofs.Prelude.{remove, chars, cow_str_bytes, option_copied, CowStr, take_more, at_drop_more, take-append-drop}
use Rattle.tree_path.proofs.Prelude.{length-map, length-take-le, length-drop, compares_Decides, same_text, Tree, text, sequence, mapping}
use Rattle.tree_path.proofs.{Prelude.{Members, no_member, member, Pair, members_of, text_bytes, Text, texts}, EditLaws.at_step-Ok}
use Rattle.tree_path.proofs.{EditLaws.{and_then-Ok, same_Ok}, Ways.{parents-more, Leads-step}, StepLaws.{option_map-Some, option_map-None}}
use Rattle.tree_path.proofs.{StepLaws.{present-Ok, child-put}, Descents.{edit_path, Ok-same, at_from-append, last_key-parent, texts-split}}
use Rattle.tree_path.specs.declared.{key_index.KeyIndex.KeyIndex, key_table.KeyTable.KeyTable, place.Miss.Miss}
use Rattle.tree_path.specs.{declared.step_places.StepPlaces.StepPlaces, Paths.{present, value_of, put_member, cut_member, place_of, key_in}}
use Rattle.tree_path.specs.{Paths.{last_key, child, put, cut, at_step, and_then, at_from, at, edit_from, set, delete}, Steps.key_place}
use Rattle.tree_path.specs.{Steps.{step_place, parents_of, ArePlaces, Leads}, Tables.{keys_of, steps_of, Lists, ListsIn, Indexes, Leaves}}
use Rattle.tree_path.specs.Tables.{chain_of, on_chain, place_at}

pub same_key : (key other : List ℕ) → same_text key other ≡ true → key ≡ other
same_key key other same = (compares_Decides same_text (search rules) key other).0 same

-- ---- keys of a mapping

-- a new key is the last
pub keys-put-new : (ms : Members) (key : List ℕ) (v : Tree) → place_of ms key ≡ None
    → keys_of (put_member ms key v) ≡ keys_of ms ++ key ∷ []
keys-put-new no_member key v none = refl
keys-put-new (member other t ms) key v none =
    let P : Bool → Type 0 = λ b. cond b (Some 0) (option_map suc (place_of ms key)) ≡ None
    → keys_of (cond b (member other v ms) (member other t (put_member ms key v))) ≡ other ∷ (keys_of ms ++ key ∷ []) in
    (elim (same_text key other) as P [
      | true ↦ λ e. cc
      | false ↦ λ e. ap (λ ks. other ∷ ks) (keys-put-new ms key v (option_map-None suc (place_of ms key) e))
    ]) none

-- one that is there stays
pub keys-put-there : (ms : Members) (key : List ℕ) (v : Tree) (i : ℕ) → place_of ms key ≡ Some i
    → keys_of (put_member ms key v) ≡ keys_of ms
keys-put-there no_member key v i is = cc
keys-put-there (member other t ms) key v i is =
    let P : Bool → Type 0 = λ b. cond b (Some 0) (option_map suc (place_of ms key)) ≡ Some i
    → keys_of (cond b (member other v ms) (member other t (put_member ms key v))) ≡ other ∷ keys_of ms in
    (elim (same_text key other) as P [
      | true ↦ λ e. refl
      | false ↦ λ e.
          let o = option_map-Some suc (place_of ms key) i e in
          ap (λ ks. other ∷ ks) (keys-put-there ms key v o.0 o.1)
    ]) is

-- one that is cut is at its place
pub keys-cut : (ms ns : Members) (key : List ℕ) (i : ℕ) → place_of ms key ≡ Some i → cut_member ms key ≡ Some ns
    → keys_of ns ≡ remove (keys_of ms) i
keys-cut no_member ns key i is made = cc
keys-cut (member other t ms) ns key i is made =
    let P : Bool → Type 0 = λ b. cond b (Some 0) (option_map suc (place_of ms key)) ≡ Some i
    → cond b (Some ms) (option_map (member other t) (cut_member ms key)) ≡ Some ns → keys_of ns ≡ remove (other ∷ keys_of ms) i in
    (elim (same_text key other) as P [
      | true ↦ λ e m.
          let z : 0 ≡ i = cc in
          let same : ms ≡ ns = cc in
          subst (λ n. keys_of ns ≡ remove (other ∷ keys_of ms) n) z (ap keys_of (sym same))
      | false ↦ λ e m.
          let o = option_map-Some suc (place_of ms key) i e in
          let c = option_map-Some (member other t) (cut_member ms key) ns m in
          subst (λ n. keys_of ns ≡ remove (other ∷ keys_of ms) n) o.2
          (ap keys_of (sym c.2) ∙ ap (λ ks. other ∷ ks) (keys-cut ms c.0 key o.0 o.1 c.1))
    ]) is made

-- only a key that is there is cut
pub cut-there : (ms ns : Members) (key : List ℕ) → cut_member ms key ≡ Some ns → (i : ℕ) × (place_of ms key ≡ Some i)
cut-there no_member ns key made = cc
cut-there (member other t ms) ns key made =
    let P : Bool → Type 0 = λ b. cond b (Some ms) (option_map (member other t) (cut_member ms key)) ≡ Some ns
    → (i : ℕ) × (cond b (Some 0) (option_map suc (place_of ms key)) ≡ Some i) in
    (elim (same_text key other) as P [
      | true ↦ λ _. (0, refl)
      | false ↦ λ m.
          let c = option_map-Some (member other t) (cut_member ms key) ns m in
          let h = cut-there ms c.0 key c.1 in (suc h.0, ap (option_map suc) h.1)
    ]) made

-- a place is that of a key
pub place-inside : (ms : Members) (key : List ℕ) (i : ℕ) → place_of ms key ≡ Some i → i < length (keys_of ms)
place-inside no_member key i is = cc
place-inside (member other t ms) key i is =
    let P : Bool → Type 0 = λ b. cond b (Some 0) (option_map suc (place_of ms key)) ≡ Some i → i < suc (length (keys_of ms)) in
    (elim (same_text key other) as P [
      | true ↦ λ e. let z : 0 ≡ i = cc in omega (arith, z)
      | false ↦ λ e.
          let o = option_map-Some suc (place_of ms key) i e in
          let h = place-inside ms key o.0 o.1 in
          let more = o.2 in omega (arith, h, more)
    ]) is

-- the keys of pairs
pub keys-long : (ps : List Pair) → length (keys_of (members_of ps)) ≡ length ps
keys-long [] = refl
keys-long (p ∷ ps) = ap suc (keys-long ps)

pub keys-place : (key : List ℕ) (ps : List Pair) (i : ℕ) → key_place key ps ≡ Some i
    → (i < length ps) × (get_or (keys_of (members_of ps)) i [] ≡ key)
keys-place key [] i is = cc
keys-place key (p ∷ ps) i is =
    let name = chars (text_bytes p.0) in
    let P : Bool → Type 0 = λ b. same_text key name ≡ b → cond b (Some 0) (option_map suc (key_place key ps)) ≡ Some i
    → (i < suc (length ps)) × (get_or (name ∷ keys_of (members_of ps)) i [] ≡ key) in
    (elim (same_text key name) as P [
      | true ↦ λ same e.
          let z : 0 ≡ i = cc in
          subst (λ n. (n < suc (length ps)) × (get_or (name ∷ keys_of (members_of ps)) n [] ≡ key)) z
          (omega arith, sym (same_key key name same))
      | false ↦ λ _ e.
          let o = option_map-Some suc (key_place key ps) i e in
          let h = keys-place key ps o.0 o.1 in
          let within = h.0 in
          subst (λ n. (n < suc (length ps)) × (get_or (name ∷ keys_of (members_of ps)) n [] ≡ key)) o.2 (omega (arith, within), h.1)
    ]) refl is

-- one pair more
pub keys-take : (ps : List Pair) (n : ℕ) (p : Pair) → n < length ps → p ≡ get_or ps n p
    → keys_of (members_of (take (n + 1) ps)) ≡ keys_of (members_of (take n ps)) ++ chars (text_bytes p.0) ∷ []
keys-take ps n p within is =
    ap (λ xs. keys_of (members_of xs)) (take_more ps n p within) ∙ keys-append (take n ps) (get_or ps n p)
    ∙ ap (λ q. keys_of (members_of (take n ps)) ++ chars (text_bytes q.0) ∷ []) (sym is)
  where
    keys-append : (xs : List Pair) (x : Pair) → keys_of (members_of (xs ++ x ∷ [])) ≡ keys_of (members_of xs) ++ chars (text_bytes x.0) ∷ []
    keys-append [] x = refl
    keys-append (y ∷ ys) x = ap (λ ks. chars (text_bytes y.0) ∷ ks) (keys-append ys x)

-- the number of a key that is there is on its chain
pub key-listed : (table : KeyTable) (ps : List Pair) (key : List ℕ) (i : ℕ) → Lists table (keys_of (members_of ps))
    → key_place key ps ≡ Some i
    → (n : ℕ) × (on_chain table.before.items (length table.before.items) (chain_of table.newest.items key) n ≡ true)
    × (place_at table.removed.items n ≡ i)
key-listed table ps key i lists is =
    let h = keys-place key ps i is in
    let within = h.0 in
    let old = lists.listed i (omega (arith, keys-long ps, within)) in (
      old.0,
      subst (λ k. on_chain table.before.items (length table.before.items) (chain_of table.newest.items k) old.0
          ≡ true) h.1 old.1,
      old.2,
    )

-- ---- another key

value-put-other : (ms : Members) (token step : List ℕ) (v : Tree) → same_text step token ≡ false
    → value_of (put_member ms token v) step ≡ value_of ms step
value-put-other no_member token step v other = ap (λ b. cond b (Some v) None) other
value-put-other (member k t ms) token step v other =
    let P : Bool → Type 0 = λ b. same_text token k ≡ b
    → value_of (cond b (member k v ms) (member k t (put_member ms token v))) step ≡ cond (same_text step k) (Some t) (value_of ms step) in
    (elim (same_text token k) as P [
      | true ↦ λ e.
          let apart : same_text step k ≡ false = subst (λ x. same_text step x ≡ false) (same_key token k e) other in
          ap (λ b. cond b (Some v) (value_of ms step)) apart ∙ sym (ap (λ b. cond b (Some t) (value_of ms step)) apart)
      | false ↦ λ _. ap (cond (same_text step k) (Some t)) (value-put-other ms token step v other)
    ]) refl

value-cut-other : (ms ns : Members) (token step : List ℕ) → same_text step token ≡ false
    → cut_member ms token ≡ Some ns → value_of ns step ≡ value_of ms step
value-cut-other no_member ns token step other made = cc
value-cut-other (member k t ms) ns token step other made =
    let P : Bool → Type 0 = λ b. same_text token k ≡ b → cond b (Some ms) (option_map (member k t) (cut_member ms token)) ≡ Some ns
    → value_of ns step ≡ cond (same_text step k) (Some t) (value_of ms step) in
    (elim (same_text token k) as P [
      | true ↦ λ e m.
          let same : ms ≡ ns = cc in
          let apart : same_text step k ≡ false = subst (λ x. same_text step x ≡ false) (same_key token k e) other in
          ap (λ x. value_of x step) (sym same) ∙ sym (ap (λ b. cond b (Some t) (value_of ms step)) apart)
      | false ↦ λ _ m.
          let c = option_map-Some (member k t) (cut_member ms token) ns m in
          ap (λ x. value_of x step) (sym c.2) ∙ ap (cond (same_text step k) (Some t)) (value-cut-other ms c.0 token step other c.1)
    ]) refl made

-- an edit at one key of a mapping keeps the values of the others
abbrev KeepsOthers : (Tree → List ℕ → Result Tree Miss) → Type 0
KeepsOthers edit = (ms : Members) (u : Tree) (token step : List ℕ) → same_text step token ≡ false
    → edit (mapping ms) token ≡ Ok u → child u step ≡ child (mapping ms) step

put-others : (v : Tree) → KeepsOthers (λ u token. put u token v)
unfolding child put
put-others v ms u token step other made =
    let same : mapping (put_member ms token v) ≡ u = cc in
    subst (λ x. child x step ≡ present (value_of ms step)) same (ap present (value-put-other ms token step v other))

cut-others : KeepsOthers cut
unfolding child cut
cut-others ms u token step other made =
    let o = option_map-Some mapping (cut_member ms token) u (present-Ok _ u made) in
    subst (λ x. child x step ≡ present (value_of ms step)) o.2 (ap present (value-cut-other ms o.0 token step other o.1))

-- ---- along a path

edit_path-more : (edit : Tree → List ℕ → Result Tree Miss) (step : ℕ) (t : Tree) (token r : List ℕ) (tokens rs : List (List ℕ))
    → edit_path edit step t (token ∷ (tokens ++ r ∷ rs))
    ≡ at_step step (child t token) (λ u. and_then (edit_path edit (suc step) u (tokens ++ r ∷ rs)) (λ v. at_step step (put t token v) Ok))
edit_path-more edit step t token r [] rs = refl
edit_path-more edit step t token r (next ∷ tokens) rs = refl

-- an edit below some steps is one of the value to which they lead
pub edit-under : (edit : Tree → List ℕ → Result Tree Miss) (common : List (List ℕ)) (r : List ℕ) (rs : List (List ℕ))
    (step : ℕ) (t w u : Tree)
    → at_from step t common ≡ Ok w → edit_path edit step t (common ++ r ∷ rs) ≡ Ok u
    → (x : Tree) × (n : ℕ) × (at_from step u common ≡ Ok x) × (edit_path edit n w (r ∷ rs) ≡ Ok x)
edit-under edit [] r rs step t w u there is =
    let same : t ≡ w = cc in (u, step, refl, subst (λ x. edit_path edit step x (r ∷ rs) ≡ Ok u) same is)
edit-under edit (c ∷ cs) r rs step t w u there is =
    let a = at_step-Ok step (child t c) _ u (sym (edit_path-more edit step t c r cs rs) ∙ is) in
    let b = and_then-Ok (edit_path edit (suc step) a.0 (cs ++ r ∷ rs)) (λ v. at_step step (put t c v) Ok) u a.2 in
    let p = at_step-Ok step (put t c b.0) Ok u b.2 in
    let found = child-put t u c a.0 b.0 a.1 (same_Ok p.0 u (put t c b.0) p.1 p.2) in
    let h = edit-under edit cs r rs (suc step) a.0 w b.0 (ap (λ x. at_step step x (λ y. at_from (suc step) y cs)) (sym a.1) ∙ there) b.1 in
    (h.0, h.1, ap (λ x. at_step step x (λ y. at_from (suc step) y cs)) found ∙ h.2, h.3)

-- its last step
last-edit : (edit : Tree → List ℕ → Result Tree Miss) (n : ℕ) (t u : Tree) (token : List ℕ)
    → edit_path edit n t (token ∷ []) ≡ Ok u → edit t token ≡ Ok u
last-edit edit n t u token is = let a = at_step-Ok n (edit t token) Ok u is in same_Ok a.0 u (edit t token) a.1 a.2

-- or a step on the way
deeper-edit : (edit : Tree → List ℕ → Result Tree Miss) (n : ℕ) (t u : Tree) (token next : List ℕ) (rest : List (List ℕ))
    → edit_path edit n t (token ∷ next ∷ rest) ≡ Ok u → (c d : Tree) × (child t token ≡ Ok c) × (put t token d ≡ Ok u)
deeper-edit edit n t u token next rest is =
    let a = at_step-Ok n (child t token) _ u is in
    let b = and_then-Ok (edit_from edit (suc n) a.0 next rest) (λ v. at_step n (put t token v) Ok) u a.2 in
    let p = at_step-Ok n (put t token b.0) Ok u b.2 in
    (a.0, b.0, a.1, same_Ok p.0 u (put t token b.0) p.1 p.2)

beside : (edit : Tree → List ℕ → Result Tree Miss) → KeepsOthers edit
    → (n : ℕ) (ms : Members) (u : Tree) (token step : List ℕ) (rest : List (List ℕ))
    → same_text step token ≡ false → edit_path edit n (mapping ms) (token ∷ rest) ≡ Ok u → child u step ≡ child (mapping ms) step
beside edit keeps n ms u token step [] other is = keeps ms u token step other (last-edit edit n (mapping ms) u token is)
beside edit keeps n ms u token step (next ∷ rest) other is =
    let d = deeper-edit edit n (mapping ms) u token next rest is in put-others d.1 ms u token step other d.3

-- where a path leaves the steps, what they lead to stays
at-kept : (edit : Tree → List ℕ → Result Tree Miss) → KeepsOthers edit → (t u : Tree) (steps path : List (List ℕ)) → Leaves t steps path
    → edit_path edit 1 t path ≡ Ok u → at u steps ≡ at t steps
at-kept edit keeps t u steps path leaves is =
    let common = leaves.common in
    let after = leaves.step ∷ leaves.steps_after in
    let from : ℕ = 1 + length common in
    let h = edit-under edit common leaves.token leaves.tokens_after 1 t (mapping leaves.ms) u leaves.there
    (subst (λ p. edit_path edit 1 t p ≡ Ok u) leaves.path_is is) in
    let same = beside edit keeps h.1 leaves.ms h.0 leaves.token leaves.step leaves.tokens_after leaves.other h.3 in
    ap (at u) leaves.steps_are ∙ at_from-append common after 1 u ∙ ap (λ r. and_then r (λ w. at_from from w after)) h.2
    ∙ ap (λ r. at_step from r (λ w. at_from (suc from) w leaves.steps_after)) same
    ∙ sym (ap (at t) leaves.steps_are ∙ at_from-append common after 1 t ∙ ap (λ r. and_then r (λ w. at_from from w after)) leaves.there)

-- ---- an index after an edit

-- in t the steps lead to a mapping whose keys the table lists
abbrev IndexesBy : List (List ℕ) → Option KeyTable → Tree → Type 0
IndexesBy steps o t = IfSome o (λ table. (u : Tree) × (at t steps ≡ Ok u) × ListsIn table u)

set-path : (path : List (List ℕ)) (t v : Tree) → 0 < length path → set t path v ≡ edit_path (λ u token. put u token v) 1 t path
set-path [] t v some = absurd (omega (arith, some))
set-path (token ∷ tokens) t v some = refl

delete-path : (path : List (List ℕ)) (t : Tree) → 0 < length path → delete t path ≡ edit_path cut 1 t path
delete-path [] t some = absurd (omega (arith, some))
delete-path (token ∷ tokens) t some = refl

-- elsewhere
apart : (edit : Tree → List ℕ → Result Tree Miss) → KeepsOthers edit
    → (t u : Tree) (steps path : List (List ℕ)) (o : Option KeyTable) → Leaves t steps path
    → edit_path edit 1 t path ≡ Ok u → IndexesBy steps o t → IndexesBy steps o u
apart edit keeps t u steps path None leaves is known = tt
apart edit keeps t u steps path (Some table) leaves is known = (known.0, at-kept edit keeps t u steps path leaves is ∙ known.1, known.2)

pub set-apart : (index : KeyIndex) (t v u : Tree) (path : List (List ℕ)) → 0 < length path → Leaves t (steps_of index.steps.items) path
    → set t path v ≡ Ok u → Indexes index t → Indexes index u
set-apart index t v u path some leaves is known =
    apart (λ x token. put x token v) (put-others v) t u (steps_of index.steps.items) path index.table leaves
    (sym (set-path path t v some) ∙ is) known

pub delete-apart : (index : KeyIndex) (t u : Tree) (path : List (List ℕ)) → 0 < length path → Leaves t (steps_of index.steps.items) path
    → delete t path ≡ Ok u → Indexes index t → Indexes index u
delete-apart index t u path some leaves is known =
    apart cut cut-others t u (steps_of index.steps.items) path index.table leaves (sym (delete-path path t some) ∙ is) known

-- a value that is put keeps a mapping's keys, where its key was there
put-keys : (table : KeyTable) (w u v : Tree) (key : List ℕ) (i : ℕ) → ListsIn table w → key_in w key ≡ Some i
    → put w key v ≡ Ok u → ListsIn table u
unfolding put
put-keys table (text value) u v key i lists there is = absurd lists
put-keys table (sequence ts) u v key i lists there is = absurd lists
put-keys table (mapping ms) u v key i lists there is =
    let same : mapping (put_member ms key v) ≡ u = cc in
    subst (ListsIn table) same (subst (Lists table) (sym (keys-put-there ms key v i there)) lists)

child-key : (table : KeyTable) (w c : Tree) (key : List ℕ) → ListsIn table w → child w key ≡ Ok c → (i : ℕ) × (key_in w key ≡ Some i)
unfolding child
child-key table (text value) c key lists is = absurd lists
child-key table (sequence ts) c key lists is = absurd lists
child-key table (mapping ms) c key lists is = there ms (present-Ok (value_of ms key) c is)
  where
    there : (ms : Members) → value_of ms key ≡ Some c → (i : ℕ) × (place_of ms key ≡ Some i)
    there no_member found = cc
    there (member other t ms) found =
        let P : Bool → Type 0 = λ b. cond b (Some t) (value_of ms key) ≡ Some c
        → (i : ℕ) × (cond b (Some 0) (option_map suc (place_of ms key)) ≡ Some i) in
        (elim (same_text key other) as P [
          | true ↦ λ e. (0, refl)
          | false ↦ λ e. let p = there ms e in (suc p.0, ap (option_map suc) p.1)
        ]) found

-- below a key
under : (edit : Tree → List ℕ → Result Tree Miss) (t u : Tree) (steps path : List (List ℕ)) (key next : List ℕ)
    (rest : List (List ℕ)) (o : Option KeyTable)
    → path ≡ steps ++ key ∷ next ∷ rest → edit_path edit 1 t path ≡ Ok u → IndexesBy steps o t → IndexesBy steps o u
under edit t u steps path key next rest None split is known = tt
under edit t u steps path key next rest (Some table) split is known =
    let h = edit-under edit steps key (next ∷ rest) 1 t known.0 u known.1 (subst (λ p. edit_path edit 1 t p ≡ Ok u) split is) in
    let d = deeper-edit edit h.1 known.0 h.0 key next rest h.3 in
    let there = child-key table known.0 d.0 key known.2 d.2 in
    (h.0, h.2, put-keys table known.0 h.0 d.1 key there.0 known.2 there.1 d.3)

pub set-under : (index : KeyIndex) (t v u : Tree) (path : List (List ℕ)) (key next : List ℕ) (rest : List (List ℕ)) → 0 < length path
    → path ≡ steps_of index.steps.items ++ key ∷ next ∷ rest → set t path v ≡ Ok u → Indexes index t → Indexes index u
set-under index t v u path key next rest some split is known =
    under (λ x token. put x token v) t u (steps_of index.steps.items) path key next rest index.table split
    (sym (set-path path t v some) ∙ is) known

pub delete-under : (index : KeyIndex) (t u : Tree) (path : List (List ℕ)) (key next : List ℕ) (rest : List (List ℕ)) → 0 < length path
    → path ≡ steps_of index.steps.items ++ key ∷ next ∷ rest → delete t path ≡ Ok u → Indexes index t → Indexes index u
delete-under index t u path key next rest some split is known =
    under cut t u (steps_of index.steps.items) path key next rest index.table split (sym (delete-path path t some) ∙ is) known

-- at a key that is there
there-by : (t v u : Tree) (steps path : List (List ℕ)) (key : List ℕ) (i : ℕ) (o : Option KeyTable) → path ≡ steps ++ key ∷ []
    → edit_path (λ x token. put x token v) 1 t path ≡ Ok u → last_key t path ≡ Some i → IndexesBy steps o t → IndexesBy steps o u
there-by t v u steps path key i None split is found known = tt
there-by t v u steps path key i (Some table) split is found known =
    let edit : Tree → List ℕ → Result Tree Miss = λ x token. put x token v in
    let h = edit-under edit steps key [] 1 t known.0 u known.1 (subst (λ p. edit_path edit 1 t p ≡ Ok u) split is) in
    let made = last-edit edit h.1 known.0 h.0 key h.3 in
    let there = sym (ap (last_key t) split ∙ last_key-parent steps key 1 t known.0 known.1) ∙ found in
    (h.0, h.2, put-keys table known.0 h.0 v key i known.2 there made)

pub set-there : (index : KeyIndex) (t v u : Tree) (path : List (List ℕ)) (key : List ℕ) (i : ℕ) → 0 < length path
    → path ≡ steps_of index.steps.items ++ key ∷ [] → last_key t path ≡ Some i → set t path v ≡ Ok u → Indexes index t → Indexes index u
set-there index t v u path key i some split found is known =
    there-by t v u (steps_of index.steps.items) path key i index.table split (sym (set-path path t v some) ∙ is) found known

put-new : (old new : KeyTable) (w u v : Tree) (key : List ℕ) → ListsIn old w → key_in w key ≡ None → put w key v ≡ Ok u
    → ((keys : List (List ℕ)) → Lists old keys → Lists new (keys ++ key ∷ [])) → ListsIn new u
unfolding put
put-new old new (text value) u v key lists none is grown = absurd lists
put-new old new (sequence ts) u v key lists none is grown = absurd lists
put-new old new (mapping ms) u v key lists none is grown =
    let same : mapping (put_member ms key v) ≡ u = cc in
    subst (ListsIn new) same (subst (Lists new) (sym (keys-put-new ms key v none)) (grown (keys_of ms) lists))

cut-old : (old new : KeyTable) (w u : Tree) (key : List ℕ) (i : ℕ) → ListsIn old w → key_in w key ≡ Some i → cut w key ≡ Ok u
    → ((keys : List (List ℕ)) → Lists old keys → i < length keys → Lists new (remove keys i)) → ListsIn new u
unfolding cut
cut-old old new (text value) u key i lists there is less = absurd lists
cut-old old new (sequence ts) u key i lists there is less = absurd lists
cut-old old new (mapping ms) u key i lists there is less =
    let o = option_map-Some mapping (cut_member ms key) u (present-Ok _ u is) in
    subst (ListsIn new) o.2 (subst (Lists new) (sym (keys-cut ms o.0 key i there o.1))
    (less (keys_of ms) lists (place-inside ms key i there)))

-- at a new key
new-by : (t v u : Tree) (steps path : List (List ℕ)) (key : List ℕ) (old new : Option KeyTable) → path ≡ steps ++ key ∷ []
    → edit_path (λ x token. put x token v) 1 t path ≡ Ok u → last_key t path ≡ None → IndexesBy steps old t
    → IfSome new (λ table. (before : KeyTable) × (old ≡ Some before)
    × ((keys : List (List ℕ)) → Lists before keys → Lists table (keys ++ key ∷ [])))
    → IndexesBy steps new u
new-by t v u steps path key old None split is none known made = tt
new-by t v u steps path key old (Some table) split is none known made =
    let edit : Tree → List ℕ → Result Tree Miss = λ x token. put x token v in
    let had : IndexesBy steps (Some made.0) t = subst (λ o. IndexesBy steps o t) made.1 known in
    let h = edit-under edit steps key [] 1 t had.0 u had.1 (subst (λ p. edit_path edit 1 t p ≡ Ok u) split is) in
    let put_it = last-edit edit h.1 had.0 h.0 key h.3 in
    let missing = sym (ap (last_key t) split ∙ last_key-parent steps key 1 t had.0 had.1) ∙ none in
    (h.0, h.2, put-new made.0 table had.0 h.0 v key had.2 missing put_it made.2)

pub set-new : (old new : KeyIndex) (t v u : Tree) (path : List (List ℕ)) (key : List ℕ) → 0 < length path
    → path ≡ steps_of old.steps.items ++ key ∷ [] → last_key t path ≡ None → set t path v ≡ Ok u → Indexes old t → new.steps ≡ old.steps
    → IfSome new.table (λ table. (before : KeyTable) × (old.table ≡ Some before)
    × ((keys : List (List ℕ)) → Lists before keys → Lists table (keys ++ key ∷ [])))
    → Indexes new u
set-new old new t v u path key some split none is known steps made =
    subst (λ s. IndexesBy (steps_of s.items) new.table u) (sym steps)
    (new-by t v u (steps_of old.steps.items) path key old.table new.table split (sym (set-path path t v some) ∙ is) none known made)

-- at a key that is removed
cut-by : (t u : Tree) (steps path : List (List ℕ)) (key : List ℕ) (i : ℕ) (old new : Option KeyTable) → path ≡ steps ++ key ∷ []
    → edit_path cut 1 t path ≡ Ok u → last_key t path ≡ Some i → IndexesBy steps old t
    → IfSome new (λ table. (before : KeyTable) × (old ≡ Some before)
    × ((keys : List (List ℕ)) → Lists before keys → i < length keys → Lists table (remove keys i)))
    → IndexesBy steps new u
cut-by t u steps path key i old None split is found known made = tt
cut-by t u steps path key i old (Some table) split is found known made =
    let had : IndexesBy steps (Some made.0) t = subst (λ o. IndexesBy steps o t) made.1 known in
    let h = edit-under cut steps key [] 1 t had.0 u had.1 (subst (λ p. edit_path cut 1 t p ≡ Ok u) split is) in
    let cut_it = last-edit cut h.1 had.0 h.0 key h.3 in
    let there = sym (ap (last_key t) split ∙ last_key-parent steps key 1 t had.0 had.1) ∙ found in
    (h.0, h.2, cut-old made.0 table had.0 h.0 key i had.2 there cut_it made.2)

pub delete-there : (old new : KeyIndex) (t u : Tree) (path : List (List ℕ)) (key : List ℕ) (i : ℕ) → 0 < length path
    → path ≡ steps_of old.steps.items ++ key ∷ [] → last_key t path ≡ Some i → delete t path ≡ Ok u → Indexes old t → new.steps ≡ old.steps
    → IfSome new.table (λ table. (before : KeyTable) × (old.table ≡ Some before)
    × ((keys : List (List ℕ)) → Lists before keys → i < length keys → Lists table (remove keys i)))
    → Indexes new u
delete-there old new t u path key i some split found is known steps made =
    subst (λ s. IndexesBy (steps_of s.items) new.table u) (sym steps)
    (cut-by t u (steps_of old.steps.items) path key i old.table new.table split (sym (delete-path path t some) ∙ is) found known made)

-- a delete of a key that is missing fails
cut-none : (table : KeyTable) (w x : Tree) (key : List ℕ) → ListsIn table w → key_in w key ≡ None → cut w key ≡ Ok x → ⊥
unfolding cut
cut-none table (text value) x key lists none is = lists
cut-none table (sequence ts) x key lists none is = lists
cut-none table (mapping ms) x key lists none is =
    let o = option_map-Some mapping (cut_member ms key) x (present-Ok _ x is) in
    let there = cut-there ms o.0 key o.1 in
    let same : None ≡ Some there.0 = sym none ∙ there.1 in cc

missing-by : (t u : Tree) (steps path : List (List ℕ)) (key : List ℕ) (o : Option KeyTable) → path ≡ steps ++ key ∷ []
    → edit_path cut 1 t path ≡ Ok u → last_key t path ≡ None → IndexesBy steps o t → IndexesBy steps o u
missing-by t u steps path key None split is none known = tt
missing-by t u steps path key (Some table) split is none known =
    let h = edit-under cut steps key [] 1 t known.0 u known.1 (subst (λ p. edit_path cut 1 t p ≡ Ok u) split is) in
    let cut_it = last-edit cut h.1 known.0 h.0 key h.3 in
    let missing = sym (ap (last_key t) split ∙ last_key-parent steps key 1 t known.0 known.1) ∙ none in
    absurd (cut-none table known.0 h.0 key known.2 missing cut_it)

pub delete-missing : (index : KeyIndex) (t u : Tree) (path : List (List ℕ)) (key : List ℕ) → 0 < length path
    → path ≡ steps_of index.steps.items ++ key ∷ [] → last_key t path ≡ None → delete t path ≡ Ok u → Indexes index t → Indexes index u
delete-missing index t u path key some split none is known =
    missing-by t u (steps_of index.steps.items) path key index.table split (sym (delete-path path t some) ∙ is) none known

-- ---- the steps of an index

pub steps-append : (xs : List Text) (x : Text) → steps_of (xs ++ x ∷ []) ≡ steps_of xs ++ chars (text_bytes x) ∷ []
steps-append [] x = refl
steps-append (y ∷ ys) x = ap (λ ks. chars (text_bytes y) ∷ ks) (steps-append ys x)

pub steps-take : (steps : List Text) (n : ℕ) (step : Text) → n < length steps → step ≡ get_or steps n step
    → steps_of (take (n + 1) steps) ≡ steps_of (take n steps) ++ chars (text_bytes step) ∷ []
steps-take steps n step within is =
    ap steps_of (take_more steps n step within) ∙ steps-append (take n steps) (get_or steps n step)
    ∙ ap (λ s. steps_of (take n steps) ++ chars (text_bytes s) ∷ []) (sym is)

-- ---- what an index says of the value to which tokens lead

pub table-known : (o : Option (Bor KeyTable)) (index : Option (Bor KeyIndex)) (t u : Tree) (tokens : List (List ℕ))
    → IfSome o (λ table. (x y : Tree) → IfSome index (λ i. Indexes i.now x) → at x tokens ≡ Ok y → ListsIn table.now y)
    → IfSome index (λ i. Indexes i.now t) → at t tokens ≡ Ok u → IfSome o (λ table. ListsIn table.now u)
table-known None index t u tokens says known is = tt
table-known (Some table) index t u tokens says known is = says t u known is

pub table-told : (o : Option (Bor KeyTable)) (index : Option (Bor KeyIndex)) (i : Bor KeyIndex) (tokens : List (List ℕ)) → index ≡ Some i
    → IfSome o (λ table. (x y : Tree) → Indexes i.now x → at x tokens ≡ Ok y → ListsIn table.now y)
    → IfSome o (λ table. (x y : Tree) → IfSome index (λ j. Indexes j.now x) → at x tokens ≡ Ok y → ListsIn table.now y)
table-told None index i tokens is says = tt
table-told (Some table) index i tokens is says = λ x y known there. says x y (subst (λ o. IfSome o (λ j. Indexes j.now x)) is known) there

pub table-copied : (o : Option (Bor KeyTable)) (index : KeyIndex) (tokens : List (List ℕ))
    → option_copied o ≡ index.table → steps_of index.steps.items ≡ tokens
    → IfSome o (λ table. (x y : Tree) → Indexes index x → at x tokens ≡ Ok y → ListsIn table.now y)
table-copied None index tokens is steps = tt
table-copied (Some table) index tokens is steps = λ x y known there. says index.table is x y known there
  where
    says : (o : Option KeyTable) → Some table.now ≡ o → (x y : Tree) → IndexesBy (steps_of index.steps.items) o x
        → at x tokens ≡ Ok y → ListsIn table.now y
    says None is x y known there = cc
    says (Some other) is x y known there =
        let same : other ≡ table.now = cc in
        let one = Ok-same (at x tokens) known.0 y (sym (ap (at x) steps) ∙ known.1) there in
        subst (λ k. ListsIn k y) same (subst (ListsIn other) one known.2)

-- ---- how steps and a path part

pub steps-split : (steps : List Text) (n : ℕ) (step : Text) → n < length steps → step ≡ get_or steps n step
    → steps_of steps ≡ steps_of (take n steps) ++ chars (text_bytes step) ∷ steps_of (drop (n + 1) steps)
steps-split steps n step within is =
    ap steps_of (sym (take-append-drop n steps)) ∙ steps-both (take n steps) (drop n steps)
    ∙ ap (λ ts. steps_of (take n steps) ++ ts) (at_drop_more steps_of steps n step within)
    ∙ ap (λ x. steps_of (take n steps) ++ chars (text_bytes x) ∷ steps_of (drop (n + 1) steps)) (sym is)
  where
    steps-both : (xs ys : List Text) → steps_of (xs ++ ys) ≡ steps_of xs ++ steps_of ys
    steps-both [] ys = refl
    steps-both (x ∷ xs) ys = ap (λ ts. chars (text_bytes x) ∷ ts) (steps-both xs ys)

-- the tokens from one on
pub tokens-from : (tokens : List (CowStr Global)) (n : ℕ) → n < length tokens
    → (key : List ℕ) × (rest : List (List ℕ)) × (texts tokens ≡ texts (take n tokens) ++ key ∷ rest) × (length rest + n + 1 ≡ length tokens)
tokens-from [] n within = absurd (omega (arith, within))
tokens-from (t ∷ tokens) zero within =
    (chars (cow_str_bytes t), texts tokens, refl, more (length-map tokens (λ (x : CowStr Global). chars (cow_str_bytes x))))
  where
    more : length (texts tokens) ≡ length tokens → length (texts tokens) + 0 + 1 ≡ suc (length tokens)
    more is = omega (arith, is)
tokens-from (t ∷ tokens) (suc n) within =
    let h = tokens-from tokens n (omega (arith, within)) in
    let count = h.3 in
    (h.0, h.1, ap (λ ks. chars (cow_str_bytes t) ∷ ks) h.2, omega (arith, count))

pub key-only : (tokens : List (CowStr Global)) (steps : List (List ℕ)) (n : ℕ) → n < length tokens
    → steps ≡ texts (take n tokens) → length tokens - 1 ≡ n
    → (key : List ℕ) × (texts tokens ≡ steps ++ key ∷ [])
key-only tokens steps n within is last =
    let h = tokens-from tokens n within in
    (h.0, h.2 ∙ ap (λ ks. ks ++ h.0 ∷ h.1) (sym is) ∙ ap (λ rest. steps ++ h.0 ∷ rest) (none h.1 h.3))
  where
    none : (rest : List (List ℕ)) → length rest + n + 1 ≡ length tokens → rest ≡ []
    none [] count = refl
    none (r ∷ rest) count = absurd (omega (arith, count, last))

pub key-deeper : (tokens : List (CowStr Global)) (steps : List (List ℕ)) (n : ℕ) → n < length tokens
    → steps ≡ texts (take n tokens) → (length tokens - 1 ≡ n → ⊥)
    → (key next : List ℕ) × (rest : List (List ℕ)) × (texts tokens ≡ steps ++ key ∷ next ∷ rest)
key-deeper tokens steps n within is more =
    let h = tokens-from tokens n within in
    let s = some h.1 h.3 in
    (h.0, s.0, s.1, h.2 ∙ ap (λ ks. ks ++ h.0 ∷ h.1) (sym is) ∙ ap (λ rest. steps ++ h.0 ∷ rest) s.2)
  where
    some : (rest : List (List ℕ)) → length rest + n + 1 ≡ length tokens → (next : List ℕ) × (more : List (List ℕ)) × (rest ≡ next ∷ more)
    some [] count = absurd (more (omega (arith, count)))
    some (r ∷ rest) count = (r, rest, refl)

parents-deep : (xs : List (List ℕ)) (y z : List ℕ) (zs : List (List ℕ)) → parents_of (xs ++ y ∷ z ∷ zs) ≡ xs ++ y ∷ parents_of (z ∷ zs)
parents-deep [] y z zs = parents-more y z zs
parents-deep (x ∷ []) y z zs = parents-more x y (z ∷ zs) ∙ ap (λ ks. x ∷ ks) (parents-more y z zs)
parents-deep (x ∷ w ∷ ws) y z zs = parents-more x w (ws ++ y ∷ z ∷ zs) ∙ ap (λ ks. x ∷ ks) (parents-deep (w ∷ ws) y z zs)

-- the place of a step before the last
pub step-placed : (places : StepPlaces) (tokens : List (CowStr Global)) (n : ℕ) (token : CowStr Global) (t cur : Tree)
    → n + 1 < length tokens → token ≡ get_or tokens n token
    → ArePlaces places t (texts tokens) → at t (texts (take n tokens)) ≡ Ok cur
    → (n < length places.parents.items) × (step_place cur (chars (cow_str_bytes token)) ≡ Ok (get_or places.parents.items n 0))
step-placed places tokens n token t cur more is are there =
    let ps = places.parents.items in
    let text = chars (cow_str_bytes token) in
    let before = texts (take n tokens) in
    let after = texts (drop (n + 1) tokens) in
    let whole = texts-split tokens n token (omega (arith, more)) is in
    let rest = first after (omega (
      arith,
      more,
      length-map (drop (n + 1) tokens) (λ (x : CowStr Global). chars (cow_str_bytes x)),
      length-drop (n + 1) tokens,
    )) in
    let parents : parents_of (texts tokens) ≡ before ++ text ∷ parents_of (rest.0 ∷ rest.1) =
    ap parents_of (whole ∙ ap (λ ks. before ++ text ∷ ks) rest.2) ∙ parents-deep before text rest.0 rest.1 in
    let long : length before ≡ n = length-map (take n tokens) (λ (x : CowStr Global). chars (cow_str_bytes x))
    ∙ length-take-le n tokens (omega (arith, more)) in
    subst (λ k. (k < length ps) × (step_place cur text ≡ Ok (get_or ps k 0))) long
    (Leads-step before text (parents_of (rest.0 ∷ rest.1)) 1 t cur ps (subst (λ xs. Leads xs t ps) parents are.parents) there)
  where
    first : (xs : List (List ℕ)) → 0 < length xs → (x : List ℕ) × (rest : List (List ℕ)) × (xs ≡ x ∷ rest)
    first [] some = absurd (omega (arith, some))
    first (x ∷ xs) some = (x, xs, refl)

-- the last token
pub last-same : (xs ys : List (List ℕ)) (x y : List ℕ) → xs ++ x ∷ [] ≡ ys ++ y ∷ [] → x ≡ y
last-same [] [] x y is = cc
last-same [] (b ∷ []) x y is = cc
last-same [] (b ∷ c ∷ ys) x y is = cc
last-same (a ∷ []) [] x y is = cc
last-same (a ∷ c ∷ xs) [] x y is = cc
last-same (a ∷ xs) (b ∷ ys) x y is = let rest : xs ++ x ∷ [] ≡ ys ++ y ∷ [] = cc in last-same xs ys x y rest

-- a table that is known has buckets
pub has-buckets : (index : KeyIndex) (t : Tree) → Indexes index t → IfSome index.table (λ table. 0 < length table.newest.items)
has-buckets index t known = of index.table known
  where
    filled : (table : KeyTable) (w : Tree) → ListsIn table w → 0 < length table.newest.items
    filled table (text value) lists = absurd lists
    filled table (sequence ts) lists = absurd lists
    filled table (mapping ms) lists = lists.some

    of : (o : Option KeyTable) → IndexesBy (steps_of index.steps.items) o t → IfSome o (λ table. 0 < length table.newest.items)
    of None by = tt
    of (Some table) by = filled table by.0 by.2

-- an option that is some has a value
pub some-there : {A : Type 0} (o : Option A) → is_some o ≡ true → (a : A) × (o ≡ Some a)
some-there None is = cc
some-there (Some a) is = (a, refl)

-- one that isn't has none
pub is-none : {A : Type 0} (o : Option A) → is_some o ≡ false → o ≡ None
is-none None is = refl
is-none (Some a) is = cc
