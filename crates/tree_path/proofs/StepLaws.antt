-- Laws of one step: what `child` finds in the tree that `put` gives, and where `put` changes nothing.
use Rattle.std.proofs.Common.{◌≡◌, ℕ, zero, suc, Bool, true, false, cond, ◌&&◌, List, [], ◌∷◌, Option, Some, None, option_map, Result, Ok}
use Rattle.std.proofs.Common.{Err, refl, sym, ap, ap₂, subst, eq-eqb}
use Rattle.tree_path.proofs.Prelude.{same_text, Tree, text, sequence, mapping, Elements, no_element, element, Members, no_member, member}
use Rattle.tree_path.specs.{declared.place.Miss.{Miss, TheVariants.Absent}, Paths.{Index, number, after_last, no_index, index_of, at_index}}
use Rattle.tree_path.specs.Paths.{present, element_at, put_element, push_element, value_of, put_member, child, put}

-- ---- options and texts

-- a mapped value comes from one
pub option_map-Some : {A B : Type 0} (f : A → B) (o : Option A) (b : B) → option_map f o ≡ Some b → (a : A) × (o ≡ Some a) × (f a ≡ b)
option_map-Some f None b is = cc
option_map-Some f (Some a) b is = (a, refl, cc)

-- no mapped value comes from none
pub option_map-None : {A B : Type 0} (f : A → B) (o : Option A) → option_map f o ≡ None → o ≡ None
option_map-None f None is = refl
option_map-None f (Some a) is = cc

-- what is no Some is None
pub none-other : {A : Type 0} (o : Option A) → ((a : A) → o ≡ Some a → ⊥) → o ≡ None
none-other None other = refl
none-other (Some a) other = absurd (other a refl)

-- a value that is present is there
pub present-Ok : {A : Type 0} (o : Option A) (x : A) → present o ≡ Ok x → o ≡ Some x
present-Ok None x is = cc
present-Ok (Some y) x is = cc

-- a text equals itself
pub same_text-same : (cs : List ℕ) → same_text cs cs ≡ true
same_text-same [] = refl
same_text-same (c ∷ cs) = ap₂ ◌&&◌ (eq-eqb c c refl) (same_text-same cs)

-- ---- members

-- a member that was put is found
pub value_of-put_member : (ms : Members) (key : List ℕ) (v : Tree) → value_of (put_member ms key v) key ≡ Some v
value_of-put_member no_member key v = rw (same_text-same key)
value_of-put_member (member other t ms) key v =
    let P : Bool → Type 0 = λ b. same_text key other ≡ b
    → value_of (cond b (member other v ms) (member other t (put_member ms key v))) key ≡ Some v in
    (elim (same_text key other) as P [ true ↦ λ e. rw e | false ↦ λ e. rw e (value_of-put_member ms key v) ]) refl

-- the second put wins
pub put_member-put_member : (ms : Members) (key : List ℕ) (b v : Tree) → put_member (put_member ms key b) key v ≡ put_member ms key v
put_member-put_member no_member key b v = rw (same_text-same key)
put_member-put_member (member other t ms) key b v =
    let P : Bool → Type 0 = λ x. same_text key other ≡ x
    → put_member (cond x (member other b ms) (member other t (put_member ms key b))) key v
    ≡ cond x (member other v ms) (member other t (put_member ms key v)) in
    (elim (same_text key other) as P [ true ↦ λ e. rw e | false ↦ λ e. rw e (ap (member other t) (put_member-put_member ms key b v)) ]) refl

-- to put what is there changes nothing
pub put_member-value_of : (ms : Members) (key : List ℕ) (c : Tree) → value_of ms key ≡ Some c → put_member ms key c ≡ ms
put_member-value_of no_member key c is = cc
put_member-value_of (member other t ms) key c is =
    let P : Bool → Type 0 = λ x. cond x (Some t) (value_of ms key) ≡ Some c
    → cond x (member other c ms) (member other t (put_member ms key c)) ≡ member other t ms in
    (elim (same_text key other) as P [ true ↦ λ e. cc | false ↦ λ e. ap (member other t) (put_member-value_of ms key c e) ]) is

-- ---- elements

-- an element that was put is found
pub element_at-put_element : (ts us : Elements) (n : ℕ) (v : Tree) → put_element ts n v ≡ Some us → element_at us n ≡ Some v
element_at-put_element no_element us n v is = cc
element_at-put_element (element t ts) us zero v is = let e : us ≡ element v ts = cc in rw e
element_at-put_element (element t ts) us (suc n) v is =
    let o = option_map-Some (element t) (put_element ts n v) us is in
    let e : us ≡ element t o.0 = sym o.2 in
    rw e (element_at-put_element ts o.0 n v o.1)

-- the second put wins
pub put_element-put_element : (ts us : Elements) (n : ℕ) (b v : Tree) → put_element ts n b ≡ Some us
    → put_element us n v ≡ put_element ts n v
put_element-put_element no_element us n b v is = cc
put_element-put_element (element t ts) us zero b v is = let e : us ≡ element b ts = cc in rw e
put_element-put_element (element t ts) us (suc n) b v is =
    let o = option_map-Some (element t) (put_element ts n b) us is in
    let e : us ≡ element t o.0 = sym o.2 in
    rw e (ap (option_map (element t)) (put_element-put_element ts o.0 n b v o.1))

-- to put what is there changes nothing
pub put_element-element_at : (ts : Elements) (n : ℕ) (c : Tree) → element_at ts n ≡ Some c → put_element ts n c ≡ Some ts
put_element-element_at no_element n c is = cc
put_element-element_at (element t ts) zero c is = let e : t ≡ c = cc in rw e
put_element-element_at (element t ts) (suc n) c is = rw (put_element-element_at ts n c is)

-- an element that is there can be replaced
pub put_element-there : (ts : Elements) (n : ℕ) (c v : Tree) → element_at ts n ≡ Some c → (us : Elements) × (put_element ts n v ≡ Some us)
put_element-there no_element n c v is = cc
put_element-there (element t ts) zero c v is = (element v ts, refl)
put_element-there (element t ts) (suc n) c v is =
    let p = put_element-there ts n c v is in (element t p.0, rw p.1)

-- ---- sequences, at what a token means

abbrev child_at : Index → Elements → Result Tree Miss
child_at index ts = at_index index (element_at ts) (Err Absent)

abbrev put_at : Index → Elements → Tree → Result Tree Miss
put_at index ts v = at_index index (λ n. option_map sequence (put_element ts n v)) (Ok (sequence (push_element ts v)))

put_at-again : (index : Index) (ts : Elements) (c b t : Tree) → child_at index ts ≡ Ok c → put_at index ts b ≡ Ok t
    → (us : Elements) × (sequence us ≡ t) × (child_at index us ≡ Ok b) × ((v : Tree) → put_at index us v ≡ put_at index ts v)
put_at-again (number n) ts c b t found is =
    let o = option_map-Some sequence (put_element ts n b) t (present-Ok _ t is) in (
      o.0,
      o.2,
      ap present (element_at-put_element ts o.0 n b o.1),
      λ v. ap (λ p. present (option_map sequence p)) (put_element-put_element ts o.0 n b v o.1),
    )
put_at-again after_last ts c b t found is = cc
put_at-again no_index ts c b t found is = cc

put_at-same : (index : Index) (ts : Elements) (c : Tree) → child_at index ts ≡ Ok c → put_at index ts c ≡ Ok (sequence ts)
put_at-same (number n) ts c found =
    ap (λ p. present (option_map sequence p)) (put_element-element_at ts n c (present-Ok _ c found))
put_at-same after_last ts c found = cc
put_at-same no_index ts c found = cc

put_at-there : (index : Index) (ts : Elements) (c v : Tree) → child_at index ts ≡ Ok c → (t : Tree) × (put_at index ts v ≡ Ok t)
put_at-there (number n) ts c v found =
    let p = put_element-there ts n c v (present-Ok _ c found) in
    (sequence p.0, ap (λ q. present (option_map sequence q)) p.1)
put_at-there after_last ts c v found = cc
put_at-there no_index ts c v found = cc

-- ---- trees: where a child is there, another one can be put, is then found, and gives way to a third

-- a step finds what was put
pub child-put : (t u : Tree) (token : List ℕ) (c b : Tree) → child t token ≡ Ok c → put t token b ≡ Ok u → child u token ≡ Ok b
unfolding child put
child-put (text value) u token c b found is = cc
child-put (sequence ts) u token c b found is =
    let p = put_at-again (index_of token) ts c b u found is in
    subst (λ x. child x token ≡ Ok b) p.1 p.2
child-put (mapping ms) u token c b found is =
    let e : mapping (put_member ms token b) ≡ u = cc in
    subst (λ x. child x token ≡ Ok b) e (ap present (value_of-put_member ms token b))

-- the second put wins
pub put-put : (t u : Tree) (token : List ℕ) (c b v : Tree) → child t token ≡ Ok c → put t token b ≡ Ok u → put u token v ≡ put t token v
unfolding child put
put-put (text value) u token c b v found is = cc
put-put (sequence ts) u token c b v found is =
    let p = put_at-again (index_of token) ts c b u found is in
    subst (λ x. put x token v ≡ put (sequence ts) token v) p.1 (p.3 v)
put-put (mapping ms) u token c b v found is =
    let e : mapping (put_member ms token b) ≡ u = cc in
    subst (λ x. put x token v ≡ put (mapping ms) token v) e (ap (λ ns. Ok (mapping ns)) (put_member-put_member ms token b v))

-- to put what is there changes nothing
pub put-child : (t : Tree) (token : List ℕ) (c : Tree) → child t token ≡ Ok c → put t token c ≡ Ok t
unfolding child put
put-child (text value) token c found = cc
put-child (sequence ts) token c found = put_at-same (index_of token) ts c found
put-child (mapping ms) token c found = ap (λ ns. Ok (mapping ns)) (put_member-value_of ms token c (present-Ok _ c found))

-- where a step leads something can be put
pub put-there : (t : Tree) (token : List ℕ) (c v : Tree) → child t token ≡ Ok c → (u : Tree) × (put t token v ≡ Ok u)
unfolding child put
put-there (text value) token c v found = cc
put-there (sequence ts) token c v found = put_at-there (index_of token) ts c v found
put-there (mapping ms) token c v found = (mapping (put_member ms token v), refl)
