-- The depth of a tree after an edit: a value that is set is one level deeper than its path has steps.
use Rattle.std.proofs.Common.{◌≡◌, ℕ, zero, suc, ◌+◌, ◌<◌, ◌≤◌, max, min, nat_le, Bool, true, false, if◌then◌else◌, List, [], ◌∷◌, length}
use Rattle.std.proofs.Common.{Some, option_map, Ok, Err, ap, arith}
use Rattle.yaml_config.proofs.Prelude.{nat_tests, same_text, Tree, text, sequence, mapping, Elements, no_element, element, Members}
use Rattle.yaml_config.proofs.Prelude.{no_member, member, depth, elements_depth, members_depth, Index, number, after_last, no_index}
use Rattle.yaml_config.proofs.Prelude.{index_of, at_index, put_element, cut_element, push_element, value_of, put_member, cut_member, child}
use Rattle.yaml_config.proofs.Prelude.{put, cut, at_step, edit_from, set, delete, Absent, option_map-Some, present-Ok, at_step-Ok}
use Rattle.{yaml_config.{proofs.Prelude.{and_then-Ok, same_Ok}, specs.Limits.config_limits}, tree_path.specs.Paths.element_at as child_at}

-- a collection with a value of the depth v in it is this deep, where it was so deep before
pub record Deepens (old v new : ℕ) : Type 0 where
  pub most : new ≤ max old v
  pub least : v ≤ new

element_deep : (ts : Elements) (i : ℕ) (u : Tree) → child_at ts i ≡ Some u → depth u ≤ elements_depth ts
element_deep no_element i u is = cc
element_deep (element t ts) zero u is = let same : t ≡ u = cc in let deep = ap depth same in omega arith
element_deep (element t ts) (suc i) u is = let rest = element_deep ts i u is in omega arith

member_deep : (ms : Members) (key : List ℕ) (u : Tree) → value_of ms key ≡ Some u → depth u ≤ members_depth ms
member_deep no_member key u is = cc
member_deep (member other t ms) key u is = by (same_text key other) is (member_deep ms key u)
  where
    by : (b : Bool) → (if b then Some t else value_of ms key) ≡ Some u → (value_of ms key ≡ Some u → depth u ≤ members_depth ms)
        → depth u ≤ members_depth (member other t ms)
    by true e rest = let same : t ≡ u = cc in let deep = ap depth same in omega arith
    by false e rest = let after = rest e in omega arith

put_element-deepens : (ts us : Elements) (i : ℕ) (v : Tree) → put_element ts i v ≡ Some us
    → Deepens (elements_depth ts) (depth v) (elements_depth us)
put_element-deepens no_element us i v is = cc
put_element-deepens (element t ts) us zero v is =
    let same : element v ts ≡ us = cc in
    let deep = ap elements_depth same in
    record { most = omega arith; least = omega arith }
put_element-deepens (element t ts) us (suc i) v is =
    let o = option_map-Some (element t) (put_element ts i v) us is in
    let deep = ap elements_depth o.2 in
    let rest = put_element-deepens ts o.0 i v o.1 in
    let most = rest.most in
    let least = rest.least in
    record { most = omega arith; least = omega arith }

push_element-deepens : (ts : Elements) (v : Tree) → Deepens (elements_depth ts) (depth v) (elements_depth (push_element ts v))
push_element-deepens no_element v = record { most = omega arith; least = omega arith }
push_element-deepens (element t ts) v =
    let rest = push_element-deepens ts v in
    let most = rest.most in
    let least = rest.least in
    record { most = omega arith; least = omega arith }

put_member-deepens : (ms : Members) (key : List ℕ) (v : Tree) → Deepens (members_depth ms) (depth v) (members_depth (put_member ms key v))
put_member-deepens no_member key v = record { most = omega arith; least = omega arith }
put_member-deepens (member other t ms) key v = by (same_text key other) (put_member-deepens ms key v)
  where
    by : (b : Bool) → Deepens (members_depth ms) (depth v) (members_depth (put_member ms key v))
        → Deepens (members_depth (member other t ms)) (depth v)
        (members_depth (if b then member other v ms else member other t (put_member ms key v)))
    by true rest = record { most = omega arith; least = omega arith }
    by false rest =
        let most = rest.most in
        let least = rest.least in
        record { most = omega arith; least = omega arith }

cut_element-shallow : (ts us : Elements) (i : ℕ) → cut_element ts i ≡ Some us → elements_depth us ≤ elements_depth ts
cut_element-shallow no_element us i is = cc
cut_element-shallow (element t ts) us zero is = let same : ts ≡ us = cc in let deep = ap elements_depth same in omega arith
cut_element-shallow (element t ts) us (suc i) is =
    let o = option_map-Some (element t) (cut_element ts i) us is in
    let deep = ap elements_depth o.2 in
    let rest = cut_element-shallow ts o.0 i o.1 in
    omega arith

cut_member-shallow : (ms ns : Members) (key : List ℕ) → cut_member ms key ≡ Some ns → members_depth ns ≤ members_depth ms
cut_member-shallow no_member ns key is = cc
cut_member-shallow (member other t ms) ns key is = by (same_text key other) is (cut_member-shallow ms)
  where
    by : (b : Bool) → (if b then Some ms else option_map (member other t) (cut_member ms key)) ≡ Some ns
        → ((ns : Members) (key : List ℕ) → cut_member ms key ≡ Some ns → members_depth ns ≤ members_depth ms)
        → members_depth ns ≤ members_depth (member other t ms)
    by true e rest = let same : ms ≡ ns = cc in let deep = ap members_depth same in omega arith
    by false e rest =
        let o = option_map-Some (member other t) (cut_member ms key) ns e in
        let deep = ap members_depth o.2 in
        let after = rest o.0 key o.1 in
        omega arith

-- ---- one step

child_index-deep : (index : Index) (ts : Elements) (u : Tree) → at_index index (child_at ts) (Err Absent) ≡ Ok u
    → depth u ≤ elements_depth ts
child_index-deep (number i) ts u is = element_deep ts i u (present-Ok _ u is)
child_index-deep after_last ts u is = cc
child_index-deep no_index ts u is = cc

child-deep : (t u : Tree) (token : List ℕ) → child t token ≡ Ok u → depth u < depth t
unfolding child
child-deep (text value) u token is = cc
child-deep (sequence ts) u token is = omega (arith, child_index-deep (index_of token) ts u is)
child-deep (mapping ms) u token is = omega (arith, member_deep ms token u (present-Ok _ u is))

put_index-deepens : (index : Index) (ts : Elements) (v w : Tree)
    → at_index index (λ i. option_map sequence (put_element ts i v)) (Ok (sequence (push_element ts v))) ≡ Ok w
    → Deepens (suc (elements_depth ts)) (suc (depth v)) (depth w)
put_index-deepens (number i) ts v w is =
    let o = option_map-Some sequence (put_element ts i v) w (present-Ok _ w is) in
    let deep = ap depth o.2 in
    let rest = put_element-deepens ts o.0 i v o.1 in
    let most = rest.most in
    let least = rest.least in
    record { most = omega arith; least = omega arith }
put_index-deepens after_last ts v w is =
    let same : sequence (push_element ts v) ≡ w = cc in
    let deep = ap depth same in
    let rest = push_element-deepens ts v in
    let most = rest.most in
    let least = rest.least in
    record { most = omega arith; least = omega arith }
put_index-deepens no_index ts v w is = cc

put-deepens : (t v w : Tree) (token : List ℕ) → put t token v ≡ Ok w → Deepens (depth t) (suc (depth v)) (depth w)
unfolding put
put-deepens (text value) v w token is = cc
put-deepens (sequence ts) v w token is = put_index-deepens (index_of token) ts v w is
put-deepens (mapping ms) v w token is =
    let same : mapping (put_member ms token v) ≡ w = cc in
    let deep = ap depth same in
    let rest = put_member-deepens ms token v in
    let most = rest.most in
    let least = rest.least in
    record { most = omega arith; least = omega arith }

cut_index-shallow : (index : Index) (ts : Elements) (w : Tree)
    → at_index index (λ i. option_map sequence (cut_element ts i)) (Err Absent) ≡ Ok w
    → depth w ≤ suc (elements_depth ts)
cut_index-shallow (number i) ts w is =
    let o = option_map-Some sequence (cut_element ts i) w (present-Ok _ w is) in
    let deep = ap depth o.2 in
    let rest = cut_element-shallow ts o.0 i o.1 in
    omega arith
cut_index-shallow after_last ts w is = cc
cut_index-shallow no_index ts w is = cc

cut-shallow : (t w : Tree) (token : List ℕ) → cut t token ≡ Ok w → depth w ≤ depth t
unfolding cut
cut-shallow (text value) w token is = cc
cut-shallow (sequence ts) w token is = omega (arith, cut_index-shallow (index_of token) ts w is)
cut-shallow (mapping ms) w token is =
    let o = option_map-Some mapping (cut_member ms token) w (present-Ok _ w is) in
    let deep = ap depth o.2 in
    let rest = cut_member-shallow ms o.0 token o.1 in
    omega arith

-- ---- along a path

set_from-deepens : (v : Tree) (tokens : List (List ℕ)) (step : ℕ) (t w : Tree) (token : List ℕ)
    → edit_from (λ u last. put u last v) step t token tokens ≡ Ok w → Deepens (depth t) (suc (length tokens) + depth v) (depth w)
set_from-deepens v [] step t w token is =
    let a = at_step-Ok step (put t token v) Ok w is in
    let rest = put-deepens t v w token (same_Ok a.0 w (put t token v) a.1 a.2) in
    let most = rest.most in
    let least = rest.least in
    record { most = omega arith; least = omega arith }
set_from-deepens v (next ∷ tokens) step t w token is =
    let a = at_step-Ok step (child t token) _ w is in
    let b = and_then-Ok (edit_from (λ u last. put u last v) (suc step) a.0 next tokens) (λ x. at_step step (put t token x) Ok) w a.2 in
    let c = at_step-Ok step (put t token b.0) Ok w b.2 in
    let below = set_from-deepens v tokens (suc step) a.0 b.0 next b.1 in
    let here = put-deepens t b.0 w token (same_Ok c.0 w (put t token b.0) c.1 c.2) in
    let inside = child-deep t a.0 token a.1 in
    let p = below.most in
    let q = below.least in
    let r = here.most in
    let s = here.least in
    record { most = omega arith; least = omega arith }

-- a set makes a tree as deep as the path and the value need, or leaves its depth
pub set-deepens : (t v w : Tree) (path : List (List ℕ)) → set t path v ≡ Ok w → Deepens (depth t) (length path + depth v) (depth w)
set-deepens t v w [] is =
    let same : v ≡ w = cc in
    let deep = ap depth same in
    record { most = omega arith; least = omega arith }
set-deepens t v w (token ∷ tokens) is = set_from-deepens v tokens 1 t w token is

delete_from-shallow : (tokens : List (List ℕ)) (step : ℕ) (t w : Tree) (token : List ℕ)
    → edit_from cut step t token tokens ≡ Ok w → depth w ≤ depth t
delete_from-shallow [] step t w token is =
    let a = at_step-Ok step (cut t token) Ok w is in cut-shallow t w token (same_Ok a.0 w (cut t token) a.1 a.2)
delete_from-shallow (next ∷ tokens) step t w token is =
    let a = at_step-Ok step (child t token) _ w is in
    let b = and_then-Ok (edit_from cut (suc step) a.0 next tokens) (λ x. at_step step (put t token x) Ok) w a.2 in
    let c = at_step-Ok step (put t token b.0) Ok w b.2 in
    let below = delete_from-shallow tokens (suc step) a.0 b.0 next b.1 in
    let here = put-deepens t b.0 w token (same_Ok c.0 w (put t token b.0) c.1 c.2) in
    let inside = child-deep t a.0 token a.1 in
    let r = here.most in
    omega arith

-- a delete makes no tree deeper
pub delete-shallow : (t w : Tree) (path : List (List ℕ)) → delete t path ≡ Ok w → depth w ≤ depth t
delete-shallow t w [] is = let same : t ≡ w = cc in let deep = ap depth same in omega arith
delete-shallow t w (token ∷ tokens) is = delete_from-shallow tokens 1 t w token is

-- ---- whether it keeps the limit of depth

-- the depth of the path and the value decides whether a set keeps the limit
pub set-fits : (t v w : Tree) (path : List (List ℕ)) → depth t ≤ config_limits.depth → set t path v ≡ Ok w
    → nat_le (length path + depth v) config_limits.depth ≡ nat_le (depth w) config_limits.depth
set-fits t v w path deep is =
    let rest = set-deepens t v w path is in
    let most = rest.most in
    let least = rest.least in
    grind (arith, nat_tests)

-- a delete keeps the limit of depth
pub delete-fits : (t w : Tree) (path : List (List ℕ)) → depth t ≤ config_limits.depth → delete t path ≡ Ok w
    → true ≡ nat_le (depth w) config_limits.depth
delete-fits t w path deep is = let shallow = delete-shallow t w path is in grind (arith, nat_tests)

-- a sum that stops at the greatest number passes the same test
pub capped_fits : (steps deep sum : ℕ) → sum ≡ min (steps + deep) 18446744073709551615
    → nat_le sum config_limits.depth ≡ nat_le (steps + deep) config_limits.depth
capped_fits steps deep sum is = grind (arith, nat_tests)
