-- The length of a whole tree after an edit at the end of a path, from that of the node that is edited.
use Rattle.std.proofs.Common.{◌≡◌, ℕ, zero, suc, ◌+◌, ◌*◌, ◌^◌, ◌<◌, ◌≤◌, Bool, true, false, if◌then◌else◌, List, [], ◌∷◌, ◌++◌, length}
use Rattle.std.proofs.{Common.{codes, Some, Result, Ok, Err, refl, sym, ap, subst, ◌∙◌, add-zero, arith}, Math.Nat.mul-le-mul_left}
use Rattle.std.proofs.Math.Nat.{mul-le-mul_right}
use Rattle.yaml_config.proofs.Prelude.{byte_len, same_text, spaces, Tree, text, sequence, mapping, Elements, no_element, element, Members}
use Rattle.yaml_config.proofs.Prelude.{no_member, member, depth, elements_depth, members_depth, key_lines, elements_at, elements_after}
use Rattle.yaml_config.proofs.Prelude.{lines_after_dash, members_at, members_after, value_at, style_text, three, elements_law, members_law}
use Rattle.yaml_config.proofs.Prelude.{Index, number, after_last, no_index, index_of, at_index, value_of, child, refusal, at_step, at_from}
use Rattle.yaml_config.proofs.{Prelude.{Miss, Absent, present-Ok, put-there, edit_path, edit_path-step}, ChangeLaws.put-leads}
use Rattle.yaml_config.{proofs.ChangeLaws.{put-collection, style-node, node-value}, specs.declared.change.{Change.Change, Slot.Slot}}
use Rattle.yaml_config.specs.{declared.change.Slot.TheVariants.Value, Changes.{IsCollection, Changes, ChangesSmall, node_length, slot_in}}
use Rattle.{yaml_config.specs.Changes.{Located, shifted_change}, tree_path.specs.Paths.element_at as child_at}

-- ---- down a path

-- one step further down, with the slots
pub Located-push : (tokens : List (List ℕ)) (token : List ℕ) (s r : Slot) (t u next : Tree)
    → Located tokens s t r u → child u token ≡ Ok next → Located (tokens ++ token ∷ []) s t (slot_in u) next
Located-push [] token s r t u next low found =
    (next, subst (λ x. child x token ≡ Ok next) low.0 found, (refl, ap slot_in low.0))
Located-push (first ∷ tokens) token s r t u next low found =
    (low.0, low.1, Located-push tokens token (slot_in t) r low.0 u next low.2 found)

-- the value at a path that was gone down
pub at_from-Located : (tokens : List (List ℕ)) (step : ℕ) (s r : Slot) (t u : Tree) → Located tokens s t r u → at_from step t tokens ≡ Ok u
at_from-Located [] step s r t u low = ap Ok (sym low.0)
at_from-Located (token ∷ tokens) step s r t u low = rw low.1 (at_from-Located tokens (suc step) (slot_in t) r low.0 u low.2)

-- ---- the whole tree after an edit of the node

deeper : (n k : ℕ) → n + 2 + 2 * k ≡ n + 2 * suc k
deeper n k = omega arith

-- an edit at the end of the path changes the whole tree so
pub edit-Located : (edit : Tree → List ℕ → Result Tree Miss) (parents : List (List ℕ)) (last : List ℕ) (step : ℕ)
    (s r : Slot) (t u v : Tree)
    → Located parents s t r u → edit u last ≡ Ok v
    → (w : Tree) × (edit_path edit step t (parents ++ last ∷ []) ≡ Ok w)
    × ((n : ℕ) → node_length s w n + node_length r u (n + 2 * length parents)
    ≡ node_length s t n + node_length r v (n + 2 * length parents))
    × (((x y : Tree) → edit x last ≡ Ok y → IsCollection x × IsCollection y) → IsCollection t × IsCollection w)
edit-Located edit [] last step s r t u v low is = (
  v,
  ap (λ x. at_step step x Ok) (subst (λ x. edit x last ≡ Ok v) low.0 is),
  λ n. here n,
  λ keeps. keeps t v (subst (λ x. edit x last ≡ Ok v) low.0 is),
)
  where
    here : (n : ℕ) → node_length s v n + node_length r u (n + 2 * 0) ≡ node_length s t n + node_length r v (n + 2 * 0)
    here n =
        let same : n + 2 * 0 ≡ n = omega arith in
        let old = ap (λ x. node_length r x (n + 2 * 0)) low.0 ∙ ap (λ x. node_length x t (n + 2 * 0)) low.1 ∙ ap (node_length s t) same in
        let new = ap (λ x. node_length x v (n + 2 * 0)) low.1 ∙ ap (node_length s v) same in
        omega (arith, old, new)
edit-Located edit (token ∷ parents) last step s r t u v low is =
    let inner = edit-Located edit parents last (suc step) (slot_in t) r low.0 u v low.2 is in
    let whole = put-there t token low.0 inner.0 low.1 in (
      whole.0,
      edit_path-step edit step t token last parents ∙ rw (low.1, inner.1, whole.1),
      λ n.
          let above = put-leads s t whole.0 low.0 inner.0 token n low.1 whole.1 in
          let below = inner.2 (n + 2) in
          let old = ap (node_length r u) (deeper n (length parents)) in
          let new = ap (node_length r v) (deeper n (length parents)) in
          omega (arith, above, below, old, new),
      λ _. put-collection t inner.0 whole.0 token whole.1,
    )

-- an edit whose last step fails
pub missed-Located : (edit : Tree → List ℕ → Result Tree Miss) (parents : List (List ℕ)) (last : List ℕ) (step : ℕ)
    (s r : Slot) (t u : Tree) (miss : Miss)
    → Located parents s t r u → edit u last ≡ Err miss
    → edit_path edit step t (parents ++ last ∷ []) ≡ Err (refusal miss (step + length parents))
missed-Located edit [] last step s r t u miss low is =
    ap (λ x. at_step step x Ok) (subst (λ x. edit x last ≡ Err miss) low.0 is) ∙ ap (λ k. Err (refusal miss k)) (sym (add-zero step))
missed-Located edit (token ∷ parents) last step s r t u miss low is =
    edit_path-step edit step t token last parents
    ∙ rw (low.1, missed-Located edit parents last (suc step) (slot_in t) r low.0 u miss low.2 is)
    (ap (λ k. Err (refusal miss k)) (omega arith))

-- ---- the change of the whole

product_fits : (k l : ℕ) → k < 2 ^ 65 → l < 2 ^ 34 → k * l < 2 ^ 99
product_fits k l few small =
    let a : l ≤ 2 ^ 34 = omega arith in
    let b : k ≤ 2 ^ 65 = omega arith in
    omega (arith, mul-le-mul_left k a, mul-le-mul_right (2 ^ 34) b)

-- the length of the whole tree after a change
pub changes-whole : (k : ℕ) (r : Slot) (change : Change) (t u v w : Tree) → k < 2 ^ 64
    → ((n : ℕ) → node_length Value w n + node_length r u (n + 2 * k) ≡ node_length Value t n + node_length r v (n + 2 * k))
    → IsCollection t → IsCollection w → ChangesSmall r change u v → Changes (shifted_change (2 * k) change) t w
changes-whole k r change t u v w few whole was is node =
    let added_bytes = node.added_bytes in
    let added_lines = node.added_lines in
    let product = product_fits (2 * k) change.added.lines (omega arith) added_lines in
    record {
      alone =
          let above = whole 0 in
          let below = node.changes (0 + 2 * k) in
          omega (arith, above, below, style-node t was, style-node w is);
      after_key = λ i.
          let above = whole (i + 2) in
          let below = node.changes (i + 2 + 2 * k) in
          omega (arith, above, below, node-value t i, node-value w i);
      bytes_fit = omega (arith, added_bytes, product);
      lines_fit = omega arith;
    }

-- ---- what is inside is no larger

record Within (inner : Tree) (bytes deep : ℕ) : Type 0 where
  within_bytes : byte_len (style_text inner) ≤ bytes
  within_deep : depth inner ≤ deep

element_least : (t : Tree) → byte_len (style_text t) ≤ byte_len (lines_after_dash t 0)
element_least (text value) = omega arith
element_least (sequence ts) = omega (arith, elements_law ts 2)
element_least (mapping ms) = omega (arith, members_law ms 2)

value_least : (t : Tree) → byte_len (style_text t) ≤ byte_len (value_at t 0)
value_least (text value) = omega arith
value_least (sequence no_element) = omega arith
value_least (sequence (element t ts)) =
    omega (arith, elements_law (element t ts) 2, three (codes "\n") (spaces 2) (elements_at (element t ts) 2))
value_least (mapping no_member) = omega arith
value_least (mapping (member key t ms)) =
    omega (arith, members_law (member key t ms) 2, three (codes "\n") (spaces 2) (members_at (member key t ms) 2))

element_within : (ts : Elements) (i : ℕ) (u : Tree) → child_at ts i ≡ Some u → Within u (byte_len (elements_after ts 0)) (elements_depth ts)
element_within no_element i u is = cc
element_within (element t ts) zero u is =
    let same : t ≡ u = cc in
    let bytes = ap (λ x. byte_len (style_text x)) same in
    let deep = ap depth same in
    let least = element_least t in
    let lines = three (codes "- ") (lines_after_dash t 0) (elements_after ts 0) in
    record { within_bytes = omega arith; within_deep = omega arith }
element_within (element t ts) (suc i) u is =
    let rest = element_within ts i u is in
    let bytes = rest.within_bytes in
    let deep = rest.within_deep in
    let lines = three (codes "- ") (lines_after_dash t 0) (elements_after ts 0) in
    record { within_bytes = omega arith; within_deep = omega arith }

member_within : (ms : Members) (key : List ℕ) (u : Tree) → value_of ms key ≡ Some u
    → Within u (byte_len (members_after ms 0)) (members_depth ms)
member_within no_member key u is = cc
member_within (member other t ms) key u is = by (same_text key other) is (member_within ms key u)
  where
    by : (b : Bool) → (if b then Some t else value_of ms key) ≡ Some u
        → (value_of ms key ≡ Some u → Within u (byte_len (members_after ms 0)) (members_depth ms))
        → Within u (byte_len (members_after (member other t ms) 0)) (members_depth (member other t ms))
    by true e after =
        let same : t ≡ u = cc in
        let bytes = ap (λ x. byte_len (style_text x)) same in
        let deep = ap depth same in
        let least = value_least t in
        let lines = three (key_lines 0 other) (value_at t 0) (members_after ms 0) in
        record { within_bytes = omega arith; within_deep = omega arith }
    by false e after =
        let rest = after e in
        let bytes = rest.within_bytes in
        let deep = rest.within_deep in
        let lines = three (key_lines 0 other) (value_at t 0) (members_after ms 0) in
        record { within_bytes = omega arith; within_deep = omega arith }

elements_whole : (ts : Elements) → byte_len (elements_after ts 0) ≤ byte_len (style_text (sequence ts))
elements_whole no_element = omega arith
elements_whole (element t ts) = omega arith

members_whole : (ms : Members) → byte_len (members_after ms 0) ≤ byte_len (style_text (mapping ms))
members_whole no_member = omega arith
members_whole (member key t ms) = omega arith

child_index : (index : Index) (ts : Elements) (u : Tree) → at_index index (child_at ts) (Err Absent) ≡ Ok u
    → Within u (byte_len (elements_after ts 0)) (elements_depth ts)
child_index (number i) ts u is = element_within ts i u (present-Ok _ u is)
child_index after_last ts u is = cc
child_index no_index ts u is = cc

-- a value that a step leads to is no longer than the tree
pub child-within : (t u : Tree) (token : List ℕ) → child t token ≡ Ok u
    → (byte_len (style_text u) ≤ byte_len (style_text t)) × (depth u ≤ depth t)
unfolding child
child-within (text value) u token is = cc
child-within (sequence ts) u token is =
    let inside = child_index (index_of token) ts u is in
    let bytes = inside.within_bytes in
    let deep = inside.within_deep in
    (omega (arith, elements_whole ts), omega arith)
child-within (mapping ms) u token is =
    let inside = member_within ms token u (present-Ok _ u is) in
    let bytes = inside.within_bytes in
    let deep = inside.within_deep in
    (omega (arith, members_whole ms), omega arith)

-- nor is one that a path leads to
pub Located-within : (tokens : List (List ℕ)) (s r : Slot) (t u : Tree) → Located tokens s t r u
    → (byte_len (style_text u) ≤ byte_len (style_text t)) × (depth u ≤ depth t)
Located-within [] s r t u low =
    let bytes = ap (λ x. byte_len (style_text x)) low.0 in
    let deep = ap depth low.0 in
    (omega arith, omega arith)
Located-within (token ∷ tokens) s r t u low =
    let below = Located-within tokens (slot_in t) r low.0 u low.2 in
    let here = child-within t low.0 token low.1 in
    let a = below.0 in
    let b = below.1 in
    let c = here.0 in
    let d = here.1 in
    (omega arith, omega arith)
