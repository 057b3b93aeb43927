-- What one step's edit does to the length of a node.
use Rattle.std.proofs.Common.{◌≡◌, ℕ, zero, suc, ◌+◌, ◌-◌, ◌*◌, ◌<◌, ◌==◌, Bool, true, false, if◌then◌else◌, List, codes, Option, Some}
use Rattle.std.proofs.Common.{None, option_map, Ok, Err, refl, sym, ap, subst, ◌∙◌, arith}
use Rattle.yaml_config.proofs.Prelude.{nat_tests, byte_len, spaces, same_text, Tree, text, sequence, mapping, Elements, no_element, element}
use Rattle.yaml_config.proofs.Prelude.{Members, no_member, member, key_lines, elements_at, elements_after, lines_after_dash, members_at}
use Rattle.yaml_config.proofs.Prelude.{members_after, value_at, style_text, length_at, element_size, value_size, Size, three, four}
use Rattle.yaml_config.proofs.Prelude.{spaces_bytes, key_law, element_law, value_law, Index, number, after_last, no_index, index_of}
use Rattle.yaml_config.proofs.Prelude.{at_index, present, put_element, cut_element, push_element, value_of, put_member, cut_member, child}
use Rattle.yaml_config.{proofs.Prelude.{put, cut, Miss, Absent, option_map-Some, present-Ok}, specs.declared.change.Slot.Slot}
use Rattle.yaml_config.specs.{declared.change.Slot.TheVariants.{Value, Element}, Changes.{IsCollection, node_at, node_length, slot_in}}
use Rattle.yaml_config.specs.Changes.{child_size, element_row, member_row, growth, first_row}
use Rattle.{yaml_data.proofs.CharacterLemmas.same_text-true, tree_path.specs.Paths.element_at as child_at}

-- ---- a node in its slot

-- an element is a node two columns further
pub node-element : (t : Tree) (i : ℕ) → lines_after_dash t i ≡ node_at t (i + 2)
node-element (text value) i = refl
node-element (sequence ts) i = refl
node-element (mapping ms) i = refl

-- so is a value, after a space or a line
pub node-value : (t : Tree) (i : ℕ) → byte_len (value_at t i) ≡ 1 + node_length Value t (i + 2)
node-value (text value) i = omega arith
node-value (sequence no_element) i = omega arith
node-value (sequence (element t ts)) i =
    omega (arith, three (codes "\n") (spaces (i + 2)) (elements_at (element t ts) (i + 2)), spaces_bytes (i + 2))
node-value (mapping no_member) i = omega arith
node-value (mapping (member key t ms)) i =
    omega (arith, three (codes "\n") (spaces (i + 2)) (members_at (member key t ms) (i + 2)), spaces_bytes (i + 2))

-- a value in a slot, by its size and by its node
pub child-node : (slot : Slot) (t : Tree) (n : ℕ)
    → (k : ℕ) × ((u : Tree) → length_at (child_size slot u) n ≡ k + node_length slot u (n + 2))
child-node Value t n = (1, λ u. omega (arith, value_law u n, node-value u n))
child-node Element t n = (0, λ u. let same = ap byte_len (node-element u n) in omega (arith, element_law u n, same))

-- ---- rows: the lines of a collection, each after its spaces

elements_led : (t : Tree) (ts : Elements) (n : ℕ) → byte_len (elements_after (element t ts) n) ≡ n + byte_len (elements_at (element t ts) n)
elements_led t ts n =
    omega (
      arith,
      four (spaces n) (codes "- ") (lines_after_dash t n) (elements_after ts n),
      three (codes "- ") (lines_after_dash t n) (elements_after ts n),
      spaces_bytes n,
    )

members_led : (key : List ℕ) (t : Tree) (ms : Members) (n : ℕ)
    → byte_len (members_after (member key t ms) n) ≡ n + byte_len (members_at (member key t ms) n)
members_led key t ms n =
    omega (
      arith,
      four (spaces n) (key_lines n key) (value_at t n) (members_after ms n),
      three (key_lines n key) (value_at t n) (members_after ms n),
      spaces_bytes n,
    )

element_row-length : (t : Tree) (ts : Elements) (n : ℕ)
    → byte_len (elements_after (element t ts) n) ≡ length_at (element_row t) n + byte_len (elements_after ts n)
element_row-length t ts n =
    omega (arith, four (spaces n) (codes "- ") (lines_after_dash t n) (elements_after ts n), spaces_bytes n, element_law t n)

member_row-length : (key : List ℕ) (t : Tree) (ms : Members) (n : ℕ)
    → byte_len (members_after (member key t ms) n) ≡ length_at (member_row key t) n + byte_len (members_after ms n)
member_row-length key t ms n =
    omega (arith, four (spaces n) (key_lines n key) (value_at t n) (members_after ms n), spaces_bytes n, key_law n key, value_law t n)

-- ---- a value in the place of another

put_element-rows : (ts us : Elements) (i : ℕ) (u v : Tree) (n : ℕ) → child_at ts i ≡ Some u → put_element ts i v ≡ Some us
    → byte_len (elements_after us n) + length_at (element_size u) n ≡ byte_len (elements_after ts n) + length_at (element_size v) n
put_element-rows no_element us i u v n found is = cc
put_element-rows (element t ts) us zero u v n found is =
    let same : t ≡ u = cc in
    let e : element v ts ≡ us = cc in
    let new = ap (λ x. byte_len (elements_after x n)) e in
    let old = ap (λ x. length_at (element_size x) n) same in
    omega (arith, new, old, element_row-length t ts n, element_row-length v ts n)
put_element-rows (element t ts) us (suc i) u v n found is =
    let o = option_map-Some (element t) (put_element ts i v) us is in
    let new = ap (λ x. byte_len (elements_after x n)) o.2 in
    let rest = put_element-rows ts o.0 i u v n found o.1 in
    omega (arith, new, rest, element_row-length t ts n, element_row-length t o.0 n)

put_member-rows : (ms : Members) (key : List ℕ) (u v : Tree) (n : ℕ) → value_of ms key ≡ Some u
    → byte_len (members_after (put_member ms key v) n) + length_at (value_size u) n
    ≡ byte_len (members_after ms n) + length_at (value_size v) n
put_member-rows no_member key u v n found = cc
put_member-rows (member other t ms) key u v n found = by (same_text key other) found (put_member-rows ms key u v n)
  where
    by : (b : Bool) → (if b then Some t else value_of ms key) ≡ Some u
        → (value_of ms key ≡ Some u → byte_len (members_after (put_member ms key v) n) + length_at (value_size u) n
        ≡ byte_len (members_after ms n) + length_at (value_size v) n)
        → byte_len (members_after (if b then member other v ms else member other t (put_member ms key v)) n) + length_at (value_size u) n
        ≡ byte_len (members_after (member other t ms) n) + length_at (value_size v) n
    by true e rest =
        let same : t ≡ u = cc in
        let old = ap (λ x. length_at (value_size x) n) same in
        omega (arith, old, member_row-length other t ms n, member_row-length other v ms n)
    by false e rest =
        let after = rest e in
        omega (arith, after, member_row-length other t ms n, member_row-length other t (put_member ms key v) n)

-- the first line's spaces stay what they are, as both hold something
put_element-led : (slot : Slot) (ts us : Elements) (i : ℕ) (u v : Tree) (n : ℕ) → child_at ts i ≡ Some u → put_element ts i v ≡ Some us
    → node_length slot (sequence us) n + length_at (element_size u) n ≡ node_length slot (sequence ts) n + length_at (element_size v) n
put_element-led slot no_element us i u v n found is = cc
put_element-led slot (element t ts) no_element i u v n found is = absurd (none i is)
  where
    none : (i : ℕ) → put_element (element t ts) i v ≡ Some no_element → ⊥
    none zero e = let same : element v ts ≡ no_element = cc in cc
    none (suc i) e = let o = option_map-Some (element t) (put_element ts i v) no_element e in let same = o.2 in cc
put_element-led Value (element t ts) (element w us) i u v n found is =
    omega (arith, put_element-rows (element t ts) (element w us) i u v n found is, elements_led t ts n, elements_led w us n)
put_element-led Element (element t ts) (element w us) i u v n found is =
    omega (arith, put_element-rows (element t ts) (element w us) i u v n found is, elements_led t ts n, elements_led w us n)

put_member-led : (slot : Slot) (ms ns : Members) (key : List ℕ) (u v : Tree) (n : ℕ) → value_of ms key ≡ Some u → put_member ms key v ≡ ns
    → node_length slot (mapping ns) n + length_at (value_size u) n ≡ node_length slot (mapping ms) n + length_at (value_size v) n
put_member-led slot no_member ns key u v n found is = cc
put_member-led slot (member other t ms) no_member key u v n found is = absurd (none (same_text key other) is)
  where
    none : (b : Bool) → (if b then member other v ms else member other t (put_member ms key v)) ≡ no_member → ⊥
    none true e = cc
    none false e = cc
put_member-led Value (member other t ms) (member k w ns) key u v n found is =
    let rows = put_member-rows (member other t ms) key u v n found in
    let new = ap (λ x. byte_len (members_after x n)) is in
    omega (arith, rows, new, members_led other t ms n, members_led k w ns n)
put_member-led Element (member other t ms) (member k w ns) key u v n found is =
    let rows = put_member-rows (member other t ms) key u v n found in
    let new = ap (λ x. byte_len (members_after x n)) is in
    omega (arith, rows, new, members_led other t ms n, members_led k w ns n)

put_index-led : (index : Index) (slot : Slot) (ts : Elements) (w u v : Tree) (n : ℕ) → at_index index (child_at ts) (Err Absent) ≡ Ok u
    → at_index index (λ i. option_map sequence (put_element ts i v)) (Ok (sequence (push_element ts v))) ≡ Ok w
    → node_length slot w n + length_at (element_size u) n ≡ node_length slot (sequence ts) n + length_at (element_size v) n
put_index-led (number i) slot ts w u v n found is =
    let o = option_map-Some sequence (put_element ts i v) w (present-Ok _ w is) in
    subst (λ x. node_length slot x n + length_at (element_size u) n ≡ node_length slot (sequence ts) n + length_at (element_size v) n) o.2
    (put_element-led slot ts o.0 i u v n (present-Ok _ u found) o.1)
put_index-led after_last slot ts w u v n found is = cc
put_index-led no_index slot ts w u v n found is = cc

-- a value put where another one is
pub put-replaces : (slot : Slot) (t w u v : Tree) (token : List ℕ) (n : ℕ) → child t token ≡ Ok u → put t token v ≡ Ok w
    → node_length slot w n + length_at (child_size (slot_in t) u) n ≡ node_length slot t n + length_at (child_size (slot_in t) v) n
unfolding child put
put-replaces slot (text value) w u v token n found is = cc
put-replaces slot (sequence ts) w u v token n found is = put_index-led (index_of token) slot ts w u v n found is
put-replaces slot (mapping ms) w u v token n found is =
    let same : mapping (put_member ms token v) ≡ w = cc in
    subst (λ x. node_length slot x n + length_at (value_size u) n ≡ node_length slot (mapping ms) n + length_at (value_size v) n) same
    (put_member-led slot ms (put_member ms token v) token u v n (present-Ok _ u found) refl)

-- and so the same two spaces further in
pub put-leads : (slot : Slot) (t w u v : Tree) (token : List ℕ) (n : ℕ) → child t token ≡ Ok u → put t token v ≡ Ok w
    → node_length slot w n + node_length (slot_in t) u (n + 2) ≡ node_length slot t n + node_length (slot_in t) v (n + 2)
put-leads slot t w u v token n found is =
    let k = child-node (slot_in t) t n in
    omega (arith, put-replaces slot t w u v token n found is, k.1 u, k.1 v)

-- ---- a row more

not_zero : (k : ℕ) → 0 < k → (k == 0) ≡ false
not_zero k h = grind (arith, nat_tests)

is_zero : (k : ℕ) → k ≡ 0 → (k == 0) ≡ true
is_zero k h = grind (arith, nat_tests)

-- the spaces before the first row
abbrev unled : Slot → ℕ → ℕ
unled Value n = 0
unled Element n = n

one_less : (n l : ℕ) → 0 < l → n * (l - 1) + n ≡ n * l
one_less n zero h = absurd (omega arith)
one_less n (suc l) h = let less : suc l - 1 ≡ l = omega arith in let product = ap (λ x. n * x) less in omega (arith, product)

first_row-length : (slot : Slot) (row : Size) (n : ℕ) → 0 < row.lines → length_at (first_row slot row) n + unled slot n ≡ length_at row n
first_row-length Value row n some = omega arith
first_row-length Element row n some = omega (arith, one_less n row.lines some)

growth-length : (slot : Slot) (count : ℕ) (row : Size) (n old_rows new_rows old_length new_length : ℕ) → 0 < row.lines
    → new_rows ≡ old_rows + length_at row n → (count ≡ 0 → (old_length ≡ 3) × (old_rows ≡ 0))
    → (0 < count → old_length + unled slot n ≡ old_rows)
    → new_length + unled slot n ≡ new_rows
    → new_length + length_at (growth count row slot).removed n ≡ old_length + length_at (growth count row slot).added n
growth-length slot zero row n old_rows new_rows old_length new_length some rows empty filled new =
    let e = empty refl in
    let old = e.0 in
    let none = e.1 in
    let first = first_row-length slot row n some in
    omega arith
growth-length slot (suc count) row n old_rows new_rows old_length new_length some rows empty filled new =
    let full : (suc count == 0) ≡ false = not_zero (suc count) (omega arith) in
    let old = filled (omega arith) in
    rw full (omega arith)

-- how many rows
abbrev pub element_count : Elements → ℕ
element_count no_element = 0
element_count (element t ts) = suc (element_count ts)

-- the number of members
abbrev pub member_count : Members → ℕ
member_count no_member = 0
member_count (member key t ms) = suc (member_count ms)

elements_unled : (slot : Slot) (ts : Elements) (n : ℕ) → 0 < element_count ts
    → node_length slot (sequence ts) n + unled slot n ≡ byte_len (elements_after ts n)
elements_unled slot no_element n some = absurd (omega arith)
elements_unled Value (element t ts) n some = omega (arith, elements_led t ts n)
elements_unled Element (element t ts) n some = omega (arith, elements_led t ts n)

members_unled : (slot : Slot) (ms : Members) (n : ℕ) → 0 < member_count ms
    → node_length slot (mapping ms) n + unled slot n ≡ byte_len (members_after ms n)
members_unled slot no_member n some = absurd (omega arith)
members_unled Value (member key t ms) n some = omega (arith, members_led key t ms n)
members_unled Element (member key t ms) n some = omega (arith, members_led key t ms n)

elements_none : (slot : Slot) (ts : Elements) (n : ℕ) → element_count ts ≡ 0
    → (node_length slot (sequence ts) n ≡ 3) × (byte_len (elements_after ts n) ≡ 0)
elements_none Value no_element n e = (omega arith, refl)
elements_none Element no_element n e = (omega arith, refl)
elements_none slot (element t ts) n e = absurd (omega arith)

members_none : (slot : Slot) (ms : Members) (n : ℕ) → member_count ms ≡ 0
    → (node_length slot (mapping ms) n ≡ 3) × (byte_len (members_after ms n) ≡ 0)
members_none Value no_member n e = (omega arith, refl)
members_none Element no_member n e = (omega arith, refl)
members_none slot (member key t ms) n e = absurd (omega arith)

-- two sequences, of which the second has one row more
elements-grow : (slot : Slot) (ts us : Elements) (row : Size) (n : ℕ) → 0 < row.lines → 0 < element_count us
    → byte_len (elements_after us n) ≡ byte_len (elements_after ts n) + length_at row n
    → node_length slot (sequence us) n + length_at (growth (element_count ts) row slot).removed n
    ≡ node_length slot (sequence ts) n + length_at (growth (element_count ts) row slot).added n
elements-grow slot ts us row n some filled rows =
    growth-length slot (element_count ts) row n _ _ _ _ some rows (elements_none slot ts n) (elements_unled slot ts n)
    (elements_unled slot us n filled)

members-grow : (slot : Slot) (ms ns : Members) (row : Size) (n : ℕ) → 0 < row.lines → 0 < member_count ns
    → byte_len (members_after ns n) ≡ byte_len (members_after ms n) + length_at row n
    → node_length slot (mapping ns) n + length_at (growth (member_count ms) row slot).removed n
    ≡ node_length slot (mapping ms) n + length_at (growth (member_count ms) row slot).added n
members-grow slot ms ns row n some filled rows =
    growth-length slot (member_count ms) row n _ _ _ _ some rows (members_none slot ms n) (members_unled slot ms n)
    (members_unled slot ns n filled)

-- ---- a new element, a new member

push_element-rows : (ts : Elements) (v : Tree) (n : ℕ)
    → (byte_len (elements_after (push_element ts v) n) ≡ byte_len (elements_after ts n) + length_at (element_row v) n)
    × (0 < element_count (push_element ts v))
push_element-rows no_element v n = (omega (arith, element_row-length v no_element n), omega arith)
push_element-rows (element t ts) v n =
    let rest = (push_element-rows ts v n).0 in
    (omega (arith, rest, element_row-length t ts n, element_row-length t (push_element ts v) n), omega arith)

put_member-grows : (ms : Members) (key : List ℕ) (v : Tree) (n : ℕ) → value_of ms key ≡ None
    → (byte_len (members_after (put_member ms key v) n)
    ≡ byte_len (members_after ms n) + length_at (member_row key v) n) × (0 < member_count (put_member ms key v))
put_member-grows no_member key v n absent = (omega (arith, member_row-length key v no_member n), omega arith)
put_member-grows (member other t ms) key v n absent = by (same_text key other) absent (put_member-grows ms key v n)
  where
    by : (b : Bool) → (if b then Some t else value_of ms key) ≡ None
        → (value_of ms key ≡ None → (byte_len (members_after (put_member ms key v) n)
        ≡ byte_len (members_after ms n) + length_at (member_row key v) n) × (0 < member_count (put_member ms key v)))
        → (byte_len (members_after (if b then member other v ms else member other t (put_member ms key v)) n)
        ≡ byte_len (members_after (member other t ms) n) + length_at (member_row key v) n)
        × (0 < member_count (if b then member other v ms else member other t (put_member ms key v)))
    by true e rest = cc
    by false e rest =
        let after = (rest e).0 in
        (omega (arith, after, member_row-length other t ms n, member_row-length other t (put_member ms key v) n), omega arith)

-- an element more makes the node longer by its row
pub push-grows : (slot : Slot) (ts : Elements) (v : Tree) (n : ℕ)
    → node_length slot (sequence (push_element ts v)) n + length_at (growth (element_count ts) (element_row v) slot).removed n
    ≡ node_length slot (sequence ts) n + length_at (growth (element_count ts) (element_row v) slot).added n
push-grows slot ts v n =
    let p = push_element-rows ts v n in elements-grow slot ts (push_element ts v) (element_row v) n (omega arith) p.1 p.0

-- so does a member more
pub put-grows : (slot : Slot) (ms : Members) (key : List ℕ) (v : Tree) (n : ℕ) → value_of ms key ≡ None
    → node_length slot (mapping (put_member ms key v)) n + length_at (growth (member_count ms) (member_row key v) slot).removed n
    ≡ node_length slot (mapping ms) n + length_at (growth (member_count ms) (member_row key v) slot).added n
put-grows slot ms key v n absent =
    let p = put_member-grows ms key v n absent in members-grow slot ms (put_member ms key v) (member_row key v) n (omega arith) p.1 p.0

-- ---- an element less, a member less

cut_element-rows : (ts us : Elements) (i : ℕ) (u : Tree) (n : ℕ) → child_at ts i ≡ Some u → cut_element ts i ≡ Some us
    → (byte_len (elements_after ts n) ≡ byte_len (elements_after us n) + length_at (element_row u) n)
    × (element_count ts ≡ suc (element_count us))
cut_element-rows no_element us i u n found is = cc
cut_element-rows (element t ts) us zero u n found is =
    let same : t ≡ u = cc in
    let e : ts ≡ us = cc in
    let new = ap (λ x. byte_len (elements_after x n)) e in
    let count = ap element_count e in
    let old = ap (λ x. length_at (element_row x) n) same in
    (omega (arith, new, old, element_row-length t ts n), omega (arith, count))
cut_element-rows (element t ts) us (suc i) u n found is =
    let o = option_map-Some (element t) (cut_element ts i) us is in
    let new = ap (λ x. byte_len (elements_after x n)) o.2 in
    let count = ap element_count o.2 in
    let rest = cut_element-rows ts o.0 i u n found o.1 in
    let rows = rest.0 in
    let less = rest.1 in
    (omega (arith, new, rows, element_row-length t ts n, element_row-length t o.0 n), omega (arith, count, less))

cut_member-rows : (ms ns : Members) (key : List ℕ) (u : Tree) (n : ℕ) → value_of ms key ≡ Some u → cut_member ms key ≡ Some ns
    → (byte_len (members_after ms n) ≡ byte_len (members_after ns n) + length_at (member_row key u) n)
    × (member_count ms ≡ suc (member_count ns))
cut_member-rows no_member ns key u n found is = cc
cut_member-rows (member other t ms) ns key u n found is = by (same_text key other) refl found is (cut_member-rows ms)
  where
    by : (b : Bool) → same_text key other ≡ b → (if b then Some t else value_of ms key) ≡ Some u
        → (if b then Some ms else option_map (member other t) (cut_member ms key)) ≡ Some ns
        → ((ns : Members) (key : List ℕ) (u : Tree) (n : ℕ) → value_of ms key ≡ Some u → cut_member ms key ≡ Some ns
        → (byte_len (members_after ms n) ≡ byte_len (members_after ns n) + length_at (member_row key u) n)
        × (member_count ms ≡ suc (member_count ns)))
        → (byte_len (members_after (member other t ms) n)
        ≡ byte_len (members_after ns n) + length_at (member_row key u) n) × (suc (member_count ms) ≡ suc (member_count ns))
    by true named e f rest =
        let same : t ≡ u = cc in
        let s : ms ≡ ns = cc in
        let new = ap (λ x. byte_len (members_after x n)) s in
        let count = ap member_count s in
        let own = same_text-true key other named in
        let old = ap (λ x. length_at (member_row key x) n) same in
        let key_same = ap (λ k. length_at (member_row k t) n) own in
        (omega (arith, new, old, key_same, member_row-length other t ms n), omega (arith, count))
    by false named e f rest =
        let o = option_map-Some (member other t) (cut_member ms key) ns f in
        let new = ap (λ x. byte_len (members_after x n)) o.2 in
        let count = ap member_count o.2 in
        let r = rest o.0 key u n e o.1 in
        let rows = r.0 in
        let less = r.1 in
        (omega (arith, new, rows, member_row-length other t ms n, member_row-length other t o.0 n), omega (arith, count, less))

-- an element less makes it shorter by its row
pub cut-shrinks_elements : (slot : Slot) (ts us : Elements) (i : ℕ) (u : Tree) (n : ℕ) → child_at ts i ≡ Some u → cut_element ts i ≡ Some us
    → (node_length slot (sequence us) n + length_at (growth (element_count us) (element_row u) slot).added n
    ≡ node_length slot (sequence ts) n + length_at (growth (element_count us) (element_row u) slot).removed n)
    × (element_count ts ≡ suc (element_count us))
cut-shrinks_elements slot ts us i u n found is =
    let p = cut_element-rows ts us i u n found is in
    (sym (elements-grow slot us ts (element_row u) n (omega arith) (omega (arith, p.1)) p.0), p.1)

-- so does a member less
pub cut-shrinks_members : (slot : Slot) (ms ns : Members) (key : List ℕ) (u : Tree) (n : ℕ) → value_of ms key ≡ Some u
    → cut_member ms key ≡ Some ns
    → (node_length slot (mapping ns) n + length_at (growth (member_count ns) (member_row key u) slot).added n
    ≡ node_length slot (mapping ms) n + length_at (growth (member_count ns) (member_row key u) slot).removed n)
    × (member_count ms ≡ suc (member_count ns))
cut-shrinks_members slot ms ns key u n found is =
    let p = cut_member-rows ms ns key u n found is in
    (sym (members-grow slot ns ms (member_row key u) n (omega arith) (omega (arith, p.1)) p.0), p.1)

-- ---- a step that finds nothing

put_element-none : (ts : Elements) (i : ℕ) (v : Tree) → child_at ts i ≡ None → put_element ts i v ≡ None
put_element-none no_element i v is = refl
put_element-none (element t ts) zero v is = cc
put_element-none (element t ts) (suc i) v is = ap (option_map (element t)) (put_element-none ts i v is)

cut_element-none : (ts : Elements) (i : ℕ) → child_at ts i ≡ None → cut_element ts i ≡ None
cut_element-none no_element i is = refl
cut_element-none (element t ts) zero is = cc
cut_element-none (element t ts) (suc i) is = ap (option_map (element t)) (cut_element-none ts i is)

cut_element-there : (ts : Elements) (i : ℕ) (u : Tree) → child_at ts i ≡ Some u → (us : Elements) × (cut_element ts i ≡ Some us)
cut_element-there no_element i u is = cc
cut_element-there (element t ts) zero u is = (ts, refl)
cut_element-there (element t ts) (suc i) u is = let p = cut_element-there ts i u is in (element t p.0, ap (option_map (element t)) p.1)

cut_member-none : (ms : Members) (key : List ℕ) → value_of ms key ≡ None → cut_member ms key ≡ None
cut_member-none no_member key is = refl
cut_member-none (member other t ms) key is = by (same_text key other) is (cut_member-none ms key)
  where
    by : (b : Bool) → (if b then Some t else value_of ms key) ≡ None → (value_of ms key ≡ None → cut_member ms key ≡ None)
        → (if b then Some ms else option_map (member other t) (cut_member ms key)) ≡ None
    by true e rest = cc
    by false e rest = ap (option_map (member other t)) (rest e)

cut_member-there : (ms : Members) (key : List ℕ) (u : Tree) → value_of ms key ≡ Some u → (ns : Members) × (cut_member ms key ≡ Some ns)
cut_member-there no_member key u is = cc
cut_member-there (member other t ms) key u is = by (same_text key other) is (cut_member-there ms key u)
  where
    by : (b : Bool) → (if b then Some t else value_of ms key) ≡ Some u
        → (value_of ms key ≡ Some u → (ns : Members) × (cut_member ms key ≡ Some ns))
        → (ns : Members) × ((if b then Some ms else option_map (member other t) (cut_member ms key)) ≡ Some ns)
    by true e rest = (ms, refl)
    by false e rest = let p = rest e in (member other t p.0, ap (option_map (member other t)) p.1)

present-Err : {A : Type 0} (o : Option A) (miss : Miss) → present o ≡ Err miss → (o ≡ None) × (Absent ≡ miss)
present-Err None miss is = (refl, cc)
present-Err (Some x) miss is = cc

put_index-missed : (index : Index) (ts : Elements) (v : Tree) (miss : Miss) → (index ≡ after_last → ⊥)
    → at_index index (child_at ts) (Err Absent) ≡ Err miss
    → at_index index (λ i. option_map sequence (put_element ts i v)) (Ok (sequence (push_element ts v))) ≡ Err miss
put_index-missed (number i) ts v miss other is =
    let p = present-Err (child_at ts i) miss is in
    ap (λ o. present (option_map sequence o)) (put_element-none ts i v p.0) ∙ ap Err p.1
put_index-missed after_last ts v miss other is = absurd (other refl)
put_index-missed no_index ts v miss other is = cc

-- in a sequence without that element nothing is put
pub put_sequence-missed : (ts : Elements) (v : Tree) (token : List ℕ) (miss : Miss)
    → (index_of token ≡ after_last → ⊥) → child (sequence ts) token ≡ Err miss
    → put (sequence ts) token v ≡ Err miss
unfolding child put
put_sequence-missed ts v token miss other is = put_index-missed (index_of token) ts v miss other is

-- nor in a text
pub put_text-missed : (value : List ℕ) (v : Tree) (token : List ℕ) (miss : Miss) → child (text value) token ≡ Err miss
    → put (text value) token v ≡ Err miss
unfolding child put
put_text-missed value v token miss is = is

-- `-` puts an element at the end
pub put_last : (ts : Elements) (v : Tree) (token : List ℕ) → index_of token ≡ after_last
    → put (sequence ts) token v ≡ Ok (sequence (push_element ts v))
unfolding put
put_last ts v token is = ap (λ index. at_index index (λ i. option_map sequence (put_element ts i v)) (Ok (sequence (push_element ts v)))) is

-- a new key puts a member at the end
pub put_new : (ms : Members) (v : Tree) (token : List ℕ) (miss : Miss) → child (mapping ms) token ≡ Err miss
    → (put (mapping ms) token v ≡ Ok (mapping (put_member ms token v))) × (value_of ms token ≡ None)
unfolding child put
put_new ms v token miss is = (refl, (present-Err (value_of ms token) miss is).0)

cut_index-missed : (index : Index) (ts : Elements) (miss : Miss) → at_index index (child_at ts) (Err Absent) ≡ Err miss
    → at_index index (λ i. option_map sequence (cut_element ts i)) (Err Absent) ≡ Err miss
cut_index-missed (number i) ts miss is =
    let p = present-Err (child_at ts i) miss is in
    ap (λ o. present (option_map sequence o)) (cut_element-none ts i p.0) ∙ ap Err p.1
cut_index-missed after_last ts miss is = cc
cut_index-missed no_index ts miss is = cc

-- what is missing isn't cut
pub cut-missed : (t : Tree) (token : List ℕ) (miss : Miss) → child t token ≡ Err miss → cut t token ≡ Err miss
unfolding child cut
cut-missed (text value) token miss is = is
cut-missed (sequence ts) token miss is = cut_index-missed (index_of token) ts miss is
cut-missed (mapping ms) token miss is =
    let p = present-Err (value_of ms token) miss is in
    ap (λ o. present (option_map mapping o)) (cut_member-none ms token p.0) ∙ ap Err p.1

-- ---- a value taken out

cut_index-there : (index : Index) (slot : Slot) (ts : Elements) (u : Tree) → at_index index (child_at ts) (Err Absent) ≡ Ok u
    → (us : Elements) × (at_index index (λ i. option_map sequence (cut_element ts i)) (Err Absent) ≡ Ok (sequence us))
    × (element_count ts ≡ suc (element_count us))
    × ((n : ℕ) → node_length slot (sequence us) n + length_at (growth (element_count us) (element_row u) slot).added n
    ≡ node_length slot (sequence ts) n + length_at (growth (element_count us) (element_row u) slot).removed n)
cut_index-there (number i) slot ts u is =
    let found = present-Ok (child_at ts i) u is in
    let p = cut_element-there ts i u found in (
      p.0,
      ap (λ o. present (option_map sequence o)) p.1,
      (cut-shrinks_elements slot ts p.0 i u 0 found p.1).1,
      λ n. (cut-shrinks_elements slot ts p.0 i u n found p.1).0,
    )
cut_index-there after_last slot ts u is = cc
cut_index-there no_index slot ts u is = cc

-- an element that is there is cut
pub cut_sequence-there : (slot : Slot) (ts : Elements) (u : Tree) (token : List ℕ) → child (sequence ts) token ≡ Ok u
    → (us : Elements) × (cut (sequence ts) token ≡ Ok (sequence us)) × (element_count ts ≡ suc (element_count us))
    × ((n : ℕ) → node_length slot (sequence us) n + length_at (growth (element_count us) (element_row u) slot).added n
    ≡ node_length slot (sequence ts) n + length_at (growth (element_count us) (element_row u) slot).removed n)
unfolding child cut
cut_sequence-there slot ts u token is = cut_index-there (index_of token) slot ts u is

-- so is a member
pub cut_mapping-there : (slot : Slot) (ms : Members) (u : Tree) (token : List ℕ) → child (mapping ms) token ≡ Ok u
    → (ns : Members) × (cut (mapping ms) token ≡ Ok (mapping ns)) × (member_count ms ≡ suc (member_count ns))
    × ((n : ℕ) → node_length slot (mapping ns) n + length_at (growth (member_count ns) (member_row token u) slot).added n
    ≡ node_length slot (mapping ms) n + length_at (growth (member_count ns) (member_row token u) slot).removed n)
unfolding child cut
cut_mapping-there slot ms u token is =
    let found = present-Ok (value_of ms token) u is in
    let p = cut_member-there ms token u found in (
      p.0,
      ap (λ o. present (option_map mapping o)) p.1,
      (cut-shrinks_members slot ms p.0 token u 0 found p.1).1,
      λ n. (cut-shrinks_members slot ms p.0 token u n found p.1).0,
    )

-- ---- edits are of collections, and leave collections

put_index-collection : (index : Index) (ts : Elements) (v w : Tree)
    → at_index index (λ i. option_map sequence (put_element ts i v)) (Ok (sequence (push_element ts v))) ≡ Ok w → IsCollection w
put_index-collection (number i) ts v w is =
    let o = option_map-Some sequence (put_element ts i v) w (present-Ok _ w is) in subst IsCollection o.2 tt
put_index-collection after_last ts v w is = let same : sequence (push_element ts v) ≡ w = cc in subst IsCollection same tt
put_index-collection no_index ts v w is = cc

-- what is put into is a collection, and stays one
pub put-collection : (t v w : Tree) (token : List ℕ) → put t token v ≡ Ok w → IsCollection t × IsCollection w
unfolding put
put-collection (text value) v w token is = cc
put-collection (sequence ts) v w token is = (tt, put_index-collection (index_of token) ts v w is)
put-collection (mapping ms) v w token is = let same : mapping (put_member ms token v) ≡ w = cc in (tt, subst IsCollection same tt)

cut_index-collection : (index : Index) (ts : Elements) (w : Tree)
    → at_index index (λ i. option_map sequence (cut_element ts i)) (Err Absent) ≡ Ok w → IsCollection w
cut_index-collection (number i) ts w is =
    let o = option_map-Some sequence (cut_element ts i) w (present-Ok _ w is) in subst IsCollection o.2 tt
cut_index-collection after_last ts w is = cc
cut_index-collection no_index ts w is = cc

-- so is what is cut from
pub cut-collection : (t w : Tree) (token : List ℕ) → cut t token ≡ Ok w → IsCollection t × IsCollection w
unfolding cut
cut-collection (text value) w token is = cc
cut-collection (sequence ts) w token is = (tt, cut_index-collection (index_of token) ts w is)
cut-collection (mapping ms) w token is =
    let o = option_map-Some mapping (cut_member ms token) w (present-Ok _ w is) in (tt, subst IsCollection o.2 tt)

-- the text of a collection is that of its node
pub style-node : (t : Tree) → IsCollection t → byte_len (style_text t) ≡ node_length Value t 0
style-node (text value) is = absurd is
style-node (sequence ts) is = omega arith
style-node (mapping ms) is = omega arith
