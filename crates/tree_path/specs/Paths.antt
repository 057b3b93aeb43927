-- What paths do in trees: the value at a place, and the trees after a `set` and a `delete`. Each is a tree, or the
-- first refusal on the way; steps count from 1.
use Rattle.std.specs.Prelude.{ℕ, zero, suc, ◌+◌, ◌-◌, ◌*◌, Bool, false, ◌==◌, if◌then◌else◌, List, [], ◌∷◌, codes, Option, Some, None}
use Rattle.std.specs.Prelude.{option_map, Result, Ok, Err}
use Rattle.tree_path.specs.Prelude.{list_all, is_empty, same_text, Tree, text, sequence, mapping, Elements, no_element, element, Members}
use Rattle.tree_path.specs.{Prelude.{no_member, member}, declared.place.Miss.{Miss, TheVariants.{Absent, NoIndex}}}
use Rattle.{yaml_chars.specs.{Signs.digit_zero, Classes.in_range}, json_pointer.specs.declared.fault.PathFault.PathFault}
use Rattle.json_pointer.specs.declared.fault.PathFault.TheVariants.{NoSuchPlace, NotIndex}

-- ---- indices (RFC 6901, 4)

-- an ASCII digit
abbrev pub digit : ℕ → Bool
digit c = in_range 48 57 c

-- `0`, or digits without a leading zero
abbrev pub is_number : List ℕ → Bool
is_number [] = false
is_number (c ∷ cs) = if c == digit_zero then is_empty cs else list_all digit (c ∷ cs)

-- the number that digits spell after a number n
abbrev pub number_after : ℕ → List ℕ → ℕ
number_after n [] = n
number_after n (c ∷ cs) = number_after (10 * n + (c - digit_zero)) cs

-- what a token is in a sequence: the index of an element, from 0; `-`, the place after the last one; or neither
pub data Index : Type 0 where
  number : ℕ → Index
  after_last no_index : Index

-- what a token is in a sequence
abbrev pub index_of : List ℕ → Index
index_of token =
    if same_text token (codes "-") then after_last
    else (if is_number token then number (number_after 0 token) else no_index)

-- ---- one step: the value that it leads to, and the tree with another value there, or without it

-- the element at an index
abbrev pub element_at : Elements → ℕ → Option Tree
element_at no_element n = None
element_at (element t ts) zero = Some t
element_at (element t ts) (suc n) = element_at ts n

-- the elements with one replaced
abbrev pub put_element : Elements → ℕ → Tree → Option Elements
put_element no_element n v = None
put_element (element t ts) zero v = Some (element v ts)
put_element (element t ts) (suc n) v = option_map (element t) (put_element ts n v)

-- the elements without one
abbrev pub cut_element : Elements → ℕ → Option Elements
cut_element no_element n = None
cut_element (element t ts) zero = Some ts
cut_element (element t ts) (suc n) = option_map (element t) (cut_element ts n)

-- the elements with one more at the end
abbrev pub push_element : Elements → Tree → Elements
push_element no_element v = element v no_element
push_element (element t ts) v = element t (push_element ts v)

-- A tree may hold a key twice, though no configuration does: the first member with the key counts.
abbrev pub value_of : Members → List ℕ → Option Tree
value_of no_member key = None
value_of (member other t ms) key = if same_text key other then Some t else value_of ms key

-- a key that is there keeps its place, a new one goes last
abbrev pub put_member : Members → List ℕ → Tree → Members
put_member no_member key v = member key v no_member
put_member (member other t ms) key v =
    if same_text key other then member other v ms else member other t (put_member ms key v)

-- the members without one
abbrev pub cut_member : Members → List ℕ → Option Members
cut_member no_member key = None
cut_member (member other t ms) key =
    if same_text key other then Some ms else option_map (member other t) (cut_member ms key)

-- a value, or the fault that it is missing
abbrev pub present : {A : Type 0} → Option A → Result A Miss
present (Some x) = Ok x
present None = Err Absent

-- what a token means in a sequence: what is at the number, or after the last element
abbrev pub at_index : {A : Type 0} → Index → (ℕ → Option A) → Result A Miss → Result A Miss
at_index (number n) inside after = present (inside n)
at_index after_last inside after = after
at_index no_index inside after = Err NoIndex

-- the value that one step leads to
unfoldable pub child : Tree → List ℕ → Result Tree Miss
child (text value) token = Err Absent
child (sequence ts) token = at_index (index_of token) (element_at ts) (Err Absent)
child (mapping ms) token = present (value_of ms token)

-- the tree with the value of one step replaced or added
unfoldable pub put : Tree → List ℕ → Tree → Result Tree Miss
put (text value) token v = Err Absent
put (sequence ts) token v =
    at_index (index_of token) (λ n. option_map sequence (put_element ts n v)) (Ok (sequence (push_element ts v)))
put (mapping ms) token v = Ok (mapping (put_member ms token v))

-- the tree without the value of one step
unfoldable pub cut : Tree → List ℕ → Result Tree Miss
cut (text value) token = Err Absent
cut (sequence ts) token = at_index (index_of token) (λ n. option_map sequence (cut_element ts n)) (Err Absent)
cut (mapping ms) token = present (option_map mapping (cut_member ms token))

-- ---- paths: what each step does, or the refusal of the first one that leads nowhere

-- the fault of a step, with its number
abbrev pub refusal : Miss → ℕ → PathFault
refusal Absent step = NoSuchPlace step
refusal NoIndex step = NotIndex step

-- what comes after a step, or the step's fault
abbrev pub at_step : ℕ → Result Tree Miss → (Tree → Result Tree PathFault) → Result Tree PathFault
at_step step (Ok t) next = next t
at_step step (Err miss) next = Err (refusal miss step)

-- what comes after a tree, or its fault
abbrev pub and_then : Result Tree PathFault → (Tree → Result Tree PathFault) → Result Tree PathFault
and_then (Ok t) next = next t
and_then (Err fault) next = Err fault

-- the value at the end of a path, where its first step has this number
abbrev pub at_from : ℕ → Tree → List (List ℕ) → Result Tree PathFault
at_from step t [] = Ok t
at_from step t (token ∷ tokens) = at_step step (child t token) (λ u. at_from (suc step) u tokens)

-- the tree with the last step's edit made in the value that the steps before it lead to
abbrev pub edit_from : (Tree → List ℕ → Result Tree Miss) → ℕ → Tree → List ℕ → List (List ℕ) → Result Tree PathFault
edit_from edit step t token [] = at_step step (edit t token) Ok
edit_from edit step t token (next ∷ tokens) =
    at_step step (child t token)
    (λ u. and_then (edit_from edit (suc step) u next tokens) (λ v. at_step step (put t token v) Ok))

-- the value at the path
abbrev pub at : Tree → List (List ℕ) → Result Tree PathFault
at t path = at_from 1 t path

-- the tree with v at the path; the empty path means the whole
abbrev pub set : Tree → List (List ℕ) → Tree → Result Tree PathFault
set t [] v = Ok v
set t (token ∷ tokens) v = edit_from (λ u last. put u last v) 1 t token tokens

-- The tree without the value at the path. The empty path leaves the tree as it is; no caller has one.
abbrev pub delete : Tree → List (List ℕ) → Result Tree PathFault
delete t [] = Ok t
delete t (token ∷ tokens) = edit_from cut 1 t token tokens

-- ---- where the last key of a path is, so that an edit need not search for it

-- the place, from 0, of the first member with a key
abbrev pub place_of : Members → List ℕ → Option ℕ
place_of no_member key = None
place_of (member other t ms) key = if same_text key other then Some 0 else option_map suc (place_of ms key)

-- the place of a key in a mapping; none if it is missing, or the tree is no mapping
abbrev pub key_in : Tree → List ℕ → Option ℕ
key_in (text value) key = None
key_in (sequence ts) key = None
key_in (mapping ms) key = place_of ms key

-- what holds of the value to which a step leads
abbrev pub in_child : Result Tree Miss → (Tree → Option ℕ) → Option ℕ
in_child (Ok t) next = next t
in_child (Err miss) next = None

-- the same by a token and those after it
abbrev pub last_key_from : Tree → List ℕ → List (List ℕ) → Option ℕ
last_key_from t token [] = key_in t token
last_key_from t token (next ∷ tokens) = in_child (child t token) (λ u. last_key_from u next tokens)

-- the place of a path's last key in the mapping to which the steps before it lead
abbrev pub last_key : Tree → List (List ℕ) → Option ℕ
last_key t [] = None
last_key t (token ∷ tokens) = last_key_from t token tokens
