-- Bytes along a path: a tree holds, beside the value that a path leads to, as many bytes as the path's tokens have.
use Rattle.std.proofs.Common.{◌≡◌, ℕ, zero, suc, ◌+◌, ◌-◌, ◌*◌, ◌<◌, ◌≤◌, Bool, true, false, ◌==◌, if◌then◌else◌, List, [], ◌∷◌, length}
use Rattle.std.proofs.Common.{codes, Some, option_map, Ok, Err, refl, ap, ◌∙◌, arith}
use Rattle.conf_record.proofs.Prelude.{byte_len-encoded, encodes-IsAscii, every-IsAscii, and_parts, nat_tests, len_utf8, list_all, byte_len}
use Rattle.conf_record.proofs.Prelude.{is_empty, same_text, Tree, text, sequence, mapping, Elements, no_element, element, Members}
use Rattle.conf_record.proofs.Prelude.{no_member, member, elements_after, lines_after_dash, members_after, key_lines, value_at}
use Rattle.conf_record.proofs.Prelude.{same_text-true, digit, is_number, number_after, Index, number, after_last, no_index, index_of}
use Rattle.conf_record.proofs.Prelude.{at_index, present, put_element, cut_element, push_element, value_of, put_member, cut_member, child}
use Rattle.conf_record.proofs.{Prelude.{put, cut, edit_from, set, delete}, SizeLemmas.{size, key_line_least, element_least, value_size}}
use Rattle.tree_path.{specs.{Paths.element_at as child_at, declared.place.Miss.TheVariants.Absent}, proofs.EditLaws.at_step-Ok}
use Rattle.tree_path.proofs.{EditLaws.{and_then-Ok, same_Ok}, StepLaws.{option_map-Some, present-Ok, element_at-put_element}}
use Rattle.{tree_path.proofs.StepLaws.value_of-put_member, yaml_writer.proofs.SizeLaws.three}

-- ---- an index has at most one digit more than there are elements before its own

at_least : (cs : List ℕ) (n : ℕ) → 0 < n → n + length cs ≤ number_after n cs
at_least [] n some = omega arith
at_least (c ∷ cs) n some =
    let rest = at_least cs (10 * n + (c - 48)) (omega arith) in
    omega (arith, rest)

digit_small : (c : ℕ) → digit c ≡ true → c < 128
digit_small c e = grind (arith, nat_tests)

digits_bytes : (cs : List ℕ) → list_all digit cs ≡ true → byte_len cs ≡ length cs
digits_bytes cs all = byte_len-encoded cs ∙ ap length (encodes-IsAscii cs (every-IsAscii digit digit_small cs all))

digit_some : (c : ℕ) → digit c ≡ true → (c == 48) ≡ false → 0 < c - 48
digit_some c is other = grind (arith, nat_tests)

zero_byte : (c : ℕ) → (c == 48) ≡ true → len_utf8 c ≡ 1
zero_byte c e = grind (arith, nat_tests)

number_bytes : (cs : List ℕ) → is_number cs ≡ true → byte_len cs ≤ 1 + number_after 0 cs
number_bytes [] e = cc
number_bytes (c ∷ cs) e = by (c == 48) refl e
  where
    by : (b : Bool) → (c == 48) ≡ b → (if b then is_empty cs else list_all digit (c ∷ cs)) ≡ true
        → byte_len (c ∷ cs) ≤ 1 + number_after 0 (c ∷ cs)
    by true is none = alone cs none
      where
        alone : (ds : List ℕ) → is_empty ds ≡ true → byte_len (c ∷ ds) ≤ 1 + number_after 0 (c ∷ ds)
        alone [] empty = omega (arith, zero_byte c is)
        alone (d ∷ ds) empty = cc
    by false is all =
        let parts = and_parts (digit c) (list_all digit cs) all in
        let some = digit_some c parts.0 is in
        let rest = at_least cs (c - 48) some in
        let same : 10 * 0 + (c - 48) ≡ c - 48 = omega arith in
        let whole = ap (λ n. number_after n cs) same in
        omega (arith, digits_bytes (c ∷ cs) all, rest, whole)

-- what a token says where it is an index
index_bytes : (token : List ℕ) (n : ℕ) → index_of token ≡ number n → byte_len token ≤ 1 + n
index_bytes token n is = by (same_text token (codes "-")) (is_number token) refl is
  where
    by : (dash numeral : Bool) → is_number token ≡ numeral
        → (if dash then after_last else (if numeral then number (number_after 0 token) else no_index)) ≡ number n → byte_len token ≤ 1 + n
    by true numeral e same = cc
    by false true e same =
        let value : number_after 0 token ≡ n = cc in
        omega (arith, number_bytes token e, value)
    by false false e same = cc

dash_bytes : (token : List ℕ) → index_of token ≡ after_last → byte_len token ≡ 1
dash_bytes token is = by (same_text token (codes "-")) refl (is_number token) is
  where
    by : (dash : Bool) → same_text token (codes "-") ≡ dash → (numeral : Bool)
        → (if dash then after_last else (if numeral then number (number_after 0 token) else no_index)) ≡ after_last → byte_len token ≡ 1
    by true e numeral same = ap byte_len (same_text-true token (codes "-") e)
    by false e true same = cc
    by false e false same = cc

-- ---- one step

element_inside : (ts : Elements) (n : ℕ) (u : Tree) → child_at ts n ≡ Some u → 2 + n + size u ≤ byte_len (elements_after ts 0)
element_inside no_element n u is = cc
element_inside (element t ts) zero u is =
    let same : t ≡ u = cc in
    omega (arith, ap size same, element_least t, three (codes "- ") (lines_after_dash t 0) (elements_after ts 0))
element_inside (element t ts) (suc n) u is =
    omega (arith, element_inside ts n u is, three (codes "- ") (lines_after_dash t 0) (elements_after ts 0))

pushed_inside : (ts : Elements) (u : Tree) → 2 + size u ≤ byte_len (elements_after (push_element ts u) 0)
pushed_inside no_element u = omega (arith, element_least u, three (codes "- ") (lines_after_dash u 0) [])
pushed_inside (element t ts) u =
    omega (arith, pushed_inside ts u, three (codes "- ") (lines_after_dash t 0) (elements_after (push_element ts u) 0))

member_inside : (ms : Members) (key : List ℕ) (u : Tree) → value_of ms key ≡ Some u
    → 1 + byte_len key + size u ≤ byte_len (members_after ms 0)
member_inside no_member key u is = cc
member_inside (member other t ms) key u is = by (same_text key other) refl is (member_inside ms key u)
  where
    by : (b : Bool) → same_text key other ≡ b → (if b then Some t else value_of ms key) ≡ Some u
        → (value_of ms key ≡ Some u → 1 + byte_len key + size u ≤ byte_len (members_after ms 0))
        → 1 + byte_len key + size u ≤ byte_len (members_after (member other t ms) 0)
    by true same found after =
        let e : t ≡ u = cc in
        let named = ap byte_len (same_text-true key other same) in
        let lines = three (key_lines 0 other) (value_at t 0) (members_after ms 0) in
        omega (arith, ap size e, named, key_line_least other, (value_size t).least, lines)
    by false same found after = omega (arith, after found, three (key_lines 0 other) (value_at t 0) (members_after ms 0))

elements_hold : (ts : Elements) → byte_len (elements_after ts 0) ≤ size (sequence ts)
elements_hold no_element = omega arith
elements_hold (element t ts) = omega arith

members_hold : (ms : Members) → byte_len (members_after ms 0) ≤ size (mapping ms)
members_hold no_member = omega arith
members_hold (member key t ms) = omega arith

number_holds : (ts : Elements) (token : List ℕ) (n : ℕ) (u : Tree) → index_of token ≡ number n → child_at ts n ≡ Some u
    → 1 + byte_len token + size u ≤ size (sequence ts)
number_holds ts token n u is found = omega (arith, index_bytes token n is, element_inside ts n u found, elements_hold ts)

-- a child and its token are a part of the tree
pub child_inside : (t : Tree) (token : List ℕ) (u : Tree) → child t token ≡ Ok u → 1 + byte_len token + size u ≤ size t
unfolding child
child_inside (text value) token u is = cc
child_inside (sequence ts) token u is = by (index_of token) refl is
  where
    by : (index : Index) → index_of token ≡ index → at_index index (child_at ts) (Err Absent) ≡ Ok u
        → 1 + byte_len token + size u ≤ size (sequence ts)
    by (number n) e found = number_holds ts token n u e (present-Ok (child_at ts n) u found)
    by after_last e found = cc
    by no_index e found = cc
child_inside (mapping ms) token u is = omega (arith, member_inside ms token u (present-Ok (value_of ms token) u is), members_hold ms)

-- after a put the value and its token are a part of the tree
pub put_inside : (t : Tree) (token : List ℕ) (v r : Tree) → put t token v ≡ Ok r → 1 + byte_len token + size v ≤ size r
unfolding put
put_inside (text value) token v r is = cc
put_inside (sequence ts) token v r is = by (index_of token) refl is
  where
    by : (index : Index) → index_of token ≡ index
        → at_index index (λ n. option_map sequence (put_element ts n v)) (Ok (sequence (push_element ts v))) ≡ Ok r
        → 1 + byte_len token + size v ≤ size r
    by (number n) e done =
        let o = option_map-Some sequence (put_element ts n v) r (present-Ok (option_map sequence (put_element ts n v)) r done) in
        omega (arith, ap size o.2, number_holds o.0 token n v e (element_at-put_element ts o.0 n v o.1))
    by after_last e done =
        let same : sequence (push_element ts v) ≡ r = cc in
        omega (arith, ap size same, dash_bytes token e, pushed_inside ts v, elements_hold (push_element ts v))
    by no_index e done = cc
put_inside (mapping ms) token v r is =
    let same : mapping (put_member ms token v) ≡ r = cc in
    let inside = member_inside (put_member ms token v) token v (value_of-put_member ms token v) in
    omega (arith, ap size same, inside, members_hold (put_member ms token v))

-- what is cut out is there
element-cut : (ts us : Elements) (n : ℕ) → cut_element ts n ≡ Some us → (u : Tree) × (child_at ts n ≡ Some u)
element-cut no_element us n is = cc
element-cut (element t ts) us zero is = (t, refl)
element-cut (element t ts) us (suc n) is =
    let o = option_map-Some (element t) (cut_element ts n) us is in
    element-cut ts o.0 n o.1

member-cut : (ms ns : Members) (key : List ℕ) → cut_member ms key ≡ Some ns → (u : Tree) × (value_of ms key ≡ Some u)
member-cut no_member ns key is = cc
member-cut (member other t ms) ns key is = by (same_text key other) is (λ ns. member-cut ms ns key)
  where
    by : (b : Bool) → (if b then Some ms else option_map (member other t) (cut_member ms key)) ≡ Some ns
        → ((rest : Members) → cut_member ms key ≡ Some rest → (u : Tree) × (value_of ms key ≡ Some u))
        → (u : Tree) × ((if b then Some t else value_of ms key) ≡ Some u)
    by true done rest = (t, refl)
    by false done rest = let o = option_map-Some (member other t) (cut_member ms key) ns done in rest o.0 o.1

child-cut : (t : Tree) (token : List ℕ) (r : Tree) → cut t token ≡ Ok r → (u : Tree) × (child t token ≡ Ok u)
unfolding cut child
child-cut (text value) token r is = cc
child-cut (sequence ts) token r is = by (index_of token) is
  where
    by : (index : Index) → at_index index (λ n. option_map sequence (cut_element ts n)) (Err Absent) ≡ Ok r
        → (u : Tree) × (at_index index (child_at ts) (Err Absent) ≡ Ok u)
    by (number n) done =
        let o = option_map-Some sequence (cut_element ts n) r (present-Ok (option_map sequence (cut_element ts n)) r done) in
        let found = element-cut ts o.0 n o.1 in
        (found.0, ap present found.1)
    by after_last done = cc
    by no_index done = cc
child-cut (mapping ms) token r is =
    let o = option_map-Some mapping (cut_member ms token) r (present-Ok (option_map mapping (cut_member ms token)) r is) in
    let found = member-cut ms o.0 token o.1 in
    (found.0, ap present found.1)

-- a token whose child is cut out is a part of the tree
pub cut_inside : (t : Tree) (token : List ℕ) (r : Tree) → cut t token ≡ Ok r → 1 + byte_len token ≤ size t
cut_inside t token r is =
    let found = child-cut t token r is in
    omega (arith, child_inside t token found.0 found.1)

-- ---- whole paths

-- the bytes of a path's tokens, and one more for each
abbrev pub tokens_size : List (List ℕ) → ℕ
tokens_size [] = 0
tokens_size (token ∷ tokens) = 1 + byte_len token + tokens_size tokens

edited : (step : ℕ) (t : Tree) (token : List ℕ) (tokens : List (List ℕ)) (v r : Tree)
    → edit_from (λ u last. put u last v) step t token tokens ≡ Ok r → tokens_size (token ∷ tokens) + size v ≤ size r
edited step t token [] v r is =
    let done = at_step-Ok step (put t token v) Ok r is in
    omega (arith, put_inside t token v r (same_Ok done.0 r (put t token v) done.1 done.2))
edited step t token (next ∷ tokens) v r is =
    let down = at_step-Ok step (child t token) _ r is in
    let inner = and_then-Ok (edit_from (λ u last. put u last v) (suc step) down.0 next tokens) _ r down.2 in
    let up = at_step-Ok step (put t token inner.0) Ok r inner.2 in
    let here = put_inside t token inner.0 r (same_Ok up.0 r (put t token inner.0) up.1 up.2) in
    omega (arith, here, edited (suc step) down.0 next tokens v inner.0 inner.1)

-- after a set the tree has at least the bytes of the value and of the path's tokens
pub set_holds : (t v r : Tree) (tokens : List (List ℕ)) → set t tokens v ≡ Ok r → tokens_size tokens + size v ≤ size r
set_holds t v r [] is = let same : v ≡ r = cc in omega (arith, ap size same)
set_holds t v r (token ∷ tokens) is = edited 1 t token tokens v r is

cut_out : (step : ℕ) (t : Tree) (token : List ℕ) (tokens : List (List ℕ)) (r : Tree)
    → edit_from cut step t token tokens ≡ Ok r → tokens_size (token ∷ tokens) ≤ size t
cut_out step t token [] r is =
    let done = at_step-Ok step (cut t token) Ok r is in
    omega (arith, cut_inside t token done.0 done.1)
cut_out step t token (next ∷ tokens) r is =
    let down = at_step-Ok step (child t token) _ r is in
    let inner = and_then-Ok (edit_from cut (suc step) down.0 next tokens) _ r down.2 in
    omega (arith, child_inside t token down.0 down.1, cut_out (suc step) down.0 next tokens inner.0 inner.1)

-- a tree with a path to delete has at least the bytes of its tokens
pub delete_holds : (t r : Tree) (tokens : List (List ℕ)) → delete t tokens ≡ Ok r → tokens_size tokens ≤ size t
delete_holds t r [] is = omega arith
delete_holds t r (token ∷ tokens) is = cut_out 1 t token tokens r is
