-- How many bytes answers have: no more than a base.
use Rattle.std.{proofs.Common.{◌≡◌, refl, ◌∙◌, ap, subst, arith, ◌≤◌, ◌<◌}, specs.Prelude.{ℕ, suc, ◌+◌, ◌==◌, Bool, true, false, ◌&&◌}}
use Rattle.std.specs.Prelude.{nat_le, nat_lt, if◌then◌else◌, List, [], ◌∷◌, ◌++◌, length, codes, decimal, Option, Some, None, Result, Ok}
use Rattle.std.specs.Prelude.{Err}
use Rattle.conf_session.proofs.Prelude.{and_parts, nat_tests, decimal_is_IsNumeral, length-decimal-le, is_in, list_all, Good, byte_len}
use Rattle.conf_session.proofs.Prelude.{spaces, first, same_text, Tree, text, sequence, mapping, no_element, element, no_member, member}
use Rattle.conf_session.proofs.Prelude.{plain_in_style, literal_in_style, literal_mark, literal_lines, feeds_at_end, in_double_quotes}
use Rattle.conf_session.proofs.Prelude.{scalar_lines, key_text, long_key, key_lines, elements_after, value_at, style_text}
use Rattle.conf_session.proofs.Prelude.{framed_text_bytes, framed_text, byte_len-append, config_limits, PathFault, Miss, at, at_from}
use Rattle.conf_session.proofs.Prelude.{at_step, child, path_of, child-within, Command, small_letter, name_char, good_name, Entry, Contents}
use Rattle.conf_session.proofs.Prelude.{names_of, config_named, base_limit, count_limit, AreConfigs, IsState, step, next_state, performed}
use Rattle.conf_session.proofs.Prelude.{with_room, found, by_path, Room, Enough, LongRecord, Missing, base_length, entry_length}
use Rattle.conf_session.proofs.Prelude.{entries_length, StoreFault, count_bytes, base_length-framed, and_then-Ok, step-one, size}
use Rattle.conf_session.proofs.Prelude.{scalar_most, value_size, byte_len-encoded, outcome, room_for, tree_named, first_fault}
use Rattle.conf_session.{proofs.{Prelude.ConditionFault, WordLemmas.refusal-short}, specs.declared.fault.SessionFault.SessionFault}
use Rattle.conf_session.specs.{declared.words.Refusal.Refusal, Requests.{Request, changing, unread, getting, exporting, naming}}
use Rattle.conf_session.specs.{Requests.{checkpointing, if_met, overlong_about, bad}, Answers.{Stored, longest, one, text_elements}}
use Rattle.conf_session.specs.Answers.{answered, refused_answer, answer_or_refusal, value_at_path, change_answer, document_bytes, answer}
use Rattle.conf_session.specs.Answers.{answer_bytes, answer_limit, condition_answered, unless_failed}
use Rattle.tree_path.specs.Paths.{refusal as step_refusal}
use Rattle.conf_state.specs.declared.fault.StoreFault.TheVariants as store
use Rattle.conf_session.specs.declared.words.Refusal.TheVariants as why

-- ---- a document of one key

-- its key, its value, and 8 bytes around them
pub document-length : (key : List ℕ) (v : Tree)
    → length (framed_text_bytes (one key v)) ≡ 8 + byte_len (key_lines 0 key) + byte_len (value_at v 0)
document-length key v =
    let style = key_lines 0 key ++ value_at v 0 ++ [] in
    omega (
      arith,
      byte_len-encoded (framed_text (one key v)),
      byte_len-append style (codes "...\n"),
      byte_len-append (key_lines 0 key ++ value_at v 0) [],
      byte_len-append (key_lines 0 key) (value_at v 0),
    )

-- ---- the value at a path

at-size : (step : ℕ) (t v : Tree) (tokens : List (List ℕ)) → at_from step t tokens ≡ Ok v → size v ≤ size t
at-size step t v [] e = let same : t ≡ v = cc in let bytes = ap size same in omega (arith, bytes)
at-size step t v (token ∷ tokens) e = by (child t token) (λ u. at-size (suc step) u v tokens) refl e
  where
    by : (r : Result Tree Miss) → ((u : Tree) → at_from (suc step) u tokens ≡ Ok v → size v ≤ size u) → child t token ≡ r
        → at_step step r (λ u. at_from (suc step) u tokens) ≡ Ok v → size v ≤ size t
    by (Ok u) rest is e = let deeper = rest u e in let here = (child-within t u token is).0 in omega (arith, deeper, here)
    by (Err miss) rest is e = let never : Err (step_refusal miss step) ≡ Ok v = e in cc

-- a value in a tree is no larger than the tree
pub value-short : (t v : Tree) (tokens : List (List ℕ)) → at t tokens ≡ Ok v → size v ≤ size t
value-short t v tokens e = at-size 1 t v tokens e

named-good : (es : List Entry) (name : List ℕ) (t : Tree) → AreConfigs es → config_named es name ≡ Some t → Good t config_limits
named-good [] name t all is = cc
named-good (e ∷ es) name t all is = by (same_text name e.0) is (named-good es name t all.2)
  where
    by : (b : Bool) → (if b then Some e.1 else config_named es name) ≡ Some t
        → (config_named es name ≡ Some t → Good t config_limits) → Good t config_limits
    by true here rest = let same : e.1 ≡ t = cc in subst (λ u. Good u config_limits) same all.1
    by false there rest = rest there

-- a text as a value
pub text-value-length : (value : List ℕ) → byte_len (value_at (text value) 0) ≡ 1 + byte_len (scalar_lines 2 value)
text-value-length value = omega arith

-- ---- names

name_no_feed : (c : ℕ) → name_char c ≡ true → (10 == c) ≡ false
name_no_feed c e = grind (arith, nat_tests)

names_no_feed : (cs : List ℕ) → list_all name_char cs ≡ true → is_in 10 cs ≡ false
names_no_feed [] all = refl
names_no_feed (c ∷ cs) all =
    let parts = and_parts (name_char c) (list_all name_char cs) all in
    rw (name_no_feed c parts.0) (names_no_feed cs parts.1)

-- a name as an element has the bytes of its key, and a line feed
name-element : (name : List ℕ) → good_name name ≡ true → byte_len (scalar_lines 4 name) ≡ 1 + byte_len (key_text name)
name-element name good = by (plain_in_style name) (literal_in_style name) no_literal
  where
    no_literal : literal_in_style name ≡ false
    no_literal =
        let outer = and_parts (first small_letter name && list_all name_char name) _ good in
        rw (names_no_feed name (and_parts (first small_letter name) (list_all name_char name) outer.0).1) refl

    by : (plain literal : Bool) → literal ≡ false
        → byte_len (if plain then name ++ codes "\n" else if literal
        then literal_mark (feeds_at_end name) ++ codes "\n" ++ literal_lines 4 true name else in_double_quotes name ++ codes "\n")
        ≡ 1 + byte_len (if plain then name else in_double_quotes name)
    by true literal e = omega (arith, byte_len-append name (codes "\n"))
    by false false e = omega (arith, byte_len-append (in_double_quotes name) (codes "\n"))
    by false true e = cc

key-bytes : (key : List ℕ) → 1 + byte_len (key_text key) ≤ byte_len (key_lines 2 key)
key-bytes key = by (long_key key) (key_text key)
  where
    by : (long : Bool) (shown : List ℕ)
        → 1 + byte_len shown ≤ byte_len (if long then codes "? " ++ shown ++ codes "\n" ++ spaces 2 ++ codes ":" else shown ++ codes ":")
    by true shown =
        omega (
          arith,
          byte_len-append (codes "? " ++ shown ++ codes "\n" ++ spaces 2) (codes ":"),
          byte_len-append (codes "? " ++ shown ++ codes "\n") (spaces 2),
          byte_len-append (codes "? " ++ shown) (codes "\n"),
        )
    by false shown = omega (arith, byte_len-append shown (codes ":"))

scalar-bytes : (j : ℕ) (value : List ℕ) → 1 ≤ byte_len (scalar_lines j value)
scalar-bytes j value = by (plain_in_style value) (literal_in_style value)
  where
    by : (plain literal : Bool)
        → 1 ≤ byte_len (if plain then value ++ codes "\n" else if literal
        then literal_mark (feeds_at_end value) ++ codes "\n" ++ literal_lines j true value
        else in_double_quotes value ++ codes "\n")
    by true literal = omega (arith, byte_len-append value (codes "\n"))
    by false true =
        omega (
          arith,
          byte_len-append (literal_mark (feeds_at_end value) ++ codes "\n") (literal_lines j true value),
          byte_len-append (literal_mark (feeds_at_end value)) (codes "\n"),
        )
    by false false = omega (arith, byte_len-append (in_double_quotes value) (codes "\n"))

value-bytes : (t : Tree) → 2 ≤ byte_len (value_at t 2)
value-bytes (text value) = omega (arith, scalar-bytes 4 value)
value-bytes (sequence no_element) = omega arith
value-bytes (sequence (element t ts)) = omega arith
value-bytes (mapping no_member) = omega arith
value-bytes (mapping (member key t ms)) = omega arith

-- a name in a list has no more bytes than its configuration in a base text
name-bytes : (name : List ℕ) (t : Tree) → good_name name ≡ true
    → byte_len (spaces 2 ++ codes "- " ++ scalar_lines 4 name) ≤ entry_length name t
unfolding entry_length
name-bytes name t good =
    omega (
      arith,
      name-element name good,
      key-bytes name,
      value-bytes t,
      byte_len-append (spaces 2 ++ key_lines 2 name) (value_at t 2),
      byte_len-append (spaces 2) (key_lines 2 name),
    )

names-bytes : (es : List Entry) → AreConfigs es → byte_len (elements_after (text_elements (names_of es)) 2) ≤ entries_length es
names-bytes [] all = omega arith
names-bytes (e ∷ es) all =
    omega (
      arith,
      name-bytes e.0 e.1 all.0,
      names-bytes es all.2,
      byte_len-append (spaces 2 ++ codes "- " ++ scalar_lines 4 e.0) (elements_after (text_elements (names_of es)) 2),
    )

-- the list of the names, as a value
pub names-value-length : (es : List Entry) → AreConfigs es
    → byte_len (value_at (sequence (text_elements (names_of es))) 0) ≤ 4 + entries_length es
names-value-length [] all = omega arith
names-value-length (e ∷ es) all = omega (arith, names-bytes (e ∷ es) all)

-- the configurations of a state keep the limit of its base text
pub entries-short : (s : Contents) → IsState s → entries_length s.configs + 42 ≤ base_limit
entries-short s kept =
    let whole = base_length-framed s.count s.configs (let numbered = kept.numbered in omega arith) in
    let short = kept.short in
    grind (arith, nat_tests, whole, short)

-- ---- counts

-- a count as a value has at most 24 bytes
pub count-value-length : (n : ℕ) → n ≤ count_limit → byte_len (value_at (text (decimal n)) 0) ≤ 24
count-value-length n small =
    omega (
      arith,
      count_bytes (decimal n) (decimal_is_IsNumeral n (omega arith)).0.1,
      length-decimal-le 20 n (omega arith) (omega arith) (omega arith),
    )

-- ---- the count after a command

le-false : (a b : ℕ) → nat_le a b ≡ false → b < a
le-false a b e = grind (arith, nat_tests)

next_state-few : (s new : Contents) (room : Room) (configs : List Entry) → next_state s room configs ≡ Ok new → s.count < count_limit
next_state-few s new room configs e =
    le-false count_limit s.count
    (by (nat_lt base_limit (base_length (record { configs = configs; count = s.count + 1 }))) room (nat_le count_limit s.count) e)
  where
    by : (full : Bool) (room : Room) (last : Bool)
        → (if full then Err store.StoreFull else with_room room
        (if last then Err store.CountFull else Ok (record { configs = configs; count = s.count + 1 }))) ≡ Ok new
        → last ≡ false
    by true room last is = cc
    by false LongRecord last is = cc
    by false Missing last is = cc
    by false Enough true is = cc
    by false Enough false is = refl

-- a step is accepted only below the greatest count
pub step-few : (s new : Contents) (command : Command) (room : Room) → step s command room ≡ Ok new → s.count < count_limit
step-few s new command room e = let done = and_then-Ok (performed s.configs command) (next_state s room) new e in
    next_state-few s new room done.0 done.2

-- ---- refusals

-- the answer by a refusal, where there is one, keeps the limit of an answer
pub refused-short : (r : Result Refusal SessionFault) → length (document_bytes (refused_answer r)) ≤ answer_limit
refused-short (Ok reason) = refusal-short reason
refused-short (Err end) = omega arith

-- ---- answers

-- a step of a path that leads on led to a place
pub by_path-Ok : {A : Type 0} (r : Result A PathFault) (x : A) → by_path r ≡ Ok x → r ≡ Ok x
by_path-Ok (Ok y) x is = cc
by_path-Ok (Err fault) x is = let refused : Err (store.Path fault) ≡ Ok x = is in cc

-- a configuration of a state keeps the limits of one
pub tree_named-good : (s : Contents) (name : List ℕ) (t : Tree) → IsState s → tree_named s name ≡ Ok t → Good t config_limits
tree_named-good s name t kept is = by (good_name name) (config_named s.configs name) refl is
  where
    by : (good : Bool) (o : Option Tree) → config_named s.configs name ≡ o
        → (if good then found o else Err store.BadName) ≡ Ok t → Good t config_limits
    by true (Some u) there e = let same : u ≡ t = cc in named-good s.configs name t kept.configs (there ∙ ap Some same)
    by true None there e = cc
    by false o there e = cc

value-size : (s : Contents) (name p : List ℕ) (v : Tree) → IsState s → value_at_path s name p ≡ Ok v → size v ≤ config_limits.style
value-size s name p v kept is =
    let named = and_then-Ok (tree_named s name) _ v is in
    let parsed = and_then-Ok (by_path (path_of p)) _ v named.2 in
    let inner = value-short named.0 v parsed.0 (by_path-Ok (at named.0 parsed.0) v parsed.2) in
    let outer = (tree_named-good s name named.0 kept named.1).long in
    omega (arith, inner, outer)

value-answer-short : (s : Contents) → IsState s → (name p : List ℕ) (r : Result Tree StoreFault) → value_at_path s name p ≡ r
    → length (document_bytes (answer_or_refusal (one (codes "value")) r)) ≤ answer_limit
value-answer-short s kept name p (Ok v) is =
    let bytes = value-size s name p v kept is in
    let most = (value_size v).most in
    omega (arith, document-length (codes "value") v, bytes, most)
value-answer-short s kept name p (Err fault) is = refused-short (answered fault)

text-answer-short : (s : Contents) → IsState s → (name : List ℕ) (r : Result Tree StoreFault) → tree_named s name ≡ r
    → length (document_bytes (answer_or_refusal (λ t. one (codes "text") (text (style_text t))) r)) ≤ answer_limit
text-answer-short s kept name (Ok t) is =
    omega (
      arith,
      document-length (codes "text") (text (style_text t)),
      scalar_most (style_text t),
      text-value-length (style_text t),
      (tree_named-good s name t kept is).long,
    )
text-answer-short s kept name (Err fault) is = refused-short (answered fault)

count-answer-short : (n : ℕ) → n ≤ count_limit → length (framed_text_bytes (one (codes "ok") (text (decimal n)))) ≤ answer_limit
count-answer-short n small = omega (arith, document-length (codes "ok") (text (decimal n)), count-value-length n small)

change-answer-short : (now : Stored) (command : Command) (r : Result Contents StoreFault) → outcome (longest now) now.state command ≡ r
    → length (document_bytes (change_answer r)) ≤ answer_limit
change-answer-short now command (Ok new) is =
    let room = room_for (longest now) now.state command in
    let few = step-few now.state new command room is in
    let counts = step-one now.state new command room is in
    count-answer-short new.count (omega (arith, few, counts))
change-answer-short now command (Err fault) is = refused-short (answered fault)

-- each answer keeps the limit, where the state keeps its limits
pub answer-short : (now : Stored) (request : Request) → IsState now.state → length (answer_bytes now request) ≤ answer_limit
answer-short now (changing command) kept = change-answer-short now command (outcome (longest now) now.state command) refl
answer-short now (unread fault) kept = refused-short (answered fault)
answer-short now (getting name p) kept = value-answer-short now.state kept name p (value_at_path now.state name p) refl
answer-short now (exporting name) kept = text-answer-short now.state kept name (tree_named now.state name) refl
answer-short now naming kept =
    let names = sequence (text_elements (names_of now.state.configs)) in
    omega (arith, document-length (codes "names") names, names-value-length now.state.configs kept.configs, entries-short now.state kept)
answer-short now checkpointing kept = count-answer-short now.state.count kept.numbered
answer-short now (if_met conditions request) kept = by (first_fault now.state conditions) (answer-short now request kept)
  where
    by : (failed : Option ConditionFault) → length (answer_bytes now request) ≤ answer_limit
        → length (document_bytes (unless_failed failed (answer now request)
        (λ fault. refused_answer (condition_answered fault)))) ≤ answer_limit
    by None short = short
    by (Some fault) short = refused-short (condition_answered fault)
answer-short now overlong_about kept = refusal-short why.AboutLarge
answer-short now bad kept = refusal-short why.BadCommand
