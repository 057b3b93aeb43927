-- What a piece asks for is answered: no fault of a request is one that ends a session.
use Rattle.std.{proofs.Common.{◌≡◌, ◌≢◌, ⊎_elim, refl, sym, ap, ◌∙◌}, specs.Prelude.{ℕ, suc, ◌+◌, Bool, true, false, nat_le, nat_lt}}
use Rattle.std.specs.Prelude.{if◌then◌else◌, List, [], ◌∷◌, Option, Some, None, Result, Ok, Err, is_some, is_ok}
use Rattle.conf_session.proofs.Prelude.{byte_len, style_text, Tree, depth, ReadFault, path_of, tokens_or_place, bad_place, PathFault, at}
use Rattle.conf_session.proofs.Prelude.{at_from, at_step, child, put, cut, set, delete, edit_from, Miss, config_limits, base_length, Edit}
use Rattle.conf_session.proofs.Prelude.{import_as, set_at, delete_at, Command, single, batch, noted, name_of, good_name, Entry, Contents}
use Rattle.conf_session.proofs.Prelude.{config_named, base_limit, count_limit, step, edited, all_edited, performed, configs_after}
use Rattle.conf_session.proofs.Prelude.{with_room, next_state, and_then, checked_tree, with_checked_config, found, by_path}
use Rattle.conf_session.proofs.Prelude.{configs_after_delete, StoreFault, Room, Enough, LongRecord, Missing, outcome, room_for, tree_named}
use Rattle.conf_session.proofs.Prelude.{RefusesText, Condition, first_fault, ConditionFault, IsTold, told-first}
use Rattle.conf_session.specs.{declared.{fault.SessionFault.SessionFault, words.Refusal.Refusal}, Said.{Part, import_text, plain, Said}}
use Rattle.conf_session.specs.Said.{single_part, batch_of_parts, get_at, export_of, all_names, checkpoint_now, conditional, noted_said}
use Rattle.conf_session.specs.{Said.{large_about, nothing}, Requests.{Request, changing, unread, getting, exporting, naming, checkpointing}}
use Rattle.conf_session.specs.{Requests.{if_met, overlong_about, bad, RefusesPart, MeansRequest, noted_request, Asks}, Answers.Stored}
use Rattle.conf_session.specs.Answers.{longest, answer, answered, path_answered, read_answered, refused_answer, answer_or_refusal}
use Rattle.{conf_session.specs.Answers.{value_at_path, condition_answered, unless_failed}, tree_path.specs.Paths.and_then as then_path}
use Rattle.tree_path.specs.declared.place.Miss.TheVariants.{Absent, NoIndex}
use Rattle.yaml_events.specs.declared.read_fault.ReadFault.TheVariants as read
use Rattle.conf_state.specs.declared.fault.StoreFault.TheVariants as store
use Rattle.conf_conditions.specs.declared.fault.ConditionFault.TheVariants as condition

-- ---- results whose fault is answered

is_answered : {A : Type 0} → Result A StoreFault → Bool
is_answered (Ok x) = true
is_answered (Err why) = is_ok (answered why)

is_path_answered : {A : Type 0} → Result A PathFault → Bool
is_path_answered (Ok x) = true
is_path_answered (Err why) = is_ok (path_answered why)

then-answered : {A B : Type 0} (r : Result A StoreFault) (next : A → Result B StoreFault) → is_answered r ≡ true
    → ((x : A) → is_answered (next x) ≡ true)
    → is_answered (and_then r next) ≡ true
unfolding is_answered
then-answered (Ok x) next is more = more x
then-answered (Err why) next is more = is

if-answered : {A : Type 0} (b : Bool) (r q : Result A StoreFault) → is_answered r ≡ true → is_answered q ≡ true
    → is_answered (if b then r else q) ≡ true
if-answered true r q one other = one
if-answered false r q one other = other

by_path-answered : {A : Type 0} (r : Result A PathFault) → is_path_answered r ≡ true → is_answered (by_path r) ≡ true
unfolding is_answered is_path_answered
by_path-answered (Ok x) is = refl
by_path-answered (Err why) is = is

-- ---- paths

step-answered : (n : ℕ) (r : Result Tree Miss) (next : Tree → Result Tree PathFault)
    → ((u : Tree) → is_path_answered (next u) ≡ true) → is_path_answered (at_step n r next) ≡ true
unfolding is_path_answered
step-answered n (Ok u) next more = more u
step-answered n (Err Absent) next more = refl
step-answered n (Err NoIndex) next more = refl

then_path-answered : (r : Result Tree PathFault) (next : Tree → Result Tree PathFault) → is_path_answered r ≡ true
    → ((u : Tree) → is_path_answered (next u) ≡ true)
    → is_path_answered (then_path r next) ≡ true
unfolding is_path_answered
then_path-answered (Ok u) next is more = more u
then_path-answered (Err why) next is more = is

at-answered : (tokens : List (List ℕ)) (n : ℕ) (t : Tree) → is_path_answered (at_from n t tokens) ≡ true
unfolding is_path_answered
at-answered [] n t = refl
at-answered (token ∷ tokens) n t = step-answered n (child t token) (λ u. at_from (suc n) u tokens) (λ u. at-answered tokens (suc n) u)

edit-answered : (edit : Tree → List ℕ → Result Tree Miss) (tokens : List (List ℕ)) (n : ℕ) (t : Tree) (token : List ℕ)
    → is_path_answered (edit_from edit n t token tokens) ≡ true
unfolding is_path_answered
edit-answered edit [] n t token = step-answered n (edit t token) Ok (λ u. refl)
edit-answered edit (next ∷ tokens) n t token =
    step-answered n (child t token) (λ u. then_path (edit_from edit (suc n) u next tokens) (λ v. at_step n (put t token v) Ok)) (λ u.
    then_path-answered (edit_from edit (suc n) u next tokens) (λ v. at_step n (put t token v) Ok)
    (edit-answered edit tokens (suc n) u next) (λ v.
    step-answered n (put t token v) Ok (λ w. refl)))

set-answered : (t v : Tree) (tokens : List (List ℕ)) → is_path_answered (set t tokens v) ≡ true
unfolding is_path_answered
set-answered t v [] = refl
set-answered t v (token ∷ tokens) = edit-answered (λ u last. put u last v) tokens 1 t token

delete-answered : (t : Tree) (tokens : List (List ℕ)) → is_path_answered (delete t tokens) ≡ true
unfolding is_path_answered
delete-answered t [] = refl
delete-answered t (token ∷ tokens) = edit-answered cut tokens 1 t token

path_of-answered : (p : List ℕ) → is_path_answered (path_of p) ≡ true
unfolding is_path_answered
path_of-answered p = by (bad_place p)
  where
    by : (o : Option ℕ) → is_path_answered (tokens_or_place o p) ≡ true
    by None = refl
    by (Some n) = refl

-- ---- commands

found-answered : (o : Option Tree) → is_answered (found o) ≡ true
unfolding is_answered
found-answered None = refl
found-answered (Some t) = refl

checked_tree-answered : (t : Tree) → is_answered (checked_tree t) ≡ true
unfolding is_answered
checked_tree-answered t =
    let large = nat_lt config_limits.style (byte_len (style_text t)) in
    if-answered {A = Tree} (nat_lt config_limits.depth (depth t)) (Err store.TooDeep) (if large then Err store.ConfigLarge else Ok t) refl
    (if-answered {A = Tree} large (Err store.ConfigLarge) (Ok t) refl refl)

with_checked_config-answered : (configs : List Entry) (name : List ℕ) (t : Tree) → is_answered (with_checked_config configs name t) ≡ true
unfolding is_answered
with_checked_config-answered configs name t = then-answered (checked_tree t) _ (checked_tree-answered t) (λ u. refl)

configs_after_delete-answered : (configs : List Entry) (name : List ℕ) (t : Tree) (tokens : List (List ℕ))
    → is_answered (configs_after_delete configs name t tokens) ≡ true
unfolding is_answered
configs_after_delete-answered configs name t [] = refl
configs_after_delete-answered configs name t (token ∷ tokens) =
    then-answered (by_path (delete t (token ∷ tokens))) (with_checked_config configs name)
    (by_path-answered (delete t (token ∷ tokens)) (delete-answered t (token ∷ tokens))) (with_checked_config-answered configs name)

configs-answered : (configs : List Entry) (edit : Edit) → is_answered (configs_after configs edit) ≡ true
configs-answered configs (import_as name tree) = with_checked_config-answered configs name tree
configs-answered configs (set_at name path value) =
    then-answered (found (config_named configs name)) _ (found-answered (config_named configs name)) (λ t.
    then-answered (by_path (path_of path)) _ (by_path-answered (path_of path) (path_of-answered path)) (λ tokens.
    then-answered (by_path (set t tokens value)) (with_checked_config configs name)
    (by_path-answered (set t tokens value) (set-answered t value tokens))
    (with_checked_config-answered configs name)))
configs-answered configs (delete_at name path) =
    then-answered (found (config_named configs name)) _ (found-answered (config_named configs name)) (λ t.
    then-answered (by_path (path_of path)) (configs_after_delete configs name t) (by_path-answered (path_of path) (path_of-answered path))
    (configs_after_delete-answered configs name t))

edited-answered : (configs : List Entry) (edit : Edit) → is_answered (edited configs edit) ≡ true
unfolding is_answered
edited-answered configs edit = if-answered (good_name (name_of edit)) (configs_after configs edit) (Err store.BadName)
    (configs-answered configs edit) refl

all_edited-answered : (configs : List Entry) (edits : List Edit) → is_answered (all_edited configs edits) ≡ true
unfolding is_answered
all_edited-answered configs [] = refl
all_edited-answered configs (edit ∷ edits) =
    then-answered (edited configs edit) (λ next. all_edited next edits) (edited-answered configs edit)
    (λ next. all_edited-answered next edits)

performed-answered : (configs : List Entry) (command : Command) → is_answered (performed configs command) ≡ true
unfolding is_answered
performed-answered configs (single edit) = edited-answered configs edit
performed-answered configs (batch []) = refl
performed-answered configs (batch (edit ∷ edits)) = all_edited-answered configs (edit ∷ edits)
performed-answered configs (noted command about) = performed-answered configs command

room-answered : {A : Type 0} (room : Room) (r : Result A StoreFault) → is_answered r ≡ true → is_answered (with_room room r) ≡ true
unfolding is_answered
room-answered Enough r is = is
room-answered LongRecord r is = refl
room-answered Missing r is = refl

next_state-answered : (s : Contents) (room : Room) (configs : List Entry) → is_answered (next_state s room configs) ≡ true
unfolding is_answered
next_state-answered s room configs =
    let new : Contents = record { configs = configs; count = s.count + 1 } in
    let last : Result Contents StoreFault = if nat_le count_limit s.count then Err store.CountFull else Ok new in
    if-answered {A = Contents} (nat_lt base_limit (base_length new)) (Err store.StoreFull) (with_room room last) refl
    (room-answered {A = Contents} room last (if-answered {A = Contents} (nat_le count_limit s.count)
    (Err store.CountFull) (Ok new) refl refl))

step-answers : (s : Contents) (command : Command) (room : Room) → is_answered (step s command room) ≡ true
step-answers s command room =
    then-answered (performed s.configs command) (next_state s room) (performed-answered s.configs command) (next_state-answered s room)

-- ---- requests

named-answered : (s : Contents) (name : List ℕ) → is_answered (tree_named s name) ≡ true
unfolding is_answered
named-answered s name = if-answered {A = Tree} (good_name name) (found (config_named s.configs name))
    (Err store.BadName) (found-answered (config_named s.configs name)) refl

value-answered : (s : Contents) (name p : List ℕ) → is_answered (value_at_path s name p) ≡ true
value-answered s name p =
    then-answered (tree_named s name) _ (named-answered s name) (λ t.
    then-answered (by_path (path_of p)) _ (by_path-answered (path_of p) (path_of-answered p))
    (λ tokens. by_path-answered (at t tokens) (at-answered tokens 1 t)))

some-answer : (r : Result Refusal SessionFault) → is_ok r ≡ true → is_some (refused_answer r) ≡ true
some-answer (Ok reason) is = refl
some-answer (Err end) is = cc

result-answer : {A : Type 0} (f : A → Tree) (r : Result A StoreFault) → is_answered r ≡ true → is_some (answer_or_refusal f r) ≡ true
unfolding is_answered
result-answer f (Ok x) is = refl
result-answer f (Err why) is = some-answer (answered why) is

-- a request whose text is refused
unread-answer : (now : Stored) (why : StoreFault) → is_ok (answered why) ≡ true → is_some (answer now (unread why)) ≡ true
unread-answer now why is = some-answer (answered why) is

read-answered : (why : ReadFault) → why ≢ read.OutOfMemory → is_ok (read_answered why) ≡ true
read-answered read.TooLong some = refl
read-answered (read.NotUtf8 place) some = refl
read-answered (read.Syntax line column reason) some = refl
read-answered (read.Documents count) some = refl
read-answered read.KeyNotText some = refl
read-answered read.KeyTwice some = refl
read-answered read.TooDeep some = refl
read-answered read.LargeInStyle some = refl
read-answered read.OutOfMemory some = absurd (some refl)

text-answered : (name source : List ℕ) (why : StoreFault) → why ≢ store.OutOfMemory → RefusesText name source why
    → is_ok (answered why) ≡ true
text-answered name source store.BadName some refuses = refl
text-answered name source (store.Read why) some refuses = read-answered why refuses.1
text-answered name source store.OutOfMemory some refuses = absurd (some refl)
text-answered name source store.EmptyBatch some refuses = refl
text-answered name source store.NoConfig some refuses = refl
text-answered name source (store.Path why) some refuses = absurd refuses
text-answered name source store.TooDeep some refuses = refl
text-answered name source store.ConfigLarge some refuses = refl
text-answered name source store.StoreFull some refuses = refl
text-answered name source store.RecordLong some refuses = refl
text-answered name source store.JournalLong some refuses = refl
text-answered name source store.CountFull some refuses = refl
text-answered name source store.Reopen some refuses = absurd refuses
text-answered name source store.Device some refuses = absurd refuses

part-answered : (part : Part) (why : ReadFault) → RefusesPart part why → is_ok (read_answered why) ≡ true
part-answered (import_text name source) why refuses = read-answered why refuses.0
part-answered (plain edit) why refuses = absurd refuses

change-answer-some : (now : Stored) (command : Command) → is_some (answer now (changing command)) ≡ true
change-answer-some now command =
    let room = room_for (longest now) now.state command in
    result-answer _ (outcome (longest now) now.state command) (step-answers now.state command room)

at-request : (now : Stored) (request asked : Request) → request ≡ asked → is_some (answer now asked) ≡ true
    → is_some (answer now request) ≡ true
at-request now request asked is some = ap (λ r. is_some (answer now r)) is ∙ some

-- a condition that fails is answered, since its path is never refused for memory
pub condition-told : (fault : ConditionFault) → IsTold fault → is_ok (condition_answered fault) ≡ true
unfolding is_path_answered
condition-told condition.Unmet told = refl
condition-told condition.BadName told = refl
condition-told (condition.Path why) told = ap is_path_answered (sym told.1) ∙ path_of-answered told.0
condition-told condition.OutOfMemory told = absurd told

conditional-answer : (now : Stored) (conditions : List Condition) (met : Request) → is_some (answer now met) ≡ true
    → is_some (answer now (if_met conditions met)) ≡ true
conditional-answer now conditions met some = by (first_fault now.state conditions) refl
  where
    by : (failed : Option ConditionFault) → first_fault now.state conditions ≡ failed
        → is_some (unless_failed failed (answer now met) (λ fault. refused_answer (condition_answered fault))) ≡ true
    by None is = some
    by (Some fault) is = some-answer (condition_answered fault) (condition-told fault (told-first now.state conditions fault is))

-- an about makes no difference to whether there is an answer
noted-answer : (now : Stored) (about : Tree) (request : Request) → is_some (answer now request) ≡ true
    → is_some (answer now (noted_request about request)) ≡ true
noted-answer now about (changing command) some = change-answer-some now (noted command about)
noted-answer now about (unread why) some = some
noted-answer now about (getting name p) some = some
noted-answer now about (exporting name) some = some
noted-answer now about naming some = some
noted-answer now about checkpointing some = some
noted-answer now about (if_met conditions request) some = some
noted-answer now about overlong_about some = some
noted-answer now about bad some = some

said-answer : (now : Stored) (said : Said) (request : Request) → MeansRequest said request → is_some (answer now request) ≡ true
said-answer now (single_part (import_text name source)) request means =
    ⊎_elim (λ read. at-request now request (changing read.0) read.2 (change-answer-some now read.0))
    (λ why. at-request now request (unread why.0) why.3 (unread-answer now why.0 (text-answered name _ why.0 why.1 why.2))) means
said-answer now (single_part (plain edit)) request means =
    at-request now request (changing (single edit)) means (change-answer-some now (single edit))
said-answer now (batch_of_parts parts) request means =
    ⊎_elim (λ read. at-request now request (changing (batch read.0)) read.2 (change-answer-some now (batch read.0)))
    (λ why. at-request now request (unread (store.Read why.0)) why.2
    (unread-answer now (store.Read why.0) (part-answered why.1.part why.0 why.1.refuses))) means
said-answer now (get_at name p) request means =
    at-request now request (getting name p) means
    (result-answer _ (value_at_path now.state name p) (value-answered now.state name p))
said-answer now (export_of name) request means =
    at-request now request (exporting name) means (result-answer _ (tree_named now.state name) (named-answered now.state name))
said-answer now all_names request means = at-request now request naming means refl
said-answer now checkpoint_now request means = at-request now request checkpointing means refl
said-answer now (conditional conditions said) request means =
    at-request now request (if_met conditions means.0) means.2
    (conditional-answer now conditions means.0 (said-answer now said means.0 means.1))
said-answer now (noted_said about said) request means =
    at-request now request (noted_request about means.0) means.2
    (noted-answer now about means.0 (said-answer now said means.0 means.1))
said-answer now large_about request means = at-request now request overlong_about means refl
said-answer now nothing request means = at-request now request bad means refl

-- each request that a piece asks for has an answer
pub each-answered : (now : Stored) (piece : List ℕ) (request : Request) → Asks piece request → is_some (answer now request) ≡ true
each-answered now piece request asks = said-answer now asks.0 request asks.2
