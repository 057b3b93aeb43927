-- What the first format's commands make of a state, and today's make the same of it.
use Rattle.std.proofs.Common.{◌≡◌, ℕ, ◌≤◌, ◌+◌, Bool, true, false, nat_lt, nat_le, if◌then◌else◌, List, [], ◌∷◌, Result, Ok, Err, refl, ap}
use Rattle.std.proofs.Common.{subst, ◌∙◌, arith}
use Rattle.conf_store.proofs.Prelude.{nat_tests, byte_len, Tree, depth, style_text, config_limits, good_name, Entry, Contents, config_named}
use Rattle.conf_store.proofs.Prelude.{put_config, base_limit, count_limit, base_length, base_text, Edit, import_as, set_at, delete_at}
use Rattle.conf_store.proofs.Prelude.{Command, single, name_of, AreConfigs, IsState, and_then, found, by_path, checked_tree}
use Rattle.conf_store.proofs.Prelude.{with_checked_config, configs_after_delete, configs_after, edited, next_state, step, after, StoreFault}
use Rattle.conf_store.proofs.Prelude.{BadName, TooDeep, ConfigLarge, StoreFull, CountFull, Enough, and_then-Ok}
use Rattle.{yaml_grammar.specs.Reads.{Limits, Good, Gives}, tree_path.specs.Paths.{set, delete}, json_pointer.specs.Pointers.path_of}
use Rattle.conf_state.proofs.CountLemmas.{lt-false}
use Rattle.conf_store.specs.First as first

pub good-wider : (t : Tree) (less more : Limits) → less.depth ≤ more.depth → less.style ≤ more.style → Good t less → Good t more
good-wider t less more d s g =
    let deep = g.deep in
    let long = g.long in
    record { texts = g.texts; keys = g.keys; deep = omega arith; long = omega arith }

pub gives-wider : (source : List ℕ) (t : Tree) (less more : Limits) → less.bytes ≤ more.bytes
    → less.depth ≤ more.depth → less.style ≤ more.style
    → Gives source less t → Gives source more t
gives-wider source t less more b d s g =
    let short = g.short in
    record { short = omega arith; events = g.events; reads = g.reads; tree = g.tree; good = good-wider t less more d s g.good }

no_less : (a b : ℕ) → nat_lt a b ≡ false → b ≤ a
no_less a b e = grind (arith, nat_tests)

checked-wider : (t u : Tree) → first.checked_tree t ≡ Ok u → checked_tree t ≡ Ok u
checked-wider t u is = by (nat_lt first.config_limits.depth (depth t)) refl
    (nat_lt first.config_limits.style (byte_len (style_text t))) refl is
  where
    by : (d : Bool) → nat_lt first.config_limits.depth (depth t) ≡ d → (l : Bool)
        → nat_lt first.config_limits.style (byte_len (style_text t)) ≡ l
        → (if d then Err TooDeep else if l then Err ConfigLarge else Ok t) ≡ Ok u → checked_tree t ≡ Ok u
    by true deep l long same = cc
    by false deep true long same = cc
    by false deep false long same =
        let few = no_less _ _ deep in
        let short = no_less _ _ long in
        rw (lt-false config_limits.depth (depth t) (omega arith), lt-false config_limits.style (byte_len (style_text t)) (omega arith)) same

-- what follows an accepted call may be exchanged for what accepts at least as much
pub then-wider : {A B : Type 0} (r : Result A StoreFault) (next other : A → Result B StoreFault) (y : B)
    → ((x : A) → next x ≡ Ok y → other x ≡ Ok y) → and_then r next ≡ Ok y → and_then r other ≡ Ok y
then-wider (Ok x) next other y more is = more x is
then-wider (Err fault) next other y more is = is

config-wider : (es : List Entry) (name : List ℕ) (t : Tree) (out : List Entry)
    → first.with_checked_config es name t ≡ Ok out → with_checked_config es name t ≡ Ok out
config-wider es name t out is =
    let done = and_then-Ok (first.checked_tree t) (λ u. Ok (put_config es name u)) out is in
    ap (λ r. and_then r (λ u. Ok (put_config es name u))) (checked-wider t done.0 done.1) ∙ done.2

delete-wider : (es : List Entry) (name : List ℕ) (t : Tree) (tokens : List (List ℕ)) (out : List Entry)
    → first.configs_after_delete es name t tokens ≡ Ok out → configs_after_delete es name t tokens ≡ Ok out
delete-wider es name t [] out is = is
delete-wider es name t (token ∷ tokens) out is =
    then-wider (by_path (delete t (token ∷ tokens))) (first.with_checked_config es name) (with_checked_config es name) out
    (λ u. config-wider es name u out) is

abbrev pub as_edit : first.Command → Edit
as_edit (first.import_as name tree) = import_as name tree
as_edit (first.set_at name path value) = set_at name path value
as_edit (first.delete_at name path) = delete_at name path

edit-accepted : (es : List Entry) (c : first.Command) (out : List Entry) → first.configs_after es c ≡ Ok out
    → configs_after es (as_edit c) ≡ Ok out
edit-accepted es (first.import_as name tree) out is = config-wider es name tree out is
edit-accepted es (first.set_at name path value) out is =
    then-wider (found (config_named es name)) _ _ out
    (λ t. then-wider (by_path (path_of path)) _ _ out
    (λ tokens. then-wider (by_path (set t tokens value)) (first.with_checked_config es name) (with_checked_config es name) out
    (λ u. config-wider es name u out))) is
edit-accepted es (first.delete_at name path) out is =
    then-wider (found (config_named es name)) _ _ out
    (λ t. then-wider (by_path (path_of path)) (first.configs_after_delete es name t) (configs_after_delete es name t) out
    (λ tokens. delete-wider es name t tokens out)) is

same-name : (c : first.Command) → name_of (as_edit c) ≡ first.name_of c
same-name (first.import_as name tree) = refl
same-name (first.set_at name path value) = refl
same-name (first.delete_at name path) = refl

-- both names of the format have 11 bytes
pub same-length : (s : Contents) → first.base_length s ≡ base_length s
unfolding base_length base_text first.base_length
same-length s = refl

next-wider : (s new : Contents) (es : List Entry) → first.next_state s es ≡ Ok new → next_state s Enough es ≡ Ok new
next-wider s new es is =
    subst (λ n. (if nat_lt base_limit n then Err StoreFull else if nat_le count_limit s.count then Err CountFull
    else Ok (record { configs = es; count = s.count + 1 })) ≡ Ok new) (same-length (record { configs = es; count = s.count + 1 })) is

pub step-accepted : (s new : Contents) (c : first.Command) → first.step s c ≡ Ok new → step s (single (as_edit c)) Enough ≡ Ok new
step-accepted s new c is = by (good_name (first.name_of c)) refl is
  where
    by : (b : Bool) → good_name (first.name_of c) ≡ b
        → (if b then and_then (first.configs_after s.configs c) (first.next_state s) else Err BadName) ≡ Ok new
        → step s (single (as_edit c)) Enough ≡ Ok new
    by false named done = cc
    by true named done =
        let named_edit : good_name (name_of (as_edit c)) ≡ true = ap good_name (same-name c) ∙ named in
        let out = and_then-Ok (first.configs_after s.configs c) (first.next_state s) new done in
        let edit : edited s.configs (as_edit c) ≡ Ok out.0 = rw named_edit (edit-accepted s.configs c out.0 out.1) in
        ap (λ r. and_then r (next_state s Enough)) edit ∙ next-wider s new out.0 out.2

abbrev pub as_commands : List first.Command → List Command
as_commands [] = []
as_commands (c ∷ cs) = single (as_edit c) ∷ as_commands cs

pub after-accepted : (s new : Contents) (cs : List first.Command) → first.after s cs ≡ Ok new → after s (as_commands cs) ≡ Ok new
after-accepted s new [] is = is
after-accepted s new (c ∷ cs) is =
    let one = and_then-Ok (first.step s c) (λ next. first.after next cs) new is in
    ap (λ r. and_then r (λ next. after next (as_commands cs))) (step-accepted s one.0 c one.1) ∙ after-accepted one.0 new cs one.2

configs-wider : (es : List Entry) → first.AreConfigs es → AreConfigs es
configs-wider [] all = all
configs-wider (e ∷ es) all = (
  all.0,
  good-wider e.1 first.config_limits config_limits (omega arith)
      (omega arith) all.1,
  configs-wider es all.2,
)

pub state-wider : (s : Contents) → first.IsState s → IsState s
state-wider s kept =
    let short = kept.short in
    record {
      configs = configs-wider s.configs kept.configs;
      distinct = kept.distinct;
      short = omega (arith, same-length s, short);
      numbered = kept.numbered;
    }
