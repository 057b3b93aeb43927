-- Commands that change other configurations leave what is under a name.
use Rattle.std.proofs.Common.{◌≡◌, ◌≢◌, ℕ, Bool, true, false, if◌then◌else◌, List, [], ◌∷◌, Option, Ok, Err, refl, sym, ap, ◌∙◌, subst, suc}
use Rattle.std.proofs.Common.{take, zero}
use Rattle.{conf_session.specs.Answers.value_at_path, conf_state.proofs.DraftLemmas.{named-cut-other, named-put-other}}
use Rattle.conf_state.{proofs.{Prelude.same_text-true, RunLaws.and_then-Ok}, specs.Commands.{Command, Edit, batch, delete_at, import_as}}
use Rattle.conf_state.specs.{Commands.{name_of, noted, set_at, single}, Names.good_name, States.{Contents, Entry, config_named, cut_config}}
use Rattle.conf_state.specs.{States.put_config, Steps.{after, all_edited, and_then, by_path, checked_tree, configs_after}}
use Rattle.conf_state.specs.Steps.{configs_after_delete, edited, found, next_state, performed, step, with_checked_config}
use Rattle.conf_state.specs.declared.{fault.StoreFault.TheVariants.{BadName, EmptyBatch}, room.Room.TheVariants.Enough}
use Rattle.conf_runs.{specs.Others.{AllSpare, AreElsewhere, Spares}, proofs.StateLemmas.{both-Ok, next-configs}}
use Rattle.{json_pointer.specs.Pointers.path_of, tree_path.specs.Paths.{at, delete, set}, yaml_grammar.specs.{Texts.same_text, Trees.Tree}}

-- the configurations have the same tree under a name, or both none
abbrev Same : List ℕ → List Entry → List Entry → Type 0
Same name old new = config_named new name ≡ config_named old name

differ : (name other : List ℕ) → other ≢ name → same_text name other ≡ false
differ name other apart = by (same_text name other) refl
  where
    by : (b : Bool) → same_text name other ≡ b → same_text name other ≡ false
    by true same = absurd (apart (sym (same_text-true name other same)))
    by false same = same

put-same : (configs made : List Entry) (name other : List ℕ) (t : Tree) → other ≢ name
    → with_checked_config configs other t ≡ Ok made → Same name configs made
put-same configs made name other t apart is =
    let done = and_then-Ok (checked_tree t) (λ u. Ok (put_config configs other u)) made is in
    let made = both-Ok (Ok (put_config configs other done.0)) (put_config configs other done.0) made refl done.2 in
    subst (λ (c : List Entry). Same name configs c) made (named-put-other configs name other done.0 (differ name other apart))

delete-same : (configs made : List Entry) (name other : List ℕ) (t : Tree) (steps : List (List ℕ)) → other ≢ name
    → configs_after_delete configs other t steps ≡ Ok made → Same name configs made
delete-same configs made name other t [] apart is =
    let made = both-Ok (Ok (cut_config configs other)) (cut_config configs other) made refl is in
    subst (λ (c : List Entry). Same name configs c) made (named-cut-other configs name other (differ name other apart))
delete-same configs made name other t (step ∷ steps) apart is =
    let done = and_then-Ok (by_path (delete t (step ∷ steps))) (with_checked_config configs other) made is in
    put-same configs made name other done.0 apart done.2

made-same : (configs made : List Entry) (name : List ℕ) (edit : Edit) → name_of edit ≢ name
    → configs_after configs edit ≡ Ok made → Same name configs made
made-same configs made name (import_as other tree) apart is = put-same configs made name other tree apart is
made-same configs made name (set_at other path value) apart is =
    let first = and_then-Ok (found (config_named configs other))
    (λ t. and_then (by_path (path_of path)) (λ tokens. and_then (by_path (set t tokens value)) (with_checked_config configs other)))
    made is in
    let second = and_then-Ok (by_path (path_of path))
    (λ tokens. and_then (by_path (set first.0 tokens value)) (with_checked_config configs other)) made first.2 in
    let third = and_then-Ok (by_path (set first.0 second.0 value)) (with_checked_config configs other) made second.2 in
    put-same configs made name other third.0 apart third.2
made-same configs made name (delete_at other path) apart is =
    let first = and_then-Ok (found (config_named configs other))
    (λ t. and_then (by_path (path_of path)) (configs_after_delete configs other t)) made is in
    let second = and_then-Ok (by_path (path_of path)) (configs_after_delete configs other first.0) made first.2 in
    delete-same configs made name other first.0 second.0 apart second.2

edited-same : (configs made : List Entry) (name : List ℕ) (edit : Edit) → name_of edit ≢ name → edited configs edit ≡ Ok made
    → Same name configs made
edited-same configs made name edit apart is = by (good_name (name_of edit)) is
  where
    by : (good : Bool) → (if good then configs_after configs edit else Err BadName) ≡ Ok made → Same name configs made
    by true done = made-same configs made name edit apart done
    by false done = let refused : Err BadName ≡ Ok made = done in cc

all-same : (edits : List Edit) (configs made : List Entry) (name : List ℕ) → AreElsewhere name edits
    → all_edited configs edits ≡ Ok made → Same name configs made
all-same [] configs made name spares is =
    let same = both-Ok (Ok configs) configs made refl is in subst (λ (c : List Entry). Same name configs c) same refl
all-same (edit ∷ edits) configs made name (apart, spares) is =
    let done = and_then-Ok (edited configs edit) (λ next. all_edited next edits) made is in
    all-same edits done.0 made name spares done.2 ∙ edited-same configs done.0 name edit apart done.1

performed-same : (command : Command) (configs made : List Entry) (name : List ℕ) → Spares name command
    → performed configs command ≡ Ok made → Same name configs made
performed-same (single edit) configs made name (apart, none) is = edited-same configs made name edit apart is
performed-same (batch []) configs made name spares is = let refused : Err EmptyBatch ≡ Ok made = is in cc
performed-same (batch (edit ∷ edits)) configs made name spares is = all-same (edit ∷ edits) configs made name spares is
performed-same (noted command about) configs made name spares is = performed-same command configs made name spares is

step-same : (from to : Contents) (command : Command) (name : List ℕ) → Spares name command → step from command Enough ≡ Ok to
    → Same name from.configs to.configs
step-same from to command name spares is =
    let done = and_then-Ok (performed from.configs command) (next_state from Enough) to is in
    subst (λ (c : List Entry). Same name from.configs c) (sym (next-configs from to Enough done.0 done.2))
    (performed-same command from.configs done.0 name spares done.1)

after-same : (commands : List Command) (from to : Contents) (name : List ℕ) → AllSpare name commands → after from commands ≡ Ok to
    → Same name from.configs to.configs
after-same [] from to name spares is =
    let same : from ≡ to = cc in subst (λ (t : Contents). Same name from.configs t.configs) same refl
after-same (command ∷ commands) from to name (first, others) is =
    let done = and_then-Ok (step from command Enough) (λ t. after t commands) to is in
    after-same commands done.0 to name others done.2 ∙ step-same from done.0 command name first done.1

-- what is at a place of a configuration stays, where all commands are of others
pub value-stays : (commands : List Command) (from to : Contents) (name pointer : List ℕ) → AllSpare name commands
    → after from commands ≡ Ok to → value_at_path to name pointer ≡ value_at_path from name pointer
value-stays commands from to name pointer spares is =
    ap (λ (o : Option Tree). and_then (if good_name name then found o else Err BadName)
    (λ t. and_then (by_path (path_of pointer)) (λ tokens. by_path (at t tokens))))
    (after-same commands from to name spares is)

-- the first of them are of others too
pub first-spare : (count : ℕ) (commands : List Command) (name : List ℕ) → AllSpare name commands → AllSpare name (take count commands)
first-spare zero commands name spares = tt
first-spare (suc count) [] name spares = tt
first-spare (suc count) (command ∷ commands) name (first, others) = (first, first-spare count commands name others)
