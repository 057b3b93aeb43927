-- What events that are taken one after another say of the tree.
use Rattle.std.proofs.Common.{◌≡◌, List, [], ◌∷◌, Option, Some, None, sym, ap, subst, ◌∙◌}
use Rattle.yaml_tree.proofs.Prelude.{ReadFault, TooLong, NotUtf8, Syntax, Documents, KeyNotText, KeyTwice, TooDeep, LargeInStyle}
use Rattle.yaml_tree.proofs.Prelude.{OutOfMemory, event_of, events_of, Event, Tree, shape, shapes, IsTreeOf}
use Rattle.yaml_tree.specs.{Building.HasNone, Building.HasNoTree, Frames.Frame, Frames.whole, Frames.step, Frames.finished_tree}
use Rattle.yaml_tree.proofs.FrameLemmas.{run, run-None, document_run, run_written, finished_whole}
use Rattle.yaml_grammar.specs.Events as grammar

-- ---- an event more

-- the frames so far, over the events that are left, become what no frames become over all events
abbrev pub RunsOn : List Frame → List Event → List Event → Type 0
RunsOn fs left all = run (Some fs) (shapes (events_of left)) ≡ run (Some []) (shapes (events_of all))

-- the next of the events that are left is taken
pub run_on : (before left all : List Event) (x : Event) (fs gs : List Frame) → before ≡ x ∷ left → RunsOn fs before all
    → step fs (shape (event_of x)) ≡ Some gs → RunsOn gs left all
run_on before left all x fs gs split runs e =
    sym (ap (λ o. run o (shapes (events_of left))) e) ∙ sym (ap (λ es. run (Some fs) (shapes (events_of es))) split) ∙ runs

-- no event is left
pub run_ended : (left all : List Event) (fs : List Frame) → left ≡ [] → RunsOn fs left all
    → run (Some []) (shapes (events_of all)) ≡ Some fs
run_ended left all fs end runs = sym runs ∙ ap (λ es. run (Some fs) (shapes (events_of es))) end

-- an event that doesn't fit
run_stopped : (before left all : List Event) (x : Event) (fs : List Frame) → before ≡ x ∷ left → RunsOn fs before all
    → step fs (shape (event_of x)) ≡ None → run (Some []) (shapes (events_of all)) ≡ None
run_stopped before left all x fs split runs none =
    sym runs ∙ ap (λ es. run (Some fs) (shapes (events_of es))) split
    ∙ ap (λ o. run o (shapes (events_of left))) none
    ∙ run-None (shapes (events_of left))

-- ---- a tree, or none

-- the events of a tree build it
pub tree_run : (es : List grammar.Event) (t : Tree) → IsTreeOf es t → run (Some []) (shapes es) ≡ Some (whole t ∷ [])
tree_run es t is = ap (run (Some [])) is ∙ document_run t

-- events that build a tree are its events
pub run_tree : (es : List grammar.Event) (fs : List Frame) (t : Tree) → run (Some []) (shapes es) ≡ Some fs
    → finished_tree fs ≡ Some t → IsTreeOf es t
run_tree es fs t e done = run_written (shapes es) (whole t ∷ []) (e ∙ ap Some (finished_whole fs t done))

-- events that stop the builder are those of no tree
pub none_stopped : (es : List grammar.Event) → run (Some []) (shapes es) ≡ None → (t : Tree) → IsTreeOf es t → ⊥
none_stopped es e t is = let found = tree_run es t is in cc

none_unfinished : (es : List grammar.Event) (fs : List Frame) → run (Some []) (shapes es) ≡ Some fs
    → finished_tree fs ≡ None → (t : Tree) → IsTreeOf es t → ⊥
none_unfinished es fs e none t is =
    let found = tree_run es t is in
    let same : fs ≡ whole t ∷ [] = cc in
    let done : finished_tree (whole t ∷ []) ≡ None = subst (λ gs. finished_tree gs ≡ None) same none in
    cc

no_tree : {A : Type 0} (o : Option A) (es : List grammar.Event) → (o ≡ None → (t : Tree) → IsTreeOf es t → ⊥) → (fault : ReadFault)
    → HasNone o fault → HasNoTree es fault
no_tree o es none KeyNotText h = none h
no_tree o es none OutOfMemory h = tt
no_tree o es none TooLong h = absurd h
no_tree o es none (NotUtf8 at) h = absurd h
no_tree o es none (Syntax line column why) h = absurd h
no_tree o es none (Documents count) h = absurd h
no_tree o es none KeyTwice h = absurd h
no_tree o es none TooDeep h = absurd h
no_tree o es none LargeInStyle h = absurd h

-- where an event has no place, the fault is right: the events are those of no tree
pub stopped_refuses : (before left all : List Event) (x : Event) (fs : List Frame) (fault : ReadFault) → before ≡ x ∷ left
    → RunsOn fs before all → HasNone (step fs (shape (event_of x))) fault → HasNoTree (events_of all) fault
stopped_refuses before left all x fs fault split runs =
    no_tree (step fs (shape (event_of x))) (events_of all)
    (λ none. none_stopped (events_of all) (run_stopped before left all x fs split runs none)) fault

-- where no tree is whole at the end, the fault is right: the events are those of no tree
pub unfinished_refuses : (es : List grammar.Event) (fs : List Frame) (fault : ReadFault) → run (Some []) (shapes es) ≡ Some fs
    → HasNone (finished_tree fs) fault → HasNoTree es fault
unfinished_refuses es fs fault e = no_tree (finished_tree fs) es (none_unfinished es fs e) fault

-- a list of events is that of one tree at most
pub tree_is_one : (es : List grammar.Event) (t u : Tree) → IsTreeOf es t → IsTreeOf es u → t ≡ u
tree_is_one es t u is other =
    let one = tree_run es t is in
    let two = tree_run es u other in
    cc
