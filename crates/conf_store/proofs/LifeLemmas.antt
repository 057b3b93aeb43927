-- What a life keeps, and what lives keep.
use Rattle.std.{proofs.Common.{◌≡◌, inl, inr, refl, sym, ◌∙◌, ap, subst}, specs.Prelude.{ℕ, zero, suc, true, false, ◌||◌, Bool, List, []}}
use Rattle.std.specs.Prelude.{◌∷◌, ◌++◌, take, if◌then◌else◌, Result, Ok, is_ok}
use Rattle.conf_store.{proofs.Prelude.{AllByRecursion, Command, Contents, after, and_then, after-append, StoreFault}, specs.Lives.Call}
use Rattle.conf_store.specs.Lives.{submitting, performing, renewing, flushing, beginning, slicing, checkpointing, Answer, ok, more, refused}
use Rattle.conf_store.specs.Lives.{device, reopen, crashed, Event, World, opened, world_state, with_submitted, all_flushed, MayRemain}
use Rattle.conf_store.specs.Lives.{Flushes, Succeeds, Continues, MayRemainDuring, MayEndBy, MayEnd, state_or, after_call, flushes_all}
use Rattle.conf_store.specs.Lives.{acknowledges, flushed_by, accepted_one, accepted_in, accepted_by, accepted_commands, Keeps, all_commands}
use Rattle.conf_store.specs.Lives.{LivesHold}

after-joined : (s mid end : Contents) (first second : List Command) → after s first ≡ Ok mid
    → after mid second ≡ Ok end → after s (first ++ second) ≡ Ok end
after-joined s mid end first second one two =
    after-append s first second ∙ ap (λ r. and_then r (λ between. after between second)) one ∙ two

-- commands that wait for a flush, which comes or doesn't
abbrev waiting : List Command → Bool → List (Command × Bool)
waiting [] acknowledged = []
waiting (c ∷ cs) acknowledged = (c, acknowledged) ∷ waiting cs acknowledged

abbrev NoneAcknowledged : List (Command × Bool) → Type 0
NoneAcknowledged given = AllByRecursion (λ (g : Command × Bool). g.1 ≡ false) given

-- what a life keeps that stood at a world: of the commands that wait, and of those that it accepts
record Kept (w : World) (end : Contents) (given : List (Command × Bool)) : Type 0 where
  kept : List Command
  keeps : Keeps given kept
  leads : after w.flushed kept ≡ Ok end

waiting-unacknowledged : (cs : List Command) (further : List (Command × Bool)) → NoneAcknowledged further
    → NoneAcknowledged (waiting cs false ++ further)
waiting-unacknowledged [] further none = none
waiting-unacknowledged (c ∷ cs) further none = (refl, waiting-unacknowledged cs further none)

-- one more that waits
waiting-more : (cs : List Command) (c : Command) (acknowledged : Bool) (further : List (Command × Bool))
    → waiting (cs ++ c ∷ []) acknowledged ++ further ≡ waiting cs acknowledged ++ ((c, acknowledged) ∷ further)
waiting-more [] c acknowledged further = refl
waiting-more (first ∷ cs) c acknowledged further = ap (λ l. (first, acknowledged) ∷ l) (waiting-more cs c acknowledged further)

-- some first ones of those that wait are kept, where none is acknowledged
keeps-some : (k : ℕ) (cs : List Command) (further : List (Command × Bool)) → NoneAcknowledged further
    → Keeps (waiting cs false ++ further) (take k cs)
keeps-some zero cs further none = record { count = 0; are = refl; no_more = waiting-unacknowledged cs further none }
keeps-some (suc k) [] further none = record { count = 0; are = refl; no_more = none }
keeps-some (suc k) (c ∷ cs) further none =
    let rest = keeps-some k cs further none in
    record { count = suc rest.count; are = ap (λ l. c ∷ l) rest.are; no_more = rest.no_more }

-- all that wait are kept, and then others
keeps-all : (cs : List Command) (acknowledged : Bool) (given : List (Command × Bool)) (kept : List Command)
    → Keeps given kept → Keeps (waiting cs acknowledged ++ given) (cs ++ kept)
keeps-all [] acknowledged given kept keeps = keeps
keeps-all (c ∷ cs) acknowledged given kept keeps =
    let rest = keeps-all cs acknowledged given kept keeps in
    record { count = suc rest.count; are = ap (λ l. c ∷ l) rest.are; no_more = rest.no_more }

-- ---- one call

-- a command that is submitted with this outcome is accepted
accepted-one : (w : World) (command : Command) (acknowledged : Bool) (s : Contents)
    → world_state (with_submitted w command) ≡ Ok s → accepted_one w command acknowledged ≡ (command, acknowledged) ∷ []
accepted-one w command acknowledged s e = ap (λ (r : Result Contents StoreFault). if is_ok r then (command, acknowledged) ∷ [] else []) e

none-one : (w : World) (command : Command) → NoneAcknowledged (accepted_one w command false)
none-one w command = by (is_ok (world_state (with_submitted w command)))
  where
    by : (is : Bool) → NoneAcknowledged (if is then (command, false) ∷ [] else [])
    by true = (refl, tt)
    by false = tt

none-in : (w : World) (call : Call) → NoneAcknowledged (accepted_in w call false)
none-in w (submitting command) = none-one w command
none-in w (performing command) = none-one w command
none-in w (renewing command) = none-one w command
none-in w flushing = tt
none-in w beginning = tt
none-in w slicing = tt
none-in w checkpointing = tt

-- between two calls
remains : (w : World) (end : Contents) (further : List (Command × Bool)) → NoneAcknowledged further → MayRemain w end
    → Kept w end (waiting w.since false ++ further)
remains w end further none may = record { kept = take may.0 w.since; keeps = keeps-some may.0 w.since further none; leads = may.1 }

take-none : (k : ℕ) → let none : List Command = [] in take k none ≡ none
take-none zero = refl
take-none (suc k) = refl

-- where all is flushed, nothing else remains
flushed-end : (s end : Contents) (running : Bool) → MayRemain (all_flushed s running) end
    → (let r : Result Contents StoreFault = Ok s in r ≡ Ok end)
flushed-end s end running may = ap (after s) (sym (take-none may.0)) ∙ may.1

nothing-more : (given : List (Command × Bool)) → NoneAcknowledged given → Keeps given []
nothing-more given none = record { count = 0; are = refl; no_more = none }

append-none : (cs : List Command) → cs ++ [] ≡ cs
append-none [] = refl
append-none (c ∷ cs) = ap (λ l. c ∷ l) (append-none cs)

-- all that waits remains
remains-all : (w : World) (end : Contents) (further : List (Command × Bool)) → NoneAcknowledged further
    → world_state w ≡ Ok end → Kept w end (waiting w.since false ++ further)
remains-all w end further none leads = record {
  kept = w.since ++ [];
  keeps = keeps-all w.since false further [] (nothing-more further none);
  leads = ap (after w.flushed) (append-none w.since) ∙ leads;
}

-- what waits, and a command that is accepted
with-accepted : (w : World) (end : Contents) (command : Command) (acknowledged : Bool) (s : Contents)
    (further : List (Command × Bool)) → world_state (with_submitted w command) ≡ Ok s
    → Kept w end (waiting (w.since ++ command ∷ []) acknowledged ++ further)
    → Kept w end (waiting w.since acknowledged ++ (accepted_one w command acknowledged ++ further))
with-accepted w end command acknowledged s further e kept =
    let given : waiting w.since acknowledged ++ (accepted_one w command acknowledged ++ further)
    ≡ waiting w.since acknowledged ++ ((command, acknowledged) ∷ further) =
    ap (λ (l : List (Command × Bool)). waiting w.since acknowledged ++ (l ++ further)) (accepted-one w command acknowledged s e) in
    subst (Kept w end) (waiting-more w.since command acknowledged further ∙ sym given) kept

list-none : (given : List (Command × Bool)) → given ++ [] ≡ given
list-none [] = refl
list-none (g ∷ gs) = ap (λ l. g ∷ l) (list-none gs)

-- a command that was submitted, and what is left of all that waits then
one-submitted : (w next : World) (end : Contents) (command : Command) (s : Contents)
    → world_state (with_submitted w command) ≡ Ok s → Kept w end (waiting (w.since ++ command ∷ []) false ++ [])
    → Kept w end (waiting w.since false ++ accepted_one w command false)
one-submitted w next end command s e kept =
    subst (λ (l : List (Command × Bool)). Kept w end (waiting w.since false ++ l))
    (list-none (accepted_one w command false)) (with-accepted w end command false s [] e kept)

-- the state after a flush
flushed-leads : (w next : World) (end : Contents) (running : Bool) → Flushes w running next → MayRemain next end → world_state w ≡ Ok end
flushed-leads w next end running flushes may = flushes.1 ∙ flushed-end flushes.0 end running (subst (λ n. MayRemain n end) flushes.2 may)

-- a call that did not return Ok: what it submits is kept, or it isn't
remains-in : (w : World) (end : Contents) (call : Call) → MayRemainDuring w call end
    → Kept w end (waiting w.since false ++ accepted_in w call false)
remains-in w end call (inl may) = remains w end (accepted_in w call false) (none-in w call) may
remains-in w end (submitting command) (inr next) =
    let done = next.1 in
    one-submitted w next.0 end command done.0 done.1
    (let kept = remains (with_submitted w command) end [] tt (subst (λ n. MayRemain n end) done.2 next.2) in
    record { kept = kept.kept; keeps = kept.keeps; leads = kept.leads })
remains-in w end (performing command) (inr next) =
    let flushes = next.1 in
    one-submitted w next.0 end command flushes.0 flushes.1
    (let kept = remains-all (with_submitted w command) end [] tt
    (flushed-leads (with_submitted w command) next.0 end w.running flushes next.2) in
    record { kept = kept.kept; keeps = kept.keeps; leads = kept.leads })
remains-in w end (renewing command) (inr next) =
    let flushes = next.1 in
    one-submitted w next.0 end command flushes.0 flushes.1
    (let kept = remains-all (with_submitted w command) end [] tt
    (flushed-leads (with_submitted w command) next.0 end false flushes next.2) in
    record { kept = kept.kept; keeps = kept.keeps; leads = kept.leads })
remains-in w end flushing (inr next) = remains-all w end [] tt (flushed-leads w next.0 end w.running next.1 next.2)
remains-in w end checkpointing (inr next) = remains-all w end [] tt (flushed-leads w next.0 end false next.1 next.2)
remains-in w end slicing (inr next) = remains-all w end [] tt (flushed-leads w next.0 end false next.1.1 next.2)
remains-in w end beginning (inr next) =
    let kept = remains (record { flushed = w.flushed; since = w.since; running = true }) end [] tt
    (subst (λ n. MayRemain n end) next.1.1 next.2) in
    record { kept = kept.kept; keeps = kept.keeps; leads = kept.leads }

-- ---- a call that returned Ok

-- all that waited is flushed, and others are kept
flushed-first : (w : World) (end : Contents) (running acknowledged : Bool) (s : Contents)
    (later : World → List (Command × Bool)) → world_state w ≡ Ok s
    → Kept (all_flushed s running) end (later (all_flushed s running))
    → Kept w end (waiting w.since acknowledged ++ later (all_flushed s running))
flushed-first w end running acknowledged s later leads kept = record {
  kept = w.since ++ kept.kept;
  keeps = keeps-all w.since acknowledged (later (all_flushed s running)) kept.kept kept.keeps;
  leads = after-joined w.flushed s end w.since kept.kept leads kept.leads;
}

-- the same of a call that flushes
after-flush : (w next : World) (end : Contents) (running acknowledged flag : Bool)
    (later : World → List (Command × Bool)) → Flushes w running next → Kept next end (waiting next.since flag ++ later next)
    → Kept w end (waiting w.since acknowledged ++ later (all_flushed (state_or (world_state w) w.flushed) running))
after-flush w next end running acknowledged flag later flushes kept =
    let goes : all_flushed flushes.0 running ≡ all_flushed (state_or (world_state w) w.flushed) running =
    ap (λ (r : Result Contents StoreFault). all_flushed (state_or r w.flushed) running) (sym flushes.1) in
    subst (λ n. Kept w end (waiting w.since acknowledged ++ later n)) goes
    (flushed-first w end running acknowledged flushes.0 later flushes.1
    (subst (λ (n : World). Kept n end (waiting n.since flag ++ later n)) flushes.2 kept))

-- what is kept of a world is kept of each that has the same flushed state
same-flushed : (w next : World) (end : Contents) (given : List (Command × Bool)) → next.flushed ≡ w.flushed
    → Kept next end given → Kept w end given
same-flushed w next end given same kept = record {
  kept = kept.kept;
  keeps = kept.keeps;
  leads = subst (λ (s : Contents). after s kept.kept ≡ Ok end) same kept.leads;
}

-- what is kept after a call that returned Ok, where `flag` says whether a later one flushes
after-ok : (w next : World) (end : Contents) (call : Call) (flag : Bool) (later : World → List (Command × Bool))
    → Succeeds w call next → Kept next end (waiting next.since flag ++ later next)
    → Kept w end (waiting w.since (flushes_all call || flag)
    ++ (accepted_in w call (flushes_all call || flag) ++ later (after_call w call)))
after-ok w next end (submitting command) flag later done kept =
    let here = subst (λ (n : World). Kept n end (waiting n.since flag ++ later n)) done.2 kept in
    with-accepted w end command flag done.0 (later (with_submitted w command)) done.1
    (same-flushed w (with_submitted w command) end _ refl here)
after-ok w next end (performing command) flag later done kept =
    with-accepted w end command true done.0 _ done.1
    (same-flushed w (with_submitted w command) end _ refl
    (after-flush (with_submitted w command) next end w.running true flag later done kept))
after-ok w next end (renewing command) flag later done kept =
    with-accepted w end command true done.0 _ done.1
    (same-flushed w (with_submitted w command) end _ refl
    (after-flush (with_submitted w command) next end false true flag later done kept))
after-ok w next end flushing flag later done kept = after-flush w next end w.running true flag later done kept
after-ok w next end slicing flag later done kept = after-flush w next end false true flag later done.1 kept
after-ok w next end checkpointing flag later done kept = after-flush w next end false true flag later done kept
after-ok w next end beginning flag later done kept =
    same-flushed w (record { flushed = w.flushed; since = w.since; running = true }) end _ refl
    (subst (λ (n : World). Kept n end (waiting n.since flag ++ later n)) done.1 kept)

-- a slice that isn't done
after-more : (w next : World) (end : Contents) (call : Call) (flag : Bool) (later : World → List (Command × Bool))
    → Continues w call next → Kept next end (waiting next.since flag ++ later next)
    → Kept w end (waiting w.since flag ++ later w)
after-more w next end slicing flag later goes kept = subst (λ (n : World). Kept n end (waiting n.since flag ++ later n)) goes.1 kept
after-more w next end (submitting command) flag later goes kept = absurd goes
after-more w next end (performing command) flag later goes kept = absurd goes
after-more w next end (renewing command) flag later goes kept = absurd goes
after-more w next end flushing flag later goes kept = absurd goes
after-more w next end beginning flag later goes kept = absurd goes
after-more w next end checkpointing flag later goes kept = absurd goes

-- behind Device nothing is flushed
reopen-flushes : (events : List Event) → AllByRecursion (λ event. event.answer ≡ reopen) events → flushed_by events ≡ false
reopen-flushes [] all = refl
reopen-flushes (event ∷ events) all =
    ap (λ answer. acknowledges answer event.call || flushed_by events) all.0 ∙ reopen-flushes events all.1

by-answer : (answer : Answer) (w : World) (end : Contents) (call : Call) (events : List Event)
    → ((next : World) → MayEnd events next end → Kept next end (waiting next.since (flushed_by events) ++ accepted_commands events next))
    → MayEndBy answer w call events (λ next. MayEnd events next end) end
    → Kept w end (waiting w.since (acknowledges answer call || flushed_by events)
    ++ accepted_by answer w call (acknowledges answer call || flushed_by events) (accepted_commands events))
by-answer ok w end call events keeps may = after-ok w may.0 end call (flushed_by events)
    (accepted_commands events) may.1 (keeps may.0 may.2)
by-answer more w end call events keeps may =
    after-more w may.0 end call (flushed_by events) (accepted_commands events) may.1 (keeps may.0 may.2)
by-answer refused w end call events keeps may = keeps w may
by-answer device w end call events keeps may =
    subst (λ flag. Kept w end (waiting w.since flag ++ accepted_in w call false)) (sym (reopen-flushes events may.1))
    (remains-in w end call may.0)
by-answer reopen w end call events keeps may = absurd may
by-answer crashed w end call events keeps may =
    subst (λ (es : List Event). Kept w end (waiting w.since (flushed_by es) ++ accepted_in w call false)) (sym may.1)
    (remains-in w end call may.0)

life-keeps : (events : List Event) (w : World) (end : Contents) → MayEnd events w end
    → Kept w end (waiting w.since (flushed_by events) ++ accepted_commands events w)
life-keeps [] w end may = remains w end [] tt may
life-keeps (event ∷ events) w end may = by-answer event.answer w end event.call events (λ next later. life-keeps events next end later) may

-- the law of lives, from those of one call
pub lives-hold : LivesHold
lives-hold s end [] same = ([], tt, ap Ok (sym same))
lives-hold s end (life ∷ lives) are =
    let here = life-keeps life.events (opened life.start) are.1 are.2 in
    let further = lives-hold are.1 end lives are.3 in
    let first : after s here.kept ≡ Ok are.1 = ap (λ t. after t here.kept) (sym are.0) ∙ here.leads in
    (here.kept ∷ further.0, (here.keeps, further.1), after-joined s are.1 end here.kept (all_commands further.0) first further.2)
