-- Lives of a store, each from one opening to the next crash, and what they keep.
use Rattle.std.specs.Prelude.{◌≡◌, ◌⊎◌, ℕ, List, [], ◌∷◌, ◌++◌, take, drop, map, Bool, true, false, ◌||◌, if◌then◌else◌, Result, Ok, Err}
use Rattle.std.specs.{Prelude.is_ok, List.AllByRecursion}
use Rattle.conf_store.specs.Prelude.{Command, Contents, after, StoreFault}

-- `performing` is a command that is submitted and flushed by one call, and `renewing` one that is submitted with an
-- about, and renews the file: it is flushed with all that waits, and a running checkpoint ends
pub data Call : Type 0 where
  submitting : (command : Command) → Call
  performing : (command : Command) → Call
  renewing : (command : Command) → Call
  flushing : Call
  beginning : Call
  slicing : Call
  checkpointing : Call

-- What a call returns. At `more` a slice returned that something is left; a slice that is done returned `ok`. `refused`
-- is any fault but Device and Reopen. At `crashed` the call never returns.
pub data Answer : Type 0 where
  ok : Answer
  more : Answer
  refused : Answer
  device : Answer
  reopen : Answer
  crashed : Answer

-- a call, and what it returned
pub record Event : Type 0 where
  pub call : Call
  pub answer : Answer

-- ---- between two calls

-- What an open store has on its disk: the state that is flushed, the commands that were submitted since, and whether a
-- checkpoint runs.
pub record World : Type 0 where
  pub flushed : Contents
  pub since : List Command
  pub running : Bool

-- behind an opening
abbrev pub opened : Contents → World
opened s = record { flushed = s; since = []; running = false }

-- the state: after all that was submitted
abbrev pub world_state : World → Result Contents StoreFault
world_state w = after w.flushed w.since

-- with one command more submitted
abbrev pub with_submitted : World → Command → World
with_submitted w command =
    record { flushed = w.flushed; since = w.since ++ command ∷ []; running = w.running }

-- with all commands flushed, where they lead to this state
abbrev pub all_flushed : Contents → Bool → World
all_flushed s running = record { flushed = s; since = []; running = running }

-- `end` is what a crash between two calls leaves: the state after a prefix of the submitted commands
abbrev pub MayRemain : World → Contents → Type 0
MayRemain w end = (count : ℕ) × (after w.flushed (take count w.since) ≡ Ok end)

-- ---- one call

-- all that is submitted in `w` is flushed in `next`
abbrev pub Flushes : World → Bool → World → Type 0
Flushes w running next = (s : Contents) × (world_state w ≡ Ok s) × (next ≡ all_flushed s running)

-- `next` is what a call makes that returns Ok, and of a slice what it makes when it is done
abbrev pub Succeeds : World → Call → World → Type 0
Succeeds w (submitting command) next =
    (s : Contents) × (world_state (with_submitted w command) ≡ Ok s) × (next ≡ with_submitted w command)
Succeeds w (performing command) next = Flushes (with_submitted w command) w.running next
Succeeds w (renewing command) next = Flushes (with_submitted w command) false next
Succeeds w flushing next = Flushes w w.running next
Succeeds w beginning next =
    (w.running ≡ false) × (next ≡ record { flushed = w.flushed; since = w.since; running = true })
Succeeds w slicing next = (w.running ≡ true) × Flushes w false next
Succeeds w checkpointing next = Flushes w false next

-- a slice that isn't done changes nothing
abbrev pub Continues : World → Call → World → Type 0
Continues w slicing next = (w.running ≡ true) × (next ≡ w)
Continues w call next = ⊥

-- `end` is what may remain of a call in which the machine crashes or the device fails: what remains before it, or after
-- it
abbrev pub MayRemainDuring : World → Call → Contents → Type 0
MayRemainDuring w call end = MayRemain w end ⊎ ((next : World) × Succeeds w call next × MayRemain next end)

-- ---- one life

-- A life that stood at `w` may end in `end`, by what its next call returned. After a crash nothing follows; after
-- Device, only Reopen.
abbrev pub MayEndBy : Answer → World → Call → List Event → (World → Type 0) → Contents → Type 0
MayEndBy ok w call events ends_from end = (next : World) × Succeeds w call next × ends_from next
MayEndBy more w call events ends_from end = (next : World) × Continues w call next × ends_from next
MayEndBy refused w call events ends_from end = ends_from w
MayEndBy device w call events ends_from end =
    MayRemainDuring w call end × AllByRecursion (λ event. event.answer ≡ reopen) events
MayEndBy reopen w call events ends_from end = ⊥
MayEndBy crashed w call events ends_from end = MayRemainDuring w call end × (events ≡ [])

-- a life with these calls, that stood at `w`, may end in `end`
abbrev pub MayEnd : List Event → World → Contents → Type 0
MayEnd [] w end = MayRemain w end
MayEnd (event ∷ events) w end = MayEndBy event.answer w event.call events (λ next. MayEnd events next end) end

-- ---- what a life accepts, and what of it is acknowledged

abbrev pub state_or : Result Contents StoreFault → Contents → Contents
state_or (Ok s) other = s
state_or (Err fault) other = other

-- what a call makes that returns Ok
abbrev pub after_call : World → Call → World
after_call w (submitting command) = with_submitted w command
after_call w (performing command) =
    all_flushed (state_or (world_state (with_submitted w command)) w.flushed) w.running
after_call w (renewing command) =
    all_flushed (state_or (world_state (with_submitted w command)) w.flushed) false
after_call w flushing = all_flushed (state_or (world_state w) w.flushed) w.running
after_call w beginning = record { flushed = w.flushed; since = w.since; running = true }
after_call w slicing = all_flushed (state_or (world_state w) w.flushed) false
after_call w checkpointing = all_flushed (state_or (world_state w) w.flushed) false

-- whether a call that returned Ok has flushed all that was submitted
abbrev pub flushes_all : Call → Bool
flushes_all (submitting command) = false
flushes_all beginning = false
flushes_all call = true

abbrev pub acknowledges : Answer → Call → Bool
acknowledges ok call = flushes_all call
acknowledges answer call = false

-- whether one of these calls flushed what was submitted before it
abbrev pub flushed_by : List Event → Bool
flushed_by [] = false
flushed_by (event ∷ events) = acknowledges event.answer event.call || flushed_by events

-- the call's command, if it is accepted, with whether it is acknowledged
abbrev pub accepted_one : World → Command → Bool → List (Command × Bool)
accepted_one w command acknowledged =
    if is_ok (world_state (with_submitted w command)) then (command, acknowledged) ∷ [] else []

abbrev pub accepted_in : World → Call → Bool → List (Command × Bool)
accepted_in w (submitting command) acknowledged = accepted_one w command acknowledged
accepted_in w (performing command) acknowledged = accepted_one w command acknowledged
accepted_in w (renewing command) acknowledged = accepted_one w command acknowledged
accepted_in w call acknowledged = []

abbrev pub accepted_by : Answer → World → Call → Bool → (World → List (Command × Bool)) → List (Command × Bool)
accepted_by ok w call acknowledged later = accepted_in w call acknowledged ++ later (after_call w call)
accepted_by more w call acknowledged later = later w
accepted_by refused w call acknowledged later = later w
accepted_by device w call acknowledged later = accepted_in w call false
accepted_by reopen w call acknowledged later = []
accepted_by crashed w call acknowledged later = accepted_in w call false

-- The commands that a life accepts, each with whether it is acknowledged: its call, or one after it, returned that all
-- is flushed.
abbrev pub accepted_commands : List Event → World → List (Command × Bool)
accepted_commands [] w = []
accepted_commands (event ∷ events) w =
    accepted_by event.answer w event.call (flushed_by (event ∷ events)) (accepted_commands events)

-- ---- lives

-- What happens to a store from one opening to the next crash: its state at the start, and its calls. An opening that
-- was refused, or in which the machine crashed, is a life without calls: it changes no meaning.
pub record Life : Type 0 where
  pub start : Contents
  pub events : List Event

-- each life starts in the state in which the one before ended
abbrev pub AreLives : Contents → List Life → Contents → Type 0
AreLives s [] end = end ≡ s
AreLives s (life ∷ lives) end =
    (life.start ≡ s) × (mid : Contents) × MayEnd life.events (opened life.start) mid × AreLives mid lives end

-- ---- what lives keep

-- `kept` is a prefix of the accepted commands, with every acknowledged one
pub record Keeps (given : List (Command × Bool)) (kept : List Command) : Type 0 where
  pub count : ℕ
  pub are : kept ≡ map (λ g. g.0) (take count given)
  pub no_more : AllByRecursion (λ (g : Command × Bool). g.1 ≡ false) (drop count given)

abbrev pub EachKeeps : List Life → List (List Command) → Type 0
EachKeeps [] [] = Unit {0}
EachKeeps [] (kept ∷ others) = ⊥
EachKeeps (life ∷ lives) [] = ⊥
EachKeeps (life ∷ lives) (kept ∷ others) =
    Keeps (accepted_commands life.events (opened life.start)) kept × EachKeeps lives others

abbrev pub all_commands : List (List Command) → List Command
all_commands [] = []
all_commands (commands ∷ others) = commands ++ all_commands others

-- the last state is the first one after the kept commands of all lives
abbrev pub LivesHold : Type 0
LivesHold = (s end : Contents) (lives : List Life) → AreLives s lives end
    → (kept : List (List Command)) × EachKeeps lives kept × (after s (all_commands kept) ≡ Ok end)
