-- What a session answers, and what is stored then. All of it is computed from the requests.
use Rattle.std.specs.Prelude.{◌≡◌, ◌≤◌, ℕ, ◌+◌, ◌-◌, max, Bool, true, false, ◌&&◌, if◌then◌else◌, List, [], ◌∷◌, ◌++◌, length, codes}
use Rattle.std.specs.Prelude.{decimal, Option, Some, None, option_map, unwrap_or, Result, Ok, Err, is_ok, is_some}
use Rattle.conf_session.specs.Prelude.{concat, Tree, text, sequence, mapping, Elements, no_element, element, no_member, member, style_text}
use Rattle.conf_session.specs.Prelude.{framed_text_bytes, ReadFault, Command, IsState, Contents, names_of, base_limit, and_then, by_path}
use Rattle.conf_session.specs.Prelude.{StoreFault, Format, base_in, outcome, next_record, renews, size_with, format_with, file_with}
use Rattle.conf_session.specs.Prelude.{new_file_with, tree_named, first_fault, ConditionFault}
use Rattle.conf_session.specs.{declared.{fault.SessionFault.SessionFault, words.Refusal.Refusal}, Requests.{Request, changing, unread}}
use Rattle.conf_session.specs.Requests.{getting, exporting, naming, checkpointing, if_met, overlong_about, bad, Asks}
use Rattle.{json_pointer.specs.{declared.fault.PathFault.PathFault, Pointers.path_of}, tree_path.specs.Paths.at}
use Rattle.yaml_events.specs.declared.read_fault.ReadFault.TheVariants as read
use Rattle.json_pointer.specs.declared.fault.PathFault.TheVariants as path
use Rattle.conf_state.specs.declared.fault.StoreFault.TheVariants as store
use Rattle.conf_session.specs.declared.fault.SessionFault.TheVariants as fault
use Rattle.conf_session.specs.declared.words.Refusal.TheVariants as refused
use Rattle.conf_conditions.specs.declared.fault.ConditionFault.TheVariants as condition

-- ---- refusals: which one answers a fault, and its word, which is the innermost fault's own name, or `BadCommand`

-- an import whose text is refused; OutOfMemory ends a session
abbrev pub read_answered : ReadFault → Result Refusal SessionFault
read_answered read.TooLong = Ok refused.TooLong
read_answered (read.NotUtf8 at) = Ok refused.NotUtf8
read_answered (read.Syntax line column why) = Ok refused.Syntax
read_answered (read.Documents count) = Ok refused.Documents
read_answered read.KeyNotText = Ok refused.KeyNotText
read_answered read.KeyTwice = Ok refused.KeyTwice
read_answered read.TooDeep = Ok refused.TooDeep
read_answered read.LargeInStyle = Ok refused.LargeInStyle
read_answered read.OutOfMemory = Err fault.OutOfMemory

-- a request whose path is refused
abbrev pub path_answered : PathFault → Result Refusal SessionFault
path_answered (path.BadPath at) = Ok refused.BadPath
path_answered (path.NoSuchPlace step) = Ok refused.NoSuchPlace
path_answered (path.NotIndex step) = Ok refused.NotIndex
path_answered path.OutOfMemory = Err fault.OutOfMemory

-- a request; the other faults end a session
abbrev pub answered : StoreFault → Result Refusal SessionFault
answered store.EmptyBatch = Ok refused.EmptyBatch
answered store.BadName = Ok refused.BadName
answered store.NoConfig = Ok refused.NoConfig
answered (store.Path why) = path_answered why
answered (store.Read why) = read_answered why
answered store.TooDeep = Ok refused.TooDeep
answered store.ConfigLarge = Ok refused.ConfigLarge
answered store.StoreFull = Ok refused.StoreFull
answered store.RecordLong = Ok refused.RecordLong
answered store.JournalLong = Ok refused.JournalLong
answered store.CountFull = Ok refused.CountFull
answered store.Reopen = Err fault.Reopen
answered store.Device = Err fault.Device
answered store.OutOfMemory = Err fault.OutOfMemory

-- the first condition that does not hold
abbrev pub condition_answered : ConditionFault → Result Refusal SessionFault
condition_answered condition.Unmet = Ok refused.Unmet
condition_answered condition.BadName = Ok refused.BadName
condition_answered (condition.Path why) = path_answered why
condition_answered condition.OutOfMemory = Err fault.OutOfMemory

abbrev pub word : Refusal → List ℕ
word refused.BadCommand = codes "BadCommand"
word refused.EmptyBatch = codes "EmptyBatch"
word refused.BadName = codes "BadName"
word refused.NoConfig = codes "NoConfig"
word refused.BadPath = codes "BadPath"
word refused.NoSuchPlace = codes "NoSuchPlace"
word refused.NotIndex = codes "NotIndex"
word refused.TooLong = codes "TooLong"
word refused.NotUtf8 = codes "NotUtf8"
word refused.Syntax = codes "Syntax"
word refused.Documents = codes "Documents"
word refused.KeyNotText = codes "KeyNotText"
word refused.KeyTwice = codes "KeyTwice"
word refused.TooDeep = codes "TooDeep"
word refused.LargeInStyle = codes "LargeInStyle"
word refused.ConfigLarge = codes "ConfigLarge"
word refused.StoreFull = codes "StoreFull"
word refused.RecordLong = codes "RecordLong"
word refused.JournalLong = codes "JournalLong"
word refused.CountFull = codes "CountFull"
word refused.Unmet = codes "Unmet"
word refused.AboutLarge = codes "AboutLarge"

-- ---- one answer: a mapping of one key

abbrev pub one : List ℕ → Tree → Tree
one key value = mapping (member key value no_member)

-- the answer to a refused request
abbrev pub refusal : List ℕ → Tree
refusal word = one (codes "refused") (text word)

-- the lines of its document, where the word needs no quotes
abbrev pub refusal_lines : List ℕ → List ℕ
refusal_lines word = codes "---\nrefused: " ++ (word ++ codes "\n...\n")

abbrev pub text_elements : List (List ℕ) → Elements
text_elements [] = no_element
text_elements (t ∷ ts) = element (text t) (text_elements ts)

-- the answer by a refusal, where there is one
abbrev pub refused_answer : Result Refusal SessionFault → Option Tree
refused_answer (Ok reason) = Some (refusal (word reason))
refused_answer (Err end) = None

abbrev pub answer_or_refusal : {A : Type 0} → (A → Tree) → Result A StoreFault → Option Tree
answer_or_refusal answer (Ok x) = Some (answer x)
answer_or_refusal answer (Err why) = refused_answer (answered why)

-- the tree at the path that a text means, if it means one
abbrev pub value_at_path : Contents → List ℕ → List ℕ → Result Tree StoreFault
value_at_path s name p = and_then (tree_named s name)
    (λ t. and_then (by_path (path_of p)) (λ tokens. by_path (at t tokens)))

-- the state, how many bytes `store.yaml` has, how many the new file of a running checkpoint will have, and the format of
-- the base
pub record Stored : Type 0 where
  pub state : Contents
  pub size : ℕ
  pub staged : Option ℕ
  pub format : Format

-- the length of the longer of the two files
abbrev pub longest : Stored → ℕ
longest now = max now.size (unwrap_or now.staged 0)

abbrev pub change_answer : Result Contents StoreFault → Option Tree
change_answer r = answer_or_refusal (λ (new : Contents). one (codes "ok") (text (decimal new.count))) r

-- one thing where no condition fails, and another where one does
abbrev pub unless_failed : {A : Type 0} → Option ConditionFault → A → (ConditionFault → A) → A
unless_failed None met unmet = met
unless_failed (Some fault) met unmet = unmet fault

-- The answer to a request, as the tree that is written in the one style. Only a fault that ends a session has none.
abbrev pub answer : Stored → Request → Option Tree
answer now (changing command) = change_answer (outcome (longest now) now.state command)
answer now (unread why) = refused_answer (answered why)
answer now (getting name p) = answer_or_refusal (one (codes "value")) (value_at_path now.state name p)
answer now (exporting name) =
    answer_or_refusal (λ t. one (codes "text") (text (style_text t))) (tree_named now.state name)
answer now naming = Some (one (codes "names") (sequence (text_elements (names_of now.state.configs))))
answer now checkpointing = Some (one (codes "ok") (text (decimal now.state.count)))
answer now (if_met conditions request) =
    unless_failed (first_fault now.state conditions) (answer now request)
    (λ fault. refused_answer (condition_answered fault))
answer now overlong_about = Some (refusal (word refused.AboutLarge))
answer now bad = Some (refusal (word refused.BadCommand))

-- the document of an answer, in bytes
abbrev pub document_bytes : Option Tree → List ℕ
document_bytes (Some t) = framed_text_bytes t
document_bytes None = []

-- the bytes of the answer to a request
abbrev pub answer_bytes : Stored → Request → List ℕ
answer_bytes now request = document_bytes (answer now request)

-- the most bytes of an answer: as many as of a base
abbrev pub answer_limit : ℕ
answer_limit = base_limit

-- no answer on a state that keeps its limits is longer
abbrev pub AnswersAreShort : Type 0
AnswersAreShort = (now : Stored) (request : Request) → IsState now.state
    → length (answer_bytes now request) ≤ answer_limit

-- each request that a piece asks for has an answer
abbrev pub EachIsAnswered : Type 0
EachIsAnswered = (now : Stored) (piece : List ℕ) (request : Request) → Asks piece request
    → is_some (answer now request) ≡ true

-- ---- what is stored after a request

-- the length of the new file of a running checkpoint, with a record more; where `store.yaml` is renewed, there is none
abbrev pub length_with : (renewed : Bool) → Option ℕ → List ℕ → Option ℕ
length_with false staged bytes = option_map (λ (n : ℕ). n + length bytes) staged
length_with true staged bytes = None

abbrev pub stored_after_change : Stored → Command → Result Contents StoreFault → Stored
stored_after_change now command (Ok new) = record {
  state = new;
  size = size_with (renews now.format command) now.size now.state command;
  staged = length_with (renews now.format command) now.staged (next_record now.state command);
  format = format_with (renews now.format command) now.format;
}
stored_after_change now command (Err fault) = now

-- An accepted command gives the next state, and adds the length of its record to both files. Where it renews the file,
-- that has a base of the third format and the record, and a checkpoint that runs is given up. A checkpoint leaves the
-- state and the format, and the file is as long as its base; one that runs is given up. All else leaves all, and so does
-- a request one of whose conditions fails.
abbrev pub stored_after : Stored → Request → Stored
stored_after now (changing command) = stored_after_change now command (outcome (longest now) now.state command)
stored_after now checkpointing = record {
  state = now.state;
  size = length (base_in now.format now.state);
  staged = None;
  format = now.format;
}
stored_after now (if_met conditions request) =
    unless_failed (first_fault now.state conditions) (stored_after now request) (λ fault. now)
stored_after now request = now

-- ---- what `store.yaml` reads as after a request

abbrev pub file_after_change : Option (List ℕ) → Stored → Command → Result Contents StoreFault → Option (List ℕ)
file_after_change file now command (Ok new) = file_with (renews now.format command) file now.state command
file_after_change file now command (Err fault) = file

-- an accepted command appends its record or renews the file, a checkpoint puts a base in its place, and all else leaves
-- it
abbrev pub file_after : Option (List ℕ) → Stored → Request → Option (List ℕ)
file_after file now (changing command) = file_after_change file now command (outcome (longest now) now.state command)
file_after file now checkpointing = Some (base_in now.format now.state)
file_after file now (if_met conditions request) =
    unless_failed (first_fault now.state conditions) (file_after file now request) (λ fault. file)
file_after file now request = file

-- ---- what the new file of a running checkpoint will read as after a request

abbrev pub staged_after_change : Option (List ℕ) → Stored → Command → Result Contents StoreFault → Option (List ℕ)
staged_after_change file now command (Ok new) =
    new_file_with (renews now.format command) file (next_record now.state command)
staged_after_change file now command (Err fault) = file

-- An accepted command appends its record to it too. A checkpoint, and a command that renews `store.yaml`, gives it up.
-- All else leaves it.
abbrev pub staged_after : Option (List ℕ) → Stored → Request → Option (List ℕ)
staged_after file now (changing command) = staged_after_change file now command (outcome (longest now) now.state command)
staged_after file now checkpointing = None
staged_after file now (if_met conditions request) =
    unless_failed (first_fault now.state conditions) (staged_after file now request) (λ fault. file)
staged_after file now request = file

-- ---- requests, one after the other

-- the bytes of each answer
abbrev pub answers : Stored → List Request → List (List ℕ)
answers now [] = []
answers now (request ∷ requests) = answer_bytes now request ∷ answers (stored_after now request) requests

-- the bytes of all answers
abbrev pub output : Stored → List Request → List ℕ
output now requests = concat (answers now requests)

-- what is stored after all requests
abbrev pub stored_after_all : Stored → List Request → Stored
stored_after_all now [] = now
stored_after_all now (request ∷ requests) = stored_after_all (stored_after now request) requests

-- what `store.yaml` reads as after all requests
abbrev pub file_after_all : Option (List ℕ) → Stored → List Request → Option (List ℕ)
file_after_all file now [] = file
file_after_all file now (request ∷ requests) =
    file_after_all (file_after file now request) (stored_after now request) requests

-- what the new file of a running checkpoint will read as after all requests
abbrev pub staged_after_all : Option (List ℕ) → Stored → List Request → Option (List ℕ)
staged_after_all file now [] = file
staged_after_all file now (request ∷ requests) =
    staged_after_all (staged_after file now request) (stored_after now request) requests

abbrev pub accepted_by : Result Contents StoreFault → Command → List Command
accepted_by (Ok new) command = command ∷ []
accepted_by (Err fault) command = []

-- the command of a request, if it is accepted
abbrev pub accepted_command : Stored → Request → List Command
accepted_command now (changing command) = accepted_by (outcome (longest now) now.state command) command
accepted_command now (if_met conditions request) =
    unless_failed (first_fault now.state conditions) (accepted_command now request) (λ fault. [])
accepted_command now request = []

-- the accepted commands of the requests, in order
abbrev pub accepted_commands : Stored → List Request → List Command
accepted_commands now [] = []
accepted_commands now (request ∷ requests) =
    accepted_command now request ++ accepted_commands (stored_after now request) requests

abbrev pub is_refused : {A : Type 0} → Result A StoreFault → ℕ
is_refused (Ok x) = 0
is_refused (Err fault) = 1

-- whether a request is answered by a refusal: 1 or 0
abbrev pub refused_of : Stored → Request → ℕ
refused_of now (changing command) = is_refused (outcome (longest now) now.state command)
refused_of now (unread fault) = 1
refused_of now (getting name p) = is_refused (value_at_path now.state name p)
refused_of now (exporting name) = is_refused (tree_named now.state name)
refused_of now (if_met conditions request) =
    unless_failed (first_fault now.state conditions) (refused_of now request) (λ fault. 1)
refused_of now overlong_about = 1
refused_of now bad = 1
refused_of now request = 0

-- how many of the requests are refused
abbrev pub refusals : Stored → List Request → ℕ
refusals now [] = 0
refusals now (request ∷ requests) = refused_of now request + refusals (stored_after now request) requests

-- ---- what is flushed, and what waits

-- Whether a request syncs `store.yaml`, so that no crash takes away what was submitted before. Each does where `each`
-- says that all that waits is flushed before its answer; otherwise only a checkpoint does, and an accepted command that
-- renews the file.
abbrev pub syncs : Bool → Stored → Request → Bool
syncs true now request = true
syncs false now (changing command) = is_ok (outcome (longest now) now.state command) && renews now.format command
syncs false now checkpointing = true
syncs false now (if_met conditions request) =
    unless_failed (first_fault now.state conditions) (syncs false now request) (λ fault. false)
syncs false now request = false

-- the state that is flushed after the requests, where `flushed` was before
abbrev pub flushed_after : Bool → Stored → Contents → List Request → Contents
flushed_after each now flushed [] = flushed
flushed_after each now flushed (request ∷ requests) =
    flushed_after each (stored_after now request)
    (if syncs each now request then (stored_after now request).state else flushed) requests

-- the commands that wait after the requests, where `waiting` did before
abbrev pub waiting_after : Bool → Stored → List Command → List Request → List Command
waiting_after each now waiting [] = waiting
waiting_after each now waiting (request ∷ requests) =
    waiting_after each (stored_after now request)
    (if syncs each now request then [] else waiting ++ accepted_command now request) requests

-- How many commands no crash takes away once a session has answered the requests, of those that waited at its start and
-- those that it accepted: all but those that still wait.
abbrev pub acknowledged : Stored → List Command → List Request → ℕ
acknowledged now waiting requests =
    length (waiting ++ accepted_commands now requests) - length (waiting_after true now waiting requests)

-- the first answer acknowledges what waited, and each answer what was accepted up to it
pub record AllAreAcknowledged : Type 0 where
  -- where no command waits at the start, these are all that are accepted
  pub accepted : (now : Stored) (requests : List Request)
      → acknowledged now [] requests ≡ length (accepted_commands now requests)
  -- once a request is answered, these are all that waited, and all that are accepted
  pub waited : (now : Stored) (waiting : List Command) (request : Request) (requests : List Request)
      → acknowledged now waiting (request ∷ requests)
      ≡ length (waiting ++ accepted_commands now (request ∷ requests))
