-- What a session leaves of the disk of the store that was opened for it.
use Rattle.std.proofs.Common.{◌≡◌, ◌≢◌, ◌≤◌, ◌⊎◌, ◌↔◌, ℕ, Bool, true, false, List, [], ◌∷◌, ◌++◌, ap, inl, inr, length, refl, sym, ◌∙◌}
use Rattle.std.{proofs.Common.{arith, subst}, specs.Prelude.{Option, None, Result, Ok, Err, IsErrOf}}
use Rattle.conf_tools.proofs.Prelude.{false≢true, bytes_under, DiskModel, Store, HasFailed, staged_text, StoreView, failed-later}
use Rattle.conf_tools.proofs.Prelude.{AllAreAcknowledged, Stored, accepted_commands, file_after_all, AfterAtLeast, Runs, stored_of}
use Rattle.conf_tools.{proofs.Prelude.{SessionFault, Tally, Streams}, specs.Stores.{Answers, AnswersOn, BeginsWhenDue, KeepsAnswered}}
use Rattle.conf_tools.specs.Stores.{OpensOn, RunsOn, SessionRuns, SurvivesCrashes, Work, WasOpened, after_session}
use Rattle.{conf_tools.specs.declared.stores.Grouping.{Grouping, TheVariants.{Single, Grouped}}, conf_session.specs.Handings.Handings}
use Rattle.conf_session.specs.{Handings.{accepted_within, taken_in}, Groups.{turns_within, AreDue, RunsGrouped, Turn, acknowledged_turns}}
use Rattle.conf_session.specs.{Groups.{all_asked, files_after_turns, turns_accepted}, declared.groups.Checkpoints.Checkpoints}
use Rattle.conf_session.specs.declared.{groups.Checkpoints.TheVariants.{After, Asked}, fault.SessionFault.TheVariants.{Device, Reopen}}
use Rattle.conf_session.proofs.HandedLemmas.{since-weaker}

-- a store that was in order needs to be opened again only after Device
in-order : (before after : Bool) (result : Result Tally SessionFault) → before ≡ false
    → ((after ≡ true) ↔ ((before ≡ true) ⊎ IsErrOf result Device)) → result ≢ Err Device → after ≡ false
in-order before false result off device other = refl
in-order before true result off device other = absurd (neither (device.0 refl))
  where
    neither : (before ≡ true) ⊎ IsErrOf result Device → ⊥
    neither (inl on) = false≢true (sym off ∙ on)
    neither (inr is) = other is

-- where nothing waits at the start, all that was accepted is acknowledged
all-acknowledged : (now : Stored) (turns : List Turn) → acknowledged_turns now [] turns ≡ length (turns_accepted now turns)
all-acknowledged now [] = refl
all-acknowledged now (turn ∷ turns) = refl

module _ {D : Type 0} (model : DiskModel D) (io : Streams) (handings : Handings)
    (old : D) (store new : StoreView D) (result : Result Tally SessionFault) (opens : OpensOn model old store) where
  -- what `store.yaml` reads as when the store is open
  abbrev file : Option (List ℕ)
  file = bytes_under (model.folder store.disk) Store

  -- what the call says of its faults
  pub record SaysFaults : Type 0 where
    pub reopen : IsErrOf result Reopen ↔ (store.reopen ≡ true)
    pub device : (new.reopen ≡ true) ↔ ((store.reopen ≡ true) ⊎ IsErrOf result Device)
    pub cause : IsErrOf result Device → HasFailed (model.failure_count store.disk) (model.failure_count new.disk)
    pub risen : model.failure_count store.disk ≤ model.failure_count new.disk

  module _ (says : SaysFaults) where
    never-reopened : result ≢ Err Reopen
    never-reopened is = false≢true (sym opens.no_reopen ∙ says.reopen.0 is)

    failed-since : result ≡ Err Device → HasFailed (model.failure_count old) (model.failure_count new.disk)
    failed-since is = failed-later (model.failure_count old) (model.failure_count store.disk)
        (model.failure_count new.disk) opens.risen says.risen (says.cause is)

  -- ---- each command by itself

  module _ (runs : Runs model io handings store new result) where
    abbrev each-work : Work
    each-work = record {
      accepted = accepted_commands (stored_of store) runs.performed;
      answered = length (accepted_commands (stored_of store) runs.answered);
      within = accepted_within (stored_of store) runs.performed;
      file = file_after_all file (stored_of store) runs.performed;
    }

    abbrev each-answers : Answers io (stored_of store) file Single result each-work
    each-answers = record { answered = runs.answered; performed = runs.performed; ends = runs.ends; does = refl }

    each-on : SaysFaults → AnswersOn model io Single old new.disk result
    each-on says = record {
      start = stored_of store;
      file = file;
      work = each-work;
      answers = each-answers;
      due = λ h. tt;
      opens = opens.opens;
      reads = λ h other. runs.reads h (in-order store.reopen new.reopen result opens.no_reopen says.device other);
      not_reopen = never-reopened says;
      cause = failed-since says;
    }

    each-kept : AllAreAcknowledged → model.honest → KeepsAnswered model io handings Single old new.disk result
    each-kept all h = record {
      start = stored_of store;
      opened = store.disk;
      work = each-work;
      answers = each-answers;
      opens = opens.opens h;
      nothing_waits = opens.flushed h;
      while_opening = opens.at_any_moment h;
      once_open = runs.any_moment h opens.no_reopen store.state [] (opens.flushed h);
      handed = runs.handed;
      cut_off = since-weaker model new.disk 0 (taken_in handings) _ _ (λ bytes image some. record {
        count = some.count;
        enough = (let enough = some.enough in omega (arith, enough));
        state = some.state;
        leads = some.leads;
        means = some.means;
      }) (runs.cut_off h opens.no_reopen store.state [] (opens.flushed h));
      returned = λ image is. subst (λ n. AfterAtLeast store.state n each-work.accepted image)
          (all.accepted (stored_of store) runs.answered)
          (runs.kept h opens.no_reopen store.state [] (opens.flushed h) image is);
    }

  -- ---- in groups

  module _ (checkpoints : Checkpoints) (runs : RunsGrouped model io handings checkpoints store new result) where
    abbrev turns : List Turn
    turns = runs.answered ++ all_asked runs.unanswered

    abbrev file-after : Option (List ℕ) → Option (List ℕ)
    file-after staged = (files_after_turns (record { store = file; staged = staged }) (stored_of store) turns).store

    abbrev groups-work : Work
    groups-work = record {
      accepted = turns_accepted (stored_of store) turns;
      answered = length (turns_accepted (stored_of store) runs.answered);
      within = turns_within (stored_of store) turns;
      file = file-after None;
    }

    abbrev groups-answers : Answers io (stored_of store) file (Grouped checkpoints) result groups-work
    groups-answers = record {
      answered = runs.answered;
      unanswered = runs.unanswered;
      ends = runs.ends;
      only_asked = runs.only_asked;
      does = refl;
    }

    groups-due : (wanted : Checkpoints) → checkpoints ≡ wanted → model.honest → BeginsWhenDue wanted (stored_of store) file runs.answered
    groups-due Asked is h = tt
    groups-due (After bytes) is h =
        subst (λ staged. AreDue bytes (record { store = file; staged = staged_text (model.folder store.disk) staged })
        (stored_of store) runs.answered) opens.no_checkpoint (runs.due h bytes is)

    groups-on : SaysFaults → AnswersOn model io (Grouped checkpoints) old new.disk result
    groups-on says = record {
      start = stored_of store;
      file = file;
      work = groups-work;
      answers = groups-answers;
      due = λ h. groups-due checkpoints refl h;
      opens = opens.opens;
      reads = λ h other. ap (λ files. files.store)
          (runs.files h (in-order store.reopen new.reopen result opens.no_reopen says.device other))
          ∙ ap (λ staged. file-after (staged_text (model.folder store.disk) staged)) opens.no_checkpoint;
      not_reopen = never-reopened says;
      cause = failed-since says;
    }

    groups-kept : model.honest → KeepsAnswered model io handings (Grouped checkpoints) old new.disk result
    groups-kept h = record {
      start = stored_of store;
      opened = store.disk;
      work = groups-work;
      answers = groups-answers;
      opens = opens.opens h;
      nothing_waits = opens.flushed h;
      while_opening = opens.at_any_moment h;
      once_open = runs.any_moment h opens.no_reopen store.state [] (opens.flushed h);
      handed = runs.handed;
      cut_off = since-weaker model new.disk 0 (taken_in handings) _ _ (λ bytes image some. record {
        count = some.count;
        enough = (let enough = some.enough in omega (arith, enough));
        state = some.state;
        leads = some.leads;
        means = some.means;
      }) (runs.cut_off h opens.no_reopen store.state [] (opens.flushed h));
      returned = λ image is. subst (λ n. AfterAtLeast store.state n groups-work.accepted image)
          (all-acknowledged (stored_of store) runs.answered)
          (runs.kept h opens.no_reopen store.state [] (opens.flushed h) image is);
    }

  -- ---- either

  -- what was answered, and what `store.yaml` reads as
  pub answers-on : (grouping : Grouping) → SessionRuns model io handings grouping store new result
      → SaysFaults → AnswersOn model io grouping old new.disk result
  answers-on Single runs says = each-on runs says
  answers-on (Grouped checkpoints) runs says = groups-on checkpoints runs says

  -- what a crash leaves: opening first, and then the session, at whose start nothing waits
  pub keeps-answered : (grouping : Grouping) → SessionRuns model io handings grouping store new result
      → AllAreAcknowledged → model.honest → KeepsAnswered model io handings grouping old new.disk result
  keeps-answered Single runs all h = each-kept runs all h
  keeps-answered (Grouped checkpoints) runs all h = groups-kept checkpoints runs h

-- the same of what a tool hands back
module _ {D : Type 0} (model : DiskModel D) (io : Streams) (handings : Handings) (grouping : Grouping) (old new : D) where
  pub runs-after : (ended : Result Tally SessionFault) → AnswersOn model io grouping old new ended
      → RunsOn model io grouping old (after_session new ended)
  runs-after (Ok tally) answers = answers
  runs-after (Err fault) answers = answers

  pub survives-after : (ended : Result Tally SessionFault) → KeepsAnswered model io handings grouping old new ended
      → SurvivesCrashes model io handings grouping old (after_session new ended)
  survives-after (Ok tally) keeps = keeps
  survives-after (Err fault) keeps = keeps

-- a session runs on a store that was opened
pub opened-after : {D : Type 0} (disk : D) (ended : Result Tally SessionFault) → WasOpened (after_session disk ended)
opened-after disk (Ok tally) = tt
opened-after disk (Err fault) = tt
