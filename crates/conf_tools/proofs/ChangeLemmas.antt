-- What a single change leaves of a store.
use Rattle.std.proofs.Common.{◌≡◌, ◌≢◌, ◌⊎◌, ◌≤◌, ℕ, Bool, true, false, List, [], ◌∷◌, inl, inr, refl, sym, ◌∙◌, ap, subst, arith, length}
use Rattle.std.{proofs.{Common.⊎_elim, Math.Seq.take-length}, specs.Prelude.{Option, Ok}}
use Rattle.conf_tools.proofs.Prelude.{false≢true, Folder, Image, IsImage, DiskModel, LeavesOnly, TimeGoesOn, LeavesOnly-joined}
use Rattle.conf_tools.proofs.Prelude.{LeavesOnly-now, LeavesOnly-weaker, Contents, after, StoreFault, EmptyBatch, BadName, NoConfig, Path}
use Rattle.conf_tools.proofs.Prelude.{Read, TooDeep, ConfigLarge, StoreFull, RecordLong, JournalLong, CountFull, Reopen, Device}
use Rattle.conf_tools.proofs.Prelude.{OutOfMemory, room_for, journal_length, outcome, MeansPrefix, AllImagesMean, NothingWaits, ImageMeans}
use Rattle.conf_tools.{proofs.Prelude.{StoreView, MeantAtEntry, image-meant}, specs.{Stores.OpensOn, declared.changes.Action.Action}}
use Rattle.conf_tools.specs.{declared.changes.Change.{Change, TheVariants.{Act, Checkpoint}}, Changes.{Gives, KeepsChange, Makes}}
use Rattle.conf_tools.specs.Changes.{MeansOneOf, Performs, RefusesChange, with_about}
use Rattle.{yaml_data.specs.declared.tree.Tree.Tree as AboutTree, conf_state.specs.Commands.Command as GivenCommand}
use Rattle.conf_store.proofs.{FileLemmas.read-stays, MeaningLemmas.after-done, StepLemmas.{StepsNeedRoom, accepted-anyway}}

-- ---- which commands a change performs

-- The commands of a change, which lead from one state to another.
pub record Led (change : Change) (before end : Contents) : Type 0 where
  pub commands : List GivenCommand
  pub of : Performs before change commands
  pub leads : after before commands ≡ Ok end

accepted-leads : StepsNeedRoom → (size : ℕ) (s end : Contents) (command : GivenCommand)
    → outcome size s command ≡ Ok end → after s (command ∷ []) ≡ Ok end
accepted-leads room size s end command e = after-done s end command (accepted-anyway room s end command (room_for size s command) e)

-- the command of an action that was accepted, or at which the device failed
act-led : StepsNeedRoom → {D : Type 0} (old : StoreView D) (end : Contents) (action : Action) (about : Option AboutTree)
    (command : GivenCommand) → Gives old.state action command
    → outcome (journal_length old) old.state (with_about about command) ≡ Ok end → Led (Act action about) old.state end
act-led room old end action about command gives steps = record {
  commands = with_about about command ∷ [];
  of = (command, gives, refl);
  leads = accepted-leads room (journal_length old) old.state end (with_about about command) steps;
}

-- a change that was made
pub made-led : StepsNeedRoom → {D : Type 0} (old new : StoreView D) (change : Change) → Makes old change new
    → Led change old.state new.state
made-led room old new (Act action about) made =
    act-led room old new.state action about made.command made.gives made.accepts.step
made-led room old new Checkpoint made = record { commands = []; of = refl; leads = ap Ok (sym made.0) }

-- a change in which the device failed
device-led : StepsNeedRoom → {D : Type 0} (old new : StoreView D) (change : Change)
    → RefusesChange old change new Device → Led change old.state new.state
device-led room old new (Act action about) refuses =
    act-led room old new.state action about refuses.command refuses.gives refuses.refuses
device-led room old new Checkpoint refuses = record { commands = []; of = refl; leads = ap Ok (sym refuses.0) }

is-device : (fault : StoreFault) → (fault ≡ Device) ⊎ (fault ≢ Device)
is-device Device = inl refl
is-device EmptyBatch = inr (λ e. cc)
is-device BadName = inr (λ e. cc)
is-device NoConfig = inr (λ e. cc)
is-device (Path fault) = inr (λ e. cc)
is-device (Read fault) = inr (λ e. cc)
is-device TooDeep = inr (λ e. cc)
is-device ConfigLarge = inr (λ e. cc)
is-device StoreFull = inr (λ e. cc)
is-device RecordLong = inr (λ e. cc)
is-device JournalLong = inr (λ e. cc)
is-device CountFull = inr (λ e. cc)
is-device Reopen = inr (λ e. cc)
is-device OutOfMemory = inr (λ e. cc)

-- ---- what a crash leaves

-- the state before some commands, or after them, is the one after a prefix of them
one-of-prefix : (before end : Contents) (commands : List GivenCommand) → after before commands ≡ Ok end
    → (image : Image) → MeansOneOf before end image → MeansPrefix before commands image
one-of-prefix before end commands leads image (inl means) = record { count = 0; state = before; leads = refl; means = means }
one-of-prefix before end commands leads image (inr means) = record {
  count = length commands;
  state = end;
  leads = ap (after before) (take-length commands) ∙ leads;
  means = means;
}

-- what a crash leaves of a command, where nothing waited
pub command-leaves : NothingWaits → {D : Type 0} (model : DiskModel D) (old new : StoreView D)
    → LeavesOnly model old.disk new.disk (λ image. MeansPrefix old.state [] image ⊎ ImageMeans image new.state)
    → LeavesOnly model old.disk new.disk (MeansOneOf old.state new.state)
command-leaves nothing model old new leaves =
    LeavesOnly-weaker model old.disk new.disk (λ image. MeansPrefix old.state [] image ⊎ ImageMeans image new.state)
    (MeansOneOf old.state new.state)
    leaves (λ image one. ⊎_elim (λ prefix. inl (nothing image.several old.state image.store prefix)) (λ means. inr means) one)

-- and of a checkpoint
pub checkpoint-leaves : NothingWaits → {D : Type 0} (model : DiskModel D) (old new : StoreView D)
    → LeavesOnly model old.disk new.disk (MeansPrefix old.state [])
    → LeavesOnly model old.disk new.disk (MeansOneOf old.state new.state)
checkpoint-leaves nothing model old new leaves =
    LeavesOnly-weaker model old.disk new.disk (MeansPrefix old.state [])
    (MeansOneOf old.state new.state)
    leaves (λ image prefix. inl (nothing image.several old.state image.store prefix))

-- a store that needn't be opened again never says that it has to be
pub never-reopen : (before : Bool) (fault : StoreFault) → before ≡ false → (fault ≡ Reopen → before ≡ true) → fault ≢ Reopen
never-reopen before fault off reopen is = false≢true (sym off ∙ reopen is)

-- what a crash leaves of a look at a file and an opening after it
pub looked-leaves : {D : Type 0} (model : DiskModel D) (old mid new : D)
    → ((t : ℕ) (image : Image) → t ≤ model.moment mid → IsImage (model.folder mid) image → model.left mid t image)
    → ((image : Image) → model.left old (model.moment old) image → IsImage (model.folder old) image)
    → TimeGoesOn model old mid → model.folder mid ≡ model.folder old
    → LeavesOnly model mid new (MeantAtEntry (model.folder mid))
    → LeavesOnly model old new (MeantAtEntry (model.folder old))
looked-leaves model old mid new counts only time same leaves =
    LeavesOnly-joined model old mid new (IsImage (model.folder old))
    (MeantAtEntry (model.folder mid)) (MeantAtEntry (model.folder old))
    (read-stays model old mid counts only time same).any_moment leaves
    (λ image is. image-meant (model.folder old) image is)
    (λ image meant. subst (λ (f : Folder). MeantAtEntry f image) same meant)

module _ {D : Type 0} (model : DiskModel D)
    (old : D) (opened closed : StoreView D) (opens : OpensOn model old opened) (change : Change)
    (leaves : LeavesOnly model opened.disk closed.disk (MeansOneOf opened.state closed.state)) where
  once-open : (commands : List GivenCommand) → after opened.state commands ≡ Ok closed.state
      → LeavesOnly model opened.disk closed.disk (MeansPrefix opened.state commands)
  once-open commands leads =
      LeavesOnly-weaker model opened.disk closed.disk (MeansOneOf opened.state closed.state)
      (MeansPrefix opened.state commands)
      leaves (λ image. one-of-prefix opened.state closed.state commands leads image)

  -- a change that was made is on the disk
  pub keeps-made : StepsNeedRoom → Makes opened change closed → model.honest → AllImagesMean (model.folder closed.disk) closed.state
      → KeepsChange model old change closed.disk true
  keeps-made room made h images =
      let led = made-led room opened closed change made in record {
        start = opened.state;
        means = (opens.opens h).means;
        opened = opened.disk;
        accepted = led.commands;
        of = inr led.of;
        all = λ _. led.of;
        while_opening = opens.at_any_moment h;
        once_open = once-open led.commands led.leads;
        returned = λ image is. record {
          count = length led.commands;
          enough = omega arith;
          state = closed.state;
          leads = ap (after opened.state) (take-length led.commands) ∙ led.leads;
          means = images image is;
        };
      }

  keeps-some : ((t : ℕ) (image : Image) → t ≤ model.moment closed.disk → IsImage (model.folder closed.disk) image
      → model.left closed.disk t image) → model.honest
      → (commands : List GivenCommand) → (commands ≡ []) ⊎ Performs opened.state change commands
      → after opened.state commands ≡ Ok closed.state
      → KeepsChange model old change closed.disk false
  keeps-some counts h commands of leads = record {
    start = opened.state;
    means = (opens.opens h).means;
    opened = opened.disk;
    accepted = commands;
    of = of;
    all = λ e. absurd (cc e);
    while_opening = opens.at_any_moment h;
    once_open = once-open commands leads;
    returned = λ image is.
        (let prefix = LeavesOnly-now model opened.disk closed.disk
        (MeansPrefix opened.state commands) counts (once-open commands leads) image is in
        record { count = prefix.count; enough = omega arith; state = prefix.state; leads = prefix.leads; means = prefix.means });
  }

  -- a change that was refused keeps the state before it, or after it where the device failed
  pub keeps-refused : StepsNeedRoom → ((t : ℕ) (image : Image) → t ≤ model.moment closed.disk
      → IsImage (model.folder closed.disk) image → model.left closed.disk t image) → model.honest
      → (fault : StoreFault) → RefusesChange opened change closed fault → (fault ≢ Device → closed ≡ opened)
      → KeepsChange model old change closed.disk false
  keeps-refused room counts h fault refuses same = elim (is-device fault) [
    | inl device ↦ (let led = device-led room opened closed change
        (subst (λ (f : StoreFault). RefusesChange opened change closed f) device refuses) in
        keeps-some counts h led.commands (inr led.of) led.leads)
    | inr other ↦ keeps-some counts h [] (inl refl) (ap (λ (s : StoreView D). Ok s.state) (sym (same other)))
  ]
