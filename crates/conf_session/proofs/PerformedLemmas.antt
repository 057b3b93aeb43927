-- Turns that are performed and flushed, or nothing yet, and what a crash leaves of them.
use Rattle.std.{proofs.Common.{◌≡◌, ◌⊎◌, inl, inr, refl, sym, ◌∙◌, ap, subst, arith, ◌≤◌}, specs.Prelude.{ℕ, false, List, []}}
use Rattle.std.specs.Prelude.{◌∷◌, ◌++◌, length}
use Rattle.conf_session.proofs.Prelude.{append-nil, Image, IsImage, DiskModel, LeavesOnly, Command, Contents, MeansPrefix, HasFlushed}
use Rattle.conf_session.proofs.{Prelude.StoreView, GatherLemmas.joined-none, RequestLemmas.{leaves-same, synced-leaves}}
use Rattle.conf_session.proofs.TurnLemmas.{few-acknowledged, performs-joined, moments-after, kept-after, kept-during}
use Rattle.conf_session.specs.{declared.groups.Grouping.{Grouping, TheVariants.Each}, Replies.MeansPrefixes, Answers.Stored, Runs.stored_of}
use Rattle.conf_session.specs.{Runs.AfterAtLeast, Groups.{Turn, files_of, stored_after_turns, files_after_turns, turns_accepted}}
use Rattle.conf_session.specs.{Groups.acknowledged_turns, Gathering.PerformsTurns}

-- nothing was done, where each piece is a group
pub record Untouched {D : Type 0} (model : DiskModel D) (grouping : Grouping) (old new : StoreView D) (turns : List Turn)
    : Type 0 where
  pub each : grouping ≡ Each
  pub same : new ≡ old
  pub none : turns ≡ []
  pub means : MeansPrefixes model old
  pub any_moment : model.honest → (flushed : Contents) (waiting : List Command)
      → HasFlushed (model.folder old.disk) flushed waiting old.state
      → LeavesOnly model old.disk old.disk (λ image. MeansPrefix flushed waiting image)

-- the turns are performed and flushed, of which there is one at least where each piece is a group
pub record AreFlushed {D : Type 0} (model : DiskModel D) (grouping : Grouping) (old new : StoreView D) (turns : List Turn)
    : Type 0 where
  pub some : grouping ≡ Each → turns ≡ [] → ⊥
  pub performs : PerformsTurns model old new turns

abbrev pub HasPerformed : {D : Type 0} → DiskModel D → Grouping → StoreView D → StoreView D → List Turn → Type 0
HasPerformed model grouping old new turns = Untouched model grouping old new turns ⊎ AreFlushed model grouping old new turns

-- a list that begins with elements is not empty
begun-none : {A : Type 0} (xs ys : List A) → xs ++ ys ≡ [] → xs ≡ []
begun-none [] ys e = refl
begun-none (x ∷ xs) ys e = absurd (cc e)

module _ {D : Type 0} (model : DiskModel D) (grouping : Grouping) (old now : StoreView D) (turns : List Turn) where
  pub performed-stored : HasPerformed model grouping old now turns → stored_of now ≡ stored_after_turns (stored_of old) turns
  performed-stored (inl u) = ap (λ (t : StoreView D). stored_of t) u.same ∙ ap (stored_after_turns (stored_of old)) (sym u.none)
  performed-stored (inr f) = f.performs.stored

  pub performed-files : HasPerformed model grouping old now turns → model.honest
      → files_of model.folder now ≡ files_after_turns (files_of model.folder old) (stored_of old) turns
  performed-files (inl u) h = ap (files_of model.folder) u.same
      ∙ ap (files_after_turns (files_of model.folder old) (stored_of old)) (sym u.none)
  performed-files (inr f) h = f.performs.files h

  -- with the turns of a group
  pub performed-more : (new : StoreView D) (us : List Turn) → HasPerformed model grouping old now turns → (us ≡ [] → ⊥)
      → PerformsTurns model now new us → HasPerformed model grouping old new (turns ++ us)
  performed-more new us (inl u) some next = inr (record {
    some = λ e none. some (joined-none turns us none);
    performs = subst (λ (l : List Turn). PerformsTurns model old new (l ++ us)) (sym u.none)
        (subst (λ (t : StoreView D). PerformsTurns model t new us) u.same next);
  })
  performed-more new us (inr f) some next = inr (record {
    some = λ e none. some (joined-none turns us none);
    performs = performs-joined model old now new turns us f.performs next;
  })

  -- with turns that no request asked for
  pub performed-tended : (new : StoreView D) (us : List Turn) → HasPerformed model grouping old now turns → (grouping ≡ Each → ⊥)
      → PerformsTurns model now new us → HasPerformed model grouping old new (turns ++ us)
  performed-tended new us (inl u) read next = absurd (read u.each)
  performed-tended new us (inr f) read next =
      inr (record { some = λ e. absurd (read e); performs = performs-joined model old now new turns us f.performs next })

  pub performed-sound : old.reopen ≡ false → HasPerformed model grouping old now turns → now.reopen ≡ false
  performed-sound off (inl u) = ap (λ (t : StoreView D). t.reopen) u.same ∙ off
  performed-sound off (inr f) = f.performs.sound

  -- what a crash means now
  pub performed-means : HasPerformed model grouping old now turns → MeansPrefixes model now
  performed-means (inl u) = leaves-same model old now u.same u.means
  performed-means (inr f) = λ h on. synced-leaves (model.folder now.disk) now.state (f.performs.now h)

  module _ (on : old.reopen ≡ false) (h : model.honest) (flushed : Contents) (waiting : List Command)
      (has : HasFlushed (model.folder old.disk) flushed waiting old.state) where
    abbrev from : Stored
    from = stored_of old

    -- what waited, where no turn is performed
    none-accepted : turns ≡ [] → waiting ≡ waiting ++ turns_accepted from turns
    none-accepted none = sym (append-nil waiting) ∙ ap (λ ts. waiting ++ turns_accepted from ts) (sym none)

    -- what a crash leaves of the turns and of what comes after them
    pub performed-moments : HasPerformed model grouping old now turns → (new : StoreView D) (more : List Command)
        → ((flushed : Contents) (waiting : List Command) → HasFlushed (model.folder now.disk) flushed waiting now.state
        → LeavesOnly model now.disk new.disk (λ image. MeansPrefix flushed (waiting ++ more) image))
        → LeavesOnly model old.disk new.disk
        (λ image. MeansPrefix flushed ((waiting ++ turns_accepted from turns) ++ more) image)
    performed-moments (inl u) new more run =
        subst (λ (l : List Command). LeavesOnly model old.disk new.disk (λ image. MeansPrefix flushed (l ++ more) image))
        (none-accepted u.none)
        (subst (λ (t : StoreView D). LeavesOnly model t.disk new.disk (λ image. MeansPrefix flushed (waiting ++ more) image)) u.same
        (run flushed waiting
        (subst (λ (t : StoreView D). HasFlushed (model.folder t.disk) flushed waiting t.state) (sym u.same) has)))
    performed-moments (inr f) new more run =
        moments-after model old now turns f.performs h flushed waiting has new.disk more (run now.state [] (f.performs.flushed h))

    -- a crash during what comes after them
    pub performed-during : (performs : HasPerformed model grouping old now turns) (new : StoreView D) (more : List Command)
        → ((flushed : Contents) (waiting : List Command) → HasFlushed (model.folder now.disk) flushed waiting now.state
        → LeavesOnly model now.disk new.disk (λ image. MeansPrefix flushed (waiting ++ more) image))
        → ((t : ℕ) (image : Image) → t ≤ model.moment new.disk → IsImage (model.folder new.disk) image → model.left new.disk t image)
        → (image : Image) → IsImage (model.folder new.disk) image
        → AfterAtLeast flushed (acknowledged_turns from waiting turns)
        ((waiting ++ turns_accepted from turns) ++ more) image
    performed-during (inl u) new more run counts_now image is =
        let all = performed-moments (inl u) new more run in
        let some = all.each image (counts_now (model.moment old.disk) image all.later is) in
        let least = ap (acknowledged_turns from waiting) u.none in
        record { count = some.count; enough = omega (arith, least); state = some.state; leads = some.leads; means = some.means }
    performed-during (inr f) new more run counts_now image is =
        kept-during model old now turns f.performs h flushed waiting has new.disk more (run now.state [] (f.performs.flushed h))
        counts_now (acknowledged_turns from waiting turns)
        (subst (λ l. acknowledged_turns from waiting turns ≤ length (waiting ++ turns_accepted from l))
        (append-nil turns) (few-acknowledged from waiting turns [])) image is

    -- what a crash leaves of the turns
    pub performed-all : HasPerformed model grouping old now turns
        → LeavesOnly model old.disk now.disk (λ image. MeansPrefix flushed (waiting ++ turns_accepted from turns) image)
    performed-all (inl u) =
        subst (λ (t : StoreView D). LeavesOnly model old.disk t.disk
        (λ image. MeansPrefix flushed (waiting ++ turns_accepted from turns) image)) (sym u.same)
        (subst (λ (l : List Command). LeavesOnly model old.disk old.disk (λ image. MeansPrefix flushed l image))
        (none-accepted u.none) (u.any_moment h flushed waiting has))
    performed-all (inr f) = f.performs.any_moment h flushed waiting has

    -- a crash after them, of which some are answered
    pub performed-kept : HasPerformed model grouping old now turns → (answered more : List Turn) → turns ≡ answered ++ more
        → (image : Image) → IsImage (model.folder now.disk) image
        → AfterAtLeast flushed (acknowledged_turns from waiting answered) (waiting ++ turns_accepted from turns) image
    performed-kept (inl u) answered more all image is =
        let some = u.means h on flushed waiting has image
        (subst (λ (t : StoreView D). IsImage (model.folder t.disk) image) u.same is) in
        let least = ap (acknowledged_turns from waiting) (begun-none answered more (sym all ∙ u.none)) in
        subst (λ (l : List Command). AfterAtLeast flushed (acknowledged_turns from waiting answered) l image)
        (none-accepted u.none)
        (record { count = some.count; enough = omega (arith, least); state = some.state; leads = some.leads; means = some.means })
    performed-kept (inr f) answered more all image is =
        kept-after model old now turns f.performs h flushed waiting has (acknowledged_turns from waiting answered)
        (subst (λ (l : List Turn). acknowledged_turns from waiting answered ≤ length (waiting ++ turns_accepted from l)) (sym all)
        (few-acknowledged from waiting answered more)) image is
