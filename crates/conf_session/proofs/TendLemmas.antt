-- Turns that no request asked for.
use Rattle.std.{proofs.Common.{◌≡◌, refl, sym, ◌∙◌, ap, subst, arith, ◌≤◌, length-drop}, specs.Prelude.{ℕ, ◌+◌, min, false, List, [], ◌∷◌}}
use Rattle.std.specs.Prelude.{◌++◌, length, Option, Some, None, option_map, unwrap_or, Result, Ok, Err}
use Rattle.conf_session.proofs.Prelude.{append-nil, take_all, bytes_under, Image, IsImage, DiskModel, LeavesOnly, Store, LeavesOnly-start}
use Rattle.conf_session.proofs.Prelude.{base_in, Command, Contents, after, ImageMeans, MeansPrefix, AllImagesMean, HasFlushed}
use Rattle.conf_session.proofs.Prelude.{staged_text, Begins, SlicesPart, SlicesLast, Slices, SliceReads, SliceFlushes, Staged}
use Rattle.conf_session.proofs.{Prelude.{staged_length, slice_limit, after_slice, StoreView}, TurnLemmas.quiet-now}
use Rattle.conf_session.specs.declared.{fault.SessionFault.SessionFault, groups.Checkpoints.{Checkpoints, TheVariants.{Asked, After}}}
use Rattle.conf_session.specs.{Groups.{begun, finished, files_of}, Gathering.{PerformsTurns, Tends, TendsByBeginning, TendsBySlice}}
use Rattle.conf_store.specs.{Grown.HasGrown, declared.slicing.Progress.{Progress, TheVariants.{Left, Done}}}

-- ---- where all is flushed

-- commands that lead to the state, all of them, are a prefix
whole-prefix : (flushed s : Contents) (waiting : List Command) (image : Image) → after flushed waiting ≡ Ok s
    → ImageMeans image s → MeansPrefix flushed waiting image
whole-prefix flushed s waiting image leads means = record {
  count = length waiting;
  state = s;
  leads = ap (after flushed) (take_all (length waiting) waiting (omega arith)) ∙ leads;
  means = means;
}

-- the length of a new file, as it is stored
staged-size : (staged : Option Staged) → staged_length staged ≡ unwrap_or (option_map (λ (s : Staged). s.written + length s.left) staged) 0
staged-size None = refl
staged-size (Some staged) = refl

-- a slice leaves the length of the new file
slice-size : (s : Staged) → (after_slice s).written + length (after_slice s).left ≡ s.written + length s.left
slice-size s = (let rest = length-drop (min slice_limit (length s.left)) s.left in omega (arith, rest))

-- after how many bytes a checkpoint is wanted
abbrev due_bytes : Checkpoints → ℕ
due_bytes Asked = 0
due_bytes (After bytes) = bytes

module _ {D : Type 0} (model : DiskModel D) where
  -- nothing is done
  pub stays : (store : StoreView D) → store.reopen ≡ false
      → ((image : Image) → model.honest → model.left store.disk (model.moment store.disk) image → IsImage (model.folder store.disk) image)
      → (model.honest → HasFlushed (model.folder store.disk) store.state [] store.state)
      → (model.honest → AllImagesMean (model.folder store.disk) store.state)
      → PerformsTurns model store store []
  stays store off only flushed means = record {
    sound = off;
    stored = refl;
    files = λ h. refl;
    any_moment = λ h from waiting has. LeavesOnly-start model store.disk _
        (λ image is. whole-prefix from store.state (waiting ++ []) image
        (ap (after from) (append-nil waiting) ∙ has.journal.leads) (means h image (only image h is)));
    flushed = flushed;
    now = means;
  }

  module _ (old new : StoreView D) (state : new.state ≡ old.state)
      (any_moment : model.honest → (flushed : Contents) (waiting : List Command)
      → HasFlushed (model.folder old.disk) flushed waiting old.state
      → LeavesOnly model old.disk new.disk (λ image. MeansPrefix flushed waiting image))
      (flushed : model.honest → HasFlushed (model.folder old.disk) old.state [] old.state)
      (counts_now : (t : ℕ) (image : Image) → model.honest → t ≤ model.moment new.disk
      → IsImage (model.folder new.disk) image → model.left new.disk t image) where
    moments-none : model.honest → (from : Contents) (waiting : List Command)
        → HasFlushed (model.folder old.disk) from waiting old.state
        → LeavesOnly model old.disk new.disk (λ image. MeansPrefix from (waiting ++ []) image)
    moments-none h from waiting has =
        subst (λ (l : List Command). LeavesOnly model old.disk new.disk (λ image. MeansPrefix from l image))
        (sym (append-nil waiting)) (any_moment h from waiting has)

    means-now : model.honest → AllImagesMean (model.folder new.disk) new.state
    means-now h = subst (AllImagesMean (model.folder new.disk)) (sym state)
        (quiet-now model old.disk new.disk old.state (any_moment h old.state [] (flushed h)) (λ t image. counts_now t image h))

    -- the same is flushed
    flushed-now : (model.honest → (from : Contents) (waiting : List Command)
        → HasFlushed (model.folder old.disk) from waiting old.state → HasFlushed (model.folder new.disk) from waiting new.state)
        → model.honest → HasFlushed (model.folder new.disk) new.state [] new.state
    flushed-now waits h = subst (λ (s : Contents). HasFlushed (model.folder new.disk) s [] new.state) (sym state)
        (waits h old.state [] (flushed h))

    -- a checkpoint is begun
    pub begins : Begins old new → (model.honest → bytes_under (model.folder new.disk) Store ≡ bytes_under (model.folder old.disk) Store)
        → (model.honest → staged_text (model.folder new.disk) new.staged ≡ Some (base_in old.format old.state))
        → (model.honest → (from : Contents) (waiting : List Command)
        → HasFlushed (model.folder old.disk) from waiting old.state → HasFlushed (model.folder new.disk) from waiting new.state)
        → PerformsTurns model old new (begun ∷ [])
    begins is reads stages waits =
        let length_of : Option Staged → Option ℕ = option_map (λ (s : Staged). s.written + length s.left) in
        let base = length (base_in old.format old.state) in
        let whole : 0 + base ≡ base = omega arith in
        let staged : length_of new.staged ≡ Some base = ap length_of is.staged ∙ ap Some whole in
        record {
          sound = is.reopen;
          stored = λ i. record { state = state i; size = is.size i; staged = staged i; format = is.format i };
          files = λ h i. record { store = reads h i; staged = stages h i };
          any_moment = moments-none;
          flushed = flushed-now waits;
          now = means-now;
        }

    -- a slice is written, and something is left
    slices-part : (bytes : ℕ) → SlicesPart old bytes new → (model.honest → SliceReads model.folder old new (Left bytes))
        → (model.honest → (from : Contents) (waiting : List Command)
        → HasFlushed (model.folder old.disk) from waiting old.state → HasFlushed (model.folder new.disk) from waiting new.state)
        → PerformsTurns model old new []
    slices-part bytes is reads waits =
        let length_of : Option Staged → Option ℕ = option_map (λ (s : Staged). s.written + length s.left) in
        let same : length_of new.staged ≡ length_of old.staged = ap length_of is.staged
        ∙ ap Some (slice-size is.before) ∙ ap length_of (sym is.ran) in
        record {
          sound = is.reopen;
          stored = λ i. record { state = state i; size = is.size i; staged = same i; format = is.format i };
          files = λ h i. record { store = (reads h).0 i; staged = (reads h).1 i };
          any_moment = moments-none;
          flushed = flushed-now waits;
          now = means-now;
        }

    -- the last slice is written
    slices-last : SlicesLast old new → (model.honest → SliceReads model.folder old new Done)
        → (model.honest → (from : Contents) (waiting : List Command)
        → HasFlushed (model.folder old.disk) from waiting old.state → SliceFlushes model.folder from waiting new Done)
        → PerformsTurns model old new (finished ∷ [])
    slices-last is reads waits =
        let size : new.size ≡ unwrap_or (option_map (λ (s : Staged). s.written + length s.left) old.staged) 0 =
        is.size ∙ staged-size old.staged in
        record {
          sound = is.reopen;
          stored = λ i. record {
            state = state i;
            size = size i;
            staged = option_map (λ (s : Staged). s.written + length s.left) (is.staged i);
            format = is.format i;
          };
          files = λ h i. record { store = reads h i; staged = staged_text (model.folder new.disk) (is.staged i) };
          any_moment = moments-none;
          flushed = λ h. (waits h old.state [] (flushed h)).0;
          now = λ h. (waits h old.state [] (flushed h)).1;
        }

    -- a slice is a turn if it is the last one, and else none
    pub slices : (p : Progress) → Slices old new p → (model.honest → SliceReads model.folder old new p)
        → (model.honest → (from : Contents) (waiting : List Command)
        → HasFlushed (model.folder old.disk) from waiting old.state → SliceFlushes model.folder from waiting new p)
        → TendsBySlice model old new (Ok tt)
    slices (Left bytes) is reads waits = ([], refl, λ count. tt, slices-part bytes is reads waits)
    slices Done is reads waits = (finished ∷ [], refl, λ count. (tt, tt), slices-last is reads waits)

  -- ---- what is wanted

  module _ (old new : StoreView D) (checkpoints : Checkpoints) (bytes : ℕ) (wanted : checkpoints ≡ After bytes) where
    pub tends-slice : (r : Result (Unit {0}) SessionFault) → TendsBySlice model old new r → Tends model checkpoints old new r
    tends-slice (Ok done) t = (λ e. absurd (cc (e, wanted)), (t.0, t.1, λ h other e. t.2 other, t.3))
    tends-slice (Err f) stops = (λ e. absurd (cc (e, wanted)), stops)

    pub tends-beginning : (grown : ℕ) → (model.honest → HasGrown (files_of model.folder old).store grown) → bytes ≤ grown
        → (r : Result (Unit {0}) SessionFault) → TendsByBeginning model old new r → Tends model checkpoints old new r
    tends-beginning grown has le (Ok done) t = (
      λ e. absurd (cc (e, wanted)),
      (
        t.0,
        t.1,
        λ h other e. (let same : other ≡ bytes = ap due_bytes (sym e ∙ wanted) in
            t.2 other grown (has h) (omega (arith, same, le))),
        t.3,
      ),
    )
    tends-beginning grown has le (Err f) stops = (λ e. absurd (cc (e, wanted)), stops)
