-- Runs of calls of a system, one after the other, and what a disk shows of them.
use Rattle.std.proofs.Common.{◌≡◌, ℕ, ◌≤◌, refl, sym, ◌∙◌, ap, subst, arith, inl, inr, ⊎_elim}
use Rattle.{conf_disk.specs.{Image.{Image, IsImage}, Folder.Folder, Moments.Elapses}, conf_system.specs.Machine.Machine}
use Rattle.{conf_system.specs.{Folders.{folder_of, IsTold}, Models.{SystemModel, Passes}}, conf_protocol.specs.Keeps.IsSafe}
use Rattle.conf_protocol.specs.{Moments.{LeftSince, Changes, Quiet, MayEnd}, MomentsLaws.left_now}

pub Passes-joined : {S : Type 0} (model : SystemModel S) (old mid new : S) (P Q R : Machine → Type 0)
    → Passes model old mid P → Passes model mid new Q → ((m : Machine) → P m → R m) → ((m : Machine) → Q m → R m)
    → Passes model old new R
Passes-joined model old mid new P Q R first second p q = record {
  later = omega (arith, first.later, second.later);
  nothing_else = λ t m le held. ⊎_elim (λ was. ⊎_elim (λ before. inl before) (λ is. inr (p m is)) (first.nothing_else t m le was))
      (λ is. inr (q m is)) (second.nothing_else t m (omega (arith, le, first.later)) held);
  keeps = λ t m le held. second.keeps t m (omega (arith, le, first.later)) (first.keeps t m le held);
}

pub Passes-weaker : {S : Type 0} (model : SystemModel S) (old new : S) (P Q : Machine → Type 0)
    → Passes model old new P → ((m : Machine) → P m → Q m) → Passes model old new Q
Passes-weaker model old new P Q passes weaker = record {
  later = passes.later;
  nothing_else = λ t m le held. ⊎_elim (λ was. inl was) (λ is. inr (weaker m is)) (passes.nothing_else t m le held);
  keeps = passes.keeps;
}

pub Passes-none : {S : Type 0} (model : SystemModel S) (s : S) (P : Machine → Type 0) → Passes model s s P
Passes-none model s P = record { later = omega arith; nothing_else = λ t m le held. inl held; keeps = λ t m le held. held }

-- what is left of the one folder, is left of an equal one
pub same-image : (one other : Machine) (image : Image) → folder_of one ≡ folder_of other → IsImage (folder_of one) image
    → IsImage (folder_of other) image
same-image one other image same is = subst (λ (folder : Folder). IsImage folder image) same is

-- time goes on
pub Elapses-of : {S : Type 0} (model : SystemModel S) (old new : S)
    → ((t : ℕ) → t ≤ model.moment old → model.held old t (model.machine old)) → Changes model old new
    → Elapses (model.moment old) (model.moment new) (LeftSince model old) (LeftSince model new) (IsImage (folder_of (model.machine new)))
Elapses-of model old new holds changes = record {
  later = changes.moments.later;
  nothing_else = λ t image le left. ⊎_elim
      (λ was. inl (record { machine = left.machine; held = was; is = left.is }))
      (λ is. ⊎_elim (λ before. inl (left_now model old t image (holds t le) before)) (λ now. inr now) (is.0 image left.is))
      (changes.moments.nothing_else t left.machine le left.held);
  keeps = λ t image le left. record {
    machine = left.machine;
    held = changes.moments.keeps t left.machine le left.held;
    is = left.is;
  };
}

pub may-end : (old m new : Machine) → m ≡ new → IsSafe new → (IsTold old → IsTold new) → MayEnd old m
may-end old m new is safe told =
    record { safe = subst IsSafe (sym is) safe; told = λ before. subst IsTold (sym is) (told before) }

later-end : (old mid m : Machine) → (IsTold old → IsTold mid) → MayEnd mid m → MayEnd old m
later-end old mid m told end = record { safe = end.safe; told = λ before. end.told (told before) }

-- one call changes the folder
pub Changes-call : {S : Type 0} (model : SystemModel S) (old new : S) → Passes model old new (λ m. m ≡ model.machine new)
    → IsSafe (model.machine new) → (IsTold (model.machine old) → IsTold (model.machine new)) → Changes model old new
Changes-call model old new time safe told = record {
  moments = Passes-weaker model old new (λ m. m ≡ model.machine new) _ time
      (λ m is. (
        λ image left. inr (same-image m (model.machine new) image (ap folder_of is) left),
        may-end (model.machine old) m (model.machine new) is safe told,
      ));
  told = told;
}

-- one call leaves it as it was
pub Quiet-call : {S : Type 0} (model : SystemModel S) (old new : S) → Passes model old new (λ m. m ≡ model.machine new)
    → folder_of (model.machine new) ≡ folder_of (model.machine old) → IsSafe (model.machine new)
    → (IsTold (model.machine old) → IsTold (model.machine new)) → Quiet model old new
Quiet-call model old new time same safe told = record {
  moments = Passes-weaker model old new (λ m. m ≡ model.machine new) _ time
      (λ m is. (ap folder_of is ∙ same, may-end (model.machine old) m (model.machine new) is safe told));
  told = told;
  folder = same;
}

pub Quiet-none : {S : Type 0} (model : SystemModel S) (s : S) → Quiet model s s
Quiet-none model s = record { moments = Passes-none model s _; told = λ is. is; folder = refl }

pub Quiet-joined : {S : Type 0} (model : SystemModel S) (old mid new : S) → Quiet model old mid → Quiet model mid new → Quiet model old new
Quiet-joined model old mid new first second = record {
  moments = Passes-joined model old mid new _ _ _ first.moments second.moments (λ m is. is)
      (λ m is. (is.0 ∙ first.folder, later-end (model.machine old) (model.machine mid) m first.told is.1));
  told = λ is. second.told (first.told is);
  folder = second.folder ∙ first.folder;
}

pub Changes-quiet : {S : Type 0} (model : SystemModel S) (old new : S) → Quiet model old new → Changes model old new
Changes-quiet model old new quiet = record {
  moments = Passes-weaker model old new _ _ quiet.moments
      (λ m is. (λ image left. inl (same-image m (model.machine old) image is.0 left), is.1));
  told = quiet.told;
}

-- nothing of the folder changes, and then something
pub Changes-then : {S : Type 0} (model : SystemModel S) (old mid new : S) → Quiet model old mid → Changes model mid new
    → Changes model old new
Changes-then model old mid new first second = record {
  moments = Passes-joined model old mid new _ _ _ first.moments second.moments
      (λ m is. (λ image left. inl (same-image m (model.machine old) image is.0 left), is.1))
      (λ m is. (
        λ image left. ⊎_elim (λ before. inl (same-image (model.machine mid) (model.machine old) image first.folder before))
            (λ now. inr now) (is.0 image left),
        later-end (model.machine old) (model.machine mid) m first.told is.1,
      ));
  told = λ is. second.told (first.told is);
}

-- something changes, and then nothing more
pub Changes-before : {S : Type 0} (model : SystemModel S) (old mid new : S) → Changes model old mid → Quiet model mid new
    → Changes model old new
Changes-before model old mid new first second = record {
  moments = Passes-joined model old mid new _ _ _ first.moments second.moments
      (λ m is. (
        λ image left. ⊎_elim (λ before. inl before)
            (λ now. inr (same-image (model.machine mid) (model.machine new) image (sym second.folder) now)) (is.0 image left),
        is.1,
      ))
      (λ m is. (
        λ image left. inr (same-image m (model.machine new) image (is.0 ∙ sym second.folder) left),
        later-end (model.machine old) (model.machine mid) m first.told is.1,
      ));
  told = λ is. second.told (first.told is);
}
