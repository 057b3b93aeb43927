-- What becomes of the notes in `store.lock`.
use Rattle.std.proofs.Common.{◌≡◌, ℕ, zero, suc, List, [], ◌∷◌, ◌++◌, Bool, true, false, ◌&&◌, refl, sym, ◌∙◌, ap, subst}
use Rattle.std.specs.Prelude.{Result, MatchResult}
use Rattle.conf_system.specs.{declared.system.{Note.Note, FileName.TheVariants.Store}, Machine.{Machine, Call, notes_of, all_several}}
use Rattle.conf_system.specs.Machine.{WriteNote, SyncNote, SyncFolder, after, after_reading, failing, under, are_linked}
use Rattle.{conf_system.specs.{Models.{SystemModel, Passes}, Folders.{folder_of, IsTold}}, conf_protocol.specs.Keeps.{IsSafe, IsSure}}
use Rattle.conf_protocol.specs.{Keeps.{Knows, HasSameNotes, is_so, may_change, is_kept, HasOneStore}, Moments.Quiet}
use Rattle.conf_protocol.specs.declared.run.{Bytes.{Bytes, TheVariants.{OnDevice, Unsure}}, Names.{Names, TheVariants.{Settled, Changed}}}
use Rattle.conf_protocol.proofs.{Frames.{plain-settled, one-alone}, Known.{and-first, and-second, safe-off}, Moving.Quiet-call}
use Rattle.conf_protocol.proofs.Shown.{call-either}

pub all-push : (notes : List Note) (note : Note) → all_several notes ≡ true → note.several ≡ true
    → all_several (notes ++ note ∷ []) ≡ true
all-push [] note all several = ap (λ (b : Bool). b && true) several
all-push (first ∷ notes) note all several =
    ap (λ (b : Bool). b && all_several (notes ++ note ∷ [])) (and-first first.several (all_several notes) all)
    ∙ all-push notes note (and-second first.several (all_several notes) all) several

pub all-last : (notes : List Note) (note : Note) → all_several (notes ++ note ∷ []) ≡ true → note.several ≡ true
all-last [] note all = and-first note.several true all
all-last (first ∷ notes) note all = all-last notes note (and-second first.several (all_several (notes ++ note ∷ [])) all)

-- a note is written
pub knows-noted : (store next : Bytes) (names : Names) (several : Bool) (m : Machine) (note : Note)
    → (several ≡ true → note.several ≡ true) → Knows store next names several m
    → Knows store next names several (after (WriteNote note) m)
knows-noted store next names several m note more known = record {
  one = known.one;
  plain = known.plain;
  apart = known.apart;
  settled = known.settled;
  store_so = known.store_so;
  next_so = known.next_so;
  noted = known.noted;
  told = λ able is. all-push (notes_of m) note (known.told able is) (more is);
}

pub knows-note_part : (store next : Bytes) (names : Names) (several : Bool) (m : Machine) (note : Note)
    → (several ≡ true → note.several ≡ true) → Knows store next names several m → (k : ℕ)
    → Knows store next names several (failing k (WriteNote note) m)
knows-note_part store next names several m note more known zero = known
knows-note_part store next names several m note more known (suc k) = knows-noted store next names several m note more known

pub safe-note_part : (m : Machine) (note : Note) → note.on_device ≡ false → IsSafe m → (k : ℕ)
    → IsSafe (failing k (WriteNote note) m)
safe-note_part m note off safe zero = safe
safe-note_part m note off safe (suc k) = safe-off (after (WriteNote note) m) off

-- the note is synced
pub knows-note_synced : (store next : Bytes) (names : Names) (several : Bool) (m : Machine)
    → Knows store next names several m → Knows store next names several (after SyncNote m)
knows-note_synced store next names several m known = record {
  one = known.one;
  plain = known.plain;
  apart = known.apart;
  settled = known.settled;
  store_so = known.store_so;
  next_so = known.next_so;
  noted = known.noted;
  told = λ able is. ap (λ (b : Bool). b && true) (all-last m.notes m.note (known.told able is));
}

pub safe-note_synced : (m : Machine) → IsSafe m → IsSafe (after SyncNote m)
safe-note_synced m safe on =
    let sure = safe on in
    record {
      one = sure.one;
      plain = sure.plain;
      apart = sure.apart;
      store = sure.store;
      told = λ is. ap (λ (b : Bool). b && true) is;
    }

pub knows-sync_part : (store next : Bytes) (names : Names) (several : Bool) (m : Machine)
    → Knows store next names several m → (k : ℕ) → Knows store next names several (failing k SyncNote m)
knows-sync_part store next names several m known zero = known
knows-sync_part store next names several m known (suc k) = knows-note_synced store next names several m known

pub safe-sync_part : (m : Machine) → IsSafe m → (k : ℕ) → IsSafe (failing k SyncNote m)
safe-sync_part m safe zero = safe
safe-sync_part m safe (suc k) = safe-note_synced m safe

-- the note that the device has all bytes
pub safe-on : (store next : Bytes) (names : Names) (m : Machine) (note : Note) → store ≡ OnDevice → is_kept names ≡ true
    → may_change names ≡ true
    → Knows store next names note.several m → IsSafe m → (k : ℕ) → IsSafe (failing k (WriteNote note) m)
safe-on store next names m note device kept may known safe zero = safe
safe-on store next names m note device kept may known safe (suc k) = λ on. record {
  one = known.one kept;
  plain = known.plain may;
  apart = known.apart may;
  store = ap (λ (b : Bytes). is_so b (under m Store)) (sym device) ∙ known.store_so;
  told = λ is. all-push (notes_of m) note (known.told may is) is;
}

-- nothing of the folder changes
pub note-folder : (m : Machine) (note : Note) (k : ℕ) → folder_of (failing k (WriteNote note) m) ≡ folder_of m
note-folder m note zero = refl
note-folder m note (suc k) = refl

-- a call that fails or not, of which only the notes tell, and nothing of the folder changes
pub Quiet-noted : {S E : Type 0} (model : SystemModel S) (call : Call) (old new : S) (result : Result (Unit {0}) E)
    → MatchResult result (λ _. model.machine new ≡ after call (model.machine old))
    (λ _. (k : ℕ) × (model.machine new ≡ failing k call (model.machine old)))
    → Passes model old new (λ m. m ≡ model.machine new)
    → folder_of (after call (model.machine old)) ≡ folder_of (model.machine old)
    → ((k : ℕ) → folder_of (failing k call (model.machine old)) ≡ folder_of (model.machine old))
    → IsSafe (model.machine new) → (IsTold (model.machine old) → IsTold (model.machine new)) → Quiet model old new
Quiet-noted model call old new result change time done part safe told =
    Quiet-call model old new time
    (call-either call (model.machine old) (model.machine new) result (λ m. folder_of m ≡ folder_of (model.machine old)) change done part)
    safe told

-- what a run goes by once it has read a note
pub record IsNoted (note : Note) (m : Machine) : Type 0 where
  pub is : m.note ≡ note
  pub noted : m.noted m.now.store ≡ note.several
  pub told : note.several ≡ true → all_several (notes_of m) ≡ true

pub noted-same : (note : Note) (old new : Machine) → HasSameNotes old new → IsNoted note old → IsNoted note new
noted-same note old new same noted = record {
  is = same.note ∙ noted.is;
  noted = (λ i. same.noted i (same.store i)) ∙ noted.noted;
  told = λ several. (λ i. all_several (same.notes i ++ same.note i ∷ [])) ∙ noted.told several;
}

-- and once the folder is synced too
pub knows-opened : (note : Note) (old new : Machine) → IsNoted note old → are_linked old.now.store old.now.next ≡ false
    → new ≡ after SyncFolder old → Knows Unsure Unsure Settled note.several new
knows-opened note old new noted apart is = subst (Knows Unsure Unsure Settled note.several) (sym is) (record {
  one = λ kept. one-alone old.now;
  plain = λ may. plain-settled old.files;
  apart = λ may. apart;
  settled = λ same. refl;
  store_so = refl;
  next_so = refl;
  noted = λ has. sym noted.noted ∙ has;
  told = λ may. noted.told;
})

-- a note is written, or not, that tells of each appends that waited
told-noted : (m : Machine) (note : Note) → HasOneStore m → (m.noted m.now.store ≡ true → note.several ≡ true) → IsTold m
    → IsTold (after (WriteNote note) m)
told-noted m note one more told = λ stage among is.
    all-push (notes_of m) note (told stage among is) (more (ap m.noted (sym (one stage among)) ∙ is))

pub told-note_part : (m : Machine) (note : Note) → HasOneStore m → (m.noted m.now.store ≡ true → note.several ≡ true) → IsTold m
    → (k : ℕ) → IsTold (failing k (WriteNote note) m)
told-note_part m note one more told zero = told
told-note_part m note one more told (suc k) = told-noted m note one more told

pub sync-note : (m : Machine) (k : ℕ) → (failing k SyncNote m).note ≡ m.note
sync-note m zero = refl
sync-note m (suc k) = refl

-- what a run knows that finds that the device has all bytes
pub knows-sure : (note : Note) (old new : Machine) → note ≡ old.note → new ≡ after_reading note old → IsSure old
    → Knows OnDevice Unsure Changed note.several new
knows-sure note old new same is sure = subst (Knows OnDevice Unsure Changed note.several) (sym is) (record {
  one = λ kept. sure.one;
  plain = λ may. sure.plain;
  apart = λ may. sure.apart;
  settled = λ settled. cc;
  store_so = sure.store;
  next_so = refl;
  noted = λ has. has;
  told = λ may several. sure.told (ap (λ (n : Note). n.several) (sym same) ∙ several);
})

pub safe-read : (note : Note) (old new : Machine) → new ≡ after_reading note old → IsSafe old → IsSafe new
safe-read note old new is safe = subst IsSafe (sym is) (λ on. read (safe on))
  where
    read : IsSure old → IsSure (after_reading note old)
    read sure = record { one = sure.one; plain = sure.plain; apart = sure.apart; store = sure.store; told = sure.told }
