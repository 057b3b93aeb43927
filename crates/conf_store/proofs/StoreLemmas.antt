-- What an open store keeps on its disk, and what a crash during its calls leaves.
use Rattle.std.{proofs.Common.{◌≡◌, ◌⊎◌, inl, inr, ⊎_elim, refl, sym, ◌∙◌, ap, subst, arith, ◌≤◌, length-append}, specs.Prelude.{ℕ, true}}
use Rattle.std.specs.Prelude.{false, ◌+◌, ◌&&◌, min, Bool, nat_le, nat_lt, if◌then◌else◌, List, [], ◌∷◌, ◌++◌, length, Some, option_map, Ok}
use Rattle.std.specs.Prelude.{Err}
use Rattle.conf_store.proofs.Prelude.{false≢true, ClosesOnce, byte_len, byte_len-encoded, Folder, with_pending, Image, IsImage, synced_file}
use Rattle.conf_store.proofs.Prelude.{DiskModel, LeavesOnly, greatest, LeavesOnly-start, LeavesOnly-weaker, HoldsStore, HeldIsNoted}
use Rattle.conf_store.proofs.Prelude.{SyncedIsLeft, IsStoreOf, store_limit, Command, single, batch, noted, may_be_long, Contents}
use Rattle.conf_store.proofs.Prelude.{count_limit, IsState, step, after, Room, Enough, LongRecord, IsRecord, IsBase, BasesAreRead}
use Rattle.conf_store.proofs.Prelude.{IsLeftNoted, several_waited, several_after, file_at, BasesClose, BasesFit, RecordsAreRead}
use Rattle.conf_store.proofs.Prelude.{RecordsClose, FitsRecord, record_text, record_bytes, IsCommand, nat_tests, StoreFault}
use Rattle.conf_store.proofs.{MeaningLemmas.{whole-means, base-whole, record-whole, ok-same}, StagedLemmas.means-waiting}
use Rattle.conf_store.proofs.{StepLemmas.{StepsNeedRoom, StepsCount, accepted-anyway, accepted-number}, HeldLemmas.held-journal}
use Rattle.conf_store.proofs.HeldLemmas.{held-images, held-stores, journal-more, journal-synced, none-noted, appended-noted, appended-left}
use Rattle.conf_store.specs.{Accepting.{IsRenewed, IsAccepted, IsBaseOf, IsMeasured}, Calls.{renewed_file, next_number, next_record}}
use Rattle.conf_store.specs.{Calls.{room_for, outcome}, Meaning.{FileMeans, ImageMeans}, Durable.{IsJournal, HasFlushed, HolesMean, IsHeld}}
use Rattle.{conf_store.specs.Durable.{IsDurable, IsWholeStore, AllImagesMean, MeansPrefix}, conf_record.specs.Formats.base_in}
use Rattle.{conf_record.specs.declared.format.Format.{Format, TheVariants.Third}, conf_state.specs.{Commands.has_about, Rooms.record_limit}}
use Rattle.conf_state.specs.{Rooms.room_of, declared.room.Room.TheVariants.Missing}

-- a durable store's images mean its state
pub durable-means : SyncedIsLeft → (folder : Folder) (s : Contents) (size : ℕ) → IsDurable folder s size → AllImagesMean folder s
durable-means left folder s size durable image is =
    let same : image.store ≡ Some durable.bytes = left folder durable.bytes durable.holds image is in
    subst (λ store. FileMeans image.several store s) (sym same)
    (whole-means image.several durable.bytes s durable.whole (omega (arith, durable.long, durable.short)))

-- ---- a base as the new file

-- the bytes of a state's base are a base of it
pub base-of : BasesAreRead → BasesClose → BasesFit → (format : Format) (s : Contents) (bytes : List ℕ) → IsState s
    → bytes ≡ base_in format s → IsBaseOf format s bytes
base-of are_read close fit format s bytes kept is =
    let fits = fit format s kept in
    record {
      is = is;
      closes = subst ClosesOnce (sym is) (close format s);
      reads = subst (λ b. IsBase b s) (sym is) (are_read format s kept);
      short = omega (arith, fits, ap length is);
    }

-- a folder that holds just a state's base holds that state durably
pub base-durable : {format : Format} (folder : Folder) (s : Contents) (bytes : List ℕ) → IsBaseOf format s bytes
    → HoldsStore folder (Some (synced_file bytes)) → IsDurable folder s (length bytes)
base-durable folder s bytes base holds =
    record { bytes = bytes; holds = holds; whole = base-whole bytes s base.closes base.reads; long = refl; short = base.short }

-- a file of a state's base means that state
pub base-file-means : {format : Format} (s : Contents) (bytes : List ℕ) → IsBaseOf format s bytes → (image : Image)
    → image.store ≡ Some bytes → ImageMeans image s
base-file-means s bytes base image same =
    subst (λ b. FileMeans image.several b s) (sym same)
    (whole-means image.several bytes s (base-whole bytes s base.closes base.reads) base.short)

-- ---- before any call of the disk

pub start-prefix : {D : Type 0} (model : DiskModel D) (disk : D) (s : Contents) (size : ℕ) (waits : Bool) → HeldIsNoted → HolesMean
    → ((image : Image) → model.left disk (model.moment disk) image → IsImage (model.folder disk) image)
    → IsHeld (model.folder disk) s size waits → (flushed : Contents) (since : List Command)
    → HasFlushed (model.folder disk) flushed since s
    → LeavesOnly model disk disk (MeansPrefix flushed since)
start-prefix model disk s size waits held_left holes only held flushed since has =
    LeavesOnly-start model disk (MeansPrefix flushed since)
    (λ image is. held-images held_left holes (model.folder disk) s size waits held flushed since has image (only image is))

-- what may also mean another state
pub or-means : {D : Type 0} (model : DiskModel D) (old new : D) (flushed end : Contents) (since : List Command)
    → LeavesOnly model old new (MeansPrefix flushed since)
    → LeavesOnly model old new (λ image. MeansPrefix flushed since image ⊎ ImageMeans image end)
or-means model old new flushed end since leaves =
    LeavesOnly-weaker model old new (MeansPrefix flushed since)
    (λ image. MeansPrefix flushed since image ⊎ ImageMeans image end) leaves (λ image is. inl is)

-- ---- a command that is accepted

within : (n : ℕ) → nat_le n store_limit ≡ true → n ≤ store_limit
within n e = grind (arith, nat_tests)

not-less : {n : ℕ} → nat_lt record_limit n ≡ false → n ≤ record_limit
not-less {n} e = grind (arith, nat_tests)

-- a length that is cut off at the greatest number leaves the same room
room-cut : (is : Bool) (bytes size : ℕ) → room_of is (min bytes greatest) size store_limit ≡ room_of is bytes size store_limit
room-cut is bytes size =
    ap (λ long. if is && long then LongRecord else if nat_le (size + min bytes greatest) store_limit then Enough else Missing) record-cut
    ∙ ap (λ enough. if is && nat_lt record_limit bytes then LongRecord else if enough then Enough else Missing) file-cut
  where
    record-cut : nat_lt record_limit (min bytes greatest) ≡ nat_lt record_limit bytes
    record-cut = grind (arith, nat_tests)

    file-cut : nat_le (size + min bytes greatest) store_limit ≡ nat_le (size + bytes) store_limit
    file-cut = grind (arith, nat_tests)

-- the room for a record whose length was measured
pub room-measured : (command : Command) (number longest bytes : ℕ) (room : Room)
    → room ≡ room_of (may_be_long command) bytes longest store_limit → bytes ≡ min (byte_len (record_text command number)) greatest
    → room ≡ room_of (may_be_long command) (length (record_bytes command number)) longest store_limit
unfolding record_bytes
room-measured command number longest bytes room is measured =
    is
    ∙ ap (λ n. room_of (may_be_long command) n longest store_limit) measured
    ∙ room-cut (may_be_long command) (byte_len (record_text command number)) longest
    ∙ ap (λ n. room_of (may_be_long command) n longest store_limit) (byte_len-encoded (record_text command number))

-- a record that was made before its length was known
pub made-measured : (command : Command) (number longest bytes : ℕ) (text : List ℕ) (room : Room) → IsCommand command
    → room ≡ room_of (may_be_long command) bytes longest store_limit → bytes ≡ length text → text ≡ record_bytes command number
    → IsMeasured command number longest text room
made-measured command number longest bytes text room kept is long same = record {
  measured = is ∙ ap (λ n. room_of (may_be_long command) n longest store_limit) (long ∙ ap length same);
  made = λ enough. (kept, same);
}

-- the room for the next record
pub room-next : (size : ℕ) (s : Contents) (command : Command) (room : Room) (number longest : ℕ)
    → room ≡ room_of (may_be_long command) (length (record_bytes command number)) longest store_limit
    → number ≡ next_number s → longest ≡ size → room ≡ room_for size s command
room-next size s command room number longest is next same =
    is
    ∙ ap (λ n. room_of (may_be_long command) (length (record_bytes command n)) longest store_limit) next
    ∙ ap (λ n. room_of (may_be_long command) (length (record_bytes command (next_number s))) n store_limit) same

-- where there is room, the file with the record is within its limit, and so is the record of a batch
room-fits : (is : Bool) (bytes size : ℕ) → room_of is bytes size store_limit ≡ Enough
    → (size + bytes ≤ store_limit) × (is ≡ true → bytes ≤ record_limit)
room-fits is bytes size e = by is (nat_lt record_limit bytes) refl (nat_le (size + bytes) store_limit) refl e
  where
    by : (is long : Bool) → nat_lt record_limit bytes ≡ long → (short : Bool) → nat_le (size + bytes) store_limit ≡ short
        → (if is && long then LongRecord else if short then Enough else Missing) ≡ Enough
        → (size + bytes ≤ store_limit) × (is ≡ true → bytes ≤ record_limit)
    by true true l short h e = absurd (cc e)
    by true false l false h e = absurd (cc e)
    by false long l false h e = absurd (cc e)
    by true false l true h e = (within (size + bytes) h, λ is. not-less l)
    by false long l true h e = (within (size + bytes) h, λ is. absurd (false≢true is))

-- the record of a batch that has room is read again
fits-record : (command : Command) (number : ℕ)
    → (may_be_long command ≡ true → length (record_bytes command number) ≤ record_limit) → FitsRecord command number
unfolding record_bytes
fits-record (single edit) number short = tt
fits-record (batch edits) number short =
    let same = byte_len-encoded (record_text (batch edits) number) in
    let most = short refl in
    omega (arith, same, most)
fits-record (noted command about) number short =
    let same = byte_len-encoded (record_text (noted command about) number) in
    let most = short refl in
    omega (arith, same, most)

-- a command that is refused has that outcome
pub refused-outcome : (size : ℕ) (s : Contents) (command : Command) (room : Room) (fault : StoreFault)
    → room ≡ room_for size s command → step s command room ≡ Err fault → outcome size s command ≡ Err fault
refused-outcome size s command room fault is refused = ap (step s command) (sym is) ∙ refused

-- a command whose step succeeds is accepted, and its record is as the definitions say
pub accepted : StepsNeedRoom → StepsCount → RecordsAreRead → RecordsClose
    → (s new : Contents) (command : Command) (room : Room) (bytes : List ℕ) (size : ℕ) → IsState s → IsState new
    → (room ≡ Enough → IsCommand command × (bytes ≡ next_record s command)) → step s command room ≡ Ok new
    → room ≡ room_for size s command → IsAccepted s command new size bytes
accepted need_room counts are_read close s new command room bytes size kept kept_new made done is_room =
    let enough = need_room s new command room done in
    let is = (made enough).1 in
    let fits = room-fits (may_be_long command) (length (next_record s command)) size (sym is_room ∙ enough) in
    let number : next_number s ≡ s.count + 1 = accepted-number counts s new command room done kept_new in
    let small : next_number s ≤ count_limit = omega arith in
    let one = are_read s new command room (next_number s) kept (made enough).0 done small (fits-record command (next_number s) fits.1) in
    record {
      outcome = ap (step s command) (sym is_room) ∙ done;
      done = accepted-anyway need_room s new command room done;
      kept = kept_new;
      count = counts s new command room done;
      number = number;
      is = is;
      closes = subst ClosesOnce (sym is) (close command (next_number s));
      reads = subst (IsRecord bytes command) number (subst (λ b. IsRecord b command (next_number s)) (sym is) one);
      short = (let short = fits.0 in omega (arith, short, ap length is));
    }

-- ---- a file that is renewed

-- the record of a command with an about may be long
about-long : (command : Command) → has_about command ≡ true → may_be_long command ≡ true
about-long (single edit) is = is
about-long (batch edits) is = refl
about-long (noted command about) is = refl

-- the new file for a command with an about whose step succeeds is as the definitions say
pub renewed : StepsNeedRoom → StepsCount → RecordsAreRead → RecordsClose → BasesFit
    → (s new : Contents) (command : Command) (room : Room) (more bytes : List ℕ) (size base : ℕ) → has_about command ≡ true → IsState s
    → IsState new → (room ≡ Enough → IsCommand command × (more ≡ next_record s command)) → step s command room ≡ Ok new
    → room ≡ room_for size s command → bytes ≡ base_in Third s ++ more → base ≡ length (base_in Third s)
    → IsRenewed s command new size bytes base
renewed need_room counts are_read close fit s new command room more bytes size base about kept kept_new made done is_room is long =
    let enough = need_room s new command room done in
    let fits = room-fits (may_be_long command) (length (next_record s command)) size (sym is_room ∙ enough) in
    let few = fits.1 (about-long command about) in
    let most = fit Third s kept in
    let both = length-append (base_in Third s) (next_record s command) in
    let whole : bytes ≡ renewed_file s command = is ∙ ap (λ bs. base_in Third s ++ bs) (made enough).1 in
    record {
      accepted = accepted need_room counts are_read close s new command room (next_record s command) size kept kept_new
          (λ e. ((made e).0, refl)) done is_room;
      is = whole;
      long = long;
      short = omega (arith, ap length whole, both, few, most);
    }

-- its base is one, and the whole means the state after the command
pub renewed-base : BasesAreRead → BasesClose → BasesFit → (s : Contents) → IsState s → IsBaseOf Third s (base_in Third s)
renewed-base are_read close fit s kept = base-of are_read close fit Third s (base_in Third s) kept refl

pub renewed-whole : (s new : Contents) (command : Command) (longest base : ℕ) (bytes : List ℕ) → IsBaseOf Third s (base_in Third s)
    → IsRenewed s command new longest bytes base → IsWholeStore bytes new
renewed-whole s new command longest base bytes is renewed =
    subst (λ b. IsWholeStore b new) (sym renewed.is)
    (record-whole (base_in Third s) (next_record s command) s new command (base-whole (base_in Third s) s is.closes is.reads)
    renewed.accepted.closes renewed.accepted.reads renewed.accepted.done)

pub renewed-durable : (folder : Folder) (s new : Contents) (command : Command) (longest base : ℕ) (bytes : List ℕ)
    → IsBaseOf Third s (base_in Third s) → IsRenewed s command new longest bytes base → HoldsStore folder (Some (synced_file bytes))
    → IsDurable folder new (length bytes)
renewed-durable folder s new command longest base bytes is renewed holds = record {
  bytes = bytes;
  holds = holds;
  whole = renewed-whole s new command longest base bytes is renewed;
  long = refl;
  short = renewed.short;
}

-- a crash while it is put in place leaves the state after a prefix of what waits, or after the command
pub renewed-leaves : {D : Type 0} (model : DiskModel D) (old new : D) (folder : Folder) (s end : Contents) (command : Command)
    (size longest base : ℕ) (waits : Bool) (bytes : List ℕ) → HeldIsNoted → HolesMean → IsHeld folder s size waits
    → IsBaseOf Third s (base_in Third s) → IsRenewed s command end longest bytes base
    → (flushed : Contents) (since : List Command) → HasFlushed folder flushed since s
    → LeavesOnly model old new (λ image. IsStoreOf folder image ⊎ (image.store ≡ Some bytes))
    → LeavesOnly model old new (λ image. MeansPrefix flushed since image ⊎ ImageMeans image end)
renewed-leaves model old new folder s end command size longest base waits bytes left holes held is renewed flushed since has run =
    LeavesOnly-weaker model old new (λ image. IsStoreOf folder image ⊎ (image.store ≡ Some bytes))
    (λ image. MeansPrefix flushed since image ⊎ ImageMeans image end) run
    (λ image. ⊎_elim (λ was. inl (held-stores left holes folder s size waits held flushed since has image was))
    (λ same. inr (subst (λ b. FileMeans image.several b end) (sym same)
    (whole-means image.several bytes end (renewed-whole s end command longest base bytes is renewed) renewed.short))))

-- its record, as the definitions number it
accepted-record : (s end : Contents) (command : Command) (longest : ℕ) (more : List ℕ)
    → (ok : IsAccepted s command end longest more) → more ≡ record_bytes command (s.count + 1)
accepted-record s end command longest more ok = ok.is ∙ ap (record_bytes command) ok.number

accepted-short : (folder : Folder) (s end : Contents) (command : Command) (size longest : ℕ) (waits : Bool)
    (more : List ℕ) → (held : IsHeld folder s size waits) → size ≤ longest → IsAccepted s command end longest more
    → length held.file.synced + length held.file.pending + length more ≤ store_limit
accepted-short folder s end command size longest waits more held within ok =
    (let short = ok.short in omega (arith, held.long, within, short))

module _ (old new : Folder) (s end : Contents) (command : Command) (size longest : ℕ) (waits : Bool) (more : List ℕ)
    (held : IsHeld old s size waits) (within : size ≤ longest) (ok : IsAccepted s command end longest more)
    (close : RecordsClose) (note : several_waited new ≡ several_after (several_waited old) (file_at old.files old.now.store))
    (holds : HoldsStore new (option_map (with_pending more) (Some held.file))) where
  -- after its record is appended, every stage has the file with it
  pub append-held : IsHeld new end (size + length more) true
  append-held = record {
    file = with_pending more held.file;
    holds = holds;
    flushed = held.flushed;
    since = held.since ++ command ∷ [];
    journal =
        journal-more held.file held.flushed s end held.since command more held.journal
        (accepted-record s end command longest more ok) ok.reads ok.done
        (accepted-short old s end command size longest waits more held within ok);
    long = omega (arith, held.long, length-append held.file.pending more);
    none = λ quiet. absurd (false≢true (sym quiet));
    noted = appended-noted close old new held.file held.flushed s held.since command note held.holds.is held.journal;
  }

  -- and it waits
  pub append-flushed : (flushed : Contents) (since : List Command) → HasFlushed old flushed since s
      → HasFlushed new flushed (since ++ command ∷ []) end
  append-flushed flushed since has = record {
    file = with_pending more held.file;
    is = holds.is;
    journal =
        journal-more held.file flushed s end since command more (held-journal old s size waits held flushed since has)
        (accepted-record s end command longest more ok) ok.reads ok.done
        (accepted-short old s end command size longest waits more held within ok);
    noted = appended-noted close old new held.file flushed s since command note held.holds.is
        (held-journal old s size waits held flushed since has);
  }

-- a crash while it is appended leaves the state after a prefix of what waits, or after it
pub append-leaves : {D : Type 0} (model : DiskModel D) (old new : D) (folder : Folder) (s end : Contents)
    (command : Command) (size longest : ℕ) (waits : Bool) (more : List ℕ) → HolesMean → RecordsClose
    → (held : IsHeld folder s size waits) → size ≤ longest → IsAccepted s command end longest more
    → (flushed : Contents) (since : List Command) → HasFlushed folder flushed since s
    → LeavesOnly model old new (λ image. IsLeftNoted (several_waited folder) (Some held.file) image
    ⊎ IsLeftNoted (several_after (several_waited folder) (Some held.file)) (option_map (with_pending more) (Some held.file)) image)
    → LeavesOnly model old new (λ image. MeansPrefix flushed since image ⊎ ImageMeans image end)
append-leaves model old new folder s end command size longest waits more holes close held within ok flushed since has run =
    LeavesOnly-weaker model old new (λ image. IsLeftNoted (several_waited folder) (Some held.file) image
    ⊎ IsLeftNoted (several_after (several_waited folder) (Some held.file)) (option_map (with_pending more) (Some held.file)) image)
    (λ image. MeansPrefix flushed since image ⊎ ImageMeans image end) run
    (appended-left holes close (several_waited folder) held.file flushed s end since command more
    (held-journal folder s size waits held flushed since has) has.noted (accepted-record s end command longest more ok) ok.reads ok.done
    (accepted-short folder s end command size longest waits more held within ok))

-- ---- calls that change no meaning

-- a crash leaves an old store, so the state after a prefix of what waits
pub old-prefix : {D : Type 0} (model : DiskModel D) (old new : D) (folder : Folder) (s : Contents) (size : ℕ)
    (waits : Bool) → HeldIsNoted → HolesMean → IsHeld folder s size waits
    → (flushed : Contents) (since : List Command) → HasFlushed folder flushed since s
    → LeavesOnly model old new (IsStoreOf folder)
    → LeavesOnly model old new (MeansPrefix flushed since)
old-prefix model old new folder s size waits held_left holes held flushed since has run =
    LeavesOnly-weaker model old new (IsStoreOf folder) (MeansPrefix flushed since) run
    (held-stores held_left holes folder s size waits held flushed since has)

-- or another file that means the state
pub other-prefix : {D : Type 0} (model : DiskModel D) (old new : D) (folder : Folder) (s : Contents) (size : ℕ)
    (waits : Bool) (P : Image → Type 0) → HeldIsNoted → HolesMean → IsHeld folder s size waits
    → (flushed : Contents) (since : List Command) → HasFlushed folder flushed since s
    → ((image : Image) → P image → ImageMeans image s)
    → LeavesOnly model old new (λ image. IsStoreOf folder image ⊎ P image)
    → LeavesOnly model old new (MeansPrefix flushed since)
other-prefix model old new folder s size waits P held_left holes held flushed since has means run =
    LeavesOnly-weaker model old new (λ image. IsStoreOf folder image ⊎ P image) (MeansPrefix flushed since) run
    (λ image. ⊎_elim (held-stores held_left holes folder s size waits held flushed since has image)
    (λ other. means-waiting image.several held.file flushed s since image.store
    (held-journal folder s size waits held flushed since has) (means image other)))

-- the same file in another folder
pub held-along : (old new : Folder) (s : Contents) (size : ℕ) (waits : Bool) → (held : IsHeld old s size waits)
    → HoldsStore new (Some held.file) → several_waited new ≡ several_waited old → IsHeld new s size waits
held-along old new s size waits held holds note =
    record {
      file = held.file;
      holds = holds;
      flushed = held.flushed;
      since = held.since;
      journal = held.journal;
      long = held.long;
      none = held.none;
      noted = λ quiet. held.noted (sym note ∙ quiet);
    }

pub flushed-along : (old new : Folder) (s : Contents) (size : ℕ) (waits : Bool) → (held : IsHeld old s size waits)
    → HoldsStore new (Some held.file) → several_waited new ≡ several_waited old → (flushed : Contents) (since : List Command)
    → HasFlushed old flushed since s → HasFlushed new flushed since s
flushed-along old new s size waits held holds note flushed since has = record {
  file = held.file;
  is = holds.is;
  journal = held-journal old s size waits held flushed since has;
  noted = λ quiet. has.noted (sym note ∙ quiet);
}

-- a durable store has flushed its state, and none waits
pub durable-flushed : (folder : Folder) (s : Contents) (size : ℕ) → IsDurable folder s size → HasFlushed folder s [] s
durable-flushed folder s size durable = record {
  file = synced_file durable.bytes;
  is = durable.holds.is;
  journal = journal-synced durable.bytes s durable.whole (let short = durable.short in omega (arith, durable.long, short));
  noted = none-noted (several_waited folder);
}

-- where none waits, the state is flushed
pub quiet-flushed : (folder : Folder) (s : Contents) (size : ℕ) (waits : Bool) → (held : IsHeld folder s size waits)
    → waits ≡ false → HasFlushed folder s [] s
quiet-flushed folder s size waits held quiet =
    let none = held.none quiet in
    let leads : after held.flushed [] ≡ Ok s = ap (after held.flushed) (sym none) ∙ held.journal.leads in
    let same : held.flushed ≡ s = ok-same held.flushed s (Ok held.flushed) refl leads in
    record {
      file = held.file;
      is = held.holds.is;
      journal = subst (λ f. IsJournal held.file f [] s) same (subst (λ cs. IsJournal held.file held.flushed cs s) none held.journal);
      noted = none-noted (several_waited folder);
    }
