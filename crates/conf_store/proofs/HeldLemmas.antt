-- What an open store has on its disk, with commands that wait for a flush, and what a crash leaves of it.
use Rattle.std.{proofs.Common.{◌≡◌, ◌⊎◌, inl, inr, refl, sym, ◌∙◌, ap, subst, arith, ◌≤◌, append_assoc, length-append}, specs.Prelude.ℕ}
use Rattle.std.specs.Prelude.{zero, suc, true, false, ◌+◌, ◌||◌, Bool, List, [], ◌∷◌, ◌++◌, length, take, Option, Some, None, option_map}
use Rattle.std.specs.Prelude.{Ok}
use Rattle.conf_store.proofs.Prelude.{append-nil, take-append-le, take_all, All-nil, cases_lt, ClosesOnce, Pieces, File, Folder}
use Rattle.conf_store.proofs.Prelude.{with_pending, synced_whole, synced_file, HoldsStore, IsLeftOf, IsLeftNoted, HeldIsNoted, IsStoreOf}
use Rattle.conf_store.proofs.Prelude.{Image, IsWorn, Zeroed, several_waited, several_after, any_bytes, file_at, store_limit, Command}
use Rattle.conf_store.proofs.Prelude.{Contents, step, after, after-count, Enough, OnePieces, OneBase, OneRecord, IsRecord, RecordsClose}
use Rattle.conf_store.proofs.{Prelude.{record_pieces, records_bytes, record_bytes}, PieceLemmas.{pieces-joined, pieces-one, no_closing}}
use Rattle.conf_store.proofs.MeaningLemmas.{records-joined, after-joined, after-done, pieces-mean-more, pieces-mean-one, one-list, ok-same}
use Rattle.conf_store.specs.{Meaning.{AreRecords, PiecesMean, FileMeans, ImageMeans}, Durable.{IsWholeStore, IsJournal, HasFlushed, IsHeld}}
use Rattle.conf_store.specs.Durable.{IsDurable, AllImagesMean, AfterPrefix, AllImagesAfterPrefix, HolesMean, IsNoted, MeansPrefix}
use Rattle.conf_store.specs.{Changing.{flushed_with, waiting_with}, Durable.{OneFlushed, NothingWaits}}

-- ---- what a crash leaves

-- what a crash leaves of pending bytes is the same relation as that of the laws on zeros
worn-zeroed : (pending left : List ℕ) → IsWorn pending left → Zeroed pending left
worn-zeroed pending [] worn = tt
worn-zeroed [] (b ∷ left) worn = absurd worn
worn-zeroed (p ∷ pending) (b ∷ left) worn = (worn.0, worn-zeroed pending left worn.1)

-- of a file that is a journal
pub journal-images : HolesMean → (several : Bool) (file : File) (flushed s : Contents) (since : List Command)
    → IsJournal file flushed since s → IsNoted several since → (store : Option (List ℕ)) → IsLeftOf (Some file) store
    → AfterPrefix several flushed since store
journal-images holes several file flushed s since journal noted None left = absurd left
journal-images holes several file flushed s since journal noted (Some torn) left =
    subst (λ b. AfterPrefix several flushed since (Some b)) (sym left.is)
    (holes several file flushed s since left.left journal noted (worn-zeroed file.pending left.left left.worn))

-- of a file that is a journal, and its note
pub noted-images : HolesMean → (several : Bool) (file : File) (flushed s : Contents) (since : List Command)
    → IsJournal file flushed since s → IsNoted several since → (image : Image) → IsLeftNoted several (Some file) image
    → MeansPrefix flushed since image
noted-images holes several file flushed s since journal noted image is =
    journal-images holes image.several file flushed s since journal (λ quiet. noted (is.noted quiet)) image.store is.left

-- the file that every stage has is the one of the last stage
pub held-journal : (folder : Folder) (s : Contents) (size : ℕ) (waits : Bool) → (held : IsHeld folder s size waits)
    → (flushed : Contents) (since : List Command) → HasFlushed folder flushed since s
    → IsJournal held.file flushed since s
held-journal folder s size waits held flushed since has =
    let same : Some has.file ≡ Some held.file = sym has.is ∙ held.holds.is in
    let file : has.file ≡ held.file = cc same in
    subst (λ f. IsJournal f flushed since s) file has.journal

-- and what is flushed can be found
pub held-flushed : (folder : Folder) (s : Contents) (size : ℕ) (waits : Bool) → (held : IsHeld folder s size waits)
    → HasFlushed folder held.flushed held.since s
held-flushed folder s size waits held = record { file = held.file; is = held.holds.is; journal = held.journal; noted = held.noted }

-- a crash leaves the state after a prefix of what was submitted
pub held-images : HeldIsNoted → HolesMean → (folder : Folder) (s : Contents) (size : ℕ) (waits : Bool)
    → IsHeld folder s size waits → (flushed : Contents) (since : List Command)
    → HasFlushed folder flushed since s → AllImagesAfterPrefix folder flushed since
held-images left holes folder s size waits held flushed since has image is =
    noted-images holes (several_waited folder) held.file flushed s since (held-journal folder s size waits held flushed since has) has.noted
    image (left folder (Some held.file) held.holds image is)

-- the same of a store that some image has
pub held-stores : HeldIsNoted → HolesMean → (folder : Folder) (s : Contents) (size : ℕ) (waits : Bool)
    → IsHeld folder s size waits → (flushed : Contents) (since : List Command)
    → HasFlushed folder flushed since s → (image : Image) → IsStoreOf folder image → MeansPrefix flushed since image
held-stores left holes folder s size waits held flushed since has image is =
    subst (λ several. AfterPrefix several flushed since image.store) is.noted
    (subst (AfterPrefix is.left.several flushed since) is.same
    (held-images left holes folder s size waits held flushed since has is.left is.is))

-- ---- where nothing was submitted since

take-nothing : (k : ℕ) → let none : List Command = [] in take k none ≡ none
take-nothing zero = refl
take-nothing (suc k) = refl

-- the state after a prefix of no commands is the state
pub after-nothing : NothingWaits
after-nothing several s store some =
    let leads : after s [] ≡ Ok some.state = ap (after s) (sym (take-nothing some.count)) ∙ some.leads in
    subst (FileMeans several store) (sym (ok-same s some.state (Ok s) refl leads)) some.means

-- whatever a crash leaves means the state
pub held-means : HeldIsNoted → HolesMean → (folder : Folder) (s : Contents) (size : ℕ) (waits : Bool)
    → IsHeld folder s size waits → waits ≡ false → AllImagesMean folder s
held-means left holes folder s size waits held quiet image is =
    let none = held.none quiet in
    let leads : after held.flushed [] ≡ Ok s = ap (after held.flushed) (sym none) ∙ held.journal.leads in
    let same : held.flushed ≡ s = ok-same held.flushed s (Ok held.flushed) refl leads in
    subst (ImageMeans image) same
    (after-nothing image.several held.flushed image.store
    (subst (λ cs. MeansPrefix held.flushed cs image) none
    (noted-images holes (several_waited folder) held.file held.flushed s held.since held.journal held.noted image
    (left folder (Some held.file) held.holds image is))))

-- of no commands nothing has to be noted
pub none-noted : (several : Bool) → let none : List Command = [] in IsNoted several none
none-noted several quiet = omega arith

-- a journal without pending records
pub journal-synced : (bytes : List ℕ) (s : Contents) → IsWholeStore bytes s → length bytes ≤ store_limit
    → IsJournal (synced_file bytes) s [] s
journal-synced bytes s whole short = record { whole = whole; pending = refl; are_records = tt; leads = refl; short = omega (arith, short) }

-- a durable store has nothing that waits
pub durable-held : (folder : Folder) (s : Contents) (size : ℕ) (waits : Bool) → IsDurable folder s size → IsHeld folder s size waits
durable-held folder s size waits durable = record {
  file = synced_file durable.bytes;
  holds = durable.holds;
  flushed = s;
  since = [];
  journal = journal-synced durable.bytes s durable.whole (omega (arith, durable.long, durable.short));
  long = omega (arith, durable.long);
  none = λ quiet. refl;
  noted = none-noted (several_waited folder);
}

-- ---- one command more

record-pieces-more : (count : ℕ) (commands : List Command) (command : Command)
    → record_pieces count (commands ++ command ∷ [])
    ≡ record_pieces count commands ++ record_bytes command (count + length commands + 1) ∷ []
record-pieces-more count [] command = ap (λ n. record_bytes command n ∷ []) (omega arith)
record-pieces-more count (c ∷ cs) command =
    ap (λ l. record_bytes c (count + 1) ∷ l)
    (record-pieces-more (count + 1) cs command ∙ ap (λ n. record_pieces (count + 1) cs ++ record_bytes command n ∷ []) (omega arith))

records-bytes-more : (count : ℕ) (commands : List Command) (command : Command)
    → records_bytes count (commands ++ command ∷ [])
    ≡ records_bytes count commands ++ record_bytes command (count + length commands + 1)
records-bytes-more count [] command = append-nil (record_bytes command (count + 1)) ∙ ap (record_bytes command) (omega arith)
records-bytes-more count (c ∷ cs) command =
    ap (λ l. record_bytes c (count + 1) ++ l)
    (records-bytes-more (count + 1) cs command ∙ ap (λ n. records_bytes (count + 1) cs ++ record_bytes command n) (omega arith))
    ∙ sym (append_assoc (record_bytes c (count + 1)) (records_bytes (count + 1) cs) (record_bytes command (count + length (c ∷ cs) + 1)))

-- a journal with the record of the next command
pub journal-more : (file : File) (flushed s end : Contents) (since : List Command) (command : Command) (more : List ℕ)
    → IsJournal file flushed since s → more ≡ record_bytes command (s.count + 1)
    → IsRecord more command (s.count + 1) → step s command Enough ≡ Ok end
    → length file.synced + length file.pending + length more ≤ store_limit
    → IsJournal (with_pending more file) flushed (since ++ command ∷ []) end
journal-more file flushed s end since command more journal is reads done short =
    let count : s.count ≡ flushed.count + length since = after-count flushed s since journal.leads in
    let number : s.count + 1 ≡ flushed.count + length since + 1 = omega (arith, count) in
    let here : more ≡ record_bytes command (flushed.count + length since + 1) = is ∙ ap (record_bytes command) number in
    record {
      whole = journal.whole;
      pending =
          ap (λ l. l ++ more) journal.pending ∙ ap (λ l. records_bytes flushed.count since ++ l) here
          ∙ sym (records-bytes-more flushed.count since command);
      are_records =
          subst (λ ps. AreRecords flushed.count ps (since ++ command ∷ [])) (sym (record-pieces-more flushed.count since command))
          (records-joined flushed.count (record_pieces flushed.count since)
          (record_bytes command (flushed.count + length since + 1) ∷ []) since (command ∷ []) journal.are_records
          (subst (λ b. IsRecord b command (flushed.count + length since + 1)) here (subst (IsRecord more command) number reads), tt));
      leads = after-joined flushed s end since (command ∷ []) journal.leads (after-done s end command done);
      short = omega (arith, short, length-append file.pending more);
    }

-- the state after a prefix of one command more: after a prefix of the others, or after all
pub prefix-last : (several : Bool) (flushed end : Contents) (since : List Command) (command : Command) (store : Option (List ℕ))
    → after flushed (since ++ command ∷ []) ≡ Ok end → AfterPrefix several flushed (since ++ command ∷ []) store
    → AfterPrefix several flushed since store ⊎ FileMeans several store end
prefix-last several flushed end since command store leads some = elim (cases_lt (length since) some.count) [
  | inl all ↦
      let whole : take some.count (since ++ command ∷ []) ≡ since ++ command ∷ [] =
      take_all some.count (since ++ command ∷ []) (omega (arith, all, length-append since (command ∷ []))) in
      let here : after flushed (since ++ command ∷ []) ≡ Ok some.state = ap (after flushed) (sym whole) ∙ some.leads in
      inr (subst (FileMeans several store) (ok-same some.state end (after flushed (since ++ command ∷ [])) here leads) some.means)
  | inr few ↦
      let fewer : take some.count (since ++ command ∷ []) ≡ take some.count since =
      take-append-le some.count since (command ∷ []) (omega (arith, few)) in
      inl (record { count = some.count; state = some.state; leads = ap (after flushed) (sym fewer) ∙ some.leads; means = some.means })
]

-- the same of a command whose record may renew the file
pub prefix-with : (renewed several : Bool) (flushed end : Contents) (since : List Command) (command : Command) (store : Option (List ℕ))
    → after (flushed_with renewed flushed end) (waiting_with renewed since command) ≡ Ok end
    → AfterPrefix several (flushed_with renewed flushed end) (waiting_with renewed since command) store
    → AfterPrefix several flushed since store ⊎ FileMeans several store end
prefix-with false several flushed end since command store leads some = prefix-last several flushed end since command store leads some
prefix-with true several flushed end since command store leads some = inr (after-nothing several end store some)

pub prefix-more : (several : Bool) (flushed s end : Contents) (since : List Command) (command : Command) (store : Option (List ℕ))
    → after flushed since ≡ Ok s → step s command Enough ≡ Ok end → AfterPrefix several flushed (since ++ command ∷ []) store
    → AfterPrefix several flushed since store ⊎ FileMeans several store end
prefix-more several flushed s end since command store leads done =
    prefix-last several flushed end since command store (after-joined flushed s end since (command ∷ []) leads
    (after-done s end command done))

-- the same the other way round
pub prefix-longer : (flushed : Contents) (since more : List Command) (image : Image) → MeansPrefix flushed since image
    → MeansPrefix flushed (since ++ more) image
prefix-longer flushed since more image some = elim (cases_lt (length since) some.count) [
  | inl all ↦
      let whole : take some.count since ≡ since = take_all some.count since (omega (arith, all)) in
      let upto : take (length since) (since ++ more) ≡ since = take-append-le (length since) since more (omega arith)
      ∙ take_all (length since) since (omega arith) in
      record { count = length since; state = some.state; leads = ap (after flushed) (upto ∙ sym whole) ∙ some.leads; means = some.means }
  | inr few ↦
      let fewer : take some.count (since ++ more) ≡ take some.count since = take-append-le some.count since more (omega (arith, few)) in
      record { count = some.count; state = some.state; leads = ap (after flushed) fewer ∙ some.leads; means = some.means }
]

-- ---- the note of an append

some-bytes : (bytes : List ℕ) → ClosesOnce bytes → bytes ≡ [] → ⊥
some-bytes bytes closes none = absurd (let end = closes.closes.ends in omega (arith, end, ap length none))

-- where no bytes are pending, no command waits
none-pending : RecordsClose → (file : File) (flushed s : Contents) (since : List Command) → IsJournal file flushed since s
    → file.pending ≡ [] → since ≡ []
none-pending close file flushed s [] journal none = refl
none-pending close file flushed s (c ∷ cs) journal none =
    absurd (some-bytes (record_bytes c (flushed.count + 1)) (close c (flushed.count + 1))
    (front-none (record_bytes c (flushed.count + 1)) (records_bytes (flushed.count + 1) cs) (sym journal.pending ∙ none)))
  where
    front-none : (a b : List ℕ) → a ++ b ≡ [] → a ≡ []
    front-none [] b e = refl
    front-none (x ∷ xs) b e = absurd (cc e)

none-waits : (several : Bool) (file : File) → several_after several (Some file) ≡ false → file.pending ≡ []
none-waits several file quiet = by several file.pending quiet
  where
    by : (noted : Bool) (pending : List ℕ) → (noted || any_bytes pending) ≡ false → pending ≡ []
    by noted [] e = refl
    by true (b ∷ bs) e = absurd (cc e)
    by false (b ∷ bs) e = absurd (cc e)

-- a record that is appended behind pending bytes is noted
pub append-noted : RecordsClose → (several : Bool) (file : File) (flushed s : Contents) (since : List Command) (command : Command)
    → IsJournal file flushed since s → IsNoted (several_after several (Some file)) (since ++ command ∷ [])
append-noted close several file flushed s since command journal quiet =
    let none : since ≡ [] = none-pending close file flushed s since journal (none-waits several file quiet) in
    omega (arith, length-append since (command ∷ []), ap length none)

-- the same of the folder after it
pub appended-noted : RecordsClose → (old new : Folder) (file : File) (flushed s : Contents) (since : List Command) (command : Command)
    → several_waited new ≡ several_after (several_waited old) (file_at old.files old.now.store)
    → file_at old.files old.now.store ≡ Some file → IsJournal file flushed since s
    → IsNoted (several_waited new) (since ++ command ∷ [])
appended-noted close old new file flushed s since command note is journal =
    let noted : several_waited new ≡ several_after (several_waited old) (Some file) =
    note ∙ ap (several_after (several_waited old)) is in
    subst (λ several. IsNoted several (since ++ command ∷ [])) (sym noted)
    (append-noted close (several_waited old) file flushed s since command journal)

-- what a crash leaves while a record is appended
pub appended-left : HolesMean → RecordsClose → (several : Bool) (file : File) (flushed s end : Contents) (since : List Command)
    (command : Command) (more : List ℕ) → IsJournal file flushed since s → IsNoted several since
    → more ≡ record_bytes command (s.count + 1) → IsRecord more command (s.count + 1) → step s command Enough ≡ Ok end
    → length file.synced + length file.pending + length more ≤ store_limit
    → (image : Image) → IsLeftNoted several (Some file) image
    ⊎ IsLeftNoted (several_after several (Some file)) (Some (with_pending more file)) image
    → MeansPrefix flushed since image ⊎ ImageMeans image end
appended-left holes close several file flushed s end since command more journal noted is reads done short image (inl left) =
    inl (noted-images holes several file flushed s since journal noted image left)
appended-left holes close several file flushed s end since command more journal noted is reads done short image (inr left) =
    prefix-more image.several flushed s end since command image.store journal.leads done
    (noted-images holes (several_after several (Some file)) (with_pending more file) flushed end (since ++ command ∷ [])
    (journal-more file flushed s end since command more journal is reads done short)
    (append-noted close several file flushed s since command journal) image left)

-- ---- all is flushed

-- records in a row are cut after each
records-cut : RecordsClose → (count : ℕ) (commands : List Command) → Pieces (records_bytes count commands) (record_pieces count commands) []
records-cut close count [] = record { joined = refl; closed = All-nil ClosesOnce; unclosed = no_closing }
records-cut close count (c ∷ cs) =
    pieces-joined (record_bytes c (count + 1)) (records_bytes (count + 1) cs) (record_bytes c (count + 1) ∷ [])
    (record_pieces (count + 1) cs) []
    (pieces-one (record_bytes c (count + 1)) (close c (count + 1))) (records-cut close (count + 1) cs)

-- all bytes of a journal mean its state
pub journal-whole : RecordsClose → (file : File) (flushed s : Contents) (since : List Command)
    → IsJournal file flushed since s → IsWholeStore (file.synced ++ file.pending) s
journal-whole close file flushed s since journal = record {
  pieces = journal.whole.pieces ++ record_pieces flushed.count since;
  cut =
      subst (λ b. Pieces (file.synced ++ b) (journal.whole.pieces ++ record_pieces flushed.count since) []) (sym journal.pending)
      (pieces-joined file.synced (records_bytes flushed.count since) journal.whole.pieces
      (record_pieces flushed.count since) [] journal.whole.cut (records-cut close flushed.count since));
  mean = pieces-mean-more journal.whole.pieces
      (record_pieces flushed.count since) flushed s since journal.whole.mean journal.are_records journal.leads;
}

-- after its sync it is durable
pub flushed-durable : RecordsClose → (old new : Folder) (s : Contents) (size : ℕ) (waits : Bool)
    → (held : IsHeld old s size waits) → HoldsStore new (option_map synced_whole (Some held.file)) → IsDurable new s size
flushed-durable close old new s size waits held holds =
    let file = held.file in
    let long : length (file.synced ++ file.pending) ≡ size = length-append file.synced file.pending ∙ held.long in
    record {
      bytes = file.synced ++ file.pending;
      holds = holds;
      whole = journal-whole close file held.flushed s held.since held.journal;
      long = long;
      short = let short = held.journal.short in omega (arith, short, held.long);
    }

-- ---- what is flushed, and what waits, is one

pub flushed-one : OnePieces → OneBase → OneRecord → RecordsClose → OneFlushed
flushed-one one_pieces one_base one_record close folder f g us vs s t first second =
    let same : Some first.file ≡ Some second.file = sym first.is ∙ second.is in
    let file : first.file ≡ second.file = cc same in
    let journal = subst (λ x. IsJournal x f us s) file first.journal in
    let other = second.journal in
    let pieces = (one_pieces second.file.synced journal.whole.pieces other.whole.pieces [] [] journal.whole.cut other.whole.cut).0 in
    let flushed : f ≡ g = pieces-mean-one one_base one_record other.whole.pieces f g
    (subst (λ ps. PiecesMean ps f) pieces journal.whole.mean) other.whole.mean in
    let here = subst (λ x. IsJournal second.file x us s) flushed journal in
    let cut_us = subst (λ b. Pieces b (record_pieces g.count us) []) (sym here.pending) (records-cut close g.count us) in
    let cut_vs = subst (λ b. Pieces b (record_pieces g.count vs) []) (sym other.pending) (records-cut close g.count vs) in
    let records = (one_pieces second.file.pending (record_pieces g.count us) (record_pieces g.count vs) [] [] cut_us cut_vs).0 in
    let commands : us ≡ vs = one-list g.count one_record (record_pieces g.count vs) us vs
    (subst (λ ps. AreRecords g.count ps us) records here.are_records) other.are_records in
    (flushed, commands, ok-same s t (after g vs) (subst (λ cs. after g cs ≡ Ok s) commands here.leads) other.leads)
