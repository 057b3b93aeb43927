-- A running checkpoint beside what is under `store.yaml`.
use Rattle.std.{proofs.Common.{◌≡◌, refl, sym, ◌∙◌, ap, subst, arith, ◌≤◌, append_assoc, length-append, take-append-drop}, specs.Prelude.ℕ}
use Rattle.std.specs.Prelude.{◌+◌, min, Bool, List, [], ◌∷◌, ◌++◌, length, take, Option, Some, None, IsSome, option_map, Ok}
use Rattle.conf_store.proofs.Prelude.{Image, false≢true, length-take-le, ClosesOnce, File, Folder, bytes_under, synced_file, Next}
use Rattle.conf_store.proofs.Prelude.{HoldsStore, store_limit, file_with_bytes, Command, Contents, step, after, Enough, IsRecord, IsBase}
use Rattle.conf_store.{proofs.MeaningLemmas.{whole-means, base-whole, record-whole}, specs.{Meaning.{FileMeans, ImageMeans}, Staged.Staged}}
use Rattle.conf_store.specs.{Staged.{staged_length, with_more, slice_limit, next_slice, after_slice}, Durable.{IsWholeStore, IsJournal}}
use Rattle.conf_store.specs.Durable.{IsDurable, AfterPrefix, IsStaged, IsStaging, staged_text}

-- the new file's bytes
pub text-of : (folder : Folder) (s : Contents) (staged : Staged) → (is : IsStaged folder s staged)
    → staged_text folder (Some staged) ≡ Some (is.start ++ staged.left)
text-of folder s staged is = ap (option_map (λ (start : List ℕ). start ++ staged.left)) is.reads

pub text-length : (folder : Folder) (s : Contents) (staged : Staged) → (is : IsStaged folder s staged)
    → length (is.start ++ staged.left) ≡ staged_length (Some staged)
text-length folder s staged is = length-append is.start staged.left ∙ ap (λ n. n + length staged.left) is.long

-- ---- a checkpoint that begins

pub base-staged : (folder : Folder) (s : Contents) (base : List ℕ) → ClosesOnce base → IsBase base s
    → bytes_under folder Next ≡ Some [] → IsStaged folder s (record { written = 0; left = base })
base-staged folder s base closes is reads = record { start = []; reads = reads; long = refl; whole = base-whole base s closes is }

-- ---- other calls

-- where `next.yaml` reads as before
pub staging-same : (old new : Folder) (s : Contents) (staged : Option Staged)
    → bytes_under new Next ≡ bytes_under old Next → IsStaging old s staged → IsStaging new s staged
staging-same old new s None same is = tt
staging-same old new s (Some staged) same is = record { start = is.start; reads = same ∙ is.reads; long = is.long; whole = is.whole }

pub text-same : (old new : Folder) (staged : Option Staged) → bytes_under new Next ≡ bytes_under old Next
    → staged_text new staged ≡ staged_text old staged
text-same old new None same = refl
text-same old new (Some staged) same = ap (option_map (λ (start : List ℕ). start ++ staged.left)) same

-- a command more
pub staging-more : (old new : Folder) (s end : Contents) (command : Command) (more : List ℕ) (staged : Option Staged)
    → bytes_under new Next ≡ bytes_under old Next → ClosesOnce more
    → IsRecord more command (s.count + 1) → step s command Enough ≡ Ok end → IsStaging old s staged
    → IsStaging new end (with_more more staged)
staging-more old new s end command more None same closes reads done is = tt
staging-more old new s end command more (Some staged) same closes reads done is = record {
  start = is.start;
  reads = same ∙ is.reads;
  long = is.long;
  whole =
      subst (λ b. IsWholeStore b end) (append_assoc is.start staged.left more)
      (record-whole (is.start ++ staged.left) more s end command is.whole closes reads done);
}

more-read : (before : Option (List ℕ)) (left more : List ℕ)
    → option_map (λ (start : List ℕ). start ++ (left ++ more)) before
    ≡ file_with_bytes (option_map (λ (start : List ℕ). start ++ left) before) more
more-read None left more = refl
more-read (Some start) left more = ap Some (sym (append_assoc start left more))

pub text-more : (old new : Folder) (more : List ℕ) (staged : Option Staged)
    → bytes_under new Next ≡ bytes_under old Next
    → staged_text new (with_more more staged) ≡ file_with_bytes (staged_text old staged) more
text-more old new more None same = refl
text-more old new more (Some staged) same =
    ap (option_map (λ (start : List ℕ). start ++ (staged.left ++ more))) same ∙ more-read (bytes_under old Next) staged.left more

pub length-more : (more : List ℕ) (staged : Option Staged) (limit : ℕ) → staged_length staged + length more ≤ limit
    → staged_length (with_more more staged) ≤ limit
length-more more None limit short = omega arith
length-more more (Some staged) limit short = omega (arith, short, length-append staged.left more)

pub length-least : (more : List ℕ) (staged : Option Staged) (least : ℕ) → least ≤ staged_length staged
    → least ≤ staged_length (with_more more staged)
length-least more None least within = within
length-least more (Some staged) least within = omega (arith, within, length-append staged.left more)

-- ---- slices

slice-read : (before : Option (List ℕ)) (some further left : List ℕ) → some ++ further ≡ left
    → option_map (λ (start : List ℕ). start ++ further) (file_with_bytes before some)
    ≡ option_map (λ (start : List ℕ). start ++ left) before
slice-read None some further left e = refl
slice-read (Some start) some further left e = ap Some (append_assoc start some further ∙ ap (λ l. start ++ l) e)

parts : (staged : Staged) → next_slice staged ++ (after_slice staged).left ≡ staged.left
parts staged = take-append-drop (min slice_limit (length staged.left)) staged.left

pub text-slice : (old new : Folder) (staged : Staged)
    → bytes_under new Next ≡ file_with_bytes (bytes_under old Next) (next_slice staged)
    → staged_text new (Some (after_slice staged)) ≡ staged_text old (Some staged)
text-slice old new staged next =
    ap (option_map (λ (start : List ℕ). start ++ (after_slice staged).left)) next
    ∙ slice-read (bytes_under old Next) (next_slice staged) (after_slice staged).left staged.left (parts staged)

pub staged-slice : (old new : Folder) (s : Contents) (staged : Staged)
    → bytes_under new Next ≡ file_with_bytes (bytes_under old Next) (next_slice staged) → IsStaged old s staged
    → IsStaged new s (after_slice staged)
staged-slice old new s staged next is =
    let n = min slice_limit (length staged.left) in
    let size : length (next_slice staged) ≡ n = length-take-le n staged.left (omega arith) in
    record {
      start = is.start ++ next_slice staged;
      reads = next ∙ ap (λ before. file_with_bytes before (next_slice staged)) is.reads;
      long = length-append is.start (next_slice staged) ∙ (omega (arith, size, is.long));
      whole =
          subst (λ b. IsWholeStore b s) (ap (λ l. is.start ++ l) (sym (parts staged))
          ∙ sym (append_assoc is.start (next_slice staged) (after_slice staged).left)) is.whole;
    }

-- how long the new file is doesn't change
pub length-slice : (staged : Staged) → staged_length (Some (after_slice staged)) ≡ staged_length (Some staged)
length-slice staged =
    let n = min slice_limit (length staged.left) in
    let size : length (next_slice staged) ≡ n = length-take-le n staged.left (omega arith) in
    let whole = ap length (sym (parts staged)) ∙ length-append (next_slice staged) (after_slice staged).left in
    omega (arith, size, whole)

-- the new file in place of the old one
pub staged-durable : (old new : Folder) (s : Contents) (staged : Staged) → (is : IsStaged old s staged)
    → HoldsStore new (Some (synced_file (is.start ++ staged.left))) → staged_length (Some staged) ≤ store_limit
    → IsDurable new s (staged_length (Some staged))
staged-durable old new s staged is holds short = record {
  bytes = is.start ++ staged.left;
  holds = holds;
  whole = is.whole;
  long = text-length old s staged is;
  short = short;
}

-- it means the state
pub text-means : (folder : Folder) (s : Contents) (staged : Option Staged) → IsSome staged → IsStaging folder s staged
    → staged_length staged ≤ store_limit → (image : Image) → image.store ≡ staged_text folder staged
    → ImageMeans image s
text-means folder s None some is short image e = absurd (false≢true some)
text-means folder s (Some staged) some is short image e =
    let long = text-length folder s staged is in
    subst (λ b. FileMeans image.several b s) (sym (e ∙ text-of folder s staged is))
    (whole-means image.several (is.start ++ staged.left) s is.whole (omega (arith, long, short)))

-- the state is the one after all commands that wait
pub means-waiting : (several : Bool) (file : File) (flushed s : Contents) (since : List Command) (store : Option (List ℕ))
    → IsJournal file flushed since s → FileMeans several store s → AfterPrefix several flushed since store
means-waiting several file flushed s since store journal means =
    let all : take (length since) since ≡ since = whole-list since in
    record { count = length since; state = s; leads = ap (after flushed) all ∙ journal.leads; means = means }
  where
    whole-list : (cs : List Command) → take (length cs) cs ≡ cs
    whole-list [] = refl
    whole-list (c ∷ cs) = ap (λ l. c ∷ l) (whole-list cs)
