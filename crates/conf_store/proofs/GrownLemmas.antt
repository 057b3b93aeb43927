-- How long the base at the start of a file is, and by how much the file has grown.
use Rattle.std.proofs.Common.{◌≡◌, refl, sym, ◌∙◌, ap, subst, arith, append_assoc, length-append, take-append-drop}
use Rattle.std.specs.Prelude.{ℕ, ◌-◌, Bool, List, [], ◌++◌, length, take, drop, Option, Some, None}
use Rattle.conf_store.proofs.Prelude.{append-nil, length-take-le, All-head, ClosesOnce, PieceBetween, IsNextClosing, StartsLine, Folder}
use Rattle.conf_store.proofs.Prelude.{Tells, bytes_under, Missing, Next, file_with_bytes, store_limit, Contents, IsBase}
use Rattle.conf_store.specs.{Accepting.IsBaseOf, Durable.staged_text, Files.HasLength, Opens.IsFound, Staged.Staged, Staged.with_more}
use Rattle.conf_record.specs.declared.format.Format.{Format}
use Rattle.conf_store.specs.Grown.{IsGrown, HasGrown, StartsWithBase, FileStartsWithBase, StagedStartsWithBase, FoundBase}
use Rattle.conf_store.proofs.{PieceLemmas.closes-within, RecoveryLemmas.first-piece, StagedLemmas.text-more, StagedLemmas.text-same}

-- ---- bytes

-- the first piece that is read is the base
pub first-base : PieceBetween → (bytes : List ℕ) (place : ℕ) (s : Contents) → StartsLine bytes 0
    → IsNextClosing bytes 0 place → IsBase (take place bytes) s → StartsWithBase bytes place
first-base piece_between bytes place s starts next is = record {
  base = take place bytes;
  others = drop place bytes;
  joined = sym (take-append-drop place bytes);
  closes = All-head ClosesOnce (take place bytes) [] (first-piece piece_between bytes place starts next).closed;
  state = s;
  is_base = is;
  long = length-take-le place bytes (closes-within bytes place next.closes);
}

-- a base and nothing else
pub base-alone : {format : Format} (s : Contents) (bytes : List ℕ) → IsBaseOf format s bytes → StartsWithBase bytes (length bytes)
base-alone s bytes base = record {
  base = bytes;
  others = [];
  joined = sym (append-nil bytes);
  closes = base.closes;
  state = s;
  is_base = base.reads;
  long = refl;
}

starts-more : (bytes more : List ℕ) (size : ℕ) → StartsWithBase bytes size → StartsWithBase (bytes ++ more) size
starts-more bytes more size starts = record {
  base = starts.base;
  others = starts.others ++ more;
  joined = ap (λ l. l ++ more) starts.joined ∙ append_assoc starts.base starts.others more;
  closes = starts.closes;
  state = starts.state;
  is_base = starts.is_base;
  long = starts.long;
}

starts-grown : (bytes : List ℕ) (size : ℕ) → StartsWithBase bytes size → IsGrown bytes (length bytes - size)
starts-grown bytes size starts = record {
  base = starts.base;
  others = starts.others;
  joined = starts.joined;
  closes = starts.closes;
  state = starts.state;
  is_base = starts.is_base;
  long = omega (arith, starts.long, ap length starts.joined, length-append starts.base starts.others);
}

-- ---- files

-- a file of so many bytes has grown by all that follow its base
pub file-grown : (file : Option (List ℕ)) (size base : ℕ) → FileStartsWithBase file base → HasLength file size → HasGrown file (size - base)
file-grown None size base starts long = absurd starts
file-grown (Some bytes) size base starts long = subst (λ n. IsGrown bytes (n - base)) long (starts-grown bytes base starts)

-- a base and a record
pub base-and : {format : Format} (s : Contents) (base bytes more : List ℕ) → IsBaseOf format s base → bytes ≡ base ++ more
    → StartsWithBase bytes (length base)
base-and s base bytes more is joined =
    subst (λ b. StartsWithBase b (length base)) (sym joined) (starts-more base more (length base) (base-alone s base is))

-- more bytes at its end leave the base
pub file-more : (file : Option (List ℕ)) (more : List ℕ) (base : ℕ) → FileStartsWithBase file base
    → FileStartsWithBase (file_with_bytes file more) base
file-more None more base starts = absurd starts
file-more (Some bytes) more base starts = starts-more bytes more base starts

-- a file that is there and stays as it is
pub found-base : (several : Bool) (file : Option (List ℕ)) (s : Contents) (records dropped n : ℕ) (size : Option ℕ) (base : ℕ)
    → IsFound several file s records dropped size → size ≡ Some n → FoundBase file base → FileStartsWithBase file base
found-base several None s records dropped n size base found is starts = (let stays = found.stays n is in absurd (cc stays.2))
found-base several (Some bytes) s records dropped n size base found is starts = starts

-- ---- the new file of a checkpoint

-- one that begins
pub staged-begins : {format : Format} (folder : Folder) (s : Contents) (bytes : List ℕ) → IsBaseOf format s bytes
    → bytes_under folder Next ≡ Some []
    → StagedStartsWithBase folder (Some (record { written = 0; left = bytes })) (length bytes)
staged-begins folder s bytes base reads =
    subst (λ (o : Option (List ℕ)). FileStartsWithBase o (length bytes))
    (sym (ap (λ (o : Option (List ℕ)). file_with_bytes o bytes) reads)) (base-alone s bytes base)

-- one whose text stays
pub staged-stays : (old new : Folder) (before after : Staged) (base : ℕ)
    → staged_text new (Some after) ≡ staged_text old (Some before) → StagedStartsWithBase old (Some before) base
    → StagedStartsWithBase new (Some after) base
staged-stays old new before after base same starts = subst (λ (o : Option (List ℕ)). FileStartsWithBase o base) (sym same) starts

-- one to which nothing is done
pub staged-base-same : (old new : Folder) (staged : Option Staged) (base : ℕ)
    → bytes_under new Next ≡ bytes_under old Next → StagedStartsWithBase old staged base → StagedStartsWithBase new staged base
staged-base-same old new None base same starts = tt
staged-base-same old new (Some staged) base same starts =
    staged-stays old new staged staged base (text-same old new (Some staged) same) starts

-- one with more bytes at its end
pub staged-base-more : (old new : Folder) (more : List ℕ) (staged : Option Staged) (base : ℕ)
    → bytes_under new Next ≡ bytes_under old Next → StagedStartsWithBase old staged base
    → StagedStartsWithBase new (with_more more staged) base
staged-base-more old new more None base same starts = tt
staged-base-more old new more (Some staged) base same starts =
    subst (λ (o : Option (List ℕ)). FileStartsWithBase o base) (sym (text-more old new more (Some staged) same))
    (file-more (staged_text old (Some staged)) more base starts)

-- ---- what was read

-- there was no file
pub missing-base : (file : Option (List ℕ)) → Tells file store_limit Missing → FoundBase file 0
missing-base None tells = refl
missing-base (Some bytes) tells = absurd tells
