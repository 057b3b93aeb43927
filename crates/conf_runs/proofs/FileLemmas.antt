-- What a crash leaves of files that a run of `format -i` replaced.
use Rattle.std.proofs.Common.{◌≡◌, ◌⊎◌, inl, inr, ℕ, zero, suc, List, [], ◌∷◌, Option, Some, Result, Ok, Err, refl, sym, subst, arith}
use Rattle.std.{proofs.Common.{string_bytes, Bool, true, false, if◌then◌else◌, nat_lt}, specs.Prelude.Contains}
use Rattle.{conf_files.specs.declared.replace.ReplaceFault.ReplaceFault, conf_words.specs.declared.invocation.Comments.Comments}
use Rattle.conf_tools.specs.{FileTexts.Restyles, Statuses.{code_of, status_of, worst}, Styles.{IsStyled, style_of}, TextWords.RestylesAll}
use Rattle.conf_tools.specs.{TextWords.{RestylesFile, RestylesOpened, status_after, unopened}, Prelude.OutOfMemory, Worlds.WorldModel}
use Rattle.conf_tools.specs.declared.{file_texts.Restyled.TheVariants.{Same, Changed}, program.Status.{Status, TheVariants.{Done, Found}}}
use Rattle.conf_tools.specs.declared.{program.Status.TheVariants.{Absent, Differs, Refused, WrongWords, Device}, texts.ToolFault.ToolFault}
use Rattle.conf_runs.specs.{Files.{FileAt, FilesModel, KeepsFiles, Nothing, Passes, leaves}, Restyled.{FilesHold, IsElsewhere, IsInStyle}}
use Rattle.conf_runs.specs.Restyled.{IsRestyled, ReadAt, ReadBy}
use Rattle.conf_files.specs.declared.replace.ReplaceFault.TheVariants as replacing
use Rattle.conf_tools.specs.declared.texts.ToolFault.TheVariants as tool

-- ---- statuses

not-done : (fault : ToolFault) → Done ≡ status_of fault → ⊥
not-done tool.Input is = cc
not-done tool.Output is = cc
not-done (tool.Read fault) is = cc
not-done (tool.Comments place) is = cc
not-done tool.Unsettled is = cc
not-done tool.OneValue is = cc
not-done tool.NoEdits is = cc
not-done (tool.ImportText fault) is = cc

never-done : (status : Status) (fault : ToolFault) → status ≡ Done → status ≡ status_of fault → ⊥
never-done status fault done is = not-done fault (subst (λ (s : Status). s ≡ status_of fault) done is)

worst-first : (other : Status) → worst Done other ≡ Done → other ≡ Done
worst-first Done is = is
worst-first Found is = is
worst-first Absent is = is
worst-first Differs is = is
worst-first Refused is = is
worst-first WrongWords is = is
worst-first Device is = is

worst-other : (one : Status) → worst one Done ≡ Done → one ≡ Done
worst-other Done is = is
worst-other Found is = is
worst-other Absent is = is
worst-other Differs is = is
worst-other Refused is = is
worst-other WrongWords is = is
worst-other Device is = is

either : (second : Bool) (one other : Status) → (if second then other else one) ≡ Done → (one ≡ Done) ⊎ (other ≡ Done)
either true one other is = inr is
either false one other is = inl is

both-done : (one other : Status) → worst one other ≡ Done → (one ≡ Done) × (other ≡ Done)
both-done one other is = elim (either (nat_lt (code_of one) (code_of other)) one other is) [
  | inl first ↦ (first, worst-first other (subst (λ (s : Status). worst s other ≡ Done) first is))
  | inr second ↦ (worst-other one (subst (λ (s : Status). worst one s ≡ Done) second is), second)
]

-- ---- lists

found : {X : Type 0} (x y : X) (xs : List X) → Contains (x ∷ xs) y → (y ≡ x) ⊎ Contains xs y
found x y xs (zero, within, is) = inl (sym is)
found x y xs (suc k, within, is) = inr (k, omega arith, is)

head : {X : Type 0} (x : X) (xs : List X) → Contains (x ∷ xs) x
head x xs = (0, omega arith, refl)

behind : {X : Type 0} (x y : X) (xs : List X) → Contains xs y → Contains (x ∷ xs) y
behind x y xs (k, within, is) = (suc k, omega arith, is)

-- ---- texts that were read

wider : (comments : Comments) (One All : List ℕ → Type 0) (bytes : Option (List ℕ)) → ((given : List ℕ) → One given → All given)
    → IsRestyled comments One bytes → IsRestyled comments All bytes
wider comments One All bytes goes is =
    record { given = is.given; read = goes is.given is.read; may = is.may; text = is.text; is = is.is; whole = is.whole }

styled-wider : (comments : Comments) (One All : List ℕ → Type 0) → ((given : List ℕ) → One given → All given)
    → IsInStyle comments One → IsInStyle comments All
styled-wider comments One All goes is = record { given = is.given; read = goes is.given is.read; is = is.is }

module _ {W P : Type 0} (files : FilesModel W P) where
  stays : (New : List ℕ → Option (List ℕ) → Type 0) (old : W) → Passes files old old New
  stays New old = record { later = omega arith; nothing_else = λ from path bytes le left. inl left }

  same : (New : List ℕ → Option (List ℕ) → Type 0) (old new : W) → new ≡ old → Passes files old new New
  same New old new is = subst (λ (w : W). Passes files old w New) (sym is) (stays New old)

  go-on : (One Other New : List ℕ → Option (List ℕ) → Type 0)
      → ((path : List ℕ) (bytes : Option (List ℕ)) → One path bytes → New path bytes)
      → ((path : List ℕ) (bytes : Option (List ℕ)) → Other path bytes → New path bytes)
      → (old now new : W) → Passes files old now One → Passes files now new Other → Passes files old new New
  go-on One Other New of-one of-other old now new first second =
      record {
        later = omega (arith, first.later, second.later);
        nothing_else = λ from path bytes le left.
            elim (second.nothing_else from path bytes (omega (arith, le, first.later)) left) [
              | inl before ↦ elim (first.nothing_else from path bytes le before)
                  [ inl earlier ↦ inl earlier | inr is ↦ inr (of-one path bytes is) ]
              | inr is ↦ inr (of-other path bytes is)
            ];
      }

module _ {W D F P : Type 0} (world : WorldModel W D F P) (remaining : F → Option (List ℕ)) (files : FilesModel W P)
    (keeps : KeepsFiles world files) (comments : Comments) where
  -- what a crash leaves now
  now-left : (New : List ℕ → Option (List ℕ) → Type 0) (old new : W) → Passes files old new New → (path : List ℕ) (bytes : Option (List ℕ))
      → leaves files new path bytes → leaves files old path bytes ⊎ New path bytes
  now-left New old new passes path bytes left = passes.nothing_else (files.moment old) path bytes (omega arith)
      (keeps.counts new (files.moment old) (files.moment new) path bytes passes.later left)

  -- ---- one file

  text-of : (Read : List ℕ → Type 0) (given : List ℕ) (styled : _) (bytes : Option (List ℕ)) → Read given
      → Restyles comments given (Changed styled) → bytes ≡ Some (string_bytes styled) → IsRestyled comments Read bytes
  text-of Read given styled bytes read is whole =
      record {
        given = given;
        read = read;
        may = is.loses;
        text = is.text;
        is = is.is;
        whole = subst (λ (cs : List ℕ). bytes ≡ Some cs) is.styled.0 whole;
      }

  passes-opened : (found : Result (F × P) ReplaceFault) (seen new : W) (status : Status)
      (does : RestylesOpened world remaining comments found seen new status)
      → Passes files seen new (λ path bytes. IsRestyled comments
      (ReadAt world remaining files comments path found seen new status does) bytes)
  passes-opened (Err fault) seen new status does = same files _ seen new does.0
  passes-opened (Ok (file, place)) seen new status (Err fault, left, takes, does) = same files _ seen new does.0
  passes-opened (Ok (file, place)) seen new status (Ok bytes, left, takes, (Ok Same, says, result, does, ends)) =
      same files _ seen new does.0
  passes-opened (Ok (file, place)) seen new status (Ok bytes, left, takes, (Err fault, says, result, does, ends)) =
      same files _ seen new does.0
  passes-opened (Ok (file, place)) seen new status
      (Ok bytes, left, takes, (Ok (Changed styled), says, result, (ended, replaced, is), ends)) =
      go-on files (Nothing files) (FileAt files place (string_bytes styled)) _ (λ path left none. absurd none)
      (λ path left put. text-of _ bytes.items styled left (put.0, refl) says.done put.1)
      seen seen new (stays files _ seen) (keeps.replaced place (string_bytes styled) seen new ended replaced)

  passes-file : (word : List ℕ) (old new : W) (status : Status) (does : RestylesFile world remaining comments word old new status)
      → Passes files old new
      (λ path bytes. IsRestyled comments (ReadAt world remaining files comments path does.found does.seen new status does.does) bytes)
  passes-file word old new status does =
      go-on files (Nothing files) _ _ (λ path left none. absurd none) (λ path left is. is)
      old does.seen new (keeps.opened word old does.seen does.found does.opens) (passes-opened does.found does.seen new status does.does)

  -- the path of a file that was opened leads to its place
  abbrev Leads : List ℕ → Result (F × P) ReplaceFault → Type 0
  Leads word (Ok (file, place)) = files.leads place word
  Leads word (Err fault) = Unit {0}

  leads-to : (word : List ℕ) (found : Result (F × P) ReplaceFault) (old seen : W) → world.opened_to_replace word old found seen
      → Leads word found
  leads-to word (Ok (file, place)) old seen opens = keeps.leads word old seen file place opens
  leads-to word (Err fault) old seen opens = tt

  fault-of : (result : Result (Unit {0}) ToolFault) (status : Status) (fault : ToolFault) → status ≡ Done
      → status ≡ status_after result → result ≡ Err fault → ⊥
  fault-of result status fault done ends is =
      never-done status fault done (subst (λ (r : Result (Unit {0}) ToolFault). status ≡ status_after r) is ends)

  done-opened : (word : List ℕ) (found : Result (F × P) ReplaceFault) (seen new : W) (status : Status)
      (does : RestylesOpened world remaining comments found seen new status) → Leads word found → status ≡ Done
      → (left : Option (List ℕ)) → leaves files new word left
      → IsRestyled comments (ReadAt world remaining files comments word found seen new status does) left
      ⊎ (IsInStyle comments (ReadAt world remaining files comments word found seen new status does) × leaves files seen word left)
  done-opened word (Err fault) seen new status does leads done left is = absurd (never-done status (unopened fault) done does.1)
  done-opened word (Ok (file, place)) seen new status (Err fault, rest, takes, does) leads done left is =
      absurd (never-done status fault done does.1)
  done-opened word (Ok (file, place)) seen new status (Ok bytes, rest, takes, (Err fault, says, result, does, ends)) leads done left is =
      absurd (fault-of result status fault done ends does.1)
  done-opened word (Ok (file, place)) seen new status (Ok bytes, rest, takes, (Ok Same, says, result, does, ends)) leads done left is =
      inr (
        record {
          given = bytes.items;
          read = (leads, refl);
          is = subst (λ (text : List ℕ). IsStyled (style_of comments) bytes.items text) (sym says.done.styled) says.done.is;
        },
        subst (λ (w : W). leaves files w word left) does.0 is,
      )
  done-opened word (Ok (file, place)) seen new status
      (Ok bytes, rest, takes, (Ok (Changed styled), says, result, (Ok ended, replaced, ends), status-is)) leads done left is =
      inl (text-of _ bytes.items styled left (leads, refl) says.done
      (keeps.done place (string_bytes styled) seen new replaced word left leads is))
  done-opened word (Ok (file, place)) seen new status
      (Ok bytes, rest, takes, (Ok (Changed styled), says, result, (Err replacing.Device, replaced, ends), status-is)) leads done left is =
      absurd (fault-of result status tool.Output done status-is ends)
  done-opened word (Ok (file, place)) seen new status
      (Ok bytes, rest, takes, (Ok (Changed styled), says, result, (Err replacing.OutOfMemory, replaced, ends), status-is))
      leads done left is =
      absurd (fault-of result status (tool.Read OutOfMemory) done status-is ends)

  done-file : (word : List ℕ) (old new : W) (status : Status) (does : RestylesFile world remaining comments word old new status)
      → status ≡ Done → (left : Option (List ℕ)) → leaves files new word left
      → IsRestyled comments (ReadAt world remaining files comments word does.found does.seen new status does.does) left
      ⊎ (IsInStyle comments (ReadAt world remaining files comments word does.found does.seen new status does.does)
      × leaves files old word left)
  done-file word old new status does done left is =
      elim (done-opened word does.found does.seen new status does.does (leads-to word does.found old does.seen does.opens) done left is) [
        | inl made ↦ inl made
        | inr kept ↦ elim (now-left (Nothing files) old does.seen (keeps.opened word old does.seen does.found does.opens)
            word left kept.1)
            [ inl before ↦ inr (kept.0, before) | inr none ↦ absurd none ]
      ]

  -- ---- all files

  passes-all : (words : List (List ℕ)) (so_far : Status) (old new : W) (status : Status)
      (does : RestylesAll world remaining comments words so_far old new status)
      → Passes files old new
      (λ path bytes. IsRestyled comments (ReadBy world remaining files comments path words so_far old new status does) bytes)
  passes-all [] so_far old new status does = same files _ old new does.0
  passes-all (word ∷ words) so_far old new status (now, of_file, one, rest) =
      go-on files _ _ _ (λ path bytes made. wider comments _ _ bytes (λ given read. inl read) made)
      (λ path bytes made. wider comments _ _ bytes (λ given read. inr read) made)
      old now new (passes-file word old now of_file one) (passes-all words (worst so_far of_file) now new status rest)

  all-done : (words : List (List ℕ)) (so_far : Status) (old new : W) (status : Status)
      → RestylesAll world remaining comments words so_far old new status → status ≡ Done → so_far ≡ Done
  all-done [] so_far old new status does done = subst (λ (s : Status). s ≡ Done) does.1 done
  all-done (word ∷ words) so_far old new status (now, of_file, one, rest) done =
      (both-done so_far of_file (all-done words (worst so_far of_file) now new status rest done)).0

  first-done : (words : List (List ℕ)) (so_far of_file : Status) (now new : W) (status : Status)
      → RestylesAll world remaining comments words (worst so_far of_file) now new status → status ≡ Done → of_file ≡ Done
  first-done words so_far of_file now new status rest done =
      (both-done so_far of_file (all-done words (worst so_far of_file) now new status rest done)).1

  named : (path given : List ℕ) (found : Result (F × P) ReplaceFault) (seen new : W) (status : Status)
      (does : RestylesOpened world remaining comments found seen new status) (word : List ℕ) → Leads word found
      → ReadAt world remaining files comments path found seen new status does given
      → (place : P) × files.leads place word × files.leads place path
  named path given (Ok (file, place)) seen new status does word leads read = (place, leads, read.0)
  named path given (Err fault) seen new status does word leads read = absurd read

  elsewhere : (path given : List ℕ) (words : List (List ℕ)) (so_far : Status) (old new : W) (status : Status)
      (does : RestylesAll world remaining comments words so_far old new status)
      → ReadBy world remaining files comments path words so_far old new status does given → IsElsewhere files words path → ⊥
  elsewhere path given [] so_far old new status does read is = read
  elsewhere path given (word ∷ words) so_far old new status (now, of_file, one, rest) (inl read) is =
      let at : (place : P) × files.leads place word × files.leads place path =
      named path given one.found one.seen now of_file one.does word (leads-to word one.found old one.seen one.opens) read in
      is word (head word words) at.0 at.1 at.2
  elsewhere path given (word ∷ words) so_far old new status (now, of_file, one, rest) (inr read) is =
      elsewhere path given words (worst so_far of_file) now new status rest read
      (λ other among. is other (behind word other words among))

  done-first : (word : List ℕ) (words : List (List ℕ)) (so_far : Status) (old new : W) (status : Status) (now : W) (of_file : Status)
      (one : RestylesFile world remaining comments word old now of_file)
      (rest : RestylesAll world remaining comments words (worst so_far of_file) now new status) → status ≡ Done
      → (bytes : Option (List ℕ)) → leaves files new word bytes
      → IsRestyled comments
      (ReadBy world remaining files comments word (word ∷ words) so_far old new status (now, of_file, one, rest)) bytes
      ⊎ (IsInStyle comments (ReadBy world remaining files comments word (word ∷ words) so_far old new status (now, of_file, one, rest))
      × leaves files old word bytes)
  done-first word words so_far old new status now of_file one rest done bytes left =
      elim (now-left _ now new (passes-all words (worst so_far of_file) now new status rest) word bytes left) [
        | inl before ↦ elim (done-file word old now of_file one (first-done words so_far of_file now new status rest done) bytes before) [
          | inl made ↦ inl (wider comments _ _ bytes (λ given read. inl read) made)
          | inr kept ↦ inr (styled-wider comments _ _ (λ given read. inl read) kept.0, kept.1)
        ]
        | inr made ↦ inl (wider comments _ _ bytes (λ given read. inr read) made)
      ]

  done-later : (word : List ℕ) (words : List (List ℕ)) (so_far : Status) (old new : W) (status : Status) (now : W) (of_file : Status)
      (one : RestylesFile world remaining comments word old now of_file)
      (rest : RestylesAll world remaining comments words (worst so_far of_file) now new status)
      (path : List ℕ) (bytes : Option (List ℕ))
      → IsRestyled comments (ReadBy world remaining files comments path words (worst so_far of_file) now new status rest) bytes
      ⊎ (IsInStyle comments (ReadBy world remaining files comments path words (worst so_far of_file) now new status rest)
      × leaves files now path bytes)
      → IsRestyled comments
      (ReadBy world remaining files comments path (word ∷ words) so_far old new status (now, of_file, one, rest)) bytes
      ⊎ (IsInStyle comments (ReadBy world remaining files comments path (word ∷ words) so_far old new status (now, of_file, one, rest))
      × leaves files old path bytes)
  done-later word words so_far old new status now of_file one rest path bytes (inl made) =
      inl (wider comments _ _ bytes (λ given read. inr read) made)
  done-later word words so_far old new status now of_file one rest path bytes (inr kept) =
      elim (now-left _ old now (passes-file word old now of_file one) path bytes kept.1) [
        | inl before ↦ inr (styled-wider comments _ _ (λ given read. inr read) kept.0, before)
        | inr made ↦ inl (wider comments _ _ bytes (λ given read. inl read) made)
      ]

  done-all : (words : List (List ℕ)) (so_far : Status) (old new : W) (status : Status)
      (does : RestylesAll world remaining comments words so_far old new status) → status ≡ Done
      → (path : List ℕ) (bytes : Option (List ℕ)) → Contains words path → leaves files new path bytes
      → IsRestyled comments (ReadBy world remaining files comments path words so_far old new status does) bytes
      ⊎ (IsInStyle comments (ReadBy world remaining files comments path words so_far old new status does) × leaves files old path bytes)
  done-all [] so_far old new status does done path bytes (k, within, is) left = absurd (omega (arith, within))
  done-all (word ∷ words) so_far old new status (now, of_file, one, rest) done path bytes among left =
      elim (found word path words among) [
        | inl is ↦ subst (λ (p : List ℕ). leaves files new p bytes
            → IsRestyled comments
            (ReadBy world remaining files comments p (word ∷ words) so_far old new status (now, of_file, one, rest)) bytes
            ⊎ (IsInStyle comments (ReadBy world remaining files comments p (word ∷ words) so_far old new status (now, of_file, one, rest))
            × leaves files old p bytes)) (sym is)
            (done-first word words so_far old new status now of_file one rest done bytes) left
        | inr later ↦ done-later word words so_far old new status now of_file one rest path bytes
            (done-all words (worst so_far of_file) now new status rest done path bytes later left)
      ]

  pub files-hold : (words : List (List ℕ)) (old new : W) (status : Status)
      (does : RestylesAll world remaining comments words Done old new status)
      → FilesHold files comments words old new status
      (λ path. ReadBy world remaining files comments path words Done old new status does)
  files-hold words old new status does = record {
    moments = λ path bytes left. (passes-all words Done old new status does).nothing_else (files.moment old) path bytes (omega arith) left;
    others = λ path bytes is left.
        elim ((passes-all words Done old new status does).nothing_else (files.moment old) path bytes (omega arith) left)
        [ inl before ↦ before | inr made ↦ absurd (elsewhere path made.given words Done old new status does made.read is) ];
    done = λ done path bytes among left. done-all words Done old new status does done path bytes among left;
  }
