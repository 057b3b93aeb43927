-- What a crash leaves of a machine is an image of its folder, and the folder is whole.
use Rattle.std.proofs.Common.{◌≡◌, ◌⊎◌, ⊎_elim, inl, inr, ℕ, ◌≤◌, List, [], ◌∷◌, ◌++◌, length, get_or, map, take, drop, Option, Some, None}
use Rattle.std.proofs.Common.{All, Contains, Bool, true, false, ◌&&◌, if◌then◌else◌, refl, sym, ◌∙◌, ap, subst, arith, append_assoc}
use Rattle.std.proofs.{Common.{length-append, take-append-drop}, Math.Seq.take-length, lemmas.Bool.{cases_lt, Decides.eqb_tells}}
use Rattle.std.proofs.lemmas.List.{take-append-le, drop-append-le, length-map, map-append, get_or_past, Elements.{All-contains, All-nil}}
use Rattle.std.proofs.lemmas.List.Elements.{All-weaker, All-map, All-contains_itself, All-get_or, Contains-append_left}
use Rattle.std.proofs.lemmas.List.Elements.{Contains-append_right, Contains-append_cases}
use Rattle.conf_disk.specs.{Folder.{Stage, File, empty_file}, Image.{Image, IsImage, IsTornAt, IsMade, IsStage, IsWhole}}
use Rattle.{conf_disk.proofs.Worn.{IsWorn-behind, IsWorn-more}, conf_system.specs.{declared.system.Note.Note, Machine.{Version, Held}}}
use Rattle.conf_system.specs.Machine.{Machine, empty_held, version_bytes, stages, are_linked, apart, sure_count, cut_at, file_of, notes_of}
use Rattle.conf_system.specs.{Machine.all_several, Crash.{IsTorn, IsLeftOf, IsLeftAt, CrashLeaves, IsFront, IsSound}, Folders.same_place}
use Rattle.conf_system.{specs.Folders.{same_stage, first_of, stages_before, stage_of, folder_of, IsTold}, proofs.Torn.the_only}
use Rattle.conf_system.proofs.Steps.{file_at}
use Rattle.conf_disk.specs.Folder as disk
use Rattle.conf_disk.specs.Image as image

and-first : (a b : Bool) → (a && b) ≡ true → a ≡ true
and-first true b both = refl
and-first false b both = both

and-second : (a b : Bool) → (a && b) ≡ true → b ≡ true
and-second true b both = both
and-second false b both = cc

place-equal : (one other : Option ℕ) → same_place one other ≡ true → one ≡ other
place-equal None None same = refl
place-equal None (Some id) same = cc
place-equal (Some id) None same = cc
place-equal (Some id) (Some other) same = elim (eqb_tells id other) [
  | inl both ↦ ap Some both.1
  | inr both ↦ cc
]

stage-equal : (one other : Stage) → same_stage one other ≡ true → one ≡ other
stage-equal one other same =
    let next = place-equal one.next other.next (and-first (same_place one.next other.next) (same_place one.store other.store) same) in
    let store = place-equal one.store other.store (and-second (same_place one.next other.next) (same_place one.store other.store) same) in
    λ i. record { store = store i; next = next i }

none-among : {X : Type 0} (x : X) → Contains [] x → ⊥
none-among x has = All-contains (λ y. ⊥) [] x (All-nil (λ y. ⊥)) has

-- a stage is kept, or the same as the first of those behind it
kept-contains : (same : Bool) (x : Stage) (before last : List Stage) (s : Stage)
    → (same ≡ true → Contains (before ++ last) s) → (same ≡ false → Contains ((x ∷ before) ++ last) s)
    → Contains ((if same then before else x ∷ before) ++ last) s
kept-contains true x before last s first other = first refl
kept-contains false x before last s first other = other refl

from-kept : (same : Bool) (x : Stage) (before last : List Stage) (s : Stage)
    → Contains ((if same then before else x ∷ before) ++ last) s → (s ≡ x) ⊎ Contains (before ++ last) s
from-kept true x before last s has = inr has
from-kept false x before last s has =
    ⊎_elim (λ first. inl (the_only s x first)) (λ rest. inr rest) (Contains-append_cases (x ∷ []) (before ++ last) s has)

first-among : (xs : List Stage) (now : Stage) → Contains (xs ++ now ∷ []) (first_of xs now)
first-among [] now = (0, omega arith, refl)
first-among (x ∷ xs) now = Contains-append_left (x ∷ []) (xs ++ now ∷ []) x (0, omega arith, refl)

among-kept : (xs : List Stage) (now s : Stage) → Contains (xs ++ now ∷ []) s → Contains (stages_before xs now ++ now ∷ []) s
among-kept [] now s has = has
among-kept (x ∷ xs) now s has =
    let before = stages_before xs now in
    let last : List Stage = now ∷ [] in
    kept-contains (same_stage x (first_of xs now)) x before last s
    (λ same. ⊎_elim
    (λ first. among-kept xs now s (subst (λ (y : Stage). Contains (xs ++ now ∷ []) y)
    (sym (the_only s x first ∙ stage-equal x (first_of xs now) same)) (first-among xs now)))
    (λ rest. among-kept xs now s rest) (Contains-append_cases (x ∷ []) (xs ++ now ∷ []) s has))
    (λ other. ⊎_elim
    (λ first. Contains-append_left (x ∷ []) (before ++ last) s first)
    (λ rest. Contains-append_right (x ∷ []) (before ++ last) s (among-kept xs now s rest))
    (Contains-append_cases (x ∷ []) (xs ++ now ∷ []) s has))

kept-among : (xs : List Stage) (now s : Stage) → Contains (stages_before xs now ++ now ∷ []) s → Contains (xs ++ now ∷ []) s
kept-among [] now s has = has
kept-among (x ∷ xs) now s has =
    ⊎_elim
    (λ first. Contains-append_left (x ∷ []) (xs ++ now ∷ []) s
    (subst (λ (y : Stage). Contains (x ∷ []) y) (sym first) (0, omega arith, refl)))
    (λ rest. Contains-append_right (x ∷ []) (xs ++ now ∷ []) s (kept-among xs now s rest))
    (from-kept (same_stage x (first_of xs now)) x (stages_before xs now) (now ∷ []) s has)

-- what is among stages is among them as a disk sees them
among-map : (xs : List Stage) (s : Stage) → Contains xs s → Contains (map stage_of xs) (stage_of s)
among-map [] s has = absurd (none-among s has)
among-map (x ∷ xs) s has =
    ⊎_elim
    (λ first. Contains-append_left (stage_of x ∷ []) (map stage_of xs) (stage_of s)
    (subst (λ (y : Stage). Contains (stage_of x ∷ []) (stage_of y)) (sym (the_only s x first)) (0, omega arith, refl)))
    (λ rest. Contains-append_right (stage_of x ∷ []) (map stage_of xs) (stage_of s) (among-map xs s rest))
    (Contains-append_cases (x ∷ []) xs s has)

-- a stage of the machine is one of the folder
pub among-folder : (m : Machine) (s : Stage) → Contains (stages m) s → Contains (disk.stages (folder_of m)) (stage_of s)
among-folder m s has =
    among-kept (map stage_of m.earlier) (stage_of m.now) (stage_of s)
    (subst (λ (xs : List Stage). Contains xs (stage_of s)) (map-append stage_of m.earlier (m.now ∷ [])) (among-map (stages m) s has))

made-linked : (linked : Bool) (n : ℕ) (next : Option ℕ) → IsMade n next → IsMade n (if linked then None else next)
made-linked true n next made = tt
made-linked false n next made = made

-- the folder of a sound machine is whole
pub sound-whole : (m : Machine) → IsSound m → IsWhole (folder_of m)
sound-whole m sound =
    let n = length m.files in
    let staged = apart m.now.store m.now.next in
    let P : Stage → Type 0 = λ stage. IsStage n staged stage in
    let each : (s : Stage) → Contains (stages m) s → P (stage_of s) = λ s has. (
    let named = All-contains (λ (stage : Stage). IsMade n stage.store × IsMade n stage.next) (stages m) s sound.stages has in
    record {
      store = named.0;
      next = made-linked (are_linked s.store s.next) n s.next named.1;
      apart = All-contains (λ (stage : Stage). image.IsApartFrom staged stage.store) (stages m) s sound.staged has;
    }) in
    let all : All P (map stage_of m.earlier ++ stage_of m.now ∷ []) =
    subst (λ (xs : List Stage). All P xs) (map-append stage_of m.earlier (m.now ∷ []))
    (All-map P stage_of (stages m)
    (All-weaker (Contains (stages m)) (λ (s : Stage). P (stage_of s)) each (stages m) (All-contains_itself (stages m)))) in
    let kept = disk.stages (folder_of m) in
    subst (λ (count : ℕ). All (IsStage count staged) kept) (sym (length-map m.files file_of))
    (All-weaker (Contains kept) P
    (λ s has. All-contains P (map stage_of m.earlier ++ stage_of m.now ∷ []) s all
    (kept-among (map stage_of m.earlier) (stage_of m.now) s has))
    kept (All-contains_itself kept))

-- each version has as many bytes on the device as are sure
least : (count : ℕ) (earlier : List Version) (version : Version) → Contains earlier version
    → sure_count count earlier ≤ length version.device
least count [] version has = absurd (none-among version has)
least count (first ∷ earlier) version has =
    ⊎_elim
    (λ is. (let same : length version.device ≡ length first.device = ap (λ (v : Version). length v.device) (the_only version first is) in
    omega (arith, same)))
    (λ rest. (let le = least count earlier version rest in omega (arith, le)))
    (Contains-append_cases (first ∷ []) earlier version has)

pub sure-least : (count : ℕ) (earlier : List Version) → sure_count count earlier ≤ count
sure-least count [] = omega arith
sure-least count (version ∷ earlier) = omega (arith, sure-least count earlier)

-- what is left of a version with a front of some bytes, of which so many are on the device, is a torn file of the bytes
torn-cut : (all : List ℕ) (s : ℕ) (version : Version) (bytes : List ℕ) → IsFront all version → s ≤ length version.device
    → IsTorn version bytes → image.IsTorn (cut_at s all) bytes
torn-cut all s version bytes front le torn =
    let d = version.device in
    let p = version.pending in
    let rest = drop (length (version_bytes version)) all in
    let whole : all ≡ (d ++ p) ++ rest =
    sym (take-append-drop (length (version_bytes version)) all) ∙ ap (λ (l : List ℕ). l ++ rest) (sym front) in
    let within : s ≤ length (d ++ p) = omega (arith, le, length-append d p) in
    let dropped : (drop s d ++ p) ++ rest ≡ drop s all =
    ap (λ (l : List ℕ). l ++ rest) (sym (drop-append-le s d p le))
    ∙ sym (drop-append-le s (d ++ p) rest within) ∙ ap (drop s) (sym whole) in
    let taken : take s d ≡ take s all =
    sym (take-append-le s d p le) ∙ sym (take-append-le s (d ++ p) rest within) ∙ ap (take s) (sym whole) in
    record {
      left = drop s d ++ torn.left;
      worn = subst (λ (l : List ℕ). image.IsWorn l (drop s d ++ torn.left)) dropped
          (IsWorn-more (drop s d ++ p) rest (drop s d ++ torn.left) (IsWorn-behind (drop s d) p torn.left torn.worn));
      is = torn.is ∙ ap (λ (l : List ℕ). l ++ torn.left) (sym (take-append-drop s d))
          ∙ append_assoc (take s d) (drop s d) torn.left
          ∙ ap (λ (l : List ℕ). l ++ (drop s d ++ torn.left)) taken;
    }

left-torn : (file : Held) (bytes : List ℕ) → All (IsFront (version_bytes file.now)) file.earlier → IsLeftOf file bytes
    → image.IsTorn (file_of file) bytes
left-torn file bytes fronts left =
    let all = version_bytes file.now in
    let s = sure_count (length file.now.device) file.earlier in
    ⊎_elim
    (λ before. torn-cut all s left.version bytes (All-contains (IsFront all) file.earlier left.version fronts before)
    (least (length file.now.device) file.earlier left.version before) left.torn)
    (λ now. (let same = the_only left.version file.now now in
    torn-cut all s file.now bytes (sym (take-length all)) (sure-least (length file.now.device) file.earlier)
    (subst (λ (version : Version). IsTorn version bytes) same left.torn)))
    (Contains-append_cases file.earlier (file.now ∷ []) left.version left.among)

fronts-of : (m : Machine) (id : ℕ) → IsSound m
    → All (IsFront (version_bytes (get_or m.files id empty_held).now)) (get_or m.files id empty_held).earlier
fronts-of m id sound = elim (cases_lt id (length m.files)) [
  | inl lt ↦ All-get_or (λ (file : Held). All (IsFront (version_bytes file.now)) file.earlier) m.files id empty_held lt sound.fronts
  | inr ge ↦ subst (λ (file : Held). All (IsFront (version_bytes file.now)) file.earlier) (sym (get_or_past m.files id empty_held ge))
      (All-nil (IsFront []))
]

place-torn : (m : Machine) (place : Option ℕ) (bytes : Option (List ℕ)) → IsSound m → IsLeftAt m.files place bytes
    → IsTornAt (map file_of m.files) place bytes
place-torn m None None sound left = tt
place-torn m None (Some bytes) sound left = absurd left
place-torn m (Some id) None sound left = absurd left
place-torn m (Some id) (Some bytes) sound left =
    subst (λ (file : File). image.IsTorn file bytes) (sym (file_at m.files id))
    (left-torn (get_or m.files id empty_held) bytes (fronts-of m id sound) left)

several-all : (notes : List Note) (note : Note) → all_several notes ≡ true → Contains notes note → note.several ≡ true
several-all [] note all has = absurd (none-among note has)
several-all (first ∷ notes) note all has =
    ⊎_elim
    (λ is. ap (λ (n : Note). n.several) (the_only note first is) ∙ and-first first.several (all_several notes) all)
    (λ rest. several-all notes note (and-second first.several (all_several notes) all) rest)
    (Contains-append_cases (first ∷ []) notes note has)

-- no note is left only where none was
none-told : (b : Bool) → (b ≡ true → ⊥) → b ≡ false
none-told true never = absurd (never refl)
none-told false never = refl

pub crash-image : (m : Machine) (image : Image) → IsSound m → IsTold m → CrashLeaves m image → IsImage (folder_of m) image
crash-image m image sound told left = record {
  stage = stage_of left.stage;
  among = among-folder m left.stage left.among;
  store = place-torn m left.stage.store image.store sound left.store;
  next = place-torn m (apart left.stage.store left.stage.next) image.next sound left.next;
  noted = λ none. none-told (m.noted left.stage.store) (λ is.
      (let all = several-all (notes_of m) left.note (told left.stage left.among is) left.noted in
      let both : true ≡ false = sym all ∙ sym left.several ∙ none in cc));
}
