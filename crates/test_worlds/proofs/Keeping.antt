-- What becomes of the images of folders when one changes, or is added.
use Rattle.std.proofs.Common.{◌≡◌, ◌≢◌, inl, inr, ℕ, ◌<◌, ◌+◌, List, [], ◌∷◌, ◌++◌, length, set, Option, Some, None, refl, sym, ◌∙◌, ap}
use Rattle.std.proofs.{Common.{subst, arith, length-append}, lemmas.List.{get_or-set_same, get_or-set_other, length-set}}
use Rattle.std.{proofs.{lemmas.{List.get_or_append_left, Bool.{cases_lt, cases_eq}}, Math.Seq.get_or-append_seam}, specs.List.Contains}
use Rattle.{conf_disk.specs.{Folder.{Stage, Folder, empty_folder}, Image.{Image, IsImage, IsTornAt}}, test_worlds.specs.Entries.Entry}
use Rattle.test_worlds.specs.Entries.{no_entry, entry_at, IsFirst, IsNowhere, Leaves, Changes, Adds, IsBlank}

-- the only one is there
Contains-only : (stage : Stage) → Contains (stage ∷ []) stage
Contains-only stage = (0, omega arith, refl)

-- there is one first place
first-once : (entries : List Entry) (path : List ℕ) (i j : ℕ) → IsFirst entries path i → IsFirst entries path j → j ≡ i
first-once entries path i j one other = elim (cases_eq j i) [
  | inl same ↦ same
  | inr differ ↦ elim (cases_lt i j) [
    | inl lt ↦ absurd (other.before i lt one.here)
    | inr ge ↦ let lt : j < i = omega (arith, ge, differ) in absurd (one.before j lt other.here)
  ]
]

module _ (old new : List Entry) (place : ℕ) (folder : Option Folder) (change : Changes old new place folder) where
  pub first-back : (path : List ℕ) (i : ℕ) → IsFirst new path i → IsFirst old path i
  first-back path i first = record {
    within = omega (arith, first.within, change.count);
    here = sym (change.paths i) ∙ first.here;
    before = λ other lt is. first.before other lt (change.paths other ∙ is);
  }

  pub nowhere-back : (path : List ℕ) → IsNowhere new path → IsNowhere old path
  nowhere-back path none = λ i lt is. none i (omega (arith, lt, change.count)) (change.paths i ∙ is)

-- a disk was handed out and given back
module _ (old opened new : List Entry) (path : List ℕ) (place : ℕ) (last : Folder) (first : IsFirst old path place)
    (taken : Changes old opened place None) (back : Changes opened new place (Some last)) where
  same-folder : (folder : Folder) → Some last ≡ Some folder → folder ≡ last
  same-folder folder is = cc

  pub given_back : (image : Image) → Leaves new path image → IsImage last image
  given_back image left = elim left.at [
    | inl there ↦
        let same : there.0 ≡ place =
        first-once old path place there.0 first
        (first-back old opened place None taken path there.0 (first-back opened new place (Some last) back path there.0 there.1)) in
        subst (λ (f : Folder). IsImage f image)
        (same-folder left.folder (sym back.here ∙ ap (λ (i : ℕ). (entry_at new i).folder) (sym same) ∙ there.2)) left.is
    | inr none ↦ absurd (none.0 place (omega (arith, first.within, taken.count, back.count))
        (back.paths place ∙ taken.paths place ∙ first.here))
  ]

  pub elsewhere : (other : List ℕ) (image : Image) → other ≢ path → Leaves new other image → Leaves old other image
  elsewhere other image differ left = record {
    folder = left.folder;
    at = elim left.at [
      | inl there ↦
          let was = first-back old opened place None taken other there.0
          (first-back opened new place (Some last) back other there.0 there.1) in
          let apart : there.0 ≢ place = λ same. differ (sym was.here ∙ ap (λ (i : ℕ). (entry_at old i).path) same ∙ first.here) in
          inl (there.0, was, sym (back.others there.0 apart ∙ taken.others there.0 apart) ∙ there.2)
      | inr none ↦ inr (
        nowhere-back old opened place None taken other (nowhere-back opened new place (Some last) back other none.0),
        none.1,
      )
    ];
    is = left.is;
  }

-- a folder is made where there was none
module _ (old : List Entry) (path : List ℕ) (folder : Folder) (free : IsNowhere old path) (blank : IsBlank folder) where
  abbrev made : Entry
  made = record { path = path; folder = Some folder }

  abbrev grown : List Entry
  grown = old ++ made ∷ []

  longer : length grown ≡ length old + 1
  longer = length-append old (made ∷ [])

  at_end : entry_at grown (length old) ≡ made
  at_end = get_or-append_seam old made [] no_entry

  before_end : (i : ℕ) → i < length old → entry_at grown i ≡ entry_at old i
  before_end i lt = get_or_append_left old (made ∷ []) no_entry i lt

  nowhere_before : (other : List ℕ) → IsNowhere grown other → IsNowhere old other
  nowhere_before other none = λ i lt is. none i (omega (arith, lt, longer)) (ap (λ (e : Entry). e.path) (before_end i lt) ∙ is)

  first_before : (other : List ℕ) (i : ℕ) → i < length old → IsFirst grown other i → IsFirst old other i
  first_before other i lt first = record {
    within = lt;
    here = ap (λ (e : Entry). e.path) (sym (before_end i lt)) ∙ first.here;
    before = λ j less is. first.before j less (ap (λ (e : Entry). e.path) (before_end j (omega (arith, less, lt))) ∙ is);
  }

  the_one : (other : Folder) → Some folder ≡ Some other → other ≡ folder
  the_one other is = cc

  empty_left : (image : Image) → IsImage folder image → IsImage empty_folder image
  empty_left image is = let none = blank image is in record {
    stage = empty_folder.now;
    among = Contains-only empty_folder.now;
    store = subst (IsTornAt [] None) (sym none.0) tt;
    next = subst (IsTornAt [] None) (sym none.1) tt;
    noted = λ several. refl;
  }

  left_at : (other : List ℕ) (image : Image) (found : Folder) (i : ℕ) → IsFirst grown other i → (entry_at grown i).folder ≡ Some found
      → IsImage found image → Leaves old other image
  left_at other image found i first is left = elim (cases_lt i (length old)) [
    | inl lt ↦ record {
      folder = found;
      at = inl (i, first_before other i lt first, ap (λ (e : Entry). e.folder) (sym (before_end i lt)) ∙ is);
      is = left;
    }
    | inr ge ↦
        let last : i ≡ length old = omega (arith, ge, first.within, longer) in
        let here : entry_at grown i ≡ made = ap (entry_at grown) last ∙ at_end in
        let same : path ≡ other = ap (λ (e : Entry). e.path) (sym here) ∙ first.here in
        let one : found ≡ folder = the_one found (ap (λ (e : Entry). e.folder) (sym here) ∙ is) in
        record {
          folder = empty_folder;
          at = inr (λ j lt at. free j lt (at ∙ sym same), refl);
          is = empty_left image (subst (λ (f : Folder). IsImage f image) one left);
        }
  ]

  pub left_before : (other : List ℕ) (image : Image) → Leaves grown other image → Leaves old other image
  left_before other image left = elim left.at [
    | inl there ↦ left_at other image left.folder there.0 there.1 there.2 left.is
    | inr none ↦ record { folder = left.folder; at = inr (nowhere_before other none.0, none.1); is = left.is }
  ]

pub added : (old new : List Entry) (path : List ℕ) → Adds old new path → (other : List ℕ) (image : Image)
    → Leaves new other image → Leaves old other image
added old new path adds other image left =
    left_before old path adds.folder adds.free adds.blank other image (subst (λ (l : List Entry). Leaves l other image) adds.is left)

-- one entry is set
pub set-changes : (entries : List Entry) (i : ℕ) (e : Entry) → i < length entries → e.path ≡ (entry_at entries i).path
    → Changes entries (set entries i e) i e.folder
set-changes entries i e within same = record {
  count = length-set entries i e;
  paths = λ other. elim (cases_eq other i) [
    | inl is ↦ ap (λ (j : ℕ). (entry_at (set entries i e) j).path) is
        ∙ ap (λ (x : Entry). x.path) (get_or-set_same entries i e no_entry within)
        ∙ same ∙ ap (λ (j : ℕ). (entry_at entries j).path) (sym is)
    | inr differ ↦ ap (λ (x : Entry). x.path) (get_or-set_other entries i other e no_entry differ)
  ];
  here = ap (λ (x : Entry). x.folder) (get_or-set_same entries i e no_entry within);
  others = λ other differ. ap (λ (x : Entry). x.folder) (get_or-set_other entries i other e no_entry differ);
}
