-- What is left of one file, and of a file whose name may lead to several.
use Rattle.std.proofs.Common.{◌≡◌, ⊎_elim, ℕ, zero, suc, ◌<◌, List, [], ◌∷◌, ◌++◌, length, get_or, set, take, drop, Contains, Bool, true}
use Rattle.std.proofs.{Common.{false, refl, ◌∙◌, ap, subst, arith, append_assoc, take-append-drop}, lemmas.List.append-nil}
use Rattle.std.proofs.lemmas.List.Elements.{All-contains, All-push, All-nil, Contains-append_left, Contains-append_right}
use Rattle.std.proofs.lemmas.List.Elements.{Contains-append_cases}
use Rattle.conf_system.specs.{Machine.{Version, Held, version_bytes, with_pending, synced, failed_sync, with_now, empty_held}, Crash.IsTorn}
use Rattle.{conf_system.specs.Crash.IsLeftOf, conf_disk.{specs.Image.IsWorn, proofs.Worn.{IsWorn-whole, IsWorn-more, IsWorn-none}}}

-- what reads see may be left
pub IsTorn-whole : (version : Version) → IsTorn version (version_bytes version)
IsTorn-whole version = record { left = version.pending; worn = IsWorn-whole version.pending; is = refl }

-- a version on the device is left as it is
pub IsTorn-device : (device bytes : List ℕ) (failed : Bool)
    → IsTorn (record { device = device; pending = []; failed = failed }) bytes → bytes ≡ device
IsTorn-device device bytes failed torn =
    torn.is ∙ ap (λ (left : List ℕ). device ++ left) (IsWorn-none torn.left torn.worn) ∙ append-nil device

-- whatever the one version may be torn into, the other may be too
abbrev pub TearsInto : Version → Version → Type 0
TearsInto less more = (bytes : List ℕ) → IsTorn less bytes → IsTorn more bytes

pub TearsInto-appended_first : (k : ℕ) (bytes : List ℕ) (version : Version)
    → TearsInto (with_pending (take k bytes) version) (with_pending bytes version)
TearsInto-appended_first k bytes version torn_bytes torn = record {
  left = torn.left;
  worn = subst (λ (pending : List ℕ). IsWorn pending torn.left)
      (append_assoc version.pending (take k bytes) (drop k bytes)
      ∙ ap (λ (l : List ℕ). version.pending ++ l) (take-append-drop k bytes))
      (IsWorn-more (version.pending ++ take k bytes) (drop k bytes) torn.left torn.worn);
  is = torn.is;
}

synced-into : (device pending : List ℕ) (failed : Bool)
    → TearsInto (synced (record { device = device; pending = pending; failed = failed }))
    (record { device = device; pending = pending; failed = failed })
synced-into device pending true bytes torn = torn
synced-into device pending false bytes torn = record {
  left = pending;
  worn = IsWorn-whole pending;
  is = IsTorn-device (device ++ pending) bytes false torn;
}

pub TearsInto-synced : (version : Version) → TearsInto (synced version) version
TearsInto-synced version = synced-into version.device version.pending version.failed

pub TearsInto-failed : (version : Version) → TearsInto (failed_sync version) version
TearsInto-failed version bytes torn = record { left = torn.left; worn = torn.worn; is = torn.is }

-- what is among one thing is that
pub the_only : {X : Type 0} (x only : X) → Contains (only ∷ []) x → x ≡ only
the_only x only has = All-contains (λ y. y ≡ only) (only ∷ []) x (All-push (λ y. y ≡ only) [] only (All-nil (λ y. y ≡ only)) refl) has

-- whatever may be left of the one file, may be left of the other
abbrev pub LeftInto : Held → Held → Type 0
LeftInto less more = (bytes : List ℕ) → IsLeftOf less bytes → IsLeftOf more bytes

pub LeftInto-now : (file : Held) (less more : Version → Version) → ((version : Version) → TearsInto (less version) (more version))
    → LeftInto (with_now less file) (with_now more file)
LeftInto-now file less more into bytes left =
    ⊎_elim
    (λ before. record {
      version = left.version;
      among = Contains-append_left file.earlier (more file.now ∷ []) left.version before;
      torn = left.torn;
    })
    (λ now. record {
      version = more file.now;
      among = Contains-append_right file.earlier (more file.now ∷ []) (more file.now) (0, omega arith, refl);
      torn = into file.now bytes
          (subst (λ (version : Version). IsTorn version bytes) (the_only left.version (less file.now) now) left.torn);
    })
    (Contains-append_cases file.earlier (less file.now ∷ []) left.version left.among)

-- a file is exchanged for one of which more may be left
pub set-into : (files : List Held) (id place : ℕ) (less more : Held) → LeftInto less more → (bytes : List ℕ)
    → IsLeftOf (get_or (set files id less) place empty_held) bytes → IsLeftOf (get_or (set files id more) place empty_held) bytes
set-into [] id place less more into bytes left = left
set-into (file ∷ files) zero zero less more into bytes left = into bytes left
set-into (file ∷ files) zero (suc place) less more into bytes left = left
set-into (file ∷ files) (suc id) zero less more into bytes left = left
set-into (file ∷ files) (suc id) (suc place) less more into bytes left = set-into files id place less more into bytes left

lasting : (device pending bytes : List ℕ) (failed : Bool) → 0 < length pending
    → synced (with_pending bytes (failed_sync (record { device = device; pending = pending; failed = failed })))
    ≡ with_pending bytes (failed_sync (record { device = device; pending = pending; failed = failed }))
lasting device [] bytes failed some = absurd (omega (arith, some))
lasting device (byte ∷ pending) bytes failed some = refl

-- after a failed sync none says anything
pub failed-last : (version : Version) (bytes : List ℕ) → 0 < length version.pending
    → synced (with_pending bytes (failed_sync version)) ≡ with_pending bytes (failed_sync version)
failed-last version bytes some = lasting version.device version.pending bytes version.failed some
