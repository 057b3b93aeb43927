-- What a crash leaves of the names, before and after a call.
use Rattle.std.{specs.Prelude.option_map, proofs.Common.{◌≡◌, ◌⊎◌, inl, inr, ℕ, zero, suc, List, [], ◌∷◌, ◌++◌, take, Option, Some, None}}
use Rattle.std.proofs.{Common.{Contains, Bool, refl, sym, ◌∙◌, ap, subst, arith}, lemmas.List.Elements.Contains-append_right}
use Rattle.{conf_disk.{specs.Image.IsWorn, proofs.Worn.IsWorn-none}, conf_system.specs.Machine.{Version, with_pending, failed_sync}}
use Rattle.conf_system.proofs.Torn.{TearsInto, TearsInto-appended_first, TearsInto-failed, IsTorn-whole, the_only}
use Rattle.file_calls.specs.Machine.{File, Leads, Names, Machine, file_at, file_bytes, with_new, with_version, CreateBeside, CreateGiven}
use Rattle.file_calls.specs.Machine.{Write, GiveOwner, GiveGroup, SetMode, SyncNew, Rename, UnlinkBeside, UnlinkGiven, SyncFolder, Call}
use Rattle.file_calls.specs.{Machine.{after, failing, Leads.{Nothing, Old, New}}, Crash.{Image, IsLeft, CrashLeaves, IsOnDevice, image_now}}

left-now : (file : Option File) → IsLeft file (option_map file_bytes file)
left-now None = tt
left-now (Some file) = IsTorn-whole file.version

pub reading-left : (m : Machine) → CrashLeaves m (image_now m)
reading-left m = record {
  names = m.now;
  among = Contains-append_right m.earlier (m.now ∷ []) m.now (0, omega arith, refl);
  given = left-now (file_at m m.now.given);
  beside = left-now (file_at m m.now.beside);
}

-- a file of which the device has all bytes is left as it is
whole-left : (file : File) (given : Option (List ℕ)) → file.version.pending ≡ [] → IsLeft (Some file) given
    → given ≡ Some (file_bytes file)
whole-left file None whole torn = absurd torn
whole-left file (Some bytes) whole torn =
    ap Some (torn.is ∙ ap (λ (l : List ℕ). file.version.device ++ l)
    (IsWorn-none torn.left (subst (λ (pending : List ℕ). IsWorn pending torn.left) whole torn.worn) ∙ sym whole))

pub device-left : (m : Machine) (file : File) (image : Image) → IsOnDevice m file → CrashLeaves m image
    → image.given ≡ Some (file_bytes file)
device-left m file image on left =
    let same : left.names ≡ m.now =
    the_only left.names m.now (subst (λ (earlier : List Names). Contains (earlier ++ m.now ∷ []) left.names) on.named left.among) in
    whole-left file image.given on.whole (subst (λ (f : Option File). IsLeft f image.given)
    (ap (λ (names : Names). file_at m names.given) same ∙ on.there) left.given)

-- what may be left of the one new file, may be left of the other
new-into : (file : Option File) (less more : Version → Version) (bytes : Option (List ℕ))
    → ((version : Version) → TearsInto (less version) (more version))
    → IsLeft (option_map (with_version less) file) bytes → IsLeft (option_map (with_version more) file) bytes
new-into None less more bytes into left = left
new-into (Some file) less more None into left = left
new-into (Some file) less more (Some bytes) into left = into file.version bytes left

name-into : (m : Machine) (less more : Version → Version) (leads : Leads) (bytes : Option (List ℕ))
    → ((version : Version) → TearsInto (less version) (more version))
    → IsLeft (file_at (with_new m (with_version less)) leads) bytes → IsLeft (file_at (with_new m (with_version more)) leads) bytes
name-into m less more Nothing bytes into left = left
name-into m less more Old bytes into left = left
name-into m less more New bytes into left = new-into m.new less more bytes into left

all-into : (m : Machine) (less more : Version → Version) (image : Image)
    → ((version : Version) → TearsInto (less version) (more version))
    → CrashLeaves (with_new m (with_version less)) image → CrashLeaves (with_new m (with_version more)) image
all-into m less more image into left = record {
  names = left.names;
  among = left.among;
  given = name-into m less more left.names.given image.given into left.given;
  beside = name-into m less more left.names.beside image.beside into left.beside;
}

new-same : (file : Option File) → option_map (with_version (λ version. version)) file ≡ file
new-same None = refl
new-same (Some file) = refl

with_new-same : (m : Machine) → with_new m (with_version (λ version. version)) ≡ m
with_new-same m = ap (λ (file : Option File). record m { new = file }) (new-same m.new)

-- what is left of a machine that differs in what failed alone
again : (m : Machine) (image : Image) (is_refused is_left : Bool) → CrashLeaves m image
    → CrashLeaves (record m { is_refused = is_refused; is_left = is_left }) image
again m image is_refused is_left left =
    let other = record m { is_refused = is_refused; is_left = is_left } in
    record {
      names = left.names;
      among = left.among;
      given = subst (λ (f : Option File). IsLeft f image.given) (file-again m is_refused is_left left.names.given) left.given;
      beside = subst (λ (f : Option File). IsLeft f image.beside) (file-again m is_refused is_left left.names.beside) left.beside;
    }
  where
    file-again : (m : Machine) (is_refused is_left : Bool) (leads : Leads)
        → file_at m leads ≡ file_at (record m { is_refused = is_refused; is_left = is_left }) leads
    file-again m is_refused is_left Nothing = refl
    file-again m is_refused is_left Old = refl
    file-again m is_refused is_left New = refl

pub calls-no_other : (k : ℕ) (call : Call) (m : Machine) (image : Image) → CrashLeaves (failing k call m) image
    → CrashLeaves m image ⊎ CrashLeaves (after call m) image
calls-no_other k (Write bytes) m image left =
    inr (all-into m (with_pending (take k bytes)) (with_pending bytes) image (TearsInto-appended_first k bytes) left)
calls-no_other k SyncNew m image left =
    inl (subst (λ (machine : Machine). CrashLeaves machine image) (with_new-same m)
    (all-into m failed_sync (λ version. version) image TearsInto-failed left))
calls-no_other k SyncFolder m image left = inl left
calls-no_other zero (GiveOwner owner group) m image left =
    inl (again (failing 0 (GiveOwner owner group) m) image m.is_refused m.is_left left)
calls-no_other zero (GiveGroup group) m image left = inl (again (failing 0 (GiveGroup group) m) image m.is_refused m.is_left left)
calls-no_other zero UnlinkBeside m image left = inl (again (failing 0 UnlinkBeside m) image m.is_refused m.is_left left)
calls-no_other zero UnlinkGiven m image left = inl (again (failing 0 UnlinkGiven m) image m.is_refused m.is_left left)
calls-no_other zero (CreateBeside rights) m image left = inl left
calls-no_other zero (CreateGiven rights) m image left = inl left
calls-no_other zero (SetMode mode) m image left = inl left
calls-no_other zero Rename m image left = inl left
calls-no_other (suc k) (CreateBeside rights) m image left =
    inr (again (failing 1 (CreateBeside rights) m) image m.is_refused m.is_left left)
calls-no_other (suc k) (CreateGiven rights) m image left =
    inr (again (failing 1 (CreateGiven rights) m) image m.is_refused m.is_left left)
calls-no_other (suc k) (GiveOwner owner group) m image left =
    inr (again (failing 1 (GiveOwner owner group) m) image m.is_refused m.is_left left)
calls-no_other (suc k) (GiveGroup group) m image left =
    inr (again (failing 1 (GiveGroup group) m) image m.is_refused m.is_left left)
calls-no_other (suc k) (SetMode mode) m image left = inr left
calls-no_other (suc k) Rename m image left = inr left
calls-no_other (suc k) UnlinkBeside m image left = inr left
calls-no_other (suc k) UnlinkGiven m image left = inr left
