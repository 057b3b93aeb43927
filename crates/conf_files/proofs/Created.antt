-- A new file under the name itself: which calls leave that so, and what it means.
use Rattle.std.{specs.Prelude.option_map, proofs.Common.{◌≡◌, ◌⊎◌, ℕ, List, [], ◌∷◌, ◌++◌, take, drop, Option, Some, None, Contains, Bool}}
use Rattle.std.proofs.{Common.{true, false, refl, sym, ◌∙◌, ap, subst, inl, inr, ⊎_elim, take-append-drop}, lemmas.List.append-nil}
use Rattle.std.proofs.lemmas.List.Elements.{Contains-append_cases, Contains-append_right}
use Rattle.{conf_disk.{specs.Image.IsWorn, proofs.Worn.{IsWorn-behind, IsWorn-more}}, conf_system.specs.Machine.{Version, version_bytes}}
use Rattle.conf_system.{specs.{Machine.{with_pending, synced, failed_sync}, Crash.IsTorn}, proofs.Torn.the_only}
use Rattle.file_calls.specs.{declared.calls.Rights.Rights, Machine.{File, Leads, Names, Machine, Write, SyncNew, CreateGiven, UnlinkGiven}}
use Rattle.file_calls.specs.Machine.{SyncFolder, after, failing, file_at, file_bytes, given_bytes, stages, with_names, with_new}
use Rattle.file_calls.specs.{Machine.{with_version, empty_file, Leads.{Nothing, Old, New}}, Crash.IsLeft, Models.{FileModel, Passes, Wrote}}
use Rattle.{file_calls.specs.Models.IsPrivate, conf_files.specs.{Modes.NewIsPrivate, Standing.{IsNotNew, MightLead}}}
use Rattle.conf_files.specs.{Replacing.LeavesBefore, Creating.{IsUnmade, IsPart, HasPart, ReadsPart, LeavesPart, IsNoneOrPart}}
use Rattle.conf_files.{specs.Steps.{IsEmpty, IsFilling, Fills}, proofs.{Moving.{Passes-joined, Passes-weaker}, Standing.OnlyNew-new}}
use Rattle.conf_files.proofs.Replaced.{now-among, might-left}

-- ---- the bytes of the new file

synced-bytes : (version : Version) (failed : Bool)
    → version_bytes (synced (record version { failed = failed })) ≡ version_bytes version
synced-bytes version true = refl
synced-bytes version false = append-nil (version_bytes version)

-- ---- the names

-- a name leads where it led before, or to the new file, which has a part of the bytes
abbrev pub IsPartHere : Machine → List ℕ → Machine → Leads → Type 0
IsPartHere before bytes m New = HasPart bytes m.new × (before.now.given ≡ Nothing)
IsPartHere before bytes m leads = MightLead before leads

pub record IsMaking (before : Machine) (bytes : List ℕ) (m : Machine) : Type 0 where
  pub old : m.old ≡ before.old
  pub names : (names : Names) → Contains (stages m) names → IsPartHere before bytes m names.given
  pub given : (m.now.given ≡ before.now.given) ⊎ (m.now.given ≡ New)
  pub is_private : NewIsPrivate m.new

part-here : (before : Machine) (bytes : List ℕ) (m : Machine) (leads : Leads) → MightLead before leads → IsNotNew leads
    → IsPartHere before bytes m leads
part-here before bytes m Nothing might not = might
part-here before bytes m Old might not = might
part-here before bytes m New might not = absurd not

pub IsMaking-begun : (before : Machine) (bytes : List ℕ) → IsUnmade before → IsMaking before bytes before
IsMaking-begun before bytes unmade = record {
  old = refl;
  names = λ names among. part-here before bytes before names.given
      (record { names = names; among = among; is = refl }) (unmade.names names among);
  given = inl refl;
  is_private = subst NewIsPrivate (sym unmade.none) tt;
}

-- another stage
making-named : (before : Machine) (bytes : List ℕ) (m : Machine) (new : Option File) (given beside : Leads) (left : Bool)
    → IsMaking before bytes m → (m.new ≡ None) ⊎ (m.new ≡ new) → NewIsPrivate new
    → IsPartHere before bytes (record m { new = new }) given
    → (given ≡ before.now.given) ⊎ (given ≡ New)
    → IsMaking before bytes (record (with_names m given beside) { new = new; is_left = left })
making-named before bytes m new given beside left making same private is there = record {
  old = making.old;
  names = λ names among. ⊎_elim (λ was. again names.given (making.names names was))
      (λ last. subst (λ (n : Names). IsPartHere before bytes next n.given) (sym (the_only names latest last)) (last-one given is))
      (Contains-append_cases (stages m) (latest ∷ []) names among);
  given = there;
  is_private = private;
}
  where
    latest : Names
    latest = record { given = given; beside = beside }

    next : Machine
    next = record (with_names m given beside) { new = new; is_left = left }

    again : (leads : Leads) → IsPartHere before bytes m leads → IsPartHere before bytes next leads
    again Nothing so = so
    again Old so = so
    again New so = ⊎_elim (λ none. absurd (subst (HasPart bytes) none so.0)) (λ is. (subst (HasPart bytes) is so.0, so.1)) same

    last-one : (leads : Leads) → IsPartHere before bytes (record m { new = new }) leads → IsPartHere before bytes next leads
    last-one Nothing so = so
    last-one Old so = so
    last-one New so = so

pub IsMaking-created : (before : Machine) (bytes : List ℕ) (m : Machine) (rights : Rights) (left : Bool) → m ≡ before
    → IsUnmade before → before.now.given ≡ Nothing → IsPrivate rights
    → IsMaking before bytes (record (after (CreateGiven rights) m) { is_left = left })
IsMaking-created before bytes m rights left same unmade none private =
    making-named before bytes m (Some (empty_file rights)) New m.now.beside left
    (subst (IsMaking before bytes) (sym same) (IsMaking-begun before bytes unmade))
    (inl (ap (λ (n : Machine). n.new) same ∙ unmade.none)) private ((0, refl), none) (inr refl)

pub IsMaking-filling : (before : Machine) (bytes : List ℕ) (start m : Machine) → IsMaking before bytes start
    → before.now.given ≡ Nothing → IsFilling start bytes m → IsMaking before bytes m
IsMaking-filling before bytes start m making none filling = record {
  old = filling.frame.same_old ∙ making.old;
  names = λ names among. again names.given (making.names names (subst (λ (l : List Names). Contains l names) same among));
  given = ⊎_elim (λ is. inl (ap (λ (n : Names). n.given) filling.frame.now ∙ is))
      (λ is. inr (ap (λ (n : Names). n.given) filling.frame.now ∙ is)) making.given;
  is_private = filling.is_private;
}
  where
    same : stages m ≡ stages start
    same = λ i. filling.frame.earlier i ++ filling.frame.now i ∷ []

    again : (leads : Leads) → IsPartHere before bytes start leads → IsPartHere before bytes m leads
    again Nothing so = so
    again Old so = so
    again New so = (filling.part, none)

pub IsMaking-unlinked : (before : Machine) (bytes : List ℕ) (m : Machine) → IsMaking before bytes m → before.now.given ≡ Nothing
    → IsMaking before bytes (after UnlinkGiven m)
IsMaking-unlinked before bytes m making none =
    making-named before bytes m m.new Nothing m.now.beside m.is_left making (inr refl) making.is_private
    (record { names = before.now; among = now-among before; is = none }) (inl (sym none))

pub IsMaking-left : (before : Machine) (bytes : List ℕ) (m : Machine) → IsMaking before bytes m
    → IsMaking before bytes (failing 0 UnlinkGiven m)
IsMaking-left before bytes m making = record {
  old = making.old;
  names = λ names among. again names.given (making.names names among);
  given = making.given;
  is_private = making.is_private;
}
  where
    again : (leads : Leads) → IsPartHere before bytes m leads → IsPartHere before bytes (failing 0 UnlinkGiven m) leads
    again Nothing so = so
    again Old so = so
    again New so = so

pub IsMaking-settled : (before : Machine) (bytes : List ℕ) (m : Machine) → IsMaking before bytes m
    → IsMaking before bytes (after SyncFolder m)
IsMaking-settled before bytes m making = record {
  old = making.old;
  names = λ names among. again names.given (making.names names (Contains-append_right m.earlier (m.now ∷ []) names among));
  given = making.given;
  is_private = making.is_private;
}
  where
    again : (leads : Leads) → IsPartHere before bytes m leads → IsPartHere before bytes (after SyncFolder m) leads
    again Nothing so = so
    again Old so = so
    again New so = so

-- ---- what is read, and what a crash leaves

part-read : (bytes : List ℕ) (file : Option File) → HasPart bytes file → ReadsPart bytes (option_map file_bytes file)
part-read bytes None part = part
part-read bytes (Some file) part = part

part-torn : (bytes : List ℕ) (version : Version) (left : List ℕ) → IsPart bytes (version_bytes version) → IsTorn version left
    → IsWorn bytes left
part-torn bytes version left part torn =
    let worn : IsWorn (take part.0 bytes) left = subst (λ (l : List ℕ). IsWorn l left) part.1
    (subst (IsWorn (version_bytes version)) (sym torn.is) (IsWorn-behind version.device version.pending torn.left torn.worn)) in
    subst (λ (l : List ℕ). IsWorn l left) (take-append-drop part.0 bytes)
    (IsWorn-more (take part.0 bytes) (drop part.0 bytes) left worn)

part-left : (bytes : List ℕ) (file : Option File) (given : Option (List ℕ)) → HasPart bytes file → IsLeft file given
    → LeavesPart bytes given
part-left bytes None given part left = absurd part
part-left bytes (Some file) None part left = absurd left
part-left bytes (Some file) (Some given) part left = part-torn bytes file.version given part left

here-left : (before : Machine) (bytes : List ℕ) (m : Machine) (leads : Leads) (given : Option (List ℕ)) → m.old ≡ before.old
    → IsPartHere before bytes m leads → IsLeft (file_at m leads) given → LeavesBefore before given ⊎ LeavesPart bytes given
here-left before bytes m Nothing given old is left = inl (might-left before m Nothing given refl is left)
here-left before bytes m Old given old is left = inl (might-left before m Old given (ap Some old) is left)
here-left before bytes m New given old is left = inr (part-left bytes m.new given is.0 left)

-- what the name reads as, where it leads to what was there
same-read : (before m : Machine) (leads : Leads) → IsNotNew leads → m.old ≡ before.old
    → option_map file_bytes (file_at m leads) ≡ option_map file_bytes (file_at before leads)
same-read before m Nothing not old = refl
same-read before m Old not old = ap (λ (file : File). Some (file_bytes file)) old
same-read before m New not old = absurd not

pub same-given : (before m : Machine) → IsUnmade before → m.old ≡ before.old → m.now.given ≡ before.now.given
    → given_bytes m ≡ given_bytes before
same-given before m unmade old is =
    ap (λ (leads : Leads). option_map file_bytes (file_at m leads)) is
    ∙ same-read before m before.now.given (unmade.names before.now (now-among before)) old

pub IsNoneOrPart-making : (before : Machine) (bytes : List ℕ) (m : Machine) → IsUnmade before → IsMaking before bytes m
    → IsNoneOrPart before bytes m
IsNoneOrPart-making before bytes m unmade making = record {
  reads = ⊎_elim (λ is. inl (same-given before m unmade making.old is))
      (λ is. (let now = subst (IsPartHere before bytes m) is (making.names m.now (now-among m)) in
      inr (
        now.1,
        subst (λ (leads : Leads). ReadsPart bytes (option_map file_bytes (file_at m leads))) (sym is)
            (part-read bytes m.new now.0),
      )))
      making.given;
  leaves = λ image left. here-left before bytes m left.names.given image.given making.old
      (making.names left.names left.among) left.given;
  is_private = making.is_private;
}
