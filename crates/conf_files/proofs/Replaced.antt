-- The name leads to the old file, or to the new one: which calls leave that so, and what it means.
use Rattle.std.{specs.Prelude.option_map, proofs.Common.{◌≡◌, ◌⊎◌, ℕ, List, [], ◌∷◌, Option, Some, None, Contains, Bool, true, false, refl}}
use Rattle.std.proofs.{Common.{sym, ◌∙◌, ap, subst, arith, inl, inr, ⊎_elim}, lemmas.List.{append-nil, Elements.Contains-append_cases}}
use Rattle.std.proofs.lemmas.List.Elements.{Contains-append_right}
use Rattle.conf_system.{specs.{Machine.{Version, version_bytes}, Crash.IsTorn}, proofs.Torn.{IsTorn-device, the_only}}
use Rattle.file_calls.specs.Machine.{File, Leads, Names, Machine, Rename, UnlinkBeside, SyncFolder, after, failing, file_at, file_bytes}
use Rattle.file_calls.specs.{Machine.{given_bytes, stages, with_names, Leads.{Nothing, Old, New}}, Crash.IsLeft}
use Rattle.conf_files.specs.{Standing.{HasAll, IsNotNew, MightLead, Stands, IsHere, Holds}, Replacing.{IsFresh, LeavesBefore, IsOldOrNew}}
use Rattle.conf_files.specs.Replacing.{IsKept}

pub now-among : (m : Machine) → Contains (stages m) m.now
now-among m = Contains-append_right m.earlier (m.now ∷ []) m.now (0, omega arith, refl)

here : (before : Machine) (bytes : List ℕ) (m : Machine) (leads : Leads) → MightLead before leads → IsNotNew leads
    → IsHere before bytes m leads
here before bytes m Nothing might not = might
here before bytes m Old might not = might
here before bytes m New might not = absurd not

pub Holds-stands : (before : Machine) (bytes : List ℕ) (m : Machine) → Stands before m → Holds before bytes m
Holds-stands before bytes m stands = record {
  old = stands.old;
  names = λ names among. (let so = stands.names names among in here before bytes m names.given so.0 so.1);
  given = inl stands.given;
  narrow = stands.narrow;
}

-- another stage, whose name leads to where one that holds does
Holds-named : (before : Machine) (bytes : List ℕ) (m : Machine) (given beside : Leads) (left : Bool) → Holds before bytes m
    → IsHere before bytes m given → (given ≡ Old) ⊎ (given ≡ New)
    → Holds before bytes (record (with_names m given beside) { is_left = left })
Holds-named before bytes m given beside left holds is there = record {
  old = holds.old;
  names = λ names among. ⊎_elim (λ was. again names.given (holds.names names was))
      (λ last. subst (λ (n : Names). IsHere before bytes next n.given) (sym (the_only names new last)) (again given is))
      (Contains-append_cases (stages m) (new ∷ []) names among);
  given = there;
  narrow = holds.narrow;
}
  where
    new : Names
    new = record { given = given; beside = beside }

    next : Machine
    next = record (with_names m given beside) { is_left = left }

    again : (leads : Leads) → IsHere before bytes m leads → IsHere before bytes next leads
    again Nothing so = so
    again Old so = so
    again New so = so

-- the name that is there now
now-here : (before : Machine) (bytes : List ℕ) (m : Machine) → Holds before bytes m → IsHere before bytes m m.now.given
now-here before bytes m holds = holds.names m.now (now-among m)

pub Holds-unlinked : (before : Machine) (bytes : List ℕ) (m : Machine) → Holds before bytes m
    → Holds before bytes (after UnlinkBeside m)
Holds-unlinked before bytes m holds =
    Holds-named before bytes m m.now.given Nothing m.is_left holds (now-here before bytes m holds) holds.given

pub Holds-left : (before : Machine) (bytes : List ℕ) (m : Machine) → Holds before bytes m
    → Holds before bytes (failing 0 UnlinkBeside m)
Holds-left before bytes m holds = record {
  old = holds.old;
  names = λ names among. again names.given (holds.names names among);
  given = holds.given;
  narrow = holds.narrow;
}
  where
    again : (leads : Leads) → IsHere before bytes m leads → IsHere before bytes (failing 0 UnlinkBeside m) leads
    again Nothing so = so
    again Old so = so
    again New so = so

pub Holds-renamed : (before : Machine) (bytes : List ℕ) (m : Machine) → Stands before m → m.now.beside ≡ New → HasAll bytes m.new
    → Holds before bytes (after Rename m)
Holds-renamed before bytes m stands beside whole =
    Holds-named before bytes m m.now.beside Nothing m.is_left (Holds-stands before bytes m stands)
    (subst (IsHere before bytes m) (sym beside) whole) (inr beside)

pub Holds-settled : (before : Machine) (bytes : List ℕ) (m : Machine) → Holds before bytes m
    → Holds before bytes (after SyncFolder m)
Holds-settled before bytes m holds = record {
  old = holds.old;
  names = λ names among. again names.given (holds.names names (Contains-append_right m.earlier (m.now ∷ []) names among));
  given = holds.given;
  narrow = holds.narrow;
}
  where
    again : (leads : Leads) → IsHere before bytes m leads → IsHere before bytes (after SyncFolder m) leads
    again Nothing so = so
    again Old so = so
    again New so = so

-- ---- what is read, and what a crash leaves

pub all-bytes : (bytes : List ℕ) (file : Option File) → HasAll bytes file → option_map file_bytes file ≡ Some bytes
all-bytes bytes None whole = absurd whole
all-bytes bytes (Some file) whole = ap (λ (version : Version). Some (version_bytes version)) whole ∙ ap Some (append-nil bytes)

all-left : (bytes : List ℕ) (file : Option File) (given : Option (List ℕ)) → HasAll bytes file → IsLeft file given
    → given ≡ Some bytes
all-left bytes None given whole left = absurd whole
all-left bytes (Some file) None whole left = absurd left
all-left bytes (Some file) (Some given) whole left =
    ap Some (IsTorn-device bytes given false (subst (λ (version : Version). IsTorn version given) whole left))

pub might-left : (before m : Machine) (leads : Leads) (given : Option (List ℕ)) → file_at m leads ≡ file_at before leads
    → MightLead before leads → IsLeft (file_at m leads) given → LeavesBefore before given
might-left before m leads given same might left = record {
  names = might.names;
  among = might.among;
  left = subst (λ (file : Option File). IsLeft file given)
      (same ∙ ap (file_at before) (sym might.is)) left;
}

here-left : (before : Machine) (bytes : List ℕ) (m : Machine) (leads : Leads) (given : Option (List ℕ)) → m.old ≡ before.old
    → IsHere before bytes m leads → IsLeft (file_at m leads) given → LeavesBefore before given ⊎ (given ≡ Some bytes)
here-left before bytes m Nothing given old is left = inl (might-left before m Nothing given refl is left)
here-left before bytes m Old given old is left = inl (might-left before m Old given (ap Some old) is left)
here-left before bytes m New given old is left = inr (all-left bytes m.new given is left)

old-bytes : (before m : Machine) → before.now.given ≡ Old → m.old ≡ before.old → m.now.given ≡ Old → given_bytes m ≡ given_bytes before
old-bytes before m first old now =
    ap (λ (leads : Leads). option_map file_bytes (file_at m leads)) now
    ∙ ap (λ (file : File). Some (file_bytes file)) old
    ∙ sym (ap (λ (leads : Leads). option_map file_bytes (file_at before leads)) first)

pub new-bytes : (bytes : List ℕ) (m : Machine) → m.now.given ≡ New → HasAll bytes m.new → given_bytes m ≡ Some bytes
new-bytes bytes m now whole =
    ap (λ (leads : Leads). option_map file_bytes (file_at m leads)) now ∙ all-bytes bytes m.new whole

reads-either : (before : Machine) (bytes : List ℕ) (m : Machine) → IsFresh before → Holds before bytes m
    → (given_bytes m ≡ given_bytes before) ⊎ (given_bytes m ≡ Some bytes)
reads-either before bytes m fresh holds =
    ⊎_elim (λ is. inl (old-bytes before m fresh.given holds.old is))
    (λ is. inr (new-bytes bytes m is (subst (IsHere before bytes m) is (now-here before bytes m holds)))) holds.given

pub IsOldOrNew-holds : (before : Machine) (bytes : List ℕ) (m : Machine) → IsFresh before → Holds before bytes m
    → IsOldOrNew before bytes m
IsOldOrNew-holds before bytes m fresh holds = record {
  reads = reads-either before bytes m fresh holds;
  leaves = λ image left. here-left before bytes m left.names.given image.given holds.old
      (holds.names left.names left.among) left.given;
  narrow = holds.narrow;
}

pub IsKept-holds : (before : Machine) (bytes : List ℕ) (m : Machine) → IsFresh before → Holds before bytes m
    → (m.now.beside ≡ Nothing) ⊎ (m.is_left ≡ true) → IsKept before bytes m
IsKept-holds before bytes m fresh holds beside = record { reads = reads-either before bytes m fresh holds; beside = beside }
