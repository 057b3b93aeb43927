-- What a world keeps of files that are replaced by single calls.
use Rattle.std.{specs.Prelude.{option_map, Contains, Result, Ok, Err, IsErr}, proofs.Common.{◌≡◌, ◌⊎◌, inl, inr, ⊎_elim, ℕ, ◌≤◌, List, []}}
use Rattle.std.proofs.Common.{◌∷◌, ◌++◌, Option, Some, None, refl, sym, ◌∙◌, ap, subst, arith}
use Rattle.conf_files.specs.{Replacing.{IsOldOrNew, IsReplaced, LeavesBefore, Replaces}, declared.replace.ReplaceFault.ReplaceFault}
use Rattle.{conf_files.specs.Standing.HasAll, conf_system.{proofs.Torn.{IsTorn-whole, IsTorn-device, the_only}, specs.Crash.IsTorn}}
use Rattle.{conf_system.specs.Machine.Version, file_calls.specs.{Crash.{Image, IsLeft, CrashLeaves}, Machine.{File, Names, Machine}}}
use Rattle.{file_calls.specs.{Machine.{file_at, file_bytes, Leads.New}, Models.FileModel}, conf_tools.specs.Worlds.WorldModel}
use Rattle.conf_runs.specs.{Files.{FileAt, FilesModel, KeepsFiles, Passes, leaves}, ByCalls.{IsLeftUnder, GoesBy, ReplacedBy}}
use Rattle.conf_runs.specs.ByCalls.{ReplacesByCalls}

-- a file may be left as it reads
left-whole : (file : Option File) → IsLeft file (option_map file_bytes file)
left-whole None = tt
left-whole (Some file) = IsTorn-whole file.version

-- what a crash leaves of the name alone is what one leaves of both
pub left-before : (m : Machine) (bytes : Option (List ℕ)) → LeavesBefore m bytes → IsLeftUnder m bytes
left-before m bytes before = record {
  image = record { given = bytes; beside = option_map file_bytes (file_at m before.names.beside) };
  left = record {
    names = before.names;
    among = before.among;
    given = before.left;
    beside = left-whole (file_at m before.names.beside);
  };
  given = refl;
}

-- of a file that was replaced, a crash leaves the new one
all-left : (bytes : List ℕ) (file : Option File) (given : Option (List ℕ)) → HasAll bytes file → IsLeft file given
    → given ≡ Some bytes
all-left bytes None given whole left = absurd whole
all-left bytes (Some file) None whole left = absurd left
all-left bytes (Some file) (Some given) whole left =
    ap Some (IsTorn-device bytes given _ (subst (λ (version : Version). IsTorn version given) whole left))

pub replaced-left : (before m : Machine) (whole : List ℕ) (bytes : Option (List ℕ)) → IsReplaced before whole m → IsLeftUnder m bytes
    → bytes ≡ Some whole
replaced-left before m whole bytes is under =
    let names : under.left.names ≡ m.now =
    the_only under.left.names m.now
    (subst (λ (earlier : List Names). Contains (earlier ++ m.now ∷ []) under.left.names) is.named under.left.among) in
    let file : file_at m under.left.names.given ≡ m.new =
    ap (λ (n : Names). file_at m n.given) names ∙ ap (file_at m) is.given in
    under.given
    ∙ all-left whole m.new under.image.given is.whole
    (subst (λ (f : Option File). IsLeft f under.image.given) file under.left.given)

module _ {W D F P S : Type 0} (world : WorldModel W D F P) (calls : FileModel S) (files : FilesModel W P)
    (honest : calls.honest)
    (only_now : (s : S) (m : Machine) → calls.held s (calls.moment s) m → m ≡ calls.machine s)
    (by : ReplacesByCalls world calls files) where
  -- at a moment of a replacing
  held-left : (place : P) (whole : List ℕ) (result : Result (Unit {0}) ReplaceFault) (first last : S) (old new : W) (from : ℕ)
      (path : List ℕ) (bytes : Option (List ℕ)) (m : Machine) → from ≤ files.moment old
      → Replaces calls whole first result last → GoesBy calls files place first last old new → files.leads place path
      → calls.held last (calls.moment first) m → IsLeftUnder m bytes
      → files.left old from path bytes ⊎ FileAt files place whole path bytes
  held-left place whole result first last old new from path bytes m le replaces goes leads held under =
      let earlier = λ (is : IsLeftUnder (calls.machine first) bytes).
      by.counts old from (files.moment old) path bytes le (goes.before path bytes leads is) in
      ⊎_elim
      (λ was. inl (earlier (subst (λ (x : Machine). IsLeftUnder x bytes) (only_now first m was) under)))
      (λ is. ⊎_elim
      (λ before. inl (earlier (left-before (calls.machine first) bytes
      (subst (LeavesBefore (calls.machine first)) (sym under.given) before))))
      (λ now. inr (leads, under.given ∙ now))
      (is.leaves under.image under.left))
      ((replaces.moments honest).nothing_else (calls.moment first) m (omega arith) held)

  passes-replaced : (place : P) (whole : List ℕ) (old new : W) (result : Result (Unit {0}) ReplaceFault)
      → ReplacedBy calls files place whole old result new → Passes files old new (FileAt files place whole)
  passes-replaced place whole old new result (inl none) = record {
    later = none.1.later;
    nothing_else = λ from path bytes le left. ⊎_elim (λ was. inl was) (λ never. absurd never) (none.1.nothing_else from path bytes le left);
  }
  passes-replaced place whole old new result (inr (first, last, replaces, goes)) = record {
    later = goes.later;
    nothing_else = λ from path bytes le left. ⊎_elim (λ was. inl was)
        (λ at. held-left place whole result first last old new from path bytes at.1.0 le replaces goes at.0 at.1.1 at.1.2)
        (goes.between from path bytes le left);
  }

  done-replaced : (place : P) (whole : List ℕ) (old new : W) → ReplacedBy calls files place whole old (Ok tt) new
      → (path : List ℕ) (bytes : Option (List ℕ)) → files.leads place path → leaves files new path bytes → bytes ≡ Some whole
  done-replaced place whole old new (inl none) path bytes leads left = cc
  done-replaced place whole old new (inr (first, last, replaces, goes)) path bytes leads left =
      replaced-left (calls.machine first) (calls.machine last) whole bytes (replaces.done honest) (goes.after path bytes leads left)

  pub keeps-files : KeepsFiles world files
  keeps-files = record {
    counts = by.counts;
    opened = by.opened;
    leads = by.leads;
    replaced = λ place whole old new result is. passes-replaced place whole old new result (by.replaced place whole old new result is);
    done = λ place whole old new is. done-replaced place whole old new (by.replaced place whole old new (Ok tt) is);
  }
