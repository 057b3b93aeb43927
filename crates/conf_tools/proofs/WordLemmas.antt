-- Files that are tried or replaced one after the other.
use Rattle.std.{proofs.Common.{◌≡◌, ℕ, true, false, List, ◌∷◌, refl, sym, subst}, specs.Prelude.{Option, Result}}
use Rattle.{conf_words.specs.declared.invocation.Comments.Comments, conf_tools.specs.{Statuses.worst, Worlds.{Around, WorldModel}}}
use Rattle.conf_tools.specs.declared.{file_words.Report.Report, program.Status.{Status, TheVariants.{Done, Device}}}
use Rattle.conf_tools.specs.{declared.texts.ToolFault.ToolFault, TextWords.{IfSo, ReportsOn, ReportsOnAll, RestylesAll, RestylesFile}}
use Rattle.conf_tools.specs.TextWords.{status_of_report, stops_all}

module _ {W D F P : Type 0} (world : WorldModel W D F P) (remaining : F → Option (List ℕ)) where
  -- ---- reports

  module _ (report : Report) where
    -- whatever the reports on the files that are left make, is what those on all files make
    pub record LeadsOn (rest : List (List ℕ)) (so_far : Status) (now : Around W) (all : List (List ℕ)) (old : Around W) : Type 0 where
      pub leads : (new : Around W) (status : Status) → ReportsOnAll world remaining report rest so_far now new status
          → ReportsOnAll world remaining report all Done old new status

    module _ (path : List ℕ) (left rest all : List (List ℕ)) (split : left ≡ path ∷ rest) (so_far : Status) (now next old : Around W)
        (leads : LeadsOn left so_far now all old) where
      before : LeadsOn (path ∷ rest) so_far now all old
      before = subst (λ paths. LeadsOn paths so_far now all old) split leads

      -- one more file, after which others follow
      pub one_more : (result : Result Status ToolFault) → ReportsOn world remaining report path now next result → stops_all result ≡ false
          → LeadsOn rest (worst so_far (status_of_report result)) next all old
      one_more result reports goes_on = record {
        leads = λ new status others. before.leads new status (
          next,
          result,
          reports,
          subst (λ stops. IfSo stops ((new ≡ next) × (status ≡ Device))
              (ReportsOnAll world remaining report rest (worst so_far (status_of_report result)) next new status))
              (sym goes_on) others,
        );
      }

      -- the last one, since the writer failed
      pub last_one : (result : Result Status ToolFault) → ReportsOn world remaining report path now next result → stops_all result ≡ true
          → ReportsOnAll world remaining report all Done old next Device
      last_one result reports stops = before.leads next Device (
        next,
        result,
        reports,
        subst (λ stopped. IfSo stopped ((next ≡ next) × (Device ≡ Device))
            (ReportsOnAll world remaining report rest (worst so_far (status_of_report result)) next next Device))
            (sym stops) (refl, refl),
      )

  -- ---- files that are replaced

  -- the same of files that are replaced
  module _ (comments : Comments) where
    pub record LeadsOnward (rest : List (List ℕ)) (so_far : Status) (now : W) (all : List (List ℕ)) (old : W) : Type 0 where
      pub leads : (new : W) (status : Status) → RestylesAll world remaining comments rest so_far now new status
          → RestylesAll world remaining comments all Done old new status

    pub one_replaced : (path : List ℕ) (left rest all : List (List ℕ)) → left ≡ path ∷ rest → (so_far : Status) (now next old : W)
        → LeadsOnward left so_far now all old → (of_file : Status) → RestylesFile world remaining comments path now next of_file
        → LeadsOnward rest (worst so_far of_file) next all old
    one_replaced path left rest all split so_far now next old leads of_file restyles = record {
      leads = λ new status others.
          (subst (λ paths. LeadsOnward paths so_far now all old) split leads).leads new status (next, of_file, restyles, others);
    }
