-- What is told of a fault, and of files one after the other.
use Rattle.std.proofs.Common.{◌≡◌, ◌⊎◌, ℕ, true, false, List, [], ◌∷◌, refl, sym, ◌∙◌, ap, subst, arith, inl, inr, codes}
use Rattle.std.specs.Prelude.{None, Some, Option, Result, Ok, Err, IfErr, IfOk, OnErr, OnOk}
use Rattle.conf_tools.specs.{Prelude.{Comments, ReplaceFault, Reporting}, FaultLines.text_fault_name, Outcomes.SilentIfDone}
use Rattle.conf_tools.specs.{Refused.{IsPlaceOf, TellsCalled, TellsFault, TellsFaultOf, blamed, refusal_line}, Statuses.code_of}
use Rattle.conf_tools.specs.{Statuses.{status_of, worst}, Tools.Taken, Worlds.{Around, WorldModel}, Telling.{TellsCause, TellsEnded}}
use Rattle.conf_tools.specs.Telling.{TellsNote, TellsReport, TellsReportOn, TellsReportOnRead, TellsReports, TellsRestyled}
use Rattle.conf_tools.specs.{Telling.{TellsRestyledAll, ended_of_opened, ended_of_read}, TextWords.{IfSo, ReplacesRead, ReportsOnRead}}
use Rattle.conf_tools.specs.{TextWords.{RestylesOpened, status_of_report, stops_all, unopened}, declared.file_words.Report.Report}
use Rattle.conf_tools.specs.declared.{file_words.Report.TheVariants.{Findings, Name}, program.Status.{Status, TheVariants.{Done, Found}}}
use Rattle.conf_tools.{specs.declared.{program.Status.TheVariants.Device, texts.ToolFault.ToolFault}, proofs.OutcomeLemmas.never_done}
use Rattle.conf_words.specs.declared.invocation.{Reporting.TheVariants.Brief, Style.TheVariants.{Bare, WithComments}}

module _ {E : Type 0} (hears : E → List ℕ → E → Type 0) (reporting : Reporting) where
  -- a fault that has no place, and that nothing explains
  pub called_plainly : (name : List ℕ) (fault : ToolFault) (old new : E) → IsPlaceOf fault None
      → hears old (refusal_line name None (text_fault_name fault) []) new → TellsCalled hears reporting name fault old new
  called_plainly name fault old new at told =
      record { place = None; at = at; more = []; told = new; tells = told; brief = λ brief. refl }

  -- whatever a fault is told of, it is told
  pub fault_told : (origin : Option (List ℕ)) (fault : ToolFault) (old new : E)
      → TellsFaultOf hears reporting origin fault old new → TellsFault hears old fault
  fault_told None fault old new (more, told) =
      record { text = codes "confstore"; place = None; at = inr refl; more = more; told = new; tells = told }
  fault_told (Some path) fault old new (name, calls, called) = record {
    text = name;
    place = called.place;
    at = inl called.at;
    more = called.more;
    told = called.told;
    tells = called.tells;
  }

  -- ---- reports

  -- where nothing is told of a report
  pub no_note : (report : Report) (path bytes : List ℕ) (status : Status) (now : E)
      → TellsNote hears reporting report path bytes status now now
  no_note (Findings style) path bytes status now = refl
  no_note (Name WithComments) path bytes status now = refl
  no_note (Name Bare) path bytes Found now = inl refl
  no_note (Name Bare) path bytes status now = refl

  -- the fault of a report, and then its note
  pub report_told : (report : Report) (path bytes : List ℕ) (result : Result Status ToolFault) (old mid new : E)
      → OnOk result (mid ≡ old)
      → IfErr result (λ fault. TellsFaultOf hears reporting (blamed (Some path) fault) fault old mid)
      → IfOk result (λ status. TellsNote hears reporting report path bytes status mid new) → OnErr result (new ≡ mid)
      → TellsReportOn hears reporting report path bytes result old new
  report_told report path bytes (Ok status) old mid new same told note still =
      subst (λ before. TellsNote hears reporting report path bytes status before new) same note
  report_told report path bytes (Err fault) old mid new same told note still =
      subst (TellsFaultOf hears reporting (blamed (Some path) fault) fault old) (sym still) told

  note_silent : (report : Report) (path bytes : List ℕ) (status : Status) (old new : E)
      → TellsNote hears reporting report path bytes status old new → SilentIfDone status old new
  note_silent (Findings style) path bytes status old new told zero = told
  note_silent (Name WithComments) path bytes status old new told zero = told
  note_silent (Name Bare) path bytes Found old new told zero =
      let one : 1 ≡ 0 = zero in absurd (omega (arith, one))
  note_silent (Name Bare) path bytes status old new told zero = told

  report_silent : (report : Report) (path name : List ℕ) (read : Taken) (result : Result Status ToolFault)
      (held written : Option (List ℕ)) (old new : E) → ReportsOnRead report name read result held written
      → TellsReportOnRead hears reporting report path read result old new → SilentIfDone (status_of_report result) old new
  report_silent report path name (Ok bytes) (Ok status) held written old new says told =
      note_silent report path bytes.items status old new told
  report_silent report path name (Ok bytes) (Err fault) held written old new says told =
      λ zero. absurd (never_done fault (status_of fault) refl zero)
  report_silent report path name (Err fault) result held written old new says told =
      λ zero. absurd (never_done fault (status_of_report result) (ap status_of_report says.0) zero)

  -- a file that was replaced, or its fault
  pub ended_told : (path : List ℕ) (ended : Result (Unit {0}) ToolFault) (old new : E) → OnOk ended (new ≡ old)
      → IfErr ended (λ fault. TellsFaultOf hears reporting (Some path) fault old new)
      → TellsEnded hears reporting path ended old new
  ended_told path (Ok done) old new same told = same
  ended_told path (Err fault) old new same told = told

  -- only where a device failed is the cause told
  silent_then : (status : Status) (old mid new : E) → SilentIfDone status old mid → TellsCause status mid new
      → SilentIfDone status old new
  silent_then status old mid new silent (inr same) zero = same ∙ silent zero
  silent_then status old mid new silent (inl device) zero =
      let three : 3 ≡ 0 = sym (ap code_of device) ∙ zero in absurd (omega (arith, three))

  module _ {W D F P : Type 0} (world : WorldModel W D F P) (remaining : F → Option (List ℕ)) where
    -- where the status of a report is 0, nothing was told
    pub reported_silent : (report : Report) (path : List ℕ) (old new : Around W) (before after : E)
        (result : Result Status ToolFault) → TellsReport world remaining hears reporting report path old new before after result
        → SilentIfDone (status_of_report result) before after
    reported_silent report path old new before after result tells =
        silent_then (status_of_report result) before tells.told after
        (report_silent report path _ tells.does.read result old.output new.output before tells.told tells.does.says tells.tells)
        tells.cause

    -- whatever the reports on the files that are left make and tell, is what those on all files make and tell
    pub record LeadsTold (report : Report) (rest : List (List ℕ)) (so_far : Status) (now : Around W) (said : E)
        (all : List (List ℕ)) (old : Around W) (before : E) : Type 0 where
      pub leads : (new : Around W) (after : E) (status : Status)
          → TellsReports world remaining hears reporting report rest so_far now new said after status
          → TellsReports world remaining hears reporting report all Done old new before after status

    module _ (report : Report) (path : List ℕ) (left rest all : List (List ℕ)) (split : left ≡ path ∷ rest) (so_far : Status)
        (now next old : Around W) (said told before : E) (leads : LeadsTold report left so_far now said all old before)
        (result : Result Status ToolFault)
        (tells : TellsReport world remaining hears reporting report path now next said told result) where
      first : LeadsTold report (path ∷ rest) so_far now said all old before
      first = subst (λ paths. LeadsTold report paths so_far now said all old before) split leads

      -- one more file, after which others follow
      pub one_told : stops_all result ≡ false
          → LeadsTold report rest (worst so_far (status_of_report result)) next told all old before
      one_told goes_on = record {
        leads = λ new after status others. first.leads new after status (
          next,
          told,
          result,
          tells,
          subst (λ stops. IfSo stops ((new ≡ next) × (after ≡ told) × (status ≡ Device))
              (TellsReports world remaining hears reporting report rest (worst so_far (status_of_report result)) next new told after
              status)) (sym goes_on) others,
        );
      }

      -- the last one, since the writer failed
      pub last_told : stops_all result ≡ true
          → TellsReports world remaining hears reporting report all Done old next before told Device
      last_told stops = first.leads next told Device (
        next,
        told,
        result,
        tells,
        subst (λ stopped. IfSo stopped ((next ≡ next) × (told ≡ told) × (Device ≡ Device))
            (TellsReports world remaining hears reporting report rest (worst so_far (status_of_report result)) next next told told
            Device)) (sym stops) (refl, refl, refl),
      )

    -- ---- files that are replaced

    read_silent : (comments : Comments) (path : List ℕ) (place : P) (read : Taken) (old new : W) (status : Status)
        (does : ReplacesRead world comments place read old new status) (before after : E)
        → TellsEnded hears reporting path (ended_of_read world comments place read old new status does) before after
        → SilentIfDone status before after
    read_silent comments path place (Ok bytes) old new status (restyled, says, Ok done, replaces, is) before after told zero = told
    read_silent comments path place (Ok bytes) old new status (restyled, says, Err fault, replaces, is) before after told zero =
        absurd (never_done fault status is zero)
    read_silent comments path place (Err fault) old new status (same, is) before after told zero =
        absurd (never_done fault status is zero)

    opened_silent : (comments : Comments) (path : List ℕ) (found : Result (F × P) ReplaceFault) (old new : W) (status : Status)
        (does : RestylesOpened world remaining comments found old new status) (before after : E)
        → TellsEnded hears reporting path
        (ended_of_opened world remaining comments found old new status does) before after
        → SilentIfDone status before after
    opened_silent comments path (Err fault) old new status (same, is) before after told zero =
        absurd (never_done (unopened fault) status is zero)
    opened_silent comments path (Ok (file, place)) old new status (read, left, taken, does) before after told zero =
        read_silent comments path place read old new status does before after told zero

    -- where the status of a file is 0, nothing was told
    pub restyled_silent : (comments : Comments) (path : List ℕ) (old new : W) (before after : E) (status : Status)
        → TellsRestyled world remaining hears reporting comments path old new before after status
        → SilentIfDone status before after
    restyled_silent comments path old new before after status tells =
        let (does, ended) = tells.tells in
        silent_then status before tells.told after
        (opened_silent comments path does.found does.seen new status does.does before tells.told ended) tells.cause

    -- whatever the files that are left make and tell, is what all files make and tell
    pub record LeadsRestyled (comments : Comments) (rest : List (List ℕ)) (so_far : Status) (now : W) (said : E)
        (all : List (List ℕ)) (old : W) (before : E) : Type 0 where
      pub leads : (new : W) (after : E) (status : Status)
          → TellsRestyledAll world remaining hears reporting comments rest so_far now new said after status
          → TellsRestyledAll world remaining hears reporting comments all Done old new before after status

    pub one_restyled : (comments : Comments) (path : List ℕ) (left rest all : List (List ℕ)) → left ≡ path ∷ rest
        → (so_far : Status) (now next old : W) (said told before : E) → LeadsRestyled comments left so_far now said all old before
        → (of_file : Status) → TellsRestyled world remaining hears reporting comments path now next said told of_file
        → LeadsRestyled comments rest (worst so_far of_file) next told all old before
    one_restyled comments path left rest all split so_far now next old said told before leads of_file tells = record {
      leads = λ new after status others.
          (subst (λ paths. LeadsRestyled comments paths so_far now said all old before) split leads).leads new after status
          (next, told, of_file, tells, others);
    }
