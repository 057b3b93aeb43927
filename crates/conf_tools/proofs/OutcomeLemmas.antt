-- Where the status is 0, nothing was told.
use Rattle.std.proofs.Common.{◌≡◌, ◌<◌, ◌⊎◌, ℕ, Bool, true, false, List, refl, sym, ◌∙◌, ap, subst, arith, rules, inl, inr, codes}
use Rattle.std.specs.Prelude.{nat_lt, if◌then◌else◌, None, Option, Result, Ok, Err, IfErr, OnOk}
use Rattle.conf_tools.{proofs.Prelude.{common_steps, Tally}, specs.{Dropped.TellsDropped, FaultLines.text_fault_name, Listening.fault_line}}
use Rattle.conf_tools.specs.{Statuses.{code_of, status_of, worst, ShowsText}, Refused.TellsFault, Tails.end_of_rest}
use Rattle.conf_tools.specs.{TextWords.{ending_after_check, ending_after_format}, declared.outcome.Ending.{Ending, TheVariants.{Of, Told}}}
use Rattle.conf_tools.specs.declared.{outcome.{Ending.TheVariants.ToldFault, Outcome.Outcome}, program.Status.{Status, TheVariants.Done}}
use Rattle.conf_tools.specs.declared.{program.Status.TheVariants.Device, tail.Tail.Tail, texts.ToolFault.{ToolFault, TheVariants.Comments}}
use Rattle.conf_tools.specs.declared.texts.ToolFault.TheVariants.{ImportText, NoEdits, OneValue, Output, Read, Unsettled, Input as NoInput}
use Rattle.conf_tools.specs.declared.{change_words.Meaning.Meaning, changes.Action.Action, reporter.Origin.{Origin, TheVariants.Named}}
use Rattle.conf_tools.specs.{declared.reporter.Origin.TheVariants.Input, StoreWords.WritesWhole, Endings.StaysUnlessFault, Losses.SetTells}
use Rattle.conf_tools.specs.{Losses.{TellsDash, TellsLoss, TellsLossIfAsked, TellsLossOr, TellsWritten}, Outcomes.EndsWriting}
use Rattle.conf_tools.specs.Outcomes.{LeavesImport, LeavesTold, SilentIfDone, TellsIfDone, TellsOnlyTold, TellsOutcome, TellsSession}
use Rattle.conf_tools.specs.{Outcomes.{TellsUnperformed, status_of_ending, status_of_outcome}, Styles.{TellsLeftOut, TellsLeftOutOf}}
use Rattle.{conf_tools.specs.{Styles.{TellsOfValue, dash_line}, Tools.Taken}, conf_words.specs.declared.invocation.Reporting.Reporting}
use Rattle.conf_words.specs.declared.invocation.{Reporting.TheVariants.{Brief, Explained}, Style.{Style, TheVariants.{Bare, WithComments}}}
use Rattle.conf_tools.specs.declared.change_words.Meaning.TheVariants as means
use Rattle.conf_tools.specs.declared.outcome.Outcome.TheVariants as ends

counts : (fault : ToolFault) → 0 < code_of (status_of fault)
counts NoInput = omega arith
counts Output = omega arith
counts (Read fault) = omega arith
counts (Comments place) = omega arith
counts Unsettled = omega arith
counts OneValue = omega arith
counts NoEdits = omega arith
counts (ImportText fault) = omega arith

-- no fault has the status 0
pub never_done : (fault : ToolFault) (status : Status) → status ≡ status_of fault → code_of status ≡ 0 → ⊥
never_done fault status is done =
    let zero : code_of (status_of fault) ≡ 0 = ap code_of (sym is) ∙ done in
    let above = counts fault in omega arith

-- the number of one of two statuses
chosen : (b : Bool) (one other : Status) → code_of (if b then other else one) ≡ (if b then code_of other else code_of one)
chosen true one other = refl
chosen false one other = refl

-- the greater of two numbers is 0 only if both are
both_zero : (m n : ℕ) → (if nat_lt m n then n else m) ≡ 0 → (m ≡ 0) × (n ≡ 0)
both_zero m n zero = (
  first_of (grind (arith, zero), grind (arith, common_steps, zero), search (rules, arith, zero)),
  first_of (grind (arith, zero), grind (arith, common_steps, zero), search (rules, arith, zero)),
)

-- the worse status of two is 0 only if both are
both_done : (one other : Status) → code_of (worst one other) ≡ 0 → (code_of one ≡ 0) × (code_of other ≡ 0)
both_done one other zero =
    both_zero (code_of one) (code_of other) (sym (chosen (nat_lt (code_of one) (code_of other)) one other) ∙ zero)

-- a text that was written whole, or the first of it
pub written_shown : (bytes : List ℕ) (held written : Option (List ℕ)) (outcome : Outcome) (status : Status)
    → WritesWhole bytes held written (Of outcome) → status ≡ status_of_outcome outcome → ShowsText bytes held written status
written_shown bytes held written outcome status (inl (appends, done)) is = inl (is ∙ ap status_of_ending done, appends)
written_shown bytes held written outcome status (inr (part, cut)) is = inr (is ∙ ap status_of_ending cut, part)

module _ {E : Type 0} where
  -- one more file
  pub worst_silently : (one other : Status) (old mid new : E)
      → SilentIfDone one old mid → SilentIfDone other mid new → SilentIfDone (worst one other) old new
  worst_silently one other old mid new first second zero =
      let both = both_done one other zero in second both.1 ∙ first both.0

  module _ (hears : E → List ℕ → E → Type 0) where
    -- the comments of a text are some
    any_left_out : (bytes : List ℕ) (old new : E) → TellsLeftOutOf hears bytes old new → TellsLeftOut hears old new
    any_left_out bytes old new (inl same) = inl same
    any_left_out bytes old new (inr (count, counts, told)) = inr (count, told)

    -- what opening dropped was told, and then perhaps what is wrong with a text, or how many comments were left out
    pub import_left : (ending : Ending) (old mid new : E)
        → TellsDropped hears old mid → TellsOnlyTold hears ending mid new → LeavesImport hears old ending new
    import_left (Of outcome) old mid new told only = (mid, told, only)
    import_left (ToldFault fault) old mid new told only = (mid, told, only)
    import_left (Told status) old mid new told never = absurd never

    -- what was asked for was told
    pub asked_left_out : (reporting : Reporting) (bytes : List ℕ) (old new : E)
        → TellsLossIfAsked hears reporting bytes old new → TellsLeftOut hears old new
    asked_left_out Brief bytes old new same = inl same
    asked_left_out Explained bytes old new told = any_left_out bytes old new told

    -- what a value's text tells
    pub set_left_out : (reporting : Reporting) (meaning : Meaning) (action : Result Action ToolFault) (bytes : List ℕ)
        (old mid new : E) → OnOk action (mid ≡ old) → SetTells hears reporting meaning action bytes mid new
        → OnOk action (TellsLeftOut hears old new)
    set_left_out reporting means.Text (Ok action) bytes old mid new same told = inl (told ∙ same)
    set_left_out reporting means.Yaml (Ok action) bytes old mid new same told =
        subst (λ before. TellsLeftOut hears before new) same (asked_left_out reporting bytes mid new told)
    set_left_out reporting meaning (Err fault) bytes old mid new same told = tt

    -- of a value that is a text nothing is told, or that it is `-`
    pub dash_told : (reporting : Reporting) (text : List ℕ) (action : Result Action ToolFault) (old mid new : E)
        → OnOk action (mid ≡ old) → OnOk action (TellsDash hears reporting text mid new)
        → OnOk action (TellsOfValue hears old new)
    dash_told Brief text (Ok action) old mid new same told = inl (inl (told ∙ same))
    dash_told Explained text (Ok action) old mid new same (inl told) =
        inr (subst (λ before. hears before dash_line new) same told.1)
    dash_told Explained text (Ok action) old mid new same (inr told) = inl (inl (told.1 ∙ same))
    dash_told reporting text (Err fault) old mid new same told = tt

    -- of another value, how many comments were left out
    pub value_told : (action : Result Action ToolFault) (old new : E) → OnOk action (TellsLeftOut hears old new)
        → OnOk action (TellsOfValue hears old new)
    value_told (Ok action) old new told = inl told
    value_told (Err fault) old new told = tt

    -- nothing more is told
    pub left_out_then : {T : Type 0} (ended : Result T ToolFault) (old mid new : E)
        → OnOk ended (TellsLeftOut hears old mid) → OnOk ended (new ≡ mid) → OnOk ended (TellsLeftOut hears old new)
    left_out_then (Ok done) old mid new told same = subst (TellsLeftOut hears old) (sym same) told
    left_out_then (Err fault) old mid new told same = tt

    -- what `format` tells of a text that it wrote, or of its fault
    pub format_told : (ended : Result (Unit {0}) ToolFault) (origin : Origin) (style : Style) (bytes : List ℕ)
        (ending : Ending) (old mid new : E) → ending ≡ ending_after_format ended → OnOk ended (mid ≡ old)
        → IfErr ended (TellsFault hears old) → OnOk ended (TellsLoss hears origin style bytes mid new)
        → TellsLossOr hears origin style bytes ending old new
    format_told (Ok done) origin style bytes ending old mid new is same told loss =
        subst (λ (e : Ending). TellsLossOr hears origin style bytes e old new) (sym is)
        (subst (λ before. TellsLoss hears origin style bytes before new) same loss)
    format_told (Err fault) origin style bytes ending old mid new is same told loss =
        subst (λ (e : Ending). TellsLossOr hears origin style bytes e old new) (sym is) told

    -- what `check` tells of a text
    pub check_told : (ended : Result ℕ ToolFault) (ending : Ending) (old new : E) → ending ≡ ending_after_check ended
        → OnOk ended (new ≡ old) → IfErr ended (TellsFault hears old) → LeavesTold hears SilentIfDone old ending new
    check_told (Ok count) ending old new is same told =
        subst (λ (e : Ending). LeavesTold hears SilentIfDone old e new) (sym is) (λ zero. same)
    check_told (Err fault) ending old new is same told =
        subst (λ (e : Ending). LeavesTold hears SilentIfDone old e new) (sym is) told

    -- of the input nothing is told but its fault
    pub input_told : (style : Style) (read : Taken) (ending : Ending) (old new : E)
        → TellsWritten hears Input style read ending old new → LeavesTold hears (TellsIfDone hears) old ending new
    input_told style (Ok bytes) (Told status) old new told = λ zero. inl told
    input_told style (Ok bytes) (ToldFault fault) old new told = told
    input_told style (Ok bytes) (Of outcome) old new told = absurd told
    input_told style (Err fault) (Told status) old new told = absurd told
    input_told style (Err fault) (ToldFault other) old new told = told
    input_told style (Err fault) (Of outcome) old new told = absurd told

    -- of a text, and nothing more
    loss_told : (origin : Origin) (style : Style) (bytes : List ℕ) (old new : E)
        → TellsLoss hears origin style bytes old new → TellsLeftOut hears old new
    loss_told Input style bytes old new told = inl told
    loss_told (Named file) Bare bytes old new told = any_left_out bytes old new told
    loss_told (Named file) WithComments bytes old new told = inl told

    pub loss_then : (origin : Origin) (style : Style) (read : Taken) (ending : Ending) (old mid new : E)
        → TellsWritten hears origin style read ending old mid → StaysUnlessFault ending mid new
        → LeavesTold hears (TellsIfDone hears) old ending new
    loss_then origin style (Ok bytes) (Told status) old mid new told same = λ zero.
        subst (TellsLeftOut hears old) (sym same) (loss_told origin style bytes.items old mid told)
    loss_then origin style (Ok bytes) (ToldFault fault) old mid new told same = told
    loss_then origin style (Ok bytes) (Of outcome) old mid new told same = absurd told
    loss_then origin style (Err fault) (Told status) old mid new told same = absurd told
    loss_then origin style (Err fault) (ToldFault other) old mid new told same = told
    loss_then origin style (Err fault) (Of outcome) old mid new told same = absurd told

    -- what opening dropped was told, and then what a session did not perform
    pub session_told : {A F : Type 0} (tail : Tail) (ended : Result (A × Tally) F) (old mid new : E) → TellsDropped hears old mid
        → TellsUnperformed hears tail ended mid new → TellsSession hears old new
    session_told tail (Ok (disk, tally)) old mid new dropped told =
        record { opened = mid; dropped = dropped; end = end_of_rest tail.kept tail.blanks tally.rest; rest = tally.rest; tells = told }
    session_told tail (Err fault) old mid new dropped same =
        record { opened = mid; dropped = dropped; end = None; rest = 0; tells = same }

    -- a text that was written whole, or not, and what is told of it
    pub written_told : (outcome : Outcome) (status : Status) (old new : E)
        → EndsWriting outcome → status ≡ status_of_outcome outcome → TellsOutcome hears outcome old new
        → ((status ≡ Done) × (new ≡ old)) ⊎ ((status ≡ Device) × hears old (fault_line (codes "Output")) new)
    written_told ends.Done status old new ended is tells = inl (is, tells)
    written_told (ends.Text fault) status old new ended is tells = inr (
      is ∙ ap status_of ended,
      subst (λ (f : ToolFault). hears old (fault_line (text_fault_name f)) new) ended tells,
    )
    written_told ends.Absent status old new ended is tells = absurd ended
    written_told ends.Differs status old new ended is tells = absurd ended
    written_told (ends.Damaged folder) status old new ended is tells = absurd ended
    written_told (ends.Store fault) status old new ended is tells = absurd ended
    written_told (ends.Reading fault) status old new ended is tells = absurd ended
    written_told (ends.Keeping fault) status old new ended is tells = absurd ended
