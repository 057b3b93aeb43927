-- Without a command the store stays as it is; otherwise the command is performed.
use Rattle.std.proofs.Common.{◌≡◌, ◌⊎◌, inl, false, Err, refl, sym, ◌∙◌, ap, subst}
use Rattle.conf_store.proofs.Prelude.{false≢true, IfOk-weaker, IfErr-weaker, on_ok_weaker, chars, bytes_under, Store, LeavesOnly-start}
use Rattle.conf_store.proofs.{Prelude.{command_of, BadName, Reopen, Device}, ImportLemmas.{import-refused, unread-refused}}
use Rattle.conf_store.{proofs.ImportLemmas.unread-of_state, specs.{Imports.RefusesImport, Meaning.ImageMeans, Durable.MeansPrefix}}
use Rattle.conf_store.specs.{Durable.staged_text, Calls.{Accepts, RefusesCommand, next_record, renews}, Changing.{file_with, new_file_with}}
use Rattle.conf_store.proofs.store.Store.import.Goals as goal

-- ---- a store that has to be opened again

pub returns-then-needs_reopen-clause-reopen : goal.returns-then-needs_reopen-clause-reopen
returns-then-needs_reopen-clause-reopen g c = (λ e. sym c.needs_reopen.ensures.reopen ∙ c.if-needs_reopen.true, λ on. refl)

pub returns-then-needs_reopen-clause-bad_name : goal.returns-then-needs_reopen-clause-bad_name
returns-then-needs_reopen-clause-bad_name g c off =
    absurd (false≢true (sym off ∙ sym c.needs_reopen.ensures.reopen ∙ c.if-needs_reopen.true))

pub returns-then-needs_reopen-clause-any_moment : goal.returns-then-needs_reopen-clause-any_moment
returns-then-needs_reopen-clause-any_moment g c h off =
    absurd (false≢true (sym off ∙ sym c.needs_reopen.ensures.reopen ∙ c.if-needs_reopen.true))

-- ---- the command is performed

pub returns-in-Ok-clause-reopen : goal.returns-in-Ok-clause-reopen
returns-in-Ok-clause-reopen g c = c.apply.ensures.reopen

pub returns-in-Ok-clause-ok : goal.returns-in-Ok-clause-ok
returns-in-Ok-clause-ok g c =
    let made = c.in-Ok.ensures.ok in
    IfOk-weaker c.apply.result _ _
    (λ count done. (
      record {
        tree = made.tree;
        reads = made.reads;
        accepts = subst (λ x. Accepts c.args.self.now x c.apply.new.self) made.is done.0;
      },
      done.1,
    ))
    c.apply.ensures.ok

pub returns-in-Ok-clause-bad_name : goal.returns-in-Ok-clause-bad_name
returns-in-Ok-clause-bad_name g c off bad = absurd (cc (bad, c.in-Ok.ensures.ok.named))

pub returns-in-Ok-clause-refused : goal.returns-in-Ok-clause-refused
returns-in-Ok-clause-refused g c =
    let old = c.args.self.now in
    let new = c.apply.new.self in
    let name = chars c.args.name.now in
    let made = c.in-Ok.ensures.ok in
    IfErr-weaker c.apply.result (RefusesCommand old (command_of c.in-Ok.command) new) (RefusesImport old name c.args.text.now new)
    (λ fault is. import-refused old new name c.args.text.now made.tree fault made.named made.reads
    (subst (λ x. RefusesCommand old x new fault) made.is is))
    c.apply.ensures.refused

pub returns-in-Ok-clause-unchanged : goal.returns-in-Ok-clause-unchanged
returns-in-Ok-clause-unchanged g c = c.apply.ensures.unchanged

pub returns-in-Ok-clause-device : goal.returns-in-Ok-clause-device
returns-in-Ok-clause-device g c = c.apply.ensures.device

pub returns-in-Ok-clause-cause : goal.returns-in-Ok-clause-cause
returns-in-Ok-clause-cause g c = c.apply.ensures.cause

pub returns-in-Ok-clause-risen : goal.returns-in-Ok-clause-risen
returns-in-Ok-clause-risen g c = c.apply.ensures.risen

pub returns-in-Ok-clause-reads : goal.returns-in-Ok-clause-reads
returns-in-Ok-clause-reads g c h off =
    let d = g.D.Disk in
    let old = c.args.self.now in
    let before = bytes_under (d.model.folder old.disk) Store in
    let made = c.in-Ok.ensures.ok in
    on_ok_weaker c.apply.result
    (λ is. record { tree = made.tree; reads = made.reads; is = is ∙ ap (λ x. file_with (renews old.format x) before old.state x) made.is })
    (c.apply.ensures.reads h off)

pub returns-in-Ok-clause-stages : goal.returns-in-Ok-clause-stages
returns-in-Ok-clause-stages g c h off =
    let d = g.D.Disk in
    let old = c.args.self.now in
    let before = staged_text (d.model.folder old.disk) old.staged in
    let made = c.in-Ok.ensures.ok in
    on_ok_weaker c.apply.result
    (λ is. record {
      tree = made.tree;
      reads = made.reads;
      is = is ∙ ap (λ x. new_file_with (renews old.format x) before (next_record old.state x)) made.is;
    })
    (c.apply.ensures.stages h off)

pub returns-in-Ok-clause-running : goal.returns-in-Ok-clause-running
returns-in-Ok-clause-running g c = c.apply.ensures.running (ap (renews c.args.self.now.format) c.in-Ok.ensures.ok.is)

pub returns-in-Ok-clause-any_moment : goal.returns-in-Ok-clause-any_moment
returns-in-Ok-clause-any_moment g c = c.apply.ensures.any_moment

pub returns-in-Ok-clause-now : goal.returns-in-Ok-clause-now
returns-in-Ok-clause-now g c = c.apply.ensures.now

pub returns-in-Ok-clause-flushed : goal.returns-in-Ok-clause-flushed
returns-in-Ok-clause-flushed g c = c.apply.ensures.flushed

-- ---- there is no command

pub returns-in-Err-clause-reopen : goal.returns-in-Err-clause-reopen
returns-in-Err-clause-reopen g c =
    let own = unread-of_state (chars c.args.name.now) c.args.text.now c.in-Err.fault c.in-Err.ensures.refused in
    let off : c.args.self.now.reopen ≡ false = sym c.needs_reopen.ensures.reopen ∙ c.if-needs_reopen.false in (
      λ e. absurd (own.0 (let same : c.in-Err.fault ≡ Reopen = cc e in same)),
      λ on. absurd (false≢true (sym off ∙ on)),
    )

pub returns-in-Err-clause-bad_name : goal.returns-in-Err-clause-bad_name
returns-in-Err-clause-bad_name g c off bad =
    let same : c.in-Err.fault ≡ BadName = cc (c.in-Err.ensures.bad_name bad) in
    ap Err same

pub returns-in-Err-clause-refused : goal.returns-in-Err-clause-refused
returns-in-Err-clause-refused g c =
    unread-refused c.args.self.now c.args.self.now (chars c.args.name.now) c.args.text.now c.in-Err.fault c.in-Err.ensures.refused

pub returns-in-Err-clause-device : goal.returns-in-Err-clause-device
returns-in-Err-clause-device g c e =
    let own = unread-of_state (chars c.args.name.now) c.args.text.now c.in-Err.fault c.in-Err.ensures.refused in
    absurd (own.1 (let same : c.in-Err.fault ≡ Device = cc e in same))

pub returns-in-Err-clause-cause : goal.returns-in-Err-clause-cause
returns-in-Err-clause-cause g c e =
    let own = unread-of_state (chars c.args.name.now) c.args.text.now c.in-Err.fault c.in-Err.ensures.refused in
    absurd (own.1 (let same : c.in-Err.fault ≡ Device = cc e in same))

pub returns-in-Err-clause-any_moment : goal.returns-in-Err-clause-any_moment
returns-in-Err-clause-any_moment g c h off flushed since has =
    let d = g.D.Disk in
    let old = c.args.self.now in
    LeavesOnly-start d.model old.disk (λ image. MeansPrefix flushed since image ⊎ ImageMeans image old.state)
    (λ image left. inl (c.needs_reopen.ensures.now h off flushed since has image (g.met.D.Disk.only_now old.disk image h left)))
