-- A command renews the file, or its record is appended; either way the clauses are those of that call.
use Rattle.std.{proofs.Common.{◌≡◌, true, false, not, sym, ◌∙◌, ap, subst}, specs.Prelude.{IfOk, OnOk}}
use Rattle.conf_store.{proofs.Prelude.{false≢true, and_parts, bytes_under, Store, command_of}, specs.Calls.{AcceptsBy, next_record, renews}}
use Rattle.conf_store.specs.{Changing.{WaitsBy, file_with, new_file_with}, Durable.staged_text, View.is_third}
use Rattle.conf_state.specs.Commands.{has_about}
use Rattle.conf_store.proofs.store.Store.submit.Goals as goal

pub renew_with-requires : goal.renew_with-requires
renew_with-requires g c =
    let seen = c.args.self.now in
    let command = command_of c.args.command in
    record { about = (and_parts (has_about command) (not (is_third seen.format)) (sym c.renews.ensures ∙ c.if-renews.true)).0 }

-- ---- the file is renewed

pub returns-then-renews-clause-ok : goal.returns-then-renews-clause-ok
returns-then-renews-clause-ok g c =
    let old = c.args.self.now in
    let new = c.renew_with.new.self in
    let command = command_of c.args.command in
    subst (λ b. IfOk c.renew_with.result (λ count. AcceptsBy b old command new × (count ≡ new.state.count)))
    (sym (sym c.renews.ensures ∙ c.if-renews.true)) c.renew_with.ensures.ok

pub returns-then-renews-clause-running : goal.returns-then-renews-clause-running
returns-then-renews-clause-running g c none = absurd (false≢true (sym none ∙ sym c.renews.ensures ∙ c.if-renews.true))

pub returns-then-renews-clause-reads : goal.returns-then-renews-clause-reads
returns-then-renews-clause-reads g c h off =
    let d = g.D.Disk in
    let old = c.args.self.now in
    let new = c.renew_with.new.self in
    let command = command_of c.args.command in
    subst (λ b. OnOk c.renew_with.result (bytes_under (d.model.folder new.disk) Store
    ≡ file_with b (bytes_under (d.model.folder old.disk) Store) old.state command))
    (sym (sym c.renews.ensures ∙ c.if-renews.true)) (c.renew_with.ensures.reads h off)

pub returns-then-renews-clause-stages : goal.returns-then-renews-clause-stages
returns-then-renews-clause-stages g c h off =
    let d = g.D.Disk in
    let old = c.args.self.now in
    let new = c.renew_with.new.self in
    let command = command_of c.args.command in
    subst (λ b. OnOk c.renew_with.result (staged_text (d.model.folder new.disk) new.staged
    ≡ new_file_with b (staged_text (d.model.folder old.disk) old.staged) (next_record old.state command)))
    (sym (sym c.renews.ensures ∙ c.if-renews.true)) (c.renew_with.ensures.stages h off)

pub returns-then-renews-clause-waits : goal.returns-then-renews-clause-waits
returns-then-renews-clause-waits g c =
    let d = g.D.Disk in
    let command = command_of c.args.command in
    subst (λ b. WaitsBy b d.model c.args.self.now command c.renew_with.new.self c.renew_with.result)
    (sym (sym c.renews.ensures ∙ c.if-renews.true)) c.renew_with.ensures.waits

pub returns-then-renews-clause-reopen : goal.returns-then-renews-clause-reopen
returns-then-renews-clause-reopen g c = c.renew_with.ensures.reopen

pub returns-then-renews-clause-refused : goal.returns-then-renews-clause-refused
returns-then-renews-clause-refused g c = c.renew_with.ensures.refused

pub returns-then-renews-clause-unchanged : goal.returns-then-renews-clause-unchanged
returns-then-renews-clause-unchanged g c = c.renew_with.ensures.unchanged

pub returns-then-renews-clause-device : goal.returns-then-renews-clause-device
returns-then-renews-clause-device g c = c.renew_with.ensures.device

pub returns-then-renews-clause-cause : goal.returns-then-renews-clause-cause
returns-then-renews-clause-cause g c = c.renew_with.ensures.cause

pub returns-then-renews-clause-risen : goal.returns-then-renews-clause-risen
returns-then-renews-clause-risen g c = c.renew_with.ensures.risen

pub returns-then-renews-clause-any_moment : goal.returns-then-renews-clause-any_moment
returns-then-renews-clause-any_moment g c = c.renew_with.ensures.any_moment

-- ---- its record is appended

pub returns-else-renews-clause-ok : goal.returns-else-renews-clause-ok
returns-else-renews-clause-ok g c =
    let old = c.args.self.now in
    let new = c.append.new.self in
    let command = command_of c.args.command in
    subst (λ b. IfOk c.append.result (λ count. AcceptsBy b old command new × (count ≡ new.state.count)))
    (sym (sym c.renews.ensures ∙ c.if-renews.false)) c.append.ensures.ok

pub returns-else-renews-clause-running : goal.returns-else-renews-clause-running
returns-else-renews-clause-running g c none = c.append.ensures.running

pub returns-else-renews-clause-reads : goal.returns-else-renews-clause-reads
returns-else-renews-clause-reads g c h off =
    let d = g.D.Disk in
    let old = c.args.self.now in
    let new = c.append.new.self in
    let command = command_of c.args.command in
    subst (λ b. OnOk c.append.result (bytes_under (d.model.folder new.disk) Store
    ≡ file_with b (bytes_under (d.model.folder old.disk) Store) old.state command))
    (sym (sym c.renews.ensures ∙ c.if-renews.false)) (c.append.ensures.reads h off)

pub returns-else-renews-clause-stages : goal.returns-else-renews-clause-stages
returns-else-renews-clause-stages g c h off =
    let d = g.D.Disk in
    let old = c.args.self.now in
    let new = c.append.new.self in
    let command = command_of c.args.command in
    subst (λ b. OnOk c.append.result (staged_text (d.model.folder new.disk) new.staged
    ≡ new_file_with b (staged_text (d.model.folder old.disk) old.staged) (next_record old.state command)))
    (sym (sym c.renews.ensures ∙ c.if-renews.false)) (c.append.ensures.stages h off)

pub returns-else-renews-clause-waits : goal.returns-else-renews-clause-waits
returns-else-renews-clause-waits g c =
    let d = g.D.Disk in
    let command = command_of c.args.command in
    subst (λ b. WaitsBy b d.model c.args.self.now command c.append.new.self c.append.result)
    (sym (sym c.renews.ensures ∙ c.if-renews.false)) c.append.ensures.waits

pub returns-else-renews-clause-reopen : goal.returns-else-renews-clause-reopen
returns-else-renews-clause-reopen g c = c.append.ensures.reopen

pub returns-else-renews-clause-refused : goal.returns-else-renews-clause-refused
returns-else-renews-clause-refused g c = c.append.ensures.refused

pub returns-else-renews-clause-unchanged : goal.returns-else-renews-clause-unchanged
returns-else-renews-clause-unchanged g c = c.append.ensures.unchanged

pub returns-else-renews-clause-device : goal.returns-else-renews-clause-device
returns-else-renews-clause-device g c = c.append.ensures.device

pub returns-else-renews-clause-cause : goal.returns-else-renews-clause-cause
returns-else-renews-clause-cause g c = c.append.ensures.cause

pub returns-else-renews-clause-risen : goal.returns-else-renews-clause-risen
returns-else-renews-clause-risen g c = c.append.ensures.risen

pub returns-else-renews-clause-any_moment : goal.returns-else-renews-clause-any_moment
returns-else-renews-clause-any_moment g c = c.append.ensures.any_moment
