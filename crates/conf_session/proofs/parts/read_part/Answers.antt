use Rattle.std.proofs.Common.{◌≡◌, ◌≢◌, IfOk, IfErr, ap, sym, subst, ◌∙◌}
use Rattle.conf_session.{proofs.Prelude.{chars, text_bytes, edit_of}, specs.{Said.{import_text, part_seen}, Requests.IsReadAs}}
use Rattle.{conf_session.specs.Requests.RefusesPart, yaml_events.specs.declared.read_fault.ReadFault.TheVariants.OutOfMemory}
use Rattle.conf_session.proofs.parts.read_part.Goals as goal

pub returns-in-Import-clause-ok : goal.returns-in-Import-clause-ok
returns-in-Import-clause-ok c =
    let name = chars (text_bytes c.in-Import.name) in
    let same : import_text name (chars c.deref.result.now) ≡ part_seen c.args.part =
    ap (λ b. import_text name (chars b)) c.deref.ensures ∙ sym (ap part_seen c.in-Import.is) in
    subst (λ p. IfOk c.read_import.result (λ edit. IsReadAs p (edit_of edit))) same c.read_import.ensures.ok

pub returns-in-Import-clause-refused : goal.returns-in-Import-clause-refused
returns-in-Import-clause-refused c =
    let name = chars (text_bytes c.in-Import.name) in
    let same : import_text name (chars c.deref.result.now) ≡ part_seen c.args.part =
    ap (λ b. import_text name (chars b)) c.deref.ensures ∙ sym (ap part_seen c.in-Import.is) in
    subst (λ p. IfErr c.read_import.result (λ fault. fault ≢ OutOfMemory → RefusesPart p fault)) same c.read_import.ensures.refused
