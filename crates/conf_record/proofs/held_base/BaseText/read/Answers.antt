use Rattle.std.proofs.Common.{◌≡◌, string_bytes, sym, ap, subst, ◌∙◌, rules}
use Rattle.conf_record.specs.{Documents.IsBase, HeldBases.Held}
use Rattle.conf_record.proofs.held_base.BaseText.read.Goals as goal

pub invariant_of-result : goal.invariant_of-result
invariant_of-result c =
    let found = c.in-Ok-of.ensures in
    let laws = c.documents_are_read.ensures in
    let bytes = string_bytes c.in-Ok.text in
    let is : IsBase bytes found.0 =
    subst (λ bs. IsBase bs found.0) (sym found.1.written ∙ c.deref.ensures) (laws.bases found.1.format found.0 found.1.kept) in
    let held : Held bytes = (found.0, (∣ is ∣₁, λ other also. laws.one_base bytes found.0 other is also)) in
    (held, tt)

pub returns-in-Ok-of-clause-ok : goal.returns-in-Ok-of-clause-ok
returns-in-Ok-of-clause-ok c =
    let found = c.in-Ok-of.ensures in
    let laws = c.documents_are_read.ensures in
    let bytes = c.args.bytes.items in
    let text : string_bytes c.in-Ok.text ≡ bytes = ap (λ v. v.items) c.in-Ok.ensures.ok in
    let is : IsBase bytes found.0 =
    subst (λ bs. IsBase bs found.0) (sym found.1.written ∙ c.deref.ensures ∙ text) (laws.bases found.1.format found.0 found.1.kept) in
    let of_held : (held : Held (string_bytes c.in-Ok.text)) → IsBase bytes held.0 = λ held.
    subst (IsBase bytes) (held.1.1 found.0 (subst (λ bs. IsBase bs found.0) (sym text) is)) is in
    search (rules, of_held)
