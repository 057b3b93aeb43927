use Rattle.std.proofs.Common.{not, ◌&&◌, ap, ◌∙◌}
use Rattle.yaml_forms.{proofs.Prelude.list_all, specs.CoreScalars.digit}
use Rattle.yaml_forms.proofs.typed.are_digits.Goals as goal

pub returns-then-not-is_empty : goal.returns-then-not-is_empty
returns-then-not-is_empty c =
    c.have_only_digits.ensures ∙ ap (λ empty. not empty && list_all digit c.args.bytes.now) c.if-not-is_empty.ensures
