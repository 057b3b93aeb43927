use Rattle.std.proofs.Common.{ap, sym, subst, ◌∙◌}
use Rattle.conf_record.{proofs.Prelude.{chars, import_as, set_at, delete_at}, specs.LineValues.{HasValueLine, edit_cut}}
use Rattle.conf_record.proofs.written.edit_with.Goals as goal

pub made_value-requires : goal.made_value-requires
made_value-requires c = subst HasValueLine c.in-Import.is c.requires

pub made_value-requires-in-Set : goal.made_value-requires-in-Set
made_value-requires-in-Set c = subst HasValueLine c.in-Set.is c.requires

pub returns-in_ok-tree-in-Import : goal.returns-in_ok-tree-in-Import
returns-in_ok-tree-in-Import c =
    (λ i. import_as (chars (c.in_ok-name-in-Import.ensures.ok i)) (c.in_ok-tree-in-Import.ensures i)) ∙ ap edit_cut (sym c.in-Import.is)

pub returns-in_ok-value-in-Set : goal.returns-in_ok-value-in-Set
returns-in_ok-value-in-Set c =
    (λ i. set_at (chars (c.in_ok-name-in-Set.ensures.ok i)) (chars (c.in_ok-path-in-Set.ensures.ok i)) (c.in_ok-value-in-Set.ensures i))
    ∙ ap edit_cut (sym c.in-Set.is)

pub returns-in_ok-path-in-Delete : goal.returns-in_ok-path-in-Delete
returns-in_ok-path-in-Delete c =
    (λ i. delete_at (chars (c.in_ok-name-in-Delete.ensures.ok i)) (chars (c.in_ok-path-in-Delete.ensures.ok i)))
    ∙ ap edit_cut (sym c.in-Delete.is)
