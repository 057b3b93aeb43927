use Rattle.std.proofs.Common.{◌++◌, map, option_map, sym, ap, subst, ◌∙◌}
use Rattle.conf_diff.proofs.{Prelude.{chars, edit_of, tree_of}, Performing.{config_edits-made, config_edits-same, no_edits}}
use Rattle.conf_diff.{proofs.Lengths.config_edits-short, specs.{StateEdits.{AreShort, config_edits, whole_edits}, Freely.all_freely_edited}}
use Rattle.conf_diff.proofs.configs.config_edits.Goals as goal

pub returns-clause-edits_make_the_second : goal.returns-clause-edits_make_the_second
returns-clause-edits_make_the_second c = λ configs named there.
    let name = chars c.args.name.now in
    let first = option_map (λ x. tree_of x.now) c.args.first in
    let second = option_map (λ x. tree_of x.now) c.args.second in
    let are = c.in_ok-append_edits.ensures.edits ∙ ap (λ es. map edit_of es ++ config_edits name first second) c.new-edits.ensures.items in
    ap (all_freely_edited configs) are ∙ config_edits-made configs name first second c.append_edits.ensures.kept named there

pub returns-clause-equal_configurations_do_not_differ : goal.returns-clause-equal_configurations_do_not_differ
returns-clause-equal_configurations_do_not_differ c = λ same.
    let name = chars c.args.name.now in
    let first = option_map (λ x. tree_of x.now) c.args.first in
    let second = option_map (λ x. tree_of x.now) c.args.second in
    let are = c.in_ok-append_edits.ensures.edits ∙ ap (λ es. map edit_of es ++ config_edits name first second) c.new-edits.ensures.items in
    no_edits c.append_edits.new.edits.items (are ∙ ap (config_edits name first) (sym same) ∙ config_edits-same name first)

pub returns-clause-no_longer_than_the_whole : goal.returns-clause-no_longer_than_the_whole
returns-clause-no_longer_than_the_whole c =
    let name = chars c.args.name.now in
    let first = option_map (λ x. tree_of x.now) c.args.first in
    let second = option_map (λ x. tree_of x.now) c.args.second in
    let are = c.in_ok-append_edits.ensures.edits ∙ ap (λ es. map edit_of es ++ config_edits name first second) c.new-edits.ensures.items in
    subst (λ edits. AreShort edits (whole_edits name first second)) (sym are) (config_edits-short name first second)
