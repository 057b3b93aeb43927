use Rattle.std.proofs.Common.{sym, ◌∙◌}
use Rattle.yaml_docs.proofs.DirectiveSteps.{first_there, name_there, none_without_blank, none_without_version, second_there}
use Rattle.yaml_docs.proofs.directive.version_end.Goals as goal

pub white_end-version-requires : goal.white_end-version-requires
white_end-version-requires c = (name_there c.args.text.now c.args.at c.utf8.text c.requires
    (sym c.begins_at.ensures ∙ c.if-not-begins_at.false)).boundary

pub returns-then-version-at-clause-none : goal.returns-then-version-at-clause-none
returns-then-version-at-clause-none c =
    none_without_blank c.args.text.now c.args.at c.utf8.text c.requires (sym c.begins_at.ensures ∙ c.if-not-begins_at.false)
    c.white_end-version.result c.white_end-version.ensures.taken c.if-version-at.true

pub returns-then-begins_at-clause-found : goal.returns-then-begins_at-clause-found
returns-then-begins_at-clause-found c =
    first_there c.args.text.now c.args.at c.utf8.text c.requires (sym c.begins_at.ensures ∙ c.if-not-begins_at.false)
    c.white_end-version.result c.white_end-version.ensures.taken c.if-version-at.false (sym c.begins_at-2.ensures ∙ c.if-begins_at.true)

pub returns-then-begins_at-2-clause-found : goal.returns-then-begins_at-2-clause-found
returns-then-begins_at-2-clause-found c =
    second_there c.args.text.now c.args.at c.utf8.text c.requires (sym c.begins_at.ensures ∙ c.if-not-begins_at.false)
    c.white_end-version.result c.white_end-version.ensures.taken c.if-version-at.false (sym c.begins_at-2.ensures ∙ c.if-begins_at.false)
    (sym c.begins_at-3.ensures ∙ c.if-begins_at-2.true)

pub returns-clause-none : goal.returns-clause-none
returns-clause-none c =
    none_without_version c.args.text.now c.args.at c.utf8.text c.requires (sym c.begins_at.ensures ∙ c.if-not-begins_at.false)
    c.white_end-version.result c.white_end-version.ensures.taken (sym c.begins_at-2.ensures ∙ c.if-begins_at.false)
    (sym c.begins_at-3.ensures ∙ c.if-begins_at-2.false)
