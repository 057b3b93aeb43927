use Rattle.std.{proofs.Common.{ap, sym, ◌∙◌}, specs.Prelude.not}
use Rattle.yaml_scan.proofs.{Prelude.rest, ByteSigns.{no_sign, sign_before, sign_there}}
use Rattle.yaml_scan.proofs.signs.sign_at.Goals as goal

pub returns-then-not-stands_at : goal.returns-then-not-stands_at
returns-then-not-stands_at c = sym (no_sign c.args.character (rest c.args.text.now c.args.at)
    (sym c.stands_at.ensures ∙ c.if-not-stands_at.true))

pub ns_at-requires : goal.ns_at-requires
ns_at-requires c = (sign_there c.args.text.now c.args.at c.args.character c.utf8.text c.requires.at c.requires.ascii
    (sym c.stands_at.ensures ∙ c.if-not-stands_at.false)).boundary

pub returns : goal.returns
returns c =
    ap not c.ns_at.ensures
    ∙ sign_before c.args.text.now c.args.at c.args.character
    (sign_there c.args.text.now c.args.at c.args.character c.utf8.text c.requires.at c.requires.ascii
    (sym c.stands_at.ensures ∙ c.if-not-stands_at.false))
