use Rattle.std.proofs.Common.{rules, IfSome, [], ◌∷◌, codes, ap, sym, subst, ◌∙◌}
use Rattle.conf_session.proofs.{Prelude.{map-append, lines_of, IfSome_then, IfOk-weaker}, CommandLineLemmas.no_element_lines}
use Rattle.conf_session.{proofs.CommandLineLemmas.{one_part_line, batch_lines}, specs.Said.{part_of, said_of}}
use Rattle.conf_session.specs.{Said.{part_seen, parts_seen}, CommandLines.{ArePartLines, SpellsPart}}
use Rattle.conf_session.proofs.command_lines.batch_in.Goals as goal

pub loop-left-init : goal.loop-left-init
loop-left-init c =
    let elements = c.args.elements.now in (
      subst (λ ps. ArePartLines elements (parts_seen ps) elements) (sym c.new-parts.ensures.items) (no_element_lines part_of elements),
      search rules,
    )

pub loop-left-preserved : goal.loop-left-preserved
loop-left-preserved c =
    let l = c.loop-left in
    let elements = c.args.elements.now in
    let part = c.in-Some-2.part in
    let own = lines_of c.in-Some.members (codes "text: ") in
    let spells : SpellsPart own (part_seen part) =
    subst (λ found. IfSome found (λ part. SpellsPart own (part_seen part))) c.in-Some-2.is c.in_ok-part.ensures in
    let seen = ap parts_seen c.in_ok-push.ensures.items ∙ map-append part_seen l.parts.items (part ∷ []) in (
      subst (λ ps. ArePartLines elements ps c.in-Some.after.now) (sym seen)
          (one_part_line elements l.left.now c.in-Some.after.now own (parts_seen l.parts.items)
          (part_seen part) l.invariant.0 c.in-Some.ensures spells),
      search rules,
    )

pub returns : goal.returns
returns c =
    let l = c.loop-left in
    IfOk-weaker c.batch_before.result _ _
    (λ found is. IfSome_then found is (λ said ends.
    batch_lines c.args.elements.now l.left.now (parts_seen l.parts.items) (said_of said) l.invariant.0 ends))
    c.batch_before.ensures
