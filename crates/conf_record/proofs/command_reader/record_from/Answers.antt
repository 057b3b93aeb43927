use Rattle.std.proofs.Common.{sym, ap, subst, ◌∙◌}
use Rattle.conf_record.proofs.{Prelude.{IsKept, tree_of, members_of, tree_of-Text, tree_of-Seq, tree_of-Map}, PieceLemmas.parts_kept}
use Rattle.conf_record.specs.{RecordsRead.{values, record_of}, Reading.AreKept}
use Rattle.conf_record.proofs.command_reader.record_from.Goals as goal

pub returns-in-Text : goal.returns-in-Text
unfolding record_of
returns-in-Text c = sym (ap record_of (ap tree_of c.in-Text.is ∙ tree_of-Text c.in-Text.field-0))

pub returns-in-Seq : goal.returns-in-Seq
unfolding record_of
returns-in-Seq c = sym (ap record_of (ap tree_of c.in-Seq.is ∙ tree_of-Seq c.in-Seq.field-0))

pub command_from-requires : goal.command_from-requires
command_from-requires c =
    let kept = parts_kept (members_of c.in-Map.pairs.items)
    (subst IsKept (ap tree_of c.in-Map.is ∙ tree_of-Map c.in-Map.pairs) c.requires.kept) in
    record { kept = (subst (λ ps. AreKept (values (members_of ps))) c.in-Some.ensures.rest.1 kept).1 }
