use Rattle.std.proofs.Common.{sym, subst}
use Rattle.conf_record.{proofs.{AboutLemmas.without-kept, Prelude.members_of}, specs.{Reading.AreKept, RecordsRead.values}}
use Rattle.conf_record.proofs.command_reader.command_from.Goals as goal

pub plain_from-requires : goal.plain_from-requires
plain_from-requires c = record {
  kept = subst (λ ms. AreKept (values ms)) (sym c.in_ok-pairs.ensures.rest) (without-kept (members_of c.args.pairs.items) c.requires.kept);
}
