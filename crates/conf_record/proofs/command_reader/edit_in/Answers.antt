use Rattle.std.proofs.Common.{ap, subst, ◌∙◌}
use Rattle.conf_record.proofs.{Prelude.{IsKept, tree_of, members_of, tree_of-Map}, PieceLemmas.parts_kept}
use Rattle.conf_record.proofs.command_reader.edit_in.Goals as goal

pub edit_from-requires : goal.edit_from-requires
edit_from-requires c =
    record {
      kept = parts_kept (members_of c.in-Map.pairs.items)
          (subst IsKept (ap tree_of c.in-Map.is ∙ tree_of-Map c.in-Map.pairs) c.requires.kept);
    }
