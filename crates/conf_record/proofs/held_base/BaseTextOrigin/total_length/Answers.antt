use Rattle.std.proofs.Common.{subst}
use Rattle.conf_record.proofs.Prelude.{AreWithin}
use Rattle.conf_record.proofs.held_base.BaseTextOrigin.total_length.Goals as goal

pub returns-clause-limits : goal.returns-clause-limits
returns-clause-limits c =
    let kept = c.self.invariant.kept in
    subst (λ s. AreWithin s.configs) c.self.view_is (record { configs = kept.configs; distinct = kept.distinct })
