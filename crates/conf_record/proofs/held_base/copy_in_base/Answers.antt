use Rattle.std.proofs.Common.{subst}
use Rattle.conf_record.{proofs.Prelude.IfNone, specs.Documents.IsNoBase}
use Rattle.conf_record.proofs.held_base.copy_in_base.Goals as goal

pub unreachable-requires : goal.unreachable-requires
unreachable-requires c =
    subst (λ read. IfNone read (IsNoBase c.args.bytes.now)) c.in_default.is c.in_ok-state.ensures.none c.requires.0 c.requires.1
