use Rattle.conf_protocol.proofs.Opened.{crashes-safe}
use Rattle.conf_protocol.proofs.opening.crashes_are_safe.Goals as goal

pub returns : goal.returns
returns c = crashes-safe
