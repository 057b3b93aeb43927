use Rattle.std.proofs.Common.{ap, sym}
use Rattle.conf_state.{proofs.{Prelude.{chars, byte_len, tree_of}, EntryTextLemmas.entry-exact}, specs.EntryTexts.lines_if_there}
use Rattle.conf_state.proofs.state.State.entry_length.Goals as goal

pub returns-in-Some : goal.returns-in-Some
returns-in-Some c =
    let name = chars c.args.name.now in
    entry-exact c.args.self.now name (tree_of c.in-Some.config.now) c.in-Some.ensures.limits
    (sym c.in-Some.ensures.found) c.entry_length.result c.entry_length.ensures

pub returns-in-None : goal.returns-in-None
returns-in-None c =
    let name = chars c.args.name.now in
    ap (λ found. byte_len (lines_if_there name found)) c.in-None.ensures.found
