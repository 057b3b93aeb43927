use Rattle.std.proofs.Common.{arith}
use Rattle.conf_state.{proofs.{Prelude.{chars, tree_of}, LimitLemmas.entries_length-put}, specs.Drafts.drafted}
use Rattle.conf_state.proofs.draft.Draft.length_with.Goals as goal

pub returns : goal.returns
returns g c =
    let es = drafted (g.O.Origin.configs c.args.origin.now) c.args.self.now in
    omega (
      arith,
      c.length_without.ensures,
      c.entry_length.ensures,
      c.saturating_add-length.ensures,
      entries_length-put es (chars c.args.name.now) (tree_of c.args.config.now),
    )
