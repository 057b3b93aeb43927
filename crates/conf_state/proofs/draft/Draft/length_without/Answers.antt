use Rattle.std.proofs.Common.{arith}
use Rattle.conf_state.{proofs.{Prelude.chars, OriginLemmas.entry-cut}, specs.Drafts.drafted}
use Rattle.conf_state.proofs.draft.Draft.length_without.Goals as goal

pub overflow_sub-result : goal.overflow_sub-result
overflow_sub-result g c =
    let es = drafted (g.O.Origin.configs c.args.origin.now) c.args.self.now in
    omega (arith, c.requires.counted, c.length_of.ensures, entry-cut es (chars c.args.name.now))

pub returns : goal.returns
returns g c =
    let es = drafted (g.O.Origin.configs c.args.origin.now) c.args.self.now in
    omega (arith, c.requires.counted, c.length_of.ensures, entry-cut es (chars c.args.name.now))
