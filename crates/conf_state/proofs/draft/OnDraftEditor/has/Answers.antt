use Rattle.std.proofs.Common.{sym, ◌∙◌}
use Rattle.conf_state.{proofs.{Prelude.chars, EditLemmas.found-good, OriginLemmas.drafted-within}, specs.Drafts.drafted}
use Rattle.conf_state.proofs.draft.OnDraftEditor.has.Goals as goal

pub returns-clause-named : goal.returns-clause-named
returns-clause-named g c = λ there.
    let es = g.O.Origin.configs c.args.self.now.origin.now in
    let draft = c.args.target.now in
    found-good (drafted es draft) (chars c.args.name.now) (drafted-within es draft c.requires).configs (sym c.has.ensures ∙ there)
