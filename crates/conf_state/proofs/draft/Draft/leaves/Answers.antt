use Rattle.std.proofs.Common.{is_some, sym, ap, ◌∙◌}
use Rattle.conf_state.proofs.{Prelude.chars, DraftLemmas.{named-cut_all-gone, named-cut_all-other}, DraftSteps.listed}
use Rattle.conf_state.specs.Drafts.{texts_of}
use Rattle.conf_state.proofs.draft.Draft.leaves.Goals as goal

pub returns-then-contains : goal.returns-then-contains
returns-then-contains g c =
    let es = g.O.Origin.configs c.args.origin.now in
    let keys = c.args.self.now.removed.keys in
    let among = sym (listed c.args.name.now c.utf8.name keys) ∙ sym c.contains.ensures ∙ c.if-contains.true in
    ap is_some (sym (named-cut_all-gone (texts_of keys) es (chars c.args.name.now) among c.requires.within.distinct))

pub returns : goal.returns
returns g c =
    let es = g.O.Origin.configs c.args.origin.now in
    let keys = c.args.self.now.removed.keys in
    let other = sym (listed c.args.name.now c.utf8.name keys) ∙ sym c.contains.ensures ∙ c.if-contains.false in
    c.has.ensures ∙ ap is_some (sym (named-cut_all-other (texts_of keys) es (chars c.args.name.now) other))
