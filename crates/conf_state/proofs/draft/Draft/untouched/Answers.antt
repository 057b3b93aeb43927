use Rattle.std.proofs.Common.{sym, ◌∙◌}
use Rattle.conf_state.proofs.{Prelude.{IfOk-weaker, chars}, DraftLemmas.{named-cut_all-gone, named-cut_all-other}, DraftSteps.listed}
use Rattle.conf_state.specs.Drafts.{texts_of}
use Rattle.conf_state.proofs.draft.Draft.untouched.Goals as goal

pub returns-then-contains : goal.returns-then-contains
returns-then-contains g c =
    let es = g.O.Origin.configs c.args.origin.now in
    let keys = c.args.self.now.removed.keys in
    let among = sym (listed c.args.name.now c.utf8.name keys) ∙ sym c.contains.ensures ∙ c.if-contains.true in
    sym (named-cut_all-gone (texts_of keys) es (chars c.args.name.now) among c.requires.within.distinct)

pub returns : goal.returns
returns g c =
    let es = g.O.Origin.configs c.args.origin.now in
    let keys = c.args.self.now.removed.keys in
    let other = sym (listed c.args.name.now c.utf8.name keys) ∙ sym c.contains.ensures ∙ c.if-contains.false in
    IfOk-weaker c.copy_of.result _ _
    (λ copy is. is ∙ sym (named-cut_all-other (texts_of keys) es (chars c.args.name.now) other)) c.copy_of.ensures
