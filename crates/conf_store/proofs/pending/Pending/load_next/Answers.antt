use Rattle.std.{proofs.Common.{◌<◌, ◌+◌, ◌++◌, length, ap, sym, ◌∙◌, subst, arith}, specs.Option.option_to_list}
use Rattle.conf_store.proofs.{Prelude.on_ok_weaker, PendingLemmas.{some-names, marked-parts, first-within, others-within, first-joined}}
use Rattle.conf_store.{proofs.PendingLemmas.one-fewer, specs.{Early.{AreApart, part_of, parts_of, text_named}, Parts.{AreWithin, joined}}}
use Rattle.conf_store.specs.Parts.{texts}
use Rattle.conf_store.proofs.pending.Pending.load_next.Goals as goal

pub unwrap-name-requires : goal.unwrap-name-requires
unwrap-name-requires c =
    let inside = c.self.inside in
    let some = some-names inside.early inside.names.items (subst (λ ps. 0 < length ps) (sym c.self.view_is) c.requires.some) in
    c.pop_front.ensures.variant.1 (omega (arith, some, inside.names.ok.0))

pub invariant_of-self : goal.invariant_of-self
invariant_of-self c =
    let split = c.pop_front.ensures.items ∙ ap (λ o. option_to_list o ++ c.pop_front.new.self.items) c.unwrap-name.ensures in
    (subst AreApart split c.self.invariant).1

pub returns-clause-same : goal.returns-clause-same
returns-clause-same c =
    let inside = c.self.inside in
    let configs = c.args.state.now.configs in
    let name = c.unwrap-name.result in
    let ns = c.pop_front.new.self.items in
    let split = c.pop_front.ensures.items ∙ ap (λ o. option_to_list o ++ ns) c.unwrap-name.ensures in
    let apart = subst AreApart split c.self.invariant in
    let first = sym c.self.view_is ∙ ap (parts_of inside.early) split in
    let p = part_of inside.early name in
    let marked = marked-parts inside.early c.insert.new.self name c.new.result c.insert.result
    (on_ok_weaker c.insert.result (λ u. u.0) c.insert.ensures.updates) c.insert.ensures.err ns apart.0 in
    let same = ap (text_named inside.early configs) c.deref.ensures in
    let fits = first-within configs p c.args.self.now (parts_of inside.early ns) first c.args.cutting.now.part_room c.requires.within in
    let loaded = c.load_text.ensures.rest (omega (arith, fits, ap length same)) ∙ same in
    ap (λ ps. c.load_text.new.cutting.rest ++ joined (texts configs ps)) marked
    ∙ first-joined configs p c.args.self.now (parts_of inside.early ns) first c.load_text.new.cutting.rest loaded

pub returns-clause-fewer : goal.returns-clause-fewer
returns-clause-fewer c =
    let inside = c.self.inside in
    let name = c.unwrap-name.result in
    let ns = c.pop_front.new.self.items in
    let split = c.pop_front.ensures.items ∙ ap (λ o. option_to_list o ++ ns) c.unwrap-name.ensures in
    let apart = subst AreApart split c.self.invariant in
    let first = sym c.self.view_is ∙ ap (parts_of inside.early) split in
    let marked = marked-parts inside.early c.insert.new.self name c.new.result c.insert.result
    (on_ok_weaker c.insert.result (λ u. u.0) c.insert.ensures.updates) c.insert.ensures.err ns apart.0 in
    ap (λ ps. length ps + 1) marked ∙ one-fewer c.args.self.now (parts_of inside.early ns) (part_of inside.early name) first

pub returns-clause-within : goal.returns-clause-within
returns-clause-within c =
    let inside = c.self.inside in
    let configs = c.args.state.now.configs in
    let name = c.unwrap-name.result in
    let ns = c.pop_front.new.self.items in
    let split = c.pop_front.ensures.items ∙ ap (λ o. option_to_list o ++ ns) c.unwrap-name.ensures in
    let apart = subst AreApart split c.self.invariant in
    let first = sym c.self.view_is ∙ ap (parts_of inside.early) split in
    let marked = marked-parts inside.early c.insert.new.self name c.new.result c.insert.result
    (on_ok_weaker c.insert.result (λ u. u.0) c.insert.ensures.updates) c.insert.ensures.err ns apart.0 in
    subst (λ ps. AreWithin c.load_text.new.cutting.part_room (texts configs ps)) (sym marked)
    (others-within configs (part_of inside.early name) c.args.self.now
    (parts_of inside.early ns) first c.args.cutting.now.part_room c.load_text.new.cutting.part_room
    c.load_text.ensures.part_room c.requires.within)
