use Rattle.std.proofs.Common.{◌≤◌, option_map, ap, sym, subst, ◌∙◌, arith}
use Rattle.conf_state.proofs.{Prelude.{chars, tree_of}, EntryLemmas.lookup-named, BaseLemmas.entries_length-short}
use Rattle.conf_state.{proofs.LimitLemmas.{entries_length-found, entries_length-absent}, specs.States.{base_limit, config_named}}
use Rattle.conf_state.specs.{BaseTexts.entries_length, Kept.entries_of}
use Rattle.conf_state.proofs.state.State.length_of.Goals as goal

pub returns-in-Some : goal.returns-in-Some
returns-in-Some c =
    let named =
    ap (option_map tree_of) c.in-Some.ensures
    ∙ lookup-named c.args.name.now c.utf8.name c.self.inside.configs c.self.invariant.plain
    ∙ ap (λ s. config_named s.configs (chars c.args.name.now)) c.self.view_is in
    let state = c.self.invariant.state in
    let short : entries_length c.args.self.now.configs ≤ base_limit =
    subst (λ s. entries_length s.configs ≤ base_limit) c.self.view_is
    (entries_length-short c.self.inside.count (entries_of c.self.inside.configs) state.numbered state.short) in
    omega (
      arith,
      short,
      c.entry_length.ensures,
      entries_length-found c.args.self.now.configs (chars c.args.name.now) _ (sym named),
    )

pub returns-in-None : goal.returns-in-None
returns-in-None c =
    let named =
    ap (option_map tree_of) c.in-None.ensures
    ∙ lookup-named c.args.name.now c.utf8.name c.self.inside.configs c.self.invariant.plain
    ∙ ap (λ s. config_named s.configs (chars c.args.name.now)) c.self.view_is in
    omega (arith, entries_length-absent c.args.self.now.configs (chars c.args.name.now) (sym named))
