use Rattle.std.proofs.Common.{◌≡◌, OnSome, Some, refl, ap, sym, ◌∙◌}
use Rattle.conf_state.proofs.{Prelude.{lookup, set_value, set_value_same}, PlaceLemmas.{in_place, lookup-present, present-set, on_some}}
use Rattle.{conf_state.specs.{Configs.is_name, Places.present}, yaml_data.specs.declared.tree.Tree.Tree}
use Rattle.conf_state.proofs.configs.Configs.get_mut.Goals as goal

pub returns-in_err-self-inside : goal.returns-in_err-self-inside
returns-in_err-self-inside c =
    let found =
    ap in_place c.in_err-self-inside.ensures.value
    ∙ sym (lookup-present c.args.name.now c.self.inside.places.entries c.self.invariant)
    ∙ ap (lookup (is_name c.args.name.now)) c.self.view_is in
    rw c.from_residual.ensures ((refl, (λ w. tt), ap (λ m. present m.entries) c.get_mut.follows.holds-at-none ∙ c.self.view_is), found)

-- whatever is written, no name comes twice
pub invariant_of-self-lent : goal.invariant_of-self-lent
invariant_of-self-lent c = λ r. (λ w. (c.get_mut.follows.holds _).4, (c.get_mut.follows.holds _).4)

pub returns : goal.returns
returns c =
    let ps = c.self.inside.places.entries in
    let test = is_name c.args.name.now in
    let held = sym c.in_ok-self-inside.ensures.value in
    let written : (w : Tree) → OnSome c.as_mut.result
    (present (c.get_mut.follows.lender (Some w)).entries ≡ set_value test c.args.self.now w) = λ w.
    on_some c.as_mut.result c.in_ok-self-inside.field-0.now c.as_mut.ensures.value (λ old is.
    ap present (c.get_mut.follows.holds (Some w)).0 ∙ present-set c.args.name.now ps old w (held ∙ ap Some is)
    ∙ ap (λ es. set_value test es w) c.self.view_is) in
    let left =
    ap present ((c.get_mut.follows.holds c.in_ok-self-inside.field-0.now).0 ∙ set_value_same test ps c.in_ok-self-inside.field-0.now held)
    ∙ c.self.view_is in
    let found =
    c.as_mut.ensures.value ∙ ap in_place (sym held) ∙ sym (lookup-present c.args.name.now ps c.self.invariant)
    ∙ ap (lookup test) c.self.view_is in
    ((refl, written, left), found)
