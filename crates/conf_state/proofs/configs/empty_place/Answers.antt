use Rattle.std.proofs.Common.{ap, sym, ◌∙◌}
use Rattle.conf_state.proofs.{Prelude.{option_copied_mut, set_value}, PlaceLemmas.{in_place, lookup-present, present-cut, cut-absent}}
use Rattle.conf_state.specs.{Configs.is_name, Places.present}
use Rattle.conf_state.proofs.configs.empty_place.Goals as goal

pub returns-in-Some-clause-present : goal.returns-in-Some-clause-present
returns-in-Some-clause-present c =
    let ps = c.args.places.now.entries in
    let held = sym c.get_mut.ensures.value ∙ ap option_copied_mut c.in-Some.is in
    ap present ((c.get_mut.follows.holds c.take.new.self).0 ∙ ap (set_value (is_name c.args.name.now) ps) c.take.ensures.after)
    ∙ present-cut c.args.name.now ps c.in-Some.place.now c.get_mut.ensures.unique held

pub returns-in-None-clause-present : goal.returns-in-None-clause-present
returns-in-None-clause-present c =
    let ps = c.args.places.now.entries in
    let absent =
    lookup-present c.args.name.now ps c.get_mut.ensures.unique
    ∙ ap in_place (sym c.get_mut.ensures.value ∙ ap option_copied_mut c.in-None.is) in
    ap (λ m. present m.entries) c.get_mut.follows.holds-at-none ∙ sym (cut-absent c.args.name.now (present ps) absent)
