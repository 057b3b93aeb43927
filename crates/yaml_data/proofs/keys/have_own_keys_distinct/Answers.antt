use Rattle.std.proofs.{Common.{ap, sym, ◌∙◌}, lemmas.Result.IfOk-weaker}
use Rattle.yaml_data.{specs.{Keys.{key_members, own_keys_differ, keys_differ}, Seen.tree_of}, proofs.KeyLemmas.keys_differ-pairs}
use Rattle.yaml_data.proofs.SeenLemmas.{tree_of-Map}
use Rattle.yaml_data.proofs.keys.have_own_keys_distinct.Goals as goal

pub returns-in-Map : goal.returns-in-Map
returns-in-Map c =
    let seen = ap tree_of c.in-Map.is ∙ tree_of-Map c.in-Map.pairs in
    IfOk-weaker c.keys_differ.result _ _
    (λ answer e. e ∙ ap (λ ms. keys_differ (key_members ms)) c.deref.ensures.value
    ∙ keys_differ-pairs c.in-Map.pairs.items ∙ ap own_keys_differ (sym seen))
    c.keys_differ.ensures
