use Rattle.std.proofs.Common.{◌≡◌, OnSome, Some, ap, subst, ◌∙◌, sym}
use Rattle.conf_state.proofs.{Prelude.{lookup, set_value, option_copied_mut, chars, tree_of}, EditLemmas.found-named}
use Rattle.conf_state.proofs.{EntryLemmas.{set_value-named, plain_set_value, put_config-same}, StateLemmas.kept_same}
use Rattle.conf_state.{proofs.state.State.index_for.Goals.In-Some, specs.{Configs.is_name, Kept.{entries_of, ArePlain}}}
use Rattle.yaml_data.specs.declared.tree.Tree.{Tree}
use Rattle.conf_state.proofs.state.State.index_for.Goals as goal

-- the configurations once the one that was made ready is back in its place: they are the same
record IsPlaced (c : In-Some) (t : Tree) : Type 0 where
  plain : ArePlain (c.get_mut.follows.lender t)
  entries : entries_of (c.get_mut.follows.lender t) ≡ entries_of c.self.inside.configs

is_placed : (c : In-Some) (t : Tree) → t ≡ c.in-Some.config.now → IsPlaced c t
is_placed c t same =
    let name = c.args.name.now in
    let es = c.self.inside.configs in
    let held : lookup (is_name name) es ≡ Some c.in-Some.config.now = sym c.get_mut.ensures.value ∙ ap option_copied_mut c.in-Some.is in
    let set = subst (λ r. OnSome r (c.get_mut.follows.lender t ≡ set_value (is_name name) es t)) c.in-Some.is
    (c.get_mut.follows.holds t) in
    let there = found-named name c.utf8.name es c.self.invariant.plain c.in-Some.config.now held in
    record {
      plain = subst ArePlain (sym set) (plain_set_value name t es c.self.invariant.plain);
      entries = ap entries_of set ∙ set_value-named name c.utf8.name es c.in-Some.config.now t c.self.invariant.plain held
          ∙ put_config-same (entries_of es) (chars name) (tree_of t) (there ∙ ap (λ u. Some (tree_of u)) (sym same));
    }

pub invariant_of-self-2 : goal.invariant_of-self-2
invariant_of-self-2 c =
    let placed = is_placed (goal.at.invariant_of-self-2 c).In-Some c.index_for.new.self c.index_for.ensures in
    kept_same c.self.inside.configs c.self.inside.count c.self.inside.entries c.self.invariant _ placed.plain placed.entries

pub returns : goal.returns
returns c =
    let placed = is_placed (goal.at.returns c).In-Some c.index_for.new.self c.index_for.ensures in
    ap (λ cs. record { configs = cs; count = c.self.inside.count }) placed.entries ∙ c.self.view_is
