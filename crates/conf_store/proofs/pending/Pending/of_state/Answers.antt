use Rattle.std.proofs.Common.{◌≡◌, ap, ◌∙◌, subst}
use Rattle.conf_store.proofs.{Prelude.{chars, text_of, names_of}, PendingLemmas.{names-more, names-all, apart-names, parts-named}}
use Rattle.conf_store.{proofs.PendingLemmas.within-more, specs.Parts.{AreWithin, parts_named, texts}}
use Rattle.conf_store.proofs.pending.Pending.of_state.Goals as goal

pub loop-name-preserved : goal.loop-name-preserved
loop-name-preserved c =
    let configs = c.args.state.now.configs in
    let name = c.in_ok-from_str.field-0 in
    let text = chars c.in-Some.name.now in
    let named : text_of name ≡ text = ap chars c.in_ok-from_str.ensures.ok in
    record {
      all = names-more c.loop-name.names.items c.push_back.new.self.items name c.loop-name.name-iterator
          c.next.new.self text (names_of configs) c.in_ok-push_back.ensures.items named c.in-Some.ensures.steps
          c.loop-name.invariant.all;
      within = within-more configs c.loop-name.bytes c.max-bytes.result c.loop-name.names.items
          c.push_back.new.self.items name text c.entry_length.result c.in_ok-push_back.ensures.items named
          c.entry_length.ensures c.max-bytes.ensures c.loop-name.invariant.within;
    }

pub returns-clause-all : goal.returns-clause-all
returns-clause-all c =
    let names = names-all c.loop-name.names.items c.loop-name.name-iterator
    (names_of c.args.state.now.configs) c.in-None.ensures.steps.0 c.loop-name.invariant.all in
    parts-named c.in_ok-early.early c.in_ok-early.ensures.empty c.loop-name.names.items ∙ ap parts_named names

pub returns-clause-within : goal.returns-clause-within
returns-clause-within c =
    let configs = c.args.state.now.configs in
    let names = names-all c.loop-name.names.items c.loop-name.name-iterator
    (names_of configs) c.in-None.ensures.steps.0 c.loop-name.invariant.all in
    subst (λ ns. AreWithin c.loop-name.bytes (texts configs (parts_named ns))) names c.loop-name.invariant.within

pub invariant_of-pending : goal.invariant_of-pending
invariant_of-pending c =
    let configs = c.args.state.now.configs in
    let names = names-all c.loop-name.names.items c.loop-name.name-iterator
    (names_of configs) c.in-None.ensures.steps.0 c.loop-name.invariant.all in
    apart-names c.loop-name.names.items (names_of configs) names c.requires.distinct
