use Rattle.std.proofs.Common.{◌≡◌, true, is_some, string_bytes, ap, sym, ◌∙◌, subst}
use Rattle.conf_store.proofs.{Prelude.{get_by_text, chars}, PendingLemmas.{parts-unchanged, there-made, early-same, early-stays}}
use Rattle.conf_store.{proofs.PendingLemmas.{absent-name, text-made, key-there}, specs.Parts.{IsMade, texts}}
use Rattle.conf_store.proofs.pending.Pending.keep.Goals as goal

pub returns-then-contains_key-clause-kept : goal.returns-then-contains_key-clause-kept
returns-then-contains_key-clause-kept c =
    let inside = c.self.inside in
    let name = c.args.name.now in
    let there : is_some (get_by_text inside.early name) ≡ true = sym c.contains_key.ensures ∙ c.if-contains_key.true in
    subst (IsMade (chars name)) c.self.view_is (there-made inside.early name c.utf8.name there inside.names.items)

pub returns-clause-same : goal.returns-clause-same
returns-clause-same c =
    let inside = c.self.inside in
    let configs = c.args.state.now.configs in
    let name = c.args.name.now in
    let key = c.in_ok-from_str.field-0 in
    let text = c.write_entry.new.sink in
    let is = c.in_ok-from_str.ensures.ok in
    let absent = absent-name inside.early key name is (sym c.contains_key.ensures ∙ c.if-contains_key.false) in
    let made = text-made configs key text name _ is c.in_ok-text.ensures.bytes c.in_ok-write_entry.ensures in
    early-same inside.early c.insert.new.self key text (λ q. c.in_ok-insert.ensures.updates.0 q) configs absent made inside.names.items
    ∙ ap (texts configs) c.self.view_is

pub returns-clause-kept : goal.returns-clause-kept
returns-clause-kept c =
    let inside = c.self.inside in
    let name = c.args.name.now in
    let key = c.in_ok-from_str.field-0 in
    let text = c.write_entry.new.sink in
    let there = key-there c.insert.new.self key text
    (get_by_text inside.early (string_bytes key)) name c.in_ok-from_str.ensures.ok (c.in_ok-insert.ensures.updates.0 key) in
    there-made c.insert.new.self name c.utf8.name there inside.names.items

pub returns-clause-stays : goal.returns-clause-stays
returns-clause-stays c other made =
    let inside = c.self.inside in
    let key = c.in_ok-from_str.field-0 in
    let text = c.write_entry.new.sink in
    early-stays inside.early c.insert.new.self key text (λ q. c.in_ok-insert.ensures.updates.0 q) other inside.names.items
    (subst (IsMade other) (sym c.self.view_is) made)

pub returns-in_err-insert-clause-same : goal.returns-in_err-insert-clause-same
returns-in_err-insert-clause-same c =
    let inside = c.self.inside in
    ap (texts c.args.state.now.configs) (parts-unchanged inside.early c.insert.new.self c.in_err-insert.ensures.err
    inside.names.items ∙ c.self.view_is)

pub returns-in_err-insert-clause-stays : goal.returns-in_err-insert-clause-stays
returns-in_err-insert-clause-stays c other made =
    let inside = c.self.inside in
    let same = parts-unchanged inside.early c.insert.new.self c.in_err-insert.ensures.err inside.names.items ∙ c.self.view_is in
    subst (IsMade other) (sym same) made
