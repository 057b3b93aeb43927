use Rattle.std.{proofs.Common.{◌≡◌, ◌++◌, ◌∷◌, [], None, string_bytes, length, refl, sym, ◌∙◌, rules}, specs.String.string_eq}
use Rattle.conf_record.proofs.{Prelude.{IsUtf8-string_bytes, lookup, text_of, is_name}, BaseSpanLemmas.{Named, found_more, lookup_named}}
use Rattle.{conf_record.proofs.BaseSpanLemmas.lookup_none, conf_state.proofs.PlaceLemmas.is_none}
use Rattle.indexmap.{proofs.CallerLemmas.insert_entry-new, specs.IndexMap.get}
use Rattle.conf_record.proofs.base_spans.find_spans.Goals as goal

pub entries-preserved : goal.entries-preserved
entries-preserved c =
    let lines = c.args.lines.now in
    let left = c.entries.left.now in
    let rest = c.in_ok-entry.entry.rest.now in
    let ps = c.entries.spans.entries in
    let key = c.in_ok-entry.entry.name in
    let so = c.entries.invariant.0 in
    let one = c.in_ok-entry.ensures in
    let p : Named = (key, record { from_start = length left; from_end = length rest }) in
    let absent : get string_eq c.entries.spans key ≡ None =
    sym c.in_ok-insert.ensures.old ∙ is_none c.in_ok-insert.field-0 (sym c.if-is_some.ensures) in
    let pushed = c.in_ok-insert.ensures.entries ∙ insert_entry-new string_eq c.entries.spans key p.1 absent in
    let new = lookup_none lines (text_of key) so.0 (lookup (is_name (string_bytes key)) ps)
    (lookup_named (string_bytes key) (IsUtf8-string_bytes key) lines ps so.0 so.1.spans) absent in (
      (
        so.0 ++ (text_of key, one.0) ∷ [],
        found_more lines left rest (text_of key) ps c.insert.new.self.entries so.0 p one.0 so.1 one.1 refl pushed new refl refl,
      ),
      search rules,
    )

pub returns-then-is_end : goal.returns-then-is_end
returns-then-is_end c = rw (c.is_end.ensures c.if-is_end.true) at c.entries.invariant.0
