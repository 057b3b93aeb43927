use Rattle.std.proofs.Common.{ap, refl, sym, subst, rules}
use Rattle.conf_record.proofs.{Prelude.{chars, tree_of, text_bytes, entries_of}, EntryLemmas.{Part, entries_and, entries_pushed}}
use Rattle.conf_record.specs.Entries.{AreEntries}
use Rattle.conf_record.proofs.entries.read_entries.Goals as goal

pub entries-init : goal.entries-init
entries-init c = (
  subst (λ ps. AreEntries c.args.lines.now (entries_of ps) c.args.lines.now) (sym c.new-parts.ensures.items) refl,
  c.utf8.lines,
)

pub entries-preserved : goal.entries-preserved
entries-preserved c =
    let lines = c.args.lines.now in
    let before = c.entries.parts.items in
    let entry = c.in_ok-entry.entry in
    let part : Part = (c.in_ok-name.name, c.in_ok-config.config) in
    let name = chars (text_bytes entry.name) in
    let t = tree_of entry.tree in (
      entries_pushed lines entry.rest.now before c.push.new.self.items part name t c.in_ok-push.ensures.items
          (ap chars c.in_ok-name.ensures) (ap tree_of c.in_ok-config.ensures)
          (entries_and lines c.entries.left.now entry.rest.now
          (entries_of before) name t c.entries.invariant.0 c.in_ok-entry.ensures.written),
      search rules,
    )

pub returns-then-is_end : goal.returns-then-is_end
returns-then-is_end c = rw (c.is_end.ensures c.if-is_end.true) at c.entries.invariant.0
