-- What was found is of a state that the file holds.
use Rattle.std.proofs.Common.{◌∙◌}
use Rattle.conf_tools.proofs.{Prelude.chars, HeldLemmas.{TreeFound, keeps_same, tree_lent, values_cut, values_refused, values_written}}
use Rattle.{conf_tools.specs.Reads.{pointers_of, tree_found}, conf_store.specs.Holes.is_several}
use Rattle.conf_tools.proofs.reads.write_values.Goals as goal

pub returns-in-Ok-write_whole-clause-ok : goal.returns-in-Ok-write_whole-clause-ok
returns-in-Ok-write_whole-clause-ok g c =
    let given = g.R.Read.remaining c.args.reader.now in
    let left = g.R.Read.remaining c.config_at.new.reader in
    let held = g.W.Write.contents c.args.writer.now in
    let ok = c.in-Ok.ensures.ok in
    let found : TreeFound (is_several c.args.waiting) given left c.args.places.now.at (chars c.args.places.now.name.now)
    (tree_found c.as_ref-found.result) =
    (ok.0, ok.1, tree_lent c.as_ref-found.result c.in-Ok.config c.as_ref-found.ensures.value ∙ ok.2) in
    values_written (is_several c.args.waiting) given left c.args.places.now.at (chars c.args.places.now.name.now)
    (pointers_of c.args.places.now.pointers.items) (tree_found c.as_ref-found.result) found c.args.missing c.args.form
    c.in-Ok-values_text.text.items held (g.W.Write.contents c.write_whole.new.writer)
    (rw c.deref.ensures.value at c.in-Ok-values_text.ensures.ok)
    (rw c.deref-2.ensures.value at c.in-Ok-write_whole.ensures.ok)

pub returns-in-Err-values_text-clause-refused : goal.returns-in-Err-values_text-clause-refused
returns-in-Err-values_text-clause-refused g c =
    let given = g.R.Read.remaining c.args.reader.now in
    let left = g.R.Read.remaining c.config_at.new.reader in
    let held = g.W.Write.contents c.args.writer.now in
    let ok = c.in-Ok.ensures.ok in
    let found : TreeFound (is_several c.args.waiting) given left c.args.places.now.at (chars c.args.places.now.name.now)
    (tree_found c.as_ref-found.result) =
    (ok.0, ok.1, tree_lent c.as_ref-found.result c.in-Ok.config c.as_ref-found.ensures.value ∙ ok.2) in
    values_refused (is_several c.args.waiting) given left c.args.places.now.at (chars c.args.places.now.name.now)
    (pointers_of c.args.places.now.pointers.items) (tree_found c.as_ref-found.result) found c.args.missing c.args.form held held
    (keeps_same held) c.in-Err-values_text.fault (rw c.deref.ensures.value at c.in-Err-values_text.ensures.refused)

pub returns-clause-refused : goal.returns-clause-refused
returns-clause-refused g c =
    let given = g.R.Read.remaining c.args.reader.now in
    let left = g.R.Read.remaining c.config_at.new.reader in
    let held = g.W.Write.contents c.args.writer.now in
    let ok = c.in-Ok.ensures.ok in
    let found : TreeFound (is_several c.args.waiting) given left c.args.places.now.at (chars c.args.places.now.name.now)
    (tree_found c.as_ref-found.result) =
    (ok.0, ok.1, tree_lent c.as_ref-found.result c.in-Ok.config c.as_ref-found.ensures.value ∙ ok.2) in
    values_cut (is_several c.args.waiting) given left c.args.places.now.at (chars c.args.places.now.name.now)
    (pointers_of c.args.places.now.pointers.items) (tree_found c.as_ref-found.result) found c.args.missing c.args.form
    c.in-Ok-values_text.text.items held (g.W.Write.contents c.write_whole.new.writer)
    (rw c.deref.ensures.value at c.in-Ok-values_text.ensures.ok)
    (rw c.deref-2.ensures.value at c.in-Err-write_whole.ensures.part)
