use Rattle.std.proofs.Common.{codes, sym, subst}
use Rattle.conf_session.proofs.{Prelude.{chars, text, set_at, delete_at, lines_of}, CommandLineLemmas.{import_spelled, set_spelled}}
use Rattle.conf_session.{proofs.CommandLineLemmas.delete_spelled, specs.{Said.{import_text, plain}, CommandLines.SpellsPart}}
use Rattle.conf_session.proofs.part_lines.texts_on_lines.Goals as goal

pub returns-in_ok-value-in-Import : goal.returns-in_ok-value-in-Import
returns-in_ok-value-in-Import c =
    let name = c.in_ok-name-in-Import.name.now in
    let source = c.in_ok-value-in-Import.value.now in
    subst (λ lines. SpellsPart (lines_of lines (codes "text: ")) (import_text (chars name) (chars source))) (sym c.in-Import.is)
    (import_spelled c.in-Import.name c.in-Import.value name source c.in_ok-name-in-Import.ensures c.in_ok-value-in-Import.ensures)

pub returns-in_ok-value-in-Set : goal.returns-in_ok-value-in-Set
returns-in_ok-value-in-Set c =
    let name = c.in_ok-name-in-Set.name.now in
    let path = c.in_ok-path-in-Set.path.now in
    let value = c.in_ok-value-in-Set.value.now in
    subst (λ lines. SpellsPart (lines_of lines (codes "text: "))
    (plain (set_at (chars name) (chars path) (text (chars value))))) (sym c.in-Set.is)
    (set_spelled c.in-Set.name c.in-Set.path c.in-Set.value name path value c.in_ok-name-in-Set.ensures
    c.in_ok-path-in-Set.ensures c.in_ok-value-in-Set.ensures)

pub returns-in_ok-path-in-Delete : goal.returns-in_ok-path-in-Delete
returns-in_ok-path-in-Delete c =
    let name = c.in_ok-name-in-Delete.name.now in
    let path = c.in_ok-path-in-Delete.path.now in
    subst (λ lines. SpellsPart (lines_of lines (codes "text: ")) (plain (delete_at (chars name) (chars path)))) (sym c.in-Delete.is)
    (delete_spelled c.in-Delete.name c.in-Delete.path name path c.in_ok-name-in-Delete.ensures c.in_ok-path-in-Delete.ensures)
