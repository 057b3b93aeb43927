use Rattle.std.proofs.Common.{◌≡◌, ◌++◌, codes, rules}
use Rattle.conf_record.proofs.{Prelude.{chars, text_bytes}, EntryLemmas.entry_of}
use Rattle.conf_record.proofs.entries.read_entry.Goals as goal

pub returns : goal.returns
returns c =
    let lines = c.args.lines.now in
    let row = c.in-Some.row.now in
    let value = c.in_ok-name.value.now in
    let styled = c.in_ok-styled.styled in
    let name = chars (text_bytes c.in_ok-name.name) in
    let cut : lines ≡ codes "  " ++ row = search rules in
    entry_of lines row value styled.rest.now name styled.value styled.size cut c.in_ok-name.ensures c.in_ok-styled.ensures
