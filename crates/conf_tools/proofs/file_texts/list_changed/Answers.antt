-- A text that is refused has no name written, and of the name of another only the first was.
use Rattle.std.{proofs.Common.{refl, rules, true}, specs.Prelude.string_bytes}
use Rattle.conf_tools.{specs.FileTexts.{IsNameLine, name_line}, proofs.{FileLemmas.no_style, PartLemmas.stops_naming}}
use Rattle.conf_tools.proofs.file_texts.list_changed.Goals as goal

pub returns-in-Err-clause-stops : goal.returns-in-Err-clause-stops
returns-in-Err-clause-stops g c =
    no_style (IsNameLine c.args.style c.args.file.now c.args.text.now) c.args.text.now (g.W.Write.contents c.args.writer.now)
    c.in-Err.fault c.in-Err.ensures.refused

pub returns-clause-stops : goal.returns-clause-stops
returns-clause-stops g c =
    stops_naming (IsNameLine c.args.style c.args.file.now c.args.text.now) c.args.text.now
    (g.W.Write.contents c.args.writer.now) (g.W.Write.contents c.write_name.new.writer) (name_line c.args.file.now true)
    (string_bytes c.in-Ok.styled, c.in-Ok.ensures.ok, search rules, refl)
    c.in-Err-write_name.fault c.in-Err-write_name.ensures.faults
