-- What was read is what the file holds, and a read changes nothing.
use Rattle.std.specs.Prelude.{string_bytes}
use Rattle.{conf_tools.proofs.{Prelude.chars, ExportLemmas.{lacks-read, text-read}}, conf_store.specs.Holes.is_several}
use Rattle.conf_store.proofs.FileLemmas.{read-stays}
use Rattle.conf_tools.proofs.exports.read_text.Goals as goal

pub returns-in-Ok-text_in-clause-ok : goal.returns-in-Ok-text_in-clause-ok
returns-in-Ok-text_in-clause-ok g c =
    text-read g.D.Disk.model string_bytes c.args.form c.args.disk c.read.new.self (chars c.args.name.now)
    (is_several c.noted_on-waiting.result)
    c.in-Ok.content c.in-Ok-text_in.text (λ h. c.noted_on-waiting.ensures h) (λ h. c.read.ensures.same h)
    (λ h. c.in-Ok.ensures.content h) c.in-Ok-text_in.ensures.ok

pub returns-in-Err-clause-refused : goal.returns-in-Err-clause-refused
returns-in-Err-clause-refused g c =
    lacks-read g.D.Disk.model c.args.disk c.read.new.self (chars c.args.name.now) (is_several c.noted_on-waiting.result)
    c.in-Ok.content c.in-Err.fault (λ h. c.noted_on-waiting.ensures h) (λ h. c.read.ensures.same h)
    (λ h. c.in-Ok.ensures.content h) c.in-Err.ensures.refused

pub returns-in-Ok-text_in-clause-stays : goal.returns-in-Ok-text_in-clause-stays
returns-in-Ok-text_in-clause-stays g c h =
    let d = g.D.Disk in
    let new = c.read.new.self in
    read-stays d.model c.args.disk new (λ t image le is. g.met.D.Disk.counts_now new t image h le is)
    (λ image left. g.met.D.Disk.only_now c.args.disk image h left) (c.read.ensures.time h) (c.read.ensures.same h)
