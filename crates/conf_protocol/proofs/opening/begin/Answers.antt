use Rattle.std.proofs.Common.{◌≡◌, ◌∙◌, sym, ap}
use Rattle.{conf_system.specs.{declared.system.Note.Note, Machine.after_reading}, conf_protocol.proofs.{Shown.blamed-ok, Noted.knows-sure}}
use Rattle.conf_protocol.proofs.Opened.{Opens-joined, Opens-read, by-read}
use Rattle.conf_protocol.proofs.opening.begin.Goals as goal

pub settle-requires-clause-safe : goal.settle-requires-clause-safe
settle-requires-clause-safe g c h =
    (Opens-read g.S.System.model c.args.system.now c.read_note.new.self c.read_note.result (c.read_note.ensures.change h)
    (c.read_note.ensures.time h) (c.requires h)).now.safe

pub settle-requires-clause-noted : goal.settle-requires-clause-noted
settle-requires-clause-noted g c h =
    let model = g.S.System.model in
    let old = model.machine c.args.system.now in
    let read = model.machine c.read_note.new.self in
    let at = blamed-ok c.read_note.result c.in_ok-note.note _ (λ (n : Note). (n ≡ old.note) × (read ≡ after_reading n old)) _
    c.in_ok-note.ensures (c.read_note.ensures.change h) in
    by-read c.in_ok-note.note old read at.0 at.1

pub returns-in_err-note-clause-opens : goal.returns-in_err-note-clause-opens
returns-in_err-note-clause-opens g c h =
    Opens-read g.S.System.model c.args.system.now c.read_note.new.self c.read_note.result (c.read_note.ensures.change h)
    (c.read_note.ensures.time h) (c.requires h)

pub returns-then-note-clause-opens : goal.returns-then-note-clause-opens
returns-then-note-clause-opens g c h =
    Opens-read g.S.System.model c.args.system.now c.read_note.new.self c.read_note.result (c.read_note.ensures.change h)
    (c.read_note.ensures.time h) (c.requires h)

pub returns-then-note-clause-noted : goal.returns-then-note-clause-noted
returns-then-note-clause-noted g c h =
    let model = g.S.System.model in
    let old = model.machine c.args.system.now in
    let read = model.machine c.read_note.new.self in
    let at = blamed-ok c.read_note.result c.in_ok-note.note _ (λ (n : Note). (n ≡ old.note) × (read ≡ after_reading n old)) _
    c.in_ok-note.ensures (c.read_note.ensures.change h) in
    by-read c.in_ok-note.note old read at.0 at.1

pub returns-then-note-clause-sure : goal.returns-then-note-clause-sure
returns-then-note-clause-sure g c h on =
    let model = g.S.System.model in
    let old = model.machine c.args.system.now in
    let read = model.machine c.read_note.new.self in
    let at = blamed-ok c.read_note.result c.in_ok-note.note _ (λ (n : Note). (n ≡ old.note) × (read ≡ after_reading n old)) _
    c.in_ok-note.ensures (c.read_note.ensures.change h) in
    knows-sure c.in_ok-note.note old read at.0 at.1 (c.requires h (ap (λ (n : Note). n.on_device) (sym at.0) ∙ on))

pub returns-in_err-settle-clause-opens : goal.returns-in_err-settle-clause-opens
returns-in_err-settle-clause-opens g c h =
    Opens-joined g.S.System.model c.args.system.now c.read_note.new.self c.settle.new.system
    (Opens-read g.S.System.model c.args.system.now c.read_note.new.self c.read_note.result (c.read_note.ensures.change h)
    (c.read_note.ensures.time h) (c.requires h)) (c.settle.ensures.opens h)

pub returns-clause-opens : goal.returns-clause-opens
returns-clause-opens g c h =
    Opens-joined g.S.System.model c.args.system.now c.read_note.new.self c.settle.new.system
    (Opens-read g.S.System.model c.args.system.now c.read_note.new.self c.read_note.result (c.read_note.ensures.change h)
    (c.read_note.ensures.time h) (c.requires h)) (c.settle.ensures.opens h)
