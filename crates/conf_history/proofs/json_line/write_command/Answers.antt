use Rattle.std.proofs.Common.{codes, refl, subst}
use Rattle.conf_history.proofs.Prelude.{on_ok_weaker, ascii}
use Rattle.conf_history.proofs.json_line.write_command.Goals as goal

pub returns : goal.returns
returns g c =
    let Takes = g.S.Sink.Takes in
    let both = g.met.S.Sink.takes_both in
    let noted = both _ _ _ _ _ c.in_ok-write_number.ensures c.in_ok-write_note.ensures in
    let key = subst (λ cs. Takes c.write_note.new.sink cs c.put_text.new.self) (ascii (codes ",\"edits\":[") refl)
    c.in_ok-put_text.ensures in
    let edited = both _ _ _ _ _ (both _ _ _ _ _ noted key) c.in_ok-write_changes.ensures in
    on_ok_weaker c.put_text-2.result
    (λ written. both _ _ _ _ _ edited
    (subst (λ cs. Takes c.write_changes.new.sink cs c.put_text-2.new.self) (ascii (codes "]}") refl) written))
    c.put_text-2.ensures
