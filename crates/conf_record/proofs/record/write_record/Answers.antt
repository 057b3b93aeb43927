use Rattle.std.proofs.Common.{codes, decimal, refl, subst}
use Rattle.conf_record.proofs.Prelude.{on_ok_weaker, members_after, text, command_of, ascii, line, framed_line}
use Rattle.conf_record.specs.Records.{command_members, record_text}
use Rattle.conf_record.proofs.record.write_record.Goals as goal

pub returns-clause-takes : goal.returns-clause-takes
unfolding record_text
returns-clause-takes g c =
    let both = g.met.S.Sink.takes_both in
    let start = c.args.sink.now in
    let end = c.put_text-2.new.self in
    let prefix = subst (λ cs. g.S.Sink.Takes start cs c.put_text.new.self) (ascii (codes "---\n") refl) c.in_ok-put_text.ensures in
    on_ok_weaker c.put_text-2.result
    (λ written. subst (λ cs. g.S.Sink.Takes start cs end)
    (framed_line (line (codes "at") (text (decimal c.args.number))) (members_after (command_members (command_of c.args.command.now)) 0))
    (both _ _ _ _ _ (both _ _ _ _ _ (both _ _ _ _ _ prefix c.in_ok-write_number.ensures) c.in_ok-write_command.ensures.takes)
    (subst (λ cs. g.S.Sink.Takes c.write_command.new.sink cs end) (ascii (codes "...\n") refl) written)))
    c.put_text-2.ensures

pub returns-clause-kept : goal.returns-clause-kept
returns-clause-kept g c = on_ok_weaker c.put_text-2.result (λ written. c.in_ok-write_command.ensures.kept) c.put_text-2.ensures
