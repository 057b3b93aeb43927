use Rattle.std.proofs.Common.{◌≡◌, IfSome, length, string_bytes, rules, subst}
use Rattle.conf_store.proofs.{Prelude.{command_of, record_bytes, IsCommand}, StoreLemmas.made-measured}
use Rattle.conf_store.proofs.accepting.record_within.Goals as goal

pub returns-in-Some : goal.returns-in-Some
returns-in-Some c =
    let command = command_of c.args.command.now in
    let text = string_bytes c.in-Some.record in
    let kept = subst (λ found. IfSome found (λ text. IsCommand command)) c.in-Some.is c.in_ok-record.ensures.kept in
    let same = subst (λ found. IfSome found (λ text. string_bytes text ≡ record_bytes command c.args.number)) c.in-Some.is
    c.in_ok-record.ensures.bytes in
    let long : c.len.result ≡ length text = search rules in
    made-measured command c.args.number c.args.longest c.len.result text c.of-room.result kept c.of-room.ensures long same
