use Rattle.std.proofs.Common.{sym, subst, append-nil, encode_utf8}
use Rattle.conf_store.{specs.Room.AppendsWithin, proofs.RoomLemmas.appended}
use Rattle.conf_store.proofs.part_text.PartTextSink.put_char.Goals as goal

pub returns : goal.returns
returns c =
    subst (λ bs. AppendsWithin c.args.self.now.text bs c.push.new.self) (sym (append-nil (encode_utf8 c.args.c)))
    (appended c.args.self.now.text c.push.new.self
    (encode_utf8 c.args.c) c.push.result c.push.ensures.capacity c.push.ensures.len c.push.ensures.bytes
    c.push.ensures.succeeds)
