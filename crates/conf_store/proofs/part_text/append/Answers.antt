use Rattle.conf_store.proofs.RoomLemmas.{appended}
use Rattle.conf_store.proofs.part_text.append.Goals as goal

pub returns : goal.returns
returns c = appended c.args.text.now c.push_str.new.self c.args.more.now c.push_str.result c.push_str.ensures.capacity
    c.push_str.ensures.len c.push_str.ensures.bytes c.push_str.ensures.succeeds
