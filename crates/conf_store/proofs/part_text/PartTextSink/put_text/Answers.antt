use Rattle.std.proofs.Common.{sym, subst}
use Rattle.conf_store.{proofs.Prelude.encodes-chars, specs.Room.AppendsWithin}
use Rattle.conf_store.proofs.part_text.PartTextSink.put_text.Goals as goal

pub returns : goal.returns
returns c = subst (λ bs. AppendsWithin c.args.self.now.text bs c.append.new.text)
    (sym (encodes-chars c.args.text.now c.utf8.text)) c.append.ensures
