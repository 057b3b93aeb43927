use Rattle.std.proofs.Common.{sym, subst}
use Rattle.{yaml_writer.proofs.SpacesLemmas.encoded_spaces, conf_store.specs.Room.AppendsWithin}
use Rattle.conf_store.proofs.part_text.PartTextSink.put_spaces.Goals as goal

pub returns : goal.returns
returns c = subst (λ bs. AppendsWithin c.args.self.now.text bs c.append_spaces.new.text)
    (sym (encoded_spaces c.args.count)) c.append_spaces.ensures
