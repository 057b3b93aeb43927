-- The name and its line feed are put one after the other.
use Rattle.std.proofs.Common.{◌++◌, ap, ◌∙◌, codes}
use Rattle.conf_tools.proofs.ReadLemmas.{name_pushed, on_pushed}
use Rattle.conf_tools.proofs.reads.push_name.Goals as goal

pub returns : goal.returns
returns c =
    on_pushed c.extend_from_slice-2.result c.extend_from_slice-2.new.self.items (c.extend_from_slice.new.self.items ++ codes "\n")
    c.extend_from_slice.new.self.items c.extend_from_slice-2.ensures.items
    (λ second. name_pushed c.args.lines.now.items c.extend_from_slice.new.self.items
    c.extend_from_slice-2.new.self.items c.args.name.now c.utf8.name
    (c.in_ok-extend_from_slice.ensures.items ∙ ap (λ bytes. c.args.lines.now.items ++ bytes) c.as_bytes.ensures.value) second)
