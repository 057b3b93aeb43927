-- The name in all characters.
use Rattle.std.proofs.Common.{refl, sym, ap, ◌∙◌}
use Rattle.std.proofs.lemmas.{Iterator.{YieldsList-from_chars, Consumers.YieldsList-end}, List.map-id, Str.chars-nil}
use Rattle.conf_tools.{proofs.Prelude.chars, specs.DiffWords.file_name}
use Rattle.conf_tools.proofs.diff_words.file_name.Goals as goal

pub loop-c-init : goal.loop-c-init
loop-c-init c = record { is = ap chars c.new-name.ensures.bytes ∙ chars-nil; open_end = refl }

pub returns : goal.returns
returns c =
    let end = YieldsList-end (YieldsList-from_chars c.args.path.now c.utf8.path cc) c.loop-c.yielded _
    c.loop-c.yielded_by _ _ c.in-None.is c.next.ensures.steps in
    c.loop-c.invariant.is ∙ ap file_name (sym (map-id c.loop-c.yielded) ∙ end.0)
