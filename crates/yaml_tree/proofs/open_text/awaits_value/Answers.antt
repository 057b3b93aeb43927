use Rattle.std.proofs.Common.{sym, ap, ◌∙◌}
use Rattle.yaml_tree.{specs.{OpenParts.open_frames, Frames.awaits_value}, proofs.PartLemmas.open_frames-push}
use Rattle.yaml_tree.proofs.open_text.awaits_value.Goals as goal

pub returns-in-Some : goal.returns-in-Some
returns-in-Some c =
    let outer = c.in-Some.field-0-1.now in
    let parts = ap open_frames c.in-Some.ensures.cases.0 ∙ open_frames-push outer c.in-Some.innermost.now in
    c.awaits_value_in.ensures (open_frames outer) ∙ ap awaits_value (sym parts)
