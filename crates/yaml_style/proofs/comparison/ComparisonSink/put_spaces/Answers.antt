use Rattle.std.proofs.Common.{ap, ◌∙◌, ◌∷◌, []}
use Rattle.yaml_style.{proofs.Prelude.{chars, replicate-append-replicate, space_char, spaces}, specs.Comparing.comparison_after}
use Rattle.yaml_style.specs.ComparingLaws.{comparison_after-both}
use Rattle.yaml_style.proofs.comparison.ComparisonSink.put_spaces.Goals as goal

pub loop-preserved : goal.loop-preserved
loop-preserved c =
    let a = c.args.self.now in
    let b = c.loop.self in
    let d = c.put_char.new.self in
    comparison_after-both (chars a.rest.now) a.agrees (chars b.rest.now) b.agrees (chars d.rest.now, d.agrees)
    (spaces c.loop.counter) (space_char ∷ []) c.loop.invariant c.in_ok-put_char.ensures
    ∙ ap (comparison_after (chars a.rest.now) a.agrees) (replicate-append-replicate c.loop.counter 1 space_char)
