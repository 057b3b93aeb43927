use Rattle.std.proofs.Common.{◌∙◌, arith}
use Rattle.{yaml_commented.specs.Trails.extra_text, comments_kept.{specs.Weaving.extra_of, proofs.LineEnds.{Began, no_lines, one_line}}}
use Rattle.comments_kept.proofs.LineEnds.{later_first, later_nothing}
use Rattle.comments_kept.proofs.weaver.Weaver.put_lines.Goals as goal

pub loop-next-preserved : goal.loop-next-preserved
loop-next-preserved c =
    let w = c.loop-next.self in
    let x = c.in-Some.next.now in
    let n = c.min.result in
    let b = c.put_extra.new.self in
    let found = c.in-Some.ensures.lookup in
    let wrote = c.in_ok-put_extra.ensures in
    let began : Began w b (extra_text (extra_of x.kept n)) =
    record { spells = wrote.0; same = wrote.1; more = wrote.2; here = wrote.3 } in (
      began.same ∙ c.loop-next.invariant.0,
      λ end others. c.loop-next.invariant.1 end
          (one_line c.args.most n w b end x found.3.0 found.1 (omega arith) c.min.ensures began others),
    )

pub returns-then-next-self : goal.returns-then-next-self
returns-then-next-self c =
    let w = c.loop-next.self in
    let found = c.in-Some.ensures.lookup in
    c.loop-next.invariant.1 w (no_lines c.args.most w (later_first w c.in-Some.next.now found.3.0 found.1 (omega arith)))

pub returns : goal.returns
returns c =
    let w = c.loop-next.self in
    c.loop-next.invariant.1 w (no_lines c.args.most w (later_nothing w c.in_default.ensures.lookup.3))
