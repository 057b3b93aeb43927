use Rattle.std.{proofs.Common.{ap, sym, ◌∙◌}, specs.Prelude.{[], ◌++◌}}
use Rattle.yaml_flow.proofs.{Prelude.{omitted_at, omitted_style, scalar_event, ok_so}, Appends.{appended_as, appended_one, appended_then}}
use Rattle.yaml_flow.specs.Frames.{absent_events, in_sequence, pair_end}
use Rattle.yaml_flow.proofs.pair.without_value.Goals as goal

pub returns-clause-written : goal.returns-clause-written
returns-clause-written c =
    let in_seq = in_sequence c.args.top.kind in
    let end = c.args.end in
    let absent = c.in_ok-push_omitted.ensures.ok in
    ok_so c.close_pair.result _ _
    (λ next h. λ text. appended_as text c.args.events.now c.close_pair.new.events (omitted_at end ++ pair_end in_seq) _
    (ap (λ x. absent_events x in_seq end) (sym (sym c.is_single.ensures ∙ c.if-is_single.false)))
    (appended_then text c.args.events.now c.push_omitted.new.events c.close_pair.new.events (omitted_at end) (pair_end in_seq)
    (appended_one text c.args.events.now c.push_omitted.new.events absent.event
    (scalar_event omitted_style end end []) absent.is absent.means (absent.borrows text))
    (h text))) c.close_pair.ensures.written
