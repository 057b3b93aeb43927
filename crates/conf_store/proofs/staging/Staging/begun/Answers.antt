use Rattle.std.proofs.Common.{string_bytes, Some, ap, ◌∙◌}
use Rattle.conf_store.proofs.StageLemmas.{begin-left, ready-begins}
use Rattle.conf_store.proofs.staging.Staging.begun.Goals as goal

pub returns-clause-begun : goal.returns-clause-begun
returns-clause-begun c =
    let s = c.args.state.now in
    let rest = c.in_ok-cutting.ensures.rest ∙ c.deref.ensures ∙ c.in_ok-start.ensures in
    ap (λ bs. Some (record { written = 0; left = bs }))
    (begin-left c.args.format s c.requires c.in_ok-cutting.cutting c.in_ok-longest.longest.pending
    (string_bytes c.in_ok-since.since) c.in_ok-cutting.ensures.slice rest c.in_ok-longest.ensures.all
    c.in_ok-since.ensures.ok)

pub returns-clause-ready : goal.returns-clause-ready
returns-clause-ready c on =
    let s = c.args.state.now in
    let rest = c.in_ok-cutting.ensures.rest ∙ c.deref.ensures ∙ c.in_ok-start.ensures in
    ready-begins c.args.format s c.requires c.in_ok-cutting.cutting c.in_ok-longest.longest.pending
    (string_bytes c.in_ok-since.since) c.base_length.result c.in_ok-longest.longest.bytes
    c.in_ok-cutting.ensures.slice rest c.in_ok-longest.ensures.all c.in_ok-since.ensures.ok c.base_length.ensures
    c.in_ok-cutting.ensures.slice_room c.in_ok-cutting.ensures.part_room c.in_ok-longest.ensures.within
