use Rattle.std.proofs.Common.{[], subst}
use Rattle.yaml_styled.{specs.Taking.Took, proofs.TakingLemmas.took_counted}
use Rattle.yaml_styled.proofs.keys.take_other_key.Goals as goal

pub returns : goal.returns
returns c =
    let a = c.args.lines.now in
    let b = c.count.new.self in
    took_counted (subst (λ n. Took a.rest.now a.counted [] n b.rest.now b.counted) c.key_line_count.ensures c.in_ok-count.ensures)
    c.in_ok-write_key.ensures
