use Rattle.std.proofs.Common.{codes, refl, subst}
use Rattle.yaml_styled.{proofs.{Prelude.{IfOk-weaker, chars-literal}, ValueLemmas.value_beside}, specs.Taking.Took}
use Rattle.yaml_styled.proofs.read.read_beside.Goals as goal

pub returns : goal.returns
returns g c =
    let a = c.args.lines.now in
    let b = c.take.new.self in
    let space = subst (λ cs. Took a.rest.now a.counted cs 0 b.rest.now b.counted) (chars-literal (codes " ") refl) c.in_ok-take.ensures in
    IfOk-weaker c.read_flat.result _ _
    (λ made read. value_beside {Is = g.V.Build.Means made} {i = c.args.indent} space read)
    c.read_flat.ensures
