use Rattle.yaml_styled.{proofs.Prelude.AllAdjacentBelow, specs.Names.IsBelow}
use Rattle.yaml_styled.proofs.open_keys.do_ascend.Given as goal

-- the keys before this place ascend
abbrev pub invariant-loop-next : goal.invariant-loop-next
invariant-loop-next l = AllAdjacentBelow (λ a b. IsBelow a.now b.now) l.keys l.next
