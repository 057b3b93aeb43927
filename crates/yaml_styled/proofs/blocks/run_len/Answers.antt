use Rattle.yaml_styled.proofs.RunLemmas.{run_joined}
use Rattle.yaml_styled.proofs.blocks.run_len.Goals as goal

pub sixteens-preserved : goal.sixteens-preserved
sixteens-preserved g c = run_joined g.C.Class.passes c.args.bytes.now c.sixteens.len _ c.sixteens.invariant c.run_in_block-count.ensures

pub returns-then-count-lt-BLOCK : goal.returns-then-count-lt-BLOCK
returns-then-count-lt-BLOCK g c =
    run_joined g.C.Class.passes c.args.bytes.now c.sixteens.len _ c.sixteens.invariant c.run_in_block-count.ensures
