use Rattle.std.proofs.Common.{refl}
use Rattle.yaml_styled.proofs.NameLemmas.{other_length}
use Rattle.yaml_styled.proofs.open_keys.are_same.Goals as goal

pub returns-then-key-other : goal.returns-then-key-other
returns-then-key-other c =
    other_length c.args.key.now c.args.other.now c.utf8.key c.utf8.other c.if-key-other.true _ refl
