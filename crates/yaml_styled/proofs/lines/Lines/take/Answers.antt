use Rattle.std.proofs.Common.{◌≡◌, ◌++◌, rules}
use Rattle.yaml_styled.proofs.TakingLemmas.{took_bytes}
use Rattle.yaml_styled.proofs.lines.Lines.take.Goals as goal

pub returns : goal.returns
returns c =
    let same : c.args.self.now.rest.now ≡ c.args.piece.now ++ c.in-Some.rest.now = search rules in
    took_bytes c.args.self.now.counted c.utf8.piece same
