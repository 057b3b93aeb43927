use Rattle.std.proofs.Common.{sym, ◌∙◌}
use Rattle.yaml_styled.proofs.WordLemmas.{took_plain_key}
use Rattle.yaml_styled.proofs.keys.take_key.Goals as goal

pub returns-in-Some : goal.returns-in-Some
returns-in-Some c =
    took_plain_key c.in-Some.key.now c.in-Some.ensures.plain c.in-Some.ensures.ascii c.args.lines.now.rest.now c.in-Some.rest.now
    c.go_on.new.self.rest.now c.args.lines.now.counted c.go_on.new.self.counted c.args.indent
    (sym c.rest.ensures ∙ c.in-Some.ensures.cut) c.go_on.ensures.rest c.go_on.ensures.counted
