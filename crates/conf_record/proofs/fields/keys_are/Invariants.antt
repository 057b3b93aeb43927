use Rattle.std.proofs.Common.{◌≡◌, drop, map}
use Rattle.conf_record.{proofs.Prelude.members_of, specs.{RecordsRead.keys_are, Reading.texts}}
use Rattle.conf_record.proofs.fields.keys_are.Given as goal

-- what is left decides, and there are as many on both sides
abbrev pub invariant-loop-i : goal.invariant-loop-i
invariant-loop-i l =
    keys_are (texts (map (λ k. k.now) (drop l.i l.keys))) (members_of (drop l.i l.pairs))
    ≡ keys_are (texts (map (λ k. k.now) l.keys)) (members_of l.pairs)
