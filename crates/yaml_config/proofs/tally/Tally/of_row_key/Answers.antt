use Rattle.std.proofs.Common.{sym, ◌∙◌, arith}
use Rattle.{yaml_config.proofs.{Prelude.chars, TallyLemmas.{key_plain, key_plain_lines}}, yaml_writer.proofs.ByteLemmas.byte_len-chars}
use Rattle.yaml_config.proofs.tally.Tally.of_row_key.Goals as goal

pub returns-then-is_plain-clause-bytes : goal.returns-then-is_plain-clause-bytes
returns-then-is_plain-clause-bytes c =
    let own = byte_len-chars c.args.key.now c.utf8.key in
    let plain = key_plain (chars c.args.key.now) (sym c.is_plain.ensures ∙ c.if-is_plain.true) (omega (arith, own)) in
    omega (arith, own, plain)

pub returns-then-is_plain-clause-lines : goal.returns-then-is_plain-clause-lines
returns-then-is_plain-clause-lines c =
    let own = byte_len-chars c.args.key.now c.utf8.key in
    omega (arith, key_plain_lines (chars c.args.key.now) (omega (arith, own)))
