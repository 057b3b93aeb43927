use Rattle.std.proofs.Common.{◌++◌, ap, arith}
use Rattle.conf_state.proofs.Prelude.{chars, spaces, key_lines, value_at, tree_of, byte_len-append, length_at}
use Rattle.conf_state.specs.BaseTexts.{entry_length}
use Rattle.conf_state.proofs.base.entry_length.Goals as goal

pub returns : goal.returns
unfolding entry_length
returns c =
    let name = chars c.args.name.now in
    let tree = tree_of c.args.config.now in
    let key = ap (λ size. length_at size 2) c.of_key.ensures.size in
    omega (
      arith,
      key,
      c.length_at-key_bytes.ensures,
      c.lengths_follow_indentation.ensures.key name 2,
      c.value_length-value_bytes.ensures.length,
      c.capped.ensures,
      byte_len-append (spaces 2 ++ key_lines 2 name) (value_at tree 2),
      byte_len-append (spaces 2) (key_lines 2 name),
    )
