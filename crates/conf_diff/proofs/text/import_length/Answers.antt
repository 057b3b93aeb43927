use Rattle.std.proofs.Common.{◌*◌, ap, arith}
use Rattle.conf_diff.proofs.{Prelude.{chars, tree_of}, Lengths.import-lines}
use Rattle.conf_diff.proofs.text.import_length.Goals as goal

pub returns-clause-length : goal.returns-clause-length
returns-clause-length c =
    let head = c.head_length.ensures in
    let size = c.size-tree.ensures in
    omega (
      arith,
      head.length,
      head.small,
      ap (λ s. s.bytes) size.size,
      ap (λ s. s.lines) size.size,
      size.small,
      ap (λ n. n * c.size-tree.result.lines) c.from.ensures,
      import-lines (chars c.args.name.now) (tree_of c.args.config.now),
    )
