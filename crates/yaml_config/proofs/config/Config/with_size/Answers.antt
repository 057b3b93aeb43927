use Rattle.std.proofs.Common.{arith}
use Rattle.yaml_config.proofs.{Prelude.tree_of, SizeLemmas.element-fits}
use Rattle.yaml_config.proofs.config.Config.with_size.Goals as goal

pub overflow_cast-result : goal.overflow_cast-result
overflow_cast-result c =
    let fits = element-fits (tree_of c.args.tree) c.args.element c.requires.kept.long c.requires.size in
    omega (arith, fits.1)
