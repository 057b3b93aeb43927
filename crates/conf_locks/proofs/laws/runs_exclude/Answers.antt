use Rattle.conf_locks.proofs.Staying.{holds-all, holds-alone}
use Rattle.conf_locks.proofs.laws.runs_exclude.Goals as goal

pub returns : goal.returns
returns c = record {
  stays = holds-all;
  alone = λ run other file other_file locks events holds made kept held.
      holds-alone run other file other_file _ (holds-all run file locks events holds made kept) held;
}
