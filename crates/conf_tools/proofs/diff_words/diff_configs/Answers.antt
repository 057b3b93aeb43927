-- Where memory ran out, nothing was written.
use Rattle.std.proofs.Common.{Err, refl}
use Rattle.conf_tools.{proofs.{HeldLemmas.keeps_same, Prelude.OutOfMemory}, specs.declared.reading_fault.ReadingFault.TheVariants.Value}
use Rattle.conf_tools.proofs.diff_words.diff_configs.Goals as goal

pub returns-in_default : goal.returns-in_default
returns-in_default g c = record {
  result = Err (Value OutOfMemory);
  ends = c.outcome_of_diff.ensures;
  done = tt;
  refused = (refl, keeps_same (g.W.Write.contents c.args.output.now));
}
