-- Whatever the files that are left lead to, is what all files lead to.
use Rattle.std.{proofs.Common.drop, specs.Prelude.map}
use Rattle.conf_tools.{specs.{Outcomes.SilentIfDone, Worlds.around}, proofs.{TellingLemmas.LeadsTold, WordLemmas.LeadsOn}}
use Rattle.conf_tools.proofs.file_words.try_files.Given as goal

abbrev pub invariant-loop-file : goal.invariant-loop-file
invariant-loop-file g l = LeadsOn g.A.World.model g.A.File.Read.remaining l.fn.report
    (map (λ file. file.now) (drop l.file-index l.files)) l.status
    (around l.world (g.R.Read.remaining l.input) (g.W.Write.contents l.output)) (map (λ file. file.now) l.files)
    (around l.fn.world (g.R.Read.remaining l.fn.input) (g.W.Write.contents l.fn.output)) × SilentIfDone l.status l.fn.errors l.errors
    × LeadsTold g.E.Listener.hears l.fn.reporter.reporting g.A.World.model g.A.File.Read.remaining l.fn.report
    (map (λ file. file.now) (drop l.file-index l.files)) l.status
    (around l.world (g.R.Read.remaining l.input) (g.W.Write.contents l.output)) l.errors (map (λ file. file.now) l.files)
    (around l.fn.world (g.R.Read.remaining l.fn.input) (g.W.Write.contents l.fn.output)) l.fn.errors
