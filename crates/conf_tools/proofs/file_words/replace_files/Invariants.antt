-- Whatever the files that are left lead to, is what all files lead to.
use Rattle.std.{proofs.Common.drop, specs.Prelude.map}
use Rattle.conf_tools.{specs.Outcomes.SilentIfDone, proofs.{TellingLemmas.LeadsRestyled, WordLemmas.LeadsOnward}}
use Rattle.conf_tools.proofs.file_words.replace_files.Given as goal

abbrev pub invariant-loop-file : goal.invariant-loop-file
invariant-loop-file g l = LeadsOnward g.A.World.model g.A.File.Read.remaining l.fn.comments
    (map (λ file. file.now) (drop l.file-index l.files)) l.status
    l.world (map (λ file. file.now) l.files) l.fn.world × SilentIfDone l.status l.fn.errors l.errors
    × LeadsRestyled g.E.Listener.hears l.fn.reporter.reporting g.A.World.model g.A.File.Read.remaining l.fn.comments
    (map (λ file. file.now) (drop l.file-index l.files)) l.status
    l.world l.errors (map (λ file. file.now) l.files) l.fn.world l.fn.errors
