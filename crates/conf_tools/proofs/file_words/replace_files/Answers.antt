-- One more file.
use Rattle.std.{proofs.Common.ap, specs.Prelude.map}
use Rattle.conf_tools.proofs.{Prelude.drop_more, OutcomeLemmas.worst_silently, TellingLemmas.{one_restyled, restyled_silent}}
use Rattle.conf_tools.proofs.WordLemmas.{one_replaced}
use Rattle.conf_tools.proofs.file_words.replace_files.Goals as goal

pub loop-file-preserved : goal.loop-file-preserved
loop-file-preserved g c =
    let split = ap (map (λ file. file.now)) (drop_more _ _ _ c.loop-file-test.true) in
    let status = c.restyle_file.result in
    let tells = c.restyle_file.ensures in
    rw (c.worst-status.ensures) (
      one_replaced g.A.World.model g.A.File.Read.remaining c.args.comments _ _ _ _ split _ _ _ _ c.loop-file.invariant.0
          status tells.tells.0,
      worst_silently c.loop-file.status status _ c.loop-file.errors c.restyle_file.new.errors c.loop-file.invariant.1
          (restyled_silent g.E.Listener.hears c.args.reporter.reporting g.A.World.model g.A.File.Read.remaining c.args.comments
          _ _ _ _ _ status tells),
      one_restyled g.E.Listener.hears c.args.reporter.reporting g.A.World.model g.A.File.Read.remaining c.args.comments
          _ _ _ _ split _ _ _ _ _ _ _ c.loop-file.invariant.2 status tells,
    )
