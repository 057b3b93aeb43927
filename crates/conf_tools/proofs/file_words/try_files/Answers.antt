-- One more file.
use Rattle.std.{proofs.Common.{ap, sym, ◌∙◌}, specs.Prelude.map}
use Rattle.conf_tools.proofs.{Prelude.drop_more, OutcomeLemmas.worst_silently, TellingLemmas.{last_told, one_told, reported_silent}}
use Rattle.conf_tools.{proofs.WordLemmas.{last_one, one_more}, specs.TextWords.status_of_report}
use Rattle.conf_tools.proofs.file_words.try_files.Goals as goal

pub returns-then-stops_all-clause-reports : goal.returns-then-stops_all-clause-reports
returns-then-stops_all-clause-reports g c =
    last_one g.A.World.model g.A.File.Read.remaining _ _ _ _ _
    (ap (map (λ file. file.now)) (drop_more _ _ _ c.loop-file-test.true)) _ _ _ _ c.loop-file.invariant.0
    c.try_file-ended.result c.try_file-ended.ensures.does
    (sym c.stops_all.ensures ∙ c.if-stops_all.true)

pub returns-then-stops_all-clause-tells : goal.returns-then-stops_all-clause-tells
returns-then-stops_all-clause-tells g c =
    last_told g.E.Listener.hears c.args.reporter.reporting g.A.World.model g.A.File.Read.remaining _ _ _ _ _
    (ap (map (λ file. file.now)) (drop_more _ _ _ c.loop-file-test.true)) _ _ _ _ _ _ _ c.loop-file.invariant.2
    c.try_file-ended.result c.try_file-ended.ensures
    (sym c.stops_all.ensures ∙ c.if-stops_all.true)

pub loop-file-preserved : goal.loop-file-preserved
loop-file-preserved g c =
    let split = ap (map (λ file. file.now)) (drop_more _ _ _ c.loop-file-test.true) in
    let result = c.try_file-ended.result in
    let goes_on = sym c.stops_all.ensures ∙ c.if-stops_all.false in
    rw (c.worst-status.ensures, c.status_of_report.ensures) (
      one_more g.A.World.model g.A.File.Read.remaining _ _ _ _ _ split _ _ _ _ c.loop-file.invariant.0
          result c.try_file-ended.ensures.does goes_on,
      worst_silently c.loop-file.status (status_of_report result) _ c.loop-file.errors
          c.try_file-ended.new.errors c.loop-file.invariant.1
          (reported_silent g.E.Listener.hears c.args.reporter.reporting g.A.World.model g.A.File.Read.remaining c.args.report
          _ _ _ _ _ result c.try_file-ended.ensures),
      one_told g.E.Listener.hears c.args.reporter.reporting g.A.World.model g.A.File.Read.remaining _ _ _ _ _ split
          _ _ _ _ _ _ _ c.loop-file.invariant.2 result c.try_file-ended.ensures goes_on,
    )
