-- What was found is what was written; or why it was not.
use Rattle.{conf_store.specs.Holes.is_several, conf_tools.proofs.ReadLemmas.cannot_write}
use Rattle.conf_tools.proofs.surveys.write_survey.Goals as goal

pub returns-in-Ok-write_findings-clause-ok : goal.returns-in-Ok-write_findings-clause-ok
returns-in-Ok-write_findings-clause-ok g c = record {
  state = c.in-Ok.ensures.ok.0;
  findings = c.in-Ok.findings;
  finds = c.in-Ok.ensures.ok.1.holds;
  writes = c.in-Ok-write_findings.ensures.ok;
  says = c.soundness_of.ensures;
}

pub returns-in-Err-write_findings-clause-refused : goal.returns-in-Err-write_findings-clause-refused
returns-in-Err-write_findings-clause-refused g c =
    cannot_write (is_several c.args.waiting) (g.R.Read.remaining c.args.reader.now) (g.W.Write.contents c.args.writer.now)
    (g.W.Write.contents c.write_findings.new.writer)
    c.in-Ok.ensures.ok.0 c.in-Ok.findings c.in-Ok.ensures.ok.1.holds c.in-Err-write_findings.fault
    c.in-Err-write_findings.ensures.refused
