-- What came of the question is what was written.
use Rattle.std.proofs.Common.{refl}
use Rattle.conf_tools.proofs.read_words.answer.Goals as goal

pub returns-in-Names : goal.returns-in-Names
returns-in-Names g c = let e = c.write_names-ended.ensures in rw (c.in-Names.is)
    (record { result = c.write_names-ended.result; ends = c.outcome_of_reading.ensures; done = e.ok; refused = e.refused })

pub returns-in-Values : goal.returns-in-Values
returns-in-Values g c = let e = c.write_values-ended.ensures in rw (c.in-Values.is)
    (record { result = c.write_values-ended.result; ends = c.outcome_of_reading-in-Values.ensures; done = e.ok; refused = e.refused })

pub returns-in-Presence : goal.returns-in-Presence
returns-in-Presence g c = let e = c.find_presence-found.ensures in rw (c.in-Presence.is) (record {
  result = c.find_presence-found.result;
  ends = c.outcome_of_presence.ensures;
  done = e.ok;
  refused = e.refused;
  keeps = refl;
})

pub returns-in-Log : goal.returns-in-Log
returns-in-Log g c = let e = c.write_log-ended.ensures in rw (c.in-Log.is) (record {
  result = c.write_log-ended.result;
  ends = c.outcome_of_log.ensures;
  left = g.R.Read.remaining c.write_log-ended.new.reader;
  done = e.ok;
  refused = e.refused;
})

pub returns-in-Survey : goal.returns-in-Survey
returns-in-Survey g c = let e = c.write_survey-ended.ensures in rw (c.in-Survey.is)
    (record { result = c.write_survey-ended.result; ends = c.outcome_of_survey.ensures; done = e.ok; refused = e.refused })

pub returns-in-Diff : goal.returns-in-Diff
returns-in-Diff g c = let e = c.write_diff-ended.ensures in rw (c.in-Diff.is)
    (record { result = c.write_diff-ended.result; ends = c.outcome_of_diff.ensures; done = e.ok; refused = e.refused })
