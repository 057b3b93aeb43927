-- The texts of a condition, as they were cut from its lines. They are bytes, and mean characters.
use Rattle.conf_session.specs.Prelude.{chars, text, Condition, test_at, absent_at, count_is}
use Rattle.conf_session.specs.declared.condition_lines.ConditionTexts.{ConditionTexts}
use Rattle.conf_session.specs.declared.condition_lines.ConditionTexts.TheVariants as cut

-- the condition with these texts
abbrev pub condition_cut : ConditionTexts → Condition
condition_cut (cut.Test name path value) = test_at (chars name.now) (chars path.now) (text (chars value.now))
condition_cut (cut.Absent name path) = absent_at (chars name.now) (chars path.now)
condition_cut (cut.Count count) = count_is count
