-- The conditions that words give, on the place that they change.
use Rattle.std.specs.Prelude.{◌≡◌, ℕ, List, [], ◌∷◌, ◌++◌, Option, Some, None, Result, Ok, Err, Vec}
use Rattle.conf_tools.specs.Prelude.{Global, chars, OutOfMemory, text, Condition, absent_at, condition_of, conditions_of, count_is, test_at}
use Rattle.conf_tools.specs.{Prelude.Conditions, TextWords.RefusesText, declared.texts.ToolFault.{ToolFault, TheVariants.Read}}
use Rattle.conf_words.specs.declared.invocation.Wanted.{Wanted, TheVariants.{Anything, Nothing, Text}}
use Rattle.conf_conditions.specs.declared.condition.Condition as code

-- the conditions of the code that words gave, or why there are none
abbrev pub AskedConditions : Type 0
AskedConditions = Result (Vec code.Condition Global) ToolFault

-- one condition of the code, or none
abbrev pub listed : Option code.Condition → List Condition
listed None = []
listed (Some condition) = condition_of condition ∷ []

-- what is wanted at a place
abbrev pub wanted_at : List ℕ → List ℕ → Wanted → List Condition
wanted_at name path Anything = []
wanted_at name path Nothing = absent_at name path ∷ []
wanted_at name path (Text word) = test_at name path (text (chars word.now)) ∷ []

-- how many commands are wanted
abbrev pub counted : Option ℕ → List Condition
counted None = []
counted (Some count) = count_is count ∷ []

-- The conditions in the order in which they are judged: first what is wanted at the place, and then the count.
abbrev pub conditions_at : List ℕ → List ℕ → Conditions → List Condition
conditions_at name path conditions = wanted_at name path conditions.place ++ counted conditions.count

-- why the conditions can't be asked for: the text is too long in the one style, or memory ran out
abbrev pub RefusesWanted : Wanted → ToolFault → Type 0
RefusesWanted (Text word) fault = RefusesText (chars word.now) fault
RefusesWanted wanted fault = fault ≡ Read OutOfMemory

-- these are the conditions that the words give
abbrev pub AsksFor : List ℕ → List ℕ → Conditions → AskedConditions → Type 0
AsksFor name path conditions (Ok asked) = conditions_of asked.items ≡ conditions_at name path conditions
AsksFor name path conditions (Err fault) = RefusesWanted conditions.place fault
