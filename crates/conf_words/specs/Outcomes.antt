-- What the words of the program come to.
use Rattle.std.specs.Prelude.{◌≡◌, ℕ, ◌||◌, Bool, true, false, List, drop, Option, Some, None, Result, Ok, Err}
use Rattle.command_line.specs.{Matches.Given, Words.read, declared.refusal.Refusal.{Refusal, TheVariants.Help}}
use Rattle.conf_words.specs.{Invocations.{IsAsked, is_wrong}, Subcommands.{asked_in, asks_for_help, rows_of}, Waits.{IsWait, is_wait_wrong}}
use Rattle.conf_words.specs.declared.{invocation.Invocation.Invocation, subcommand.Subcommand.Subcommand, unparsed.Unparsed.Unparsed}
use Rattle.conf_words.specs.declared.{unparsed.Unparsed.TheVariants.{Shown, Wrong, OutOfMemory}, words.Asked.Asked}

-- help or the version is shown, or the words are said to be wrong, unless memory runs out
abbrev pub Tells : Bool → Unparsed → Type 0
Tells help OutOfMemory = Unit {0}
Tells true (Shown text) = Unit {0}
Tells true (Wrong lines) = ⊥
Tells false (Shown text) = ⊥
Tells false (Wrong lines) = Unit {0}

abbrev pub is_help : Refusal → Bool
is_help Help = true
is_help _ = false

-- there is no invocation
abbrev pub IsTold : {X : Type 0} → Bool → Result X Unparsed → Type 0
IsTold help (Ok asked) = ⊥
IsTold help (Err unparsed) = Tells help unparsed

-- there is one, unless the words are wrong or memory runs out
abbrev pub Comes : {X : Type 0} → Bool → (X → Type 0) → Result X Unparsed → Type 0
Comes wrong Is (Ok asked) = (wrong ≡ false) × Is asked
Comes wrong Is (Err OutOfMemory) = Unit {0}
Comes wrong Is (Err (Wrong lines)) = wrong ≡ true
Comes wrong Is (Err (Shown text)) = ⊥

-- what is given to a subcommand asks for this, and has locks waited for so long
abbrev pub Asks : Subcommand → Given → Option (List ℕ) → Asked → Type 0
Asks subcommand given wait asked =
    IsAsked subcommand given asked.invocation × IsWait subcommand given wait asked.wait

abbrev pub ParsesGiven : Subcommand → Option (List ℕ) → Result Given Refusal → Result Asked Unparsed → Type 0
ParsesGiven subcommand wait (Err refusal) result = IsTold (is_help refusal) result
ParsesGiven subcommand wait (Ok given) result =
    Comes (is_wrong subcommand given || is_wait_wrong subcommand given wait) (Asks subcommand given wait) result

abbrev pub ParsesBy : List (List ℕ) → Option (List ℕ) → Option Subcommand → Result Asked Unparsed → Type 0
ParsesBy words wait None result = IsTold (asks_for_help words) result
ParsesBy words wait (Some subcommand) result =
    ParsesGiven subcommand wait (read (rows_of subcommand) (drop 2 words)) result

-- What words come to, where a variable says to wait so: an invocation and its wait exactly if they are right.
abbrev pub Parses : List (List ℕ) → Option (List ℕ) → Result Asked Unparsed → Type 0
Parses words wait result = ParsesBy words wait (asked_in words) result

-- the same without a wait
abbrev pub IsWithout : Result Invocation Unparsed → Result Asked Unparsed → Type 0
IsWithout (Ok invocation) (Ok asked) = invocation ≡ asked.invocation
IsWithout (Err unparsed) (Err other) = unparsed ≡ other
IsWithout _ _ = ⊥

abbrev pub ParsesAlone : List (List ℕ) → Result Invocation Unparsed → Type 0
ParsesAlone words result = (asked : Result Asked Unparsed) × Parses words None asked × IsWithout result asked
