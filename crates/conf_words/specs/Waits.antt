-- How long words have locks waited for.
use Rattle.std.specs.Prelude.{◌≡◌, ℕ, ◌+◌, ◌-◌, ◌*◌, ◌^◌, ◌&&◌, nat_le, not, Bool, true, false, if◌then◌else◌, List, length, Option, Some}
use Rattle.std.specs.{Prelude.{None, is_some, option_map, Result, Ok, Err, codes}, Duration.as_nanos, List.list_all, Option.option_or}
use Rattle.std.specs.{Str.Parse.without_leading_plus, declared.time.Duration.Duration}
use Rattle.command_line.specs.{Looks.{before_byte, behind_byte}, Matches.{Given, text_of}, Numbers.{is_digit, number_below}}
use Rattle.conf_words.specs.declared.{refusal.Unasked.{Unasked, TheVariants.{Because, OutOfMemory}}, subcommand.Subcommand.Subcommand}
use Rattle.conf_words.specs.declared.subcommand.Subcommand.TheVariants.{Init, Import, Set, Delete, Copy, Rename, Move, Batch, Checkpoint}
use Rattle.conf_words.specs.declared.subcommand.Subcommand.TheVariants.{Run, Export}

-- the subcommands that take locks, and so `--wait`
abbrev pub takes_wait : Subcommand → Bool
takes_wait Init = true
takes_wait Import = true
takes_wait Set = true
takes_wait Delete = true
takes_wait Copy = true
takes_wait Rename = true
takes_wait Move = true
takes_wait Batch = true
takes_wait Checkpoint = true
takes_wait Run = true
takes_wait Export = true
takes_wait _ = false

-- the number that 1 to 9 digits are
abbrev pub are_digits : List ℕ → Bool
are_digits text = list_all is_digit text

abbrev pub number_in : List ℕ → Option ℕ
number_in text =
    if nat_le (length text) 9 && are_digits text then number_below (2 ^ 32) (without_leading_plus text) else None

-- how many nanoseconds the last of so many digits behind the point stands for
abbrev pub unit_of : ℕ → ℕ
unit_of digits = 10 ^ (9 - digits)

-- the nanoseconds of 1 to 9 digits behind the point, and of as many before it
abbrev pub fraction_in : List ℕ → Option ℕ
fraction_in digits = option_map (λ n. n * unit_of (length digits)) (number_in digits)

abbrev pub seconds_in : List ℕ → Option ℕ
seconds_in digits = option_map (λ n. n * 1000000000) (number_in digits)

abbrev pub sum_of : Option ℕ → Option ℕ → Option ℕ
sum_of (Some seconds) (Some fraction) = Some (seconds + fraction)
sum_of _ _ = None

abbrev pub nanos_by : List ℕ → Option (List ℕ) → Option ℕ
nanos_by whole None = seconds_in whole
nanos_by whole (Some digits) = sum_of (seconds_in whole) (fraction_in digits)

-- the nanoseconds of a text of seconds: 1 to 9 digits, and perhaps a point and 1 to 9 more
abbrev pub nanos_in : List ℕ → Option ℕ
nanos_in text = nanos_by (before_byte 46 text) (behind_byte 46 text)

-- the text that counts: that of `--wait`, or else the variable
abbrev pub wait_text : Given → Option (List ℕ) → Option (List ℕ)
wait_text given variable = option_or (text_of given (codes "wait")) variable

-- the nanoseconds that are waited for, if the text that counts has some
abbrev pub nanos_or_none : Option (List ℕ) → Option ℕ
nanos_or_none None = Some 0
nanos_or_none (Some text) = nanos_in text

abbrev pub wait_in : Subcommand → Given → Option (List ℕ) → Option ℕ
wait_in subcommand given variable =
    if takes_wait subcommand then nanos_or_none (wait_text given variable) else Some 0

abbrev pub is_wait_wrong : Subcommand → Given → Option (List ℕ) → Bool
is_wait_wrong subcommand given variable = not (is_some (wait_in subcommand given variable))

abbrev pub IsWait : Subcommand → Given → Option (List ℕ) → Duration → Type 0
IsWait subcommand given variable wait = wait_in subcommand given variable ≡ Some (as_nanos wait)

abbrev pub Waits : Subcommand → Given → Option (List ℕ) → Result Duration Unasked → Type 0
Waits subcommand given variable (Ok wait) = IsWait subcommand given variable wait
Waits subcommand given variable (Err OutOfMemory) = ⊥
Waits subcommand given variable (Err (Because why)) = wait_in subcommand given variable ≡ None
