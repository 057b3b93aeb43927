-- What words give the arguments of a table.
use Rattle.std.specs.Prelude.{ℕ, ◌==◌, ◌&&◌, ◌||◌, not, Bool, true, false, if◌then◌else◌, List, [], ◌∷◌, find, Option, Some, None, is_some}
use Rattle.std.specs.{Prelude.{Result, Ok, Err, codes}, List.list_any, Str.{bytes_eq, chars}}
use Rattle.command_line.specs.{Forms.{has_letter, is_option_of, is_place, may_be_negative, may_repeat, takes_text}, Looks.after_dashes}
use Rattle.command_line.specs.{Looks.{letters_of, name_in, text_in}, Matches.{Given, give, has}, Numbers.is_decimal, Rows.{Row, Kind, Tie}}
use Rattle.command_line.specs.{Rows.{Required, Free, Needs, Excludes, Replaces}, declared.refusal.Refusal.{Refusal, TheVariants.Help}}
use Rattle.command_line.specs.declared.refusal.Refusal.TheVariants.{UnknownOption, UnexpectedText, MissingText, UnexpectedWord}
use Rattle.command_line.specs.declared.refusal.Refusal.TheVariants.{MissingArgument, Conflict}

-- What was read so far: what is given, the option whose text the next word is, and whether `--` was read.
pub record Reading : Type 0 where
  pub given : Given
  pub waits : Option Row
  pub ended : Bool

abbrev pub start : Reading
start = record { given = []; waits = None; ended = false }

-- the same with another thing given, or the refusal of it
abbrev pub with_given : Reading → Result Given Refusal → Result Reading Refusal
with_given reading (Ok given) = Ok (record reading { given = given })
with_given reading (Err refusal) = Err refusal

-- the next place: the first that isn't given, or may be given again
abbrev pub next_place : List Row → Given → Option Row
next_place table given =
    find (λ a. is_place a.kind && (may_repeat a.kind || not (has given a.name))) table

abbrev pub place_text : List ℕ → Reading → Option Row → Result Reading Refusal
place_text word reading None = Err UnexpectedWord
place_text word reading (Some argument) = with_given reading (give argument word reading.given)

-- a text of the next place
abbrev pub read_place : List Row → List ℕ → Reading → Result Reading Refusal
read_place table word reading = place_text word reading (next_place table reading.given)

-- a text: of the option that waits for one, or else of the next place
abbrev pub text_for : List Row → List ℕ → Reading → Option Row → Result Reading Refusal
text_for table word reading None = read_place table word reading
text_for table word reading (Some argument) =
    with_given (record reading { waits = None }) (give argument word reading.given)

abbrev pub read_text : List Row → List ℕ → Reading → Result Reading Refusal
read_text table word reading = text_for table word reading reading.waits

-- an option, and perhaps the text that stands in its word
abbrev pub take_option : Row → Option (List ℕ) → Reading → Result Reading Refusal
take_option argument (Some text) reading =
    if takes_text argument.kind then with_given reading (give argument text reading.given) else Err UnexpectedText
take_option argument None reading =
    if takes_text argument.kind then Ok (record reading { waits = Some argument })
    else with_given reading (give argument [] reading.given)

abbrev pub option_or : Option (List ℕ) → Reading → Option Row → Result Reading Refusal
option_or text reading None = Err UnknownOption
option_or text reading (Some argument) = take_option argument text reading

abbrev pub read_named : List Row → List ℕ → Option (List ℕ) → Reading → Result Reading Refusal
read_named table name text reading =
    if bytes_eq name (codes "help") then (if is_some text then Err UnexpectedText else Err Help)
    else option_or text reading (find (λ a. is_option_of a name) table)

-- what stands behind `--`: nothing, which ends the options, or a name and perhaps `=` and a text
abbrev pub read_option : List Row → List ℕ → Reading → Result Reading Refusal
read_option table option reading =
    if is_some reading.waits then Err MissingText
    else (if bytes_eq option [] then Ok (record reading { ended = true })
    else read_named table (name_in option) (text_in option) reading)

-- the flag with this letter
abbrev pub flag_or : Reading → Option Row → Result Reading Refusal
flag_or reading None = Err UnknownOption
flag_or reading (Some argument) = with_given reading (give argument [] reading.given)

abbrev pub take_letter : List Row → ℕ → Reading → Result Reading Refusal
take_letter table letter reading =
    if letter == 104 then Err Help else flag_or reading (find (λ a. has_letter a.kind letter) table)

abbrev pub take_letters : List Row → List ℕ → Result Reading Refusal → Result Reading Refusal
take_letters table [] reading = reading
take_letters table (letter ∷ letters) (Ok reading) = take_letters table letters (take_letter table letter reading)
take_letters table (letter ∷ letters) (Err refusal) = Err refusal

abbrev pub read_letters : List Row → List ℕ → Reading → Result Reading Refusal
read_letters table letters reading =
    if is_some reading.waits then Err MissingText else take_letters table letters (Ok reading)

-- whether there is an argument whose text may be a negative number
abbrev pub may_be : Option Row → Bool
may_be None = false
may_be (Some argument) = may_be_negative argument.kind

-- whether what stands behind a `-` is a number, and the option that waits or the next place may have a negative one
abbrev pub is_negative_here : List Row → List ℕ → Reading → Bool
is_negative_here table letters reading =
    is_decimal letters && (may_be reading.waits || may_be (next_place table reading.given))

abbrev pub dash_or : List Row → List ℕ → Reading → Option (List ℕ) → Result Reading Refusal
dash_or table word reading None = read_text table word reading
dash_or table word reading (Some letters) =
    if is_negative_here table letters reading then read_text table word reading
    else read_letters table (chars letters) reading

abbrev pub dashes_or : List Row → List ℕ → Reading → Option (List ℕ) → Result Reading Refusal
dashes_or table word reading None = dash_or table word reading (letters_of word)
dashes_or table word reading (Some option) = read_option table option reading

-- one more word
abbrev pub read_word : List Row → List ℕ → Reading → Result Reading Refusal
read_word table word reading =
    if reading.ended then read_place table word reading else dashes_or table word reading (after_dashes word)

-- more words, if those before gave no refusal
abbrev pub read_words : List Row → List (List ℕ) → Result Reading Refusal → Result Reading Refusal
read_words table [] reading = reading
read_words table (word ∷ words) (Ok reading) = read_words table words (read_word table word reading)
read_words table (word ∷ words) (Err refusal) = Err refusal

-- whether one of these is given
abbrev pub has_any : Given → List (List ℕ) → Bool
has_any given names = list_any (has given) names

abbrev pub related : Given → Bool → Tie → Option Refusal
related given is_given Free = None
related given is_given (Needs other) = if is_given && not (has given other) then Some MissingArgument else None
related given is_given (Excludes others) =
    if is_given && has_any given others then Some Conflict else None
related given true (Replaces other) = if has given other then Some Conflict else None
related given false (Replaces other) = if has given other then None else Some MissingArgument

abbrev pub is_required : Kind → Bool
is_required Required = true
is_required _ = false

-- what is wrong of an argument, once all words are read
abbrev pub wrong_of : Given → Row → Option Refusal
wrong_of given argument =
    if is_required argument.kind && not (has given argument.name) then Some MissingArgument
    else related given (has given argument.name) argument.tie

abbrev pub unless_wrong : Option Refusal → Result Given Refusal → Result Given Refusal
unless_wrong None given = given
unless_wrong (Some refusal) given = Err refusal

abbrev pub checked : Given → List Row → Result Given Refusal
checked given [] = Ok given
checked given (argument ∷ arguments) = unless_wrong (wrong_of given argument) (checked given arguments)

abbrev pub finish : List Row → Reading → Result Given Refusal
finish table reading = if is_some reading.waits then Err MissingText else checked reading.given table

abbrev pub finished : List Row → Result Reading Refusal → Result Given Refusal
finished table (Ok reading) = finish table reading
finished table (Err refusal) = Err refusal

-- what words give the arguments of a table, or the first refusal
abbrev pub read : List Row → List (List ℕ) → Result Given Refusal
read table words = finished table (read_words table words (Ok start))
