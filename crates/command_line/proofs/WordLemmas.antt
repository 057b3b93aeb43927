-- Words and letters, one after the other.
use Rattle.std.proofs.Common.{◌≡◌, ◌⊎◌, inl, inr, ℕ, ◌+◌, ◌<◌, ◌≤◌, List, [], ◌∷◌, length, drop, get_or, map, refl, sym, ap, ◌∙◌, Bool}
use Rattle.std.{proofs.{Common.{false, string_bytes, Global}, lemmas.List.{at_drop_more, at_drop_all}}, specs.Prelude.{Option, Some, None}}
use Rattle.std.specs.{Prelude.{Result, Ok, Err, is_some, option_map}, Borrow.Bor, declared.string.String.String as StringOf}
use Rattle.command_line.specs.{Matches.Given, Numbers.{goes_on, part_after}, Rows.{Row, row_of}, Words.{Reading, checked, read_word}}
use Rattle.command_line.specs.{Words.{read_words, take_letter, take_letters, unless_wrong, wrong_of}, declared.argument.Argument.Argument}
use Rattle.command_line.specs.declared.{argument.{Form.TheVariants.Required, Relation.TheVariants.Free}, numbers.Part.Part}
use Rattle.command_line.specs.declared.refusal.Refusal.{Refusal, TheVariants.OutOfMemory}

abbrev pub String : Type 0
String = StringOf Global

-- after a refusal nothing is read
refused_words : (table : List Row) (words : List (List ℕ)) (refusal : Refusal)
    → read_words table words (Err refusal) ≡ Err refusal
refused_words table [] refusal = refl
refused_words table (word ∷ words) refusal = refl

refused_letters : (table : List Row) (letters : List ℕ) (refusal : Refusal)
    → take_letters table letters (Err refusal) ≡ Err refusal
refused_letters table [] refusal = refl
refused_letters table (letter ∷ letters) refusal = refl

-- a word that is refused, and what all words give
pub word_refused : (table : List Row) (words : List String) (i : ℕ) (word : String) (reading : Reading)
    (refusal : Refusal) (all : Result Reading Refusal) → i < length words → word ≡ get_or words i word
    → (refusal ≡ OutOfMemory) ⊎ (read_word table (string_bytes word) reading ≡ Err refusal)
    → read_words table (map string_bytes (drop i words)) (Ok reading) ≡ all → (refusal ≡ OutOfMemory) ⊎ (all ≡ Err refusal)
word_refused table words i word reading refusal all inside same (inl out) goes = inl out
word_refused table words i word reading refusal all inside same (inr is) goes =
    inr (sym goes ∙ at_drop_more (λ ws. read_words table (map string_bytes ws) (Ok reading)) words i word inside
    ∙ ap (λ w. read_words table (map string_bytes (drop (i + 1) words)) (read_word table (string_bytes w) reading)) (sym same)
    ∙ ap (λ r. read_words table (map string_bytes (drop (i + 1) words)) r) is
    ∙ refused_words table (map string_bytes (drop (i + 1) words)) refusal)

pub letter_refused : (table : List Row) (letters : List ℕ) (i letter : ℕ) (reading : Reading) (refusal : Refusal)
    (all : Result Reading Refusal) → (i < length letters) × (letter ≡ get_or letters i letter)
    → (refusal ≡ OutOfMemory) ⊎ (take_letter table letter reading ≡ Err refusal)
    → take_letters table (drop i letters) (Ok reading) ≡ all → (refusal ≡ OutOfMemory) ⊎ (all ≡ Err refusal)
letter_refused table letters i letter reading refusal all turn (inl out) goes = inl out
letter_refused table letters i letter reading refusal all turn (inr is) goes =
    inr (sym goes ∙ at_drop_more (λ ls. take_letters table ls (Ok reading)) letters i letter turn.0
    ∙ ap (λ l. take_letters table (drop (i + 1) letters) (take_letter table l reading)) (sym turn.1)
    ∙ ap (λ r. take_letters table (drop (i + 1) letters) r) is ∙ refused_letters table (drop (i + 1) letters) refusal)

-- a letter that is taken
pub letter_taken : (table : List Row) (letters : List ℕ) (i j letter : ℕ) (reading next : Reading)
    (all : Result Reading Refusal) → (i < length letters) × (letter ≡ get_or letters i letter) → j ≡ i + 1
    → take_letter table letter reading ≡ Ok next
    → take_letters table (drop i letters) (Ok reading) ≡ all → take_letters table (drop j letters) (Ok next) ≡ all
letter_taken table letters i j letter reading next all turn more is goes =
    rw (more) (sym (at_drop_more (λ ls. take_letters table ls (Ok reading)) letters i letter turn.0
    ∙ ap (λ l. take_letters table (drop (i + 1) letters) (take_letter table l reading)) (sym turn.1)
    ∙ ap (λ r. take_letters table (drop (i + 1) letters) r) is) ∙ goes)

pub letters_done : (table : List Row) (letters : List ℕ) (i : ℕ) (reading : Reading) (all : Result Reading Refusal)
    → length letters ≤ i → take_letters table (drop i letters) (Ok reading) ≡ all → all ≡ Ok reading
letters_done table letters i reading all end goes =
    sym goes ∙ at_drop_all (λ ls. take_letters table ls (Ok reading)) letters i end

-- something is wrong of an argument
pub wrong_at : (given : Given) (table : List Argument) (i : ℕ) (d : Argument) (refusal : Refusal) → i < length table
    → wrong_of given (row_of (get_or table i d)) ≡ Some refusal
    → checked given (map row_of (drop i table)) ≡ checked given (map row_of table)
    → checked given (map row_of table) ≡ Err refusal
wrong_at given table i d refusal inside is goes =
    sym goes ∙ at_drop_more (λ rest. checked given (map row_of rest)) table i d inside
    ∙ ap (λ o. unless_wrong o (checked given (map row_of (drop (i + 1) table)))) is

-- a byte that a decimal number doesn't go on with
stopped : (bytes : List ℕ) → goes_on bytes None ≡ false
stopped [] = refl
stopped (byte ∷ bytes) = refl

pub stops_at : (bytes : List ℕ) (i : ℕ) (part : Part) (all : Bool) → i < length bytes
    → part_after part (get_or bytes i 0) ≡ None → goes_on (drop i bytes) (Some part) ≡ all → false ≡ all
stops_at bytes i part all inside is goes =
    sym (stopped (drop (i + 1) bytes)) ∙ ap (λ o. goes_on (drop (i + 1) bytes) o) (sym is)
    ∙ sym (at_drop_more (λ bs. goes_on bs (Some part)) bytes i 0 inside) ∙ goes

-- whether an option waits
pub waits_on : (option : Option (Bor Argument)) → is_some (option_map (λ a. row_of a.now) option) ≡ is_some option
waits_on None = refl
waits_on (Some argument) = refl

-- an argument like any other
abbrev pub any_argument : Argument
any_argument = record {
  name = record { ref_ptr = (0, 0); now = [] };
  help = record { ref_ptr = (0, 0); now = [] };
  form = Required;
  relation = Free;
}
