-- What words give arguments: the name of each and its text, in order. A flag has the empty text.
use Rattle.std.specs.Prelude.{◌≡◌, ◌⊎◌, ℕ, ◌&&◌, not, Bool, if◌then◌else◌, List, [], ◌∷◌, ◌++◌, map, filter, find, Option, option_map}
use Rattle.std.specs.{Prelude.{option_and_then, Result, Ok, Err}, List.list_any, Str.bytes_eq}
use Rattle.command_line.specs.{Forms.{fits, may_repeat}, Numbers.number_of, Rows.Row, declared.refusal.Refusal.Refusal}
use Rattle.command_line.specs.declared.refusal.Refusal.TheVariants.{GivenTwice, NotANumber, OutOfMemory}

abbrev pub Given : Type 0
Given = List (List ℕ × List ℕ)

-- whether an argument of this name is given
abbrev pub has : Given → List ℕ → Bool
has given name = list_any (λ g. bytes_eq g.0 name) given

-- its text, or the first of them
abbrev pub text_of : Given → List ℕ → Option (List ℕ)
text_of given name = option_map (λ g. g.1) (find (λ g. bytes_eq g.0 name) given)

-- its texts
abbrev pub texts_of : Given → List ℕ → List (List ℕ)
texts_of given name = map (λ g. g.1) (filter (λ g. bytes_eq g.0 name) given)

-- the number that its text is
abbrev pub number_in : Given → List ℕ → Option ℕ
number_in given name = option_and_then number_of (text_of given name)

-- one text more, unless the argument has one and may not have two, or it has to be a number and isn't
abbrev pub give : Row → List ℕ → Given → Result Given Refusal
give row text given =
    if not (may_repeat row.kind) && has given row.name then Err GivenTwice
    else (if fits row.kind text then Ok (given ++ (row.name, text) ∷ []) else Err NotANumber)

-- what a call did: it left what the words say, or gave the refusal that they say, or memory ran out
abbrev pub Did : {V X : Type 0} → Result V Refusal → X → Result X Refusal → Type 0
Did (Ok done) left said = said ≡ Ok left
Did (Err refusal) left said = (refusal ≡ OutOfMemory) ⊎ (said ≡ Err refusal)
