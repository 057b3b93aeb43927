-- A recognizer that is used again and again.
use Rattle.std.specs.Prelude.{ℕ, zero, suc, List, [], ◌∷◌, length, Some, None}
use Rattle.yaml_recognizers.specs.Reading.{Read}

-- a first value, and then as many as `again` finds; or none
abbrev pub and_more : {A : Type 0} → List ℕ → (List ℕ → List A × List ℕ) → Read A → List A × List ℕ
and_more text again None = ([], text)
and_more text again (Some r) = let more = again r.1 in (r.0 ∷ more.0, more.1)

-- all values one after another from the start of the text, at most this number
unfoldable pub repeated : {A : Type 0} → (List ℕ → Read A) → ℕ → List ℕ → List A × List ℕ
repeated read zero text = ([], text)
repeated read (suc fuel) text = and_more text (λ rest. repeated read fuel rest) (read text)

-- as many as there are, if each takes something of the text
abbrev pub all_of : {A : Type 0} → (List ℕ → Read A) → List ℕ → List A × List ℕ
all_of read text = repeated read (length text) text
