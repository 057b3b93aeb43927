-- What is read between quotes, from what is read after its first thing: for the steps of a scanner.
use Rattle.std.specs.Prelude.{ℕ, Bool, not, ◌||◌, List, [], ◌∷◌, ◌++◌, length, Some, None, if◌then◌else◌}
use Rattle.yaml_recognizers.specs.Prelude.{is_empty, FlowContext, Line, line_feeds, folded_break, flow_fold}
use Rattle.yaml_recognizers.specs.{Reading.Read, Reading.on, Joins.Join, Joins.line_of, QuotedScalars.read_quoted}

-- after a join: the next join comes only after something
unfoldable pub read_after_join : {A : Type 0} → (List ℕ → Read A) → (List ℕ → Bool) → Bool → ℕ → FlowContext → List ℕ
    → Read (List A × List (Line A))
read_after_join read_one closes escapes n c text =
    on (read_quoted read_one closes escapes n c text)
    (λ found rest. if is_empty found.1 || not (is_empty found.0) then Some (found, rest) else None)

-- one thing more at the start of the first line
abbrev pub with_thing : {A : Type 0} → A → Read (List A × List (Line A)) → Read (List A × List (Line A))
with_thing a r = on r (λ found rest. Some ((a ∷ found.0, found.1), rest))

-- several things more at the start of the first line
abbrev pub with_things : {A : Type 0} → List A → Read (List A × List (Line A)) → Read (List A × List (Line A))
with_things xs r = on r (λ found rest. Some ((xs ++ found.0, found.1), rest))

-- one line more: the first line comes after a join
abbrev pub with_join : {A : Type 0} → Join → Read (List A × List (Line A)) → Read (List A × List (Line A))
with_join j r = on r (λ found rest. Some (([], line_of j found.0 ∷ found.1), rest))

-- the value of what was read, and what is left
abbrev pub quoted_value : {A : Type 0} → (A → ℕ) → Read (List A × List (Line A)) → Read (List ℕ)
quoted_value value r = on r (λ found rest. Some (flow_fold value found.0 found.1, rest))

-- a value with more characters before it
abbrev pub with_prefix : List ℕ → Read (List ℕ) → Read (List ℕ)
with_prefix prefix r = on r (λ value rest. Some (prefix ++ value, rest))

-- what a join means
abbrev pub join_value : Join → List ℕ
join_value j = if j.escaped then line_feeds (length j.empties) else folded_break (length j.empties)
