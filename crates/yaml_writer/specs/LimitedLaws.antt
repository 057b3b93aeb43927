-- A text of limited length that takes one text after another takes both in a row.
use Rattle.std.{specs.Prelude.{◌≢◌, ℕ, List, [], ◌++◌, Option, None, string_bytes}, proofs.Common.{ap, ◌∙◌}}
use Rattle.yaml_writer.specs.{Prelude.byte_len, Budget.left_after, Limited.TakesLimited, declared.limited.LimitedText.LimitedText}
use Rattle.yaml_writer.specs.{BudgetLaws.{left_after-none, left_after-more}, Encoded.{encoded_none, encoded_both}}

-- nothing changes nothing
pub TakesLimited-none : (s : LimitedText) → TakesLimited s [] s
TakesLimited-none s = (left_after-none s.budget.left, λ room. encoded_none (string_bytes s.text))

-- what was spent stays spent
had_room : (left : Option ℕ) (n : ℕ) → left_after left n ≢ None → left ≢ None
had_room left n room none = room (ap (λ o. left_after o n) none)

-- two texts, one after the other
pub TakesLimited-both : (a b c : LimitedText) (xs ys : List ℕ) → TakesLimited a xs b → TakesLimited b ys c
    → TakesLimited a (xs ++ ys) c
TakesLimited-both a b c xs ys first second = (
  left_after-more a.budget.left b.budget.left c.budget.left xs ys first.0 second.0,
  λ room. encoded_both (string_bytes a.text) (string_bytes b.text) (string_bytes c.text) xs ys
      (first.1 (had_room b.budget.left (byte_len ys) (λ none. room (second.0 ∙ none)))) (second.1 room),
)
