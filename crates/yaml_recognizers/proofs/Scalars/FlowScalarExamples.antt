-- Worked examples of the recognizer of flow scalars: texts, with the value that is read of each and the text that is
-- left. Each fact is closed, and the checker computes both its sides. The expected values come from YAML 1.2.2 and from
-- two other readers of these texts, never from the recognizer. So an edit of it that changes one of them is refused
-- here.
use Rattle.std.{proofs.Common.{◌≡◌, refl}, specs.Prelude.{ℕ, true, List, [], ◌∷◌, Option, Some, None, codes}}
use Rattle.yaml_recognizers.{proofs.Prelude.{FlowContext, outer, inner, block_key, flow_key, Scalar, scalar_value}, specs.Reading.Read}
use Rattle.yaml_recognizers.specs.{Repeated.repeated, Joins.{read_empty, after_blank, read_join}, PlainScalars.{read_run, read_plain_line}}
use Rattle.yaml_recognizers.specs.{PlainScalars.read_plain, FlowScalars.read_scalar, QuotedScalars.{read_held, read_quoted_line}}
use Rattle.yaml_recognizers.specs.QuotedScalars.{read_quoted, read_single_one, single_closes, read_single, read_item, double_closes}
use Rattle.yaml_recognizers.specs.QuotedScalars.{read_double}

-- the value that is read, and the rest
abbrev value_of : Read Scalar → Option (List ℕ × List ℕ)
value_of None = None
value_of (Some r) = Some (scalar_value r.0, r.1)

-- from one text, at n in the context c, a value is read, and a text is left
record Example : Type 0 where
  n : ℕ
  c : FlowContext
  text : List ℕ
  value : List ℕ
  left : List ℕ

-- what is read there is this
abbrev Holds : Example → Type 0
Holds e = value_of (read_scalar e.n e.c true e.text) ≡ Some (e.value, e.left)

-- a text at n in a context, with the value and the rest that are read
abbrev at : ℕ → FlowContext → List ℕ → List ℕ → List ℕ → Example
at n c text value left = record { n = n; c = c; text = text; value = value; left = left }

-- nothing is read
abbrev Refused : ℕ → FlowContext → List ℕ → Type 0
Refused n c text = value_of (read_scalar n c true text) ≡ None

-- ---- single-quoted

-- single-quoted scalars
single_examples :
    Holds (at 0 outer (codes "'it''s'") (codes "it's") [])
    × Holds (at 0 outer (codes "''") [] [])
    × Holds (at 0 outer (codes "'a''': b") (codes "a'") (codes ": b"))
    × Holds (at 0 outer (codes "'a \n b'") (codes "a b") [])
    × Holds (at 0 outer (codes "' a\n\n \n b '") (codes " a\n\nb ") [])
    × Holds (at 0 outer (codes "'a\\'\n") (codes "a\\") (codes "\n"))
    × Refused 0 outer (codes "'it''abc")
    × Refused 0 outer (codes "'a\n...\n'")
    × Refused 2 outer (codes "'a\n b'")
    × Refused 0 block_key (codes "'a\nb'")
unfolding repeated read_empty after_blank read_join read_held read_quoted_line read_quoted read_single_one
    single_closes read_single read_scalar
single_examples = (refl, refl, refl, refl, refl, refl, refl, refl, refl, refl)

-- ---- double-quoted

-- double-quoted scalars
double_examples :
    Holds (at 0 outer (codes "\"example\"\n") (codes "example") (codes "\n"))
    × Holds (at 0 outer (codes "\"\n\n\"") (codes "\n") [])
    × Holds (at 0 outer (codes "\" \n\"") (codes " ") [])
    × Holds (at 0 outer (codes "\"a \n b\"") (codes "a b") [])
    × Holds (at 0 outer (codes "\"a \\\n   b\"") (codes "a b") [])
    × Holds (at 0 outer (codes "\"\\ \n\"") (codes "  ") [])
    × Holds (at 0 outer (codes "\"\\0\\L\\x41\\u00e9\\U0001F600\"") (0 ∷ 0x2028 ∷ 0x41 ∷ 0xe9 ∷ 0x1f600 ∷ []) [])
    × Holds (at 0 outer (34 ∷ 97 ∷ 13 ∷ 10 ∷ 13 ∷ 10 ∷ 98 ∷ 34 ∷ []) (codes "a\nb") [])
    × Holds (at 0 outer (34 ∷ 92 ∷ 13 ∷ 10 ∷ 32 ∷ 32 ∷ 97 ∷ 34 ∷ []) (codes "a") [])
    × Refused 0 outer (codes "\"a\n\\\nb\"")
    × Refused 0 outer (codes "\"a\\\n\\\nb\"")
    × Refused 0 outer (codes "\"\\uD800\"")
    × Refused 0 outer (codes "\"\\U00110000\"")
    × Refused 0 outer (codes "\"a\n--- b\"")
    × Refused 0 flow_key (codes "\"a\nb\"")
unfolding repeated read_empty after_blank read_join read_held read_quoted_line read_quoted read_item double_closes read_double read_scalar
double_examples = (refl, refl, refl, refl, refl, refl, refl, refl, refl, refl, refl, refl, refl, refl, refl)

-- ---- plain

-- plain scalars
plain_examples :
    Holds (at 0 outer (codes "a #") (codes "a") (codes " #"))
    × Holds (at 0 outer (codes "a#b") (codes "a#b") [])
    × Holds (at 0 outer (codes "a:") (codes "a") (codes ":"))
    × Holds (at 0 block_key (codes "a::") (codes "a:") (codes ":"))
    × Holds (at 0 outer (codes "a:b, c\n") (codes "a:b, c") (codes "\n"))
    × Holds (at 0 inner (codes "a:b, c]") (codes "a:b") (codes ", c]"))
    × Holds (at 0 inner (codes "::]") (codes ":") (codes ":]"))
    × Holds (at 0 inner (codes "?a]") (codes "?a") (codes "]"))
    × Holds (at 1 outer (codes "a\n  b\n\n  c\n") (codes "a b\nc") (codes "\n"))
    × Holds (at 1 outer (codes "a\n- b") (codes "a") (codes "\n- b"))
    × Holds (at 0 outer (codes "a\n- b") (codes "a - b") [])
    × Holds (at 0 outer (codes "a\n---\nb") (codes "a") (codes "\n---\nb"))
    × Holds (at 0 outer (codes "a\n...x\n") (codes "a ...x") (codes "\n"))
    × Holds (at 0 outer (codes "a\n\n# c\nb") (codes "a") (codes "\n\n# c\nb"))
    × Holds (at 0 block_key (codes "a\nb") (codes "a") (codes "\nb"))
    × Holds (at 0 outer (97 ∷ 13 ∷ 98 ∷ 13 ∷ []) (codes "a b") (13 ∷ []))
    × Holds (at 0 outer (codes "---a\n") (codes "---a") (codes "\n"))
    × Refused 0 outer (codes "---")
    × Refused 0 outer (codes "... a")
    × Refused 0 outer (codes "-")
    × Refused 0 outer (codes "? a")
    × Refused 0 outer (codes "*a")
    × Refused 0 inner (codes ":]")
unfolding repeated read_empty after_blank read_join read_run read_plain_line read_plain read_scalar
plain_examples = (
  refl,
  refl,
  refl,
  refl,
  refl,
  refl,
  refl,
  refl,
  refl,
  refl,
  refl,
  refl,
  refl,
  refl,
  refl,
  refl,
  refl,
  refl,
  refl,
  refl,
  refl,
  refl,
  refl,
)
