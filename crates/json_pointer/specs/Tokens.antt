-- The tokens of the code, as texts.
use Rattle.std.specs.{Prelude.{◌==◌, ℕ, List, Option, Some, None, if◌then◌else◌, map}, Cow.cow_str_bytes, declared.borrow.CowStr.CowStr}
use Rattle.std.specs.declared.alloc.Global.{Global}
use Rattle.json_pointer.specs.{Prelude.{chars, digit_zero, digit_one, tilde}, Pointers.slash}

-- each token as its characters
abbrev pub texts : List (CowStr Global) → List (List ℕ)
texts tokens = map (λ token. chars (cow_str_bytes token)) tokens

-- the character that `~` and this one spell
abbrev pub escaped_by : Option ℕ → Option ℕ
escaped_by None = None
escaped_by (Some d) = if d == digit_zero then Some tilde else (if d == digit_one then Some slash else None)
