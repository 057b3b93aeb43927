-- A pointer that grows by characters, tokens and steps.
use Rattle.std.proofs.Common.{◌≡◌, ℕ, true, List, [], ◌∷◌, ◌++◌, Result, Ok, Err, refl, sym, ap, ◌∙◌, if◌then◌else◌, append_assoc}
use Rattle.tree_diff.proofs.Prelude.{append-nil, chars-append, chars-encodes, chars, IsUtf8, OnOk, is_ok, pointer_text, token_text}
use Rattle.tree_diff.proofs.Prelude.{char_text, slash}
use lib.Utf8.{encode, encodes, scalars}

-- what is appended to a text comes after its characters
pub grown : (old new more cs : List ℕ) → new ≡ old ++ more → IsUtf8 old → more ≡ encodes cs → scalars cs ≡ true
    → chars new ≡ chars old ++ cs
grown old new more cs is utf8 spelled are =
    ap chars is ∙ chars-append old more utf8 ∙ ap (λ x. chars old ++ x) (ap chars spelled ∙ chars-encodes cs are)

-- the same of a call that may fail
pub grown_on_ok : {T E : Type 0} (r : Result T E) (old new more cs : List ℕ) → new ≡ (if is_ok r then old ++ more else old) → IsUtf8 old
    → more ≡ encodes cs → scalars cs ≡ true → OnOk r (chars new ≡ chars old ++ cs)
grown_on_ok (Ok x) old new more cs is utf8 spelled are = grown old new more cs is utf8 spelled are
grown_on_ok (Err e) old new more cs is utf8 spelled are = tt

-- a slash, and then a token
pub stepped : (old middle new token : List ℕ) → middle ≡ old ++ encode slash → IsUtf8 old → chars new ≡ chars middle ++ token_text token
    → chars new ≡ chars old ++ slash ∷ token_text token
stepped old middle new token split utf8 is =
    is ∙ ap (λ cs. cs ++ token_text token) (grown old middle (encode slash) (slash ∷ []) split utf8 (sym (append-nil (encode slash))) refl)
    ∙ append_assoc (chars old) (slash ∷ []) (token_text token)

-- one more character of a token
pub token_text-push : (cs : List ℕ) (c : ℕ) → token_text (cs ++ c ∷ []) ≡ token_text cs ++ char_text c
token_text-push [] c = append-nil (char_text c)
token_text-push (d ∷ cs) c = ap (λ es. char_text d ++ es) (token_text-push cs c)
    ∙ sym (append_assoc (char_text d) (token_text cs) (char_text c))

-- one more token
pub pointer_text-push : (path : List (List ℕ)) (token : List ℕ)
    → pointer_text (path ++ token ∷ []) ≡ pointer_text path ++ slash ∷ token_text token
pointer_text-push [] token = ap (λ cs. slash ∷ cs) (append-nil (token_text token))
pointer_text-push (first ∷ path) token =
    ap (λ cs. slash ∷ (token_text first ++ cs)) (pointer_text-push path token)
    ∙ ap (λ cs. slash ∷ cs) (sym (append_assoc (token_text first) (pointer_text path) (slash ∷ token_text token)))
