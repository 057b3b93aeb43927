-- Paths in lists of the code.
use Rattle.std.proofs.Common.{◌≡◌, ℕ, suc, false, nat_eq, List, [], ◌∷◌, ◌++◌, length, refl, ap, ◌∙◌, append_assoc, arith}
use Rattle.std.{proofs.lemmas.Bool.Decides.nat_tests, specs.{Prelude.{Some, None}, declared.{alloc.Global.Global, borrow.CowStr.CowStr}}}
use Rattle.tree_hidden.{proofs.Prelude.{Bor, Text, chars, cow_str_bytes, text_bytes, texts}, specs.Hidden.{below, is_whole, path_below}}
use Rattle.tree_hidden.specs.Tokens.{paths_of, tokens_of}

-- a path leads to the whole if it has no token
pub whole-empty : (path : List Text) → nat_eq (length path) 0 ≡ is_whole (tokens_of path)
whole-empty [] = refl
whole-empty (token ∷ tokens) = not_zero (length tokens)
  where
    not_zero : (n : ℕ) → nat_eq (suc n) 0 ≡ false
    not_zero n = grind (arith, nat_tests)

tokens-push : (tokens : List Text) (token : Text)
    → tokens_of (tokens ++ token ∷ []) ≡ tokens_of tokens ++ chars (text_bytes token) ∷ []
tokens-push [] token = refl
tokens-push (t ∷ tokens) token = ap (λ ts. chars (text_bytes t) ∷ ts) (tokens-push tokens token)

pub paths-push : (paths : List (Bor (List Text))) (path : Bor (List Text))
    → paths_of (paths ++ path ∷ []) ≡ paths_of paths ++ tokens_of path.now ∷ []
paths-push [] path = refl
paths-push (p ∷ paths) path = ap (λ ps. tokens_of p.now ∷ ps) (paths-push paths path)

-- one token more is copied
pub copied-one : (copies : List Text) (copy : Text) (token : CowStr Global) (others : List (CowStr Global))
    → text_bytes copy ≡ cow_str_bytes token
    → tokens_of (copies ++ copy ∷ []) ++ texts others ≡ tokens_of copies ++ texts (token ∷ others)
copied-one copies copy token others same =
    ap (λ ts. ts ++ texts others) (tokens-push copies copy)
    ∙ append_assoc (tokens_of copies) (chars (text_bytes copy) ∷ []) (texts others)
    ∙ ap (λ bytes. tokens_of copies ++ (chars bytes ∷ texts others)) same

-- a path that a token leads on is kept
pub below-kept : (token : List ℕ) (left : List (Bor (List Text))) (path rest : Bor (List Text)) (others : List (Bor (List Text)))
    → path_below token (tokens_of path.now) ≡ Some (tokens_of rest.now)
    → paths_of (left ++ rest ∷ []) ++ below token (paths_of others) ≡ paths_of left ++ below token (paths_of (path ∷ others))
below-kept token left path rest others kept =
    rw kept
    (ap (λ ps. ps ++ below token (paths_of others)) (paths-push left rest)
    ∙ append_assoc (paths_of left) (tokens_of rest.now ∷ []) (below token (paths_of others)))

-- another one is not
pub below-left : (token : List ℕ) (path : Bor (List Text)) (others : List (Bor (List Text)))
    → path_below token (tokens_of path.now) ≡ None
    → below token (paths_of others) ≡ below token (paths_of (path ∷ others))
below-left token path others missed = rw missed refl
