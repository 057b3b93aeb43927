-- Runs of characters at the start of a text.
use Rattle.std.{proofs.Common.{ap, inl, inr, refl, ◌∙◌, ◌≡◌}, specs.Prelude.{Bool, List, [], false, suc, true, zero, ℕ, ◌++◌, ◌==◌, ◌∷◌}}
use Rattle.yaml_recognizers.proofs.Prelude.{and_from, and_parts, cases_Bool, cond_both, eqb-true, false≢true, space, white, past_spaces}
use Rattle.yaml_recognizers.{proofs.Prelude.{spaces_before, list_all, first, spaces}, specs.Prefixes.{drop_while, past, take_while}}

-- characters that pass, before one that doesn't, are taken whole
pub take_while_all : (p : ℕ → Bool) (xs rest : List ℕ) → list_all p xs ≡ true → first p rest ≡ false → take_while p (xs ++ rest) ≡ xs
take_while_all p [] [] h f = refl
take_while_all p [] (c ∷ cs) h f = rw f
take_while_all p (x ∷ xs) rest h f = let q : (p x ≡ true) × (list_all p xs ≡ true) = and_parts _ _ h in
    rw q.0 (ap (λ ys. x ∷ ys) (take_while_all p xs rest q.1 f))

-- and what comes after them is left
pub drop_while_all : (p : ℕ → Bool) (xs rest : List ℕ) → list_all p xs ≡ true → first p rest ≡ false → drop_while p (xs ++ rest) ≡ rest
drop_while_all p [] [] h f = refl
drop_while_all p [] (c ∷ cs) h f = rw f
drop_while_all p (x ∷ xs) rest h f = let q : (p x ≡ true) × (list_all p xs ≡ true) = and_parts _ _ h in
    rw q.0 (drop_while_all p xs rest q.1 f)

-- a text is its longest such prefix and what is left
pub take_while_split : (p : ℕ → Bool) (text : List ℕ) → text ≡ take_while p text ++ drop_while p text
take_while_split p [] = refl
take_while_split p (c ∷ cs) =
    elim (cases_Bool (p c)) [ inl e ↦ rw e (ap (λ xs. c ∷ xs) (take_while_split p cs)) | inr e ↦ rw e ]

-- all characters that are taken pass
pub take_while_every : (p : ℕ → Bool) (text : List ℕ) → list_all p (take_while p text) ≡ true
take_while_every p [] = refl
take_while_every p (c ∷ cs) =
    cond_both (p c) (c ∷ take_while p cs) [] (λ (t : List ℕ). list_all p t ≡ true) (λ e. and_from _ _ e (take_while_every p cs)) (λ _. refl)

-- a text that starts with a character is that character and the rest
pub head_is : (k : ℕ) (text : List ℕ) → first (λ x. x == k) text ≡ true → text ≡ k ∷ past text
head_is k [] h = absurd (false≢true h)
head_is k (c ∷ cs) h = ap (λ x. x ∷ cs) (eqb-true c k h)

-- ---- spaces

-- the spaces before something else are counted
pub spaces_counted : (k : ℕ) (rest : List ℕ) → first space rest ≡ false → spaces_before (spaces k ++ rest) ≡ k
spaces_counted zero [] h = refl
spaces_counted zero (c ∷ cs) h = rw h
spaces_counted (suc k) rest h = ap suc (spaces_counted k rest h)

-- and passed
pub spaces_passed : (k : ℕ) (rest : List ℕ) → first space rest ≡ false → past_spaces (spaces k ++ rest) ≡ rest
spaces_passed zero [] h = refl
spaces_passed zero (c ∷ cs) h = rw h
spaces_passed (suc k) rest h = spaces_passed k rest h

-- a text is its spaces and what comes after them
pub spaces_split : (text : List ℕ) → text ≡ spaces (spaces_before text) ++ past_spaces text
spaces_split [] = refl
spaces_split (c ∷ cs) = elim (cases_Bool (c == 32)) [
  | inl e ↦ (let i : c ≡ 32 = eqb-true c 32 e in
      let more : cs ≡ spaces (spaces_before cs) ++ past_spaces cs = spaces_split cs in rw e (ap (λ x. x ∷ cs) i ∙ ap (λ xs. 32 ∷ xs) more))
  | inr e ↦ rw e
]

-- spaces are whitespace
pub every_space : (k : ℕ) → list_all white (spaces k) ≡ true
every_space zero = refl
every_space (suc k) = every_space k
