-- A pointer that is cut before its last `/` is the pointer to the steps before its last one.
use Rattle.std.proofs.Common.{◌≡◌, ◌==◌, ℕ, ◌≤◌, true, false, List, [], ◌∷◌, ◌++◌, take, drop, Option, Some, None, refl, sym, ap, ap₂}
use Rattle.std.{proofs.Common.{subst, ◌∙◌, arith}, specs.Option.{MatchOption, unwrap_or}}
use Rattle.tree_edits.proofs.Prelude.{IsCharBoundary, IsUtf8, NonePass, RFindsChar, HasCharAt, append_assoc, as_itself, as_slash, as_tilde}
use Rattle.tree_edits.proofs.Prelude.{chars, chars-append, chars-nil, chars_from_encodes, chars_past_char, encodes-chars, IsUtf8-drop}
use Rattle.tree_edits.proofs.Prelude.{IsUtf8-take, length-append, parents_of, pointer_text, spelling, take-append-drop, take_all, take_at}
use Rattle.tree_edits.proofs.Prelude.{token_text}
use lib.Utf8.{encodes}

-- ---- lists of steps

-- a list that is not empty ends with some item
last_step : (first : List ℕ) (rest : List (List ℕ))
    → (parents : List (List ℕ)) × (last : List ℕ) × (first ∷ rest ≡ parents ++ last ∷ [])
last_step first [] = ([], first, refl)
last_step first (next ∷ rest) =
    let p = last_step next rest in (first ∷ p.0, p.1, ap (λ xs. first ∷ xs) p.2)

-- the parents of such a list
parents_of-last : (parents : List (List ℕ)) (last : List ℕ) → parents_of (parents ++ last ∷ []) ≡ parents
parents_of-last parents last = take_at parents (last ∷ []) _ (omega (arith, length-append parents (last ∷ [])))

-- ---- the text of a path

append-none : (xs : List ℕ) → xs ++ [] ≡ xs
append-none [] = refl
append-none (x ∷ xs) = ap (λ ys. x ∷ ys) (append-none xs)

pointer_text-last : (parents : List (List ℕ)) (last : List ℕ)
    → pointer_text (parents ++ last ∷ []) ≡ pointer_text parents ++ 47 ∷ token_text last
pointer_text-last [] last = ap (λ cs. 47 ∷ cs) (append-none (token_text last))
pointer_text-last (step ∷ parents) last =
    ap (λ t. 47 ∷ (token_text step ++ t)) (pointer_text-last parents last)
    ∙ ap (λ t. 47 ∷ t) (sym (append_assoc (token_text step) (pointer_text parents) (47 ∷ token_text last)))

-- no `/` is among characters
abbrev NoSlash : List ℕ → Type 0
NoSlash cs = NonePass (λ d. d == 47) cs

token_text-NoSlash : (token : List ℕ) → NoSlash (token_text token)
token_text-NoSlash [] = tt
token_text-NoSlash (c ∷ cs) = elim (spelling c) [
  | as_tilde is same ↦ subst (λ s. NoSlash (s ++ token_text cs)) (sym is) (refl, (refl, token_text-NoSlash cs))
  | as_slash is same ↦ subst (λ s. NoSlash (s ++ token_text cs)) (sym is) (refl, (refl, token_text-NoSlash cs))
  | as_itself is other no_slash ↦ subst (λ s. NoSlash (s ++ token_text cs)) (sym is) (no_slash, token_text-NoSlash cs)
]

slash-there : (xs ys : List ℕ) → NoSlash (xs ++ 47 ∷ ys) → ⊥
slash-there [] ys none = let e : true ≡ false = none.0 in cc
slash-there (x ∷ xs) ys none = slash-there xs ys none.1

-- the last `/` is at one place
last_slash : (xs ps ys ts : List ℕ) → xs ++ 47 ∷ ys ≡ ps ++ 47 ∷ ts → NoSlash ys → NoSlash ts → xs ≡ ps
last_slash [] [] ys ts same no_y no_t = refl
last_slash [] (p ∷ ps) ys ts same no_y no_t =
    let e : ys ≡ ps ++ 47 ∷ ts = cc in absurd (slash-there ps ts (subst NoSlash e no_y))
last_slash (x ∷ xs) [] ys ts same no_y no_t =
    let e : xs ++ 47 ∷ ys ≡ ts = cc in absurd (slash-there xs ys (subst NoSlash (sym e) no_t))
last_slash (x ∷ xs) (p ∷ ps) ys ts same no_y no_t =
    let e : x ≡ p = cc in
    let rest : xs ++ 47 ∷ ys ≡ ps ++ 47 ∷ ts = cc in
    ap₂ ◌∷◌ e (last_slash xs ps ys ts rest no_y no_t)

-- ---- the cut

-- what a search for the last `/` gives
abbrev pub FindsLast : List ℕ → Option ℕ → Type 0
FindsLast bs r =
    MatchOption r (RFindsChar 47 bs None)
    (λ i. (j : ℕ) × RFindsChar 47 bs (Some (i, j)) × (i ≤ j) × IsCharBoundary bs i × IsCharBoundary bs j)

-- where the cut is
abbrev pub cut_place : Option ℕ → ℕ
cut_place r = unwrap_or r 0

-- no text is nothing
nothing : (bs : List ℕ) → IsUtf8 bs → chars bs ≡ [] → bs ≡ []
nothing bs utf8 none = sym (encodes-chars bs utf8) ∙ ap encodes none

take-nothing : (n : ℕ) (bs : List ℕ) → bs ≡ [] → take n bs ≡ []
take-nothing n bs is = ap (take n) is ∙ take_all n [] (omega arith)

-- the characters up to a `/` and those from it on
parts : (bs : List ℕ) (i j : ℕ) → IsUtf8 bs → HasCharAt 47 bs i j → IsCharBoundary bs i
    → chars bs ≡ chars (take i bs) ++ 47 ∷ chars (drop j bs)
parts bs i j utf8 found boundary =
    let rest = chars_past_char (drop i bs) (drop j bs) 47 (IsUtf8-drop bs i utf8 boundary) found.split in
    ap chars (sym (take-append-drop i bs)) ∙ chars-append (take i bs) (drop i bs) (IsUtf8-take bs i utf8 boundary)
    ∙ ap (λ cs. chars (take i bs) ++ cs) rest

-- a pointer with a last step
cut_last : (bs : List ℕ) (r : Option ℕ) (ps ts : List ℕ) → IsUtf8 bs → FindsLast bs r → chars bs ≡ ps ++ 47 ∷ ts → NoSlash ts
    → chars (take (cut_place r) bs) ≡ ps
cut_last bs None ps ts utf8 none split no_t =
    let same = chars_from_encodes none.0 bs utf8 none.1 in
    absurd (slash-there ps ts (subst NoSlash (same ∙ split) none.2))
cut_last bs (Some i) ps ts utf8 found split no_t =
    let j = found.0 in
    let boundary = found.3 in
    let after = found.1.0 in
    let same = chars_from_encodes after.0 (drop j bs) (IsUtf8-drop bs j utf8 found.4) after.1 in
    last_slash (chars (take i bs)) ps (chars (drop j bs)) ts
    (sym (parts bs i j utf8 found.1.1 boundary) ∙ split) (subst NoSlash same after.2) no_t

-- the pointer without its last step
pub cut_pointer : (bs : List ℕ) (r : Option ℕ) (steps : List (List ℕ)) → IsUtf8 bs → FindsLast bs r → chars bs ≡ pointer_text steps
    → chars (take (cut_place r) bs) ≡ pointer_text (parents_of steps)
cut_pointer bs r [] utf8 finds is = ap chars (take-nothing (cut_place r) bs (nothing bs utf8 is)) ∙ chars-nil
cut_pointer bs r (first ∷ rest) utf8 finds is =
    let p = last_step first rest in
    let split : chars bs ≡ pointer_text p.0 ++ 47 ∷ token_text p.1 = is ∙ ap pointer_text p.2 ∙ pointer_text-last p.0 p.1 in
    cut_last bs r (pointer_text p.0) (token_text p.1) utf8 finds split (token_text-NoSlash p.1)
    ∙ ap pointer_text (sym (ap parents_of p.2 ∙ parents_of-last p.0 p.1))
