-- What holds of what a recognizer returns.
use Rattle.std.{proofs.Common.{ap, inl, inr, refl, subst, ◌≡◌, ◌⊎◌}, specs.Prelude.{Bool, List, None, Some, [], cond, false, true, ℕ, ◌==◌}}
use Rattle.std.specs.Prelude.{◌∷◌}
use Rattle.yaml_recognizers.{proofs.Prelude.eqb-true, specs.Reading.{Read, read_closing, if_fits, on}}

-- what holds of what is read, if anything is
abbrev pub Sound : {A : Type 0} → (A → List ℕ → Type 0) → Read A → Type 0
Sound P None = Unit {0}
Sound P (Some r) = P r.0 r.1

-- if a first recognizer is sound, and the second after it, both together are
pub sound_on : {A B : Type 0} (P : A → List ℕ → Type 0) (Q : B → List ℕ → Type 0) (r : Read A) (f : A → List ℕ → Read B)
    → Sound P r → ((a : A) (rest : List ℕ) → P a rest → Sound Q (f a rest)) → Sound Q (on r f)
sound_on P Q None f s t = tt
sound_on P Q (Some r) f s t = t r.0 r.1 s

-- a recognizer is sound if each of its results is
pub sound_of : {A : Type 0} (P : A → List ℕ → Type 0) (r : Read A) → ((y : A × List ℕ) → r ≡ Some y → P y.0 y.1) → Sound P r
sound_of P None f = tt
sound_of P (Some r) f = f r refl

-- a recognizer that is sound for one property is sound for a weaker one
pub sound_to : {A : Type 0} (P Q : A → List ℕ → Type 0) (r : Read A) → Sound P r
    → ((a : A) (rest : List ℕ) → P a rest → Q a rest) → Sound Q r
sound_to P Q None s f = tt
sound_to P Q (Some r) s f = f r.0 r.1 s

-- what a sound recognizer returns has the property
pub sound_is : {A : Type 0} (P : A → List ℕ → Type 0) (r : Read A) (y : A × List ℕ) → Sound P r → r ≡ Some y → P y.0 y.1
sound_is P r y s e = subst (Sound P) e s

-- nothing is no result
pub none_some : {A : Type 0} (x : A) → None ≡ Some x → ⊥
none_some x h = cc

-- two recognizers in turn return what the second does after the first
pub on_parts : {A B : Type 0} (r : Read A) (g : A → List ℕ → Read B) (y : B × List ℕ) → on r g ≡ Some y
    → (a : A) × (t : List ℕ) × (r ≡ Some (a, t)) × (g a t ≡ Some y)
on_parts None g y h = absurd (none_some y h)
on_parts (Some r) g y h = (r.0, r.1, refl, h)

-- equal results have equal parts
pub some_parts : {A : Type 0} (a b : A) (t u : List ℕ) → ◌≡◌ {A = Read A} (Some (a, t)) (Some (b, u)) → (a ≡ b) × (t ≡ u)
some_parts {A} a b t u h = let e : ◌≡◌ {A = A × List ℕ} (a, t) (b, u) = cc in
    (ap (λ (r : A × List ℕ). r.0) e, ap (λ (r : A × List ℕ). r.1) e)

-- the two cases of a choice
pub chosen : {A : Type 0} (b : Bool) (x y z : A) → cond b x y ≡ z → ((b ≡ true) × (x ≡ z)) ⊎ ((b ≡ false) × (y ≡ z))
chosen true x y z h = inl (refl, h)
chosen false x y z h = inr (refl, h)

-- a value that is closed by a character, and that character
pub closed_parts : {A : Type 0} (x : ℕ) (a : A) (text : List ℕ) (y : A) (rest : List ℕ)
    → read_closing x a text ≡ Some (y, rest) → (a ≡ y) × (text ≡ x ∷ rest)
closed_parts x a [] y rest h = absurd (none_some _ h)
closed_parts x a (c ∷ cs) y rest h = elim (chosen (c == x) _ _ _ h) [
  | inl e ↦ (let p = some_parts a y cs rest e.1 in let i : c ≡ x = eqb-true c x e.0 in let j : cs ≡ rest = p.1 in (p.0, cc))
  | inr e ↦ absurd (none_some _ e.1)
]

-- a value that is returned on a condition, and that condition
pub if_fits_parts : {A : Type 0} (b : Bool) (r : Read A) (y : A × List ℕ) → if_fits b r ≡ Some y → (b ≡ true) × (r ≡ Some y)
if_fits_parts true r y h = (refl, h)
if_fits_parts false r y h = absurd (none_some y h)

-- ---- two recognizers that go on alike

-- two recognizers in turn are the same if the second ones are the same after each result
pub on_same : {A B : Type 0} (r : Read A) (f g : A → List ℕ → Read B)
    → ((a : A) (rest : List ℕ) → r ≡ Some (a, rest) → f a rest ≡ g a rest) → on r f ≡ on r g
on_same None f g h = refl
on_same (Some r) f g h = h r.0 r.1 refl

-- two choices are the same if their cases are
pub cond_same : {A : Type 0} (b : Bool) (x x' y y' : A) → (b ≡ true → x ≡ x') → (b ≡ false → y ≡ y') → cond b x y ≡ cond b x' y'
cond_same true x x' y y' f g = f refl
cond_same false x x' y y' f g = g refl
