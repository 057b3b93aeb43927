-- A recognizer used again and again: what it reads, and that it reads all there are.
use Rattle.std.{proofs.Common.{◌≡◌, refl, sym, ◌∙◌, ap, append_assoc, arith, ◌<◌, ◌≤◌}, specs.Prelude.{ℕ, zero, suc, List, [], ◌∷◌, ◌++◌}}
use Rattle.std.specs.Prelude.{length, flat_map, Some, None}
use Rattle.yaml_recognizers.specs.{Reading.Read, Repeated.{and_more, repeated, all_of}}

-- ---- complete

-- each is read before those after it, and after the last there is no other
abbrev pub Each : {A : Type 0} → (List ℕ → Read A) → (A → List ℕ) → List A → List ℕ → Type 0
Each read spell [] after = read after ≡ None
Each read spell (x ∷ xs) after =
    (read (spell x ++ (flat_map spell xs ++ after)) ≡ Some (x, flat_map spell xs ++ after)) × Each read spell xs after

-- what fits one after another is read whole
pub repeated_read : {A : Type 0} (read : List ℕ → Read A) (spell : A → List ℕ) (xs : List A) (fuel : ℕ) (after : List ℕ) → length xs ≤ fuel
    → Each read spell xs after → repeated read fuel (flat_map spell xs ++ after) ≡ (xs, after)
unfolding repeated
repeated_read read spell [] zero after m e = refl
repeated_read read spell [] (suc fuel) after m e = rw e refl
repeated_read read spell (x ∷ xs) zero after m e = absurd (omega arith)
repeated_read read spell (x ∷ xs) (suc fuel) after m e =
    let rest : List ℕ = flat_map spell xs ++ after in
    let regrouped : flat_map spell (x ∷ xs) ++ after ≡ spell x ++ rest = append_assoc (spell x) (flat_map spell xs) after in
    ap (repeated read (suc fuel)) regrouped
    ∙ (ap (and_more (spell x ++ rest) (λ t. repeated read fuel t)) e.0
    ∙ ap (λ m. (x ∷ m.0, m.1)) (repeated_read read spell xs fuel after (omega arith) e.1))

-- ---- sound

module _ {A : Type 0} (read : List ℕ → Read A) (P : List ℕ → List A → List ℕ → Type 0) (none : (text : List ℕ) → P text [] text)
    (step : (text : List ℕ) (a : A) (t : List ℕ) (more : List A) (rest : List ℕ) → read text ≡ Some (a, t)
    → P t more rest → P text (a ∷ more) rest) where
  more_sound : (text : List ℕ) (again : List ℕ → List A × List ℕ) (r : Read A) → read text ≡ r
      → ((t : List ℕ) → P t (again t).0 (again t).1)
      → P text (and_more text again r).0 (and_more text again r).1
  more_sound text again None e f = none text
  more_sound text again (Some r) e f = step text r.0 r.1 _ _ e (f r.1)

  -- what holds of nothing, and of one more before what it holds of, holds of all that are read
  pub repeated_sound : (fuel : ℕ) (text : List ℕ) → P text (repeated read fuel text).0 (repeated read fuel text).1
  unfolding repeated
  repeated_sound zero text = none text
  repeated_sound (suc fuel) text = more_sound text (λ rest. repeated read fuel rest) (read text) refl (repeated_sound fuel)

-- ---- none

-- if there is none, none is read
pub repeated_none : {A : Type 0} (read : List ℕ → Read A) (fuel : ℕ) (text : List ℕ) → read text ≡ None
    → repeated read fuel text ≡ ([], text)
repeated_none read fuel text e = repeated_read read (λ a. []) [] fuel text (omega arith) e

-- if there is none, none is read
pub all_none : {A : Type 0} (read : List ℕ → Read A) (text : List ℕ) → read text ≡ None → all_of read text ≡ ([], text)
all_none read text e = repeated_none read (length text) text e

-- ---- where each takes something of the text

-- what it reads is not empty
abbrev pub Shrinks : {A : Type 0} → (List ℕ → Read A) → Type 0
Shrinks {A} read = (text : List ℕ) (a : A) (rest : List ℕ) → read text ≡ Some (a, rest) → length rest < length text

module _ {A : Type 0} (read : List ℕ → Read A) (shrinks : Shrinks read) where
  none_there : (text : List ℕ) (r : Read A) → read text ≡ r → length text ≤ 0 → read text ≡ None
  none_there text None e m = e
  none_there text (Some r) e m = absurd (omega (arith, shrinks text r.0 r.1 e))

  more_end : (fuel : ℕ) (text : List ℕ) (again : List ℕ → List A × List ℕ) (r : Read A) → read text ≡ r → length text ≤ suc fuel
      → ((t : List ℕ) → length t ≤ fuel → read (again t).1 ≡ None) → read (and_more text again r).1 ≡ None
  more_end fuel text again None e m f = e
  more_end fuel text again (Some r) e m f = f r.1 (omega (arith, shrinks text r.0 r.1 e))

  -- after all that are read there is no other
  pub repeated_end : (fuel : ℕ) (text : List ℕ) → length text ≤ fuel → read (repeated read fuel text).1 ≡ None
  unfolding repeated
  repeated_end zero text m = none_there text (read text) refl m
  repeated_end (suc fuel) text m = more_end fuel text (λ rest. repeated read fuel rest) (read text) refl m (repeated_end fuel)

  more_shorter : (text : List ℕ) (again : List ℕ → List A × List ℕ) (r : Read A) → read text ≡ r
      → ((t : List ℕ) → length (again t).1 ≤ length t)
      → length (and_more text again r).1 ≤ length text
  more_shorter text again None e f = omega arith
  more_shorter text again (Some r) e f = omega (arith, shrinks text r.0 r.1 e, f r.1)

  -- what is left is no longer than the text
  pub repeated_shorter : (fuel : ℕ) (text : List ℕ) → length (repeated read fuel text).1 ≤ length text
  unfolding repeated
  repeated_shorter zero text = omega arith
  repeated_shorter (suc fuel) text = more_shorter text (λ rest. repeated read fuel rest) (read text) refl (repeated_shorter fuel)

  more_same : (fuel other : ℕ) (text : List ℕ) (r : Read A) → read text ≡ r → length text ≤ suc fuel → length text ≤ suc other
      → ((t : List ℕ) → length t ≤ fuel → length t ≤ other → repeated read fuel t ≡ repeated read other t)
      → and_more text (λ t. repeated read fuel t) r ≡ and_more text (λ t. repeated read other t) r
  more_same fuel other text None e m k f = refl
  more_same fuel other text (Some r) e m k f =
      ap (λ (more : List A × List ℕ). (r.0 ∷ more.0, more.1))
      (f r.1 (omega (arith, shrinks text r.0 r.1 e)) (omega (arith, shrinks text r.0 r.1 e)))

  -- any number of times that is enough gives the same
  pub repeated_same : (fuel other : ℕ) (text : List ℕ) → length text ≤ fuel → length text ≤ other
      → repeated read fuel text ≡ repeated read other text
  unfolding repeated
  repeated_same zero other text m k = let e : read text ≡ None = none_there text (read text) refl m in sym (repeated_none read other text e)
  repeated_same (suc fuel) zero text m k = let e : read text ≡ None = none_there text (read text) refl k in
      repeated_none read (suc fuel) text e
  repeated_same (suc fuel) (suc other) text m k = more_same fuel other text (read text) refl m k (λ t x y. repeated_same fuel other t x y)

  repeated_some : (fuel : ℕ) (text : List ℕ) (a : A) (t : List ℕ) → read text ≡ Some (a, t) → length text ≤ fuel
      → repeated read fuel text ≡ (a ∷ (all_of read t).0, (all_of read t).1)
  unfolding repeated
  repeated_some zero text a t e m = absurd (omega (arith, shrinks text a t e))
  repeated_some (suc fuel) text a t e m =
      ap (and_more text (λ rest. repeated read fuel rest)) e
      ∙ ap (λ (more : List A × List ℕ). (a ∷ more.0, more.1))
      (repeated_same fuel (length t) t (omega (arith, shrinks text a t e)) (omega arith))

  -- if there is one: it, and all after it
  pub all_some : (text : List ℕ) (a : A) (t : List ℕ) → read text ≡ Some (a, t)
      → all_of read text ≡ (a ∷ (all_of read t).0, (all_of read t).1)
  all_some text a t e = repeated_some (length text) text a t e (omega arith)
