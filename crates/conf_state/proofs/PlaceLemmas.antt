-- What changes of the places make of the configurations.
use Rattle.std.proofs.Common.{◌≡◌, ℕ, Bool, true, false, cond, List, [], ◌∷◌, filter, String, Global, Option, Some, None, is_some}
use Rattle.std.proofs.{Common.{string_bytes, MutBor, OnSome, OnErr, Result, Ok, Err, refl, sym, ap, ◌∙◌}, lemmas.Map.Keys.IsDistinct-head}
use Rattle.std.proofs.lemmas.Map.Keys.{IsDistinct-tail}
use Rattle.conf_state.proofs.Prelude.{set_value_same, bytes_eq-Decides, AllByRecursion, IsDistinct, keys_of, lookup, set_value}
use Rattle.conf_state.{proofs.Prelude.{option_copied_mut, string_eq, insert_entry}, specs.Configs.{is_name, put_under, cut_from}}
use Rattle.conf_state.specs.Places.{with_place, present}

-- what is found in a place
abbrev pub in_place : {X : Type 0} → Option (Option X) → Option X
in_place None = None
in_place (Some place) = place

module _ {X : Type 0} (q : List ℕ) where
  -- no further place has the name of this one
  none_further : (name : String Global) → is_name q name ≡ true → (ps : List (String Global × Option X))
      → AllByRecursion (λ other. string_eq name other ≡ false) (keys_of ps) → lookup (is_name q) ps ≡ None
  none_further name is [] apart = refl
  none_further name is (p ∷ ps) apart =
      ap (λ b. cond b (Some p.1) (lookup (is_name q) ps))
      (ap (λ bs. is_name bs p.0) ((bytes_eq-Decides q (string_bytes name)).0 is) ∙ apart.0)
      ∙ none_further name is ps apart.1

  -- a configuration is found in the place of its name
  pub lookup-present : (ps : List (String Global × Option X)) → IsDistinct string_eq (keys_of ps)
      → lookup (is_name q) (present ps) ≡ in_place (lookup (is_name q) ps)
  lookup-present [] distinct = refl
  lookup-present (p ∷ ps) distinct = by p.1 (is_name q p.0) refl (lookup-present ps (IsDistinct-tail string_eq p.0 (keys_of ps) distinct))
    where
      by : (place : Option X) (b : Bool) → is_name q p.0 ≡ b → lookup (is_name q) (present ps) ≡ in_place (lookup (is_name q) ps)
          → lookup (is_name q) (with_place p.0 place (present ps)) ≡ in_place (cond b (Some place) (lookup (is_name q) ps))
      by None true is rest = rest ∙ ap in_place (none_further p.0 is ps (IsDistinct-head string_eq p.0 (keys_of ps) distinct))
      by None false is rest = rest
      by (Some x) true is rest = ap (λ b. cond b (Some x) (lookup (is_name q) (present ps))) is
      by (Some x) false is rest = ap (λ b. cond b (Some x) (lookup (is_name q) (present ps))) is ∙ rest

  -- another configuration in the place of one
  pub present-set : (ps : List (String Global × Option X)) (old new : X) → lookup (is_name q) ps ≡ Some (Some old)
      → present (set_value (is_name q) ps (Some new)) ≡ set_value (is_name q) (present ps) new
  present-set [] old new is = cc
  present-set (p ∷ ps) old new is = by p.1 (is_name q p.0) refl is (present-set ps old new)
    where
      by : (place : Option X) (b : Bool) → is_name q p.0 ≡ b → cond b (Some place) (lookup (is_name q) ps) ≡ Some (Some old)
          → (lookup (is_name q) ps ≡ Some (Some old)
          → present (set_value (is_name q) ps (Some new)) ≡ set_value (is_name q) (present ps) new)
          → present (cond b ((p.0, Some new) ∷ ps) ((p.0, place) ∷ set_value (is_name q) ps (Some new)))
          ≡ set_value (is_name q) (with_place p.0 place (present ps)) new
      by None true named is rest = cc
      by None false named is rest = rest is
      by (Some x) true named is rest = ap (λ b. cond b ((p.0, new) ∷ present ps)
          ((p.0, x) ∷ set_value (is_name q) (present ps) new)) (sym named)
      by (Some x) false named is rest =
          ap (λ es. (p.0, x) ∷ es) (rest is)
          ∙ ap (λ b. cond b ((p.0, new) ∷ present ps) ((p.0, x) ∷ set_value (is_name q) (present ps) new)) (sym named)

  -- no configuration in the place of one
  pub present-emptied : (ps : List (String Global × Option X)) (old : X) → lookup (is_name q) ps ≡ Some (Some old)
      → present (set_value (is_name q) ps None) ≡ cut_from q (present ps)
  present-emptied [] old is = cc
  present-emptied (p ∷ ps) old is = by p.1 (is_name q p.0) refl is (present-emptied ps old)
    where
      by : (place : Option X) (b : Bool) → is_name q p.0 ≡ b → cond b (Some place) (lookup (is_name q) ps) ≡ Some (Some old)
          → (lookup (is_name q) ps ≡ Some (Some old) → present (set_value (is_name q) ps None) ≡ cut_from q (present ps))
          → present (cond b ((p.0, None) ∷ ps) ((p.0, place) ∷ set_value (is_name q) ps None))
          ≡ cut_from q (with_place p.0 place (present ps))
      by None true named is rest = cc
      by None false named is rest = rest is
      by (Some x) true named is rest = ap (λ b. cond b (present ps) ((p.0, x) ∷ cut_from q (present ps))) (sym named)
      by (Some x) false named is rest =
          ap (λ es. (p.0, x) ∷ es) (rest is) ∙ ap (λ b. cond b (present ps) ((p.0, x) ∷ cut_from q (present ps))) (sym named)

  -- a name that is not there is not cut out
  pub cut-absent : (es : List (String Global × X)) → lookup (is_name q) es ≡ None → cut_from q es ≡ es
  cut-absent [] is = refl
  cut-absent (e ∷ es) is = by (is_name q e.0) is (cut-absent es)
    where
      by : (b : Bool) → cond b (Some e.1) (lookup (is_name q) es) ≡ None → (lookup (is_name q) es ≡ None → cut_from q es ≡ es)
          → cond b es (e ∷ cut_from q es) ≡ e ∷ es
      by true is rest = cc
      by false is rest = ap (λ es. e ∷ es) (rest is)

  -- emptying a place takes its configuration out, if it has one
  pub present-cut : (ps : List (String Global × Option X)) (place : Option X) → IsDistinct string_eq (keys_of ps)
      → lookup (is_name q) ps ≡ Some place
      → present (set_value (is_name q) ps None) ≡ cut_from q (present ps)
  present-cut ps (Some old) distinct is = present-emptied ps old is
  present-cut ps None distinct is =
      ap present (set_value_same (is_name q) ps None is) ∙ sym (cut-absent (present ps) (lookup-present ps distinct ∙ ap in_place is))

  -- no place is empty once the empty ones are closed
  pub closed-filled : (ps : List (String Global × Option X)) → lookup (is_name q) (filter (λ p. is_some p.1) ps) ≡ Some None → ⊥
  closed-filled [] is = cc
  closed-filled (p ∷ ps) is = by p.1 is (closed-filled ps)
    where
      by : (place : Option X) → lookup (is_name q)
          (cond (is_some place) ((p.0, place) ∷ filter (λ p. is_some p.1) ps) (filter (λ p. is_some p.1) ps)) ≡ Some None
          → (lookup (is_name q) (filter (λ p. is_some p.1) ps) ≡ Some None → ⊥) → ⊥
      by None is rest = rest is
      by (Some x) is rest = at (is_name q p.0) is
        where
          at : (b : Bool) → cond b (Some (Some x)) (lookup (is_name q) (filter (λ p. is_some p.1) ps)) ≡ Some None → ⊥
          at true is = cc
          at false is = rest is

module _ {X : Type 0} where
  -- closing the empty places leaves the configurations
  pub present-closed : (ps : List (String Global × Option X)) → present (filter (λ p. is_some p.1) ps) ≡ present ps
  present-closed [] = refl
  present-closed (p ∷ ps) = by p.1 (present-closed ps)
    where
      by : (place : Option X) → present (filter (λ p. is_some p.1) ps) ≡ present ps
          → present (cond (is_some place) ((p.0, place) ∷ filter (λ p. is_some p.1) ps)
          (filter (λ p. is_some p.1) ps)) ≡ with_place p.0 place (present ps)
      by None rest = rest
      by (Some x) rest = ap (λ es. (p.0, x) ∷ es) rest

  module _ (name : String Global) (x : X) where
    -- a configuration in the place of its name, which is not empty, or last
    pub present-put : (ps : List (String Global × Option X)) → (lookup (is_name (string_bytes name)) ps ≡ Some None → ⊥)
        → present (insert_entry string_eq ps name (Some x)) ≡ put_under name x (present ps)
    present-put [] filled = refl
    present-put (p ∷ ps) filled = by p.1 (is_name (string_bytes name) p.0) refl filled (present-put ps)
      where
        by : (place : Option X) (b : Bool) → is_name (string_bytes name) p.0 ≡ b
            → (cond b (Some place) (lookup (is_name (string_bytes name)) ps) ≡ Some None → ⊥)
            → ((lookup (is_name (string_bytes name)) ps ≡ Some None → ⊥)
            → present (insert_entry string_eq ps name (Some x)) ≡ put_under name x (present ps))
            → present (cond b ((p.0, Some x) ∷ ps) ((p.0, place) ∷ insert_entry string_eq ps name (Some x)))
            ≡ put_under name x (with_place p.0 place (present ps))
        by None true named filled rest = absurd (filled refl)
        by None false named filled rest = rest filled
        by (Some y) true named filled rest =
            ap (λ b. cond b ((p.0, x) ∷ present ps) ((p.0, y) ∷ put_under name x (present ps))) (sym named)
        by (Some y) false named filled rest =
            ap (λ es. (p.0, y) ∷ es) (rest filled)
            ∙ ap (λ b. cond b ((p.0, x) ∷ present ps) ((p.0, y) ∷ put_under name x (present ps))) (sym named)

-- ---- options

-- an option that is not some is `None`
pub is_none : {A : Type 0} (o : Option A) → is_some o ≡ false → o ≡ None
is_none None is = refl
is_none (Some a) is = cc

-- a reference into a place that is there, if the place has a configuration
pub on_some : {X : Type 0} {P : Type 0} (r : Option (MutBor X)) (place : Option X) → option_copied_mut r ≡ place
    → ((old : X) → place ≡ Some old → P) → OnSome r P
on_some None place is so = tt
on_some (Some r) place is so = so r.now (sym is)

-- so is one of which it can't be true
pub none_of : {A : Type 0} (o : Option A) → (is_some o ≡ true → ⊥) → o ≡ None
none_of None not_some = refl
none_of (Some a) not_some = absurd (not_some refl)

-- what is some has a value
pub some_value : {A : Type 0} (o : Option A) → is_some o ≡ true → (a : A) × (o ≡ Some a)
some_value None is = cc
some_value (Some a) is = (a, refl)

-- what holds in any case holds after a failure
pub on_err : {A E P : Type 0} (r : Result A E) → P → OnErr r P
on_err (Ok a) p = tt
on_err (Err e) p = p
