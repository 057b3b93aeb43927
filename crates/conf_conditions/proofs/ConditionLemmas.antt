-- What is computed of conditions, and what they say.
use Rattle.std.proofs.Common.{◌≡◌, ◌⊎◌, inl, inr, ⊎_elim, ℕ, Bool, true, false, List, [], ◌∷◌, Some, None, refl, sym, ap, subst, ◌∙◌}
use Rattle.std.{proofs.lemmas.Bool.{eqb-true, eqb-false, eq-eqb, false≢true}, specs.Prelude.{◌==◌, if◌then◌else◌, Option, is_none, Result}}
use Rattle.std.specs.Prelude.{Ok, Err}
use Rattle.{yaml_grammar.specs.Trees.Tree, json_pointer.specs.{Pointers.path_of, declared.fault.PathFault.PathFault}}
use Rattle.{conf_state.specs.{Names.good_name, States.Contents}, conf_conditions.specs.Conditions.{Condition, test_at, absent_at, count_is}}
use Rattle.conf_conditions.specs.Conditions.{value_in, found_by, found_at, unless_met, unless_found, is_value, fault_of, first_of}
use Rattle.conf_conditions.specs.Conditions.{first_fault, IsPlace, Holds, AllHold, IsNoPlace, Fails, FailsFirst}
use Rattle.conf_conditions.specs.declared.fault.ConditionFault.{ConditionFault, TheVariants.{Unmet, BadName, Path, OutOfMemory}}
use Rattle.conf_conditions.proofs.SameLemmas.{same_tree-true, same_tree-self}

-- ---- one test

met-true : (b : Bool) → unless_met b ≡ None → b ≡ true
met-true true e = refl
met-true false e = cc

met-false : (b : Bool) (fault : ConditionFault) → unless_met b ≡ Some fault → (b ≡ false) × (fault ≡ Unmet)
met-false true fault e = absurd (let never : (◌≡◌ {A = Option ConditionFault} None (Some fault)) = e in cc)
met-false false fault e = (refl, (let same : (◌≡◌ {A = Option ConditionFault} (Some Unmet) (Some fault)) = e in cc))

value-true : (value : Tree) (o : Option Tree) → is_value value o ≡ true → o ≡ Some value
value-true value (Some t) e = ap Some (same_tree-true t value e)
value-true value None e = cc

true-value : (value : Tree) (o : Option Tree) → o ≡ Some value → is_value value o ≡ true
true-value value o e = ap (is_value value) e ∙ same_tree-self value

none-true : (o : Option Tree) → is_none o ≡ true → o ≡ None
none-true (Some t) e = cc
none-true None e = refl

true-none : (o : Option Tree) → o ≡ None → is_none o ≡ true
true-none o e = ap is_none e

-- ---- what is at a place

module _ (s : Contents) (name path : List ℕ) (holds : Option Tree → Bool) where
  place-none : unless_found (found_at s name path) holds ≡ None
      → (tokens : List (List ℕ)) × IsPlace name path tokens × (holds (value_in s name tokens) ≡ true)
  place-none = by (good_name name) refl (path_of path) refl
    where
      by : (good : Bool) → good_name name ≡ good → (r : Result (List (List ℕ)) PathFault) → path_of path ≡ r
          → unless_found (if good then found_by r (value_in s name) else Err BadName) holds ≡ None
          → (tokens : List (List ℕ)) × IsPlace name path tokens × (holds (value_in s name tokens) ≡ true)
      by true named (Ok tokens) means e = (tokens, record { named = named; means = means }, met-true (holds (value_in s name tokens)) e)
      by true named (Err why) means e = absurd (let never : (◌≡◌ {A = Option ConditionFault} (Some (Path why)) None) = e in cc)
      by false named r means e = absurd (let never : (◌≡◌ {A = Option ConditionFault} (Some BadName) None) = e in cc)

  none-place : (tokens : List (List ℕ)) → IsPlace name path tokens → holds (value_in s name tokens) ≡ true
      → unless_found (found_at s name path) holds ≡ None
  none-place tokens is h =
      ap (λ b. unless_found (if b then found_by (path_of path) (value_in s name) else Err BadName) holds) is.named
      ∙ ap (λ r. unless_found (found_by r (value_in s name)) holds) is.means
      ∙ ap unless_met h

  place-some : (fault : ConditionFault) → unless_found (found_at s name path) holds ≡ Some fault
      → ((fault ≡ Unmet) × (tokens : List (List ℕ)) × IsPlace name path tokens
      × (holds (value_in s name tokens) ≡ false)) ⊎ IsNoPlace name path fault
  place-some fault = by (good_name name) refl (path_of path) refl
    where
      by : (good : Bool) → good_name name ≡ good → (r : Result (List (List ℕ)) PathFault) → path_of path ≡ r
          → unless_found (if good then found_by r (value_in s name) else Err BadName) holds ≡ Some fault
          → ((fault ≡ Unmet) × (tokens : List (List ℕ)) × IsPlace name path tokens
          × (holds (value_in s name tokens) ≡ false)) ⊎ IsNoPlace name path fault
      by true named (Ok tokens) means e =
          let other = met-false (holds (value_in s name tokens)) fault e in
          inl (other.1, tokens, record { named = named; means = means }, other.0)
      by true named (Err why) means e =
          let same : Path why ≡ fault = (let is : (◌≡◌ {A = Option ConditionFault} (Some (Path why)) (Some fault)) = e in cc) in
          inr (subst (IsNoPlace name path) same (named, means))
      by false named r means e =
          let same : BadName ≡ fault = (let is : (◌≡◌ {A = Option ConditionFault} (Some BadName) (Some fault)) = e in cc) in
          inr (subst (IsNoPlace name path) same named)

-- ---- one condition

-- a condition without a fault holds
pub fault-none : (s : Contents) (c : Condition) → fault_of s c ≡ None → Holds s c
fault-none s (test_at name path value) e =
    let there = place-none s name path (is_value value) e in
    (there.0, there.1, value-true value (value_in s name there.0) there.2)
fault-none s (absent_at name path) e =
    let there = place-none s name path is_none e in
    (there.0, there.1, none-true (value_in s name there.0) there.2)
fault-none s (count_is count) e = eqb-true s.count count (met-true (s.count == count) e)

-- one that holds has no fault
pub none-fault : (s : Contents) (c : Condition) → Holds s c → fault_of s c ≡ None
none-fault s (test_at name path value) h = none-place s name path (is_value value) h.0 h.1 (true-value value (value_in s name h.0) h.2)
none-fault s (absent_at name path) h = none-place s name path is_none h.0 h.1 (true-none (value_in s name h.0) h.2)
none-fault s (count_is count) h = ap unless_met (eq-eqb s.count count h)

test-no-place : (s : Contents) (name path : List ℕ) (value : Tree) (fault : ConditionFault)
    → IsNoPlace name path fault → Fails s (test_at name path value) fault
test-no-place s name path value Unmet none = absurd none
test-no-place s name path value BadName none = none
test-no-place s name path value (Path why) none = none
test-no-place s name path value OutOfMemory none = none

absent-no-place : (s : Contents) (name path : List ℕ) (fault : ConditionFault) → IsNoPlace name path fault
    → Fails s (absent_at name path) fault
absent-no-place s name path Unmet none = absurd none
absent-no-place s name path BadName none = none
absent-no-place s name path (Path why) none = none
absent-no-place s name path OutOfMemory none = none

-- one with a fault fails by it
pub fault-some : (s : Contents) (c : Condition) (fault : ConditionFault) → fault_of s c ≡ Some fault → Fails s c fault
fault-some s (test_at name path value) fault e =
    ⊎_elim (λ other. subst (Fails s (test_at name path value)) (sym other.0)
    (other.1, other.2, λ is. false≢true (sym other.3 ∙ true-value value (value_in s name other.1) is)))
    (test-no-place s name path value fault) (place-some s name path (is_value value) fault e)
fault-some s (absent_at name path) fault e =
    ⊎_elim (λ other. subst (Fails s (absent_at name path)) (sym other.0)
    (other.1, other.2, λ is. false≢true (sym other.3 ∙ true-none (value_in s name other.1) is)))
    (absent-no-place s name path fault) (place-some s name path is_none fault e)
fault-some s (count_is count) fault e =
    let other = met-false (s.count == count) fault e in
    subst (Fails s (count_is count)) (sym other.1) (eqb-false s.count count other.0)

-- ---- conditions, in order

-- where no condition has a fault, all hold
pub first-none : (s : Contents) (cs : List Condition) → first_fault s cs ≡ None → AllHold s cs
first-none s [] e = tt
first-none s (c ∷ cs) e = by (fault_of s c) refl e (first-none s cs)
  where
    by : (o : Option ConditionFault) → fault_of s c ≡ o → first_of o (first_fault s cs) ≡ None
        → (first_fault s cs ≡ None → AllHold s cs) → Holds s c × AllHold s cs
    by None is e rest = (fault-none s c is, rest e)
    by (Some fault) is e rest = absurd (let never : (◌≡◌ {A = Option ConditionFault} (Some fault) None) = e in cc)

-- where all hold, none has a fault
pub none-first : (s : Contents) (cs : List Condition) → AllHold s cs → first_fault s cs ≡ None
none-first s [] h = refl
none-first s (c ∷ cs) h = ap (λ o. first_of o (first_fault s cs)) (none-fault s c h.0) ∙ none-first s cs h.1

-- the first fault is that of the first condition that fails
pub first-some : (s : Contents) (cs : List Condition) (fault : ConditionFault) → first_fault s cs ≡ Some fault → FailsFirst s cs fault
first-some s [] fault e = absurd (let never : (◌≡◌ {A = Option ConditionFault} None (Some fault)) = e in cc)
first-some s (c ∷ cs) fault e = by (fault_of s c) refl e (first-some s cs fault)
  where
    by : (o : Option ConditionFault) → fault_of s c ≡ o → first_of o (first_fault s cs) ≡ Some fault
        → (first_fault s cs ≡ Some fault → FailsFirst s cs fault) → FailsFirst s (c ∷ cs) fault
    by None is e rest =
        let later = rest e in
        record {
          before = c ∷ later.before;
          condition = later.condition;
          further = later.further;
          is = ap (λ l. c ∷ l) later.is;
          hold = (fault-none s c is, later.hold);
          fails = later.fails;
        }
    by (Some first) is e rest =
        let same : first ≡ fault = (let told : (◌≡◌ {A = Option ConditionFault} (Some first) (Some fault)) = e in cc) in
        record { before = []; condition = c; further = cs; is = refl; hold = tt; fails = fault-some s c fault (is ∙ ap Some same) }

-- ---- which faults there are

-- a path that is refused is refused for its text
abbrev pub IsTold : ConditionFault → Type 0
IsTold Unmet = Unit {0}
IsTold BadName = Unit {0}
IsTold (Path why) = (path : List ℕ) × (path_of path ≡ Err why)
IsTold OutOfMemory = ⊥

told-by : (s : Contents) (c : Condition) (fault : ConditionFault) → Fails s c fault → IsTold fault
told-by s c Unmet fails = tt
told-by s c BadName fails = tt
told-by s (test_at name path value) (Path why) fails = (path, fails.1)
told-by s (absent_at name path) (Path why) fails = (path, fails.1)
told-by s (count_is count) (Path why) fails = absurd fails
told-by s (test_at name path value) OutOfMemory fails = fails
told-by s (absent_at name path) OutOfMemory fails = fails
told-by s (count_is count) OutOfMemory fails = fails

-- the fault of the first condition that fails
pub told-first : (s : Contents) (cs : List Condition) (fault : ConditionFault) → first_fault s cs ≡ Some fault → IsTold fault
told-first s cs fault e = let first = first-some s cs fault e in told-by s first.condition fault first.fails
