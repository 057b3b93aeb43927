-- The name of a file, character by character.
use Rattle.std.proofs.Common.{◌≡◌, ◌==◌, ◌||◌, ℕ, Bool, true, false, not, List, [], ◌∷◌, ◌++◌, if◌then◌else◌, refl, sym, ap, ◌∙◌, subst}
use Rattle.std.proofs.lemmas.{Bool.{not-true, or_parts}, List.append-nil}
use Rattle.conf_tools.specs.DiffWords.{IsNameOf, has_slash, has_dot, behind_slashes, before_dot, file_name}

or-assoc : (a b c : Bool) → ((a || b) || c) ≡ (a || (b || c))
or-assoc true b c = refl
or-assoc false b c = refl

or-false : (a : Bool) → (a || false) ≡ a
or-false true = refl
or-false false = refl

or-true : (a : Bool) → (a || true) ≡ true
or-true true = refl
or-true false = refl

not-false : (b : Bool) → not b ≡ false → b ≡ true
not-false true is = refl
not-false false is = cc

has_slash-push : (cs : List ℕ) (c : ℕ) → has_slash (cs ++ c ∷ []) ≡ (has_slash cs || (c == 47))
has_slash-push [] c = or-false (c == 47)
has_slash-push (d ∷ cs) c = ap (λ b. (d == 47) || b) (has_slash-push cs c) ∙ sym (or-assoc (d == 47) (has_slash cs) (c == 47))

has_dot-push : (cs : List ℕ) (c : ℕ) → has_dot (cs ++ c ∷ []) ≡ (has_dot cs || (c == 46))
has_dot-push [] c = or-false (c == 46)
has_dot-push (d ∷ cs) c = ap (λ b. (d == 46) || b) (has_dot-push cs c) ∙ sym (or-assoc (d == 46) (has_dot cs) (c == 46))

-- behind a slash that comes last is nothing
behind-slash : (cs : List ℕ) (c : ℕ) → (c == 47) ≡ true → behind_slashes (cs ++ c ∷ []) ≡ []
behind-slash [] c is = ap (λ b. if b || false then [] else c ∷ []) is
behind-slash (d ∷ cs) c is =
    ap (λ b. if (d == 47) || b then behind_slashes (cs ++ c ∷ []) else d ∷ (cs ++ c ∷ []))
    (has_slash-push cs c ∙ ap (λ b. has_slash cs || b) is ∙ or-true (has_slash cs))
    ∙ ap (λ b. if b then behind_slashes (cs ++ c ∷ []) else d ∷ (cs ++ c ∷ [])) (or-true (d == 47))
    ∙ behind-slash cs c is

-- any other character comes behind what was there
behind-other : (cs : List ℕ) (c : ℕ) → (c == 47) ≡ false → behind_slashes (cs ++ c ∷ []) ≡ behind_slashes cs ++ c ∷ []
behind-other [] c is = ap (λ b. if b || false then [] else c ∷ []) is
behind-other (d ∷ cs) c is =
    let P : Bool → Type 0 = λ b. (if b then behind_slashes (cs ++ c ∷ []) else d ∷ (cs ++ c ∷ []))
    ≡ (if b then behind_slashes cs else d ∷ cs) ++ c ∷ [] in
    ap (λ b. if (d == 47) || b then behind_slashes (cs ++ c ∷ []) else d ∷ (cs ++ c ∷ []))
    (has_slash-push cs c ∙ ap (λ b. has_slash cs || b) is ∙ or-false (has_slash cs))
    ∙ elim ((d == 47) || has_slash cs) as P [ true ↦ behind-other cs c is | false ↦ refl ]

-- before the first dot
before-push : (cs : List ℕ) (c : ℕ) → has_dot cs ≡ false → before_dot (cs ++ c ∷ []) ≡ cs ++ before_dot (c ∷ [])
before-push [] c none = refl
before-push (d ∷ cs) c none =
    let parts = or_parts (d == 46) (has_dot cs) none in
    ap (λ b. if b then [] else d ∷ before_dot (cs ++ c ∷ [])) parts.0 ∙ ap (λ xs. d ∷ xs) (before-push cs c parts.1)

before-past : (cs : List ℕ) (c : ℕ) → has_dot cs ≡ true → before_dot (cs ++ c ∷ []) ≡ before_dot cs
before-past [] c some = cc
before-past (d ∷ cs) c some =
    let P : Bool → Type 0 = λ b. (b || has_dot cs) ≡ true
    → (if b then [] else d ∷ before_dot (cs ++ c ∷ [])) ≡ (if b then [] else d ∷ before_dot cs) in
    (elim (d == 46) as P [ true ↦ λ is. refl | false ↦ λ is. ap (λ xs. d ∷ xs) (before-past cs c is) ]) some

before-none : (cs : List ℕ) → has_dot cs ≡ false → before_dot cs ≡ cs
before-none [] none = refl
before-none (d ∷ cs) none =
    let parts = or_parts (d == 46) (has_dot cs) none in
    ap (λ b. if b then [] else d ∷ before_dot cs) parts.0 ∙ ap (λ xs. d ∷ xs) (before-none cs parts.1)

-- ---- the name after one more character

-- a slash begins it anew
pub name-slash : (cs : List ℕ) (c : ℕ) → (c == 47) ≡ true
    → IsNameOf (cs ++ c ∷ []) [] true
name-slash cs c is =
    let nothing = sym (behind-slash cs c is) in
    record { is = ap before_dot nothing; open_end = ap (λ xs. not (has_dot xs)) nothing }

-- a dot ends it
name-dot : (cs : List ℕ) (c : ℕ) → (c == 47) ≡ false → (c == 46) ≡ true
    → IsNameOf (cs ++ c ∷ []) (file_name cs) false
name-dot cs c other is =
    let all = behind_slashes cs in
    let more = sym (behind-other cs c other) in
    let P : Bool → Type 0 = λ b. has_dot all ≡ b → before_dot all ≡ before_dot (all ++ c ∷ []) in record {
      is = (elim (has_dot all) as P [
        | true ↦ λ some. sym (before-past all c some)
        | false ↦ λ none. before-none all none
            ∙ sym (before-push all c none ∙ ap (λ b. all ++ (if b then [] else c ∷ [])) is ∙ append-nil all)
      ]) refl ∙ ap before_dot more;
      open_end = sym (ap not (has_dot-push all c ∙ ap (λ b. has_dot all || b) is ∙ or-true (has_dot all)))
          ∙ ap (λ xs. not (has_dot xs)) more;
    }

-- any other character before a dot is one of it
name-more : (cs : List ℕ) (c : ℕ) → (c == 47) ≡ false → (c == 46) ≡ false → true ≡ not (has_dot (behind_slashes cs))
    → IsNameOf (cs ++ c ∷ []) (file_name cs ++ c ∷ []) true
name-more cs c other no_dot goes_on =
    let all = behind_slashes cs in
    let more = sym (behind-other cs c other) in
    let none : has_dot all ≡ false = not-true (has_dot all) (sym goes_on) in record {
      is = ap (λ xs. xs ++ c ∷ []) (before-none all none)
          ∙ sym (before-push all c none ∙ ap (λ b. all ++ (if b then [] else c ∷ [])) no_dot) ∙ ap before_dot more;
      open_end = goes_on ∙ sym (ap not (has_dot-push all c ∙ ap (λ b. has_dot all || b) no_dot ∙ or-false (has_dot all)))
          ∙ ap (λ xs. not (has_dot xs)) more;
    }

-- any other character behind a dot is none of it
name-past : (cs : List ℕ) (c : ℕ) → (c == 47) ≡ false → (c == 46) ≡ false → false ≡ not (has_dot (behind_slashes cs))
    → IsNameOf (cs ++ c ∷ []) (file_name cs) false
name-past cs c other no_dot ended =
    let all = behind_slashes cs in
    let more = sym (behind-other cs c other) in
    let some : has_dot all ≡ true = not-false (has_dot all) (sym ended) in record {
      is = sym (before-past all c some) ∙ ap before_dot more;
      open_end = ended ∙ sym (ap not (has_dot-push all c ∙ ap (λ b. has_dot all || b) no_dot ∙ or-false (has_dot all)))
          ∙ ap (λ xs. not (has_dot xs)) more;
    }

-- ---- the same of what the code holds

module _ (cs : List ℕ) (c : ℕ) (name : List ℕ) (goes_on : Bool) (so_far : IsNameOf cs name goes_on) where
  pub taken-dot : (c == 47) ≡ false → (c == 46) ≡ true → IsNameOf (cs ++ c ∷ []) name false
  taken-dot other is = subst (λ n. IsNameOf (cs ++ c ∷ []) n false) (sym so_far.is) (name-dot cs c other is)

  pub taken-more : (new : List ℕ) → new ≡ name ++ c ∷ [] → goes_on ≡ true → (c == 47) ≡ false → (c == 46) ≡ false
      → IsNameOf (cs ++ c ∷ []) new true
  taken-more new is on other no_dot =
      subst (λ n. IsNameOf (cs ++ c ∷ []) n true) (sym (is ∙ ap (λ n. n ++ c ∷ []) so_far.is))
      (name-more cs c other no_dot (sym on ∙ so_far.open_end))

  pub taken-past : goes_on ≡ false → (c == 47) ≡ false → (c == 46) ≡ false → IsNameOf (cs ++ c ∷ []) name false
  taken-past off other no_dot =
      subst (λ n. IsNameOf (cs ++ c ∷ []) n false) (sym so_far.is) (name-past cs c other no_dot (sym off ∙ so_far.open_end))
