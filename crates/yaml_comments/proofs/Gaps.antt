-- The comments between two scalars, found one after another.
use Rattle.std.proofs.Common.{◌≡◌, ◌≢◌, ℕ, ◌+◌, ◌<◌, ◌≤◌, List, [], ◌∷◌, ◌++◌, length, refl, sym, ◌∙◌, ap, subst, arith, ⊎_elim}
use Rattle.std.{proofs.{Common.{append_assoc, append-nil}, lemmas.Bool.cases_lt}, specs.Prelude.{slice_index, ◌⊎◌}}
use Rattle.yaml_comments.specs.{declared.find.Comment.Comment, Outside.IsLineEnd, Comments.{Place, AreInGap, IsGapAdded}, Found.place_of}
use Rattle.yaml_comments.specs.Found.{places_of}

-- the places of one comment more
pub places_joined : (cs : List Comment) (c : Comment) → places_of (cs ++ c ∷ []) ≡ places_of cs ++ place_of c ∷ []
places_joined [] c = refl
places_joined (x ∷ xs) c = ap (λ ps. place_of x ∷ ps) (places_joined xs c)

-- what was found up to a place, where the search for the rest goes on
pub record Led (bytes : List ℕ) (from to at : ℕ) (before now : List Place) : Type 0 where
  pub added : List Place
  pub joined : now ≡ before ++ added
  pub led : (rest : List Place) (next : ℕ) → AreInGap bytes at to rest next → AreInGap bytes from to (added ++ rest) next

-- a byte that is no `#` begins no comment
past_byte : (bytes : List ℕ) (at to : ℕ) (rest : List Place) (next : ℕ) → at < to → slice_index bytes at ≢ 35
    → AreInGap bytes (at + 1) to rest next → AreInGap bytes at to rest next
past_byte bytes at to [] next l other are = (
  λ k after before mark. ⊎_elim (λ here. (let same : k ≡ at = omega arith in
      other (subst (λ n. slice_index bytes n ≡ 35) same mark))) (λ behind. are.0 k behind before mark) (cases_lt k (at + 1)),
  omega
      (arith, are.1),
)
past_byte bytes at to (p ∷ ps) next l other are = (
  (
    omega (arith, are.0.0),
    are.0.1,
    are.0.2,
    λ k after before mark. ⊎_elim
        (λ here. (let same : k ≡ at = omega arith in other (subst (λ n. slice_index bytes n ≡ 35) same mark)))
        (λ behind. are.0.3 k behind before mark) (cases_lt k (at + 1)),
  ),
  are.1,
  are.2,
)

-- so the search goes on behind it
pub led_byte : (bytes : List ℕ) (from to at : ℕ) (before now : List Place) → Led bytes from to at before now → at < to
    → slice_index bytes at ≢ 35 → Led bytes from to (at + 1) before now
led_byte bytes from to at before now l less other = record {
  added = l.added;
  joined = l.joined;
  led = λ rest next are. l.led rest next (past_byte bytes at to rest next less other are);
}

-- a `#` begins a comment
pub led_mark : (bytes : List ℕ) (from to at end : ℕ) (before now : List Place) → Led bytes from to at before now → at < to
    → slice_index bytes at ≡ 35 → IsLineEnd bytes at (length bytes) end
    → Led bytes from to end before (now ++ (record { start = at; end = end }) ∷ [])
led_mark bytes from to at end before now l less mark ends =
    let own : Place = record { start = at; end = end } in
    record {
      added = l.added ++ own ∷ [];
      joined = ap (λ ps. ps ++ own ∷ []) l.joined ∙ append_assoc before l.added (own ∷ []);
      led = λ rest next are. subst (λ ps. AreInGap bytes from to ps next) (sym (append_assoc l.added (own ∷ []) rest))
          (l.led (own ∷ rest) next ((omega arith, less, mark, λ k after under mark. omega arith), ends, are));
    }

-- at the end of the gap all were found
pub led_end : (bytes : List ℕ) (from to at : ℕ) (before now : List Place) → Led bytes from to at before now → to ≤ at
    → IsGapAdded bytes from to before now at
led_end bytes from to at before now l ended = record {
  added = l.added;
  are = subst (λ ps. AreInGap bytes from to ps at) (append-nil l.added)
      (l.led [] at ((λ k after under mark. omega arith), omega arith));
  joined = l.joined;
}
