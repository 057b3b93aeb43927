-- Values that are shown one after the other.
use Rattle.std.proofs.Common.{◌≡◌, ◌<◌, ◌+◌, inl, inr, sym, subst, refl, ap, ◌∙◌, ℕ, List, ◌++◌, drop, get_or, length, append_assoc}
use Rattle.std.specs.{Prelude.Result, Borrow.Bor}
use Rattle.conf_tools.{proofs.Prelude.{StoreFault, Tree, ValueForm, chars, drop_more}, specs.Reads.{LacksFound, LacksOne, ShowsAll}}
use Rattle.conf_tools.specs.{Reads.{ShowsFound, pointers_of}, declared.reading_fault.ReadingFault.ReadingFault}

-- those from one of the pointers on
module _ (value_at : List ℕ → Result Tree StoreFault) (form : ValueForm) (all : List (Bor (List ℕ))) (i : ℕ)
    (d : Bor (List ℕ)) (within : i < length all) where
  -- its value can't be shown
  pub lacks_here : (fault : ReadingFault) → LacksFound (value_at (chars (get_or all i d).now)) form fault
      → LacksOne value_at form (pointers_of (drop i all)) fault
  lacks_here fault lacks =
      subst (λ ps. LacksOne value_at form (pointers_of ps) fault) (sym (drop_more all i d within)) (inl lacks)

  -- its value is shown, and a later one can't be
  pub lacks_later : (value : List ℕ) → ShowsFound (value_at (chars (get_or all i d).now)) form value → (fault : ReadingFault)
      → LacksOne value_at form (pointers_of (drop (i + 1) all)) fault → LacksOne value_at form (pointers_of (drop i all)) fault
  lacks_later value shows fault lacks =
      subst (λ ps. LacksOne value_at form (pointers_of ps) fault) (sym (drop_more all i d within)) (inr (value, shows, lacks))

  -- its value is shown behind those before it
  pub shows_more : (text value new : List ℕ)
      → ((others : List ℕ) → ShowsAll value_at form (pointers_of (drop i all)) others
      → ShowsAll value_at form (pointers_of all) (text ++ others))
      → ShowsFound (value_at (chars (get_or all i d).now)) form value → new ≡ text ++ value
      → (others : List ℕ) → ShowsAll value_at form (pointers_of (drop (i + 1) all)) others
      → ShowsAll value_at form (pointers_of all) (new ++ others)
  shows_more text value new so_far shows is others more =
      subst (ShowsAll value_at form (pointers_of all)) (sym (append_assoc text value others) ∙ ap (λ t. t ++ others) (sym is))
      (so_far (value ++ others) (subst (λ ps. ShowsAll value_at form (pointers_of ps) (value ++ others))
      (sym (drop_more all i d within)) (value, others, shows, more, refl)))
