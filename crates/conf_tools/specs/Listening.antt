-- What a listener was told.
use Rattle.std.{specs.Prelude.{◌≡◌, ◌⊎◌, ℕ, List, ◌++◌, true, false, Option, codes}, proofs.Common.{inl, inr, sym, ◌∙◌}}
use Rattle.std.proofs.{lemmas.Bool.false≢true, KnownBytes.Appends-trans}
use Rattle.conf_tools.specs.{Prelude.Appends, declared.listener.Told.Told}

-- the line that names a fault
abbrev pub fault_line : List ℕ → List ℕ
fault_line name = codes "confstore: " ++ name ++ codes "\n"

-- no write has failed
abbrev pub Works : {W : Type 0} → Told W → Type 0
Works told = told.has_failed ≡ false

module _ {W : Type 0} (contents : W → Option (List ℕ)) where
  -- what its writer holds
  abbrev pub told_contents : Told W → Option (List ℕ)
  told_contents told = contents told.writer

  -- no write has failed, and the writer holds the text after what it held
  pub record Heard (old : Told W) (text : List ℕ) (new : Told W) : Type 0 where
    pub worked : Works old
    pub works : Works new
    pub holds : Appends (contents old.writer) (contents new.writer) text

  -- the text was told: the writer holds it, or a write has failed
  abbrev pub HearsText : Told W → List ℕ → Told W → Type 0
  HearsText old text new = Heard old text new ⊎ (new.has_failed ≡ true)

  -- what is told in two parts is told
  pub hears_both : (first middle last : Told W) (one other : List ℕ)
      → HearsText first one middle → HearsText middle other last → HearsText first (one ++ other) last
  hears_both first middle last one other before (inr failed) = inr failed
  hears_both first middle last one other (inr failed) (inl after) =
      let works : middle.has_failed ≡ false = after.worked in absurd (false≢true (sym works ∙ failed))
  hears_both first middle last one other (inl before) (inl after) = inl (record {
    worked = before.worked;
    works = after.works;
    holds = Appends-trans (contents first.writer) (contents middle.writer) (contents last.writer) one other before.holds after.holds;
  })
