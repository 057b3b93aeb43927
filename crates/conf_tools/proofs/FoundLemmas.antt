-- What was found at a place, or what stands for it, where a look may have ended since memory ran out.
use Rattle.std.{proofs.Common.{◌≡◌, ◌⊎◌, inl, inr, refl, sym, ◌∙◌, ap, subst, List, ℕ, Ok, Err}, specs.Prelude.{Result, IfOk, IfErr}}
use Rattle.conf_tools.proofs.Prelude.{Tree, StoreFault, OutOfMemory, MissingValue, ValueForm}
use Rattle.conf_tools.specs.{declared.{reading_fault.ReadingFault.ReadingFault, reads.Presence.Presence}, Reads.{CannotShow, HidesPresence}}
use Rattle.conf_tools.specs.Reads.{LacksFound, ShowsFound, ShowsTree, found_or, presence_of}
use Rattle.conf_words.specs.declared.invocation.MissingValue.TheVariants.{Refused, Default}
use Rattle.conf_tools.specs.declared.reading_fault.ReadingFault.TheVariants as reading

-- a look ended with this fault: memory ran out, or that is what was found
abbrev Why : StoreFault → Result Tree StoreFault → Type 0
Why fault found = (fault ≡ OutOfMemory) ⊎ (found ≡ Err fault)

-- ---- whether something is there

told-itself : (r : Result Presence StoreFault) → IfOk r (λ presence. r ≡ Ok presence)
told-itself (Ok found) = refl
told-itself (Err fault) = tt

hidden-itself : (r : Result Presence StoreFault) → IfErr r (HidesPresence r)
hidden-itself (Ok found) = tt
hidden-itself (Err fault) = inr refl

told : (found : Result Tree StoreFault) (fault : StoreFault) → Why fault found
    → IfOk (presence_of (Err fault)) (λ presence. presence_of found ≡ Ok presence)
told found fault (inl e) = subst (λ f. IfOk (presence_of (Err f)) (λ presence. presence_of found ≡ Ok presence)) (sym e) tt
told found fault (inr e) = subst (λ r. IfOk (presence_of r) (λ presence. presence_of found ≡ Ok presence)) e
    (told-itself (presence_of found))

hidden : (found : Result Tree StoreFault) (fault : StoreFault) → Why fault found
    → IfErr (presence_of (Err fault)) (HidesPresence (presence_of found))
hidden found fault (inl e) = subst (λ f. IfErr (presence_of (Err f)) (HidesPresence (presence_of found))) (sym e) (inl refl)
hidden found fault (inr e) = subst (λ r. IfErr (presence_of r) (HidesPresence (presence_of found))) e (hidden-itself (presence_of found))

pub presence-told : (found : Result Tree StoreFault) (fault : StoreFault) (r : Result Presence StoreFault)
    → Why fault found → r ≡ presence_of (Err fault)
    → IfOk r (λ presence. presence_of found ≡ Ok presence)
presence-told found fault r why is = subst (λ r. IfOk r (λ presence. presence_of found ≡ Ok presence)) (sym is) (told found fault why)

pub presence-hidden : (found : Result Tree StoreFault) (fault : StoreFault) (r : Result Presence StoreFault)
    → Why fault found → r ≡ presence_of (Err fault)
    → IfErr r (HidesPresence (presence_of found))
presence-hidden found fault r why is = subst (λ r. IfErr r (HidesPresence (presence_of found))) (sym is) (hidden found fault why)

-- ---- what stands for a value

-- where memory ran out, nothing stands for the value
found_or-OutOfMemory : (missing : MissingValue) → found_or missing (Err OutOfMemory) ≡ Err OutOfMemory
found_or-OutOfMemory Refused = refl
found_or-OutOfMemory (Default word) = refl

-- a value that was found stands for itself
found_or-Ok : (missing : MissingValue) (tree : Tree) → found_or missing (Ok tree) ≡ Ok tree
found_or-Ok Refused tree = refl
found_or-Ok (Default word) tree = refl

no-text : (form : ValueForm) (bytes : List ℕ) → ShowsFound (Err OutOfMemory) form bytes → (P : Type 0) → P
no-text form bytes shows P = let bad = shows.is in absurd (cc bad)

-- what is shown where nothing was found
missing-shown : (missing : MissingValue) (found : Result Tree StoreFault) (fault : StoreFault) (form : ValueForm)
    (bytes : List ℕ) → Why fault found
    → ShowsFound (found_or missing (Err fault)) form bytes → ShowsFound (found_or missing found) form bytes
missing-shown missing found fault form bytes (inl e) shows =
    no-text form bytes (subst (λ r. ShowsFound r form bytes)
    (ap (λ f. found_or missing (Err f)) e ∙ found_or-OutOfMemory missing) shows)
    (ShowsFound (found_or missing found) form bytes)
missing-shown missing found fault form bytes (inr e) shows = subst (λ r. ShowsFound (found_or missing r) form bytes) (sym e) shows

lacks-memory : (found : Result Tree StoreFault) (form : ValueForm) (fault : ReadingFault)
    → LacksFound (Err OutOfMemory) form fault → LacksFound found form fault
lacks-memory found form (reading.Value fault) (inl e) = inl e
lacks-memory found form (reading.Value fault) (inr e) = inl (let same : fault ≡ OutOfMemory = cc e in same)
lacks-memory found form reading.NotText (tree, is, by, none) = absurd (cc is)
lacks-memory found form reading.NotCollection (tree, is, by, none) = absurd (cc is)
lacks-memory found form (reading.Folder fault) lacks = absurd lacks
lacks-memory found form (reading.History fault) lacks = absurd lacks
lacks-memory found form (reading.Salvage fault) lacks = absurd lacks
lacks-memory found form reading.Output lacks = absurd lacks

-- why nothing is shown there
missing-lacks : (missing : MissingValue) (found : Result Tree StoreFault) (fault : StoreFault) (form : ValueForm)
    (why_not : ReadingFault) → Why fault found
    → LacksFound (found_or missing (Err fault)) form why_not → LacksFound (found_or missing found) form why_not
missing-lacks missing found fault form why_not (inl e) lacks =
    lacks-memory (found_or missing found) form why_not
    (subst (λ r. LacksFound r form why_not) (ap (λ f. found_or missing (Err f)) e ∙ found_or-OutOfMemory missing) lacks)
missing-lacks missing found fault form why_not (inr e) lacks = subst (λ r. LacksFound (found_or missing r) form why_not) (sym e) lacks

module _ (missing : MissingValue) (found : Result Tree StoreFault) (tree : Tree) (is : found ≡ Ok tree) (form : ValueForm) where
  stands : found_or missing found ≡ Ok tree
  stands = ap (found_or missing) is ∙ found_or-Ok missing tree

  -- a value that was found is shown
  found-shown : (bytes : List ℕ) → ShowsTree form tree bytes → ShowsFound (found_or missing found) form bytes
  found-shown bytes shows = record { tree = tree; is = stands; shows = shows }

  -- or can't be
  found-lacks : (fault : ReadingFault) → CannotShow form tree fault → LacksFound (found_or missing found) form fault
  found-lacks (reading.Value fault) cannot = inl cannot
  found-lacks reading.NotText cannot = (tree, stands, cannot.0, cannot.1)
  found-lacks reading.NotCollection cannot = (tree, stands, cannot.0, cannot.1)
  found-lacks (reading.Folder fault) cannot = absurd cannot
  found-lacks (reading.History fault) cannot = absurd cannot
  found-lacks (reading.Salvage fault) cannot = absurd cannot
  found-lacks reading.Output cannot = absurd cannot

  -- the same of what came of showing it
  pub found-shown-all : {X : Type 0} (bytes : X → List ℕ) (r : Result X ReadingFault) → IfOk r (λ x. ShowsTree form tree (bytes x))
      → IfOk r (λ x. ShowsFound (found_or missing found) form (bytes x))
  found-shown-all bytes (Ok x) shows = found-shown (bytes x) shows
  found-shown-all bytes (Err fault) shows = tt

  pub found-lacks-all : {X : Type 0} (r : Result X ReadingFault) → IfErr r (CannotShow form tree)
      → IfErr r (LacksFound (found_or missing found) form)
  found-lacks-all (Ok x) cannot = tt
  found-lacks-all (Err fault) cannot = found-lacks fault cannot

module _ (missing : MissingValue) (found : Result Tree StoreFault) (fault : StoreFault) (form : ValueForm)
    (why : (fault ≡ OutOfMemory) ⊎ (found ≡ Err fault)) where
  pub missing-shown-all : {X : Type 0} (bytes : X → List ℕ) (r : Result X ReadingFault)
      → IfOk r (λ x. ShowsFound (found_or missing (Err fault)) form (bytes x))
      → IfOk r (λ x. ShowsFound (found_or missing found) form (bytes x))
  missing-shown-all bytes (Ok x) shows = missing-shown missing found fault form (bytes x) why shows
  missing-shown-all bytes (Err other) shows = tt

  pub missing-lacks-all : {X : Type 0} (r : Result X ReadingFault) → IfErr r (LacksFound (found_or missing (Err fault)) form)
      → IfErr r (LacksFound (found_or missing found) form)
  missing-lacks-all (Ok x) lacks = tt
  missing-lacks-all (Err other) lacks = missing-lacks missing found fault form other why lacks
