-- What was written where writing failed.
use Rattle.std.proofs.Common.{◌≡◌, ◌⊎◌, ℕ, List, [], ◌∷◌, ◌++◌, length, take, drop, refl, sym, ap, ◌∙◌, subst, append_assoc, append-nil}
use Rattle.std.{proofs.Common.{take-append-drop, inl, inr}, specs.Prelude.Option}
use Rattle.conf_tools.{proofs.Prelude.{Appends, Appends-trans, Keeps}, specs.{FileTexts.StopsInFile, Parts.WritesPart, Tools.Stops}}
use Rattle.conf_tools.specs.declared.texts.ToolFault.{ToolFault, TheVariants.{Output, Read}}
use Rattle.yaml_events.specs.declared.read_fault.ReadFault.TheVariants.{OutOfMemory}

take-front : (part rest : List ℕ) → take (length part) (part ++ rest) ≡ part
take-front [] rest = refl
take-front (x ∷ xs) rest = ap (λ l. x ∷ l) (take-front xs rest)

-- the bytes before others were written
pub part_before : (held written : Option (List ℕ)) (part rest all : List ℕ) → Appends held written part → part ++ rest ≡ all
    → WritesPart all held written
part_before held written part rest all appends is =
    let same : take (length part) all ≡ part = ap (take (length part)) (sym is) ∙ take-front part rest in
    (length part, subst (λ l. Appends held written l) (sym same) appends)

-- all of them were
pub part_whole : (held written : Option (List ℕ)) (bytes : List ℕ) → Appends held written bytes → WritesPart bytes held written
part_whole held written bytes appends = part_before held written bytes [] bytes appends (append-nil bytes)

-- of a line behind others, the first bytes were
pub part_more : (held now written : Option (List ℕ)) (lines line rest all : List ℕ) (count : ℕ) → Appends held now lines
    → Appends now written (take count line) → lines ++ (line ++ rest) ≡ all → WritesPart all held written
part_more held now written lines line rest all count before appends is =
    part_before held written (lines ++ take count line) (drop count line ++ rest) all
    (Appends-trans held now written lines (take count line) before appends)
    (append_assoc lines (take count line) (drop count line ++ rest)
    ∙ ap (λ l. lines ++ l)
    (sym (append_assoc (take count line) (drop count line) rest) ∙ ap (λ l. l ++ rest) (take-append-drop count line)) ∙ is)

-- ---- why a tool stops

module _ (Is : List ℕ → Type 0) (bytes : List ℕ) (held written : Option (List ℕ)) (text : List ℕ) (is : Is text) where
  -- the name of a file was not written whole
  pub stops_naming : (fault : ToolFault)
      → ((fault ≡ Output) × WritesPart text held written) ⊎ ((fault ≡ Read OutOfMemory) × Keeps held written)
      → Stops Is bytes held written fault
  stops_naming fault (inl (same, part)) = subst (λ (f : ToolFault). Stops Is bytes held written f) (sym same) (text, is, part)
  stops_naming fault (inr (same, keeps)) = subst (λ (f : ToolFault). Stops Is bytes held written f) (sym same) (tt, keeps)

  -- nor were the lines for it
  pub stops_in_file : (fault : ToolFault) → (fault ≡ Output) ⊎ (fault ≡ Read OutOfMemory) → WritesPart text held written
      → StopsInFile Is bytes held written fault
  stops_in_file fault (inl same) part = subst (λ (f : ToolFault). StopsInFile Is bytes held written f) (sym same) (text, is, part)
  stops_in_file fault (inr same) part =
      subst (λ (f : ToolFault). StopsInFile Is bytes held written f) (sym same) (inr (text, is, part))
