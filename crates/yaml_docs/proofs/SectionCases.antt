-- Which section begins at a solid line.
use Rattle.std.{proofs.Common.{refl, ◌≡◌}, specs.Prelude.{Bool, List, None, false, true, ℕ}}
use Rattle.yaml_docs.{proofs.Prelude.{first, is_line_end, section_at, marker_of, percent, read_section}, specs.Sections.BeginsSection}
use Rattle.yaml_docs.specs.declared.documents.Section.TheVariants.{Suffix, Explicit, Directed, Bare}

-- at `...` there is a suffix
pub at_suffix : (opened : Bool) (text : List ℕ) → is_line_end text ≡ false → marker_of 46 text ≡ true → BeginsSection opened text Suffix
unfolding read_section
at_suffix opened text l h = record { begins = h; reads = rw (l, h) refl }

-- at `---` there is an explicit document
pub at_explicit : (opened : Bool) (text : List ℕ) → is_line_end text ≡ false → marker_of 46 text ≡ false
    → marker_of 45 text ≡ true → BeginsSection opened text Explicit
unfolding read_section
at_explicit opened text l n h = record { begins = h; reads = rw (l, n, h) refl }

-- else, where none is allowed, there is no section
pub not_opened : (opened : Bool) (text : List ℕ) → opened ≡ false → is_line_end text ≡ false
    → marker_of 46 text ≡ false → marker_of 45 text ≡ false → section_at opened true text ≡ None
unfolding read_section
not_opened opened text o l n h = rw (l, n, h, o) refl

-- where it is allowed, at `%` there is a document with a directive
pub at_directed : (opened : Bool) (text : List ℕ) → opened ≡ true → is_line_end text ≡ false
    → marker_of 46 text ≡ false → marker_of 45 text ≡ false → first percent text ≡ true → BeginsSection opened text Directed
unfolding read_section
at_directed opened text o l n m h = record { begins = tt; reads = rw (l, n, m, o, h) refl }

-- and else a bare document
pub at_bare : (opened : Bool) (text : List ℕ) → opened ≡ true → is_line_end text ≡ false → marker_of 46 text ≡ false
    → marker_of 45 text ≡ false → first percent text ≡ false → BeginsSection opened text Bare
unfolding read_section
at_bare opened text o l n m h = record { begins = tt; reads = rw (l, n, m, o, h) refl }
