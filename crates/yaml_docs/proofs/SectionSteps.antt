-- What a section at the start of a text adds to the meaning of the sections from there on.
use Rattle.std.{proofs.Common.{ap, refl, subst, sym, ◌∙◌, ◌≡◌, ◌≤◌}, specs.Prelude.{Bool, List, None, Option, Some, [], false, length}}
use Rattle.std.specs.Prelude.{true, ℕ, ◌++◌, ◌+◌, ◌∷◌}
use Rattle.yaml_docs.proofs.Prelude.{byte_len, is_empty, starts_line, read_block, Section, opens, section_events, section_text, read_scalar}
use Rattle.yaml_docs.proofs.Prelude.{document_node_at, section_at, sections_at, section_and, blocks_read, line_not_end, line_or_end, Sound}
use Rattle.yaml_docs.{proofs.Prelude.{sound_is, reads_scalars, sections_steps, section_long, section_some}, specs.Sections.and_then}
use Rattle.{yaml_docs.specs.Sections.sections_meaning, yaml_recognizers.proofs.Block.BlockNodesSound.NodeOf}
use Rattle.yaml_recognizers.proofs.{Block.BlockNodesWhole.whole_node_sound, Documents.StreamsSound.{SectionOf, section_sound}}

-- ---- sections that are found

document_sound : (bol : Bool) (text : List ℕ) → Sound (NodeOf 0 false bol text) (document_node_at bol text)
document_sound bol text = whole_node_sound read_scalar reads_scalars read_block blocks_read 0 false bol text

section_is : (opened : Bool) (text rest : List ℕ) (p : Section) → section_at opened true text ≡ Some (p, rest)
    → SectionOf opened true text p rest
section_is opened text rest p h = sound_is (SectionOf opened true text) (section_at opened true text) (p, rest)
    (section_sound document_node_at document_sound opened true text) h

-- a section that is read is spelled there
pub section_spells : (opened : Bool) (text rest : List ℕ) (p : Section) → section_at opened true text ≡ Some (p, rest)
    → text ≡ section_text p ++ rest
section_spells opened text rest p h = (section_is opened text rest p h).0

-- it isn't empty
pub section_filled : (opened : Bool) (text rest : List ℕ) (p : Section) → section_at opened true text ≡ Some (p, rest)
    → 1 ≤ length (section_text p)
section_filled opened text rest p h = section_long p opened true rest (section_is opened text rest p h).1

-- ---- further sections

-- where the text ends there is no further section, whether or not a line starts there
further_sections : (opened bol : Bool) (text : List ℕ) → line_or_end bol text ≡ true
    → sections_at opened bol text ≡ sections_at opened true text
further_sections opened bol [] h = sections_steps opened bol [] ∙ sym (sections_steps opened true [])
further_sections opened bol (c ∷ cs) h = ap (λ b. sections_at opened b (c ∷ cs)) (line_not_end bol (c ∷ cs) h refl)

with_section : (at : ℕ) (p : Section) (more : Option (List Section))
    → sections_meaning at (section_and p more) ≡ and_then (section_events p at)
    (sections_meaning (at + byte_len (section_text p)) more)
with_section at p None = refl
with_section at p (Some ps) = refl

steps_over : (opened : Bool) (text rest : List ℕ) (p : Section) → is_empty text ≡ false → section_at opened true text ≡ Some (p, rest)
    → sections_at opened true text ≡ section_and p (sections_at (opens opened p) (starts_line true (section_text p)) rest)
steps_over opened text rest p n h = sections_steps opened true text ∙ rw (n, h) refl

-- its events come before those of the other sections
pub section_step : (opened : Bool) (text rest : List ℕ) (p : Section) (at : ℕ)
    → section_at opened true text ≡ Some (p, rest) → line_or_end (starts_line true (section_text p)) rest ≡ true
    → sections_meaning at (sections_at opened true text)
    ≡ and_then (section_events p at) (sections_meaning (at + byte_len (section_text p)) (sections_at (opens opened p) true rest))
section_step opened text rest p at h l =
    let s : SectionOf opened true text p rest = section_is opened text rest p h in
    let n : is_empty text ≡ false = subst (λ (t : List ℕ). is_empty t ≡ false) (sym s.0) (section_some p opened true rest s.1).0 in
    ap (sections_meaning at) (steps_over opened text rest p n h
    ∙ ap (section_and p) (further_sections (opens opened p) (starts_line true (section_text p)) rest l))
    ∙ with_section at p (sections_at (opens opened p) true rest)

-- without a section the text has no meaning
pub no_section : (opened : Bool) (text : List ℕ) → is_empty text ≡ false → section_at opened true text ≡ None
    → sections_at opened true text ≡ None
no_section opened text n h = sections_steps opened true text ∙ rw (n, h) refl

-- at the end of the text there are none
pub no_more_sections : (opened : Bool) (text : List ℕ) → is_empty text ≡ true → sections_at opened true text ≡ Some []
no_more_sections opened text h = sections_steps opened true text ∙ rw h refl
