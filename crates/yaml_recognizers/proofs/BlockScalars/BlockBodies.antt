-- What is between the header and the comments: what fits is read, and what is read fits.
use Rattle.std.{proofs.Common.{◌≡◌, refl, sym, ◌∙◌, ap, subst, append_assoc, ◌<◌}, specs.Prelude.{ℕ, suc, ◌+◌, ◌-◌, true, false, not, ◌&&◌}}
use Rattle.std.specs.Prelude.{List, ◌++◌, length, Option, Some, None}
use Rattle.yaml_recognizers.proofs.Prelude.{and_parts, and_from, eq-eqb, not-true, not_from_false, BlockEmptyLine, block_empties_text}
use Rattle.yaml_recognizers.proofs.Prelude.{TextLine, text_lines_text, Body, body_text, block_empties_fit, text_lines_fit, goes_on}
use Rattle.yaml_recognizers.proofs.{Prelude.{indent_fits, body_fits}, Basics.{Reading.{Sound, sound_on}, Spaces.at_most}}
use Rattle.yaml_recognizers.proofs.BlockScalars.EmptyLines.{fit_meet, EmptiesOf, empties_at_read, empties_of_sound}
use Rattle.yaml_recognizers.proofs.BlockScalars.{Indentation.{indent_found, Found, IfFound, indent_sound}, TextLines.lines_no_empty}
use Rattle.yaml_recognizers.{proofs.BlockScalars.TextLines.{lines_read, lines_few, LinesOf, lines_sound}, specs.Reading.on}
use Rattle.yaml_recognizers.specs.BlockScalars.{empties_at, all_empties, lines_at, find_indent, body_at, read_body}

-- what a body that fits has
pub record BodyParts (digit : Option ℕ) (m : ℕ) (b : Body) (after : List ℕ) : Type 0 where
  pub indent : indent_fits digit m b.indent b.empties b.texts after ≡ true
  pub empties : block_empties_fit b.indent b.empties (text_lines_text b.indent b.texts ++ after) ≡ true
  pub texts : text_lines_fit b.indent b.texts after ≡ true
  pub end : goes_on b.indent after ≡ false

-- a body that fits has these parts
pub body_parts : (digit : Option ℕ) (m : ℕ) (b : Body) (after : List ℕ) → body_fits digit m b after ≡ true → BodyParts digit m b after
body_parts digit m b after h =
    let p : (indent_fits digit m b.indent b.empties b.texts after
    && block_empties_fit b.indent b.empties (text_lines_text b.indent b.texts ++ after)
    && text_lines_fit b.indent b.texts after ≡ true)
    × (not (goes_on b.indent after) ≡ true) = and_parts _ _ h in
    let q : (indent_fits digit m b.indent b.empties b.texts after
    && block_empties_fit b.indent b.empties (text_lines_text b.indent b.texts ++ after) ≡ true)
    × (text_lines_fit b.indent b.texts after ≡ true) = and_parts _ _ p.0 in
    let r : (indent_fits digit m b.indent b.empties b.texts after ≡ true)
    × (block_empties_fit b.indent b.empties (text_lines_text b.indent b.texts ++ after) ≡ true) = and_parts _ _ q.0 in
    record { indent = r.0; empties = r.1; texts = q.1; end = not-true _ p.1 }

-- ---- what fits is read

-- the text of a body before more, regrouped
body_regrouped : (b : Body) (after : List ℕ)
    → body_text b ++ after ≡ block_empties_text b.empties ++ (text_lines_text b.indent b.texts ++ after)
body_regrouped b after = append_assoc (block_empties_text b.empties) (text_lines_text b.indent b.texts) after

-- a body that fits is read
pub body_read : (digit : Option ℕ) (m : ℕ) (b : Body) (after : List ℕ) → body_fits digit m b after ≡ true
    → read_body digit m (body_text b ++ after) ≡ Some (b, after)
body_read digit m b after h =
    let p : BodyParts digit m b after = body_parts digit m b after h in
    let lines : List ℕ = text_lines_text b.indent b.texts ++ after in
    let text : List ℕ = block_empties_text b.empties ++ lines in
    let few : length b.texts < suc (length lines) = lines_few b.indent b.texts after p.texts in
    let i : find_indent digit m text ≡ Some b.indent =
    indent_found digit m b.indent b.empties b.texts after p.indent p.empties p.texts p.end in
    let g : empties_at b.indent text ≡ (b.empties, lines) =
    empties_at_read b.indent b.empties lines p.empties (lines_no_empty b.indent b.texts after p.texts p.end) in
    let l : lines_at b.indent lines ≡ Some (b.texts, after) = lines_read (suc (length lines)) b.indent b.texts after few p.texts p.end in
    ap (read_body digit m) (body_regrouped b after) ∙ rw (i, g, l)

-- ---- what is read fits

-- the body fits at the start of the text, before the rest
abbrev pub BodyOf : Option ℕ → ℕ → List ℕ → Body → List ℕ → Type 0
BodyOf digit m text b rest = (text ≡ body_text b ++ rest) × (body_fits digit m b rest ≡ true)

-- a body that is read at an indentation fits, if the indentation does
at_sound : (digit : Option ℕ) (m q : ℕ) (text : List ℕ) (g : List BlockEmptyLine × List ℕ) → empties_at q text ≡ g
    → ((texts : List TextLine) (rest : List ℕ) → LinesOf q g.1 texts rest
    → indent_fits digit m q g.0 texts rest ≡ true) → Sound (BodyOf digit m text) (body_at text (Some q))
at_sound digit m q text g e f =
    let s : EmptiesOf (at_most q) text g = subst (EmptiesOf (at_most q) text) e (empties_of_sound (at_most q) text) in
    subst (λ (h : List BlockEmptyLine × List ℕ).
    Sound (BodyOf digit m text) (on (lines_at q h.1)
    (λ ls rest. Some (record { indent = q; empties = h.0; texts = ls }, rest)))) (sym e)
    (sound_on (LinesOf q g.1) (BodyOf digit m text) (lines_at q g.1)
    (λ ls rest. Some (record { indent = q; empties = g.0; texts = ls }, rest))
    (lines_sound (suc (length g.1)) q g.1 s.2)
    (λ ls rest l. (
      s.0 ∙ (ap (λ t. block_empties_text g.0 ++ t) l.split ∙ sym (append_assoc (block_empties_text g.0) (text_lines_text q ls) rest)),
      and_from _ _ (and_from _ _ (and_from _ _ (f ls rest l)
          (subst (λ (t : List ℕ). block_empties_fit q g.0 t ≡ true) l.split (fit_meet q g.0 g.1 ∙ s.1))) l.fit)
          (not_from_false _ l.end),
    )))

-- a body that is read at the indentation that was found fits
found_sound : (m : ℕ) (text : List ℕ) (found : Option ℕ) → IfFound (λ q. Found m q text (all_empties text)) found
    → Sound (BodyOf None m text) (body_at text found)
found_sound m text None f = tt
found_sound m text (Some q) f = let g : Found m q text (all_empties text) = f in at_sound None m q text (all_empties text) g.read g.fits

-- a body that is read fits
pub body_sound : (digit : Option ℕ) (m : ℕ) (text : List ℕ) → Sound (BodyOf digit m text) (read_body digit m text)
body_sound None m text = found_sound m text (find_indent None m text) (indent_sound m text)
body_sound (Some d) m text = at_sound (Some d) m ((m - 1) + d) text (empties_at ((m - 1) + d) text) refl
    (λ texts rest l. eq-eqb ((m - 1) + d) ((m - 1) + d) refl)
