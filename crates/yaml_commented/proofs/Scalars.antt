-- What the presentations of scalars in the one style spell, and which parts of them fit, as the laws of that style have
-- it.
use Rattle.std.proofs.{Common.{◌≡◌, refl, sym, ◌∙◌, ap}, lemmas.{Bool.{and_parts, not-true, or_parts, false≢true}, List.append-nil}}
use Rattle.std.specs.Prelude.{ℕ, zero, suc, ◌+◌, Bool, true, false, cond, not, ◌&&◌, ◌==◌, List, [], ◌∷◌, ◌++◌, codes, drop}
use Rattle.std.specs.List.{list_all}
use Rattle.{yaml_chars.specs.Classes.is_in, yaml_grammar.specs.{Texts.{is_empty, first}, FlowScalars.{plain, double}, FlowNodes.scalar}}
use Rattle.yaml_grammar.specs.{FlowNodes.flow_text, BlockScalars.{chomping_text, text_lines_text}, BlockNodes.{flow, block, node_text}}
use Rattle.yaml_grammar.specs.{Trees.text, Style.{plain_in_style, literal_in_style, in_double_quotes, literal_mark, literal_lines}}
use Rattle.{yaml_grammar.specs.Style.{feeds_at_end, shown_or_feed, space_or_feed}, yaml_recognizers.proofs.OneStyle.Presented.feed}
use Rattle.yaml_recognizers.proofs.OneStyle.Presented.{one_space, items_of_text, lines_in, chomping_of, literal_block}
use Rattle.yaml_recognizers.proofs.OneStyle.Spelled.{word_flow_spelled, element_spelled}

-- ---- words and quotes

-- a word spells itself
pub word_spelled : (value : List ℕ) → plain_in_style value ≡ true → flow_text (scalar (plain value [])) ≡ value
word_spelled value e = by (plain_in_style value) e (word_flow_spelled value)
  where
    by : (b : Bool) → b ≡ true
        → flow_text (scalar (cond b (plain value []) (double (items_of_text value) []))) ≡ cond b value (in_double_quotes value)
        → flow_text (scalar (plain value [])) ≡ value
    by true f h = h
    by false f h = absurd (false≢true f)

-- another text is spelled between double quotes
pub quoted_spelled : (value : List ℕ) → plain_in_style value ≡ false
    → flow_text (scalar (double (items_of_text value) [])) ≡ in_double_quotes value
quoted_spelled value e = by (plain_in_style value) e (word_flow_spelled value)
  where
    by : (b : Bool) → b ≡ false
        → flow_text (scalar (cond b (plain value []) (double (items_of_text value) []))) ≡ cond b value (in_double_quotes value)
        → flow_text (scalar (double (items_of_text value) [])) ≡ in_double_quotes value
    by true f h = absurd (false≢true (sym f))
    by false f h = h

-- ---- literals

-- what a literal in the one style is
pub literal_parts : (value : List ℕ) → literal_in_style value ≡ true
    → (is_in 10 value ≡ true) × (first space_or_feed value ≡ false) × (list_all shown_or_feed value ≡ true)
literal_parts value h =
    let p : (is_in 10 value && not (first space_or_feed value) ≡ true) × (list_all shown_or_feed value ≡ true) = and_parts _ _ h in
    let q : (is_in 10 value ≡ true) × (not (first space_or_feed value) ≡ true) = and_parts _ _ p.0 in
    (q.0, not-true _ q.1, p.1)

-- it has a text line
pub literal_filled : (value : List ℕ) → literal_in_style value ≡ true → is_empty (lines_in true value) ≡ false
literal_filled [] h = absurd (false≢true h)
literal_filled (c ∷ cs) h =
    let p : (is_in 10 (c ∷ cs) ≡ true) × (first space_or_feed (c ∷ cs) ≡ false) ×
    (list_all shown_or_feed (c ∷ cs) ≡ true) = literal_parts (c ∷ cs) h in
    let f : (c == 10) ≡ false = (or_parts (c == 32) (c == 10) p.1).1 in
    rw f

-- what is behind the header of a literal is the same in two texts that are equal
behind_header : (n : ℕ) (lines source : List ℕ)
    → 32 ∷ (((124 ∷ (chomping_text (chomping_of n) ++ (10 ∷ []))) ++ lines) ++ []) ≡ 32 ∷ ((literal_mark n ++ (10 ∷ [])) ++ source)
    → lines ≡ source
behind_header zero lines source h = sym (append-nil lines) ∙ ap (drop 4) h
behind_header (suc zero) lines source h = sym (append-nil lines) ∙ ap (drop 3) h
behind_header (suc (suc n)) lines source h = sym (append-nil lines) ∙ ap (drop 4) h

-- the text lines of a literal spell its lines
pub literal_lines_spelled : (i : ℕ) (value : List ℕ) → plain_in_style value ≡ false → literal_in_style value ≡ true
    → text_lines_text (i + 2) (lines_in true value) ≡ literal_lines (i + 2) true value
literal_lines_spelled i value e f = by (plain_in_style value) (literal_in_style value) e f (element_spelled (text value) i)
  where
    by : (p l : Bool) → p ≡ false → l ≡ true
        → node_text (cond p (flow one_space (scalar (plain value [])) (feed ∷ []))
        (cond l (block one_space (literal_block (i + 2) value))
        (flow one_space (scalar (double (items_of_text value) [])) (feed ∷ []))))
        ≡ 32 ∷ cond p (value ++ codes "\n")
        (cond l (literal_mark (feeds_at_end value) ++ codes "\n" ++ literal_lines (i + 2) true value)
        (in_double_quotes value ++ codes "\n"))
        → text_lines_text (i + 2) (lines_in true value) ≡ literal_lines (i + 2) true value
    by true l e f h = absurd (false≢true (sym e))
    by false false e f h = absurd (false≢true f)
    by false true e f h = behind_header (feeds_at_end value) _ _ h

-- the header of a literal is spelled as the one style writes it
pub mark_spelled : (n : ℕ) → 124 ∷ chomping_text (chomping_of n) ≡ literal_mark n
mark_spelled zero = refl
mark_spelled (suc zero) = refl
mark_spelled (suc (suc n)) = refl
