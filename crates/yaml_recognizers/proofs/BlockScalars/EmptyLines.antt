-- Lines of spaces: those that fit are read, and those that are read fit, up to where there is none.
use Rattle.std.{proofs.Common.{ap, append_assoc, arith, inl, inr, length-append, refl, subst, sym, ◌<◌, ◌∙◌, ◌≡◌, ◌≤◌}, specs.Prelude.Bool}
use Rattle.std.specs.Prelude.{List, None, Some, [], false, is_some, length, max, nat_le, suc, true, zero, ℕ, ◌&&◌, ◌++◌, ◌+◌, ◌∷◌}
use Rattle.yaml_recognizers.proofs.Prelude.{and_from, and_left, and_parts, cases_Bool, cond_both, le-leb, leb-true, line_break, space}
use Rattle.yaml_recognizers.proofs.Prelude.{BlockEmptyLine, block_empties_fit, block_empties_text, past_spaces, spaces_before, widest}
use Rattle.yaml_recognizers.proofs.{Prelude.{Break, break_fits, break_text, cr, cr_lf, lf, first, spaces}, Basics.Prefixes.spaces_split}
use Rattle.yaml_recognizers.proofs.Basics.{Reading.{Sound, sound_to}, Breaks.{BreakOf, break_read, break_some, break_sound, unbroken}}
use Rattle.yaml_recognizers.{proofs.Basics.Spaces.{at_most, empty_here, no_space, spaces_added, spaces_past}, specs.Comments.read_break}
use Rattle.yaml_recognizers.specs.{Reading.Read, BlockScalars.{empties_at, empties_of, more_empties, read_empties}}

-- empty lines whose widths meet p
abbrev pub empties_meet : (ℕ → Bool) → List BlockEmptyLine → List ℕ → Bool
empties_meet p [] after = true
empties_meet p (g ∷ gs) after = p g.width && break_fits g.stop (block_empties_text gs ++ after) && empties_meet p gs after

-- empty lines fit at an indentation exactly if their widths pass the test
pub fit_meet : (q : ℕ) (gs : List BlockEmptyLine) (after : List ℕ) → block_empties_fit q gs after ≡ empties_meet (at_most q) gs after
fit_meet q [] after = refl
fit_meet q (g ∷ gs) after = ap (λ (b : Bool). nat_le g.width q && break_fits g.stop (block_empties_text gs ++ after)
    && b) (fit_meet q gs after)

-- ---- those that fit are read

-- where no empty line starts, none is read
no_empty_read : (fuel : ℕ) (p : ℕ → Bool) (text : List ℕ) → empty_here p text ≡ false → read_empties fuel p text ≡ ([], text)
no_empty_read zero p text h = refl
no_empty_read (suc fuel) p text h = elim (cases_Bool (p (spaces_before text))) [
  | inl e ↦ (let n : first line_break (past_spaces text) ≡ false = rw e at h in rw (e, unbroken (past_spaces text) n))
  | inr e ↦ rw e
]

-- a break starts with no space
break_unspaced : (b : Break) (rest : List ℕ) → first space (break_text b ++ rest) ≡ false
break_unspaced lf rest = refl
break_unspaced cr rest = refl
break_unspaced cr_lf rest = refl

-- the spaces of an empty line are counted
empty_counted : (g : BlockEmptyLine) (rest : List ℕ) → spaces_before (spaces g.width ++ (break_text g.stop ++ rest)) ≡ g.width
empty_counted g rest = spaces_added g.width (break_text g.stop ++ rest)
    ∙ (ap (λ (n : ℕ). g.width + n) (no_space (break_text g.stop ++ rest) (break_unspaced g.stop rest)).0 ∙ omega arith)

-- after them comes its break
empty_passed : (g : BlockEmptyLine) (rest : List ℕ)
    → past_spaces (spaces g.width ++ (break_text g.stop ++ rest)) ≡ break_text g.stop ++ rest
empty_passed g rest = spaces_past g.width (break_text g.stop ++ rest)
    ∙ (no_space (break_text g.stop ++ rest) (break_unspaced g.stop rest)).1

-- empty lines that meet the test are read
empties_read : (fuel : ℕ) (p : ℕ → Bool) (gs : List BlockEmptyLine) (after : List ℕ) → length gs < fuel
    → empties_meet p gs after ≡ true → empty_here p after ≡ false
    → read_empties fuel p (block_empties_text gs ++ after) ≡ (gs, after)
empties_read fuel p [] after l h n = no_empty_read fuel p after n
empties_read zero p (g ∷ gs) after l h n = absurd (omega arith)
empties_read (suc fuel) p (g ∷ gs) after l h n =
    let a : (p g.width && break_fits g.stop (block_empties_text gs ++ after) ≡ true) × (empties_meet p gs after ≡ true) = and_parts _ _ h in
    let b : (p g.width ≡ true) × (break_fits g.stop (block_empties_text gs ++ after) ≡ true) = and_parts _ _ a.0 in
    let rest : List ℕ = block_empties_text gs ++ after in
    let regrouped : block_empties_text (g ∷ gs) ++ after ≡ spaces g.width ++ (break_text g.stop ++ rest) = simp append_assoc in
    let more : read_empties fuel p rest ≡ (gs, after) = empties_read fuel p gs after (omega arith) a.1 n in
    ap (read_empties (suc fuel) p) regrouped ∙ rw (empty_counted g rest, empty_passed g rest, b.0, break_read g.stop rest b.1, more)

-- ---- those that are read fit

-- the empty lines fit at the start of the text, and none comes after them
abbrev pub EmptiesOf : (ℕ → Bool) → List ℕ → List BlockEmptyLine × List ℕ → Type 0
EmptiesOf p text g = (text ≡ block_empties_text g.0 ++ g.1) × (empties_meet p g.0 g.1 ≡ true) × (empty_here p g.1 ≡ false)

-- an empty line is its spaces and its break
pub empty_split : (text rest : List ℕ) (b : Break) → past_spaces text ≡ break_text b ++ rest
    → text ≡ spaces (spaces_before text) ++ (break_text b ++ rest)
empty_split text rest b e = spaces_split text ∙ ap (λ t. spaces (spaces_before text) ++ t) e

-- a first empty line and those that are read after it meet the test
more_sound : (p : ℕ → Bool) (text : List ℕ) (again : List ℕ → List BlockEmptyLine × List ℕ) (r : Read Break)
    → p (spaces_before text) ≡ true → is_some r ≡ first line_break (past_spaces text)
    → Sound (λ b rest. BreakOf (past_spaces text) b rest × EmptiesOf p rest (again rest)) r
    → EmptiesOf p text (more_empties (spaces_before text) text again r)
more_sound p text again None w i s = (refl, refl, rw (w, sym i) refl)
more_sound p text again (Some r) w i s =
    let g : BlockEmptyLine = record { width = spaces_before text; stop = r.0 } in
    let more : List BlockEmptyLine × List ℕ = again r.1 in
    let regrouped : block_empties_text (g ∷ more.0) ++ more.1
    ≡ spaces g.width ++ (break_text r.0 ++ (block_empties_text more.0 ++ more.1)) = simp append_assoc in (
      empty_split text r.1 r.0 (s.0).0 ∙ (ap (λ t. spaces (spaces_before text) ++ (break_text r.0 ++ t)) (s.1).0 ∙ sym regrouped),
      and_from _ _ (and_from _ _ w (subst (λ (t : List ℕ). break_fits r.0 t ≡ true) (s.1).0 (s.0).1)) (s.1).1,
      (s.1).2,
    )

-- a break has a character
break_long : (b : Break) → 0 < length (break_text b)
break_long lf = omega arith
break_long cr = omega arith
break_long cr_lf = omega arith

-- an empty line takes something of the text
empty_shorter : (text rest : List ℕ) (b : Break) → past_spaces text ≡ break_text b ++ rest → length rest < length text
empty_shorter text rest b e =
    rw (empty_split text rest b e) (omega (
      arith,
      break_long b,
      length-append (spaces (spaces_before text)) (break_text b ++ rest),
      length-append (break_text b) rest,
    ))

-- empty lines that are read meet the test
empties_sound : (fuel : ℕ) (p : ℕ → Bool) (text : List ℕ) → length text < fuel → EmptiesOf p text (read_empties fuel p text)
empties_sound zero p text l = absurd (omega arith)
empties_sound (suc fuel) p text l =
    cond_both (p (spaces_before text)) (more_empties (spaces_before text) text (λ rest. read_empties fuel p rest)
    (read_break (past_spaces text))) ([], text) (EmptiesOf p text)
    (λ w. more_sound p text (λ rest. read_empties fuel p rest) (read_break (past_spaces text)) w (break_some (past_spaces text))
    (sound_to (BreakOf (past_spaces text)) (λ b rest. BreakOf (past_spaces text) b rest
    × EmptiesOf p rest (read_empties fuel p rest)) (read_break (past_spaces text)) (break_sound (past_spaces text))
    (λ b rest s. (s, let k : length rest < length text = empty_shorter text rest b s.0 in empties_sound fuel p rest (omega arith)))))
    (λ w. (refl, refl, and_left _ _ w))

-- ---- with enough fuel

-- there are no more empty lines than characters
empties_few : (gs : List BlockEmptyLine) (after : List ℕ) → length gs < suc (length (block_empties_text gs ++ after))
empties_few [] after = omega arith
empties_few (g ∷ gs) after =
    let rest : List ℕ = block_empties_text gs ++ after in
    let regrouped : block_empties_text (g ∷ gs) ++ after ≡ spaces g.width ++ (break_text g.stop ++ rest) = simp append_assoc in
    let more : length gs < suc (length rest) = empties_few gs after in
    rw regrouped (omega (
      arith,
      break_long g.stop,
      length-append (spaces g.width) (break_text g.stop ++ rest),
      length-append (break_text g.stop) rest,
    ))

-- empty lines that fit are read
pub empties_of_read : (p : ℕ → Bool) (gs : List BlockEmptyLine) (after : List ℕ) → empties_meet p gs after ≡ true
    → empty_here p after ≡ false → empties_of p (block_empties_text gs ++ after) ≡ (gs, after)
empties_of_read p gs after h n = empties_read (suc (length (block_empties_text gs ++ after))) p gs after (empties_few gs after) h n

-- empty lines that are read fit
pub empties_of_sound : (p : ℕ → Bool) (text : List ℕ) → EmptiesOf p text (empties_of p text)
empties_of_sound p text = empties_sound (suc (length text)) p text (omega arith)

-- the same at an indentation
pub empties_at_read : (q : ℕ) (gs : List BlockEmptyLine) (after : List ℕ) → block_empties_fit q gs after ≡ true
    → empty_here (at_most q) after ≡ false → empties_at q (block_empties_text gs ++ after) ≡ (gs, after)
empties_at_read q gs after h n = empties_of_read (at_most q) gs after (sym (fit_meet q gs after) ∙ h) n

-- ---- widths

-- empty lines that fit are lines of spaces, none of them wider
pub fit_all : (q : ℕ) (gs : List BlockEmptyLine) (after : List ℕ) → block_empties_fit q gs after ≡ true
    → (empties_meet (λ _. true) gs after ≡ true) × (nat_le (widest gs) q ≡ true)
fit_all q [] after h = (refl, le-leb 0 q (omega arith))
fit_all q (g ∷ gs) after h =
    let a : (nat_le g.width q && break_fits g.stop (block_empties_text gs ++ after) ≡ true)
    × (block_empties_fit q gs after ≡ true) = and_parts _ _ h in
    let b : (nat_le g.width q ≡ true) × (break_fits g.stop (block_empties_text gs ++ after) ≡ true) = and_parts _ _ a.0 in
    let more : (empties_meet (λ _. true) gs after ≡ true) × (nat_le (widest gs) q ≡ true) = fit_all q gs after a.1 in
    let w : g.width ≤ q = leb-true g.width q b.0 in
    let v : widest gs ≤ q = leb-true (widest gs) q more.1 in
    (and_from _ _ b.1 more.0, le-leb (max g.width (widest gs)) q (omega arith))

-- lines of spaces, none of them wider, fit
pub all_fit : (q : ℕ) (gs : List BlockEmptyLine) (after : List ℕ) → empties_meet (λ _. true) gs after ≡ true
    → nat_le (widest gs) q ≡ true → block_empties_fit q gs after ≡ true
all_fit q [] after h w = refl
all_fit q (g ∷ gs) after h w =
    let a : (break_fits g.stop (block_empties_text gs ++ after) ≡ true) × (empties_meet (λ _. true) gs after ≡ true) = and_parts _ _ h in
    let m : max g.width (widest gs) ≤ q = leb-true (max g.width (widest gs)) q w in
    and_from _ _ (and_from _ _ (le-leb g.width q (omega arith)) a.0) (all_fit q gs after a.1 (le-leb (widest gs) q (omega arith)))
