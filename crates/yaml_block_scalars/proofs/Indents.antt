-- The indentation that lines set, by the places of the lines of spaces and of the first other line.
use Rattle.std.{proofs.Common.{◌≡◌, ℕ, ◌-◌, ◌<◌, ◌≤◌, true, false, List, Option, Some, None, ap, ◌∙◌, arith, length}, specs.Prelude.◌&&◌}
use Rattle.std.specs.Prelude.{◌||◌, max, not, nat_le, nat_lt, if◌then◌else◌}
use Rattle.yaml_block_scalars.proofs.Prelude.{IsUtf8, and_from, and_left, and_right, cond-true, cond-false, le-leb, le-ltb, lt-leb, lt-ltb}
use Rattle.yaml_block_scalars.proofs.Prelude.{or_from, or_left, or_right, nb, rest, char_at, rest-end, last_spaces, past_spaces, sets_none}
use Rattle.yaml_block_scalars.proofs.Prelude.{spaces_before, first, is_empty, marker, all_empties, find_indent, AreSpaces, IsNb}
use Rattle.yaml_block_scalars.specs.Lines.{AreLeading}

-- by the widest line of spaces and what comes after all of them
indent_by : ℕ → ℕ → List ℕ → Option ℕ
indent_by m width text =
    if sets_none m text then Some (max m (max width (last_spaces text)))
    else if nat_le width (spaces_before text) && first nb (past_spaces text) then Some (spaces_before text)
    else None

found_by : (m : ℕ) (bs : List ℕ) (i width j : ℕ) → AreLeading bs i width j → find_indent None m (rest bs i) ≡ indent_by m width (rest bs j)
unfolding indent_by
found_by m bs i width j h =
    ap (λ x. indent_by m x (all_empties (rest bs i)).1) h.widest_is ∙ ap (indent_by m width) h.leaves

module _ (m : ℕ) (bs : List ℕ) (i width j k : ℕ) (u : IsUtf8 bs) (h : AreLeading bs i width j) (s : AreSpaces bs j k) where
  set_none : (q : ℕ) → sets_none m (rest bs j) ≡ true → last_spaces (rest bs j) ≡ q
      → find_indent None m (rest bs i) ≡ Some (max m (max width q))
  unfolding indent_by
  set_none q n l =
      found_by m bs i width j h ∙ cond-true (sets_none m (rest bs j)) _ _ n ∙ ap (λ x. Some (max m (max width x))) l

  -- spaces up to the end of the text set the indentation
  pub indent_at_end : length bs ≤ k → find_indent None m (rest bs i) ≡ Some (max m (max width (k - j)))
  indent_at_end l =
      let none : is_empty (past_spaces (rest bs j)) ≡ true = ap is_empty (s.leaves ∙ rest-end bs k l) in
      set_none (k - j) (or_left _ _ (or_left _ _ none))
      (cond-true (is_empty (past_spaces (rest bs j))) (spaces_before (rest bs j)) 0 none ∙ s.counts)

  filled : k < length bs → is_empty (past_spaces (rest bs j)) ≡ false
  filled l = let there = char_at bs k u s.boundary l in ap is_empty (s.leaves ∙ there.1.splits)

  least : (q : ℕ) → sets_none m (rest bs j) ≡ true → k < length bs → find_indent None m (rest bs i) ≡ Some (max m width)
  least q n l =
      set_none 0 n (cond-false (is_empty (past_spaces (rest bs j))) (spaces_before (rest bs j)) 0 (filled l))
      ∙ ap (λ x. Some (max m x)) (let e : max width 0 ≡ width = omega arith in e)

  -- a line with too few spaces sets none, so the widest does
  pub indent_narrow : k < length bs → k - j < m → find_indent None m (rest bs i) ≡ Some (max m width)
  indent_narrow l w =
      least 0 (or_left _ _ (or_right (is_empty (past_spaces (rest bs j))) _ (ap (λ x. nat_lt x m) s.counts ∙ lt-ltb (k - j) m w))) l

  -- so does a marker
  pub indent_marked : k < length bs → marker (rest bs j) ≡ true → find_indent None m (rest bs i) ≡ Some (max m width)
  indent_marked l e =
      least 0 (or_right (is_empty (past_spaces (rest bs j)) || nat_lt (spaces_before (rest bs j)) m) _ (ap (λ x. not (not x)) e)) l

  set_here : k < length bs → m ≤ k - j → marker (rest bs j) ≡ false
      → find_indent None m (rest bs i) ≡ (if nat_le width (spaces_before (rest bs j))
      && first nb (past_spaces (rest bs j)) then Some (spaces_before (rest bs j)) else None)
  unfolding indent_by
  set_here l w e =
      found_by m bs i width j h
      ∙ cond-false (sets_none m (rest bs j)) _ _
      (or_from _ _ (or_from _ _ (filled l) (ap (λ x. nat_lt x m) s.counts ∙ le-ltb (k - j) m w)) (ap (λ x. not (not x)) e))

  -- a line of spaces wider than the first text line is refused
  pub indent_too_wide : k < length bs → m ≤ k - j → marker (rest bs j) ≡ false → k - j < width → find_indent None m (rest bs i) ≡ None
  indent_too_wide l w e x =
      set_here l w e ∙ cond-false _ _ None (and_left (nat_le width (spaces_before (rest bs j))) _
      (ap (nat_le width) s.counts ∙ lt-leb width (k - j) x))

  -- so is a first line with a character that isn't allowed
  pub indent_no_text : k < length bs → m ≤ k - j → marker (rest bs j) ≡ false → first nb (rest bs k) ≡ false
      → find_indent None m (rest bs i) ≡ None
  indent_no_text l w e x =
      set_here l w e ∙ cond-false _ _ None (and_right (nat_le width (spaces_before (rest bs j))) _ (ap (first nb) s.leaves ∙ x))

  -- else the first text line sets the indentation
  pub indent_set : k < length bs → m ≤ k - j → marker (rest bs j) ≡ false → width ≤ k - j
      → first nb (rest bs k) ≡ true → find_indent None m (rest bs i) ≡ Some (k - j)
  indent_set l w e x n =
      set_here l w e
      ∙ cond-true _ _ None (and_from _ _ (ap (nat_le width) s.counts ∙ le-leb width (k - j) x) (ap (first nb) s.leaves ∙ n))
      ∙ ap (λ (y : ℕ). Some y) s.counts

-- a character that is nb is there
pub nb_there : (bs : List ℕ) (i j : ℕ) → IsNb bs i j → first nb (rest bs i) ≡ true
nb_there bs i j h = ap (first nb) h.splits ∙ h.fits
