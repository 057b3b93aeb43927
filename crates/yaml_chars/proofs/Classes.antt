-- What a class of characters says of another: which hold each other's members, and which share none.
use Rattle.std.proofs.{Common.{◌≡◌, ℕ, true, false, arith}, lemmas.Bool.Decides.nat_tests}
use Rattle.yaml_chars.specs.Classes.{line_break, nb, white}

-- ---- members that are bytes of their own in UTF-8

-- ---- members of the one are members of the other

-- whitespace is nb
pub white_is_nb : (c : ℕ) → white c ≡ true → nb c ≡ true
white_is_nb c h = grind (arith, nat_tests)

-- ---- no member of the one is one of the other

-- a break is no whitespace
pub line_break_no_white : (c : ℕ) → line_break c ≡ true → white c ≡ false
line_break_no_white c h = grind (arith, nat_tests)
