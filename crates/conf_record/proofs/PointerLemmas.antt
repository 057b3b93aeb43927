-- A pointer has at most twice the bytes of its tokens.
use Rattle.std.proofs.Common.{◌≡◌, ℕ, ◌+◌, ◌*◌, ◌<◌, ◌≤◌, Bool, true, false, not, ◌&&◌, ◌||◌, ◌==◌, if◌then◌else◌, List, [], ◌∷◌, map}
use Rattle.std.proofs.Common.{Option, Some, None, option_map, Ok, Err, refl, ap, arith}
use Rattle.conf_record.proofs.Prelude.{nat_tests, len_utf8_bounds, len_utf8, tilde, byte_len, slash, stray, first_stray, first_piece}
use Rattle.conf_record.proofs.{Prelude.{pieces, token_from_text, tokens_or_place, path_of}, PathLemmas.tokens_size}
use Rattle.json_pointer.specs.declared.fault.PathFault.TheVariants.{BadPath}

-- what comes before the first `/`, and the tokens after it
abbrev parts_size : List ℕ → ℕ
parts_size cs = byte_len (token_from_text (first_piece cs)) + tokens_size (map token_from_text (pieces cs))

kept_after : (c : ℕ) (cs : List ℕ) → first_stray (c ∷ cs) ≡ None → (stray (c ∷ cs) ≡ false) × (first_stray cs ≡ None)
kept_after c cs none = by (stray (c ∷ cs)) (first_stray cs) none
  where
    by : (b : Bool) (o : Option ℕ) → (if b then Some 0 else option_map (λ n. len_utf8 c + n) o) ≡ None → (b ≡ false) × (o ≡ None)
    by true o e = cc
    by false None e = (refl, refl)
    by false (Some n) e = cc

sign_byte : (c sign : ℕ) → sign < 128 → (c == sign) ≡ true → len_utf8 c ≡ 1
sign_byte c sign small e = grind (arith, nat_tests)

digit_byte : (d : ℕ) → ((d == 48) || (d == 49)) ≡ true → len_utf8 d ≡ 1
digit_byte d e = grind (arith, nat_tests)

digit_no_slash : (d : ℕ) → ((d == 48) || (d == 49)) ≡ true → (d == slash) ≡ false
digit_no_slash d e = grind (arith, nat_tests)

digit_no_tilde : (d : ℕ) → ((d == 48) || (d == 49)) ≡ true → (d == tilde) ≡ false
digit_no_tilde d e = grind (arith, nat_tests)

slash_more : (c : ℕ) (cs : List ℕ) → (c == slash) ≡ true → byte_len cs ≤ 2 * parts_size cs → byte_len (c ∷ cs) ≤ 2 * parts_size (c ∷ cs)
slash_more c cs is rest =
    let parts : parts_size (c ∷ cs) ≡ 1 + parts_size cs = rw is (omega arith) in
    omega (arith, sign_byte c slash (omega arith) is, parts, rest)

itself_more : (c : ℕ) (cs : List ℕ) → (c == slash) ≡ false → (c == tilde) ≡ false → byte_len cs ≤ 2 * parts_size cs
    → byte_len (c ∷ cs) ≤ 2 * parts_size (c ∷ cs)
itself_more c cs no_slash no_tilde rest =
    let parts : parts_size (c ∷ cs) ≡ len_utf8 c + parts_size cs = rw (no_slash, no_tilde) (omega arith) in
    omega (arith, parts, rest)

tilde_more : (c d : ℕ) (ds : List ℕ) → (c == slash) ≡ false → (c == tilde) ≡ true → ((d == 48) || (d == 49)) ≡ true
    → byte_len ds ≤ 2 * parts_size ds
    → byte_len (c ∷ d ∷ ds) ≤ 2 * parts_size (c ∷ d ∷ ds)
tilde_more c d ds no_slash is digit rest =
    let spelled = if d == 48 then tilde else slash in
    let parts : parts_size (c ∷ d ∷ ds) ≡ len_utf8 spelled + parts_size ds =
    rw (no_slash, is, digit_no_slash d digit, digit_no_tilde d digit) (omega arith) in
    omega (arith, sign_byte c tilde (omega arith) is, digit_byte d digit, len_utf8_bounds spelled, parts, rest)

pieces_bytes : (cs : List ℕ) → first_stray cs ≡ None → byte_len cs ≤ 2 * parts_size cs
pieces_bytes [] none = omega arith
pieces_bytes (c ∷ []) none = by (c == slash) refl (c == tilde) refl
  where
    by : (s : Bool) → (c == slash) ≡ s → (t : Bool) → (c == tilde) ≡ t → byte_len (c ∷ []) ≤ 2 * parts_size (c ∷ [])
    by true is t e = slash_more c [] is (omega arith)
    by false no_slash false e = itself_more c [] no_slash e (omega arith)
    by false no_slash true e = let bad = rw e at (kept_after c [] none).0 in cc
pieces_bytes (c ∷ d ∷ ds) none =
    let kept = kept_after c (d ∷ ds) none in
    by (c == slash) refl (c == tilde) refl kept.0 (pieces_bytes (d ∷ ds) kept.1) (pieces_bytes ds (kept_after d ds kept.1).1)
  where
    by : (s : Bool) → (c == slash) ≡ s → (t : Bool) → (c == tilde) ≡ t → (t && not ((d == 48) || (d == 49))) ≡ false
        → byte_len (d ∷ ds) ≤ 2 * parts_size (d ∷ ds) → byte_len ds ≤ 2 * parts_size ds
        → byte_len (c ∷ d ∷ ds) ≤ 2 * parts_size (c ∷ d ∷ ds)
    by true is t e kept rest further = slash_more c (d ∷ ds) is rest
    by false no_slash false e kept rest further = itself_more c (d ∷ ds) no_slash e rest
    by false no_slash true e kept rest further = tilde_more c d ds no_slash e (negated ((d == 48) || (d == 49)) kept) further
      where
        negated : (b : Bool) → not b ≡ false → b ≡ true
        negated true h = refl
        negated false h = cc

-- the pointer is empty, or begins with `/` and has no stray `~`
pub pointer_bytes : (path : List ℕ) (tokens : List (List ℕ)) → path_of path ≡ Ok tokens → byte_len path ≤ 2 * tokens_size tokens
pointer_bytes [] tokens is = omega arith
pointer_bytes (c ∷ cs) tokens is = by (c == slash) refl (first_stray (c ∷ cs)) refl is
  where
    by : (s : Bool) → (c == slash) ≡ s → (o : Option ℕ) → first_stray (c ∷ cs) ≡ o
        → tokens_or_place (if s then o else Some 0) (c ∷ cs) ≡ Ok tokens
        → byte_len (c ∷ cs) ≤ 2 * tokens_size tokens
    by true slashed None none parsed =
        let same : map token_from_text (pieces (c ∷ cs)) ≡ tokens = cc in
        let bytes = pieces_bytes (c ∷ cs) none in
        let prefix : byte_len (token_from_text (first_piece (c ∷ cs))) ≡ 0 = rw slashed refl in
        let after = ap tokens_size same in
        omega (arith, bytes, prefix, after)
    by true slashed (Some n) stray parsed = let refused : Err (BadPath n) ≡ Ok tokens = parsed in cc
    by false other o stray parsed = let refused : Err (BadPath 0) ≡ Ok tokens = parsed in cc
