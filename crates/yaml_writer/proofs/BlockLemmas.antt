-- Tests of the bytes of a block at once, and of all bytes by blocks.
use Rattle.std.proofs.Common.{◌≡◌, ℕ, ◌+◌, ◌-◌, ◌*◌, ◌%◌, ◌^◌, ◌≤◌, ◌==◌, Bool, true, false, not, cond, ◌&&◌, List, [], ◌∷◌, ◌++◌, map}
use Rattle.std.proofs.Common.{length, take, drop, Fits, w8, refl, sym, ap, ap₂, ◌∙◌, subst, arith}
use Rattle.yaml_writer.proofs.Prelude.{take-add, agree_below, agree_below_at, and_parts, nat_tests, length-append, length-map}
use Rattle.yaml_writer.proofs.Prelude.{length-take-le, length-drop, take-append-drop, take_all, list_all-append, map-map, mask_l-mod}
use Rattle.yaml_writer.proofs.Prelude.{pick_l_whole, list_all, range_with_len}
use lib.Lanes.{chunk, mask_l, top, Each1, pick_l}

-- ---- one block

none_set : (m : ℕ) → (0 + 2 * m == 0) ≡ (m == 0)
none_set m = grind (arith, nat_tests)

one_set : (m : ℕ) → (1 + 2 * m == 0) ≡ false
one_set m = grind (arith, nat_tests)

lowest_bit : (b : Bool) (m : ℕ) (r : Bool) → (m == 0) ≡ r → (cond b 1 0 + 2 * m == 0) ≡ (not b && r)
lowest_bit true m r e = one_set m
lowest_bit false m r e = none_set m ∙ e

-- a mask is 0 if no lane is set
no_bit : (q : ℕ → Bool) (xs : List ℕ) → (mask_l (map q xs) == 0) ≡ list_all (λ x. not (q x)) xs
no_bit q [] = refl
no_bit q (x ∷ xs) = lowest_bit (q x) (mask_l (map q xs)) _ (no_bit q xs)

-- two tests that agree at each byte
same_of_bytes : (q p : ℕ → Bool) → agree_below q p 256 ≡ true → (xs : List ℕ) → Each1 (Fits w8) xs → list_all q xs ≡ list_all p xs
same_of_bytes q p agree [] fits = refl
same_of_bytes q p agree (x ∷ xs) fits =
    ap₂ (λ a b. a && b) (agree_below_at q p 256 x agree fits.0.fits) (same_of_bytes q p agree xs fits.1)

-- the mask of the lanes f of a block is empty exactly if each byte passes p
pub lanes_pass : (p : ℕ → Bool) (block lanes : List ℕ) → length block ≤ 64 → Each1 (Fits w8) block
    → (f : ℕ → ℕ) → lanes ≡ map f block → agree_below (λ x. not (top 7 (f x))) p 256 ≡ true
    → (mask_l (map (top 7) lanes) % 2 ^ 64 == 0) ≡ list_all p block
lanes_pass p block lanes few fits f each agree =
    let set : ℕ → Bool = λ x. top 7 (f x) in
    let mask = ap (λ bits. mask_l bits % 2 ^ 64) (ap (map (top 7)) each ∙ map-map (top 7) f block)
    ∙ mask_l-mod (map set block) 64 (omega (arith, length-map block set, few)) in
    ap (λ m. m == 0) mask ∙ no_bit set block ∙ same_of_bytes (λ x. not (set x)) p agree block fits

-- ---- blocks of a list

-- one block after those that pass
pub one_more : (p : ℕ → Bool) (xs : List ℕ) (at n : ℕ) → list_all p (take at xs) ≡ true
    → list_all p (take (at + n) xs) ≡ list_all p (chunk at n xs)
one_more p xs at n passed =
    ap (list_all p) (take-add at n xs) ∙ list_all-append p (take at xs) (take n (drop at xs))
    ∙ ap (λ b. b && list_all p (take n (drop at xs))) passed

second_false : (a b : Bool) → b ≡ false → (a && b) ≡ false
second_false true b e = e
second_false false b e = refl

-- the first ones and the others
in_two : (p : ℕ → Bool) (xs : List ℕ) (n : ℕ) → list_all p xs ≡ (list_all p (take n xs) && list_all p (drop n xs))
in_two p xs n = ap (list_all p) (sym (take-append-drop n xs)) ∙ list_all-append p (take n xs) (drop n xs)

-- where the first ones don't all pass, they don't all
prefix_fails : (p : ℕ → Bool) (xs : List ℕ) (n : ℕ) → list_all p (take n xs) ≡ false → list_all p xs ≡ false
prefix_fails p xs n e = in_two p xs n ∙ ap (λ b. b && list_all p (drop n xs)) e

-- where a block doesn't pass, the whole doesn't
pub block_fails : (p : ℕ → Bool) (xs : List ℕ) (at n : ℕ) → list_all p (chunk at n xs) ≡ false → list_all p xs ≡ false
block_fails p xs at n e =
    in_two p xs at ∙ second_false (list_all p (take at xs)) (list_all p (drop at xs)) (prefix_fails p (drop at xs) n e)

-- the first ones of those that pass do too
passes_before : (p : ℕ → Bool) (xs : List ℕ) (m n : ℕ) → list_all p (take (m + n) xs) ≡ true → list_all p (take m xs) ≡ true
passes_before p xs m n e =
    (and_parts (list_all p (take m xs)) (list_all p (take n (drop m xs)))
    (sym (ap (list_all p) (take-add m n xs) ∙ list_all-append p (take m xs) (take n (drop m xs))) ∙ e)).0

-- the last ones may begin before the end of those that pass
last_pass : (p : ℕ → Bool) (xs : List ℕ) (start at : ℕ) → list_all p (take at xs) ≡ true → start ≤ at
    → list_all p (drop start xs) ≡ list_all p xs
last_pass p xs start at passed reached =
    let more : start + (at - start) ≡ at = omega arith in
    let before = passes_before p xs start (at - start) (subst (λ k. list_all p (take k xs) ≡ true) (sym more) passed) in
    sym (in_two p xs start ∙ ap (λ b. b && list_all p (drop start xs)) before)

-- the last n
pub last_chunk : (xs : List ℕ) (n : ℕ) → n ≤ length xs → chunk (length xs - n) n xs ≡ drop (length xs - n) xs
last_chunk xs n room = take_all n (drop (length xs - n) xs) (omega (arith, length-drop (length xs - n) xs))

-- so may the last block
pub last_block : (p : ℕ → Bool) (xs : List ℕ) (at n : ℕ) → list_all p (take at xs) ≡ true → n ≤ length xs → length xs - n ≤ at
    → list_all p (chunk (length xs - n) n xs) ≡ list_all p xs
last_block p xs at n passed room reached =
    ap (list_all p) (last_chunk xs n room) ∙ last_pass p xs (length xs - n) at passed reached

length-outer : (xs : List ℕ) (n : ℕ) → n ≤ length xs → length (take n xs ++ drop (length xs - n) xs) ≡ n + n
length-outer xs n room =
    omega (arith, length-append (take n xs) (drop (length xs - n) xs), length-take-le n xs room, length-drop (length xs - n) xs, room)

-- the lanes of two vectors, one of the first n and one of the last n
pub outer_lanes : (xs : List ℕ) (n : ℕ) → n ≤ length xs
    → pick_l 0 (chunk 0 n xs ++ chunk (length xs - n) n xs) (range_with_len 0 (n + n)) ≡ take n xs ++ drop (length xs - n) xs
outer_lanes xs n room =
    ap (λ last. pick_l 0 (take n xs ++ last) (range_with_len 0 (n + n))) (last_chunk xs n room)
    ∙ pick_l_whole 0 (take n xs ++ drop (length xs - n) xs) (n + n) (length-outer xs n room)

-- the lanes of such a vector, twice
pub outer_lanes_twice : (xs : List ℕ) (n : ℕ) → n ≤ length xs → (outer : List ℕ) → outer ≡ take n xs ++ drop (length xs - n) xs
    → pick_l 0 (outer ++ outer) (range_with_len 0 ((n + n) + (n + n)))
    ≡ (take n xs ++ drop (length xs - n) xs) ++ (take n xs ++ drop (length xs - n) xs)
outer_lanes_twice xs n room outer same =
    let long = ap length same ∙ length-outer xs n room in
    pick_l_whole 0 (outer ++ outer) ((n + n) + (n + n)) (length-append outer outer ∙ ap₂ (λ a b. a + b) long long)
    ∙ ap₂ (λ a b. a ++ b) same same

-- the first n and the last n, where there are at most twice as many
pub outer_pass : (p : ℕ → Bool) (xs : List ℕ) (n : ℕ) → n ≤ length xs → length xs ≤ n + n
    → list_all p (take n xs ++ drop (length xs - n) xs) ≡ list_all p xs
outer_pass p xs n room few =
    let last = drop (length xs - n) xs in
    let P : Bool → Type 0 = λ b. list_all p (take n xs) ≡ b → (list_all p (take n xs) && list_all p last) ≡ list_all p xs in
    list_all-append p (take n xs) last
    ∙ (elim (list_all p (take n xs)) as P [
      | true ↦ λ e. ap (λ b. b && list_all p last) e ∙ last_pass p xs (length xs - n) n e (omega arith)
      | false ↦ λ e. ap (λ b. b && list_all p last) e ∙ sym (prefix_fails p xs n e)
    ]) refl

-- the same, twice
pub outer_pass_twice : (p : ℕ → Bool) (xs : List ℕ) (n : ℕ) → n ≤ length xs → length xs ≤ n + n
    → list_all p ((take n xs ++ drop (length xs - n) xs) ++ (take n xs ++ drop (length xs - n) xs)) ≡ list_all p xs
outer_pass_twice p xs n room few =
    let outer = take n xs ++ drop (length xs - n) xs in
    list_all-append p outer outer ∙ both_same (list_all p outer) ∙ outer_pass p xs n room few
  where
    both_same : (b : Bool) → (b && b) ≡ b
    both_same true = refl
    both_same false = refl
