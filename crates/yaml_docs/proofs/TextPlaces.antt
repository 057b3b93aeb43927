-- Places of a text by what is between them.
use Rattle.std.proofs.Common.{ap, arith, inl, inr, length, length-append, length-drop, refl, subst, sym, ◌<◌, ◌∙◌, ◌≡◌, ◌≤◌}
use Rattle.std.{proofs.Math.Logic.◌⊎◌, specs.Prelude.{List, [], drop, false, true, ℕ, ◌++◌, ◌+◌, ◌==◌, ◌∷◌}}
use Rattle.yaml_docs.proofs.Prelude.{IsCharBoundary, IsUtf8, chars, cases_Bool, false≢true, IsCharBoundary-start, length-encode, between}
use Rattle.yaml_docs.proofs.Prelude.{rest, IsSplit, between-append, encodes-rest, rest-between, same_place, split_at, byte_len, first}
use Rattle.yaml_docs.proofs.Prelude.{is_empty, starts_line, line_starts, without_mark, order_mark, byte_len_joined, starts_joined}
use lib.Utf8.{encode, encodes}

-- ---- lengths in bytes

byte_len-encodes : (cs : List ℕ) → byte_len cs ≡ length (encodes cs)
byte_len-encodes [] = refl
byte_len-encodes (c ∷ cs) = let after = byte_len-encodes cs in omega (arith, after, length-append (encode c) (encodes cs), length-encode c)

byte_len-rest : (bs : List ℕ) (i : ℕ) → IsUtf8 bs → IsCharBoundary bs i → byte_len (rest bs i) + i ≡ length bs
byte_len-rest bs i u b =
    let e : byte_len (rest bs i) ≡ length (drop i bs) = byte_len-encodes (rest bs i) ∙ ap length (encodes-rest bs i u b) in
    omega (arith, e, length-drop i bs, b.0)

-- the characters have as many bytes as the text
pub byte_len-chars : (bs : List ℕ) → IsUtf8 bs → byte_len (chars bs) ≡ length bs
byte_len-chars bs u = let e = byte_len-rest bs 0 u (IsCharBoundary-start bs u) in omega (arith, e)

-- what is between two places says how far they are apart
pub spelled_end : (bs : List ℕ) (i j : ℕ) (xs : List ℕ) → IsUtf8 bs → IsCharBoundary bs i → IsCharBoundary bs j
    → rest bs i ≡ xs ++ rest bs j → j ≡ i + byte_len xs
spelled_end bs i j xs u b d e =
    let h : byte_len (rest bs i) ≡ byte_len xs + byte_len (rest bs j) = ap byte_len e ∙ byte_len_joined xs (rest bs j) in
    omega (arith, h, byte_len-rest bs i u b, byte_len-rest bs j u d)

-- the place after a text that is at a place
pub record StandsUpTo (bs : List ℕ) (i : ℕ) (xs after : List ℕ) (j : ℕ) : Type 0 where
  pub boundary : IsCharBoundary bs j
  pub leaves : rest bs j ≡ after
  pub is : between bs i j ≡ xs

-- the place after characters that are at a place
pub place_after : (bs : List ℕ) (i : ℕ) (xs after : List ℕ) → IsUtf8 bs → IsCharBoundary bs i
    → rest bs i ≡ xs ++ after → StandsUpTo bs i xs after (i + byte_len xs)
place_after bs i xs after u b e =
    let s : IsSplit bs i xs after (i + length (encodes xs)) = split_at bs i xs after u b e in
    let p : i + length (encodes xs) ≡ i + byte_len xs = ap (λ n. i + n) (sym (byte_len-encodes xs)) in
    subst (λ (j : ℕ). StandsUpTo bs i xs after j) p (record { boundary = s.boundary; leaves = s.spells_after; is = s.spells_prefix })

-- the characters between two places, if they are there
pub between_is : (bs : List ℕ) (i j : ℕ) (xs : List ℕ) → IsUtf8 bs → IsCharBoundary bs i → IsCharBoundary bs j
    → rest bs i ≡ xs ++ rest bs j → between bs i j ≡ xs
between_is bs i j xs u b d e =
    let s : StandsUpTo bs i xs (rest bs j) (i + byte_len xs) = place_after bs i xs (rest bs j) u b e in
    let p : i + byte_len xs ≡ j = sym (spelled_end bs i j xs u b d e) in
    subst (λ (k : ℕ). between bs i k ≡ xs) p s.is

-- ---- where lines start

starts_lists : (xs ys zs : List ℕ) → (is_empty xs ≡ false) ⊎ (first order_mark (ys ++ zs) ≡ false)
    → starts_line true (without_mark (xs ++ ys)) ≡ starts_line (starts_line true (without_mark xs)) ys
starts_lists (x ∷ xs) ys zs h = elim (cases_Bool (x == 0xfeff)) [
  | inl e ↦ rw e (starts_joined true xs ys)
  | inr e ↦ rw e (starts_joined true (x ∷ xs) ys)
]
starts_lists [] [] zs h = refl
starts_lists [] (y ∷ ys) zs (inl e) = absurd (false≢true (sym e))
starts_lists [] (y ∷ ys) zs (inr e) = rw e refl

no_order_mark : (text xs zs : List ℕ) → text ≡ xs ++ zs → first order_mark text ≡ false → first order_mark (xs ++ zs) ≡ false
no_order_mark text xs zs e h = subst (λ (t : List ℕ). first order_mark t ≡ false) e h

filled_before : (bs : List ℕ) (i : ℕ) → IsUtf8 bs → IsCharBoundary bs i → 0 < i → is_empty (between bs 0 i) ≡ false
filled_before bs i u b l = of_list (between bs 0 i) refl
  where
    of_list : (xs : List ℕ) → between bs 0 i ≡ xs → is_empty xs ≡ false
    of_list [] e =
        let same : rest bs 0 ≡ rest bs i = rest-between bs 0 i u (omega arith) (IsCharBoundary-start bs u) b ∙ ap (λ t. t ++ rest bs i) e in
        let zero : 0 ≡ i = same_place bs 0 i u (IsCharBoundary-start bs u) b same in
        absurd (omega arith)
    of_list (x ∷ xs) e = refl

-- a place that decides whether a line starts: no byte order mark comes after it
abbrev pub IsAfterMark : List ℕ → ℕ → Type 0
IsAfterMark bs i = (0 < i) ⊎ (first order_mark (rest bs i) ≡ false)

-- what is between two places decides whether a line starts
pub starts_between : (bs : List ℕ) (i j : ℕ) → IsUtf8 bs → i ≤ j → IsCharBoundary bs i → IsCharBoundary bs j → IsAfterMark bs i
    → line_starts bs j ≡ starts_line (line_starts bs i) (between bs i j)
starts_between bs i j u l b d m =
    let whole : between bs 0 j ≡ between bs 0 i ++ between bs i j =
    between-append bs 0 i j u (omega arith) l (IsCharBoundary-start bs u) b d in
    let unmarked : (is_empty (between bs 0 i) ≡ false) ⊎ (first order_mark (between bs i j ++ rest bs j) ≡ false) =
    elim m as (λ _. (is_empty (between bs 0 i) ≡ false) ⊎ (first order_mark (between bs i j ++ rest bs j) ≡ false)) [
      | inl p ↦ inl (filled_before bs i u b p)
      | inr f ↦ inr (no_order_mark (rest bs i) (between bs i j) (rest bs j) (rest-between bs i j u l b d) f)
    ] in
    ap (λ t. starts_line true (without_mark t)) whole ∙ starts_lists (between bs 0 i) (between bs i j) (rest bs j) unmarked
