-- Signs and markers, by the bytes at a place.
use Rattle.std.proofs.Common.{◌≡◌, ℕ, ◌+◌, ◌<◌, ◌≤◌, Bool, true, false, List, [], ◌∷◌, refl, ap, sym, ◌∙◌, subst, arith, length, inl, inr}
use Rattle.std.{proofs.Common.get_or, specs.Prelude.{not, ◌&&◌, ◌||◌, ◌==◌, nat_lt}}
use Rattle.yaml_scan.proofs.Prelude.{len_utf8, IsUtf8, IsCharBoundary, and_parts, cases_Bool, eqb-true, false≢true, nat_tests, line_break}
use Rattle.yaml_scan.proofs.Prelude.{ns, white, rest, char_at, rest-end, IsBlind, blind-line_break, blind-not, blind-or, blind-white}
use Rattle.yaml_scan.proofs.{Prelude.{begins, ends_word, first, marker, hash, solid, sign}, ByteRuns.{ascii_prefix, ascii_at_beginning}}
use Rattle.yaml_scan.{proofs.ByteRuns.{first_at_end, first_there}, specs.{Markers.sign_of, ScanPlaces.{is_sign, ends_word_byte}}}
use Rattle.yaml_scan.specs.declared.signs.Marker.{Marker, TheVariants.{DirectivesEnd, DocumentEnd}}
use Rattle.yaml_recognizers.specs.Streams.{marker_of}

-- ---- one byte

-- the test for a sign doesn't distinguish characters from 128 on
pub blind-is_sign : (x : ℕ) → x < 128 → IsBlind (is_sign x)
blind-is_sign x a y h l = above y h ∙ sym (above 128 (omega arith))
  where
    above : (y : ℕ) → 128 ≤ y → (y == x) ≡ false
    above y k = grind (arith, nat_tests)

-- nor does that for `#`
pub blind-hash : IsBlind hash
blind-hash c h l = grind (arith, nat_tests)

-- nor does that for solid characters
pub blind-solid : IsBlind solid
blind-solid = blind-not (λ x. white x || line_break x || hash x)
    (blind-or (λ x. white x || line_break x) hash (blind-or white line_break blind-white blind-line_break) blind-hash)

-- The text ends at the place: no character passes there.
pub past_end : (test : ℕ → Bool) (bs : List ℕ) (at : ℕ) → length bs ≤ at → nat_lt at (length bs) ≡ first test (rest bs at)
past_end test bs at l =
    let e : nat_lt at (length bs) ≡ false = grind (arith, nat_tests) in
    e ∙ sym (first_at_end test bs at l)

-- an ASCII character is at the place
pub record IsSign (bs : List ℕ) (at x : ℕ) : Type 0 where
  pub below : at < length bs
  pub boundary : IsCharBoundary bs (at + 1)
  pub splits : rest bs at ≡ x ∷ rest bs (at + 1)

head_passes : (x : ℕ) (cs : List ℕ) → first (is_sign x) cs ≡ true → (after : List ℕ) × (cs ≡ x ∷ after)
head_passes x [] h = absurd (false≢true h)
head_passes x (c ∷ cs) h = (cs, ap (λ y. y ∷ cs) (eqb-true c x h))

-- the sign that starts the rest is at the place
pub sign_there : (bs : List ℕ) (at x : ℕ) → IsUtf8 bs → IsCharBoundary bs at → x < 128
    → first (is_sign x) (rest bs at) ≡ true → IsSign bs at x
sign_there bs at x u b a h =
    let prefix = head_passes x (rest bs at) h in
    let there = ascii_at_beginning bs at x prefix.0 u b a prefix.1 in
    record { below = there.within; boundary = there.boundary; splits = prefix.1 ∙ ap (λ t. x ∷ t) there.leaves }

-- ---- a sign before no ns

-- a text that doesn't start with the sign has none
pub no_sign : (x : ℕ) (cs : List ℕ) → first (is_sign x) cs ≡ false → sign x cs ≡ false
no_sign x [] h = refl
no_sign x (c ∷ cs) h = rw h refl

same : (x : ℕ) → (x == x) ≡ true
same x = grind (arith, nat_tests)

-- whether a sign is one of a block depends on what comes after it
pub sign_before : (bs : List ℕ) (at x : ℕ) → IsSign bs at x → not (first ns (rest bs (at + 1))) ≡ sign x (rest bs at)
sign_before bs at x s = sym (ap (sign x) s.splits ∙ rw (same x) refl)

-- ---- markers

-- three equal signs at a place
pub record AreMarkerSigns (bs : List ℕ) (i s : ℕ) : Type 0 where
  pub within : i + 3 ≤ length bs
  pub one : get_or bs i 0 ≡ s
  pub two : get_or bs (i + 1) 0 ≡ s
  pub three : get_or bs (i + 2) 0 ≡ s

record IsSigned (s : ℕ) (cs : List ℕ) : Type 0 where
  after : List ℕ
  spells : cs ≡ s ∷ s ∷ s ∷ after

three_same : (a b c d : ℕ) (after : List ℕ) → (a == d) && ((b == d) && ((c == d) && true)) ≡ true → a ∷ b ∷ c ∷ after ≡ d ∷ d ∷ d ∷ after
three_same a b c d after h =
    let p = and_parts (a == d) ((b == d) && ((c == d) && true)) h in
    let q = and_parts (b == d) ((c == d) && true) p.1 in
    let r = and_parts (c == d) true q.1 in
    let x : a ≡ d = eqb-true a d p.0 in
    let y : b ≡ d = eqb-true b d q.0 in
    let z : c ≡ d = eqb-true c d r.0 in
    cc

mark_signed : (s : ℕ) (cs : List ℕ) → marker_of s cs ≡ true → IsSigned s cs
mark_signed s [] h = absurd (false≢true h)
mark_signed s (a ∷ []) h = let p = and_parts (begins (s ∷ s ∷ s ∷ []) (a ∷ [])) _ h in absurd (false≢true (and_parts (a == s) false p.0).1)
mark_signed s (a ∷ b ∷ []) h =
    let p = and_parts (begins (s ∷ s ∷ s ∷ []) (a ∷ b ∷ [])) _ h in
    absurd (false≢true (and_parts (b == s) false (and_parts (a == s) ((b == s) && false) p.0).1).1)
mark_signed s (a ∷ b ∷ c ∷ after) h =
    record {
      after = after;
      spells = three_same a b c s after
          (and_parts (begins (s ∷ s ∷ s ∷ []) (a ∷ b ∷ c ∷ after)) (ends_word after) h).0;
    }

marker_signs : (bs : List ℕ) (i s : ℕ) → s < 128 → IsUtf8 bs → IsCharBoundary bs i → marker_of s (rest bs i) ≡ true → AreMarkerSigns bs i s
marker_signs bs i s a u b h =
    let m : IsSigned s (rest bs i) = mark_signed s (rest bs i) h in
    let one = ascii_at_beginning bs i s (s ∷ s ∷ m.after) u b a m.spells in
    let two = ascii_at_beginning bs (i + 1) s (s ∷ m.after) u one.boundary a (sym one.leaves) in
    let three = ascii_at_beginning bs (i + 1 + 1) s m.after u two.boundary a (sym two.leaves) in
    let e : i + 1 + 1 ≡ i + 2 = omega arith in
    record {
      within = let l = three.within in omega arith;
      one = one.byte;
      two = two.byte;
      three = ap (λ x. get_or bs x 0) (sym e) ∙ three.byte;
    }

-- the sign of a marker is ASCII
pub ascii_mark : (m : Marker) → sign_of m < 128
ascii_mark DirectivesEnd = omega arith
ascii_mark DocumentEnd = omega arith

-- without three signs there is no marker
pub marker_false : (bs : List ℕ) (i s : ℕ) → s < 128 → IsUtf8 bs → IsCharBoundary bs i → (AreMarkerSigns bs i s → ⊥)
    → false ≡ marker_of s (rest bs i)
marker_false bs i s a u b h = elim (cases_Bool (marker_of s (rest bs i))) [
  | inl e ↦ absurd (h (marker_signs bs i s a u b e))
  | inr e ↦ sym e
]

signed_mark : (s : ℕ) (after : List ℕ) → marker_of s (s ∷ s ∷ s ∷ after) ≡ ends_word after
signed_mark s after = rw (same s) refl

-- with three signs there is a marker if the word ends there
pub marker_by_signs : (bs : List ℕ) (i s : ℕ) → s < 128 → IsUtf8 bs → AreMarkerSigns bs i s
    → (marker_of s (rest bs i) ≡ ends_word (rest bs (i + 3))) × IsCharBoundary bs (i + 3)
marker_by_signs bs i s a u h =
    let within = h.within in
    let one = ascii_prefix bs i s u (omega arith) a h.one in
    let two = ascii_prefix bs (i + 1) s u (omega arith) a h.two in
    let three = ascii_prefix bs (i + 2) s u (omega arith) a h.three in
    let e : i + 1 + 1 ≡ i + 2 = omega arith in
    let f : i + 2 + 1 ≡ i + 3 = omega arith in
    let whole : rest bs i ≡ s ∷ s ∷ s ∷ rest bs (i + 3) = one.0
    ∙ ap (λ x. s ∷ x) (two.0 ∙ ap (λ x. s ∷ x) (ap (rest bs) e ∙ three.0 ∙ ap (λ x. s ∷ rest bs x) f)) in
    (ap (marker_of s) whole ∙ signed_mark s (rest bs (i + 3)), subst (λ x. IsCharBoundary bs x) f three.1)

-- at the end a word ends
pub word_ends : (bs : List ℕ) (i : ℕ) → length bs ≤ i → ends_word (rest bs i) ≡ true
word_ends bs i l = ap ends_word (rest-end bs i l)

ends_first : (cs : List ℕ) → (cs ≡ [] → ⊥) → ends_word cs ≡ first ends_word_byte cs
ends_first [] n = absurd (n refl)
ends_first (c ∷ cs) n = refl

-- before the end, the next byte decides whether a word ends
pub word_ends_by : (bs : List ℕ) (i : ℕ) → IsUtf8 bs → IsCharBoundary bs i → i < length bs
    → ends_word (rest bs i) ≡ ends_word_byte (get_or bs i 0)
word_ends_by bs i u b l =
    let there = char_at bs i u b l in
    ends_first (rest bs i) (λ z. let none : [] ≡ there.0 ∷ rest bs (i + len_utf8 there.0) = sym z ∙ there.1.splits in cc)
    ∙ first_there ends_word_byte bs i (blind-or white line_break blind-white blind-line_break) u b l

either : (p q e : Bool) → (p || q) && e ≡ (p && e) || (q && e)
either p q e = grind arith

neither : (a b : Bool) → ((a && false) && true) || ((b && false) && true) ≡ false
neither a b = grind arith
