-- Signs at a place of a text, and the places after what is there.
use Rattle.std.proofs.{Common.{◌≡◌, refl, sym, ◌∙◌, ap, arith, ℕ, ◌+◌, ◌<◌, ◌≤◌, length}, Math.Utf8.{encode, encodes}}
use Rattle.std.{proofs.lemmas.Str.length-encode, specs.Prelude.{Bool, true, false, ◌==◌, List, [], ◌∷◌, ◌++◌}}
use Rattle.yaml_flow.proofs.Prelude.{IsUtf8, IsCharBoundary, len_utf8, append_cancel_right, length-append, line_break, rest, between}
use Rattle.yaml_flow.proofs.Prelude.{rest-between, same_place, split_at, FlowContext, safe, byte_len, first, line_starts, closer, is_asked}
use Rattle.yaml_flow.{proofs.Prelude.{IsSign, sign_there}, specs.Frames.{IsBracket, opener}}
use Rattle.yaml_scan.proofs.LineStarts.{starts_after_sign}

-- ---- brackets

opener_low : (in_seq : Bool) → opener in_seq < 128
opener_low true = omega arith
opener_low false = omega arith

-- a closing bracket is ASCII
pub closer_low : (in_seq : Bool) → closer in_seq < 128
closer_low true = omega arith
closer_low false = omega arith

-- an opening bracket is at the place
pub bracket_there : (bs : List ℕ) (at : ℕ) (in_seq : Bool) → IsUtf8 bs → IsCharBoundary bs at
    → first (λ y. y == opener in_seq) (rest bs at) ≡ true → IsBracket bs at in_seq
bracket_there bs at in_seq u b h = sign_there bs at (opener in_seq) u b (opener_low in_seq) h

-- a closing bracket is at the place
pub closer_there : (bs : List ℕ) (at : ℕ) (in_seq : Bool) → IsUtf8 bs → IsCharBoundary bs at
    → first (λ y. y == closer in_seq) (rest bs at) ≡ true → IsSign bs at (closer in_seq)
closer_there bs at in_seq u b h = sign_there bs at (closer in_seq) u b (closer_low in_seq) h

-- ---- no line starts after a sign

-- a sign is the one character between its place and the next
pub one_sign : (bs : List ℕ) (at x : ℕ) → IsUtf8 bs → IsCharBoundary bs at → IsSign bs at x → between bs at (at + 1) ≡ x ∷ []
one_sign bs at x u b sign =
    sym (append_cancel_right (x ∷ []) (between bs at (at + 1)) (rest bs (at + 1))
    (sym sign.splits ∙ rest-between bs at (at + 1) u (omega arith) b sign.boundary))

-- no line starts after a sign
pub not_starting : (bs : List ℕ) (at x : ℕ) → IsUtf8 bs → IsCharBoundary bs at → IsSign bs at x → line_break x ≡ false
    → (x == 0xfeff) ≡ false → line_starts bs (at + 1) ≡ false
not_starting bs at x u b sign h k = starts_after_sign bs at x u b sign k ∙ h

-- nor after an opening bracket
pub opener_starts : (bs : List ℕ) (at : ℕ) (in_seq : Bool) → IsUtf8 bs → IsCharBoundary bs at → IsBracket bs at in_seq
    → line_starts bs (at + 1) ≡ false
opener_starts bs at true u b s = not_starting bs at 91 u b s refl refl
opener_starts bs at false u b s = not_starting bs at 123 u b s refl refl

-- nor after a closing one
pub closer_starts : (bs : List ℕ) (at : ℕ) (in_seq : Bool) → IsUtf8 bs → IsCharBoundary bs at
    → IsSign bs at (closer in_seq) → line_starts bs (at + 1) ≡ false
closer_starts bs at true u b s = not_starting bs at 93 u b s refl refl
closer_starts bs at false u b s = not_starting bs at 125 u b s refl refl

-- ---- no `?` before a character that is safe

-- without a `?` no key is asked for
pub no_question : (d : FlowContext) (text : List ℕ) → first (λ x. x == 63) text ≡ false → is_asked d text ≡ false
no_question d [] h = refl
no_question d (c ∷ cs) h = rw h refl

-- a `?` before a safe character asks for no key
pub safe_after : (d : FlowContext) (bs : List ℕ) (at : ℕ) → IsSign bs at 63 → first (safe d) (rest bs (at + 1)) ≡ true
    → is_asked d (rest bs at) ≡ false
safe_after d bs at sign h = ap (is_asked d) sign.splits ∙ rw h refl

-- any other `?` does
pub question_asks : (d : FlowContext) (bs : List ℕ) (at : ℕ) → IsSign bs at 63
    → first (safe d) (rest bs (at + 1)) ≡ false → is_asked d (rest bs at) ≡ true
question_asks d bs at sign h = ap (is_asked d) sign.splits ∙ rw h refl

-- ---- the place after a part of a text

length_encodes : (xs : List ℕ) → length (encodes xs) ≡ byte_len xs
length_encodes [] = refl
length_encodes (c ∷ cs) =
    length-append (encode c) (encodes cs) ∙ (ap (λ k. k + length (encodes cs)) (length-encode c)
    ∙ ap (λ k. len_utf8 c + k) (length_encodes cs))

-- the place after characters that are at a place
pub place_after : (bs : List ℕ) (at end : ℕ) (xs : List ℕ) → IsUtf8 bs → IsCharBoundary bs at → IsCharBoundary bs end
    → rest bs at ≡ xs ++ rest bs end → at + byte_len xs ≡ end
place_after bs at end xs u b k e =
    let s = split_at bs at xs (rest bs end) u b e in
    ap (λ n. at + n) (sym (length_encodes xs)) ∙ same_place bs (at + length (encodes xs)) end u s.boundary k s.spells_after

-- the characters between two places, if they are there
pub between_after : (bs : List ℕ) (at end : ℕ) (xs : List ℕ) → IsUtf8 bs → at ≤ end → IsCharBoundary bs at
    → IsCharBoundary bs end → rest bs at ≡ xs ++ rest bs end → between bs at end ≡ xs
between_after bs at end xs u l b k e = append_cancel_right (between bs at end) xs (rest bs end) (sym (rest-between bs at end u l b k) ∙ e)
