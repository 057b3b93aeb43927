-- A text whose lines are a tree's in the one style gives that tree.
use Rattle.std.proofs.Common.{◌≡◌, inl, inr, ℕ, ◌<◌, ◌≤◌, true, nat_lt, List, [], ◌++◌, length, append-nil, length-append, refl, sym, ap}
use Rattle.std.{proofs.Common.{ap₂, subst, ◌∙◌, arith, codes, encode_utf8_all}, specs.List.list_all}
use Rattle.yaml_tree.proofs.Prelude.{IsUtf8, nat_tests, chars_from_encodes, encodes-append, encodes-IsAscii, every-IsAscii, own_limits}
use Rattle.yaml_tree.proofs.Prelude.{Limits, Good, Gives, style_text, byte_len, Tree, depth, GoesOn, byte_len-encoded}
use Rattle.yaml_tree.specs.{Formatting.IsFormatted, InStyle.{StandIn, AreLinesIn, AreLinesOf}, Reading.IsRead}
use Rattle.{yaml_recognizers.specs.{Closings.framed_text, StyleLaws.{StyleReads, FramedReads}}, yaml_writer.specs.declared.size.Size.Size}

-- the lines, as bytes, are the tree's
lines_are : (lines : List ℕ) (t : Tree) → GoesOn lines (style_text t) [] → encode_utf8_all (style_text t) ≡ lines
lines_are lines t goes_on = sym (goes_on ∙ append-nil (encode_utf8_all (style_text t)))

-- they are no longer than the text
lines_within : (bytes lines : List ℕ) → StandIn bytes lines → length lines ≤ length bytes
lines_within bytes lines (inl same) = omega (arith, ap length same)
lines_within bytes lines (inr framed) =
    let first = length-append (codes "---\n") (lines ++ codes "...\n") in
    let second = length-append lines (codes "...\n") in
    omega (arith, ap length framed, first, second)

-- the tree is good within limits that the text keeps
pub styled_good : (bytes lines : List ℕ) (limits : Limits) (t : Tree) (size : Size) → AreLinesIn bytes lines limits
    → AreLinesOf lines t size → Good t limits
styled_good bytes lines limits t size stand are =
    let as_long = byte_len-encoded (style_text t) ∙ ap length (lines_are lines t are.written) in
    record {
      texts = are.sound.texts;
      keys = are.sound.keys;
      deep = omega (arith, are.sound.shallow, stand.deep);
      long = omega (arith, as_long, lines_within bytes lines stand.stand, stand.long);
    }

-- the limits of a configuration are no less
pub own_good : (t : Tree) (limits : Limits) → limits.style ≤ own_limits.style → depth t ≤ 128 → Good t limits → Good t own_limits
own_good t limits narrow shallow good = record {
  texts = good.texts;
  keys = good.keys;
  deep = omega (arith, shallow);
  long = omega (arith, good.long, narrow);
}

-- characters of ASCII are their bytes
ascii_bytes : (cs : List ℕ) → list_all (λ c. nat_lt c 128) cs ≡ true → encode_utf8_all cs ≡ cs
ascii_bytes cs e = encodes-IsAscii cs (every-IsAscii (λ c. nat_lt c 128) below cs e)
  where
    below : (c : ℕ) → nat_lt c 128 ≡ true → c < 128
    below c passed = grind (arith, nat_tests)

-- the framed text of a tree, as bytes
framed_are : (lines : List ℕ) (t : Tree) → GoesOn lines (style_text t) []
    → encode_utf8_all (framed_text t) ≡ codes "---\n" ++ (lines ++ codes "...\n")
framed_are lines t goes_on =
    encodes-append (codes "---\n") (style_text t ++ codes "...\n")
    ∙ ap₂ (λ first more. first ++ more) (ascii_bytes (codes "---\n") refl)
    (encodes-append (style_text t) (codes "...\n")
    ∙ ap₂ (λ own last. own ++ last) (lines_are lines t goes_on) (ascii_bytes (codes "...\n") refl))

-- a law says of a text of the tree what bytes give
given_by : (bytes text : List ℕ) (limits : Limits) (t : Tree) → IsUtf8 bytes → encode_utf8_all text ≡ bytes
    → (byte_len text ≤ limits.bytes → Gives text limits t) → length bytes ≤ limits.bytes → IsRead bytes limits t
given_by bytes text limits t utf8 encoded gives short =
    let as_long = byte_len-encoded text ∙ ap length encoded in
    record {
      utf8 = utf8;
      gives = subst (λ cs. Gives cs limits t) (chars_from_encodes text bytes utf8 encoded) (gives (omega (arith, as_long, short)));
    }

stand_read : StyleReads → FramedReads → (bytes lines : List ℕ) (limits : Limits) (t : Tree) → IsUtf8 bytes → StandIn bytes lines
    → GoesOn lines (style_text t) [] → Good t limits → length bytes ≤ limits.bytes → IsRead bytes limits t
stand_read alone framed bytes lines limits t utf8 (inl same) written good short =
    given_by bytes (style_text t) limits t utf8 (lines_are lines t written ∙ sym same) (alone t limits good) short
stand_read alone framed bytes lines limits t utf8 (inr around) written good short =
    given_by bytes (framed_text t) limits t utf8 (framed_are lines t written ∙ sym around) (framed t limits good) short

-- the bytes give the tree
pub styled_read : StyleReads → FramedReads → (bytes lines : List ℕ) (limits : Limits) (t : Tree) (size : Size)
    → AreLinesIn bytes lines limits → AreLinesOf lines t size → IsRead bytes limits t
styled_read alone framed bytes lines limits t size stand are =
    stand_read alone framed bytes lines limits t stand.utf8 stand.stand are.written
    (styled_good bytes lines limits t size stand are) stand.short

-- and the lines are its text
pub styled_formatted : StyleReads → FramedReads → (bytes lines : List ℕ) (limits : Limits) (t : Tree) (size : Size)
    → AreLinesIn bytes lines limits → AreLinesOf lines t size → IsFormatted bytes limits lines
styled_formatted alone framed bytes lines limits t size stand are = record {
  tree = t;
  reads = styled_read alone framed bytes lines limits t size stand are;
  style = sym (lines_are lines t are.written);
}
