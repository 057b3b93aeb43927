-- Pieces that are taken.
use Rattle.std.proofs.Common.{◌≡◌, ◌+◌, ℕ, List, [], ◌++◌, IsUtf8, encode_utf8_all, refl, sym, ap, ◌∙◌, add-zero, zero-add, append-nil}
use Rattle.yaml_styled.{proofs.Prelude.{encodes-chars, chars}, specs.Taking.{Took, took_both}}

-- bytes that are a text are taken
pub took_bytes : {text piece rest : List ℕ} (before : ℕ) → IsUtf8 piece → text ≡ piece ++ rest
    → Took text before (chars piece) 0 rest before
took_bytes {piece = piece} {rest = rest} before utf8 same = record {
  goes_on = same ∙ ap (λ bytes. bytes ++ rest) (sym (encodes-chars piece utf8));
  counted = sym (add-zero before);
}

-- the same pieces, otherwise put together
pub took_as : {text rest cs ds : List ℕ} {before after m n : ℕ} → cs ≡ ds → m ≡ n
    → Took text before cs m rest after → Took text before ds n rest after
took_as {text = text} {rest = rest} {before = before} same equal took = record {
  goes_on = took.goes_on ∙ ap (λ written. encode_utf8_all written ++ rest) same;
  counted = took.counted ∙ ap (λ k. before + k) equal;
}

-- nothing is taken afterwards
pub took_end : {a b c cs : List ℕ} {k l m n : ℕ} → Took a k cs n b l → Took b l [] 0 c m → Took a k cs n c m
took_end {cs = cs} {n = n} first second = took_as (append-nil cs) (add-zero n) (took_both first second)

-- lines are counted before they are taken
pub took_counted : {a b c cs : List ℕ} {k l m n : ℕ} → Took a k [] n b l → Took b l cs 0 c m → Took a k cs n c m
took_counted {n = n} first second = took_as refl (add-zero n) (took_both first second)

-- lines are counted after they are taken
pub took_uncounted : {a b c cs : List ℕ} {k l m n : ℕ} → Took a k cs 0 b l → Took b l [] n c m → Took a k cs n c m
took_uncounted {cs = cs} {n = n} first second = took_as (append-nil cs) (zero-add n) (took_both first second)

-- a piece without counted lines, and then another
pub took_after_none : {a b c cs ds : List ℕ} {k l m n : ℕ} → Took a k cs 0 b l → Took b l ds n c m → Took a k (cs ++ ds) n c m
took_after_none {n = n} first second = took_as refl (zero-add n) (took_both first second)
