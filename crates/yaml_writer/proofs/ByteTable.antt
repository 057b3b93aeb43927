-- The table of word bytes holds what the definition says: 256 closed facts at once.
use Rattle.std.proofs.Common.{◌≡◌, ℕ, ◌<◌, Bool, false, not, nat_eq, map, refl, sym, ap, ◌∙◌, arith, get_or}
use Rattle.std.proofs.lemmas.List.FromFn.{get_or-map-range_with_len}
use Rattle.yaml_writer.{proofs.Prelude.{range_with_len, get_or-map, word_char}, specs.declared.bytes.TheConstants.WORD_BYTES}

abbrev pub is_marked : ℕ → Bool
is_marked k = not (nat_eq k 0)

all_bytes : map is_marked WORD_BYTES ≡ map word_char (range_with_len 0 256)
all_bytes = refl

-- a byte is marked exactly if it is a word character
pub marked_is : (b : ℕ) → b < 256 → is_marked (get_or WORD_BYTES b 0) ≡ word_char b
marked_is b l =
    sym (get_or-map is_marked WORD_BYTES b 0 false l)
    ∙ (ap (λ t. get_or t b false) all_bytes ∙ get_or-map-range_with_len word_char 0 256 b b false l (omega arith))
