-- Lines of a collection, written one after another into bytes.
use Rattle.std.proofs.Common.{◌≡◌, ℕ, ◌+◌, ◌<◌, List, [], ◌∷◌, ◌++◌, length, drop, codes, decimal, encode_utf8_all, sym, ap, ◌∙◌}
use Rattle.std.proofs.Common.{append_assoc, arith}
use Rattle.yaml_forms.{proofs.Prelude.{drop_more, encodes-append, elements_of}, specs.KeyLines.index_lines}
use Rattle.yaml_data.specs.declared.tree.Tree.{Tree}

-- the bytes a, one line more, and then the rest
pub line_pushed : (a b line rest left : List ℕ) → left ≡ line ++ rest → b ≡ a ++ encode_utf8_all line
    → b ++ encode_utf8_all rest ≡ a ++ encode_utf8_all left
line_pushed a b line rest left whole pushed =
    ap (λ bytes. bytes ++ encode_utf8_all rest) pushed ∙ append_assoc a (encode_utf8_all line) (encode_utf8_all rest)
    ∙ ap (λ bytes. a ++ bytes) (sym (encodes-append line rest) ∙ ap encode_utf8_all (sym whole))

-- the line of an element's index, and the lines of those after it
pub index_here : (ts : List Tree) (i k : ℕ) → i < length ts
    → index_lines k (elements_of (drop i ts)) ≡ (decimal k ++ codes "\n") ++ index_lines (k + 1) (elements_of (drop (i + 1) ts))
index_here [] i k within = absurd (omega arith)
index_here (t ∷ ts) i k within = ap (λ us. index_lines k (elements_of us)) (drop_more (t ∷ ts) i t within)
