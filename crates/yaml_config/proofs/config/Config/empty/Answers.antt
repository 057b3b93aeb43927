use Rattle.std.proofs.Common.{◌≡◌, [], refl, sym, ap, subst, ◌∙◌, arith}
use Rattle.yaml_config.proofs.Prelude.{chars, style_text, byte_len, Tree, text, tree_of, Text, tree_of-Text, chars-nil, indented}
use Rattle.{yaml_config.specs.Kept.own_limits, yaml_grammar.specs.Reads.Good}
use Rattle.yaml_config.proofs.config.Config.empty.Goals as goal

empty_text : Good (text []) own_limits × (3 ≡ byte_len (style_text (text []))) × (0 ≡ indented (text []))
empty_text = (record { texts = refl; keys = refl; deep = omega arith; long = omega arith }, refl, refl)

pub invariant_of-result : goal.invariant_of-result
invariant_of-result c =
    let seen : tree_of (Text c.empty.result) ≡ text [] = tree_of-Text c.empty.result
    ∙ ap (λ bytes. text (chars bytes)) c.empty.ensures ∙ ap text chars-nil in
    let P : Tree → Type 0 = λ t. Good t own_limits × (3 ≡ byte_len (style_text t)) × (0 ≡ indented t) in
    let kept = subst P (sym seen) empty_text in (kept.0, kept.1, kept.2, tt)

pub returns : goal.returns
returns c = tree_of-Text c.empty.result ∙ ap (λ bytes. text (chars bytes)) c.empty.ensures ∙ ap text chars-nil
