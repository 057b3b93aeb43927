use Rattle.std.proofs.Common.{[], ◌∷◌, sym, ap, ◌∙◌}
use Rattle.tree_path.proofs.{Prelude.{cow_str_bytes, chars, texts}, Descents.texts-append, IndexLemmas.last-same}
use Rattle.tree_path.proofs.key_index.last_of.Goals as goal

pub returns : goal.returns
returns c = λ before key is.
    let cases = rw c.unwrap.ensures at c.split_last.ensures.cases in
    let last = c.unwrap.result.0.now in
    let parents = c.unwrap.result.1.now in
    ap chars c.as_str.ensures.value
    ∙ last-same (texts parents) before (chars (cow_str_bytes last)) key (sym (ap texts cases.0 ∙ texts-append parents (last ∷ [])) ∙ is)
