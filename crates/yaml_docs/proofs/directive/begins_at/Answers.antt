use Rattle.std.proofs.{Common.{List, drop, subst, ℕ, ◌≡◌}, Math.Dec.eqb}
use Rattle.yaml_docs.proofs.{Prelude.{starts_with, Decides-eqb, starts_is, IsUtf8-drop}, Words.word_begins}
use Rattle.yaml_chars.proofs.Breaks.{bytes_from}
use Rattle.yaml_docs.proofs.directive.begins_at.Goals as goal

pub returns : goal.returns
returns c =
    let text = c.args.text.now in
    let word = c.args.word.now in
    let bytes : List ℕ = drop c.args.at text in
    let r = c.starts_with.result in
    let same = bytes_from text c.as_bytes.result.now c.args.at c.as_bytes.ensures.value in
    let value : r ≡ starts_with eqb bytes word = subst (λ (bs : List ℕ). r ≡ starts_with eqb bs word) same c.starts_with.ensures.value in
    let is = starts_is Decides-eqb bytes word r value in
    word_begins bytes word r (IsUtf8-drop text c.args.at c.utf8.text c.requires.at) c.requires.ascii is.0 is.1
