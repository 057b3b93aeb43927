-- Words that are an about have no fault.
use Rattle.std.{proofs.Common.{ℕ, ◌==◌, arith, List, map, sym, ap, ◌∙◌}, specs.{Borrow.Bor, Str.chars}}
use Rattle.{conf_about.specs.AboutWords.{fault_in, said_by}, yaml_data.specs.Seen.tree_of, conf_words.specs.Abouts.about_is_wrong}
use Rattle.conf_words.{specs.Abouts.{are_wrong, pairs_given}, proofs.AboutLemmas.{are-right, are-wrong-by, pairs-so, refused-so}}
use Rattle.conf_words.proofs.abouts.about_of.Goals as goal

pub returns-in-Ok-of_words-clause-ok : goal.returns-in-Ok-of_words-clause-ok
returns-in-Ok-of_words-clause-ok c =
    let about = c.in-Ok-of_words.ensures.ok in
    let pairs = sym (ap (λ (words : List (List ℕ)). map chars words) c.in-Ok.ensures) ∙ pairs-so c.in-Ok.pairs.items
    ∙ ap (λ (words : List (Bor (List ℕ))). map (λ word. chars word.now) words) (sym c.deref.ensures.value) in
    let said = ap said_by pairs ∙ about.0 in (
      are-right (pairs_given c.args.words.now) (tree_of c.in-Ok-of_words.about) said
          ((c.abouts_have_no_fault.ensures (tree_of c.in-Ok-of_words.about) about.1.texts).1 about.1),
      said,
    )

pub returns-clause-refused : goal.returns-clause-refused
returns-clause-refused c =
    let items = c.in-Ok.pairs.items in
    let pairs = sym (ap (λ (words : List (List ℕ)). map chars words) c.in-Ok.ensures) ∙ pairs-so items in
    let some = ap (λ (n : ℕ). n == 0) (omega (arith, c.in-Ok.pairs.ok)) ∙ sym c.is_empty.ensures ∙ c.if-is_empty.false in
    let said = ap (λ (words : List (Bor (List ℕ))). fault_in (said_by (map (λ word. chars word.now) words)))
    (sym c.deref.ensures.value) in
    refused-so c.in-Err-of_words.fault c.unasked_for.result (about_is_wrong c.args.words.now) c.unasked_for.ensures
    (λ other. ap are_wrong pairs ∙ are-wrong-by items c.in-Err-of_words.fault some (said ∙ c.in-Err-of_words.ensures.refused other))
