use Rattle.std.proofs.Common.{◌∙◌, length, sym, ap}
use Rattle.yaml_writer.proofs.{Prelude.{ne_eqb, is_among}, SpecialWords.{same_length, special_of_length, none_of_length, only, second}}
use Rattle.yaml_writer.proofs.scalar_style.is_special_word.Goals as goal

pub returns-else-is_same_word : goal.returns-else-is_same_word
returns-else-is_same_word c =
    let words = special_of_length _ 1 (same_length c.requires ∙ c.if-length-eq1.true) in
    second c.if-is_same_word.ensures c.is_same_word-else-is_same_word.ensures words

pub returns-else-is_same_word-2 : goal.returns-else-is_same_word-2
returns-else-is_same_word-2 c =
    let words = special_of_length _ 2 (same_length c.requires ∙ c.if-length-eq2.true) in
    second c.if-is_same_word-2.ensures c.is_same_word-else-is_same_word-2.ensures words

pub returns-else-is_same_word-3 : goal.returns-else-is_same_word-3
returns-else-is_same_word-3 c =
    let words = special_of_length _ 3 (same_length c.requires ∙ c.if-length-eq3.true) in
    second c.if-is_same_word-3.ensures c.is_same_word-else-is_same_word-3.ensures words

pub returns-else-is_same_word-4 : goal.returns-else-is_same_word-4
returns-else-is_same_word-4 c =
    let words = special_of_length _ 4 (same_length c.requires ∙ c.if-length-eq4.true) in
    second c.if-is_same_word-4.ensures c.is_same_word-else-is_same_word-4.ensures words

pub returns-then-length-eq5 : goal.returns-then-length-eq5
returns-then-length-eq5 c =
    only c.is_same_word-then-length-eq5.ensures (special_of_length _ 5 (same_length c.requires ∙ c.if-length-eq5.true))

pub returns-else-length-eq5 : goal.returns-else-length-eq5
returns-else-length-eq5 c =
    let n = length c.args.text.now in
    let from_three = none_of_length n c.if-length-eq1.false c.if-length-eq2.false in
    let none = from_three c.if-length-eq3.false c.if-length-eq4.false c.if-length-eq5.false in
    ne_eqb n 5 c.if-length-eq5.false ∙ sym (special_of_length _ n (same_length c.requires) ∙ ap (is_among _) none)
