use Rattle.std.proofs.{Common.{◌≡◌, ◌≤◌, length, sym, ap, subst, ◌∙◌, arith}, lemmas.List.nil_from_length}
use Rattle.conf_record.proofs.{Prelude.{eqb-true, chars, same_text-true, tree_of, text_bytes}, BaseCopyLemmas.built_from}
use Rattle.conf_record.{proofs.SizeLemmas.element_least, specs.BaseSpans.{bytes_at, IsBuilt}}
use Rattle.conf_record.proofs.held_base.build.Goals as goal

pub with_size-requires-clause-kept : goal.with_size-requires-clause-kept
with_size-requires-clause-kept c =
    let t = tree_of c.in_ok-entry.entry.tree in
    let read = c.in_ok-entry.ensures in
    let sound = read.sound in
    let bytes = ap (λ s. s.bytes) read.size_is in
    record {
      texts = sound.texts;
      keys = sound.keys;
      deep = omega (arith, sound.shallow);
      long = omega (arith, bytes, element_least t);
    }

pub returns : goal.returns
returns c =
    let entry = c.in_ok-entry.entry in
    let at = bytes_at c.args.text.now c.args.span.now in
    let name = chars c.args.name.now in
    let key = chars (text_bytes entry.name) in
    let small : entry.size.bytes ≤ 4194304 = omega arith in
    let none = nil_from_length entry.rest.now (eqb-true (length entry.rest.now) 0 (sym c.if-not-is_empty.ensures)) in
    let same = same_text-true (chars c.deref.result.now) name (sym c.if-not-is_same.ensures) in
    let named : key ≡ name = ap chars (sym c.deref.ensures) ∙ same in
    subst (λ t. IsBuilt at name t) (sym (ap tree_of c.with_size.ensures))
    (built_from at c.in-Some.lines.now key entry.rest.now name (tree_of entry.tree) entry.size c.in-Some.ensures c.in_ok-entry.ensures
    none named small)
