use Rattle.std.proofs.Common.{◌≡◌, false, true, sym, ap, subst, ◌∙◌, refl}
use Rattle.conf_record.proofs.{Prelude.{IsKept, tree_of, members_of, tree_of-Text, tree_of-Seq, tree_of-Map}, PieceLemmas.parts_kept}
use Rattle.conf_record.{proofs.TreeLemmas.{base_keyed, base_other, asked, texts_ascii}, specs.RecordsRead.{base_of, keys_are, base_keys}}
use Rattle.conf_record.proofs.base_reader.base_from.Goals as goal

pub returns-in-Text-clause-read : goal.returns-in-Text-clause-read
unfolding base_of
returns-in-Text-clause-read c = sym (ap base_of (ap tree_of c.in-Text.is ∙ tree_of-Text c.in-Text.field-0))

pub returns-in-Seq-clause-read : goal.returns-in-Seq-clause-read
unfolding base_of
returns-in-Seq-clause-read c = sym (ap base_of (ap tree_of c.in-Seq.is ∙ tree_of-Seq c.in-Seq.field-0))

pub returns-then-not-keys_are-clause-read : goal.returns-then-not-keys_are-clause-read
returns-then-not-keys_are-clause-read c =
    let ms = members_of c.in-Map.pairs.items in
    let seen = ap base_of (ap tree_of c.in-Map.is ∙ tree_of-Map c.in-Map.pairs) in
    let other : keys_are base_keys ms ≡ false =
    asked _ base_keys c.deref.result.now _ _ false c.keys_are.ensures (texts_ascii base_keys refl) c.deref.ensures.value
    c.if-not-keys_are.true in
    sym (seen ∙ base_other ms other)

pub contents_from-requires : goal.contents_from-requires
contents_from-requires c =
    record {
      kept = parts_kept (members_of c.in-Map.pairs.items)
          (subst IsKept (ap tree_of c.in-Map.is ∙ tree_of-Map c.in-Map.pairs) c.requires.kept);
    }

pub returns-clause-read : goal.returns-clause-read
returns-clause-read c =
    let ms = members_of c.in-Map.pairs.items in
    let seen = ap base_of (ap tree_of c.in-Map.is ∙ tree_of-Map c.in-Map.pairs) in
    let keyed : keys_are base_keys ms ≡ true = asked _ base_keys c.deref.result.now _ _ true c.keys_are.ensures
    (texts_ascii base_keys refl) c.deref.ensures.value c.if-not-keys_are.false in
    c.contents_from.ensures.read ∙ sym (seen ∙ base_keyed ms keyed)
