use Rattle.std.{proofs.Common.{true, false, refl, sym, ap, ◌∙◌, arith}, specs.Prelude.{◌==◌, nat_lt}}
use Rattle.conf_about.proofs.{Prelude.{byte_len, depth, keys_differ, le-ltb, lt-ltb, members_of, style_text}, FaultLemmas.None-pairs}
use Rattle.conf_about.{proofs.{FaultLemmas.{is_large, pairs-shallow, whole-is}, PairLemmas.count-pairs}, specs.Abouts.pair_count}
use Rattle.conf_about.specs.Abouts.{pair_limit, style_limit}
use Rattle.conf_about.proofs.finding.whole_fault.Goals as goal

pub is_large-requires : goal.is_large-requires
is_large-requires c =
    let ms = members_of c.args.pairs.now in
    let shallow = pairs-shallow ms (None-pairs ms c.requires.pairs) in
    let deep = ap depth c.requires.mapping in
    omega (arith, shallow, deep)

pub returns-then-pairs-gt-PAIR_LIMIT : goal.returns-then-pairs-gt-PAIR_LIMIT
returns-then-pairs-gt-PAIR_LIMIT c =
    let ps = c.args.pairs.now in
    let ms = members_of ps in
    let count = count-pairs ps in
    sym (whole-is ms false true (keys_differ ms) (is_large ms) (ap (λ n. n == 0) count ∙ sym c.if-is_empty.ensures)
    (lt-ltb pair_limit (pair_count ms) (omega (arith, count))) refl refl)

pub returns-then-not-keys_differ : goal.returns-then-not-keys_differ
returns-then-not-keys_differ c =
    let ps = c.args.pairs.now in
    let ms = members_of ps in
    let count = count-pairs ps in
    sym (whole-is ms false false false (is_large ms) (ap (λ n. n == 0) count ∙ sym c.if-is_empty.ensures)
    (le-ltb pair_limit (pair_count ms) (omega (arith, count))) (sym c.keys_differ.ensures ∙ c.if-not-keys_differ.true) refl)

pub returns-then-is_large : goal.returns-then-is_large
returns-then-is_large c =
    let ps = c.args.pairs.now in
    let ms = members_of ps in
    let count = count-pairs ps in
    let large = ap (λ t. nat_lt style_limit (byte_len (style_text t))) (sym c.requires.mapping) in
    sym (whole-is ms false false true true (ap (λ n. n == 0) count ∙ sym c.if-is_empty.ensures)
    (le-ltb pair_limit (pair_count ms) (omega (arith, count))) (sym c.keys_differ.ensures ∙ c.if-not-keys_differ.false)
    (large ∙ sym c.if-is_large.ensures))

pub returns-else-is_large : goal.returns-else-is_large
returns-else-is_large c =
    let ps = c.args.pairs.now in
    let ms = members_of ps in
    let count = count-pairs ps in
    let large = ap (λ t. nat_lt style_limit (byte_len (style_text t))) (sym c.requires.mapping) in
    sym (whole-is ms false false true false (ap (λ n. n == 0) count ∙ sym c.if-is_empty.ensures)
    (le-ltb pair_limit (pair_count ms) (omega (arith, count))) (sym c.keys_differ.ensures ∙ c.if-not-keys_differ.false)
    (large ∙ sym c.if-is_large.ensures))
