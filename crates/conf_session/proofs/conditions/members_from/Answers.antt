-- The keys are asked for in the order of the definition.
use Rattle.std.proofs.Common.{◌≡◌, false, true, refl, sym, ◌∙◌}
use Rattle.conf_session.proofs.{Prelude.{members_of, keys_are, asked}, SaidConditionLemmas.{condition-mapping, test_texts, absent_texts}}
use Rattle.conf_session.{proofs.SaidConditionLemmas.{missing_texts, count_texts}, specs.SaidConditions.{test_keys, absent_keys}}
use Rattle.conf_session.specs.SaidConditions.{missing_keys, count_keys}
use Rattle.conf_session.proofs.conditions.members_from.Goals as goal

pub returns-then-keys_are-clause-read : goal.returns-then-keys_are-clause-read
returns-then-keys_are-clause-read c =
    let ms = members_of c.args.pairs.items in
    let e0 : keys_are test_keys ms ≡ true = asked _ test_keys c.deref.result.now _ _ true c.keys_are.ensures
    test_texts c.deref.ensures.value c.if-keys_are.true in
    c.test_from.ensures.read ∙ sym (condition-mapping ms e0 refl refl refl)

pub returns-then-keys_are-2-clause-read : goal.returns-then-keys_are-2-clause-read
returns-then-keys_are-2-clause-read c =
    let ms = members_of c.args.pairs.items in
    let e0 : keys_are test_keys ms ≡ false = asked _ test_keys c.deref.result.now _ _ false c.keys_are.ensures
    test_texts c.deref.ensures.value c.if-keys_are.false in
    let e1 : keys_are absent_keys ms ≡ true = asked _ absent_keys c.deref-else-keys_are.result.now _ _ true
    c.keys_are-else-keys_are.ensures absent_texts c.deref-else-keys_are.ensures.value c.if-keys_are-2.true in
    c.absent_from.ensures.read ∙ sym (condition-mapping ms e0 e1 refl refl)

pub returns-then-keys_are-3-clause-read : goal.returns-then-keys_are-3-clause-read
returns-then-keys_are-3-clause-read c =
    let ms = members_of c.args.pairs.items in
    let e0 : keys_are test_keys ms ≡ false = asked _ test_keys c.deref.result.now _ _ false c.keys_are.ensures
    test_texts c.deref.ensures.value c.if-keys_are.false in
    let e1 : keys_are absent_keys ms ≡ false = asked _ absent_keys c.deref-else-keys_are.result.now _ _ false
    c.keys_are-else-keys_are.ensures absent_texts c.deref-else-keys_are.ensures.value c.if-keys_are-2.false in
    let e2 : keys_are missing_keys ms ≡ true = asked _ missing_keys c.deref-else-keys_are-2.result.now _ _ true
    c.keys_are-else-keys_are-2.ensures missing_texts c.deref-else-keys_are-2.ensures.value c.if-keys_are-3.true in
    c.missing_from.ensures.read ∙ sym (condition-mapping ms e0 e1 e2 refl)

pub returns-then-keys_are-4-clause-read : goal.returns-then-keys_are-4-clause-read
returns-then-keys_are-4-clause-read c =
    let ms = members_of c.args.pairs.items in
    let e0 : keys_are test_keys ms ≡ false = asked _ test_keys c.deref.result.now _ _ false c.keys_are.ensures
    test_texts c.deref.ensures.value c.if-keys_are.false in
    let e1 : keys_are absent_keys ms ≡ false = asked _ absent_keys c.deref-else-keys_are.result.now _ _ false
    c.keys_are-else-keys_are.ensures absent_texts c.deref-else-keys_are.ensures.value c.if-keys_are-2.false in
    let e2 : keys_are missing_keys ms ≡ false =
    asked _ missing_keys c.deref-else-keys_are-2.result.now _ _ false c.keys_are-else-keys_are-2.ensures
    missing_texts c.deref-else-keys_are-2.ensures.value c.if-keys_are-3.false in
    let e3 : keys_are count_keys ms ≡ true = asked _ count_keys c.deref-else-keys_are-3.result.now _ _ true
    c.keys_are-else-keys_are-3.ensures count_texts c.deref-else-keys_are-3.ensures.value c.if-keys_are-4.true in
    c.count_of.ensures.read ∙ sym (condition-mapping ms e0 e1 e2 e3)

pub returns-else-keys_are-4-clause-read : goal.returns-else-keys_are-4-clause-read
returns-else-keys_are-4-clause-read c =
    let ms = members_of c.args.pairs.items in
    let e0 : keys_are test_keys ms ≡ false = asked _ test_keys c.deref.result.now _ _ false c.keys_are.ensures
    test_texts c.deref.ensures.value c.if-keys_are.false in
    let e1 : keys_are absent_keys ms ≡ false = asked _ absent_keys c.deref-else-keys_are.result.now _ _ false
    c.keys_are-else-keys_are.ensures absent_texts c.deref-else-keys_are.ensures.value c.if-keys_are-2.false in
    let e2 : keys_are missing_keys ms ≡ false =
    asked _ missing_keys c.deref-else-keys_are-2.result.now _ _ false c.keys_are-else-keys_are-2.ensures
    missing_texts c.deref-else-keys_are-2.ensures.value c.if-keys_are-3.false in
    let e3 : keys_are count_keys ms ≡ false = asked _ count_keys c.deref-else-keys_are-3.result.now _ _ false
    c.keys_are-else-keys_are-3.ensures count_texts c.deref-else-keys_are-3.ensures.value c.if-keys_are-4.false in
    sym (condition-mapping ms e0 e1 e2 e3)
