-- The keys are asked for in the order of the definition.
use Rattle.std.proofs.Common.{◌≡◌, false, true, refl, sym, ap, ◌∙◌}
use Rattle.conf_session.proofs.{Prelude.{IfOk-weaker, members_of, keys_are, asked}, SaidLemmas.{command-mapping, batch_texts, get_texts}}
use Rattle.conf_session.{proofs.SaidLemmas.{export_texts, names_texts, checkpoint_texts}, specs.Said.{begins_with_if, batch_keys}}
use Rattle.conf_session.specs.Said.{get_keys, export_keys, names_keys, checkpoint_keys}
use Rattle.conf_session.proofs.said.command_said.Goals as goal

pub returns-then-keys_are : goal.returns-then-keys_are
returns-then-keys_are c =
    let ms = members_of c.args.pairs.items in
    let e0 : keys_are batch_keys ms ≡ true = asked _ batch_keys c.deref.result.now _ _ true c.keys_are.ensures
    batch_texts c.deref.ensures.value c.if-keys_are.true in
    IfOk-weaker c.batch_said.result _ _ (λ said e. e ∙ sym (command-mapping ms e0 refl refl refl refl refl)) c.batch_said.ensures

pub returns-then-keys_are-2 : goal.returns-then-keys_are-2
returns-then-keys_are-2 c =
    let ms = members_of c.args.pairs.items in
    let e0 : keys_are batch_keys ms ≡ false = asked _ batch_keys c.deref.result.now _ _ false c.keys_are.ensures
    batch_texts c.deref.ensures.value c.if-keys_are.false in
    let e1 : keys_are get_keys ms ≡ true = asked _ get_keys c.deref-else-keys_are.result.now _ _ true
    c.keys_are-else-keys_are.ensures get_texts c.deref-else-keys_are.ensures.value c.if-keys_are-2.true in
    c.get_said.ensures ∙ sym (command-mapping ms e0 e1 refl refl refl refl)

pub returns-then-keys_are-3 : goal.returns-then-keys_are-3
returns-then-keys_are-3 c =
    let ms = members_of c.args.pairs.items in
    let e0 : keys_are batch_keys ms ≡ false = asked _ batch_keys c.deref.result.now _ _ false c.keys_are.ensures
    batch_texts c.deref.ensures.value c.if-keys_are.false in
    let e1 : keys_are get_keys ms ≡ false = asked _ get_keys c.deref-else-keys_are.result.now _ _ false
    c.keys_are-else-keys_are.ensures get_texts c.deref-else-keys_are.ensures.value c.if-keys_are-2.false in
    let e2 : keys_are export_keys ms ≡ true = asked _ export_keys c.deref-else-keys_are-2.result.now _ _ true
    c.keys_are-else-keys_are-2.ensures export_texts c.deref-else-keys_are-2.ensures.value c.if-keys_are-3.true in
    c.export_said.ensures ∙ sym (command-mapping ms e0 e1 e2 refl refl refl)

pub returns-then-keys_are-4 : goal.returns-then-keys_are-4
returns-then-keys_are-4 c =
    let ms = members_of c.args.pairs.items in
    let e0 : keys_are batch_keys ms ≡ false = asked _ batch_keys c.deref.result.now _ _ false c.keys_are.ensures
    batch_texts c.deref.ensures.value c.if-keys_are.false in
    let e1 : keys_are get_keys ms ≡ false = asked _ get_keys c.deref-else-keys_are.result.now _ _ false
    c.keys_are-else-keys_are.ensures get_texts c.deref-else-keys_are.ensures.value c.if-keys_are-2.false in
    let e2 : keys_are export_keys ms ≡ false = asked _ export_keys c.deref-else-keys_are-2.result.now _ _ false
    c.keys_are-else-keys_are-2.ensures export_texts c.deref-else-keys_are-2.ensures.value c.if-keys_are-3.false in
    let e3 : keys_are names_keys ms ≡ true = asked _ names_keys c.deref-else-keys_are-3.result.now _ _ true
    c.keys_are-else-keys_are-3.ensures names_texts c.deref-else-keys_are-3.ensures.value c.if-keys_are-4.true in
    c.names_said.ensures ∙ sym (command-mapping ms e0 e1 e2 e3 refl refl)

pub returns-then-keys_are-5 : goal.returns-then-keys_are-5
returns-then-keys_are-5 c =
    let ms = members_of c.args.pairs.items in
    let e0 : keys_are batch_keys ms ≡ false = asked _ batch_keys c.deref.result.now _ _ false c.keys_are.ensures
    batch_texts c.deref.ensures.value c.if-keys_are.false in
    let e1 : keys_are get_keys ms ≡ false = asked _ get_keys c.deref-else-keys_are.result.now _ _ false
    c.keys_are-else-keys_are.ensures get_texts c.deref-else-keys_are.ensures.value c.if-keys_are-2.false in
    let e2 : keys_are export_keys ms ≡ false = asked _ export_keys c.deref-else-keys_are-2.result.now _ _ false
    c.keys_are-else-keys_are-2.ensures export_texts c.deref-else-keys_are-2.ensures.value c.if-keys_are-3.false in
    let e3 : keys_are names_keys ms ≡ false = asked _ names_keys c.deref-else-keys_are-3.result.now _ _ false
    c.keys_are-else-keys_are-3.ensures names_texts c.deref-else-keys_are-3.ensures.value c.if-keys_are-4.false in
    let e4 : keys_are checkpoint_keys ms ≡ true =
    asked _ checkpoint_keys c.deref-else-keys_are-4.result.now _ _ true c.keys_are-else-keys_are-4.ensures
    checkpoint_texts c.deref-else-keys_are-4.ensures.value c.if-keys_are-5.true in
    c.checkpoint_said.ensures ∙ sym (command-mapping ms e0 e1 e2 e3 e4 refl)

pub returns-then-begins_with_if : goal.returns-then-begins_with_if
returns-then-begins_with_if c =
    let ms = members_of c.args.pairs.items in
    let e0 : keys_are batch_keys ms ≡ false = asked _ batch_keys c.deref.result.now _ _ false c.keys_are.ensures
    batch_texts c.deref.ensures.value c.if-keys_are.false in
    let e1 : keys_are get_keys ms ≡ false = asked _ get_keys c.deref-else-keys_are.result.now _ _ false
    c.keys_are-else-keys_are.ensures get_texts c.deref-else-keys_are.ensures.value c.if-keys_are-2.false in
    let e2 : keys_are export_keys ms ≡ false = asked _ export_keys c.deref-else-keys_are-2.result.now _ _ false
    c.keys_are-else-keys_are-2.ensures export_texts c.deref-else-keys_are-2.ensures.value c.if-keys_are-3.false in
    let e3 : keys_are names_keys ms ≡ false = asked _ names_keys c.deref-else-keys_are-3.result.now _ _ false
    c.keys_are-else-keys_are-3.ensures names_texts c.deref-else-keys_are-3.ensures.value c.if-keys_are-4.false in
    let e4 : keys_are checkpoint_keys ms ≡ false =
    asked _ checkpoint_keys c.deref-else-keys_are-4.result.now _ _ false c.keys_are-else-keys_are-4.ensures
    checkpoint_texts c.deref-else-keys_are-4.ensures.value c.if-keys_are-5.false in
    let e5 : begins_with_if ms ≡ true = ap (λ ps. begins_with_if (members_of ps))
    (sym c.deref-else-keys_are-5.ensures.value) ∙ sym c.begins_with_if.ensures ∙ c.if-begins_with_if.true in
    IfOk-weaker c.conditional_said.result _ _ (λ said e. e ∙ sym (command-mapping ms e0 e1 e2 e3 e4 e5)) c.conditional_said.ensures

pub returns-else-begins_with_if : goal.returns-else-begins_with_if
returns-else-begins_with_if c =
    let ms = members_of c.args.pairs.items in
    let e0 : keys_are batch_keys ms ≡ false = asked _ batch_keys c.deref.result.now _ _ false c.keys_are.ensures
    batch_texts c.deref.ensures.value c.if-keys_are.false in
    let e1 : keys_are get_keys ms ≡ false = asked _ get_keys c.deref-else-keys_are.result.now _ _ false
    c.keys_are-else-keys_are.ensures get_texts c.deref-else-keys_are.ensures.value c.if-keys_are-2.false in
    let e2 : keys_are export_keys ms ≡ false = asked _ export_keys c.deref-else-keys_are-2.result.now _ _ false
    c.keys_are-else-keys_are-2.ensures export_texts c.deref-else-keys_are-2.ensures.value c.if-keys_are-3.false in
    let e3 : keys_are names_keys ms ≡ false = asked _ names_keys c.deref-else-keys_are-3.result.now _ _ false
    c.keys_are-else-keys_are-3.ensures names_texts c.deref-else-keys_are-3.ensures.value c.if-keys_are-4.false in
    let e4 : keys_are checkpoint_keys ms ≡ false =
    asked _ checkpoint_keys c.deref-else-keys_are-4.result.now _ _ false c.keys_are-else-keys_are-4.ensures
    checkpoint_texts c.deref-else-keys_are-4.ensures.value c.if-keys_are-5.false in
    let e5 : begins_with_if ms ≡ false = ap (λ ps. begins_with_if (members_of ps))
    (sym c.deref-else-keys_are-5.ensures.value) ∙ sym c.begins_with_if.ensures ∙ c.if-begins_with_if.false in
    IfOk-weaker c.part_said.result _ _ (λ said e. e ∙ sym (command-mapping ms e0 e1 e2 e3 e4 e5)) c.part_said.ensures
