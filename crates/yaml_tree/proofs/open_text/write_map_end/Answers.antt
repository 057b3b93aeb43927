use Rattle.std.proofs.Common.{◌≡◌, codes, length, subst, refl, sym, ap, ◌∙◌, arith}
use Rattle.yaml_tree.proofs.{Prelude.{eqb-true, eqb-false, on_ok_weaker, chars-literal}, OpenPartLemmas.{map_end-key, map_end-empty}}
use Rattle.yaml_tree.{proofs.OpenPartLemmas.map_end-filled, specs.{OpenParts.{open_frame, open_frames}, Kept.{members_by, no_tree}}}
use Rattle.yaml_tree.specs.OpenText.{empty_line, map_end}
use Rattle.yaml_tree.proofs.open_text.write_map_end.Goals as goal

pub returns-then-map : goal.returns-then-map
returns-then-map g c =
    let fs = open_frames c.args.outer.now in
    let map = c.in-Map.map in
    subst (λ cs. g.S.Sink.Takes c.args.sink.now cs c.args.sink.now)
    (map_end-key (members_by no_tree map.pairs.items) map.awaits_value fs (c.if-map.true)
    ∙ sym (ap (λ p. map_end (open_frame p) fs) c.in-Map.is))
    (g.met.S.Sink.takes_none c.args.sink.now)

pub returns-then-not-is_empty : goal.returns-then-not-is_empty
returns-then-not-is_empty g c =
    let fs = open_frames c.args.outer.now in
    let map = c.in-Map.map in
    let filled = eqb-false _ _ (sym c.if-not-is_empty.ensures) in
    let some : length map.pairs.items ≡ 0 → ⊥ = λ none. filled (omega (arith, none, map.pairs.ok)) in
    subst (λ cs. g.S.Sink.Takes c.args.sink.now cs c.args.sink.now)
    (map_end-filled map.pairs.items map.awaits_value fs some ∙ sym (ap (λ p. map_end (open_frame p) fs) c.in-Map.is))
    (g.met.S.Sink.takes_none c.args.sink.now)

pub returns : goal.returns
returns g c =
    let fs = open_frames c.args.outer.now in
    let map = c.in-Map.map in
    let empty = eqb-true _ _ (sym c.if-not-is_empty.ensures) in
    let none : length map.pairs.items ≡ 0 = omega (arith, empty, map.pairs.ok) in
    on_ok_weaker c.write_empty.result
    (subst (λ cs. g.S.Sink.Takes c.args.sink.now cs c.write_empty.new.sink)
    (ap (λ cs. empty_line cs fs) (chars-literal (codes "{}\n") refl)
    ∙ map_end-empty map.pairs.items map.awaits_value fs (c.if-map.false) none
    ∙ sym (ap (λ p. map_end (open_frame p) fs) c.in-Map.is)))
    c.write_empty.ensures
