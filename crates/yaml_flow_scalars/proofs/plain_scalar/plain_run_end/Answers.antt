use Rattle.std.{proofs.Common.{◌∙◌, ap, arith, subst, sym}, specs.Prelude.{◌&&◌, ◌||◌, ◌==◌, nat_lt, slice_index}}
use Rattle.yaml_flow_scalars.proofs.{Prelude.{IsRun, context_of, word}, PlainPieces.{goes_from, piece_more, run_ends_at}}
use Rattle.yaml_flow_scalars.{proofs.PlainWords.{white_after, words_more}, specs.PlainPlaces.{is_content, IsPlainPiece}}
use Rattle.yaml_flow_scalars.proofs.plain_scalar.plain_run_end.Goals as goal

pub runs-init : goal.runs-init
runs-init c = record {
  above = omega arith;
  boundary = c.requires;
  goes_on = goes_from (context_of c.args.context) (is_content c.args.before) c.args.text.now c.args.from;
}

pub special_end-requires-clause-stop : goal.special_end-requires-clause-stop
special_end-requires-clause-stop c = λ l. ap (λ test. test (slice_index c.args.text.now c.run_end-stop.result))
    (sym c.words_of-class.ensures) ∙ c.run_end-stop.ensures.stop l

pub runs-preserved : goal.runs-preserved
runs-preserved c =
    let i = c.runs.invariant in
    let d = context_of c.args.context in
    let text = c.args.text.now in
    let end = c.runs.end in
    let stop = c.run_end-stop.result in
    let words = c.white_start-words.result in
    let run : IsRun (word d) text end stop = subst (λ test. IsRun test text end stop) c.words_of-class.ensures c.run_end-stop.ensures in
    let w = c.white_start-words.ensures in
    let after = is_content c.runs.before in
    let piece : IsPlainPiece d ((nat_lt end words || after) && (stop == words)) text stop c.in-Some.next =
    c.in-Some.ensures.found in
    let past = piece.above in
    let above = run.above in
    record {
      above = omega (arith, i.above);
      boundary = piece.boundary;
      goes_on = piece_more d (is_content c.args.before)
          (nat_lt end words || after) text c.args.from words stop c.utf8.text c.requires w.boundary
          (omega (arith, i.above, w.above))
          (words_more d text end stop words c.utf8.text i.boundary run w
          (is_content c.args.before) after c.args.from c.requires i.above i.goes_on)
          (white_after d text end stop words c.utf8.text i.boundary run w) c.in-Some.next piece;
    }

pub returns-in-None : goal.returns-in-None
returns-in-None c =
    let i = c.runs.invariant in
    let d = context_of c.args.context in
    let text = c.args.text.now in
    let end = c.runs.end in
    let stop = c.run_end-stop.result in
    let words = c.white_start-words.result in
    let run : IsRun (word d) text end stop = subst (λ test. IsRun test text end stop) c.words_of-class.ensures c.run_end-stop.ensures in
    let w = c.white_start-words.ensures in
    let after = is_content c.runs.before in
    run_ends_at d (is_content c.args.before) (nat_lt end words || after) text c.args.from words stop c.utf8.text
    c.requires w.boundary (omega (arith, i.above, w.above))
    (words_more d text end stop words c.utf8.text i.boundary run w
    (is_content c.args.before) after c.args.from c.requires i.above i.goes_on)
    (white_after d text end stop words c.utf8.text i.boundary run w)
    c.in-None.ensures.none
