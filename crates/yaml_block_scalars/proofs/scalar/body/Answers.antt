use Rattle.std.proofs.{Common.{◌≡◌, ◌∙◌, None, ap, subst, w64}, lemmas.{Int.to_z-of_z, Result.{IfOk-weaker, err_from_is_err_and}}}
use Rattle.std.specs.Prelude.{IfErr, IfOk}
use Rattle.yaml_block_scalars.proofs.Prelude.{cow_str_bytes, IsBorrowedStr, rest, Refuses, NoBody, find_indent, empties_at, lines_at}
use Rattle.yaml_block_scalars.proofs.{Prelude.{IsLineStart, fault_passed, faults_so}, Bodies.{body_there, no_body_indent, no_body_lines}}
use Rattle.yaml_block_scalars.{proofs.{Bodies.piece_there, LineStarts.body_ends}, specs.Found.{AreLines, ArePiece, IsBodyAt, IsPieceAt}}
use Rattle.yaml_block_scalars.specs.Meant.{chomping_of, is_folded, least_indent}
use Rattle.yaml_block_scalars.proofs.scalar.body.Goals as goal

least : (c : goal.After-lines) → c.least_indent.result ≡ least_indent c.args.n
least c = c.least_indent.ensures.value ∙ ap least_indent (to_z-of_z w64 c.args.n c.ranges.n)

pub returns-in_err-indent-clause-none : goal.returns-in_err-indent-clause-none
returns-in_err-indent-clause-none c =
    let header = c.args.header.now in
    let n = c.least_indent.ensures.value ∙ ap least_indent (to_z-of_z w64 c.args.n c.ranges.n) in
    fault_passed c.from_residual.result c.in_err-indent.field-0.0
    (find_indent header.digit c.least_indent.result (rest c.args.text.now c.args.at) ≡ None)
    (NoBody header.digit (least_indent c.args.n) (rest c.args.text.now c.args.at))
    (λ none. no_body_indent header.digit (least_indent c.args.n) c.args.text.now c.args.at
    (subst (λ m. find_indent header.digit m (rest c.args.text.now c.args.at) ≡ None) n none))
    c.in_err-indent.ensures.none (err_from_is_err_and c.from_residual.result c.from_residual.ensures.1)

pub returns-clause-found : goal.returns-clause-found
returns-clause-found c =
    let header = c.args.header.now in
    let text = c.args.text.now in
    subst (λ m. IfOk c.lines.result (λ found. IsBodyAt m (is_folded c.args.form) header text c.args.at
    (cow_str_bytes found.0) found.1)) (least c)
    (subst (λ b. IfOk c.lines.result (λ found. IsBodyAt c.least_indent.result b header text c.args.at
    (cow_str_bytes found.0) found.1)) c.is_folded.ensures
    (IfOk-weaker c.lines.result (λ found. AreLines c.in_ok-indent.indent c.is_folded.result
    (chomping_of header.chomping) text c.args.at (cow_str_bytes found.0) found.1)
    (λ found. IsBodyAt c.least_indent.result c.is_folded.result header text c.args.at (cow_str_bytes found.0) found.1)
    (λ found h. record {
      above = h.above;
      boundary = h.boundary;
      means = body_there header.digit c.least_indent.result c.is_folded.result
          (chomping_of header.chomping) c.in_ok-indent.indent text c.args.at c.in_ok-indent.ensures.found
          (cow_str_bytes found.0) found.1 h;
    })
    c.lines.ensures.found))

pub returns-clause-line : goal.returns-clause-line
returns-clause-line c = λ line.
    IfOk-weaker c.lines.result
    (λ found. IsBodyAt (least_indent c.args.n) (is_folded c.args.form) c.args.header.now c.args.text.now c.args.at
    (cow_str_bytes found.0) found.1)
    (λ found. IsLineStart c.args.text.now found.1)
    (λ found h. body_ends (least_indent c.args.n) (is_folded c.args.form) c.args.header.now c.args.text.now c.args.at
    (cow_str_bytes found.0) found.1 c.utf8.text c.requires.boundary h line) (returns-clause-found c)

pub returns-clause-borrowed : goal.returns-clause-borrowed
returns-clause-borrowed c =
    let header = c.args.header.now in
    let text = c.args.text.now in
    subst (λ m. IfOk c.lines.result (λ found. IsPieceAt m header text c.args.at found.1 → IsBorrowedStr found.0)) (least c)
    (IfOk-weaker c.lines.result (λ found. ArePiece c.in_ok-indent.indent (chomping_of header.chomping)
    (rest text c.args.at) → IsBorrowedStr found.0)
    (λ found. IsPieceAt c.least_indent.result header text c.args.at found.1 → IsBorrowedStr found.0)
    (λ found h p. h (piece_there header.digit c.least_indent.result c.is_folded.result
    (chomping_of header.chomping) c.in_ok-indent.indent text c.args.at c.in_ok-indent.ensures.found p.body
    (rest text found.1) p.stands p.piece))
    c.lines.ensures.borrowed)

pub returns-clause-none : goal.returns-clause-none
returns-clause-none c =
    let header = c.args.header.now in
    let text = c.args.text.now in
    subst (λ m. IfErr c.lines.result (λ fault. Refuses fault (NoBody header.digit m (rest text c.args.at)))) (least c)
    (faults_so c.lines.result (lines_at c.in_ok-indent.indent
    (empties_at c.in_ok-indent.indent (rest text c.args.at)).1 ≡ None)
    (NoBody header.digit c.least_indent.result (rest text c.args.at))
    (no_body_lines header.digit c.least_indent.result c.is_folded.result
    (chomping_of header.chomping) c.in_ok-indent.indent text c.args.at c.in_ok-indent.ensures.found)
    c.lines.ensures.none)
