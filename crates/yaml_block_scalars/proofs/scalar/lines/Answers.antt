use Rattle.std.proofs.Common.{◌≡◌, None, refl}
use Rattle.yaml_block_scalars.proofs.Prelude.{cow_str_bytes, IsBorrowedStr, line_feeds, rest, empties_at, lines_at, faults_so, ok_so}
use Rattle.yaml_block_scalars.proofs.{Bodies.{lines_missing, lines_none, lines_piece, lines_pushed, piece_more}, EmptyLines.empties_past}
use Rattle.yaml_block_scalars.specs.{Found.{AreLines, ArePiece}, Lines.ArePushed, Meant.chomping_of}
use Rattle.yaml_block_scalars.proofs.scalar.lines.Goals as goal

pub text_line-requires-clause-past : goal.text_line-requires-clause-past
text_line-requires-clause-past c = empties_past c.args.indent c.args.text.now c.args.at c.empty_lines-empties.result.0
    c.empty_lines-empties.result.1 c.empty_lines-empties.ensures

pub returns-in_default-clause-found : goal.returns-in_default-clause-found
returns-in_default-clause-found c =
    lines_none c.args.indent c.args.style.folded
    (chomping_of c.args.style.chomping) c.args.text.now c.args.at c.empty_lines-empties.result.0
    c.empty_lines-empties.result.1 c.empty_lines-empties.ensures
    (cow_str_bytes c.in_ok-no_lines.field-0) (rw c.in_default.is at c.in_ok-line.ensures.none) c.in_ok-no_lines.ensures.value

pub returns-clause-found : goal.returns-clause-found
returns-clause-found c =
    ok_so c.joined_lines.result (λ f. ArePushed c.args.indent c.args.style.folded
    (chomping_of c.args.style.chomping) c.args.text.now c.in-Some.line (line_feeds c.empty_lines-empties.result.0)
    (cow_str_bytes f.0) f.1)
    (λ f. AreLines c.args.indent c.args.style.folded (chomping_of c.args.style.chomping) c.args.text.now c.args.at (cow_str_bytes f.0) f.1)
    (λ f h. lines_pushed c.args.indent c.args.style.folded
    (chomping_of c.args.style.chomping) c.args.text.now c.args.at c.empty_lines-empties.result.0
    c.empty_lines-empties.result.1 c.empty_lines-empties.ensures
    c.in-Some.line (rw c.in-Some.is at c.in_ok-line.ensures.found) (line_feeds c.empty_lines-empties.result.0)
    (cow_str_bytes f.0) f.1 refl h)
    c.joined_lines.ensures.found

pub returns-clause-borrowed : goal.returns-clause-borrowed
returns-clause-borrowed c =
    ok_so c.joined_lines.result (λ f. ArePushed c.args.indent c.args.style.folded
    (chomping_of c.args.style.chomping) c.args.text.now c.in-Some.line (line_feeds c.empty_lines-empties.result.0)
    (cow_str_bytes f.0) f.1)
    (λ f. ArePiece c.args.indent (chomping_of c.args.style.chomping) (rest c.args.text.now c.args.at) → IsBorrowedStr f.0)
    (λ f h p. absurd (piece_more c.args.indent c.args.style.folded
    (chomping_of c.args.style.chomping) c.args.text.now c.args.at c.empty_lines-empties.result.0
    c.empty_lines-empties.result.1 c.empty_lines-empties.ensures
    c.in-Some.line (rw c.in-Some.is at c.in_ok-line.ensures.found) c.in_default-piece_end.ensures.none p))
    c.joined_lines.ensures.found

pub returns-clause-none : goal.returns-clause-none
returns-clause-none c =
    faults_so c.joined_lines.result (lines_at c.args.indent (rest c.args.text.now c.in-Some.line.next) ≡ None)
    (lines_at c.args.indent (empties_at c.args.indent (rest c.args.text.now c.args.at)).1 ≡ None)
    (lines_missing c.args.indent c.args.style.folded
    (chomping_of c.args.style.chomping) c.args.text.now c.args.at c.empty_lines-empties.result.0
    c.empty_lines-empties.result.1 c.empty_lines-empties.ensures c.in-Some.line
    (rw c.in-Some.is at c.in_ok-line.ensures.found)) c.joined_lines.ensures.none

pub returns-in-Some-piece_end-clause-found : goal.returns-in-Some-piece_end-clause-found
returns-in-Some-piece_end-clause-found c =
    lines_piece c.args.indent c.args.style.folded
    (chomping_of c.args.style.chomping) c.args.text.now c.args.at c.empty_lines-empties.result.0
    c.empty_lines-empties.result.1 c.empty_lines-empties.ensures
    c.in-Some.line (rw c.in-Some.is at c.in_ok-line.ensures.found) c.utf8.text c.range.result.now
    c.in-Some-piece_end.end c.in-Some-piece_end.ensures.found c.range.ensures.value
