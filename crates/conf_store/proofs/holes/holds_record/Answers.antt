-- Each turn goes past a piece that is no record.
use Rattle.std.{proofs.Common.{rules, ap}, specs.Prelude.Ok}
use Rattle.conf_store.proofs.KeptLemmas.{more-lacks, all-lacks, found-keeps, nothing-lacks}
use Rattle.conf_store.proofs.holes.holds_record.Goals as goal

pub pieces-init : goal.pieces-init
pieces-init c = record { starts = search rules; lacks = nothing-lacks c.args.bytes.now }

pub pieces-preserved : goal.pieces-preserved
pieces-preserved c = record {
  starts = c.in-Some.ensures.starts_line;
  lacks = more-lacks c.piece_between_closings.ensures.piece c.args.bytes.now c.pieces.at c.in-Some.end c.pieces.invariant.starts
      c.in-Some.ensures.found c.pieces.invariant.lacks
      (c.in_ok-is_record.ensures.none (ap Ok c.if-branch.false));
}

pub returns-then-branch-clause-holds : goal.returns-then-branch-clause-holds
returns-then-branch-clause-holds c is =
    found-keeps c.piece_between_closings.ensures.piece c.one_list_of_pieces.ensures.some c.args.bytes.now c.pieces.at c.in-Some.end
    c.pieces.invariant.starts c.in-Some.ensures.found c.pieces.invariant.lacks (c.in_ok-is_record.ensures.some (ap Ok c.if-branch.true))

pub returns-clause-lacks : goal.returns-clause-lacks
returns-clause-lacks c is = all-lacks c.piece_between_closings.ensures.rest c.args.bytes.now c.pieces.at c.pieces.invariant.starts
    c.in_default.ensures.none c.pieces.invariant.lacks
