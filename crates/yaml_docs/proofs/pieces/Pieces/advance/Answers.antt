-- Each turn takes in what was read before, and then reads on.
use Rattle.std.{proofs.Common.{refl, ap, subst}, specs.Prelude.{Ok, Err}}
use Rattle.yaml_docs.proofs.{Prelude.err_from_is_err_and, PieceReads.{feeds-at, fills-at, cleared-sound, so_far-none, so_far-more, at-end}}
use Rattle.yaml_docs.{proofs.PieceReads.fill-fails, specs.PieceReading.{piece_limit, input_limit, Feeds, FeedsAll, Fills}}
use Rattle.yaml_docs.proofs.pieces.Pieces.advance.Goals as goal

pub parts-init : goal.parts-init
parts-init g c =
    record {
      sound = cleared-sound (piece_limit c.args.self.now) (input_limit c.args.self.now) c.args.self.now _ c.requires
          (ap (λ h. h.max) c.clear.ensures);
      so_far = so_far-none _ c.args.self.now _ (ap (λ h. h.bytes) c.clear.ensures) refl refl;
    }

pub returns-in_err-fill : goal.returns-in_err-fill
returns-in_err-fill g c =
    let given = g.R.Read.remaining in
    let all : FeedsAll (piece_limit c.args.self.now) (input_limit c.args.self.now) c.parts.self c.feed.new.self =
    subst (λ b. Feeds (piece_limit c.args.self.now) (input_limit c.args.self.now) c.parts.self c.feed.new.self
    (Ok b)) c.if-branch.false (feeds-at (piece_limit c.args.self.now)
    (input_limit c.args.self.now) c.parts.self c.feed.new.self c.parts.invariant.sound
    (Ok c.in_ok-feed.field-0) c.in_ok-feed.ensures) in
    let fails = fill-fails (piece_limit c.args.self.now) (input_limit c.args.self.now) (given c.args.reader.now)
    (given c.parts.reader) (given c.fill.new.reader) c.args.self.now c.parts.self c.feed.new.self c.fill.new.self
    c.parts.invariant.so_far all c.in_err-fill.field-0.0
    (fills-at (piece_limit c.args.self.now) (input_limit c.args.self.now) c.feed.new.self c.fill.new.self
    all.sound (g.R.Read.remaining c.parts.reader) (g.R.Read.remaining c.fill.new.reader)
    (Err c.in_err-fill.field-0.0) c.in_err-fill.ensures) in
    let p = err_from_is_err_and c.from_residual-in_err-fill.result c.from_residual-in_err-fill.ensures.1 in
    rw (p.1, p.2) fails

pub returns-then-not-branch : goal.returns-then-not-branch
returns-then-not-branch g c =
    let all : FeedsAll (piece_limit c.args.self.now) (input_limit c.args.self.now) c.parts.self c.feed.new.self =
    subst (λ b. Feeds (piece_limit c.args.self.now) (input_limit c.args.self.now) c.parts.self c.feed.new.self
    (Ok b)) c.if-branch.false (feeds-at (piece_limit c.args.self.now)
    (input_limit c.args.self.now) c.parts.self c.feed.new.self c.parts.invariant.sound
    (Ok c.in_ok-feed.field-0) c.in_ok-feed.ensures) in
    at-end (piece_limit c.args.self.now) (input_limit c.args.self.now) (g.R.Read.remaining c.args.reader.now)
    (g.R.Read.remaining c.parts.reader) (g.R.Read.remaining c.fill.new.reader) c.args.self.now c.parts.self
    c.feed.new.self c.fill.new.self c.parts.invariant.so_far all
    (subst (λ b. Fills (piece_limit c.args.self.now) (input_limit c.args.self.now) (g.R.Read.remaining c.parts.reader)
    (g.R.Read.remaining c.fill.new.reader) c.feed.new.self c.fill.new.self (Ok b)) c.if-not-branch.true
    (fills-at (piece_limit c.args.self.now) (input_limit c.args.self.now) c.feed.new.self c.fill.new.self
    all.sound (g.R.Read.remaining c.parts.reader) (g.R.Read.remaining c.fill.new.reader)
    (Ok c.in_ok-fill.field-0) c.in_ok-fill.ensures))

pub parts-preserved : goal.parts-preserved
parts-preserved g c =
    let all : FeedsAll (piece_limit c.args.self.now) (input_limit c.args.self.now) c.parts.self c.feed.new.self =
    subst (λ b. Feeds (piece_limit c.args.self.now) (input_limit c.args.self.now) c.parts.self c.feed.new.self
    (Ok b)) c.if-branch.false (feeds-at (piece_limit c.args.self.now)
    (input_limit c.args.self.now) c.parts.self c.feed.new.self c.parts.invariant.sound
    (Ok c.in_ok-feed.field-0) c.in_ok-feed.ensures) in
    let some = subst (λ b. Fills (piece_limit c.args.self.now) (input_limit c.args.self.now)
    (g.R.Read.remaining c.parts.reader) (g.R.Read.remaining c.fill.new.reader) c.feed.new.self c.fill.new.self
    (Ok b)) c.if-not-branch.false (fills-at (piece_limit c.args.self.now)
    (input_limit c.args.self.now) c.feed.new.self c.fill.new.self all.sound (g.R.Read.remaining c.parts.reader)
    (g.R.Read.remaining c.fill.new.reader) (Ok c.in_ok-fill.field-0) c.in_ok-fill.ensures) in
    record {
      sound = some.sound;
      so_far = so_far-more (piece_limit c.args.self.now) (input_limit c.args.self.now)
          (g.R.Read.remaining c.args.reader.now) (g.R.Read.remaining c.parts.reader)
          (g.R.Read.remaining c.fill.new.reader) c.args.self.now c.parts.self c.feed.new.self c.fill.new.self
          c.parts.invariant.so_far all some;
    }
