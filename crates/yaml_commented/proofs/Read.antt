-- A tree with comments has a presentation that means the tree; where no text has two meanings its text reads as it.
use Rattle.std.proofs.Common.{refl, ◌∙◌, ℕ, List}
use Rattle.{yaml_grammar.specs.{Reads.CanRead, Streams.stream_events}, yaml_recognizers.specs.StyleLaws.CanReadAs}
use Rattle.{yaml_recognizers.proofs.OneStyle.StyleRead.Unambiguous, yaml_commented.specs.Commented.commented_text}
use Rattle.yaml_commented.{specs.CommentedLaws.{CommentedPresents, CommentedReads}, proofs.Presented.presentation_of}
use Rattle.yaml_commented.proofs.{Spelled.presentation_spelled, Fits.presentation_fits, Meant.presentation_meant, Texts.commented_is_text}

-- the text has a presentation that means the tree
pub commented_presented : CommentedPresents
commented_presented lead t ws h f =
    record {
      text = commented_is_text lead t ws h f;
      events = stream_events (presentation_of lead t ws);
      reads = record {
        presentation = presentation_of lead t ws;
        presents = record { fits = presentation_fits lead t ws h f; spells = presentation_spelled lead t ws };
        means = refl;
      };
      tree = presentation_meant lead t ws h f;
    }

-- so if no text has two meanings, it reads as the tree
pub commented_read : Unambiguous → CommentedReads
commented_read one lead t ws limits good f short =
    let source : List ℕ = commented_text lead t ws in
    let can : CanReadAs source t = commented_presented lead t ws good.texts f in
    let here : CanRead source can.events = can.reads in
    record {
      short = short;
      events = can.events;
      reads = record { source = can.text; some = here; every = λ p q. one source p here.presentation q here.presents ∙ here.means };
      tree = can.tree;
      good = good;
    }
