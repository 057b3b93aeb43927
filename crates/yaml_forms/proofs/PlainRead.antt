-- The plain form presents each tree, and where no text has two meanings it reads as that tree.
use Rattle.std.proofs.Common.{refl}
use Rattle.yaml_forms.proofs.{Prelude.{stream_events, CanReadAs, Unambiguous}, JsonRead.read_once, PlainPresented.presentation_of}
use Rattle.yaml_forms.proofs.{PlainSpelled.presentation_spelled, PlainFits.presentation_fits, PlainMeant.presentation_meant}
use Rattle.yaml_forms.{proofs.PlainTexts.plain_is_text, specs.{PlainForm.plain_text, PlainLaws.{PlainPresents, PlainReads}}}

-- the plain form has a presentation that means the tree
pub plain_presented : PlainPresents
plain_presented t h =
    record {
      text = plain_is_text t h;
      events = stream_events (presentation_of t);
      reads = record {
        presentation = presentation_of t;
        presents = record { fits = presentation_fits t h; spells = presentation_spelled t };
        means = refl;
      };
      tree = presentation_meant t h;
    }

-- so if no text has two meanings, it reads as the tree
pub plain_read : Unambiguous → PlainReads
plain_read one t limits good short =
    let can : CanReadAs (plain_text t) t = plain_presented t good.texts in
    record { short = short; events = can.events; reads = read_once one (plain_text t) t can; tree = can.tree; good = good }
