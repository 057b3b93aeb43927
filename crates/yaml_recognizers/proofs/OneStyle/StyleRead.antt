-- The one style presents each tree, alone and framed, and where no text has two meanings it reads as that tree.
use Rattle.std.proofs.Common.{◌≡◌, refl, ◌∙◌, ℕ, List}
use Rattle.yaml_recognizers.proofs.Prelude.{CanRead, Presents, Reads, Stream, stream_events, Tree, style_text}
use Rattle.yaml_recognizers.proofs.OneStyle.{Presented.{presentation_of, framed_presentation_of}, Spelled.presentation_spelled}
use Rattle.yaml_recognizers.proofs.OneStyle.{Spelled.framed_spelled, Fits.{presentation_fits, framed_fits}, Meant.presentation_meant}
use Rattle.yaml_recognizers.{proofs.OneStyle.{Meant.framed_meant, StyleTexts.{style_is_text, framed_is_text}}, specs.StyleLaws.CanReadAs}
use Rattle.yaml_recognizers.specs.{StyleLaws.{StylePresents, FramedPresents, StyleReads, FramedReads}, Closings.framed_text}

-- the text of a tree has a presentation that means the tree
pub style_presented : StylePresents
style_presented t h =
    record {
      text = style_is_text t h;
      events = stream_events (presentation_of t);
      reads = record {
        presentation = presentation_of t;
        presents = record { fits = presentation_fits t h; spells = presentation_spelled t };
        means = refl;
      };
      tree = presentation_meant t h;
    }

-- so has the framed text
pub framed_presented : FramedPresents
framed_presented t h =
    record {
      text = framed_is_text t h;
      events = stream_events (framed_presentation_of t);
      reads = record {
        presentation = framed_presentation_of t;
        presents = record { fits = framed_fits t h; spells = framed_spelled t };
        means = refl;
      };
      tree = framed_meant t h;
    }

-- two presentations of one text mean the same
abbrev pub Unambiguous : Type 0
Unambiguous = (source : List ℕ) (p q : Stream) → Presents p source → Presents q source → stream_events p ≡ stream_events q

-- what can be read, and has one meaning, reads so
read_alone : Unambiguous → (source : List ℕ) (t : Tree) (can : CanReadAs source t) → Reads source can.events
read_alone one source t can =
    let here : CanRead source can.events = can.reads in
    record { source = can.text; some = here; every = λ p q. one source p here.presentation q here.presents ∙ here.means }

-- so if no text has two meanings, it reads as the tree
pub style_read : Unambiguous → StyleReads
style_read one t limits good short =
    let can : CanReadAs (style_text t) t = style_presented t good.texts in
    record { short = short; events = can.events; reads = read_alone one (style_text t) t can; tree = can.tree; good = good }

-- and so does the framed text
pub framed_read : Unambiguous → FramedReads
framed_read one t limits good short =
    let can : CanReadAs (framed_text t) t = framed_presented t good.texts in
    record { short = short; events = can.events; reads = read_alone one (framed_text t) t can; tree = can.tree; good = good }
