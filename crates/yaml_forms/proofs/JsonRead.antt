-- The JSON text presents each tree, with a line feed after it or without one, and where no text has two meanings it
-- reads as that tree.
use Rattle.std.{proofs.Common.{refl, ◌∙◌}, specs.Prelude.{ℕ, List, [], ◌∷◌}}
use Rattle.yaml_forms.proofs.{Prelude.{append-nil, stream_events, Tree, CanReadAs, feed, Unambiguous}, JsonPresented.presentation_of}
use Rattle.yaml_forms.proofs.{JsonSpelled.presentation_spelled, JsonFits.presentation_fits, JsonMeant.presentation_meant}
use Rattle.yaml_forms.{proofs.{JsonCharacters.joined, JsonTexts.json_is_text}, specs.{Json.{json_text, json_line}, JsonLaws.JsonPresents}}
use Rattle.{yaml_forms.specs.JsonLaws.{JsonLinePresents, JsonReads, JsonLineReads}, yaml_grammar.specs.Reads.{CanRead, Reads}}

-- the JSON text has a presentation that means the tree
pub json_presented : JsonPresents
json_presented t h =
    record {
      text = json_is_text t h;
      events = stream_events (presentation_of [] t);
      reads = record {
        presentation = presentation_of [] t;
        presents = record {
          fits = presentation_fits [] t refl h;
          spells = presentation_spelled [] t ∙ append-nil (json_text t);
        };
        means = refl;
      };
      tree = presentation_meant [] t h;
    }

-- so has that text with a line feed after it
pub json_line_presented : JsonLinePresents
json_line_presented t h =
    record {
      text = joined (json_text t) (10 ∷ []) (json_is_text t h) refl;
      events = stream_events (presentation_of (feed ∷ []) t);
      reads = record {
        presentation = presentation_of (feed ∷ []) t;
        presents = record {
          fits = presentation_fits (feed ∷ []) t refl h;
          spells = presentation_spelled (feed ∷ []) t;
        };
        means = refl;
      };
      tree = presentation_meant (feed ∷ []) t h;
    }

-- what can be read, and has one meaning, reads so
pub read_once : Unambiguous → (source : List ℕ) (t : Tree) (can : CanReadAs source t) → Reads source can.events
read_once one source t can =
    let here : CanRead source can.events = can.reads in
    record { source = can.text; some = here; every = λ p q. one source p here.presentation q here.presents ∙ here.means }

-- so if no text has two meanings, the JSON text reads as the tree
pub json_read : Unambiguous → JsonReads
json_read one t limits good short =
    let can : CanReadAs (json_text t) t = json_presented t good.texts in
    record { short = short; events = can.events; reads = read_once one (json_text t) t can; tree = can.tree; good = good }

-- and so does that text with a line feed after it
pub json_line_read : Unambiguous → JsonLineReads
json_line_read one t limits good short =
    let can : CanReadAs (json_line t) t = json_line_presented t good.texts in
    record { short = short; events = can.events; reads = read_once one (json_line t) t can; tree = can.tree; good = good }
