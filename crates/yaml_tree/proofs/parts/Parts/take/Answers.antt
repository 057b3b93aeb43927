use Rattle.std.proofs.Common.{◌∷◌, ap}
use Rattle.yaml_tree.proofs.Prelude.{event_of, shape, document_from, document_to, seq_from, map_from, no_element, no_member}
use Rattle.yaml_tree.{proofs.CheckLemmas.{took_inner, opened}, specs.{OpenParts.part_frames, Frames.{awaiting, in_seq, at_key}}}
use Rattle.yaml_tree.proofs.parts.Parts.take.Goals as goal

pub returns-in-DocStart : goal.returns-in-DocStart
returns-in-DocStart g c = λ fs keeps.
    let before = part_frames g.V.Kept.tree g.V.Kept.elements c.args.self.now.parts.items in
    let after = part_frames g.V.Kept.tree g.V.Kept.elements c.push.new.self.parts.items in
    took_inner g.V.Kept.keep before after c.args.self.now.keys_differ _ fs (shape (event_of c.args.event)) document_from c.push.result
    (ap (λ e. shape (event_of e)) c.in-DocStart.is) tt keeps c.push.ensures.keys
    (opened c.push.result (awaiting ∷ before) after c.push.ensures.parts)

pub returns-in-DocEnd : goal.returns-in-DocEnd
returns-in-DocEnd g c = λ fs keeps.
    let before = part_frames g.V.Kept.tree g.V.Kept.elements c.args.self.now.parts.items in
    let after = part_frames g.V.Kept.tree g.V.Kept.elements c.end_document.new.self.parts.items in
    took_inner g.V.Kept.keep before after c.args.self.now.keys_differ _ fs (shape (event_of c.args.event)) document_to c.end_document.result
    (ap (λ e. shape (event_of e)) c.in-DocEnd.is) tt keeps c.end_document.ensures.keys c.end_document.ensures.parts

pub returns-in-SeqStart : goal.returns-in-SeqStart
returns-in-SeqStart g c = λ fs keeps.
    let before = part_frames g.V.Kept.tree g.V.Kept.elements c.args.self.now.parts.items in
    let after = part_frames g.V.Kept.tree g.V.Kept.elements c.start_seq.new.self.parts.items in
    took_inner g.V.Kept.keep before after c.args.self.now.keys_differ _ fs (shape (event_of c.args.event)) seq_from c.start_seq.result
    (ap (λ e. shape (event_of e)) c.in-SeqStart.is) tt keeps c.start_seq.ensures.keys
    (opened c.start_seq.result (in_seq no_element ∷ before) after c.start_seq.ensures.parts)

pub returns-in-MapStart : goal.returns-in-MapStart
returns-in-MapStart g c = λ fs keeps.
    let before = part_frames g.V.Kept.tree g.V.Kept.elements c.args.self.now.parts.items in
    let after = part_frames g.V.Kept.tree g.V.Kept.elements c.start_map.new.self.parts.items in
    took_inner g.V.Kept.keep before after c.args.self.now.keys_differ _ fs (shape (event_of c.args.event)) map_from c.start_map.result
    (ap (λ e. shape (event_of e)) c.in-MapStart.is) tt keeps c.start_map.ensures.keys
    (opened c.start_map.result (at_key no_member ∷ before) after c.start_map.ensures.parts)
