-- The loop over what is read next, and the whole node.
use Rattle.std.{proofs.Common.{◌≡◌, refl, subst, ℕ, ◌≤◌}, specs.Prelude.{Bool, List, [], Option, Some, None}}
use Rattle.yaml_block.proofs.{Prelude.{rest, Node, Indented, Read, block_node_at, line_starts, Event, Appended}, Stacks.appended_none}
use Rattle.yaml_block.{proofs.Unwinding.whole, specs.{BlockParts.as_part, Found.BlockNodeRead, Lines.IsLine, Turns.{IsPart, Unwinds}}}
use Rattle.yaml_block.specs.declared.{frame.Next.Next, next_line.NextLine.NextLine, line_sign.Sign.Sign, reader.Reader.Reader}
use Rattle.yaml_block.specs.States.{BeforeNode, BeforePair, BeforePart, Fails, GoesOn, Holds, Leads}
use Rattle.yaml_grammar.specs.Events as grammar
use Rattle.yaml_block.specs.declared.frame.Next.TheVariants as next

none_part : (r : Read Node) → as_part r ≡ None → r ≡ None
none_part None e = refl
none_part (Some p) e = absurd (let z : ⊥ = cc in z)

module _ (text : List ℕ) (m at : ℕ) (shallow : Bool) where
  -- what the call reads, as a part
  abbrev pub all : Read Indented
  all = as_part (block_node_at m shallow (line_starts text at) (rest text at))

  module _ (first : Reader) (none_open : first.collections.items ≡ []) where
    first_holds : Holds text first.events [] [] first
    first_holds = record { stack = none_open; appended = appended_none text first.events }

    first_state : BeforeNode text m shallow at all at [] []
    first_state = record { reads = refl; nested = tt; place = refl; wrote = refl }

    -- the start of the node leads to the first step
    pub prefix_leads : (new : Reader) (to : Next) → Leads text (BeforeNode text m shallow at) first new to
        → GoesOn all text at first.events new to
    prefix_leads new to l = l all at first.events [] [] first_holds first_state

    -- if it fails, there is no node
    pub prefix_fails : Fails text (BeforeNode text m shallow at) first
        → block_node_at m shallow (line_starts text at) (rest text at) ≡ None
    prefix_fails f = none_part (block_node_at m shallow (line_starts text at) (rest text at))
        (f all at first.events [] [] first_holds first_state)

  module _ (base : List Event) (now : Reader) (here : Next) (g : GoesOn all text at base now here) where
    -- a part after a sign leads to the next step
    pub part_leads : (sg : Sign) (k place : ℕ) (new : Reader) (to : Next) → here ≡ next.After place k sg
        → Leads text (BeforePart text sg k place) now new to → GoesOn all text at base new to
    part_leads sg k place new to e l =
        let p : GoesOn all text at base now (next.After place k sg) =
        subst (λ n. GoesOn all text at base now n) e g in
        l all at base p.fs p.evs p.holds p.stands

    -- if it fails, there is no node
    pub part_fails : (sg : Sign) (k place : ℕ) → here ≡ next.After place k sg
        → Fails text (BeforePart text sg k place) now
        → block_node_at m shallow (line_starts text at) (rest text at) ≡ None
    part_fails sg k place e f =
        let p : GoesOn all text at base now (next.After place k sg) =
        subst (λ n. GoesOn all text at base now n) e g in
        none_part (block_node_at m shallow (line_starts text at) (rest text at))
        (f all at base p.fs p.evs p.holds p.stands)

    -- a pair leads to the next step
    pub pair_leads : (k place : ℕ) (new : Reader) (to : Next) → here ≡ next.Pair place k
        → Leads text (BeforePair text k place) now new to → GoesOn all text at base new to
    pair_leads k place new to e l =
        let p : GoesOn all text at base now (next.Pair place k) = subst (λ n. GoesOn all text at base now n) e g in
        l all at base p.fs p.evs p.holds p.stands

    -- if it fails, there is no node
    pub pair_fails : (k place : ℕ) → here ≡ next.Pair place k → Fails text (BeforePair text k place) now
        → block_node_at m shallow (line_starts text at) (rest text at) ≡ None
    pair_fails k place e f =
        let p : GoesOn all text at base now (next.Pair place k) = subst (λ n. GoesOn all text at base now n) e g in
        none_part (block_node_at m shallow (line_starts text at) (rest text at))
        (f all at base p.fs p.evs p.holds p.stands)

    -- a line after a part leads to the next step
    pub line_leads : (after : NextLine) (new : Reader) (turn : Option Next) (to : Next) → here ≡ next.Line after
        → Unwinds text after now new turn → turn ≡ Some to → GoesOn all text at base new to
    line_leads after new turn to e t s =
        let p : GoesOn all text at base now (next.Line after) = subst (λ n. GoesOn all text at base now n) e g in
        let u : Unwinds text after now new (Some to) = subst (λ o. Unwinds text after now new o) s t in
        u all at base p.fs p.evs p.holds p.stands

    -- or it ends the node
    pub line_ends : (after : NextLine) (new : Reader) (turn : Option Next) → here ≡ next.Line after
        → Unwinds text after now new turn → turn ≡ None → at ≤ after.line.start → IsLine text after.line
        → BlockNodeRead m shallow text at base new.events after.line.start
    line_ends after new turn e t s l line =
        let p : GoesOn all text at base now (next.Line after) = subst (λ n. GoesOn all text at base now n) e g in
        let u : Unwinds text after now new None = subst (λ o. Unwinds text after now new o) s t in
        let part : IsPart all text at base [] new after.line.start = u all at base p.fs p.evs p.holds p.stands in
        let w = whole text at m shallow (line_starts text at) part.evs after.line.start new.end part.stands in
        record {
          above = l;
          within = line.boundary.0;
          boundary = line.boundary;
          fresh = line.starts;
          node = w.0;
          found = w.1;
          appended = subst (λ (es : List grammar.Event). Appended text base new.events es) w.2 (part.holds).appended;
        }
