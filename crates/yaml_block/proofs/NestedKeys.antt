-- The step of the reader from a key to the first key of the mapping that is its value.
use Rattle.std.{proofs.Common.{ap, arith, refl, subst, sym, ℕ, ◌+◌, ◌-◌, ◌<◌, ◌∙◌, ◌≡◌, ◌≤◌, length}, specs.Prelude.{Bool, List, Some, []}}
use Rattle.std.specs.Prelude.{false, nat_le, nat_lt, not, suc, true, ◌&&◌, ◌++◌, ◌||◌, ◌∷◌}
use Rattle.yaml_block.proofs.Prelude.{IsCharBoundary, IsUtf8, and_left, nat_tests, between, rest, block_key, Flow, marker, white, sign}
use Rattle.yaml_block.proofs.Prelude.{sign_solid, is_empty, is_line_end, spaces_before, past_spaces, block_node_stops, flow_node_at}
use Rattle.yaml_block.proofs.Prelude.{line_starts, MapStart, AreTaken, Read, Indented, BlockFrame, read_scalar}
use Rattle.yaml_block.proofs.{BlockLeaves.key_node_opens, KeysAndPairs.pair_key, LeafSteps.first_pair, PairTests.spaces_before_no_marker}
use Rattle.yaml_block.proofs.{LineValueSteps.{after_colon, first_line_key}, PlaceSteps.short_is, PlainStarts.plain_start}
use Rattle.yaml_block.proofs.{SignsAndLines.{line_leaf_or_pairs, node_there}, Stacks.appended_one, TextPlaces.pair_starts}
use Rattle.yaml_block.specs.{LineValues.{IsNestedKey, IsPlainLine}, States.{BeforeColon, GoesOn, IsAfterSign, Leads, Stack}}
use Rattle.yaml_block.specs.{Frames.{AfterSign, AtLeaf, AtPair}, declared.frame.{Collection.Collection, Waits.TheVariants.Value}}
use Rattle.yaml_block.specs.declared.{indentation.Indentation.Indentation, line_sign.Sign.TheVariants.Colon, nested_key.NestedKey.NestedKey}
use Rattle.{yaml_block.specs.declared.reader.Reader.Reader, yaml_events.specs.declared.context.BlockContext.TheVariants.Bout}
use Rattle.{yaml_scan.{specs.declared.lines.Line.Line, proofs.GapSteps.no_white_taken}, yaml_flow.proofs.ScalarSteps.scalar_found}
use Rattle.{yaml_recognizers.proofs.Scalars.{FlowScalars.complete, WholeScalars.whole_stands}, yaml_grammar.specs.FlowNodes.scalar}
use Rattle.yaml_grammar.specs.Events as grammar
use Rattle.yaml_grammar.specs.FlowScalars as scalars
use Rattle.yaml_block.specs.declared.frame.Next.TheVariants as next

-- a line with more than k spaces ends no part at k
deeper_goes_on : (k : ℕ) (text : List ℕ) → k < spaces_before text → is_line_end text ≡ false
    → block_node_stops (suc k) true text ≡ false
deeper_goes_on k text l e =
    let there = spaces_before_no_marker (spaces_before text) text (omega arith) refl in
    let deep : nat_lt (spaces_before text) (suc k) ≡ false = grind (arith, nat_tests) in
    by_tests (is_empty text) (marker text) (is_line_end text) (nat_lt (spaces_before text) (suc k))
    (not (true && nat_le (suc k) (suc (spaces_before text)) && sign 45 (past_spaces text))) there.0 there.1 e deep
  where
    by_tests : (a b c d x : Bool) → a ≡ false → b ≡ false → c ≡ false → d ≡ false → a || b || c || (d && x) ≡ false
    by_tests a b c d x h i j l = rw (h, i, j, l) refl

module _ (text : List ℕ) (u : IsUtf8 text) where
  -- the first line of a plain scalar is a key where one may be
  key_found : (at end : ℕ) → IsCharBoundary text at → IsPlainLine 0 block_key text at end
      → (f : Flow) × (flow_node_at 0 block_key (line_starts text at) (rest text at) ≡ Some (f, rest text end))
  key_found at end b p =
      let s : scalars.Scalar = ((p.scalar).scalar).scalar in
      let reads : read_scalar 0 block_key (line_starts text at) (rest text at) ≡ Some (s, rest text end) =
      complete 0 block_key (line_starts text at) (rest text at) s (rest text end)
      (whole_stands 0 block_key (line_starts text at) (rest text at) s (rest text end) ((p.scalar).scalar).stands) in
      let begins = plain_start 0 block_key text at end _ p.scalar in
      (scalar s, scalar_found 0 block_key text at end s begins.no_seq begins.no_map reads)

  module _ (k colon : ℕ) (key : NestedKey) (n : IsNestedKey text k colon key) where
    key_line : Line
    key_line = record { start = n.start; first = key.at }

    -- before it a mapping opens
    nested_pair : (W : Read Indented) (from : ℕ) (fs : List BlockFrame) (evs : List grammar.Event)
        → AtLeaf W text from fs evs (k + 1) (Some (key.at - n.start)) key.at
        → AtPair W text from fs (evs ++ grammar.map_start ∷ []) (key.at - n.start) key.at
    nested_pair W from fs evs leaf =
        let at : ℕ = key.at in
        let end : ℕ = key.end in
        let b : IsCharBoundary text at = ((n.solid).spaces).boundary in
        let d : IsCharBoundary text end = (n.line).boundary in
        let f = key_found at end b (first_line_key text u at end b n.line) in
        let taken : AreTaken white text end end = no_white_taken text end d (sign_solid 58 (rest text end) refl n.colon)
        in
        let filled = spaces_before_no_marker (spaces_before (rest text n.start)) (rest text n.start)
        (omega (arith, ((n.solid).spaces).counts, n.indent, n.deeper)) refl in
        first_pair W text from fs evs (k + 1) (at - n.start) at f.0 end leaf
        (pair_starts text n.start at (at - n.start) u (n.solid).boundary b n.starts filled.0 ((n.solid).spaces).counts
        ((n.solid).spaces).leaves)
        f.1 (ap (sign 58) taken.leaves ∙ n.colon)
        (sym (short_is text at end end f.0 0 block_key (line_starts text at) u b d f.1 taken) ∙ n.short)

    -- a leaf or the first key of a mapping is the part after the `:`
    nested_leaf : IsAfterSign text k (colon + 1) → (W : Read Indented) (from : ℕ) (fs : List BlockFrame)
        (evs : List grammar.Event) → AfterSign W text from fs evs Colon k (colon + 1)
        → AtLeaf W text from fs evs (k + 1) (Some (key.at - n.start)) key.at
    unfolding key_line
    nested_leaf placed W from fs evs after =
        let node : Indentation = record { least = k + 1; margin = k + 1; context = Bout } in
        let b : IsCharBoundary text key.at = ((n.solid).spaces).boundary in
        let f = key_found key.at key.end b (first_line_key text u key.at key.end b n.line) in
        let opens = (key_node_opens (line_starts text key.at) (rest text key.at) f.0 (rest text key.end) f.1).0 in
        let there = node_there text Colon k (colon + 1) u placed n.closes key_line n.solid node refl refl refl
        (deeper_goes_on k (rest text n.start) (omega (arith, ((n.solid).spaces).counts, n.indent, n.deeper))
        (n.solid).solid) W from fs evs after in
        line_leaf_or_pairs text node key_line u
        (record { boundary = (n.solid).boundary; spaces = (n.solid).spaces; starts = n.starts })
        (and_left _ _ opens.no_dash) key.at (no_white_taken text key.at b opens.solid_first)
        (omega (arith, n.indent, n.deeper)) refl W from fs evs there

  -- the outer key waits for its value, and a mapping begins before the nested one
  pub nested_leads : (at k end : ℕ) (key : NestedKey) (old waited new : Reader) → IsCharBoundary text at
      → IsCharBoundary text end → k ≤ at → at < end → sign 58 (rest text end) ≡ true
      → nat_le (length (between text at end)) 1024 ≡ true → IsNestedKey text k end key
      → waited.collections.items ≡ old.collections.items ++ (record { waits = Value; indent = k }) ∷ []
      → waited.events ≡ old.events → new.collections ≡ waited.collections
      → new.events ≡ waited.events ++ MapStart ∷ []
      → Leads text (BeforeColon text k at end) old new (next.Pair key.at key.indent)
  nested_leads at k end key old waited new b d deep far c short n i e j w = λ W from base fs evs held h.
      let taken : AreTaken white text end end = no_white_taken text end d (sign_solid 58 (rest text end) refl c) in
      let placed : IsAfterSign text k (end + 1) = after_colon text u at end k d c deep (omega (arith, far)) in
      let g : GoesOn W text from base waited (next.After (end + 1) k Colon) =
      pair_key text u at k end end b d taken old waited c short i e W from base fs evs held h in
      let leaf = nested_leaf k end key n placed W from g.fs g.evs g.stands in
      let pair = nested_pair k end key n W from g.fs g.evs leaf in
      record {
        fs = g.fs;
        evs = g.evs ++ grammar.map_start ∷ [];
        holds = record {
          stack = subst (λ (v : List Collection). Stack g.fs v) (sym (ap (λ v. v.items) j)) (g.holds).stack;
          appended = appended_one text base waited.events new.events g.evs MapStart (g.holds).appended w tt;
        };
        stands = subst (λ (m : ℕ). AtPair W text from g.fs (g.evs ++ grammar.map_start ∷ []) m key.at) n.indent pair;
      }
