-- No further line of a plain scalar comes where the next line with something solid is less deep.
use Rattle.std.{proofs.Common.{ap, arith, refl, ◌<◌, ◌∙◌, ◌≡◌}, specs.Prelude.{List, None, Some, [], false, is_some, not, true, ℕ, ◌++◌}}
use Rattle.std.specs.Prelude.{◌-◌, ◌||◌}
use Rattle.yaml_block.proofs.Prelude.{and_parts, false≢true, lt-ltb, or_right, rest, spaces_before, Line, outer, plain, LineEnd}
use Rattle.yaml_block.proofs.Prelude.{comments_text, is_empty, marker, canonical_comments, all_comments, closes_line, less_deep}
use Rattle.yaml_block.proofs.Prelude.{scalar_ends, plain_ends, read_plain_line, Read, tail_fit, no_more_lines, all_sound, IsSolidLine}
use Rattle.{yaml_block.proofs.Prelude.NoNextLine, yaml_recognizers.proofs.Block.BlockKeys.before_comments_stops}
use Rattle.{yaml_recognizers.proofs.Scalars.ScalarsInNodes.stops_end, yaml_scan.specs.declared.lines.Line.Line as NextLine}

-- where a plain scalar ends no further line of it is read
no_line : (n : ℕ) (after : List ℕ) → scalar_ends n outer (plain [] []) after ≡ true
    → read_plain_line n outer after ≡ None
unfolding scalar_ends plain_ends
no_line n after h = none (read_plain_line n outer after) (and_parts _ _ h).1
  where
    none : (r : Read (Line ℕ)) → not (is_some r) ≡ true → r ≡ None
    none None h = refl
    none (Some r) h = absurd (false≢true h)

-- no further line comes before a line that is less deep
pub no_further_line : (n : ℕ) (text : List ℕ) (end : ℕ) (line : NextLine) → IsSolidLine false text end line
    → closes_line (all_comments false (rest text end)) ≡ true → line.first - line.start < n
    → NoNextLine n outer text end
no_further_line n text end line l close few =
    let comments : List LineEnd = (all_comments false (rest text end)).0 in
    let after : List ℕ = (all_comments false (rest text end)).1 in
    let sound = all_sound false (rest text end) in
    let fits : canonical_comments false comments after ≡ true = tail_fit comments after sound.1 close in
    let count : spaces_before after ≡ line.first - line.start = ap spaces_before l.leaves ∙ (l.spaces).counts in
    let shallow : less_deep n after ≡ true =
    or_right (is_empty after || marker after) _ (lt-ltb (spaces_before after) n (omega (arith, count, few))) in
    no_more_lines n outer (rest text end)
    (ap (read_plain_line n outer) sound.0
    ∙ no_line n (comments_text comments ++ after)
    (stops_end n outer (plain [] []) (comments_text comments ++ after)
    (before_comments_stops n true comments after fits shallow)))
