-- The whole text of a tree, written with comments.
use Rattle.std.{proofs.Common.{◌≡◌, sym, ◌∙◌, ap, ap₂, append-nil, arith}, specs.Prelude.{true, List, [], ◌∷◌, ◌++◌, ◌<◌, string_bytes}}
use Rattle.std.specs.{Prelude.{encode_utf8_all, ℕ, zero, suc, drop, length}, List.list_all}
use Rattle.{yaml_chars.specs.Classes.nb, yaml_writer.specs.Encoded.encoded_both, yaml_grammar.specs.Trees.Tree}
use Rattle.yaml_commented.specs.{Trails.{Trail, extras_text}, Commented.{tree_with, after_tree, commented_text}, TrailsFit.TreeFits}
use Rattle.comments_kept.specs.{declared.weaver.{Weaver.Weaver, Placed.Placed}, Weaving.{left, texts_of, AreTrails, WroteLines, WovenTop}}
use Rattle.comments_kept.specs.{Weaving.{IsWoven, left_marks, coming}, Places.{Mark, marks_of}, Laid.{marks_to, marks_after, filled_from}}
use Rattle.comments_kept.specs.Laid.{lines_of, lead_of, behind_lead, trails_at, below_tree, Coming, behind_all, left_over}
use Rattle.comments_kept.proofs.Weaving.{first_none, last_none, texts-append, both_on_lines, coming_by}

-- some is left of a list
some_dropped : (ps : List Placed) (n : ℕ) → n < length ps → marks_of (drop n ps) ≡ [] → ⊥
some_dropped [] n within none = absurd (omega arith)
some_dropped (p ∷ ps) zero within none = cc
some_dropped (p ∷ ps) (suc n) within none = some_dropped ps n (omega arith) none

-- what is to come behind the lines before a tree
behind_lines : (w a : Weaver) → w.place ≡ 0 → WroteLines 18446744073709551615 (filled_from w.place (left_marks w)) w a
    → coming a ≡ behind_lead (left_marks w)
behind_lines w a first lines = coming_by a (behind_lead (left_marks w)) (lines.place ∙ first)
    (lines.leaves ∙ ap (λ n. marks_after n (filled_from n (left_marks w))) first)

-- what is left behind the tree has no place in it
pub rest_is : (t : Tree) (w a b : Weaver) → w.place ≡ 0
    → WroteLines 18446744073709551615 (filled_from w.place (left_marks w)) w a → WovenTop t a b
    → left_marks b ≡ left_over t (left_marks w)
rest_is t w a b first lines top =
    ap (λ (s : Coming). s.marks) (top.goes ∙ ap (behind_all (below_tree t)) (behind_lines w a first lines))

-- some is left
pub some_left : (w : Weaver) → w.taken < length w.kept.now → left_marks w ≡ [] → ⊥
some_left w within none = absurd (some_dropped w.kept.now w.taken within none)

-- the lines before a tree, and the tree, with nothing left
pub whole : (t : Tree) (w a b : Weaver) → string_bytes w.text ≡ [] → w.place ≡ 0
    → WroteLines 18446744073709551615 (filled_from w.place (left_marks w)) w a → WovenTop t a b → left b ≡ []
    → list_all (list_all nb) (texts_of (left w)) ≡ true → IsWoven t (left w) (string_bytes b.text)
whole t w a b empty first lines top none fit =
    let all : left w ≡ lines.used ++ top.used = lines.taken
    ∙ ap (λ ps. lines.used ++ ps) (top.taken ∙ ap (λ ps. top.used ++ ps) none ∙ append-nil top.used) in
    let parts = both_on_lines lines.used top.used (ap (λ ps. list_all (list_all nb) (texts_of ps)) (sym all) ∙ fit) in
    let those : List Trail = trails_at (below_tree t) (coming a) in
    let it : AreTrails (tree_with t) (after_tree t) (TreeFits t) (string_bytes a.text) (string_bytes b.text) top.used those [] =
    top.trails parts.1 [] in
    let ms : List Mark = left_marks w in
    let lead : lines.lines ≡ lead_of ms = lines.exact ∙ ap (λ n. lines_of 18446744073709551615 (marks_to n (filled_from n ms))) first in
    let behind : coming a ≡ behind_lead ms = behind_lines w a first lines in
    let trails : it.trails ≡ trails_at (below_tree t) (behind_lead ms) =
    it.exact ∙ append-nil those ∙ ap (trails_at (below_tree t)) behind in
    let spells : string_bytes b.text ≡ encode_utf8_all (commented_text lines.lines t it.trails) =
    encoded_both [] (string_bytes a.text) (string_bytes b.text) (extras_text lines.lines) (tree_with t it.trails)
    (lines.spells ∙ ap (λ bs. bs ++ encode_utf8_all (extras_text lines.lines)) empty) it.spells in
    record {
      lead = lines.lines;
      trails = it.trails;
      fits = record { before = lines.fit parts.0; trails = it.meets; used = it.leaves };
      spells = spells;
      has = ap₂ (λ xs ys. xs ++ ys) (sym lines.texts) (it.comments ∙ append-nil (texts_of top.used))
          ∙ sym (texts-append lines.used top.used) ∙ ap texts_of (sym all);
      exact = spells ∙ ap₂ (λ lead trails. encode_utf8_all (commented_text lead t trails)) lead trails;
      all = sym (rest_is t w a b first lines top) ∙ ap marks_of none;
      bare = λ nothing. (
        lines.none (first_none lines.used top.used (sym all ∙ nothing)),
        it.bare (last_none lines.used top.used (sym all ∙ nothing)) tt,
      );
    }
