-- Ends of lines, and lines of their own.
use Rattle.std.proofs.Common.{◌≡◌, ◌≤◌, ◌<◌, refl, sym, ◌∙◌, ap, ap₂, subst, append_assoc, get_or, length, arith, ⊎_elim, inl, inr, Bor}
use Rattle.std.{proofs.lemmas.Bool.{and_parts, and_from, le-leb}, specs.Prelude.{ℕ, ◌+◌, min, Bool, false, true, List, [], ◌∷◌, ◌++◌}}
use Rattle.std.specs.{Prelude.{Option, Some, None, codes, encode_utf8_all, string_bytes, drop, flat_map}, List.list_all, Str.chars}
use Rattle.{yaml_writer.{specs.Encoded.{encoded_both, encoded_none}, proofs.Prelude.drop_all}, yaml_chars.specs.Classes.nb}
use Rattle.{yaml_data.proofs.ListLemmas.drop_item, yaml_grammar.specs.Texts.spaces, yaml_commented.specs.Trails.{Extra, comment_line}}
use Rattle.yaml_commented.specs.Trails.{Trail, IsBare, behind_comments, extra_comments, end_text, extras_text, extra_text, trail_comments}
use Rattle.yaml_commented.specs.{Trails.trail_text, Commented.{next_trail, later_trails}, TrailsFit.{behind_fits, extra_fits, starts_low}}
use Rattle.{yaml_commented.specs.TrailsFit.{starts_filled, trail_fits}, comments_kept.specs.declared.weaver.Kept.Kept}
use Rattle.comments_kept.specs.{declared.weaver.{Kept.TheVariants.{EmptyLine, Comment}, Placed.Placed, Weaver.Weaver}, Weaving.kept_texts}
use Rattle.comments_kept.specs.Weaving.{texts_of, left, extra_of, IsComment, StartsFilled, Woven, Wrote, WroteEnd, WroteLines}
use Rattle.comments_kept.specs.Weaving.{WroteFilledLines, HasSkipped, WovenEnd, left_marks, coming, StartsBehind, StartsElsewhere}
use Rattle.comments_kept.specs.{Places.{Mark, mark_of, marks_of, kept_text}, Laid.{Below, freely, next, trail_at, filled_if, marks_to}}
use Rattle.comments_kept.{specs.Laid.{marks_after, filled_from, line_of, lines_of, behind_of, after_behind}, proofs.Weaving.first_none}
use Rattle.comments_kept.proofs.{Weaving.{last_none, texts-append, both_on_lines, wrote_both, kept, coming_by}, Marks.{IsLater, later_to}}
use Rattle.comments_kept.proofs.Marks.{later_after, behind_here, first_to, first_after, first_from, filled_same}

-- the first of what was left was taken, and this was written
pub record Began (w b : Weaver) (cs : List ℕ) : Type 0 where
  pub spells : string_bytes b.text ≡ string_bytes w.text ++ encode_utf8_all cs
  pub same : b.kept ≡ w.kept
  pub more : b.taken ≡ w.taken + 1
  pub here : b.place ≡ w.place

-- what was taken is the first of what was left
pub first_left : (w b : Weaver) (x : Placed) → w.taken < length w.kept.now → x ≡ get_or w.kept.now w.taken x
    → b.kept ≡ w.kept → b.taken ≡ w.taken + 1 → left w ≡ x ∷ left b
first_left w b x within is same more =
    drop_item w.kept.now w.taken x within is
    ∙ ap (λ ps. x ∷ ps) (ap₂ (λ (ps : Bor (List Placed)) (n : ℕ). drop n ps.now) (sym same) (sym more))

-- the same in the words of the rule
pub first_mark : (w b : Weaver) (x : Placed) → w.taken < length w.kept.now → x ≡ get_or w.kept.now w.taken x
    → b.kept ≡ w.kept → b.taken ≡ w.taken + 1 → left_marks w ≡ mark_of x ∷ left_marks b
first_mark w b x within is same more = ap marks_of (first_left w b x within is same more)

-- ---- the end of a line

-- with no comment behind it
pub end_alone : (w b : Weaver) → string_bytes b.text ≡ string_bytes w.text ++ encode_utf8_all (codes "\n") → b.kept ≡ w.kept
    → b.taken ≡ w.taken → b.place ≡ w.place + 2 → StartsElsewhere (w.place + 1) w → WroteEnd w b
end_alone w b spells same taken place alone = record {
  behind = None;
  used = [];
  spells = spells;
  taken = kept w b same taken;
  texts = refl;
  none = λ none. refl;
  exact = sym alone.none;
  leaves = ap marks_of (sym (kept w b same taken)) ∙ sym alone.same;
  place = place;
}

-- with one
pub end_behind : (w b : Weaver) (text : List ℕ) → StartsBehind (w.place + 1) w text
    → string_bytes b.text ≡ string_bytes w.text ++ encode_utf8_all (end_text (Some text)) → b.kept ≡ w.kept
    → b.taken ≡ w.taken + 1 → b.place ≡ w.place + 2 → WroteEnd w b
end_behind w b text starts spells same more place =
    let x : Placed = starts.first in
    let first = first_mark w b x starts.within starts.is same more in
    let here = behind_here (w.place + 1) (mark_of x) (left_marks b) text starts.here starts.comment in
    record {
      behind = Some text;
      used = x ∷ [];
      spells = spells;
      taken = first_left w b x starts.within starts.is same more;
      texts = ap (λ ts. ts ++ []) starts.texts;
      none = λ none. cc;
      exact = sym here.0 ∙ ap (behind_of (w.place + 1)) (sym first);
      leaves = sym here.1 ∙ ap (after_behind (w.place + 1)) (sym first);
      place = place;
    }

-- ---- lines of their own

-- none
pub no_lines : (most : ℕ) (w : Weaver) → IsLater w.place (left_marks w) → WroteLines most (left_marks w) w w
no_lines most w later = record {
  lines = [];
  used = [];
  spells = encoded_none (string_bytes w.text);
  taken = refl;
  texts = refl;
  fit = λ fit. refl;
  low = refl;
  filled = λ starts. refl;
  none = λ none. refl;
  exact = ap (lines_of most) (sym (later_to w.place (left_marks w) later));
  leaves = sym (later_after w.place (left_marks w) later);
  place = refl;
}

-- what comes first is behind the place
pub later_first : (w : Weaver) (x : Placed) → w.taken < length w.kept.now → x ≡ get_or w.kept.now w.taken x → w.place < x.place
    → IsLater w.place (left_marks w)
later_first w x within is later =
    subst (IsLater w.place) (sym (ap marks_of (drop_item w.kept.now w.taken x within is))) later

-- nothing comes
pub later_nothing : (w : Weaver) → length w.kept.now ≤ w.taken → IsLater w.place (left_marks w)
later_nothing w all = subst (IsLater w.place) (sym (ap marks_of (drop_all w.taken w.kept.now all))) tt

-- a comment after spaces
pub comment_wrote : (n : ℕ) (comment : List ℕ) (a b c d e : Weaver) → Wrote a (spaces n) b → Wrote b (codes "#") c → Wrote c comment d
    → Wrote d (codes "\n") e → Wrote a (extra_text (comment_line n comment)) e
comment_wrote n comment a b c d e indent mark text feed =
    let all : Wrote a (spaces n ++ codes "#" ++ comment ++ codes "\n") e =
    wrote_both a d e (spaces n ++ codes "#" ++ comment) (codes "\n")
    (wrote_both a c d (spaces n ++ codes "#") comment (wrote_both a b c (spaces n) (codes "#") indent mark) text) feed in (
      all.0 ∙ ap (λ cs. string_bytes a.text ++ encode_utf8_all (cs ++ codes "\n")) (append_assoc (spaces n) (codes "#") comment),
      all.1,
      all.2,
      all.3,
    )

-- a line has the comment that is kept
line_texts : (k : Kept) (n : ℕ) → kept_texts k ≡ extra_comments (extra_of k n)
line_texts EmptyLine n = refl
line_texts (Comment text) n = refl

-- it fits, before others that do
line_fits : (k : Kept) (n : ℕ) (ts : List (List ℕ)) → list_all (list_all nb) (kept_texts k ++ ts) ≡ true
    → (extra_fits (extra_of k n) ≡ true) × (list_all (list_all nb) ts ≡ true)
line_fits EmptyLine n ts fit = (refl, fit)
line_fits (Comment text) n ts fit = and_parts (list_all nb (chars text.now)) (list_all (list_all nb) ts) fit

-- it is low, before others that are
line_low : (k : Kept) (n most : ℕ) (lines : List Extra) → n ≤ most → starts_low most lines ≡ true
    → starts_low most (extra_of k n ∷ lines) ≡ true
line_low EmptyLine n most lines low others = others
line_low (Comment text) n most lines low others = le-leb n most low

-- a comment is no empty line
line_filled : (k : Kept) (n : ℕ) (lines : List Extra) → IsComment k → starts_filled (extra_of k n ∷ lines) ≡ true
line_filled EmptyLine n lines is = absurd is
line_filled (Comment text) n lines is = refl

-- it is the line that the rule has
line_laid : (k : Kept) (n most : ℕ) → extra_of k (min n most) ≡ line_of most n (kept_text k)
line_laid EmptyLine n most = refl
line_laid (Comment text) n most = refl

-- one more before others
pub one_line : (most n : ℕ) (w b end : Weaver) (x : Placed) → w.taken < length w.kept.now → x ≡ get_or w.kept.now w.taken x
    → x.place ≤ w.place → n ≡ min x.indent most → Began w b (extra_text (extra_of x.kept n))
    → WroteLines most (left_marks b) b end → WroteLines most (left_marks w) w end
one_line most n w b end x within is here cut began others =
    let line : Extra = extra_of x.kept n in
    let low : n ≤ most = omega (arith, cut) in
    let first : left w ≡ x ∷ left b = first_left w b x within is began.same began.more in
    let marks : left_marks w ≡ mark_of x ∷ left_marks b = ap marks_of first in
    record {
      exact = ap₂ (λ (line : Extra) (lines : List Extra). line ∷ lines)
          (ap (extra_of x.kept) cut ∙ line_laid x.kept x.indent most)
          (others.exact ∙ ap (λ place. lines_of most (marks_to place (left_marks b))) began.here)
          ∙ ap (lines_of most) (sym (first_to w.place (mark_of x) (left_marks b) here) ∙ ap (marks_to w.place) (sym marks));
      leaves = others.leaves ∙ ap (λ place. marks_after place (left_marks b)) began.here
          ∙ sym (first_after w.place (mark_of x) (left_marks b) here) ∙ ap (marks_after w.place) (sym marks);
      place = others.place ∙ began.here;
      lines = line ∷ others.lines;
      used = x ∷ others.used;
      spells = encoded_both (string_bytes w.text) (string_bytes b.text) (string_bytes end.text) (extra_text line)
          (extras_text others.lines) began.spells others.spells;
      taken = first ∙ ap (λ ps. x ∷ ps) others.taken;
      texts = ap₂ (λ ts us. ts ++ us) (line_texts x.kept n) others.texts;
      fit = λ fit.
          let parts = line_fits x.kept n (texts_of others.used) fit in
          and_from _ _ parts.0 (others.fit parts.1);
      low = line_low x.kept n most others.lines low others.low;
      filled = λ starts. line_filled x.kept n others.lines
          (⊎_elim (λ later. absurd (omega (arith, later, here))) (λ comment. comment) (subst (StartsFilled w.place) first starts));
      none = λ none. cc;
    }

-- empty lines that were left out come before lines of which the first is no empty one
pub skipped_lines : (most : ℕ) (a b c : Weaver) → HasSkipped a b → WroteLines most (left_marks b) b c → WroteFilledLines most a c
skipped_lines most a b c s l = record {
  wrote = record {
    exact = l.exact ∙ ap₂ (λ place ms. lines_of most (marks_to place ms)) s.place s.exact;
    leaves = l.leaves ∙ ap₂ marks_after s.place s.exact;
    place = l.place ∙ s.place;
    lines = l.lines;
    used = s.used ++ l.used;
    spells = l.spells ∙ ap (λ bs. bs ++ encode_utf8_all (extras_text l.lines)) s.same;
    taken = s.taken ∙ ap (λ ps. s.used ++ ps) l.taken ∙ sym (append_assoc s.used l.used (left c));
    texts = texts-append s.used l.used ∙ ap (λ ts. ts ++ texts_of l.used) s.texts ∙ l.texts;
    fit = λ fit. l.fit (both_on_lines s.used l.used fit).1;
    low = l.low;
    filled = λ starts. l.filled s.filled;
    none = λ none. l.none (last_none s.used l.used none);
  };
  filled = l.filled s.filled;
}

-- no empty line is left out
pub none_skipped : (w : Weaver) → StartsFilled w.place (left w) → HasSkipped w w
none_skipped w filled = record {
  used = [];
  taken = refl;
  texts = refl;
  same = refl;
  filled = filled;
  exact = sym (filled_same w.place (left w) filled);
  place = refl;
}

-- what comes first is behind the place
pub starts_later : (w : Weaver) (x : Placed) → w.taken < length w.kept.now → x ≡ get_or w.kept.now w.taken x → w.place < x.place
    → StartsFilled w.place (left w)
starts_later w x within is later = subst (StartsFilled w.place) (sym (drop_item w.kept.now w.taken x within is)) (inl later)

-- what comes first is a comment
pub starts_comment : (w : Weaver) (x : Placed) (text : Bor (List ℕ)) → x.kept ≡ Comment text → w.taken < length w.kept.now
    → x ≡ get_or w.kept.now w.taken x → StartsFilled w.place (left w)
starts_comment w x text comment within is =
    subst (StartsFilled w.place) (sym (drop_item w.kept.now w.taken x within is)) (inr (subst IsComment (sym comment) tt))

-- nothing comes
pub starts_nothing : (w : Weaver) → length w.kept.now ≤ w.taken → StartsFilled w.place (left w)
starts_nothing w all = subst (StartsFilled w.place) (sym (drop_all w.taken w.kept.now all)) tt

-- one more before others
pub one_skipped : (w b end : Weaver) (x : Placed) → x.kept ≡ EmptyLine → w.taken < length w.kept.now
    → x ≡ get_or w.kept.now w.taken x → string_bytes b.text ≡ string_bytes w.text → b.kept ≡ w.kept → b.taken ≡ w.taken + 1
    → b.place ≡ w.place → x.place ≤ w.place → HasSkipped b end → HasSkipped w end
one_skipped w b end x empty within is text same more at here others = record {
  exact = others.exact ∙ ap (λ place. filled_from place (left_marks b)) at
      ∙ sym (first_from w.place (mark_of x) (left_marks b) here (ap kept_text empty))
      ∙ ap (filled_from w.place) (sym (first_mark w b x within is same more));
  place = others.place ∙ at;
  used = x ∷ others.used;
  taken = first_left w b x within is same more ∙ ap (λ ps. x ∷ ps) others.taken;
  texts = ap (λ k. kept_texts k ++ texts_of others.used) empty ∙ others.texts;
  same = others.same ∙ text;
  filled = others.filled;
}

-- ---- both

-- a comment behind a line that is on one line fits
behind_fit : (b : Option (List ℕ)) → list_all (list_all nb) (behind_comments b) ≡ true → behind_fits b ≡ true
behind_fit None e = refl
behind_fit (Some comment) e = (and_parts _ _ e).0

-- one trail, of which something was written
pub trail_woven : (P : Trail → List ℕ) (F : Trail → Type 0) (below : Below) (a b : Weaver) (w : Trail)
    → (w ≡ trail_at below (coming a)) × (coming b ≡ next below (coming a)) → (used : List Placed)
    → string_bytes b.text ≡ string_bytes a.text ++ encode_utf8_all (P w) → left a ≡ used ++ left b
    → trail_comments w ≡ texts_of used → (list_all (list_all nb) (texts_of used) ≡ true → F w) → (used ≡ [] → IsBare w)
    → Woven (λ ws. P (next_trail ws)) later_trails (λ ws. F (next_trail ws)) (below ∷ []) a b
trail_woven P F below a b w laid used spells taken texts meets bare = record {
  used = used;
  taken = taken;
  goes = laid.1;
  trails = λ fit us. record {
    trails = w ∷ us;
    exact = ap (λ w. w ∷ us) laid.0;
    spells = spells;
    leaves = refl;
    meets = meets fit;
    comments = ap (λ ts. ts ++ flat_map trail_comments us) texts;
    bare = λ none others. (bare none, others);
  };
}

module _ (most : ℕ) (ms : List Mark) (a b c d : Weaver) (e : WroteEnd a b) (l : WroteLines most ms c d) where
  -- the trail that was written
  abbrev pub written : Trail
  written = record { behind = e.behind; lines = l.lines }

  -- what it keeps
  abbrev pub written_used : List Placed
  written_used = e.used ++ l.used

  -- that was taken
  pub written_taken : b.kept ≡ c.kept → b.taken ≡ c.taken → left a ≡ written_used ++ left d
  written_taken same taken = e.taken ∙ ap (λ ps. e.used ++ ps) (kept b c (sym same) (sym taken) ∙ l.taken)
      ∙ sym (append_assoc e.used l.used (left d))

  -- it is the trail that the rule has there
  pub written_laid : (filled : Bool) → ms ≡ filled_if filled c.place (left_marks c) → c.kept ≡ b.kept → c.taken ≡ b.taken
      → c.place ≡ b.place
      → (written ≡ trail_at (record { most = most; filled = filled }) (coming a))
      × (coming d ≡ next (record { most = most; filled = filled }) (coming a))
  written_laid filled these same taken at =
      let place : c.place ≡ a.place + 2 = at ∙ e.place in
      let marks : left_marks c ≡ after_behind (a.place + 1) (left_marks a) = ap marks_of (sym (kept b c same taken)) ∙ e.leaves in
      let come : ms ≡ filled_if filled (a.place + 2) (after_behind (a.place + 1) (left_marks a)) =
      these ∙ ap₂ (filled_if filled) place marks in (
        ap₂ (λ b ls. record { behind = b; lines = ls }) e.exact (l.exact ∙ ap₂ (λ at ms. lines_of most (marks_to at ms)) place come),
        coming_by d (next (record { most = most; filled = filled }) (coming a)) (l.place ∙ place) (l.leaves ∙ ap₂ marks_after place come),
      )

  -- it has these comments
  pub written_texts : trail_comments written ≡ texts_of written_used
  written_texts = ap₂ (λ xs ys. xs ++ ys) (sym e.texts) (sym l.texts) ∙ sym (texts-append e.used l.used)

  -- it fits
  pub written_fits : list_all (list_all nb) (texts_of written_used) ≡ true → trail_fits written ≡ true
  written_fits fit =
      let parts = both_on_lines e.used l.used fit in
      and_from _ _ (behind_fit e.behind (ap (list_all (list_all nb)) (sym e.texts) ∙ parts.0)) (l.fit parts.1)

  -- if it keeps nothing, it is bare
  pub written_bare : written_used ≡ [] → IsBare written
  written_bare none = ap₂ (λ b ls. record { behind = b; lines = ls })
      (e.none (first_none e.used l.used none)) (l.none (last_none e.used l.used none))

-- the end of a line, and the lines below it
pub line_ended : (a b c : Weaver) → WroteEnd a b → WroteLines 18446744073709551615 (left_marks b) b c → WovenEnd a c
line_ended a b c e l =
    let most : ℕ = 18446744073709551615 in
    let ms : List Mark = left_marks b in
    trail_woven trail_text (λ w. trail_fits w ≡ true) freely a c (written most ms a b b c e l)
    (written_laid most ms a b b c e l false refl refl refl refl) (written_used most ms a b b c e l)
    (encoded_both (string_bytes a.text) (string_bytes b.text) (string_bytes c.text) (end_text e.behind) (extras_text l.lines)
    e.spells l.spells)
    (written_taken most ms a b b c e l refl refl) (written_texts most ms a b b c e l) (written_fits most ms a b b c e l)
    (written_bare most ms a b b c e l)
