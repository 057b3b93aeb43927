-- Where the first line of a text ends.
use Rattle.std.proofs.Common.{◌≡◌, ◌≢◌, ℕ, suc, ◌<◌, inl, inr, Bool, true, false, not, ◌&&◌, ◌||◌, ◌==◌, List, [], ◌∷◌, ◌++◌, Some, length}
use Rattle.std.proofs.{Common.{slice_get, refl, ap, sym, ◌∙◌, arith, append-nil}, lemmas.List.Sums.list_all-from_AllPass}
use Rattle.yaml_style.proofs.Prelude.{list_all, and_parts, eqb-true, cases_Bool, line_break, StartsWithBreak, cr_lf, lf, cr, no_break}
use Rattle.yaml_style.{proofs.Prelude.{NoBreak, line_feed, carriage_return, first}, specs.Lines.{ends_break, lines, content, line_end}}
use Rattle.yaml_style.specs.Lines.{breaks}

-- ---- one character

no_break_ends : (a b x : Bool) → not (a || b) ≡ true → (a || (b && x)) ≡ false
no_break_ends true b x h = cc
no_break_ends false true x h = cc
no_break_ends false false x h = refl

ends_no_break : (c : ℕ) (cs : List ℕ) → no_break c ≡ true → ends_break c cs ≡ false
ends_no_break c cs h = no_break_ends (c == line_feed) (c == carriage_return) (not (first (λ d. d == line_feed) cs)) h

is_no_break : (c : ℕ) → no_break c ≡ true → line_break c ≡ false
is_no_break c h = elim (cases_Bool (line_break c)) [ inl e ↦ (let f : not (line_break c) ≡ false = ap not e in cc) | inr e ↦ e ]

-- ---- a break before it

-- LF doesn't come next
no_feed : (cs : List ℕ) → slice_get cs 0 ≢ Some line_feed → first (λ d. d == line_feed) cs ≡ false
no_feed [] h = refl
no_feed (c ∷ cs) h = elim (cases_Bool (c == line_feed)) [ inl e ↦ absurd (h (ap (λ x. Some x) (eqb-true c line_feed e))) | inr e ↦ e ]

-- the break before a text, and what its lines are
pub record HasBreak (tail brk after : List ℕ) : Type 0 where
  pub text : tail ≡ brk ++ after
  pub lines : lines tail ≡ brk ∷ lines after
  pub breaks : breaks tail ≡ suc (breaks after)
  pub content : content brk ≡ []
  pub whole : line_end brk ≡ brk

-- a break, as characters
pub has_break : (tail : List ℕ) (len : ℕ) (after : List ℕ) → StartsWithBreak tail len after → (brk : List ℕ) × HasBreak tail brk after
has_break tail len after (cr_lf e size) =
    (carriage_return ∷ line_feed ∷ [], record { text = e; lines = ap lines e; breaks = ap breaks e; content = refl; whole = refl })
has_break tail len after (lf e size) =
    (line_feed ∷ [], record { text = e; lines = ap lines e; breaks = ap breaks e; content = refl; whole = refl })
has_break tail len after (cr e alone size) =
    let ends : ends_break carriage_return after ≡ true = ap not (no_feed after alone) in
    let cut : lines (carriage_return ∷ after) ≡ (carriage_return ∷ []) ∷ lines after = rw ends refl in
    let count : breaks (carriage_return ∷ after) ≡ suc (breaks after) = rw ends refl in
    (carriage_return ∷ [], record { text = e; lines = ap lines e ∙ cut; breaks = ap breaks e ∙ count; content = refl; whole = refl })

-- ---- a line without a break before it

lines_after : (prefix tail l : List ℕ) (ls : List (List ℕ)) → list_all no_break prefix ≡ true → lines tail ≡ l ∷ ls
    → lines (prefix ++ tail) ≡ (prefix ++ l) ∷ ls
lines_after [] tail l ls h e = e
lines_after (c ∷ cs) tail l ls h e =
    let both = and_parts (no_break c) (list_all no_break cs) h in
    let later : lines (cs ++ tail) ≡ (cs ++ l) ∷ ls = lines_after cs tail l ls both.1 e in
    rw (ends_no_break c (cs ++ tail) both.0, later) refl

breaks_after : (prefix tail : List ℕ) → list_all no_break prefix ≡ true → breaks (prefix ++ tail) ≡ breaks tail
breaks_after [] tail h = refl
breaks_after (c ∷ cs) tail h =
    let both = and_parts (no_break c) (list_all no_break cs) h in
    rw (ends_no_break c (cs ++ tail) both.0) (breaks_after cs tail both.1)

content_at_beginning : (prefix tail : List ℕ) → list_all no_break prefix ≡ true → content (prefix ++ tail) ≡ prefix ++ content tail
content_at_beginning [] tail h = refl
content_at_beginning (c ∷ cs) tail h =
    let both = and_parts (no_break c) (list_all no_break cs) h in
    rw (is_no_break c both.0) (ap (λ x. c ∷ x) (content_at_beginning cs tail both.1))

end_after : (prefix tail : List ℕ) → list_all no_break prefix ≡ true → line_end (prefix ++ tail) ≡ line_end tail
end_after [] tail h = refl
end_after (c ∷ cs) tail h =
    let both = and_parts (no_break c) (list_all no_break cs) h in
    rw (is_no_break c both.0) (end_after cs tail both.1)

one_line : (text : List ℕ) → list_all no_break text ≡ true → 0 < length text → lines text ≡ text ∷ []
one_line [] h l = absurd (omega (arith, l))
one_line (c ∷ []) h l =
    let both = and_parts (no_break c) true h in
    rw (ends_no_break c [] both.0) refl
one_line (c ∷ d ∷ cs) h l =
    let both = and_parts (no_break c) (list_all no_break (d ∷ cs)) h in
    let later : lines (d ∷ cs) ≡ (d ∷ cs) ∷ [] = one_line (d ∷ cs) both.1 (omega arith) in
    rw (ends_no_break c (d ∷ cs) both.0, later) refl

-- ---- the first line of a text

-- its content and its break, and the text after them
pub record IsFirstLine (text prefix brk after : List ℕ) : Type 0 where
  pub cut : lines text ≡ (prefix ++ brk) ∷ lines after
  pub content : content (prefix ++ brk) ≡ prefix
  pub ending : line_end (prefix ++ brk) ≡ brk

-- the first line ends with its break
pub first_line : (prefix tail brk after : List ℕ) → NoBreak prefix → HasBreak tail brk after → IsFirstLine (prefix ++ tail) prefix brk after
first_line prefix tail brk after none is =
    let h : list_all no_break prefix ≡ true = list_all-from_AllPass no_break prefix none in
    record {
      cut = lines_after prefix tail brk (lines after) h is.lines;
      content = content_at_beginning prefix brk h ∙ ap (λ x. prefix ++ x) is.content ∙ append-nil prefix;
      ending = end_after prefix brk h ∙ is.whole;
    }

-- a text without a break is one line
pub last_line : (text : List ℕ) → NoBreak text → 0 < length text → IsFirstLine text text [] []
last_line text none some =
    let h : list_all no_break text ≡ true = list_all-from_AllPass no_break text none in
    record {
      cut = one_line text h some ∙ ap (λ x. x ∷ []) (sym (append-nil text));
      content = content_at_beginning text [] h ∙ append-nil text;
      ending = end_after text [] h;
    }

-- a break more is counted
pub one_more_break : (prefix tail brk after : List ℕ) → NoBreak prefix → HasBreak tail brk after
    → breaks (prefix ++ tail) ≡ suc (breaks after)
one_more_break prefix tail brk after none is = breaks_after prefix tail (list_all-from_AllPass no_break prefix none) ∙ is.breaks

-- without one there is none to count
pub no_more_breaks : (text : List ℕ) → NoBreak text → breaks text ≡ 0
no_more_breaks text none =
    ap breaks (sym (append-nil text)) ∙ breaks_after text [] (list_all-from_AllPass no_break text none)
