-- A text as a row of segments, in bytes: what is outside of scalars and has no `#`, comments, and scalars. The comments
-- among them are those of the text.
use Rattle.std.proofs.Common.{◌≡◌, refl, sym, ◌∙◌, ap, subst, inl, inr, arith, ◌<◌, ◌≤◌, length, get_or, append_assoc, length-append}
use Rattle.std.proofs.{Common.{⊎_elim, append-nil, ap₂, take, drop, slice_range}, Math.Seq.{drop-append_seam, take-append_seam}}
use Rattle.std.proofs.lemmas.Bool.{and_parts, or_cases, cases_lt, eqb-true, not-true, false≢true, eq-eqb, or_parts, or_left}
use Rattle.std.{proofs.lemmas.List.{get_or-append-add, get_or_append_left}, specs.Prelude.{ℕ, zero, suc, map, ◌+◌, ◌-◌, ◌⊎◌, Bool, true}}
use Rattle.std.specs.{Prelude.{false, not, ◌&&◌, ◌||◌, ◌==◌, List, [], ◌∷◌, ◌++◌, Option, Some, None}, List.list_all}
use Rattle.{yaml_chars.specs.Classes.line_break, yaml_grammar.specs.Texts.{is_empty, first}, yaml_comments.specs.Outside.IsOneLine}
use Rattle.yaml_comments.specs.{Outside.IsLineEnd, Comments.{Place, comment_at}}

-- ---- what a text is made of

-- outside of scalars, without `#`; behind the `#` of a comment, up to the end of its line; a flow scalar; or a block
-- scalar: its header, the comment that may be on it, and what follows
pub data Segment : Type 0 where
  quiet : List ℕ → Segment
  comment : List ℕ → Segment
  covered : List ℕ → Segment
  block : List ℕ → Option (List ℕ) → List ℕ → Segment

-- the bytes of a comment that may be left out
abbrev pub marked : Option (List ℕ) → List ℕ
marked None = []
marked (Some c) = 35 ∷ c

-- the bytes of a segment
abbrev pub bytes : Segment → List ℕ
bytes (quiet t) = t
bytes (comment t) = 35 ∷ t
bytes (covered t) = t
bytes (block head c rest) = head ++ (marked c ++ rest)

-- the bytes of segments
abbrev pub all_bytes : List Segment → List ℕ
all_bytes [] = []
all_bytes (s ∷ ss) = bytes s ++ all_bytes ss

-- where a scalar is, and whether it has a header
pub record Range : Type 0 where
  pub header : Bool
  pub start : ℕ
  pub end : ℕ

-- the scalar of a segment
abbrev pub range : Segment → ℕ → List Range
range (quiet t) at = []
range (comment t) at = []
range (covered t) at = record { header = false; start = at; end = at + length t } ∷ []
range (block head c rest) at = record { header = true; start = at; end = at + length (head ++ (marked c ++ rest)) } ∷ []

-- the scalars of segments
abbrev pub ranges : List Segment → ℕ → List Range
ranges [] at = []
ranges (s ∷ ss) at = range s at ++ ranges ss (at + length (bytes s))

-- the place of a comment that may be left out
abbrev pub marked_place : Option (List ℕ) → ℕ → List Place
marked_place None at = []
marked_place (Some c) at = record { start = at; end = at + suc (length c) } ∷ []

-- the comment of a segment
abbrev pub place : Segment → ℕ → List Place
place (quiet t) at = []
place (comment t) at = record { start = at; end = at + suc (length t) } ∷ []
place (covered t) at = []
place (block head c rest) at = marked_place c (at + length head)

-- the comments of segments
abbrev pub places : List Segment → ℕ → List Place
places [] at = []
places (s ∷ ss) at = place s at ++ places ss (at + length (bytes s))

-- what is written in a comment that may be left out
abbrev pub held : Option (List ℕ) → List (List ℕ)
held None = []
held (Some c) = c ∷ []

-- what is written in the comment of a segment
abbrev pub written : Segment → List (List ℕ)
written (quiet t) = []
written (comment t) = t ∷ []
written (covered t) = []
written (block head c rest) = held c

-- and in those of segments
abbrev pub all_written : List Segment → List (List ℕ)
all_written [] = []
all_written (s ∷ ss) = written s ++ all_written ss

-- ---- what segments have to meet

-- no `#`
abbrev pub no_mark : ℕ → Bool
no_mark b = not (b == 35)

-- no LF and no CR
abbrev pub no_break : ℕ → Bool
no_break b = not (line_break b)

-- a line ends before these bytes
abbrev pub line_ends : List ℕ → Bool
line_ends after = is_empty after || first line_break after

-- a comment that may be left out is on its line
abbrev pub marked_fits : Option (List ℕ) → Bool
marked_fits None = true
marked_fits (Some c) = list_all no_break c

-- a segment fits before these bytes
abbrev pub fits : Segment → List ℕ → Bool
fits (quiet t) after = list_all no_mark t
fits (comment t) after = list_all no_break t && line_ends after
fits (covered t) after = true
fits (block head c rest) after =
    list_all no_mark head && list_all no_break head && marked_fits c
    && (first line_break rest || (is_empty rest && is_empty after))

-- segments fit before these bytes
abbrev pub all_fit : List Segment → List ℕ → Bool
all_fit [] after = true
all_fit (s ∷ ss) after = fits s (all_bytes ss ++ after) && all_fit ss after

-- ---- comments by ranges

-- a place is on the header that a scalar may have
abbrev pub OnHeader : List ℕ → Bool → ℕ → ℕ → Type 0
OnHeader bs true start at = IsOneLine bs start at
OnHeader bs false start at = ⊥

-- a place is outside of a scalar, or on its header
abbrev pub OutsideOf : List ℕ → ℕ → Range → Type 0
OutsideOf bs at r = (at < r.start) ⊎ ((r.end ≤ at) ⊎ OnHeader bs r.header r.start at)

-- the same of each scalar
abbrev pub Outside : List ℕ → ℕ → List Range → Type 0
Outside bs at [] = Unit {0}
Outside bs at (r ∷ rs) = OutsideOf bs at r × Outside bs at rs

-- a `#` that is a part of no scalar
pub record Mark (bs : List ℕ) (rs : List Range) (at : ℕ) : Type 0 where
  pub within : at < length bs
  pub is : get_or bs at 0 ≡ 35
  pub outside : Outside bs at rs

-- the first of those from a place on
pub record Next (bs : List ℕ) (rs : List Range) (from : ℕ) (p : Place) : Type 0 where
  pub after : from ≤ p.start
  pub mark : Mark bs rs p.start
  pub first : (other : ℕ) → from ≤ other → Mark bs rs other → p.start ≤ other
  pub ends : IsLineEnd bs p.start (length bs) p.end

-- the places of all comments from a place on
abbrev pub Are : List ℕ → List Range → ℕ → List Place → Type 0
Are bs rs from [] = (at : ℕ) → from ≤ at → Mark bs rs at → ⊥
Are bs rs from (p ∷ ps) = Next bs rs from p × Are bs rs p.end ps

-- no comment begins from one place up to another
abbrev None_from : List ℕ → List Range → ℕ → ℕ → Type 0
None_from bs rs from to = (at : ℕ) → from ≤ at → at < to → Mark bs rs at → ⊥

-- where none begins the search may go on
skipped : (bs : List ℕ) (rs : List Range) (from to : ℕ) (ps : List Place) → None_from bs rs from to → from ≤ to
    → Are bs rs to ps → Are bs rs from ps
skipped bs rs from to [] none l are = λ at after mark.
    ⊎_elim (λ before. none at after before mark) (λ behind. are at behind mark) (cases_lt at to)
skipped bs rs from to (p ∷ ps) none l are =
    let n : Next bs rs to p = are.0 in (
      record {
        after = omega (arith, n.after);
        mark = n.mark;
        first = λ other after mark. ⊎_elim (λ before. absurd (none other after before mark)) (λ behind. n.first other behind mark)
            (cases_lt other to);
        ends = n.ends;
      },
      are.1,
    )

-- ---- places within a text

-- the part of a text at a place, with what follows
pub record Sits (bs : List ℕ) (at : ℕ) (part after : List ℕ) : Type 0 where
  pub before : List ℕ
  pub is : bs ≡ before ++ (part ++ after)
  pub at_is : length before ≡ at

-- a part's end is within the text
sits_within : (bs : List ℕ) (at : ℕ) (part after : List ℕ) → Sits bs at part after → at + length part + length after ≡ length bs
sits_within bs at part after s = omega (
  arith,
  s.at_is,
  ap length s.is,
  length-append s.before (part ++ after),
  length-append part after,
)

-- what follows a part is in the text behind it
sits_next : (bs : List ℕ) (at : ℕ) (one more after : List ℕ) → Sits bs at one (more ++ after) → Sits bs (at + length one) more after
sits_next bs at one more after s = record {
  before = s.before ++ one;
  is = s.is ∙ sym (append_assoc s.before one (more ++ after));
  at_is = length-append s.before one ∙ ap (λ n. n + length one) s.at_is;
}

-- a byte of a part
sits_byte : (bs : List ℕ) (at : ℕ) (part after : List ℕ) → Sits bs at part after → (k : ℕ) → k < length part
    → get_or bs (at + k) 0 ≡ get_or part k 0
sits_byte bs at part after s k l =
    ap (λ xs. get_or xs (at + k) 0) s.is ∙ (ap (λ n. get_or (s.before ++ (part ++ after)) (n + k) 0) (sym s.at_is)
    ∙ (get_or-append-add s.before (part ++ after) k 0 ∙ get_or_append_left part after 0 k l))

-- a test of all bytes is one of each
all_at : (p : ℕ → Bool) (xs : List ℕ) (k : ℕ) → list_all p xs ≡ true → k < length xs → p (get_or xs k 0) ≡ true
all_at p [] k h l = absurd (omega arith)
all_at p (x ∷ xs) zero h l = (and_parts _ _ h).0
all_at p (x ∷ xs) (suc k) h l = all_at p xs k (and_parts _ _ h).1 (omega arith)

-- the same of a part, by its places in the text
sits_all : (p : ℕ → Bool) (bs : List ℕ) (at : ℕ) (part after : List ℕ) → Sits bs at part after → list_all p part ≡ true
    → (k : ℕ) → at ≤ k → k < at + length part → p (get_or bs k 0) ≡ true
sits_all p bs at part after s h k l m =
    let i : ℕ = k - at in
    let here : at + i ≡ k = omega arith in
    let low : i < length part = omega arith in
    ap p (ap (λ n. get_or bs n 0) (sym here) ∙ sits_byte bs at part after s i low) ∙ all_at p part i h low

-- ---- what is outside of what

-- scalars that ended
abbrev Past : List Range → ℕ → Type 0
Past [] at = Unit {0}
Past (r ∷ rs) at = (r.end ≤ at) × Past rs at

-- scalars that begin later
abbrev Ahead : List Range → ℕ → Type 0
Ahead [] at = Unit {0}
Ahead (r ∷ rs) at = (at ≤ r.start) × Ahead rs at

-- a place behind scalars is outside of them
outside_past : (bs : List ℕ) (rs : List Range) (from at : ℕ) → from ≤ at → Past rs from → Outside bs at rs
outside_past bs [] from at l past = tt
outside_past bs (r ∷ rs) from at l past = (inr (inl (omega (arith, past.0))), outside_past bs rs from at l past.1)

-- and so is one before them
outside_ahead : (bs : List ℕ) (rs : List Range) (to at : ℕ) → at < to → Ahead rs to → Outside bs at rs
outside_ahead bs [] to at l ahead = tt
outside_ahead bs (r ∷ rs) to at l ahead = (inl (omega (arith, ahead.0)), outside_ahead bs rs to at l ahead.1)

-- outside of scalars, joined
outside_joined : (bs : List ℕ) (at : ℕ) (one other : List Range) → Outside bs at one → Outside bs at other → Outside bs at (one ++ other)
outside_joined bs at [] other o p = p
outside_joined bs at (r ∷ rs) other o p = (o.0, outside_joined bs at rs other o.1 p)

-- outside of the later ones
outside_later : (bs : List ℕ) (at : ℕ) (one other : List Range) → Outside bs at (one ++ other) → Outside bs at other
outside_later bs at [] other o = o
outside_later bs at (r ∷ rs) other o = outside_later bs at rs other o.1

-- scalars that ended, joined
past_joined : (one other : List Range) (at : ℕ) → Past one at → Past other at → Past (one ++ other) at
past_joined [] other at p q = q
past_joined (r ∷ rs) other at p q = (p.0, past_joined rs other at p.1 q)

-- scalars that ended earlier ended
past_more : (rs : List Range) (at to : ℕ) → at ≤ to → Past rs at → Past rs to
past_more [] at to l p = tt
past_more (r ∷ rs) at to l p = (omega (arith, p.0), past_more rs at to l p.1)

-- scalars that begin later begin later still
ahead_less : (rs : List Range) (at to : ℕ) → at ≤ to → Ahead rs to → Ahead rs at
ahead_less [] at to l a = tt
ahead_less (r ∷ rs) at to l a = (omega (arith, a.0), ahead_less rs at to l a.1)

-- the scalar of a segment is behind its start
range_ahead : (s : Segment) (at : ℕ) (rest : List Range) → Ahead rest at → Ahead (range s at ++ rest) at
range_ahead (quiet t) at rest a = a
range_ahead (comment t) at rest a = a
range_ahead (covered t) at rest a = (omega arith, a)
range_ahead (block head c tail) at rest a = (omega arith, a)

-- the scalars of segments are behind their start
ranges_ahead : (ss : List Segment) (at : ℕ) → Ahead (ranges ss at) at
ranges_ahead [] at = tt
ranges_ahead (s ∷ ss) at =
    range_ahead s at (ranges ss (at + length (bytes s)))
    (ahead_less (ranges ss (at + length (bytes s))) at (at + length (bytes s)) (omega arith) (ranges_ahead ss (at + length (bytes s))))

-- ---- one segment

-- a test that fails at a byte does not pass it
unpassed : (b : ℕ) → no_mark b ≡ true → b ≡ 35 → ⊥
unpassed b h e = let no : (b == 35) ≡ false = not-true _ h in false≢true (sym no ∙ eq-eqb b 35 e)

-- a byte that is no break is no LF and no CR
unbroken : (b : ℕ) → no_break b ≡ true → (b ≡ 10 → ⊥) × (b ≡ 13 → ⊥)
unbroken b h =
    let p : ((b == 10) ≡ false) × ((b == 13) ≡ false) = or_parts _ _ (not-true _ h) in
    (λ e. false≢true (sym p.0 ∙ eq-eqb b 10 e), λ e. false≢true (sym p.1 ∙ eq-eqb b 13 e))

-- a break is an LF or a CR
broken : (b : ℕ) → line_break b ≡ true → (b ≡ 10) ⊎ (b ≡ 13)
broken b h = elim (or_cases (b == 10) (b == 13) h) [ inl e ↦ inl (eqb-true b 10 e) | inr e ↦ inr (eqb-true b 13 e) ]

-- no comment begins where there is no `#`
quiet_none : (bs : List ℕ) (rs : List Range) (at : ℕ) (part after : List ℕ) → Sits bs at part after → list_all no_mark part ≡ true
    → None_from bs rs at (at + length part)
quiet_none bs rs at part after s h k l m mark = unpassed (get_or bs k 0) (sits_all no_mark bs at part after s h k l m) mark.is

-- a part without breaks is on one line
one_line : (bs : List ℕ) (at : ℕ) (part after : List ℕ) → Sits bs at part after → list_all no_break part ≡ true
    → IsOneLine bs at (at + length part)
one_line bs at part after s h k l m = unbroken (get_or bs k 0) (sits_all no_break bs at part after s h k l m)

-- the first of some bytes
first_at : (xs : List ℕ) → first line_break xs ≡ true → line_break (get_or xs 0 0) ≡ true
first_at [] h = absurd (false≢true h)
first_at (x ∷ xs) h = h

-- it is within them
first_within : (xs : List ℕ) → first line_break xs ≡ true → 0 < length xs
first_within [] h = absurd (false≢true h)
first_within (x ∷ xs) h = omega arith

-- a line ends at the start of a part that begins with a break
break_there : (bs : List ℕ) (at : ℕ) (part after : List ℕ) → Sits bs at part after → first line_break part ≡ true
    → (get_or bs at 0 ≡ 10) ⊎ (get_or bs at 0 ≡ 13)
break_there bs at part after s h =
    let zeroth : at + 0 ≡ at = omega arith in
    let here : get_or bs at 0 ≡ get_or part 0 0 =
    ap (λ n. get_or bs n 0) (sym zeroth) ∙ sits_byte bs at part after s 0 (first_within part h) in
    broken (get_or bs at 0) (ap line_break here ∙ first_at part h)

-- a comment's line ends where it should
ends_there : (bs : List ℕ) (start : ℕ) (part after : List ℕ) → Sits bs start part after → list_all no_break part ≡ true
    → line_ends after ≡ true → IsLineEnd bs start (length bs) (start + length part)
ends_there bs start part after s h e = record {
  after = omega arith;
  within = omega (arith, sits_within bs start part after s);
  one_line = one_line bs start part after s h;
  ends = λ l. at_end after s e l;
}
  where
    at_end : (rest : List ℕ) → Sits bs start part rest → line_ends rest ≡ true → start + length part < length bs
        → (get_or bs (start + length part) 0 ≡ 10) ⊎ (get_or bs (start + length part) 0 ≡ 13)
    at_end [] sits f l = absurd (omega (arith, sits_within bs start part [] sits))
    at_end (c ∷ cs) sits f l = break_there bs (start + length part) (c ∷ cs) []
        (sits_next bs start part (c ∷ cs) [] (subst (λ t. Sits bs start part t) (sym (append-nil (c ∷ cs))) sits)) f

-- a line ends before some bytes and those after them
ends_joined : (rest after : List ℕ) → first line_break rest || (is_empty rest && is_empty after) ≡ true → line_ends (rest ++ after) ≡ true
ends_joined [] after h = elim (or_cases false (is_empty after) h) [ inl e ↦ absurd (false≢true e) | inr e ↦ or_left _ _ e ]
ends_joined (c ∷ cs) after h = elim (or_cases (line_break c) (false && is_empty after) h) [
  | inl e ↦ e
  | inr e ↦ absurd (false≢true e)
]

-- a part of two is in the text, and then the other one
sits_first : (bs : List ℕ) (at : ℕ) (one more after : List ℕ) → Sits bs at (one ++ more) after → Sits bs at one (more ++ after)
sits_first bs at one more after s = record {
  before = s.before;
  is = s.is ∙ ap (λ t. s.before ++ t) (append_assoc one more after);
  at_is = s.at_is;
}

-- no comment begins behind the header of a block scalar
body_none : (bs : List ℕ) (before later : List Range) (at q : ℕ) (r : Range) (rest after : List ℕ) → Sits bs q rest after → at ≤ q
    → r ≡ record { header = true; start = at; end = q + length rest }
    → first line_break rest || (is_empty rest && is_empty after) ≡ true
    → None_from bs (before ++ (r ∷ later)) q (q + length rest)
body_none bs before later at q r rest after s low is h k l m mark =
    let all : Outside bs k (r ∷ later) = outside_later bs k before (r ∷ later) mark.outside in
    let own : OutsideOf bs k (record { header = true; start = at; end = q + length rest }) = subst (OutsideOf bs k) is all.0 in
    elim (or_cases (first line_break rest) (is_empty rest && is_empty after) h) [
      | inl e ↦ (let break : (get_or bs q 0 ≡ 10) ⊎ (get_or bs q 0 ≡ 13) = break_there bs q rest after s e in
          elim own [
            | inl early ↦ absurd (omega arith)
            | inr (inl late) ↦ absurd (omega arith)
            | inr (inr line) ↦ ⊎_elim
                (λ before. (let none = line q low before in ⊎_elim none.0 none.1 break))
                (λ there. (let same : k ≡ q = omega arith in
                let is_mark : get_or bs q 0 ≡ 35 = subst (λ n. get_or bs n 0 ≡ 35) same mark.is in
                ⊎_elim (λ lf. omega arith) (λ cr. omega arith) break)) (cases_lt q k)
          ])
      | inr e ↦ empty rest (and_parts _ _ e).0 l m
    ]
  where
    empty : (xs : List ℕ) → is_empty xs ≡ true → q ≤ k → k < q + length xs → ⊥
    empty [] e l m = omega arith
    empty (x ∷ xs) e l m = false≢true e

-- ---- the comments of a segment, and then those after it

module _ (bs : List ℕ) (before later : List Range) (at : ℕ) (past : Past before at) where
  -- a comment
  comment_step : (t after : List ℕ) (ps : List Place) → Sits bs at (35 ∷ t) after → Ahead later (at + suc (length t))
      → list_all no_break t && line_ends after ≡ true → Are bs (before ++ later) (at + suc (length t)) ps
      → Are bs (before ++ later) at (record { start = at; end = at + suc (length t) } ∷ ps)
  comment_step t after ps s ahead h are =
      let p : (list_all no_break t ≡ true) × (line_ends after ≡ true) = and_parts _ _ h in
      let zeroth : at + 0 ≡ at = omega arith in (
        record {
          after = omega arith;
          mark = record {
            within = omega (arith, sits_within bs at (35 ∷ t) after s);
            is = ap (λ n. get_or bs n 0) (sym zeroth) ∙ sits_byte bs at (35 ∷ t) after s 0 (omega arith);
            outside = outside_joined bs at before later (outside_past bs before at at (omega arith) past)
                (outside_ahead bs later (at + suc (length t)) at (omega arith) ahead);
          };
          first = λ other l mark. l;
          ends = ends_there bs at (35 ∷ t) after s p.0 p.1;
        },
        are,
      )

  -- a flow scalar
  covered_step : (t after : List ℕ) (ps : List Place) → Sits bs at t after
      → Are bs (before ++ (record { header = false; start = at; end = at + length t } ∷ later)) (at + length t) ps
      → Are bs (before ++ (record { header = false; start = at; end = at + length t } ∷ later)) at ps
  covered_step t after ps s are =
      let own : Range = record { header = false; start = at; end = at + length t } in
      skipped bs (before ++ (own ∷ later)) at (at + length t) ps
      (λ k l m mark. let all : Outside bs k (own ∷ later) = outside_later bs k before (own ∷ later) mark.outside in
      elim all.0 [ inl early ↦ omega arith | inr (inl late) ↦ omega arith | inr (inr none) ↦ none ])
      (omega arith) are

  -- a block scalar without a comment on its header
  bare_step : (head rest after : List ℕ) (ps : List Place) (own : Range) → own ≡ record
      { header = true; start = at; end = at + length (head ++ rest) }
      → Sits bs at (head ++ rest) after → list_all no_mark head ≡ true
      → first line_break rest || (is_empty rest && is_empty after) ≡ true
      → Are bs (before ++ (own ∷ later)) (at + length (head ++ rest)) ps → Are bs (before ++ (own ∷ later)) at ps
  bare_step head rest after ps own is s unmarked h are =
      let one : Sits bs at head (rest ++ after) = sits_first bs at head rest after s in
      let two : Sits bs (at + length head) rest after = sits_next bs at head rest after one in
      let long : length (head ++ rest) ≡ length head + length rest = length-append head rest in
      let ends : own ≡ record { header = true; start = at; end = (at + length head) + length rest } =
      is ∙ ap (λ n. record { header = true; start = at; end = n }) (omega (arith, long)) in
      let body = body_none bs before later at (at + length head) own rest after two (omega arith) ends h in
      skipped bs (before ++ (own ∷ later)) at (at + length (head ++ rest)) ps
      (λ k l m mark. ⊎_elim
      (λ inside. quiet_none bs (before ++ (own ∷ later)) at head (rest ++ after) one unmarked k l inside mark)
      (λ behind. body k behind (omega (arith, long)) mark) (cases_lt k (at + length head)))
      (omega arith) are

  -- a block scalar with one
  headed_step : (head c rest after : List ℕ) (ps : List Place) (own : Range)
      → own ≡ record { header = true; start = at; end = at + length (head ++ ((35 ∷ c) ++ rest)) }
      → Sits bs at (head ++ ((35 ∷ c) ++ rest)) after → Ahead later (at + length (head ++ ((35 ∷ c) ++ rest)))
      → list_all no_mark head ≡ true → list_all no_break head ≡ true → list_all no_break c ≡ true
      → first line_break rest || (is_empty rest && is_empty after) ≡ true
      → Are bs (before ++ (own ∷ later)) (at + length (head ++ ((35 ∷ c) ++ rest))) ps
      → Are bs (before ++ (own ∷ later)) at (record { start = at + length head; end = (at + length head) + suc (length c) } ∷ ps)
  headed_step head c rest after ps own is s ahead unmarked line kept h are =
      let start : ℕ = at + length head in
      let one : Sits bs at head (((35 ∷ c) ++ rest) ++ after) = sits_first bs at head ((35 ∷ c) ++ rest) after s in
      let two : Sits bs start ((35 ∷ c) ++ rest) after = sits_next bs at head ((35 ∷ c) ++ rest) after one in
      let mark_there : Sits bs start (35 ∷ c) (rest ++ after) = sits_first bs start (35 ∷ c) rest after two in
      let three : Sits bs (start + suc (length c)) rest after = sits_next bs start (35 ∷ c) rest after mark_there in
      let long : length (head ++ ((35 ∷ c) ++ rest)) ≡ length head + (suc (length c) + length rest) =
      length-append head ((35 ∷ c) ++ rest) ∙ ap (λ n. length head + n) (length-append (35 ∷ c) rest) in
      let ends : own ≡ record { header = true; start = at; end = (start + suc (length c)) + length rest } =
      is ∙ ap (λ n. record { header = true; start = at; end = n }) (omega (arith, long)) in
      let body = body_none bs before later at (start + suc (length c)) own rest after three (omega arith) ends h in
      let zeroth : start + 0 ≡ start = omega arith in
      let on_line : OnHeader bs true at start = one_line bs at head (((35 ∷ c) ++ rest) ++ after) one line in
      let own_header : OutsideOf bs start own =
      subst (OutsideOf bs start) (sym is) (inr (inr on_line)) in (
        record {
          after = omega arith;
          mark = record {
            within = omega (arith, sits_within bs start (35 ∷ c) (rest ++ after) mark_there);
            is = ap (λ n. get_or bs n 0) (sym zeroth) ∙ sits_byte bs start (35 ∷ c) (rest ++ after) mark_there 0 (omega arith);
            outside = outside_joined bs start before (own ∷ later) (outside_past bs before at start (omega arith) past)
                (own_header, outside_ahead bs later (at + length (head ++ ((35 ∷ c) ++ rest))) start (omega (arith, long)) ahead);
          };
          first = λ other l mark. ⊎_elim
              (λ inside. absurd (quiet_none bs (before ++ (own ∷ later)) at head
              (((35 ∷ c) ++ rest) ++ after) one unmarked other l inside mark))
              (λ behind. behind) (cases_lt other start);
          ends = ends_there bs start (35 ∷ c) (rest ++ after) mark_there kept (ends_joined rest after h);
        },
        skipped bs (before ++ (own ∷ later)) (start + suc (length c)) (at + length (head ++ ((35 ∷ c) ++ rest))) ps
            (λ k l m mark. body k l (omega (arith, long)) mark) (omega (arith, long)) are,
      )

  -- each segment
  step : (s : Segment) (after : List ℕ) (ps : List Place) → Sits bs at (bytes s) after → Ahead later (at + length (bytes s))
      → fits s after ≡ true → Are bs (before ++ (range s at ++ later)) (at + length (bytes s)) ps
      → Are bs (before ++ (range s at ++ later)) at (place s at ++ ps)
  step (quiet t) after ps s ahead h are =
      skipped bs (before ++ later) at (at + length t) ps (quiet_none bs (before ++ later) at t after s h) (omega arith) are
  step (comment t) after ps s ahead h are = comment_step t after ps s ahead h are
  step (covered t) after ps s ahead h are = covered_step t after ps s are
  step (block head None rest) after ps s ahead h are =
      let p : (list_all no_mark head && list_all no_break head && true ≡ true)
      × (first line_break rest || (is_empty rest && is_empty after) ≡ true) = and_parts _ _ h in
      bare_step head rest after ps (record { header = true; start = at; end = at + length (head ++ rest) }) refl s
      (and_parts _ _ (and_parts _ _ p.0).0).0 p.1 are
  step (block head (Some c) rest) after ps s ahead h are =
      let p : (list_all no_mark head && list_all no_break head && list_all no_break c ≡ true)
      × (first line_break rest || (is_empty rest && is_empty after) ≡ true) = and_parts _ _ h in
      let q : (list_all no_mark head && list_all no_break head ≡ true) × (list_all no_break c ≡ true) = and_parts _ _ p.0 in
      headed_step head c rest after ps (record { header = true; start = at; end = at + length (head ++ ((35 ∷ c) ++ rest)) }) refl s ahead
      (and_parts _ _ q.0).0 (and_parts _ _ q.0).1 q.1 p.1 are

-- the scalar of a segment ended where the segment does
range_past : (s : Segment) (at : ℕ) → Past (range s at) (at + length (bytes s))
range_past (quiet t) at = tt
range_past (comment t) at = tt
range_past (covered t) at = (omega arith, tt)
range_past (block head c rest) at = (omega arith, tt)

-- the comments of segments that end a text are those of the text from there on
found : (ss : List Segment) (bs : List ℕ) (before : List Range) (at : ℕ) → Sits bs at (all_bytes ss) [] → Past before at
    → all_fit ss [] ≡ true → Are bs (before ++ ranges ss at) at (places ss at)
found [] bs before at s past h = λ k l mark. omega (arith, sits_within bs at [] [] s, mark.within)
found (x ∷ ss) bs before at s past h =
    let to : ℕ = at + length (bytes x) in
    let p : (fits x (all_bytes ss ++ []) ≡ true) × (all_fit ss [] ≡ true) = and_parts _ _ h in
    let one : Sits bs at (bytes x) (all_bytes ss ++ []) = sits_first bs at (bytes x) (all_bytes ss) [] s in
    let more : Are bs ((before ++ range x at) ++ ranges ss to) to (places ss to) =
    found ss bs (before ++ range x at) to (sits_next bs at (bytes x) (all_bytes ss) [] one)
    (past_joined before (range x at) to (past_more before at to (omega arith) past) (range_past x at)) p.1 in
    step bs before (ranges ss to) at past x (all_bytes ss ++ []) (places ss to) one (ranges_ahead ss to) p.0
    (subst (λ rs. Are bs rs to (places ss to)) (append_assoc before (range x at) (ranges ss to)) more)

-- the comments of segments are those of their text
pub all_found : (ss : List Segment) → all_fit ss [] ≡ true → Are (all_bytes ss) (ranges ss 0) 0 (places ss 0)
all_found ss h = found ss (all_bytes ss) [] 0 (record { before = []; is = sym (append-nil (all_bytes ss)); at_is = refl }) tt h

-- ---- what is written in them

-- a part of the text is what is between its places
sits_cut : (bs : List ℕ) (at : ℕ) (part after : List ℕ) → Sits bs at part after → slice_range bs at (at + length part) ≡ part
sits_cut bs at part after s =
    let behind : drop at bs ≡ part ++ after =
    ap (drop at) s.is ∙ (ap (λ n. drop n (s.before ++ (part ++ after))) (sym s.at_is) ∙ drop-append_seam s.before (part ++ after)) in
    let long : (at + length part) - at ≡ length part = omega arith in
    ap (take ((at + length part) - at)) behind ∙ (ap (λ n. take n (part ++ after)) long ∙ take-append_seam part after)

-- a comment is what is written behind its `#`
mark_cut : (bs : List ℕ) (at : ℕ) (t after : List ℕ) → Sits bs at (35 ∷ t) after
    → comment_at bs (record { start = at; end = at + suc (length t) }) ≡ t
mark_cut bs at t after s =
    let to : (at + 1) + length t ≡ at + suc (length t) = omega arith in
    ap (slice_range bs (at + 1)) (sym to) ∙ sits_cut bs (at + 1) t after
    (sits_next bs at (35 ∷ []) t after (sits_first bs at (35 ∷ []) t after s))

-- the comment of a segment, and those after it
cut_step : (bs : List ℕ) (x : Segment) (at : ℕ) (after : List ℕ) (ps : List Place) (ws : List (List ℕ)) → Sits bs at (bytes x) after
    → map (comment_at bs) ps ≡ ws → map (comment_at bs) (place x at ++ ps) ≡ written x ++ ws
cut_step bs (quiet t) at after ps ws s e = e
cut_step bs (comment t) at after ps ws s e = ap₂ (λ w more. w ∷ more) (mark_cut bs at t after s) e
cut_step bs (covered t) at after ps ws s e = e
cut_step bs (block head None rest) at after ps ws s e = e
cut_step bs (block head (Some c) rest) at after ps ws s e =
    ap₂ (λ w more. w ∷ more) (mark_cut bs (at + length head) c (rest ++ after)
    (sits_first bs (at + length head) (35 ∷ c) rest after
    (sits_next bs at head ((35 ∷ c) ++ rest) after (sits_first bs at head ((35 ∷ c) ++ rest) after s)))) e

-- the comments of segments that end a text are what is written in them
cut : (ss : List Segment) (bs : List ℕ) (at : ℕ) → Sits bs at (all_bytes ss) [] → map (comment_at bs) (places ss at) ≡ all_written ss
cut [] bs at s = refl
cut (x ∷ ss) bs at s =
    let one : Sits bs at (bytes x) (all_bytes ss ++ []) = sits_first bs at (bytes x) (all_bytes ss) [] s in
    cut_step bs x at (all_bytes ss ++ []) (places ss (at + length (bytes x))) (all_written ss) one
    (cut ss bs (at + length (bytes x)) (sits_next bs at (bytes x) (all_bytes ss) [] one))

-- the comments of segments are what is written in them
pub all_cut : (ss : List Segment) → map (comment_at (all_bytes ss)) (places ss 0) ≡ all_written ss
all_cut ss = cut ss (all_bytes ss) 0 (record { before = []; is = sym (append-nil (all_bytes ss)); at_is = refl })
