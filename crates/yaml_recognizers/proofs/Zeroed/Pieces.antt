-- Zeros in joined texts make no closing line, and the pieces that are left.
use Rattle.std.proofs.Common.{◌≡◌, refl, sym, ◌∙◌, ap, inl, inr, ◌⊎◌, arith, ◌<◌, ◌≤◌, append_assoc, length-append, subst}
use Rattle.std.specs.Prelude.{ℕ, zero, suc, ◌+◌, Bool, true, not, ◌&&◌, ◌==◌, List, [], ◌∷◌, ◌++◌, length, codes, replicate, Contains}
use Rattle.yaml_recognizers.proofs.Prelude.{All, concat, append-nil, concat-append, All-nil, All-cons, All-head, All-tail, All-weaker}
use Rattle.yaml_recognizers.proofs.Prelude.{Contains-append_left, Contains-append_right, cases_Bool, cases_lt, and_parts, and_from}
use Rattle.yaml_recognizers.proofs.Prelude.{or_cases, or_left, or_right, not-true, eqb-true, false≢true, begins, ClosesAt, ClosesOnce}
use Rattle.yaml_recognizers.proofs.OneStyle.Closings.{ends_from, closes, closes_from, closes_at, closes_within, closes_from_line}
use Rattle.yaml_recognizers.{proofs.OneStyle.Closings.closes_range, specs.Zeroed.{Zeroed, no_zero, NoClosingMade, AreLeft, PiecesLeft}}
use Rattle.yaml_recognizers.specs.Zeroed.{HoleAfter, HolesAfter, WholeBehind, CutsAreZeroed}

-- ---- closing lines

-- a word without a zero that stands in the tail stands in the text
begins_left : (ws text tail : List ℕ) → no_zero ws ≡ true → Zeroed text tail → begins ws tail ≡ true → begins ws text ≡ true
begins_left [] text tail n z h = refl
begins_left (w ∷ ws) text [] n z h = absurd (false≢true h)
begins_left (w ∷ ws) [] (b ∷ bs) n z h = absurd z
begins_left (w ∷ ws) (t ∷ ts) (b ∷ bs) n z h =
    let p : (b == w ≡ true) × (begins ws bs ≡ true) = and_parts _ _ h in
    let q : (not (w == 0) ≡ true) × (no_zero ws ≡ true) = and_parts _ _ n in
    elim z.0 [
      | inl e ↦ and_from _ _ (ap (λ x. x == w) (sym e) ∙ p.0) (begins_left ws ts bs q.1 z.1 p.1)
      | inr e ↦ (let same : b ≡ w = eqb-true b w p.0 in
          absurd (false≢true (sym (not-true _ q.0) ∙ (ap (λ x. x == 0) (sym same) ∙ ap (λ x. x == 0) e))))
    ]

-- a line feed of the tail is one of the text
feed_left : (t b : ℕ) → (b ≡ t) ⊎ (b ≡ 0) → b == 10 ≡ true → t == 10 ≡ true
feed_left t b (inl e) h = ap (λ x. x == 10) (sym e) ∙ h
feed_left t b (inr e) h = absurd (false≢true (sym (ap (λ x. x == 10) e) ∙ h))

-- each closing line of the tail is one of the text
closes_left : (bol other : Bool) (text tail : List ℕ) (place : ℕ) → (bol ≡ true → other ≡ true) → Zeroed text tail
    → closes bol tail place ≡ true → closes other text place ≡ true
closes_left bol other text [] place f z h = absurd (false≢true h)
closes_left bol other [] (b ∷ bs) place f z h = absurd z
closes_left bol other (t ∷ ts) (b ∷ bs) zero f z h = absurd (false≢true h)
closes_left bol other (t ∷ ts) (b ∷ bs) (suc place) f z h = elim (or_cases _ _ h) [
  | inl a ↦ (let p : (bol && begins (codes "...\n") (b ∷ bs) ≡ true) × (place == 3 ≡ true) = and_parts _ _ a in
      let q : (bol ≡ true) × (begins (codes "...\n") (b ∷ bs) ≡ true) = and_parts _ _ p.0 in
      or_left _ _ (and_from _ _ (and_from _ _ (f q.0) (begins_left (codes "...\n") (t ∷ ts) (b ∷ bs) refl z q.1)) p.1))
  | inr a ↦ or_right _ _ (closes_left (b == 10) (t == 10) ts bs place (feed_left t b z.0) z.1 a)
]

pub no_closing_made : NoClosingMade
no_closing_made text tail place z c = closes_at text place (closes_left true true text tail place (λ e. e) z (closes_from tail place c))

-- ---- tails

-- a tail in two parts, of which the first is as long as the text's first
zeroed_split : (one more p q : List ℕ) → length p ≡ length one → Zeroed (one ++ more) (p ++ q) → Zeroed one p × Zeroed more q
zeroed_split [] more [] q l z = (tt, z)
zeroed_split [] more (b ∷ bs) q l z = absurd (omega (arith, l))
zeroed_split (t ∷ ts) more [] q l z = absurd (omega (arith, l))
zeroed_split (t ∷ ts) more (b ∷ bs) q l z =
    let r = zeroed_split ts more bs q (omega (arith, l)) z.1 in
    ((z.0, r.0), r.1)

-- a tail without a zero that is as long as the text is the text
zeroed_same : (text tail : List ℕ) → length tail ≡ length text → Zeroed text tail → no_zero tail ≡ true → tail ≡ text
zeroed_same [] [] l z n = refl
zeroed_same [] (b ∷ bs) l z n = absurd z
zeroed_same (t ∷ ts) [] l z n = absurd (omega (arith, l))
zeroed_same (t ∷ ts) (b ∷ bs) l z n =
    let p : (not (b == 0) ≡ true) × (no_zero bs ≡ true) = and_parts _ _ n in
    let more : bs ≡ ts = zeroed_same ts bs (omega (arith, l)) z.1 p.1 in
    elim z.0 [
      | inl e ↦ cc (e, more)
      | inr e ↦ absurd (false≢true (sym (not-true _ p.0) ∙ ap (λ x. x == 0) e))
    ]

-- ---- texts in a row

-- what closes at its end does so whatever comes after it
closed_prefix : (piece after : List ℕ) → ClosesOnce piece → closes true (piece ++ after) (length piece) ≡ true
closed_prefix piece after c =
    closes_within true piece [] after (length piece) (omega arith)
    (ap (λ s. closes true s (length piece)) (append-nil piece) ∙ closes_from piece (length piece) c.closes)

-- what ends in a closing line ends a line
ends_fed : (bol : Bool) (before : List ℕ) → ends_from bol (before ++ codes "...\n") ≡ true
ends_fed bol [] = refl
ends_fed bol (b ∷ bs) = ends_fed (b == 10) bs

nothing_after : (after : List ℕ) → length after ≡ 0 → after ≡ []
nothing_after [] e = refl
nothing_after (b ∷ bs) e = absurd (omega (arith, e))

piece_ends : (piece : List ℕ) → ClosesOnce piece → ends_from true piece ≡ true
piece_ends piece c =
    let k : ClosesAt piece (length piece) = c.closes in
    let ends : length piece ≡ length k.before + 4 = k.ends in
    let long : length piece ≡ length k.before + length (codes "...\n" ++ k.after) = ap length k.is
    ∙ length-append k.before (codes "...\n" ++ k.after) in
    let four : length (codes "...\n" ++ k.after) ≡ 4 + length k.after = length-append (codes "...\n") k.after in
    let none : k.after ≡ [] = nothing_after k.after (omega (arith, ends, long, four)) in
    let is : piece ≡ k.before ++ codes "...\n" = k.is ∙ ap (λ s. k.before ++ (codes "...\n" ++ s)) none in
    ap (ends_from true) is ∙ ends_fed true k.before

-- where a text closes only at its end, what is within it closes only there
within_once : (one after : List ℕ) (place : ℕ) → ClosesOnce one → place ≤ length one → closes true (one ++ after) place ≡ true
    → place ≡ length one
within_once one after place c l h =
    c.once place (closes_at one place (ap (λ s. closes true s place) (sym (append-nil one)) ∙ closes_within true one after [] place l h))

-- texts in a row, in two parts
pub record Split (texts : List (List ℕ)) (place : ℕ) : Type 0 where
  pub some : List (List ℕ)
  pub further : List (List ℕ)
  pub all : texts ≡ some ++ further
  pub ends : length (concat some) ≡ place

-- where they close, one of them ends
split_at : (texts : List (List ℕ)) (place : ℕ) → All ClosesOnce texts → closes true (concat texts) place ≡ true → Split texts place
split_at [] place a h = absurd (false≢true h)
split_at (t ∷ ts) place a h = elim (cases_lt (length t) place) [
  | inl l ↦ (let c : ClosesOnce t = All-head ClosesOnce t ts a in
      let q : (q : ℕ) × (place ≡ length t + q) × (1 ≤ q) = later (length t) place l in
      let r : Split ts q.0 = split_at ts q.0 (All-tail ClosesOnce t ts a)
      (sym (closes_from_line true t (concat ts) q.0 (piece_ends t c) q.2) ∙ (ap (closes true (t ++ concat ts)) (sym q.1) ∙ h)) in
      record {
        some = t ∷ r.some;
        further = r.further;
        all = ap (λ us. t ∷ us) r.all;
        ends = length-append t (concat r.some) ∙ (ap (λ n. length t + n) r.ends ∙ sym q.1);
      })
  | inr l ↦ (let c : ClosesOnce t = All-head ClosesOnce t ts a in
      let e : place ≡ length t = within_once t (concat ts) place c l h in
      record { some = t ∷ []; further = ts; all = refl; ends = ap length (append-nil t) ∙ sym e })
]
  where
    later : (m n : ℕ) → m < n → (q : ℕ) × (n ≡ m + q) × (1 ≤ q)
    later m zero l = absurd (omega (arith, l))
    later zero (suc n) l = (suc n, omega arith, omega arith)
    later (suc m) (suc n) l = let r = later m n (omega (arith, l)) in (r.0, omega (arith, r.1), r.2)

-- the parts keep what holds of all
all_parts : (some further : List (List ℕ)) → All ClosesOnce (some ++ further) → All ClosesOnce some × All ClosesOnce further
all_parts [] further a = (All-nil ClosesOnce, a)
all_parts (t ∷ ts) further a =
    let r = all_parts ts further (All-tail ClosesOnce t (ts ++ further) a) in
    (All-cons ClosesOnce t ts (All-head ClosesOnce t (ts ++ further) a) r.0, r.1)

-- what closes has four bytes
four_bytes : (t : List ℕ) → ClosesOnce t → 4 ≤ length t
four_bytes t c = (closes_range t (length t) c.closes).0

-- a piece that closes once, and is texts in a row, is one of them
one_text : (some : List (List ℕ)) (piece : List ℕ) → All ClosesOnce some → ClosesOnce piece → piece ≡ concat some → some ≡ piece ∷ []
one_text [] piece a c e =
    absurd (let l : 4 ≤ length piece = four_bytes piece c in let n : length piece ≡ 0 = ap length e in omega (arith, l, n))
one_text (t ∷ []) piece a c e = ap (λ s. s ∷ []) (sym (e ∙ append-nil t))
one_text (t ∷ u ∷ us) piece a c e =
    let first : length t ≡ length piece = c.once (length t) (closes_at piece (length t)
    (ap (λ s. closes true s (length t)) e ∙ closed_prefix t (concat (u ∷ us)) (All-head ClosesOnce t (u ∷ us) a))) in
    let long : length piece ≡ length t + length (u ++ concat us) = ap length e ∙ length-append t (u ++ concat us) in
    let more : length (u ++ concat us) ≡ length u + length (concat us) = length-append u (concat us) in
    let four : 4 ≤ length u = four_bytes u (All-head ClosesOnce u us (All-tail ClosesOnce t (u ∷ us) a)) in
    absurd (omega (arith, first, long, more, four))

-- ---- pieces

left_of : (texts pieces : List (List ℕ)) (rest : List ℕ) → All ClosesOnce texts → All ClosesOnce pieces
    → Zeroed (concat texts) (concat pieces ++ rest) → AreLeft texts pieces rest
left_of texts [] rest a b z = z
left_of texts (p ∷ ps) rest a b z =
    let c : ClosesOnce p = All-head ClosesOnce p ps b in
    let y : Zeroed (concat texts) (p ++ (concat ps ++ rest)) = subst (Zeroed (concat texts)) (append_assoc p (concat ps) rest) z in
    let s : Split texts (length p) = split_at texts (length p) a
    (closes_left true true (concat texts) (p ++ (concat ps ++ rest)) (length p) (λ e. e) y (closed_prefix p (concat ps ++ rest) c)) in
    let apart : concat texts ≡ concat s.some ++ concat s.further = ap concat s.all ∙ concat-append s.some s.further in
    let both : Zeroed (concat s.some) p × Zeroed (concat s.further) (concat ps ++ rest) =
    zeroed_split (concat s.some) (concat s.further) p (concat ps ++ rest) (sym s.ends)
    (subst (λ t. Zeroed t (p ++ (concat ps ++ rest))) apart y) in
    let parts : All ClosesOnce s.some × All ClosesOnce s.further = all_parts s.some s.further (subst (All ClosesOnce) s.all a) in (
      s.some,
      s.further,
      s.all,
      record {
        zeroed = both.0;
        long = sym s.ends;
        whole = λ n. one_text s.some p parts.0 c (zeroed_same (concat s.some) p (sym s.ends) both.0 n);
      },
      left_of s.further ps rest parts.1 (All-tail ClosesOnce p ps b) both.1,
    )

pub pieces_left : PiecesLeft
pieces_left texts pieces tail rest a z p = left_of texts pieces rest a p.closed (subst (Zeroed (concat texts)) p.joined z)

-- the first hole
hole_in : (texts pieces : List (List ℕ)) (rest : List ℕ) → AreLeft texts pieces rest → HoleAfter texts pieces rest
hole_in texts [] rest h = record { whole = []; further = texts; others = []; all = refl; found = refl; hole = tt; left = h }
hole_in texts (p ∷ ps) rest h = elim (cases_Bool (no_zero p)) [
  | inl e ↦ (let r : HoleAfter h.1 ps rest = hole_in h.1 ps rest h.4 in
      let one : h.0 ≡ p ∷ [] = (h.3).whole e in
      record {
        whole = p ∷ r.whole;
        further = r.further;
        others = r.others;
        all = h.2 ∙ (ap (λ s. s ++ h.1) one ∙ ap (λ s. p ∷ s) r.all);
        found = ap (λ s. p ∷ s) r.found;
        hole = r.hole;
        left = r.left;
      })
  | inr e ↦ record { whole = []; further = texts; others = p ∷ ps; all = refl; found = refl; hole = e; left = h }
]

pub holes_after : HolesAfter
holes_after texts pieces tail rest a z p = hole_in texts pieces rest (pieces_left texts pieces tail rest a z p)

-- ---- behind a hole

-- each piece that is left without a zero is one of the texts
among : (texts pieces : List (List ℕ)) (rest : List ℕ) → AreLeft texts pieces rest
    → All (λ piece. no_zero piece ≡ true → Contains texts piece) pieces
among texts [] rest h = All-nil _
among texts (p ∷ ps) rest h =
    All-cons (λ piece. no_zero piece ≡ true → Contains texts piece) p ps
    (λ n. subst (λ ts. Contains ts p) (sym (h.2 ∙ ap (λ s. s ++ h.1) ((h.3).whole n)))
    (Contains-append_left (p ∷ []) h.1 p (0, omega arith, refl)))
    (All-weaker (λ piece. no_zero piece ≡ true → Contains h.1 piece) (λ piece. no_zero piece ≡ true → Contains texts piece)
    (λ piece f n. subst (λ ts. Contains ts piece) (sym h.2) (Contains-append_right h.0 h.1 piece (f n))) ps (among h.1 ps rest h.4))

pub whole_behind : WholeBehind
whole_behind texts pieces bad rest c h = by h.0 h.2 (h.3).long
  where
    by : (some : List (List ℕ)) → texts ≡ some ++ h.1 → length bad ≡ length (concat some)
        → All (λ piece. no_zero piece ≡ true
        → (first : List ℕ) × (later : List (List ℕ)) × (texts ≡ first ∷ later) × Contains later piece) pieces
    by [] e l = absurd (let four : 4 ≤ length bad = four_bytes bad c in let none : length bad ≡ 0 = l in omega (arith, four, none))
    by (t ∷ ts) e l =
        All-weaker (λ piece. no_zero piece ≡ true → Contains h.1 piece)
        (λ piece. no_zero piece ≡ true
        → (first : List ℕ) × (later : List (List ℕ)) × (texts ≡ first ∷ later) × Contains later piece)
        (λ piece f n. (t, ts ++ h.1, e, Contains-append_right ts h.1 piece (f n))) pieces (among h.1 pieces rest h.4)

-- ---- prefixes with zeros

zeros_zeroed : (text : List ℕ) (n : ℕ) → n ≤ length text → Zeroed text (replicate n 0)
zeros_zeroed text zero l = tt
zeros_zeroed [] (suc n) l = absurd (omega (arith, l))
zeros_zeroed (t ∷ ts) (suc n) l = (inr refl, zeros_zeroed ts n (omega (arith, l)))

pub cuts_are_zeroed : CutsAreZeroed
cuts_are_zeroed text zero n l = zeros_zeroed text n (omega (arith, l))
cuts_are_zeroed [] (suc keep) n l = absurd (omega (arith, l))
cuts_are_zeroed (t ∷ ts) (suc keep) n l = (inl refl, cuts_are_zeroed ts keep n (omega (arith, l)))
