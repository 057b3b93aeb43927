-- The texts of records and bases are closed once, at their end, and where they are joined or torn at the ends of the
-- whole ones.
use Rattle.std.proofs.{Common.{◌≡◌, refl, sym, ◌∙◌, ap, inl, inr, arith, ◌<◌, ◌≤◌, append_assoc, length-append}, Math.Utf8.encode}
use Rattle.std.{proofs.lemmas.Str.{encode_ascii, encodes-append}, specs.Prelude.{ℕ, ◌+◌, ◌/◌, ◌%◌, Bool, true, false, cond, not, ◌&&◌}}
use Rattle.std.specs.Prelude.{nat_lt, nat_le, ◌==◌, List, [], ◌∷◌, ◌++◌, length, replicate, codes, encode_utf8_all}
use Rattle.yaml_recognizers.proofs.Prelude.{append-nil, cases_lt, and_parts, and_from, le-leb, leb-true, ne_eqb, ltb-true, false≢true}
use Rattle.yaml_recognizers.proofs.{Prelude.{list_all, Tree, style_text, ClosesAt}, OneStyle.Closings.{ends_from, closes, dotless, Piece}}
use Rattle.yaml_recognizers.proofs.OneStyle.Closings.{closes_from, closes_at, piece_closes, piece_closes_end, piece_closes_more}
use Rattle.yaml_recognizers.proofs.OneStyle.{Closings.{closes_before_padding, closes_within}, StyleLines.{Lined, not_both, style_lined}}
use Rattle.yaml_recognizers.specs.Closings.{framed_text_bytes, all_framed_bytes, EndsWhole, ClosedOnce, TornClosings}

-- ---- lines and dots are the same in bytes

-- the bytes are some, and none is below 128
record High (bytes : List ℕ) : Type 0 where
  prefix : ℕ
  more : List ℕ
  is : bytes ≡ prefix ∷ more
  high : list_all (nat_le 128) (prefix ∷ more) ≡ true

-- a first byte from 128 on, before others that are so
high_lead : (low b : ℕ) (bs : List ℕ) → 128 ≤ low → list_all (nat_le 128) bs ≡ true → High ((low + b) ∷ bs)
high_lead low b bs l h = record { prefix = low + b; more = bs; is = refl; high = and_from _ _ (le-leb 128 (low + b) (omega arith)) h }

-- one more byte from 128 on
followers : (b : ℕ) (bs : List ℕ) → list_all (nat_le 128) bs ≡ true → list_all (nat_le 128) ((128 + b) ∷ bs) ≡ true
followers b bs h = and_from _ _ (le-leb 128 (128 + b) (omega arith)) h

-- all bytes of an encoding in two, three or four bytes are from 128 on
encode_cases : (x y z : Bool) (bytes : List ℕ) (a b d e f g k l m : ℕ) → (x ≡ true → ⊥)
    → High (cond x bytes (cond y ((192 + a) ∷ (128 + b) ∷ [])
    (cond z ((224 + d) ∷ (128 + e) ∷ (128 + f) ∷ []) ((240 + g) ∷ (128 + k) ∷ (128 + l) ∷ (128 + m) ∷ []))))
encode_cases true y z bytes a b d e f g k l m n = absurd (n refl)
encode_cases false true z bytes a b d e f g k l m n = high_lead 192 a ((128 + b) ∷ []) (omega arith) (followers b [] refl)
encode_cases false false true bytes a b d e f g k l m n =
    high_lead 224 d ((128 + e) ∷ (128 + f) ∷ []) (omega arith) (followers e ((128 + f) ∷ []) (followers f [] refl))
encode_cases false false false bytes a b d e f g k l m n =
    high_lead 240 g ((128 + k) ∷ (128 + l) ∷ (128 + m) ∷ []) (omega arith)
    (followers k ((128 + l) ∷ (128 + m) ∷ []) (followers l ((128 + m) ∷ []) (followers m [] refl)))

-- all bytes of a character from 128 on are so
encode_high : (c : ℕ) → 128 ≤ c → High (encode c)
unfolding encode
encode_high c h =
    encode_cases (nat_lt c 128) (nat_lt c 2048) (nat_lt c 65536) (c ∷ []) (c / 64) (c % 64) (c / 4096) (c / 64 % 64)
    (c % 64) (c / 262144) (c / 4096 % 64) (c / 64 % 64) (c % 64)
    (λ e. let l : c < 128 = ltb-true c 128 e in omega (arith, l, h))

-- after high bytes no line starts
high_lined : (bol : Bool) (b : ℕ) (bs rest : List ℕ) → list_all (nat_le 128) (b ∷ bs) ≡ true
    → (dotless bol ((b ∷ bs) ++ rest) ≡ dotless false rest) × (ends_from bol ((b ∷ bs) ++ rest) ≡ ends_from false rest)
high_lined bol b bs rest h =
    let p : (nat_le 128 b ≡ true) × (list_all (nat_le 128) bs ≡ true) = and_parts _ _ h in
    let l : 128 ≤ b = leb-true 128 b p.0 in
    let dot : b == 46 ≡ false = ne_eqb b 46 (λ e. omega (arith, l, e)) in
    let feed : b == 10 ≡ false = ne_eqb b 10 (λ e. omega (arith, l, e)) in
    let more : (dotless false (bs ++ rest) ≡ dotless false rest) × (ends_from false (bs ++ rest) ≡ ends_from false rest) = on bs p.1 in (
      ap (λ x. x && dotless (b == 10) (bs ++ rest)) (not_both bol (b == 46) dot) ∙ (ap (λ x. dotless x (bs ++ rest)) feed ∙ more.0),
      ap (λ x. ends_from x (bs ++ rest)) feed ∙ more.1,
    )
  where
    on : (ds : List ℕ) → list_all (nat_le 128) ds ≡ true
        → (dotless false (ds ++ rest) ≡ dotless false rest) × (ends_from false (ds ++ rest) ≡ ends_from false rest)
    on [] h = (refl, refl)
    on (d ∷ ds) h =
        let p : (nat_le 128 d ≡ true) × (list_all (nat_le 128) ds ≡ true) = and_parts _ _ h in
        let l : 128 ≤ d = leb-true 128 d p.0 in
        let feed : d == 10 ≡ false = ne_eqb d 10 (λ e. omega (arith, l, e)) in
        let more : (dotless false (ds ++ rest) ≡ dotless false rest) × (ends_from false (ds ++ rest) ≡ ends_from false rest) = on ds p.1 in
        (ap (λ x. dotless x (ds ++ rest)) feed ∙ more.0, ap (λ x. ends_from x (ds ++ rest)) feed ∙ more.1)

-- for dots and line feeds, a character's bytes are as the character
char_same : (bol : Bool) (c : ℕ) (rest : List ℕ)
    → (dotless bol (encode c ++ rest) ≡ dotless bol (c ∷ rest)) × (ends_from bol (encode c ++ rest) ≡ ends_from bol (c ∷ rest))
char_same bol c rest = elim (cases_lt c 128) [
  | inl l ↦ (ap (λ t. dotless bol (t ++ rest)) (encode_ascii c l), ap (λ t. ends_from bol (t ++ rest)) (encode_ascii c l))
  | inr l ↦ (let h : High (encode c) = encode_high c l in
      let p : (dotless bol ((h.prefix ∷ h.more) ++ rest) ≡ dotless false rest)
      × (ends_from bol ((h.prefix ∷ h.more) ++ rest) ≡ ends_from false rest) = high_lined bol h.prefix h.more rest h.high in
      let dot : c == 46 ≡ false = ne_eqb c 46 (λ e. omega (arith, l, e)) in
      let feed : c == 10 ≡ false = ne_eqb c 10 (λ e. omega (arith, l, e)) in (
        ap (λ t. dotless bol (t ++ rest)) h.is ∙ (p.0
            ∙ sym (ap (λ x. x && dotless (c == 10) rest) (not_both bol (c == 46) dot) ∙ ap (λ x. dotless x rest) feed)),
        ap (λ t. ends_from bol (t ++ rest)) h.is ∙ (p.1 ∙ sym (ap (λ x. ends_from x rest) feed)),
      ))
]

-- and the bytes of a text as the text
encoded_same : (bol : Bool) (cs : List ℕ) → (dotless bol (encode_utf8_all cs) ≡ dotless bol cs)
    × (ends_from bol (encode_utf8_all cs) ≡ ends_from bol cs)
encoded_same bol [] = (refl, refl)
encoded_same bol (c ∷ cs) =
    let p : (dotless bol (encode c ++ encode_utf8_all cs) ≡ dotless bol (c ∷ encode_utf8_all cs))
    × (ends_from bol (encode c ++ encode_utf8_all cs) ≡ ends_from bol (c ∷ encode_utf8_all cs)) =
    char_same bol c (encode_utf8_all cs) in
    let q : (dotless (c == 10) (encode_utf8_all cs) ≡ dotless (c == 10) cs)
    × (ends_from (c == 10) (encode_utf8_all cs) ≡ ends_from (c == 10) cs) = encoded_same (c == 10) cs in
    (p.0 ∙ ap (λ b. not (bol && (c == 46)) && b) q.0, p.1 ∙ q.1)

-- ---- one text

-- the bytes of a closing line are its characters
dots_encoded : encode_utf8_all (codes "...\n") ≡ codes "...\n"
unfolding encode
dots_encoded = refl

-- a framed text is a piece
pub framed_piece : (t : Tree) → Piece (framed_text_bytes t)
framed_piece t =
    let source : List ℕ = codes "---\n" ++ style_text t in
    let same : (dotless true (encode_utf8_all source) ≡ dotless true source)
    × (ends_from true (encode_utf8_all source) ≡ ends_from true source) = encoded_same true source in
    let lined : Lined true (style_text t) true = style_lined t in
    record {
      body = encode_utf8_all source;
      is = ap encode_utf8_all (sym (append_assoc (codes "---\n") (style_text t) (codes "...\n")))
          ∙ (encodes-append source (codes "...\n") ∙ ap (λ t. encode_utf8_all source ++ t) dots_encoded);
      dotless = same.0 ∙ lined.0;
      line = same.1 ∙ lined.1;
    }

-- so it is closed once, at its end
pub framed_once : ClosedOnce
framed_once t =
    let p : Piece (framed_text_bytes t) = framed_piece t in
    record {
      closes = closes_at (framed_text_bytes t) (length (framed_text_bytes t))
          (ap (λ s. closes true s (length (framed_text_bytes t))) (sym (append-nil (framed_text_bytes t)))
          ∙ piece_closes_end (framed_text_bytes t) [] p);
      once = λ place c. elim (piece_closes (framed_text_bytes t) [] place p
          (ap (λ t. closes true t place) (append-nil (framed_text_bytes t)) ∙ closes_from (framed_text_bytes t) place c)) [
            | inl e ↦ e
            | inr r ↦ absurd (false≢true r.2)
          ];
    }

-- ---- texts in a row

-- a text ends there
record Ends (ts : List Tree) (place : ℕ) : Type 0 where
  before : List Tree
  one : Tree
  after : List Tree
  all : ts ≡ before ++ (one ∷ after)
  ends : place ≡ length (all_framed_bytes (before ++ (one ∷ [])))

-- texts in a row close only where one of them ends
all_close : (ts : List Tree) (place : ℕ) → closes true (all_framed_bytes ts) place ≡ true → Ends ts place
all_close [] place h = absurd (false≢true h)
all_close (t ∷ ts) place h = elim (piece_closes (framed_text_bytes t) (all_framed_bytes ts) place (framed_piece t) h) [
  | inl e ↦ record { before = []; one = t; after = ts; all = refl; ends = e ∙ ap length (sym (append-nil (framed_text_bytes t))) }
  | inr r ↦ (let more : Ends ts r.0 = all_close ts r.0 r.2 in
      record {
        before = t ∷ more.before;
        one = more.one;
        after = more.after;
        all = ap (λ us. t ∷ us) more.all;
        ends = r.1 ∙ (ap (λ n. length (framed_text_bytes t) + n) more.ends
            ∙ sym (length-append (framed_text_bytes t) (all_framed_bytes (more.before ++ (more.one ∷ [])))));
      })
]

-- and they close where each one ends
end_closes : (before : List Tree) (one : Tree) (after : List Tree)
    → closes true (all_framed_bytes (before ++ (one ∷ after))) (length (all_framed_bytes (before ++ (one ∷ [])))) ≡ true
end_closes [] one after = ap (λ s. closes true (framed_text_bytes one ++ all_framed_bytes after) (length s))
    (append-nil (framed_text_bytes one)) ∙ piece_closes_end (framed_text_bytes one) (all_framed_bytes after) (framed_piece one)
end_closes (t ∷ before) one after =
    ap (closes true (framed_text_bytes t ++ all_framed_bytes (before ++ (one ∷ after))))
    (length-append (framed_text_bytes t) (all_framed_bytes (before ++ (one ∷ []))))
    ∙ piece_closes_more (framed_text_bytes t) (all_framed_bytes (before ++ (one ∷ after)))
    (length (all_framed_bytes (before ++ (one ∷ [])))) (framed_piece t) (end_closes before one after)

-- and framed texts that are cut close at the ends of the whole ones
pub torn_closings : TornClosings
torn_closings ts prefix lost padding place cut = (there, back)
  where
    there : ClosesAt (prefix ++ replicate padding 0) place → EndsWhole ts (length prefix) place
    there c =
        let p : (place ≤ length prefix) × (closes true (prefix ++ lost) place ≡ true) =
        closes_before_padding true prefix lost padding place (closes_from (prefix ++ replicate padding 0) place c) in
        let e : Ends ts place = all_close ts place (ap (λ t. closes true t place) cut ∙ p.1) in
        record { before = e.before; one = e.one; after = e.after; all = e.all; ends = e.ends; within = p.0 }

    back : EndsWhole ts (length prefix) place → ClosesAt (prefix ++ replicate padding 0) place
    back e =
        let c : closes true (all_framed_bytes ts) place ≡ true = rw (e.all, e.ends) (end_closes e.before e.one e.after) in
        closes_at (prefix ++ replicate padding 0) place
        (closes_within true prefix lost (replicate padding 0) place e.within (ap (λ t. closes true t place) (sym cut) ∙ c))

-- ---- pieces

-- if the first list is no longer than the third, it is a prefix of it
pub cut_after : (one after prefix lost : List ℕ) → length one ≤ length prefix → one ++ after ≡ prefix ++ lost
    → (more : List ℕ) × (prefix ≡ one ++ more) × (after ≡ more ++ lost)
cut_after [] after prefix lost l e = (prefix, refl, e)
cut_after (c ∷ cs) after [] lost l e = absurd (omega (arith, l))
cut_after (c ∷ cs) after (d ∷ ds) lost l e =
    let same : c ≡ d = cc e in
    let tail : cs ++ after ≡ ds ++ lost = cc e in
    let more : (more : List ℕ) × (ds ≡ cs ++ more) × (after ≡ more ++ lost) = cut_after cs after ds lost (omega (arith, l)) tail in
    (more.0, cc (same, more.1), more.2)
