-- Where the first closing of the bytes that are held and those that come is: its line is begun at the end of those that
-- are held, or comes after a line feed of those that come.
use Rattle.std.proofs.Common.{◌≡◌, ℕ, zero, suc, ◌+◌, ◌-◌, ◌<◌, ◌≤◌, true, List, [], ◌∷◌, ◌++◌, length, take, drop, refl, ap, sym, ◌∙◌}
use Rattle.std.proofs.Common.{subst, arith, inl, inr, append_assoc, length-append, length-drop, take-append-drop, length-take-le}
use Rattle.std.specs.Prelude.{◌⊎◌, IsTrue, Some, slice_get, nat_eq}
use Rattle.yaml_docs.proofs.Prelude.{cases_lt, cases_order, drop-append-le, take-append-le, append-nil, take-append-add, take-append_seam}
use Rattle.yaml_docs.proofs.Prelude.{drop-append_seam, OccursAt, OccursAt-split, OccursAt-from_part, ends_line, ClosesAt}
use Rattle.yaml_docs.specs.{Cutting.Unclosed, Cutting.Takes, LineBegun.IsBegun, LineBegun.Completes}
use Rattle.yaml_docs.proofs.ClosingLines.{closing_line, line_and_closing_line, line_after, last_byte, last_of, lies_within}

-- ---- closings of a prefix

-- a closing stays one if bytes come after it
pub closes-longer : (xs ys : List ℕ) (place : ℕ) → ClosesAt xs place → ClosesAt (xs ++ ys) place
closes-longer xs ys place c = record {
  before = c.before;
  after = c.after ++ ys;
  is = ap (λ l. l ++ ys) c.is ∙ simp append_assoc;
  line = c.line;
  ends = c.ends;
}

-- where two lists are one list, cut in two ways
split-below : (held more before after : List ℕ) → held ++ more ≡ before ++ after → length before ≤ length held
    → (held ≡ before ++ drop (length before) held) × (drop (length before) held ++ more ≡ after)
split-below held more before after e le =
    let n = length before in
    let prefix : take n held ≡ before = sym (take-append-le n held more le) ∙ ap (take n) e
    ∙ ap (λ k. take k (before ++ after)) (omega arith) ∙ take-append-add before after 0 ∙ append-nil before in (
      sym (take-append-drop n held) ∙ ap (λ l. l ++ drop n held) prefix,
      sym (drop-append-le n held more le)
          ∙ ap (drop n) e ∙ drop-append_seam before after,
    )

-- and if the bytes after it are taken away
pub closes-shorter : (xs ys : List ℕ) (place : ℕ) → ClosesAt (xs ++ ys) place → place ≤ length xs → ClosesAt xs place
closes-shorter xs ys place c le =
    let all : List ℕ = c.before ++ closing_line in
    let e : xs ++ ys ≡ all ++ c.after = c.is ∙ sym (append_assoc c.before closing_line c.after) in
    let long : length all ≡ length c.before + 4 = length-append c.before closing_line in
    let s = split-below xs ys all c.after e (omega (arith, long, c.ends, le)) in
    record {
      before = c.before;
      after = drop (length all) xs;
      is = s.0 ∙ append_assoc c.before closing_line (drop (length all) xs);
      line = c.line;
      ends = c.ends;
    }

-- ---- what is found closes

module _ (held more : List ℕ) where
  -- a closing line that has begun in the held bytes is completed
  pub closes_begun : (dots : ℕ) → IsBegun held dots → (after : List ℕ) → more ≡ drop dots closing_line ++ after
      → ClosesAt (held ++ more) (length held + (4 - dots))
  closes_begun dots b after e =
      let whole : take dots closing_line ++ drop dots closing_line ≡ closing_line = take-append-drop dots closing_line in
      let size : length (take dots closing_line) ≡ dots = dots_long dots b.few in
      record {
        before = b.prefix;
        after = after;
        is =
            ap (λ l. l ++ more) b.is ∙ ap (λ l. (b.prefix ++ take dots closing_line) ++ l) e
            ∙ append_assoc b.prefix (take dots closing_line) (drop dots closing_line ++ after)
            ∙ ap (λ l. b.prefix ++ l) (sym (append_assoc (take dots closing_line) (drop dots closing_line) after)
            ∙ ap (λ l. l ++ after) whole);
        line = b.line;
        ends = omega (arith, ap length b.is, length-append b.prefix (take dots closing_line), size, b.few);
      }
    where
      dots_long : (dots : ℕ) → dots ≤ 3 → length (take dots closing_line) ≡ dots
      dots_long zero le = refl
      dots_long (suc zero) le = refl
      dots_long (suc (suc zero)) le = refl
      dots_long (suc (suc (suc zero))) le = refl
      dots_long (suc (suc (suc (suc k)))) le = absurd (omega (arith, le))

  -- a closing line in the new bytes closes there
  pub closes_later : (k : ℕ) → OccursAt more line_and_closing_line k → ClosesAt (held ++ more) (length held + (k + 5))
  closes_later k o =
      let after = drop (k + 5) more in
      let prefix = held ++ take k more in
      let fits : k + 5 ≤ length more = o.fits in
      record {
        before = prefix ++ 10 ∷ [];
        after = after;
        is = ap (λ l. held ++ l) (sym (take-append-drop k more)
            ∙ ap (λ l. take k more ++ l) (OccursAt-split more line_and_closing_line k o)) ∙ simp append_assoc;
        line = line_after prefix;
        ends = omega (arith, length-append prefix (10 ∷ []), length-append held (take k more), length-take-le k more (omega (arith, fits)));
      }

  -- ---- what closes is found

  -- a closing of held and new bytes is one of the two
  abbrev pub Shown : ℕ → Type 0
  Shown place =
      ((dots : ℕ) × IsBegun held dots × (after : List ℕ) × (more ≡ drop dots closing_line ++ after) × (place ≡ length held + (4 - dots)))
      ⊎ ((k : ℕ) × OccursAt more line_and_closing_line k × (place ≡ length held + (k + 5)))

  -- the closing line begins in what is held, or right after it
  begun : Unclosed held → (before after xs : List ℕ) → IsTrue (ends_line before) → held ≡ before ++ xs
      → xs ++ more ≡ closing_line ++ after → Shown (length before + 4)
  begun clear before after [] line h e =
      inl (
        0,
        record { prefix = before; few = omega arith; is = h; line = line },
        after,
        e,
        omega (arith, ap length h, ap length (append-nil before)),
      )
  begun clear before after (x ∷ []) line h e =
      let dot : x ≡ 46 = cc e in
      inl (
        1,
        record { prefix = before; few = omega arith; is = h ∙ ap (λ d. before ++ d ∷ []) dot; line = line },
        after,
        (let more_is : more ≡ 46 ∷ 46 ∷ 10 ∷ after = cc e in more_is),
        omega (arith, ap length h, length-append before (x ∷ [])),
      )
  begun clear before after (x ∷ y ∷ []) line h e =
      let one : x ≡ 46 = cc e in
      let two : y ≡ 46 = cc e in
      inl (
        2,
        record {
          prefix = before;
          few = omega arith;
          is = h ∙ ap (λ d. before ++ d ∷ y ∷ []) one ∙ ap (λ d. before ++ 46 ∷ d ∷ []) two;
          line = line;
        },
        after,
        (let more_is : more ≡ 46 ∷ 10 ∷ after = cc e in more_is),
        omega (arith, ap length h, length-append before (x ∷ y ∷ [])),
      )
  begun clear before after (x ∷ y ∷ z ∷ []) line h e =
      let one : x ≡ 46 = cc e in
      let two : y ≡ 46 = cc e in
      let three : z ≡ 46 = cc e in
      inl (
        3,
        record {
          prefix = before;
          few = omega arith;
          is = h ∙ ap (λ d. before ++ d ∷ y ∷ z ∷ []) one ∙ ap (λ d. before ++ 46 ∷ d ∷ z ∷ []) two
              ∙ ap (λ d. before ++ 46 ∷ 46 ∷ d ∷ []) three;
          line = line;
        },
        after,
        (let more_is : more ≡ 10 ∷ after = cc e in more_is),
        omega (arith, ap length h, length-append before (x ∷ y ∷ z ∷ [])),
      )
  begun clear before after (x ∷ y ∷ z ∷ w ∷ ws) line h e =
      let one : x ≡ 46 = cc e in
      let two : y ≡ 46 = cc e in
      let three : z ≡ 46 = cc e in
      let four : w ≡ 10 = cc e in
      absurd (clear (length before + 4) (record {
        before = before;
        after = ws;
        is = h ∙ ap (λ d. before ++ d ∷ y ∷ z ∷ w ∷ ws) one ∙ ap (λ d. before ++ 46 ∷ d ∷ z ∷ w ∷ ws) two
            ∙ ap (λ d. before ++ 46 ∷ 46 ∷ d ∷ w ∷ ws) three ∙ ap (λ d. before ++ 46 ∷ 46 ∷ 46 ∷ d ∷ ws) four;
        line = line;
        ends = refl;
      }))

  -- the line before it ends in what comes
  later : (before after ys : List ℕ) → IsTrue (ends_line before) → before ≡ held ++ ys → 0 < length ys
      → ys ++ (closing_line ++ after) ≡ more → Shown (length before + 4)
  later before after [] line b some e = absurd (omega (arith, some))
  later before after (y ∷ ys) line b some e =
      let l = last_of y ys in
      let whole : before ≡ (held ++ l.0) ++ l.1 ∷ [] = b ∙ ap (λ zs. held ++ zs) l.2 ∙ sym (append_assoc held l.0 (l.1 ∷ [])) in
      let feed : l.1 ≡ 10 = last_byte (held ++ l.0) l.1 (subst (λ zs. ends_line zs ≡ true) whole line) in
      let is : more ≡ l.0 ++ (line_and_closing_line ++ after) =
      sym e ∙ ap (λ zs. zs ++ (closing_line ++ after)) (l.2 ∙ ap (λ d. l.0 ++ d ∷ []) feed)
      ∙ append_assoc l.0 (10 ∷ []) (closing_line ++ after) in
      let size : length more ≡ length l.0 + length (line_and_closing_line ++ after) = ap length is
      ∙ length-append l.0 (line_and_closing_line ++ after) in
      inr (
        length l.0,
        OccursAt-from_part more line_and_closing_line (length l.0) (omega (arith, size, length-append line_and_closing_line after))
            (ap (λ xs. take 5 (drop (length l.0) xs)) is ∙ ap (take 5) (drop-append_seam l.0 (line_and_closing_line ++ after))),
        omega (arith, ap length b, length-append held (y ∷ ys), ap length l.2, length-append l.0 (l.1 ∷ [])),
      )

  -- each of them is
  pub shown : Unclosed held → (place : ℕ) → ClosesAt (held ++ more) place → Shown place
  shown clear place c = elim (cases_lt (length held) (length c.before)) [
    | inr low ↦ (let s = split-below held more c.before (closing_line ++ c.after) c.is low in
        subst Shown (sym c.ends) (begun clear c.before c.after (drop (length c.before) held) c.line s.0 s.1))
    | inl high ↦ (let s = split-below c.before (closing_line ++ c.after) held more (sym c.is) (omega (arith, high)) in
        subst Shown (sym c.ends) (later c.before c.after (drop (length held) c.before) c.line s.0
        (omega (arith, length-drop (length held) c.before, high)) s.1))
  ]

  -- ---- what is taken

  -- the first closing of both together is the only one of what is taken, and its end
  pub takes_closed : (taken : ℕ) → taken ≤ length more → ClosesAt (held ++ more) (length held + taken)
      → ((place : ℕ) → ClosesAt (held ++ more) place → length held + taken ≤ place) → Takes held more taken true
  takes_closed taken within closes first =
      let all = held ++ take taken more in
      let rest = drop taken more in
      let whole : held ++ more ≡ all ++ rest = ap (λ l. held ++ l) (sym (take-append-drop taken more))
      ∙ sym (append_assoc held (take taken more) rest) in
      let size : length all ≡ length held + taken = length-append held (take taken more)
      ∙ ap (λ n. length held + n) (length-take-le taken more within) in (
        within,
        record {
          closes = subst (λ n. ClosesAt all n) (sym size)
              (closes-shorter all rest (length held + taken)
              (subst (λ l. ClosesAt l (length held + taken)) whole closes) (omega (arith, size)));
          once = λ place c.
              (let low = first place (subst (λ l. ClosesAt l place) (sym whole) (closes-longer all rest place c)) in
              let high = lies_within all place c in
              omega (arith, low, high, size));
        },
      )

-- ---- the line that was begun

last_is : (bytes : List ℕ) (k b : ℕ) → slice_get bytes k ≡ Some b → length bytes ≡ suc k → nat_eq b 10 ≡ ends_line bytes
last_is [] k b is long = absurd (omega (arith, long))
last_is (x ∷ []) zero b is long = (let same : x ≡ b = cc is in ap (λ n. nat_eq n 10) (sym same))
last_is (x ∷ []) (suc k) b is long = absurd (omega (arith, long))
last_is (x ∷ y ∷ ys) zero b is long = absurd (omega (arith, long))
last_is (x ∷ y ∷ ys) (suc k) b is long = last_is (y ∷ ys) k b is (omega (arith, long))

-- the last byte says whether a line starts after the bytes
pub last_ends : (bytes : List ℕ) (b : ℕ) → Some b ≡ slice_get bytes (length bytes - 1) → nat_eq b 10 ≡ ends_line bytes
last_ends [] b is = absurd (cc is)
last_ends (x ∷ xs) b is =
    last_is (x ∷ xs) (length xs) b (sym (is ∙ ap (slice_get (x ∷ xs))
    (let less : length (x ∷ xs) - 1 ≡ length xs = omega arith in less))) refl

-- the line that was begun is one alone: a dot ends no line
one_begun : (held : List ℕ) (j k : ℕ) → IsBegun held j → IsBegun held k → j ≡ k
one_begun held j k a b = elim (cases_order j k) [
  | inl same ↦ same
  | inr (inl less) ↦ absurd (fewer j k a b less)
  | inr (inr more) ↦ absurd (fewer k j b a more)
]
  where
    dot_ends_no_line : (xs : List ℕ) → ends_line (xs ++ 46 ∷ []) ≡ true → ⊥
    dot_ends_no_line xs h = (let d : ◌≡◌ {A = ℕ} 46 10 = last_byte xs 46 h in absurd (omega (arith, d)))

    -- so many dots more
    dots_end_no_line : (xs : List ℕ) (n : ℕ) → n < 3 → ends_line (xs ++ take (suc n) closing_line) ≡ true → ⊥
    dots_end_no_line xs zero l h = dot_ends_no_line xs h
    dots_end_no_line xs (suc zero) l h = dot_ends_no_line (xs ++ 46 ∷ [])
        (subst (λ ys. ends_line ys ≡ true) (sym (append_assoc xs (46 ∷ []) (46 ∷ []))) h)
    dots_end_no_line xs (suc (suc zero)) l h = dot_ends_no_line (xs ++ 46 ∷ 46 ∷ [])
        (subst (λ ys. ends_line ys ≡ true) (sym (append_assoc xs (46 ∷ 46 ∷ []) (46 ∷ []))) h)
    dots_end_no_line xs (suc (suc (suc n))) l h = absurd (omega (arith, l))

    some_dots : (j k : ℕ) → j < k → k ≤ 3 → take (k - j) (take k closing_line) ≡ take (suc (k - suc j)) closing_line
    some_dots zero (suc zero) l le = refl
    some_dots zero (suc (suc zero)) l le = refl
    some_dots zero (suc (suc (suc zero))) l le = refl
    some_dots (suc zero) (suc (suc zero)) l le = refl
    some_dots (suc zero) (suc (suc (suc zero))) l le = refl
    some_dots (suc (suc zero)) (suc (suc (suc zero))) l le = refl
    some_dots j zero l le = absurd (omega (arith, l))
    some_dots (suc j) (suc zero) l le = absurd (omega (arith, l))
    some_dots (suc (suc j)) (suc (suc zero)) l le = absurd (omega (arith, l))
    some_dots (suc (suc (suc j))) (suc (suc (suc zero))) l le = absurd (omega (arith, l))
    some_dots j (suc (suc (suc (suc k)))) l le = absurd (omega (arith, le))

    fewer : (j k : ℕ) → IsBegun held j → IsBegun held k → j < k → ⊥
    fewer j k a b less =
        let long : length (take j closing_line) ≡ j = length-take-le j closing_line (omega (arith, a.few)) in
        let longer : length (take k closing_line) ≡ k = length-take-le k closing_line (omega (arith, b.few)) in
        let size : length a.prefix ≡ length b.prefix + (k - j) =
        omega (
          arith,
          ap length (sym a.is ∙ b.is),
          length-append a.prefix (take j closing_line),
          length-append b.prefix (take k closing_line),
          long,
          longer,
          less,
        ) in
        let prefix : a.prefix ≡ b.prefix ++ take (k - j) (take k closing_line) =
        sym (take-append_seam a.prefix (take j closing_line)) ∙ ap (take (length a.prefix)) (sym a.is ∙ b.is)
        ∙ ap (λ n. take n (b.prefix ++ take k closing_line)) size
        ∙ take-append-add b.prefix (take k closing_line) (k - j) in
        dots_end_no_line b.prefix (k - suc j) (omega (arith, b.few, less))
        (subst (λ ys. ends_line ys ≡ true) (prefix ∙ ap (λ ys. b.prefix ++ ys) (some_dots j k less b.few)) a.line)

-- ---- what first_closing answers

-- without either, all bytes are unclosed
pub unclosed_all : (held more : List ℕ) → Unclosed held → ((dots : ℕ) → Completes held more dots → ⊥)
    → ((k : ℕ) → OccursAt more line_and_closing_line k → ⊥) → Unclosed (held ++ more)
unclosed_all held more clear seam later place c = elim (shown held more clear place c) [
  | inl s ↦ seam s.0 (record { begun = s.1; after = s.2; is = s.3 })
  | inr l ↦ later l.0 l.1
]

-- the closing that is completed is the first one
pub takes_seam : (held more : List ℕ) (taken dots : ℕ) → Unclosed held → Completes held more dots → taken + dots ≡ 4
    → Takes held more taken true
takes_seam held more taken dots clear c four =
    let few = c.begun.few in
    let long : length (drop dots closing_line) ≡ 4 - dots = length-drop dots closing_line in
    let size : length more ≡ length (drop dots closing_line) + length c.after = ap length c.is
    ∙ length-append (drop dots closing_line) c.after in
    takes_closed held more taken (omega (arith, four, few, long, size))
    (subst (λ n. ClosesAt (held ++ more) n) (let same : length held + (4 - dots) ≡ length held + taken =
    omega (arith, four, few) in same) (closes_begun held more dots c.begun c.after c.is))
    (λ place closes. elim (shown held more clear place closes) [
      | inl s ↦ (let same : s.0 ≡ dots = one_begun held s.0 dots s.1 c.begun in omega (arith, four, few, s.4, same))
      | inr l ↦ omega (arith, four, few, l.2)
    ])

-- else the first one in the new bytes is
pub takes_later : (held more : List ℕ) (k : ℕ) → Unclosed held → ((dots : ℕ) → Completes held more dots → ⊥)
    → OccursAt more line_and_closing_line k
    → ((i : ℕ) → i < k → OccursAt more line_and_closing_line i → ⊥) → Takes held more (k + 5) true
takes_later held more k clear seam here before =
    takes_closed held more (k + 5) here.fits (closes_later held more k here)
    (λ place closes. elim (shown held more clear place closes) [
      | inl s ↦ absurd (seam s.0 (record { begun = s.1; after = s.2; is = s.3 }))
      | inr l ↦ elim (cases_lt l.0 k) [
        | inl low ↦ absurd (before l.0 low l.1)
        | inr high ↦ omega (arith, l.2, high)
      ]
    ])
