-- What is read as comments fits, and comments are read up to where there is none.
use Rattle.std.{proofs.Common.{ap, append_assoc, arith, inl, inr, length-append, refl, subst, sym, ◌<◌, ◌∙◌, ◌≡◌}, specs.Prelude.Bool}
use Rattle.std.specs.Prelude.{List, None, Option, Some, [], false, if◌then◌else◌, is_some, length, not, suc, true, zero, ℕ, ◌&&◌, ◌++◌}
use Rattle.std.specs.Prelude.{◌==◌, ◌||◌, ◌∷◌}
use Rattle.yaml_recognizers.proofs.Prelude.{and_from, and_parts, cases_Bool, cond_both, eqb-true, false≢true, not_from_false, or_cases}
use Rattle.yaml_recognizers.proofs.Prelude.{line_break, nb, white, Break, LineEnd, break_text, comment_fits, comment_line_fits}
use Rattle.yaml_recognizers.proofs.Prelude.{comment_text, comments_text, cr, cr_lf, lf, line_end_text, stop_fits, list_all, first, is_empty}
use Rattle.yaml_recognizers.proofs.{Prelude.optional, Basics.{Breaks.cr_sound, Prefixes.{take_while_every, take_while_split}}}
use Rattle.yaml_recognizers.proofs.{Basics.Reading.{Sound, none_some, sound_to}, Separation.CommentsComplete.{line_end_read, no_line}}
use Rattle.yaml_recognizers.{proofs.Separation.LineEnds.{comments_from, line_long}, specs.Prefixes.{drop_while, past, take_while}}
use Rattle.yaml_recognizers.specs.{Reading.Read, CanonicalComments.{canonical_comments, hash, is_line_end, stops}, Comments.all_comments}
use Rattle.yaml_recognizers.specs.Comments.{more_comments, read_after_blank, read_comments, read_cr, read_line_end, read_stop}
use Rattle.yaml_recognizers.specs.Comments.{line_end_with_stop}

-- ---- the ends of lines

-- the stop fits at the start of the text, before the rest
abbrev pub StopOf : List ℕ → Option Break → List ℕ → Type 0
StopOf text stop rest = (text ≡ optional break_text stop ++ rest) × (stop_fits stop rest ≡ true)

-- a stop that is read fits
pub stop_sound : (text : List ℕ) → Sound (StopOf text) (read_stop text)
stop_sound [] = (refl, refl)
stop_sound (c ∷ cs) =
    cond_both (c == 10) (Some (Some lf, cs)) (if c == 13 then (let r = read_cr cs in Some (Some r.0, r.1)) else None)
    (Sound (StopOf (c ∷ cs)))
    (λ e. (let i : c ≡ 10 = eqb-true c 10 e in ap (λ x. x ∷ cs) i, refl))
    (λ _. cond_both (c == 13) (let r = read_cr cs in Some (Some r.0, r.1)) None (Sound (StopOf (c ∷ cs)))
    (λ e. let i : c ≡ 13 = eqb-true c 13 e in subst (λ (x : ℕ). StopOf (x ∷ cs) (Some (read_cr cs).0) (read_cr cs).1) (sym i) (cr_sound cs))
    (λ _. tt))

-- the end of a line fits at the start of the text, before the rest
abbrev pub LineOf : Bool → List ℕ → LineEnd → List ℕ → Type 0
LineOf bol text e rest = (text ≡ line_end_text e ++ rest) × (comment_line_fits bol e rest ≡ true)

-- a line's end of parts that fit, fits
stopped_sound : (bol : Bool) (blank : List ℕ) (comment : Option (List ℕ)) (tail : List ℕ) (r : Read (Option Break))
    → list_all white blank ≡ true
    → comment_fits (bol || not (is_empty blank)) comment ≡ true → Sound (StopOf tail) r
    → Sound (LineOf bol (blank ++ (optional comment_text comment ++ tail))) (line_end_with_stop blank comment r)
stopped_sound bol blank comment tail None w c s = tt
stopped_sound bol blank comment tail (Some r) w c s =
    let e : LineEnd = record { blank = blank; comment = comment; stop = r.0 } in
    let regrouped : line_end_text e ++ r.1 ≡ blank
    ++ (optional comment_text comment ++ (optional break_text r.0 ++ r.1)) = simp append_assoc in
    cond_both (is_empty (line_end_text e)) None (Some (e, r.1)) (Sound (LineOf bol (blank ++ (optional comment_text comment ++ tail))))
    (λ _. tt)
    (λ n. (
      ap (λ t. blank ++ (optional comment_text comment ++ t)) s.0 ∙ sym regrouped,
      and_from _ _ (not_from_false _ n) (and_from _ _ (and_from _ _ w c) s.1),
    ))

-- a line's end that is read after whitespace fits
after_sound : (bol : Bool) (blank rest : List ℕ) → list_all white blank ≡ true
    → Sound (LineOf bol (blank ++ rest)) (read_after_blank bol blank rest)
after_sound bol blank [] w = stopped_sound bol blank None [] (read_stop []) w refl (stop_sound [])
after_sound bol blank (c ∷ cs) w =
    cond_both ((c == 35) && (bol || not (is_empty blank)))
    (line_end_with_stop blank (Some (take_while nb cs)) (read_stop (drop_while nb cs)))
    (line_end_with_stop blank None (read_stop (c ∷ cs)))
    (Sound (LineOf bol (blank ++ (c ∷ cs))))
    (λ h. let p : (c == 35 ≡ true) × (bol || not (is_empty blank) ≡ true) = and_parts _ _ h in
    let i : c ≡ 35 = eqb-true c 35 p.0 in
    let j : 35 ∷ (take_while nb cs ++ drop_while nb cs) ≡ c ∷ cs =
    ap (λ x. x ∷ (take_while nb cs ++ drop_while nb cs)) (sym i) ∙ ap (λ xs. c ∷ xs) (sym (take_while_split nb cs)) in
    subst (λ (t : List ℕ). Sound (LineOf bol (blank ++ t))
    (line_end_with_stop blank (Some (take_while nb cs)) (read_stop (drop_while nb cs)))) j
    (stopped_sound bol blank (Some (take_while nb cs)) (drop_while nb cs) (read_stop (drop_while nb cs)) w
    (and_from _ _ p.1 (take_while_every nb cs)) (stop_sound (drop_while nb cs))))
    (λ _. stopped_sound bol blank None (c ∷ cs) (read_stop (c ∷ cs)) w refl (stop_sound (c ∷ cs)))

-- an end of a line that is read fits
pub line_sound : (bol : Bool) (text : List ℕ) → Sound (LineOf bol text) (read_line_end bol text)
line_sound bol text =
    subst (λ (t : List ℕ). Sound (LineOf bol t) (read_line_end bol text)) (sym (take_while_split white text))
    (after_sound bol (take_while white text) (drop_while white text) (take_while_every white text))

-- ---- comments

-- the comments fit at the start of the text, before the rest
abbrev pub CommentsOf : Bool → List ℕ → List LineEnd × List ℕ → Type 0
CommentsOf bol text c = (text ≡ comments_text c.0 ++ c.1)
    × (bol || not (is_empty c.0) ≡ true → is_line_end c.1 ≡ false → canonical_comments bol c.0 c.1 ≡ true)

-- where no comment line starts, no comments are canonical
none_fit : (bol : Bool) (text : List ℕ) → bol || false ≡ true → is_line_end text ≡ false → canonical_comments bol [] text ≡ true
none_fit true text b h = not_from_false _ h
none_fit false text b h = absurd (false≢true b)

-- a first comment line and those that are read after it are canonical
more_sound : (bol : Bool) (text : List ℕ) (again : List ℕ → List LineEnd × List ℕ) (r : Read LineEnd)
    → ((rest : List ℕ) → CommentsOf true rest (again rest)) → Sound (LineOf bol text) r
    → CommentsOf bol text (more_comments text again r)
more_sound bol text again None f s = (refl, none_fit bol text)
more_sound bol text again (Some r) f s =
    let m : CommentsOf true r.1 (again r.1) = f r.1 in
    let more : List LineEnd × List ℕ = again r.1 in
    let regrouped : comments_text (r.0 ∷ more.0) ++ more.1 ≡ line_end_text r.0 ++ (comments_text more.0 ++ more.1) = simp append_assoc in (
      s.0 ∙ (ap (λ t. line_end_text r.0 ++ t) m.0 ∙ sym regrouped),
      λ _ e. comments_from bol r.0 more.0 more.1 (subst (λ (t : List ℕ). comment_line_fits bol r.0 t ≡ true) m.0 s.1) (m.1 refl e),
    )

-- comments that are read fit
pub comments_sound : (fuel : ℕ) (bol : Bool) (text : List ℕ) → CommentsOf bol text (read_comments fuel bol text)
comments_sound zero bol text = (refl, none_fit bol text)
comments_sound (suc fuel) bol text = more_sound bol text (λ rest. read_comments fuel true rest)
    (read_line_end bol text) (λ rest. comments_sound fuel true rest) (line_sound bol text)

-- so do all of them
pub all_sound : (bol : Bool) (text : List ℕ) → CommentsOf bol text (all_comments bol text)
all_sound bol text = comments_sound (suc (length text)) bol text

-- ---- where a line ends it is read

-- a line's end with a comment isn't empty
stopped_hash : (blank t : List ℕ) (r : Read (Option Break)) → is_some r ≡ true → is_some (line_end_with_stop blank (Some t) r) ≡ true
stopped_hash blank t None h = absurd (false≢true h)
stopped_hash [] t (Some r) h = refl
stopped_hash (b ∷ bs) t (Some r) h = refl

-- nor is one with a break
stopped_break : (blank : List ℕ) (b : Break) (rest : List ℕ) → is_some (line_end_with_stop blank None (Some (Some b, rest))) ≡ true
stopped_break [] lf rest = refl
stopped_break [] cr rest = refl
stopped_break [] cr_lf rest = refl
stopped_break (x ∷ xs) lf rest = refl
stopped_break (x ∷ xs) cr rest = refl
stopped_break (x ∷ xs) cr_lf rest = refl

-- where a break comes or the text ends, a stop is read
stop_some : (text : List ℕ) → stops text ≡ true → is_some (read_stop text) ≡ true
stop_some [] h = refl
stop_some (c ∷ cs) h = elim (cases_Bool (c == 10)) [
  | inl e ↦ rw e
  | inr e ↦ (let i : c == 13 ≡ true = subst (λ (b : Bool). b || (c == 13) ≡ true) e h in rw (e, i))
]

-- where a `#` comes after whitespace, a comment line is read
hash_there : (blank cs : List ℕ) → stops (drop_while nb cs) ≡ true → is_some (read_after_blank true blank (35 ∷ cs)) ≡ true
hash_there blank cs h = stopped_hash blank (take_while nb cs) (read_stop (drop_while nb cs)) (stop_some (drop_while nb cs) h)

-- where a break comes after whitespace, a line of whitespace is read
break_there : (blank : List ℕ) (c : ℕ) (cs : List ℕ) → c == 35 ≡ false → line_break c ≡ true
    → is_some (read_after_blank true blank (c ∷ cs)) ≡ true
break_there blank c cs n h = elim (cases_Bool (c == 10)) [
  | inl e ↦ rw (n, e) (stopped_break blank lf cs)
  | inr e ↦ (let i : c == 13 ≡ true = subst (λ (b : Bool). b || (c == 13) ≡ true) e h in
      rw (n, e, i) (stopped_break blank (read_cr cs).0 (read_cr cs).1))
]

-- where a comment or a stop comes after whitespace, a comment line is read
after_there : (blank rest : List ℕ) → is_empty blank && is_empty rest ≡ false
    → stops rest || (first hash rest && stops (drop_while nb (past rest))) ≡ true
    → is_some (read_after_blank true blank rest) ≡ true
after_there [] [] e h = absurd (false≢true (sym e))
after_there (b ∷ bs) [] e h = refl
after_there blank (c ∷ cs) e h = elim (cases_Bool (c == 35)) [
  | inl i ↦ (let j : c ≡ 35 = eqb-true c 35 i in
      let s : line_break 35 || ((35 == 35) && stops (drop_while nb cs)) ≡ true =
      subst (λ (x : ℕ). line_break x || ((x == 35) && stops (drop_while nb cs)) ≡ true) j h in
      subst (λ (x : ℕ). is_some (read_after_blank true blank (x ∷ cs)) ≡ true) (sym j) (hash_there blank cs s))
  | inr i ↦ break_there blank c cs i (elim (or_cases (line_break c) ((c == 35) && stops (drop_while nb cs)) h) [
    | inl l ↦ l
    | inr l ↦ absurd (false≢true (sym i ∙ (and_parts _ _ l).0))
  ])
]

-- if two parts make a text with a character, they are not both empty
both_empty : (blank rest : List ℕ) (c : ℕ) (cs : List ℕ) → c ∷ cs ≡ blank ++ rest → is_empty blank && is_empty rest ≡ false
both_empty [] [] c cs h = cc
both_empty [] (x ∷ xs) c cs h = refl
both_empty (x ∷ xs) rest c cs h = refl

-- where a comment line starts, one is read
line_there : (text : List ℕ) → is_line_end text ≡ true → is_some (read_line_end true text) ≡ true
line_there [] h = absurd (false≢true h)
line_there (c ∷ cs) h =
    after_there (take_while white (c ∷ cs)) (drop_while white (c ∷ cs))
    (both_empty (take_while white (c ∷ cs)) (drop_while white (c ∷ cs)) c cs (take_while_split white (c ∷ cs))) h

-- where none is read, no line of comments starts
pub no_line_end : (text : List ℕ) → read_line_end true text ≡ None → is_line_end text ≡ false
no_line_end text h = elim (cases_Bool (is_line_end text)) [
  | inl e ↦ absurd (false≢true (sym (ap is_some h) ∙ line_there text e))
  | inr e ↦ e
]

-- where a comment line fits, one starts
pub line_is_end : (bol : Bool) (e : LineEnd) (rest : List ℕ) → comment_line_fits bol e rest ≡ true
    → is_line_end (line_end_text e ++ rest) ≡ true
line_is_end bol e rest h = elim (cases_Bool (is_line_end (line_end_text e ++ rest))) [
  | inl i ↦ i
  | inr i ↦ absurd (none_some (e, rest) (sym (no_line bol (line_end_text e ++ rest) i) ∙ line_end_read bol e rest h))
]

-- ---- comments end where there is none

-- after the comment lines that are read no further one starts
more_end : (text : List ℕ) (again : List ℕ → List LineEnd × List ℕ) (r : Read LineEnd) → (r ≡ None → is_line_end text ≡ false)
    → Sound (λ (e : LineEnd) (rest : List ℕ). is_line_end (again rest).1 ≡ false) r → is_line_end (more_comments text again r).1 ≡ false
more_end text again None n s = n refl
more_end text again (Some r) n s = s

-- after the end of a line less is left
pub shorter : (bol : Bool) (text rest : List ℕ) (e : LineEnd) → LineOf bol text e rest → length rest < length text
shorter bol text rest e s = rw s.0 (omega (arith, line_long bol e rest s.1, length-append (line_end_text e) rest))

-- after all comments no further line starts
pub comments_end : (fuel : ℕ) (text : List ℕ) → length text < fuel → is_line_end (read_comments fuel true text).1 ≡ false
comments_end zero text l = absurd (omega arith)
comments_end (suc fuel) text l =
    more_end text (λ rest. read_comments fuel true rest) (read_line_end true text) (no_line_end text)
    (sound_to (LineOf true text) (λ e rest. is_line_end (read_comments fuel true rest).1 ≡ false)
    (read_line_end true text) (line_sound true text)
    (λ e rest s. let k : length rest < length text = shorter true text rest e s in comments_end fuel rest (omega arith)))
