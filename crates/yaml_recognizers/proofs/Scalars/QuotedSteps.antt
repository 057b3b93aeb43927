-- The recognizer of what is between quotes, a step at a time: what it gives of a text by what it gives of the text
-- after one thing, after a run of things, or after a join. A scanner's loop goes by these.
use Rattle.std.{proofs.Common.{◌≡◌, refl, sym, ◌∙◌, ap, append_assoc, length-append, arith}, specs.Prelude.{ℕ, Bool, true, false, cond}}
use Rattle.std.specs.Prelude.{not, ◌&&◌, ◌||◌, List, [], ◌∷◌, ◌++◌, flat_map, Some, None, if◌then◌else◌}
use Rattle.yaml_recognizers.proofs.Prelude.{list_all, and_parts, false≢true, cond-true, cond-false, is_empty, FlowContext, one_line, Line}
use Rattle.yaml_recognizers.proofs.{Prelude.{Kind, line_text, line_value, ends, values}, Basics.{Reading.sound_is, Repeated.Shrinks}}
use Rattle.yaml_recognizers.proofs.{Basics.Repeated.{all_none, all_some}, Scalars.QuotedScalars.{Readable, LineOf, longer, held_next}}
use Rattle.yaml_recognizers.{proofs.Scalars.QuotedScalars.{held_sound, quoted_line_sound, lines_long}, specs.{Prefixes.past, Reading.Read}}
use Rattle.yaml_recognizers.specs.{Reading.on, Repeated.all_of, Joins.{Join, line_of, at_break, read_join}, QuotedScalars.read_held}
use Rattle.yaml_recognizers.specs.QuotedScalars.{line_things, read_quoted_line, apart, read_closing_quote, further, read_quoted}
use Rattle.yaml_recognizers.specs.QuotedSteps.{read_after_join, with_thing, with_things, with_join, quoted_value, with_prefix, join_value}

-- ---- values

-- the value with one thing more
pub value_of_thing : {A : Type 0} (value : A → ℕ) (a : A) (r : Read (List A × List (Line A)))
    → quoted_value value (with_thing a r) ≡ with_prefix (value a ∷ []) (quoted_value value r)
value_of_thing value a None = refl
value_of_thing value a (Some r) = refl

-- the values of two lists, joined, are those of each, joined
values-append : {A : Type 0} (value : A → ℕ) (xs ys : List A) → values value (xs ++ ys) ≡ values value xs ++ values value ys
values-append value [] ys = refl
values-append value (x ∷ xs) ys = ap (λ v. value x ∷ v) (values-append value xs ys)

-- the value with several things more
pub value_of_things : {A : Type 0} (value : A → ℕ) (xs : List A) (r : Read (List A × List (Line A)))
    → quoted_value value (with_things xs r) ≡ with_prefix (values value xs) (quoted_value value r)
value_of_things value xs None = refl
value_of_things value xs (Some r) =
    ap (λ (v : List ℕ). Some (v, r.1)) (ap (λ v. v ++ flat_map (line_value value) r.0.1)
    (values-append value xs r.0.0) ∙ append_assoc (values value xs) (values value r.0.0) _)

-- the value with a join more
pub value_of_join : {A : Type 0} (value : A → ℕ) (j : Join) (r : Read (List A × List (Line A)))
    → quoted_value value (with_join j r) ≡ with_prefix (join_value j) (quoted_value value r)
value_of_join value j None = refl
value_of_join value j (Some r) =
    ap (λ (v : List ℕ). Some (v, r.1)) (append_assoc (join_value j) (values value r.0.0) _)

module _ {A : Type 0} (kind : Kind A) (holds : A → Bool) (escapes : Bool) (read_one : List ℕ → Read A)
    (readable : Readable kind holds escapes read_one)
    (closes : List ℕ → Bool) (n : ℕ) (c : FlowContext) where
  held_shrinks : Shrinks (read_held read_one)
  held_shrinks text a rest h =
      let o = held_sound kind holds escapes read_one readable text a rest h in
      rw o.1.0 (omega (arith, readable.long a, length-append (kind.spell a) rest))

  line_shrinks : Shrinks (read_quoted_line read_one escapes n)
  line_shrinks text l rest h =
      let o : LineOf kind holds escapes read_one readable n text l rest =
      sound_is (LineOf kind holds escapes read_one readable n text) (read_quoted_line read_one escapes n text)
      (l, rest) (quoted_line_sound kind holds escapes read_one readable n text) h in
      rw o.spells (omega (
        arith,
        lines_long kind holds escapes read_one readable (l ∷ []),
        length-append (line_text kind.spell l) rest,
        length-append (line_text kind.spell l) [],
      ))

  -- ---- one thing

  thing_more : (a : A) (prefix : List A) (more : List (Line A) × List ℕ)
      → read_closing_quote closes (a ∷ prefix) more ≡ with_thing a (read_closing_quote closes prefix more)
  thing_more a prefix more = both (closes more.1 && apart more.0)
    where
      both : (b : Bool) → cond b (Some ((a ∷ prefix, more.0), past more.1)) None
          ≡ with_thing a (cond b (Some ((prefix, more.0), past more.1)) None)
      both true = refl
      both false = refl

  -- one thing is read, and then what comes after it
  pub step_thing : (text : List ℕ) (a : A) (t : List ℕ) → read_held read_one text ≡ Some (a, t)
      → read_quoted read_one closes escapes n c text ≡ with_thing a (read_quoted read_one closes escapes n c t)
  unfolding read_quoted
  step_thing text a t h =
      ap (λ (f : List A × List ℕ). read_closing_quote closes f.0 (further read_one escapes n c f.1))
      (all_some (read_held read_one) held_shrinks text a t h)
      ∙ thing_more a (line_things read_one t).0 (further read_one escapes n c (line_things read_one t).1)

  -- a run of things, of which the last is no white before a break
  pub step_things : (xs : List A) (t : List ℕ) → list_all holds xs ≡ true → (ends kind.blank xs ≡ true → at_break t ≡ false)
      → read_quoted read_one closes escapes n c (flat_map kind.spell xs ++ t) ≡ with_things xs (read_quoted read_one closes escapes n c t)
  step_things [] t h f = none (read_quoted read_one closes escapes n c t)
    where
      none : (r : Read (List A × List (Line A))) → r ≡ with_things [] r
      none None = refl
      none (Some r) = refl
  step_things (x ∷ xs) t h f =
      let rest : List ℕ = flat_map kind.spell xs ++ t in
      ap (read_quoted read_one closes escapes n c) (append_assoc (kind.spell x) (flat_map kind.spell xs) t)
      ∙ (step_thing (kind.spell x ++ rest) x rest (held_next kind holds escapes read_one readable x xs t h f)
      ∙ (ap (with_thing x) (step_things xs t (and_parts _ _ h).1 (λ i. f (longer kind holds escapes read_one readable x xs i)))
      ∙ both (read_quoted read_one closes escapes n c t)))
    where
      both : (r : Read (List A × List (Line A))) → with_thing x (with_things xs r) ≡ with_things (x ∷ xs) r
      both None = refl
      both (Some r) = refl

  -- ---- the closing quote

  nothing_held : (text : List ℕ) → read_held read_one text ≡ None
      → read_quoted read_one closes escapes n c text ≡ read_closing_quote closes [] (further read_one escapes n c text)
  unfolding read_quoted
  nothing_held text h = ap (λ (f : List A × List ℕ). read_closing_quote closes f.0 (further read_one escapes n c f.1))
      (all_none (read_held read_one) text h)

  no_line : (text : List ℕ) → read_join escapes n text ≡ None → further read_one escapes n c text ≡ ([], text)
  unfolding read_quoted_line
  no_line text j = by_line (one_line c)
    where
      line : read_quoted_line read_one escapes n text ≡ None
      line = ap (λ (r : Read Join). on r (λ j rest. let held = line_things read_one rest in Some (line_of j held.0, held.1))) j

      by_line : (b : Bool) → cond b ([], text) (all_of (read_quoted_line read_one escapes n) text) ≡ ([], text)
      by_line true = refl
      by_line false = all_none (read_quoted_line read_one escapes n) text line

  -- if it is there, everything is read
  pub step_close : (text : List ℕ) → read_held read_one text ≡ None → read_join escapes n text ≡ None → closes text ≡ true
      → read_quoted read_one closes escapes n c text ≡ Some (([], []), past text)
  step_close text h j e =
      nothing_held text h ∙ (ap (read_closing_quote closes []) (no_line text j) ∙ rw e refl)

  -- if neither it nor a join is there, nothing is read
  pub step_fault : (text : List ℕ) → read_held read_one text ≡ None → read_join escapes n text ≡ None → closes text ≡ false
      → read_quoted read_one closes escapes n c text ≡ None
  step_fault text h j e =
      nothing_held text h ∙ (ap (read_closing_quote closes []) (no_line text j) ∙ rw e refl)

  -- nor after one line of a key
  pub step_key : (text : List ℕ) → read_held read_one text ≡ None → one_line c ≡ true → closes text ≡ false
      → read_quoted read_one closes escapes n c text ≡ None
  step_key text h k e =
      nothing_held text h ∙ (ap (read_closing_quote closes []) (cond-true (one_line c) _ _ k) ∙ rw e refl)

  -- ---- a join

  checked : List A × List (Line A) → List ℕ → Read (List A × List (Line A))
  checked found rest = if is_empty found.1 || not (is_empty found.0) then Some (found, rest) else None

  join_more : (j : Join) (held : List A) (more : List (Line A) × List ℕ)
      → read_closing_quote closes [] (line_of j held ∷ more.0, more.1)
      ≡ with_join j (on (read_closing_quote closes held more) (λ found rest. checked found rest))
  unfolding checked
  join_more j held more = both (closes more.1) (apart more.0)
    where
      last : (y : Bool) → cond (y && true) (Some (([], line_of j held ∷ more.0), past more.1)) None
          ≡ with_join j (cond y (Some ((held, more.0), past more.1)) None)
      last true = refl
      last false = refl

      never : (y : Bool) → ◌≡◌ {A = Read (List A × List (Line A))}
          (cond (y && false) (Some (([], line_of j held ∷ more.0), past more.1)) None) None
      never true = refl
      never false = refl

      both : (x z : Bool) → cond (x && ((is_empty more.0 || not (is_empty held)) && z))
          (Some (([], line_of j held ∷ more.0), past more.1)) None
          ≡ with_join j (on (cond (x && z) (Some ((held, more.0), past more.1)) None) (λ found rest. checked found rest))
      both true true = last (is_empty more.0 || not (is_empty held))
      both true false = never (is_empty more.0 || not (is_empty held))
      both false z = refl

  line_there : (text : List ℕ) (j : Join) (t : List ℕ) → read_join escapes n text ≡ Some (j, t)
      → read_quoted_line read_one escapes n text ≡ Some (line_of j (line_things read_one t).0, (line_things read_one t).1)
  unfolding read_quoted_line
  line_there text j t e = ap (λ (r : Read Join). on r (λ j rest. let held = line_things read_one rest in Some (line_of j held.0, held.1))) e

  further_there : (text : List ℕ) → one_line c ≡ false
      → further read_one escapes n c text ≡ all_of (read_quoted_line read_one escapes n) text
  further_there text k = cond-false (one_line c) ([], text) (all_of (read_quoted_line read_one escapes n) text) k

  -- a join is read, and then what comes after it
  pub step_join : (text : List ℕ) (j : Join) (t : List ℕ) → read_held read_one text ≡ None → one_line c ≡ false
      → read_join escapes n text ≡ Some (j, t)
      → read_quoted read_one closes escapes n c text ≡ with_join j (read_after_join read_one closes escapes n c t)
  unfolding read_quoted read_after_join checked
  step_join text j t h k e =
      let held : List A × List ℕ = line_things read_one t in
      let lines : all_of (read_quoted_line read_one escapes n) text
      ≡ (
        line_of j held.0 ∷ (all_of (read_quoted_line read_one escapes n) held.1).0,
        (all_of (read_quoted_line read_one escapes n) held.1).1,
      ) =
      all_some (read_quoted_line read_one escapes n) line_shrinks text (line_of j held.0) held.1 (line_there text j t e) in
      nothing_held text h
      ∙ (ap (read_closing_quote closes []) (further_there text k ∙ lines)
      ∙ (join_more j held.0 (all_of (read_quoted_line read_one escapes n) held.1)
      ∙ ap (λ (m : List (Line A) × List ℕ). with_join j
      (on (read_closing_quote closes held.0 m) (λ found rest. checked found rest))) (sym (further_there held.1 k))))

  -- ---- after a join

  -- if something is there, reading goes on as in a line
  pub after_thing : (text : List ℕ) (a : A) (t : List ℕ) → read_held read_one text ≡ Some (a, t)
      → read_after_join read_one closes escapes n c text ≡ read_quoted read_one closes escapes n c text
  unfolding read_after_join checked
  after_thing text a t h =
      ap (λ (r : Read (List A × List (Line A))). on r (λ found rest. checked found rest)) (step_thing text a t h)
      ∙ (both (read_quoted read_one closes escapes n c t) ∙ sym (step_thing text a t h))
    where
      any : (b : Bool) (found : List A × List (Line A)) (rest : List ℕ)
          → ◌≡◌ {A = Read (List A × List (Line A))} (cond (b || true) (Some (found, rest)) None) (Some (found, rest))
      any true found rest = refl
      any false found rest = refl

      both : (r : Read (List A × List (Line A))) → on (with_thing a r) (λ found rest. checked found rest) ≡ with_thing a r
      both None = refl
      both (Some r) = any (is_empty r.0.1) (a ∷ r.0.0, r.0.1) r.1

  -- where the closing quote is there too
  pub after_close : (text : List ℕ) → read_held read_one text ≡ None → read_join escapes n text ≡ None → closes text ≡ true
      → read_after_join read_one closes escapes n c text ≡ Some (([], []), past text)
  unfolding read_after_join
  after_close text h j e =
      ap (λ (r : Read (List A × List (Line A))).
      on r (λ found rest. if is_empty found.1 || not (is_empty found.0) then Some (found, rest) else None))
      (step_close text h j e)

  -- else nothing is read: no join comes after a join
  further_prefix : (text : List ℕ) → closes text ≡ false → is_empty (further read_one escapes n c text).0 ≡ true
      → closes (further read_one escapes n c text).1 ≡ false
  further_prefix text e = by_line (one_line c)
    where
      line : (r : Read (Line A)) → read_quoted_line read_one escapes n text ≡ r
          → is_empty (all_of (read_quoted_line read_one escapes n) text).0 ≡ true
          → closes (all_of (read_quoted_line read_one escapes n) text).1 ≡ false
      line None q i = ap (λ (m : List (Line A) × List ℕ). closes m.1) (all_none (read_quoted_line read_one escapes n) text q) ∙ e
      line (Some r) q i =
          absurd (false≢true (sym (ap (λ (m : List (Line A) × List ℕ). is_empty m.0)
          (all_some (read_quoted_line read_one escapes n) line_shrinks text r.0 r.1 q)) ∙ i))

      by_line : (b : Bool) → let m = cond b ([], text) (all_of (read_quoted_line read_one escapes n) text) in
          is_empty m.0 ≡ true → closes m.1 ≡ false
      by_line true i = e
      by_line false i = line (read_quoted_line read_one escapes n text) refl i

  refused : (ls : List (Line A)) (rest : List ℕ) → (is_empty ls ≡ true → closes rest ≡ false)
      → on (read_closing_quote closes [] (ls, rest)) (λ found rest'. checked found rest') ≡ None
  unfolding checked
  refused [] rest f = ap (λ b. on (cond (b && true) (Some (([], []), past rest)) None) (λ found rest'. checked found rest')) (f refl)
  refused (l ∷ ls) rest f = never (closes rest && apart (l ∷ ls))
    where
      never : (b : Bool) → on (cond b (Some (([], l ∷ ls), past rest)) None) (λ found rest'. checked found rest') ≡ None
      never true = refl
      never false = refl

  -- if after a join nothing can be read, nothing is
  pub after_fault : (text : List ℕ) → read_held read_one text ≡ None → closes text ≡ false
      → read_after_join read_one closes escapes n c text ≡ None
  unfolding read_after_join checked
  after_fault text h e =
      let m : List (Line A) × List ℕ = further read_one escapes n c text in
      ap (λ (r : Read (List A × List (Line A))). on r (λ found rest. checked found rest)) (nothing_held text h)
      ∙ refused m.0 m.1 (further_prefix text e)
