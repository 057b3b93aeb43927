-- Steps of the writing, one after another.
use Rattle.std.proofs.{Common.{◌≡◌, refl, sym, ◌∙◌, ap, ap₂, subst, append_assoc, Bor}, lemmas.{List.Folds.list_all-append, Bool.and_parts}}
use Rattle.std.specs.{Prelude.{ℕ, true, List, [], ◌∷◌, ◌++◌, encode_utf8_all, string_bytes, flat_map, drop}, List.list_all}
use Rattle.{yaml_writer.specs.Encoded.{encoded_both, encoded_none}, yaml_chars.specs.Classes.nb, yaml_commented.specs.Trails.Trail}
use Rattle.yaml_commented.specs.{Trails.{trail_comments, trail_text}, Commented.{next_trail, later_trails}, TrailsFit.trail_fits}
use Rattle.comments_kept.specs.{declared.weaver.{Placed.Placed, Weaver.Weaver}, Weaving.{kept_texts, texts_of, left, AreTrails, Woven}}
use Rattle.comments_kept.specs.{Weaving.{Wrote, WovenEnd, WovenLine, left_marks, coming}, Places.{Mark, marks_of}, Laid.{Below, Coming}}
use Rattle.comments_kept.specs.Laid.{next, trail_at, trails_at, behind_all}

-- nothing is put before nothing
pub first_none : {A : Type 0} → (xs ys : List A) → xs ++ ys ≡ [] → xs ≡ []
first_none [] ys e = refl
first_none (x ∷ xs) ys e = cc

-- nothing comes behind nothing
pub last_none : {A : Type 0} → (xs ys : List A) → xs ++ ys ≡ [] → ys ≡ []
last_none [] ys e = e
last_none (x ∷ xs) ys e = cc

-- the comments of more
pub texts-append : (xs ys : List Placed) → texts_of (xs ++ ys) ≡ texts_of xs ++ texts_of ys
texts-append [] ys = refl
texts-append (x ∷ xs) ys =
    ap (λ ts. kept_texts x.kept ++ ts) (texts-append xs ys) ∙ sym (append_assoc (kept_texts x.kept) (texts_of xs) (texts_of ys))

-- those of both parts are on lines
pub both_on_lines : (xs ys : List Placed) → list_all (list_all nb) (texts_of (xs ++ ys)) ≡ true
    → (list_all (list_all nb) (texts_of xs) ≡ true) × (list_all (list_all nb) (texts_of ys) ≡ true)
both_on_lines xs ys fit = and_parts (list_all (list_all nb) (texts_of xs)) (list_all (list_all nb) (texts_of ys))
    (sym (list_all-append (list_all nb) (texts_of xs) (texts_of ys)) ∙ ap (list_all (list_all nb)) (sym (texts-append xs ys)) ∙ fit)

-- nothing is left out between two weavers
pub kept : (a b : Weaver) → b.kept ≡ a.kept → b.taken ≡ a.taken → left a ≡ left b
kept a b same taken = ap₂ (λ (ps : Bor (List Placed)) (n : ℕ). drop n ps.now) (sym same) (sym taken)

-- what is to come, by its parts
pub coming_by : (a : Weaver) (s : Coming) → a.place ≡ s.place → left_marks a ≡ s.marks → coming a ≡ s
coming_by a s here marks = ap₂ (λ (place : ℕ) (marks : List Mark). let s : Coming = record { place = place; marks = marks } in s) here marks

-- the same is to come
pub coming_kept : (a b : Weaver) → b.kept ≡ a.kept → b.taken ≡ a.taken → b.place ≡ a.place → coming b ≡ coming a
coming_kept a b same taken here = coming_by b (coming a) here (ap marks_of (sym (kept a b same taken)))

-- what is to come behind more lines
pub behind-append : (bs cs : List Below) (s : Coming) → behind_all (bs ++ cs) s ≡ behind_all cs (behind_all bs s)
behind-append [] cs s = refl
behind-append (b ∷ bs) cs s = behind-append bs cs (next b s)

-- the trails of more lines
pub trails-append : (bs cs : List Below) (s : Coming)
    → trails_at (bs ++ cs) s ≡ trails_at bs s ++ trails_at cs (behind_all bs s)
trails-append [] cs s = refl
trails-append (b ∷ bs) cs s = ap (λ ws. trail_at b s ∷ ws) (trails-append bs cs (next b s))

-- a text without trails
pub plain : (cs : List ℕ) (a b : Weaver) → Wrote a cs b
    → Woven (λ ws. cs) (λ ws. ws) (λ ws. Unit {0}) [] a b
plain cs a b w = record {
  used = [];
  taken = kept a b w.1 w.2;
  goes = coming_kept a b w.1 w.2 w.3;
  trails = λ fit us. record {
    trails = us;
    exact = refl;
    spells = w.0;
    leaves = refl;
    meets = tt;
    comments = refl;
    bare = λ none bare. bare;
  };
}

module _ (P Q : List Trail → List ℕ) (f h : List Trail → List Trail) (F H : List Trail → Type 0) where
  -- one part and then another
  pub both : {bs cs : List Below} (a b c : Weaver) → Woven P f F bs a b → Woven Q h H cs b c
      → Woven (λ ws. P ws ++ Q (f ws)) (λ ws. h (f ws)) (λ ws. F ws × H (f ws)) (bs ++ cs) a c
  both {bs} {cs} a b c x y = record {
    used = x.used ++ y.used;
    goes = y.goes ∙ ap (behind_all cs) x.goes ∙ sym (behind-append bs cs (coming a));
    taken = x.taken ∙ ap (λ ps. x.used ++ ps) y.taken ∙ sym (append_assoc x.used y.used (left c));
    trails = λ fit us.
        let parts = both_on_lines x.used y.used fit in
        let those : List Trail = trails_at bs (coming a) in
        let others : List Trail = trails_at cs (coming b) in
        let later : AreTrails Q h H (string_bytes b.text) (string_bytes c.text) y.used others us = y.trails parts.1 us in
        let here : AreTrails P f F (string_bytes a.text) (string_bytes b.text) x.used those later.trails =
        x.trails parts.0 later.trails in
        record {
          trails = here.trails;
          exact = here.exact ∙ ap (λ ws. those ++ ws) later.exact ∙ sym (append_assoc those others us)
              ∙ ap (λ s. those ++ trails_at cs s ++ us) x.goes ∙ ap (λ ws. ws ++ us) (sym (trails-append bs cs (coming a)));
          spells = encoded_both (string_bytes a.text) (string_bytes b.text) (string_bytes c.text) (P here.trails) (Q (f here.trails))
              here.spells (later.spells ∙ ap (λ ws. string_bytes b.text ++ encode_utf8_all (Q ws)) (sym here.leaves));
          leaves = ap h here.leaves ∙ later.leaves;
          meets = (here.meets, subst H (sym here.leaves) later.meets);
          comments = here.comments ∙ ap (λ ts. texts_of x.used ++ ts) later.comments
              ∙ sym (append_assoc (texts_of x.used) (texts_of y.used) (flat_map trail_comments us))
              ∙ ap (λ ts. ts ++ flat_map trail_comments us) (sym (texts-append x.used y.used));
          bare = λ none bare. here.bare (first_none x.used y.used none) (later.bare (last_none x.used y.used none) bare);
        };
  }

  -- the same part, said otherwise
  pub said : {bs : List Below} (a b : Weaver) → ((ws : List Trail) → P ws ≡ Q ws) → ((ws : List Trail) → f ws ≡ h ws)
      → ((ws : List Trail) → F ws → H ws) → Woven P f F bs a b → Woven Q h H bs a b
  said {bs} a b texts lefts meets x = record {
    used = x.used;
    taken = x.taken;
    goes = x.goes;
    trails = λ fit us.
        let it : AreTrails P f F (string_bytes a.text) (string_bytes b.text) x.used (trails_at bs (coming a)) us = x.trails fit us in
        record {
          trails = it.trails;
          exact = it.exact;
          spells = it.spells ∙ ap (λ cs. string_bytes a.text ++ encode_utf8_all cs) (texts it.trails);
          leaves = sym (lefts it.trails) ∙ it.leaves;
          meets = meets it.trails it.meets;
          comments = it.comments;
          bare = it.bare;
        };
  }

-- a text, and the end of its line
pub line : (cs : List ℕ) (a b c : Weaver) → Wrote a cs b → WovenEnd b c → WovenLine cs a c
line cs a b c w e =
    said (λ ws. cs ++ trail_text (next_trail ws)) (λ ws. cs ++ trail_text (next_trail ws)) later_trails later_trails
    (λ ws. Unit {0} × (trail_fits (next_trail ws) ≡ true)) (λ ws. trail_fits (next_trail ws) ≡ true) a c
    (λ ws. refl) (λ ws. refl) (λ ws h. h.1)
    (both (λ ws. cs) (λ ws. trail_text (next_trail ws)) (λ ws. ws) later_trails (λ ws. Unit {0})
    (λ ws. trail_fits (next_trail ws) ≡ true) a b c (plain cs a b w) e)

-- nothing is written
pub nothing : (a : Weaver) → Woven (λ ws. []) (λ ws. ws) (λ ws. Unit {0}) [] a a
nothing a = plain [] a a (encoded_none (string_bytes a.text), refl, refl, refl)

-- one text after another
pub wrote_both : (a b c : Weaver) (xs ys : List ℕ) → Wrote a xs b → Wrote b ys c → Wrote a (xs ++ ys) c
wrote_both a b c xs ys x y =
    (encoded_both (string_bytes a.text) (string_bytes b.text) (string_bytes c.text) xs ys x.0 y.0, y.1 ∙ x.1, y.2 ∙ x.2, y.3 ∙ x.3)
