-- What a command document says, case by case.
use Rattle.std.{proofs.Common.{◌≡◌, false, true, length, get_or, refl, sym, ap, subst, ◌∙◌, arith}, specs.Prelude.{ℕ, Bool, if◌then◌else◌}}
use Rattle.std.specs.Prelude.{◌==◌, not, ◌&&◌, ◌||◌, List, [], ◌∷◌, ◌++◌, codes, Option, Some, None, is_some, option_and_then}
use Rattle.conf_session.proofs.Prelude.{chars, same_text, Pair, members_of, text_bytes, Elements, Members, text, sequence, mapping, Edit}
use Rattle.conf_session.proofs.Prelude.{Tree, no_member, member, with_last, pairs-last, AreKept, fault_of, false≢true, tree_of, Condition}
use Rattle.conf_session.proofs.Prelude.{has_key, members_distinct, distinct, and_parts, and_from, not-true, not_from_false, eqb-true}
use Rattle.conf_session.proofs.Prelude.{eqb-false, eq-eqb, ne_eqb, Limits, IsAbout, AdmitsAbouts, about-good}
use Rattle.conf_session.{proofs.Prelude.{keys_are, values, edit_under, ascii, texts}, specs.Said.{as_part, nothing, said_by, part_from}}
use Rattle.conf_session.specs.Said.{part_said, batch_keys, get_keys, export_keys, names_keys, checkpoint_keys, batch_said, get_said}
use Rattle.conf_session.specs.Said.{last_about, without_last, about_said, said_before, command_said, conditional, noted_said, change_seen}
use Rattle.conf_session.specs.Said.{with_about, export_said, names_said, checkpoint_said, begins_with_if, conditional_said, change_said}
use Rattle.conf_session.specs.{Said.{Said, with_conditions}, SaidConditions.conditions_in}
use Rattle.conf_session.specs.declared.said.Change as code_change
use Rattle.conf_session.specs.declared.said.Change.TheVariants as changes

-- a text says nothing
pub said-text : (value : List ℕ) → said_by (text value) ≡ nothing
unfolding said_by
said-text value = refl

-- a sequence says nothing
pub said-sequence : (ts : Elements) → said_by (sequence ts) ≡ nothing
unfolding said_by
said-sequence ts = refl

-- a mapping says what it says as a command, without an about or with one
pub said-before : (ms : Members) → said_by (mapping ms) ≡ said_before (last_about ms) ms
unfolding said_by
said-before ms = refl

-- a command says what its keys are those of
pub command-mapping : (ms : Members) {b0 b1 b2 b3 b4 b5 : Bool} → keys_are batch_keys ms ≡ b0 → keys_are get_keys ms ≡ b1
    → keys_are export_keys ms ≡ b2 → keys_are names_keys ms ≡ b3 → keys_are checkpoint_keys ms ≡ b4 → begins_with_if ms ≡ b5
    → command_said ms
    ≡ (if b0 then batch_said (values ms) else if b1 then get_said (values ms) else if b2 then export_said (values ms)
    else if b3 then names_said (values ms) else if b4 then checkpoint_said (values ms) else if b5 then conditional_said ms
    else part_said (part_from ms))
unfolding command_said
command-mapping ms e0 e1 e2 e3 e4 e5 = rw (e0, e1, e2, e3, e4, e5) refl

-- ---- a command with an about

-- a mapping without an about is a command
pub said-without : (ms : Members) → last_about ms ≡ None → said_by (mapping ms) ≡ command_said ms
said-without ms none = said-before ms ∙ ap (λ o. said_before o ms) none

-- a member before others is not the last
pub none-before : (key : List ℕ) (t : Tree) (ms : Members) → same_text key (codes "about") ≡ false → last_about ms ≡ None
    → last_about (member key t ms) ≡ None
none-before key t no_member other none = rw other refl
none-before key t (member another u ms) other none = none

-- what is under the last key
pub about-last : (ms : Members) (key : List ℕ) (t : Tree)
    → last_about (with_last ms key t) ≡ (if same_text key (codes "about") then Some t else None)
about-last no_member key t = refl
about-last (member other u no_member) key t = refl
about-last (member other u (member another v ms)) key t = about-last (member another v ms) key t

-- what is before it
pub without-end : (ms : Members) (key : List ℕ) (t : Tree) → without_last (with_last ms key t) ≡ ms
without-end no_member key t = refl
without-end (member other u no_member) key t = refl
without-end (member other u (member another v ms)) key t = ap (member other u) (without-end (member another v ms) key t)

-- the values before the last
pub kept-before : (ms : Members) (key : List ℕ) (t : Tree) → AreKept (values (with_last ms key t)) → AreKept (values ms)
kept-before no_member key t kept = tt
kept-before (member other u ms) key t kept = (kept.0, kept-before ms key t kept.1)

-- a test by itself
pub some-if : (b : Bool) (t : Tree) → b ≡ is_some (if b then Some t else None)
some-if true t = refl
some-if false t = refl

-- what is there is there
pub none-there : {A : Type 0} (o : Option A) → is_some o ≡ false → o ≡ None
none-there None e = refl
none-there (Some x) e = cc

-- a last key that is `about` has an about, or a tree that is none
pub said-last : (ms : Members) (key : List ℕ) (t : Tree) → is_some (last_about (with_last ms key t)) ≡ true
    → said_by (mapping (with_last ms key t)) ≡ about_said (fault_of t) t (command_said ms)
said-last ms key t some = by (same_text key (codes "about")) (about-last ms key t)
  where
    whole : Members
    whole = with_last ms key t

    by : (b : Bool) → last_about whole ≡ (if b then Some t else None)
        → said_by (mapping whole) ≡ about_said (fault_of t) t (command_said ms)
    by true there =
        said-before whole ∙ ap (λ o. said_before o whole) there
        ∙ ap (λ l. about_said (fault_of t) t (command_said l)) (without-end ms key t)
    by false none = absurd (false≢true (sym (ap is_some none) ∙ some))

-- a command that has one says what it does, with the about
pub said-noted : (ms : Members) (about : Tree) → fault_of about ≡ None
    → said_by (mapping (with_last ms (codes "about") about)) ≡ with_about about (command_said ms)
said-noted ms about none =
    said-last ms (codes "about") about (ap is_some (about-last ms (codes "about") about))
    ∙ ap (λ o. about_said o about (command_said ms)) none

module _ (all before : List Pair) (p : Pair) (cut : all ≡ before ++ p ∷ []) where
  -- pairs of which the last is cut off
  ended : members_of all ≡ with_last (members_of before) (chars (text_bytes p.0)) (tree_of p.1)
  ended = ap members_of cut ∙ pairs-last before p (chars (text_bytes p.0)) (tree_of p.1) refl

  pub about-cut : last_about (members_of all)
      ≡ (if same_text (chars (text_bytes p.0)) (codes "about") then Some (tree_of p.1) else None)
  about-cut = ap last_about ended ∙ about-last (members_of before) (chars (text_bytes p.0)) (tree_of p.1)

  pub kept-cut : AreKept (values (members_of all)) → AreKept (values (members_of before))
  kept-cut kept = kept-before (members_of before) (chars (text_bytes p.0)) (tree_of p.1)
      (subst (λ ms. AreKept (values ms)) ended kept)

  pub said-cut : is_some (last_about (members_of all)) ≡ true
      → said_by (mapping (members_of all)) ≡ about_said (fault_of (tree_of p.1)) (tree_of p.1) (command_said (members_of before))
  said-cut some =
      ap (λ ms. said_by (mapping ms)) ended
      ∙ said-last (members_of before) (chars (text_bytes p.0)) (tree_of p.1)
      (ap (λ ms. is_some (last_about ms)) (sym ended) ∙ some)

-- a part or a batch with conditions gets an about behind them
pub with-change : (conditions : List Condition) (about : Tree) (change : code_change.Change)
    → conditional conditions (noted_said about (change_seen change)) ≡ with_about about (conditional conditions (change_seen change))
with-change conditions about (changes.Single part) = refl
with-change conditions about (changes.Batch parts) = refl

-- ---- a command with conditions

-- a mapping with the key of a `batch` is one
pub change-batch : (ms : Members) → keys_are batch_keys ms ≡ true → change_said ms ≡ batch_said (values ms)
change-batch ms e = rw e refl

-- any other is what it is as a part
pub change-part : (ms : Members) → keys_are batch_keys ms ≡ false → change_said ms ≡ part_said (part_from ms)
change-part ms e = rw e refl

-- the first key, by the first pair
pub first-if : (ps : List Pair) (p : Pair) → (length ps ≡ 0 → ⊥)
    → begins_with_if (members_of ps) ≡ same_text (chars (text_bytes (get_or ps 0 p).0)) (codes "if")
first-if [] p some = absurd (some refl)
first-if (q ∷ qs) p some = refl

-- a command that changes configurations, after conditions
pub after-if : (t : Tree) (ms : Members) (cs : List Condition) (change : Said) → conditions_in t ≡ Some cs → change ≡ change_said ms
    → with_conditions (Some cs) change ≡ command_said (member (codes "if") t ms)
unfolding command_said
after-if t ms cs change read within = λ i. with_conditions (sym read i) (within i)

-- ---- keys

same-swap : (xs ys : List ℕ) → same_text xs ys ≡ same_text ys xs
same-swap [] [] = refl
same-swap [] (y ∷ ys) = refl
same-swap (x ∷ xs) [] = refl
same-swap (x ∷ xs) (y ∷ ys) = λ i. swap x y i && same-swap xs ys i
  where
    swap : (x y : ℕ) → (x == y) ≡ (y == x)
    swap x y = by (x == y) refl
      where
        by : (b : Bool) → (x == y) ≡ b → (x == y) ≡ (y == x)
        by true e = e ∙ sym (eq-eqb y x (sym (eqb-true x y e)))
        by false e = e ∙ sym (ne_eqb y x (λ same. eqb-false x y e (sym same)))

neither : (a b : Bool) → a || b ≡ false → (a ≡ false) × (b ≡ false)
neither true b e = absurd (false≢true (sym e))
neither false b e = (refl, e)

-- where no key is `about`, there is no about
pub none-about : (ms : Members) → has_key (codes "about") ms ≡ false → last_about ms ≡ None
none-about no_member e = refl
none-about (member key t no_member) e =
    let other : same_text key (codes "about") ≡ false =
    same-swap key (codes "about") ∙ (neither (same_text (codes "about") key) false e).0 in
    rw other refl
none-about (member key t (member other u ms)) e =
    none-about (member other u ms) (neither (same_text (codes "about") key) (has_key (codes "about") (member other u ms)) e).1

-- another key at the end
pub has-last : (ms : Members) (key other : List ℕ) (t : Tree) → has_key key ms ≡ false → same_text key other ≡ false
    → has_key key (with_last ms other t) ≡ false
has-last no_member key other t none apart = rw apart refl
has-last (member another u ms) key other t none apart =
    let parts = neither (same_text key another) (has_key key ms) none in
    rw (parts.0) (has-last ms key other t parts.1 apart)

pub distinct-last : (ms : Members) (key : List ℕ) (t : Tree) → members_distinct ms ≡ true → has_key key ms ≡ false → distinct t ≡ true
    → members_distinct (with_last ms key t) ≡ true
distinct-last no_member key t differ none own = rw own refl
distinct-last (member other u ms) key t differ none own =
    let parts = and_parts (not (has_key other ms) && distinct u) (members_distinct ms) differ in
    let here = and_parts (not (has_key other ms)) (distinct u) parts.0 in
    let apart = neither (same_text key other) (has_key key ms) none in
    let still = has-last ms other key t (not-true _ here.0) (same-swap other key ∙ apart.0) in
    and_from _ _ (and_from _ _ (not_from_false _ still) here.1) (distinct-last ms key t parts.1 apart.1 own)

-- the keys of an about differ
pub about-distinct : (about : Tree) → IsAbout about → distinct about ≡ true
about-distinct about is = (about-good about limits is admits).keys
  where
    limits : Limits
    limits = record { bytes = 4096; depth = 2; style = 4096 }

    admits : AdmitsAbouts limits
    admits = record { bytes = omega arith; depth = omega arith; style = omega arith }

-- ---- parts

-- a mapping is the part that its edit is
pub part_read : (ms : Members) (read : Option Edit) → read ≡ edit_under (codes "text") ms → option_and_then as_part read ≡ part_from ms
unfolding part_from
part_read ms read is = ap (option_and_then as_part) is

-- the keys that the code asks for are those of the definitions

-- the key of a `batch` as a text
pub batch_texts : texts batch_keys ≡ batch_keys
batch_texts = λ i. ascii (codes "batch") refl i ∷ []

-- the keys of a `get` as texts
pub get_texts : texts get_keys ≡ get_keys
get_texts = λ i. ascii (codes "get") refl i ∷ ascii (codes "path") refl i ∷ []

-- the keys of an `export` as texts
pub export_texts : texts export_keys ≡ export_keys
export_texts = λ i. ascii (codes "export") refl i ∷ []

-- the key of `names` as a text
pub names_texts : texts names_keys ≡ names_keys
names_texts = λ i. ascii (codes "names") refl i ∷ []

-- the key of a `checkpoint` as a text
pub checkpoint_texts : texts checkpoint_keys ≡ checkpoint_keys
checkpoint_texts = λ i. ascii (codes "checkpoint") refl i ∷ []
