-- A state from its parts: what holds of the configurations so far, and why there is no state with one that is unfit.
use Rattle.std.proofs.Common.{length, ◌≡◌, ◌≤◌, inl, inr, ℕ, ◌+◌, min, Bool, true, false, not, ◌||◌, if◌then◌else◌, List, [], ◌∷◌, ◌++◌}
use Rattle.std.proofs.Common.{String, Global, Option, Some, None, is_some, nat_lt, Result, Ok, Err, OnOk, IfErr, is_err, ◌<◌, ◌^◌}
use Rattle.std.proofs.Common.{append-nil, refl, sym, ap, subst, ◌∙◌, append_assoc, arith}
use Rattle.conf_state.proofs.Prelude.{and_parts, Good, byte_len, same_text, depth, style_text, same_text-true, same_text-self}
use Rattle.conf_state.proofs.{Prelude.{config_limits, nat_tests}, BaseLemmas.{base_length-framed, entries_length-short}}
use Rattle.conf_state.proofs.LimitLemmas.{entries_length-put, entries_length-absent, names_differ-put, AreConfigs-put}
use Rattle.conf_state.specs.{Names.good_name, Limits.{AreConfigs, IsState}, Steps.checked_tree, declared.fault.StoreFault.StoreFault}
use Rattle.conf_state.specs.{declared.fault.StoreFault.TheVariants.{TooDeep, ConfigLarge}, States.{Entry, Contents, base_limit, names_of}}
use Rattle.conf_state.specs.{States.{config_named, put_config, has_name, names_differ}, BaseTexts.{base_length, entries_length}}
use Rattle.conf_state.specs.{BaseTexts.framed_length, Kept.{entries_of, ArePlain, IsKept, Appended, IsUnfit}}
use Rattle.yaml_data.specs.declared.tree.Tree.{Tree}
use Rattle.yaml_grammar.specs.Trees as grammar

-- a new name goes last
pub put_absent : (es : List Entry) (name : List ℕ) (t : grammar.Tree) → config_named es name ≡ None
    → put_config es name t ≡ es ++ (name, t) ∷ []
put_absent [] name t absent = refl
put_absent (e ∷ es) name t absent = by (same_text name e.0) absent (put_absent es name t)
  where
    by : (b : Bool) → (if b then Some e.1 else config_named es name) ≡ None
        → (config_named es name ≡ None → put_config es name t ≡ es ++ (name, t) ∷ [])
        → (if b then (e.0, t) ∷ es else e ∷ put_config es name t) ≡ e ∷ (es ++ (name, t) ∷ [])
    by true found rest = absurd (cc)
    by false found rest = ap (λ xs. e ∷ xs) (rest found)

pub record SoFar (all : List Entry) (done : List (String Global × Tree)) (left : List Entry) (length : ℕ) : Type 0 where
  pub whole : entries_of done ++ left ≡ all
  pub plain : ArePlain done
  pub configs : AreConfigs (entries_of done)
  pub distinct : names_differ (names_of (entries_of done)) ≡ true
  pub bytes : length ≡ min (entries_length (entries_of done)) 18446744073709551615

-- one more configuration is taken in
pub so_far_more : (all : List Entry) (old new : List (String Global × Tree)) (name : List ℕ) (t : grammar.Tree)
    (left : List Entry) (before added length : ℕ)
    → SoFar all old ((name, t) ∷ left) before → Appended old new name t added
    → length ≡ min (before + added) 18446744073709551615 → SoFar all new left length
so_far_more all old new name t left before added length so more is =
    let es = entries_of old in
    let after = put_absent es name t more.absent in
    let put = entries_length-put es name t in
    let same = entries_length-absent es name more.absent in
    let now = ap entries_length more.entries in
    let a = so.bytes in let b = more.bytes in
    record {
      whole = ap (λ xs. xs ++ left) (more.entries ∙ after) ∙ append_assoc es ((name, t) ∷ []) left ∙ so.whole;
      plain = more.plain;
      configs = subst AreConfigs (sym more.entries) (AreConfigs-put es name t more.named more.within so.configs);
      distinct = ap (λ xs. names_differ (names_of xs)) more.entries ∙ names_differ-put es name t so.distinct;
      bytes = omega (arith, put, same, now, a, b, is);
    }

-- ---- what is unfit

one_of : (es : List Entry) (e : Entry) (left : List Entry) → AreConfigs (es ++ e ∷ left) → (good_name e.0 ≡ true) × Good e.1 config_limits
one_of [] e left all = (all.0, all.1)
one_of (d ∷ es) e left all = one_of es e left all.2

has_name-after : (es : List Entry) (name : List ℕ) (t : grammar.Tree) (left : List Entry)
    → has_name name (names_of (es ++ (name, t) ∷ left)) ≡ true
has_name-after [] name t left = ap (λ b. b || has_name name (names_of left)) (same_text-self name)
has_name-after (e ∷ es) name t left = by (same_text name e.0) (has_name-after es name t left)
  where
    by : (b : Bool) → has_name name (names_of (es ++ (name, t) ∷ left)) ≡ true
        → (b || has_name name (names_of (es ++ (name, t) ∷ left))) ≡ true
    by true rest = refl
    by false rest = rest

pub twice : (es : List Entry) (name : List ℕ) (t : grammar.Tree) (left : List Entry) → is_some (config_named es name) ≡ true
    → names_differ (names_of (es ++ (name, t) ∷ left)) ≡ true → ⊥
twice [] name t left found differ = cc
twice (e ∷ es) name t left found differ =
    let parts = and_parts (not (has_name e.0 (names_of (es ++ (name, t) ∷ left))))
    (names_differ (names_of (es ++ (name, t) ∷ left))) differ in
    by (same_text name e.0) refl found parts.0 (λ f. twice es name t left f parts.1)
  where
    by : (b : Bool) → same_text name e.0 ≡ b → is_some (if b then Some e.1 else config_named es name) ≡ true
        → not (has_name e.0 (names_of (es ++ (name, t) ∷ left))) ≡ true → (is_some (config_named es name) ≡ true → ⊥) → ⊥
    by true same found apart rest =
        let named = same_text-true name e.0 same in
        let there : has_name e.0 (names_of (es ++ (name, t) ∷ left)) ≡ true =
        ap (λ n. has_name n (names_of (es ++ (name, t) ∷ left))) (sym named) ∙ has_name-after es name t left in
        clash (has_name e.0 (names_of (es ++ (name, t) ∷ left))) there apart
      where
        clash : (b : Bool) → b ≡ true → not b ≡ true → ⊥
        clash true e f = cc
        clash false e f = cc
    by false same found apart rest = rest found

-- where a configuration is unfit, no state has all of them
pub unfit_none : (all : List Entry) (old : List (String Global × Tree)) (name : List ℕ) (t : grammar.Tree)
    (left : List Entry) (length count : ℕ)
    → SoFar all old ((name, t) ∷ left) length → IsUnfit (entries_of old) name t → IsState (record { configs = all; count = count }) → ⊥
unfit_none all old name t left length count so unfit state = by unfit
  where
    configs : AreConfigs (entries_of old ++ (name, t) ∷ left)
    configs = subst AreConfigs (sym so.whole) state.configs

    differ : names_differ (names_of (entries_of old ++ (name, t) ∷ left)) ≡ true
    differ = ap (λ xs. names_differ (names_of xs)) so.whole ∙ state.distinct

    clash : (b : Bool) → b ≡ true → b ≡ false → ⊥
    clash b e f = cc

    by : IsUnfit (entries_of old) name t → ⊥
    by (inl bad) = clash _ (one_of (entries_of old) (name, t) left configs).0 bad
    by (inr (inl out)) = out (one_of (entries_of old) (name, t) left configs).1
    by (inr (inr there)) = twice (entries_of old) name t left there differ

-- an option that is not some is `None`
pub is_none : {A : Type 0} (o : Option A) → is_some o ≡ false → o ≡ None
is_none None e = refl
is_none (Some x) e = absurd (cc)

no_more : (a b : ℕ) → nat_lt b a ≡ true → a ≤ b → ⊥
no_more a b e h = grind (arith, nat_tests)

-- where the limits are exceeded, the tree is over them
over_limits : (t : grammar.Tree) (fault : StoreFault) → checked_tree t ≡ Err fault → Good t config_limits → ⊥
over_limits t fault refused good =
    by (nat_lt config_limits.depth (depth t)) refl (nat_lt config_limits.style (byte_len (style_text t))) refl refused
  where
    by : (d : Bool) → nat_lt config_limits.depth (depth t) ≡ d → (l : Bool) → nat_lt config_limits.style (byte_len (style_text t)) ≡ l
        → (if d then Err TooDeep else if l then Err ConfigLarge else Ok t) ≡ Err fault → ⊥
    by true e l f same = no_more (depth t) config_limits.depth e good.deep
    by false e true f same = no_more (byte_len (style_text t)) config_limits.style f good.long
    by false e false f same = cc

-- a tree that is refused is over its limits
pub refused_over : {A : Type 0} (t : grammar.Tree) (r : Result A StoreFault) → is_err r ≡ true
    → IfErr r (λ fault. checked_tree t ≡ Err fault) → Good t config_limits → ⊥
refused_over t (Ok x) e refused good = cc
refused_over t (Err fault) e refused good = over_limits t fault refused good

-- what holds after success holds where there is no error
pub on_ok_from : {A E : Type 0} (r : Result A E) (P : Type 0) → is_err r ≡ false → OnOk r P → P
on_ok_from (Ok x) P e p = p
on_ok_from (Err x) P e p = absurd (cc)

-- at first no configuration is taken in
pub so_far_first : (all : List Entry) → SoFar all [] all 0
so_far_first all = record { whole = refl; plain = tt; configs = tt; distinct = refl; bytes = refl }

-- none is left: the limits of a state are kept where the base text is short enough, and only there
module _ (all : List Entry) (done : List (String Global × Tree)) (length count base : ℕ)
    (so : SoFar all done [] length) (small : count < 2 ^ 64)
    (is : base ≡ min (framed_length count length) 18446744073709551615) where
  whole : entries_of done ≡ all
  whole = sym (append-nil (entries_of done)) ∙ so.whole

  framed : base_length (record { configs = entries_of done; count = count }) ≡ framed_length count (entries_length (entries_of done))
  framed = base_length-framed count (entries_of done) (omega (arith, small))

  cut : (e l b : ℕ) → l ≡ min e 18446744073709551615 → b ≡ min (framed_length count l) 18446744073709551615
      → b ≤ base_limit → framed_length count e ≤ base_limit
  cut e l b h g f = grind (arith, nat_tests, h, g, f)

  back : (e l b : ℕ) → l ≡ min e 18446744073709551615 → b ≡ min (framed_length count l) 18446744073709551615
      → framed_length count e ≤ base_limit → b ≤ base_limit
  back e l b h g f = grind (arith, nat_tests, h, g, f)

  short_base : base ≤ base_limit → base_length (record { configs = entries_of done; count = count }) ≤ base_limit
  short_base short = omega (arith, framed, cut (entries_length (entries_of done)) length base so.bytes is short)

  -- where the base text is short enough, the limits of a state are kept
  pub parts_kept : base ≤ base_limit → IsKept done count length
  parts_kept short =
      let few = entries_length-short count (entries_of done) (omega (arith, small)) (short_base short) in
      let bytes = so.bytes in
      record {
        plain = so.plain;
        state = record {
          configs = so.configs;
          distinct = so.distinct;
          short = short_base short;
          numbered = omega (arith, small);
        };
        counted = omega (arith, few, bytes);
      }

  abbrev with : List Entry → Contents
  with es = record { configs = es; count = count }

  pub parts_state : with (entries_of done) ≡ with all
  parts_state = ap with whole

  pub parts_long : base_limit < base → IsState (record { configs = all; count = count }) → ⊥
  parts_long long state =
      let short = subst IsState (sym parts_state) state in
      let few = short.short in
      omega (arith, long, back (entries_length (entries_of done)) length base so.bytes is (omega (arith, framed, few)))
