-- A tree of texts has no fault exactly if it is an about.
use Rattle.std.{proofs.Common.{◌≡◌, ℕ, ◌≤◌, Bool, true, false, not, List, [], ◌∷◌, length, refl, ap, subst, ◌∙◌, arith}, specs.Prelude.◌==◌}
use Rattle.std.specs.Prelude.{nat_lt, if◌then◌else◌, Option, Some, None}
use Rattle.conf_about.proofs.Prelude.{eqb-false, ne_eqb, ltb-false, le-ltb, keys_differ, values_distinct, style_text, byte_len, is_empty}
use Rattle.conf_about.proofs.Prelude.{Tree, text, sequence, mapping, Members, no_member, member, members_depth, IsTextTree}
use Rattle.conf_about.specs.declared.fault.AboutFault.{AboutFault, TheVariants.{NoMapping, NoText, NoKey, LongKey, TooMany, Twice}}
use Rattle.conf_about.specs.{declared.fault.AboutFault.TheVariants.TooLarge, Abouts.{key_limit, pair_limit, style_limit, ArePairs}}
use Rattle.conf_about.specs.Abouts.{pair_count, IsAbout, is_text, pair_fault, first_of, pairs_fault, whole_fault, fault_of}

-- ---- the tests of a pair

-- the fault of a pair by what its tests say
abbrev pub by_pair : Bool → Bool → Bool → Option AboutFault
by_pair empty long is = if empty then Some NoKey else if long then Some LongKey else if is then None else Some NoText

pub pair-is : (key : List ℕ) (t : Tree) (empty long is : Bool) → is_empty key ≡ empty → nat_lt key_limit (length key) ≡ long
    → is_text t ≡ is → pair_fault key t ≡ by_pair empty long is
pair-is key t empty long is e l i =
    ap (λ b. by_pair b (nat_lt key_limit (length key)) (is_text t)) e
    ∙ ap (λ b. by_pair empty b (is_text t)) l ∙ ap (λ b. by_pair empty long b) i

by_pair-None : (empty long is : Bool) → by_pair empty long is ≡ None → (empty ≡ false) × (long ≡ false) × (is ≡ true)
by_pair-None true long is e = absurd (let never : (◌≡◌ {A = Option AboutFault} (Some NoKey) None) = e in cc)
by_pair-None false true is e = absurd (let never : (◌≡◌ {A = Option AboutFault} (Some LongKey) None) = e in cc)
by_pair-None false false true e = (refl, refl, refl)
by_pair-None false false false e = absurd (let never : (◌≡◌ {A = Option AboutFault} (Some NoText) None) = e in cc)

pair-None : (key : List ℕ) (t : Tree) → pair_fault key t ≡ None
    → (is_empty key ≡ false) × (nat_lt key_limit (length key) ≡ false) × (is_text t ≡ true)
pair-None key t = by_pair-None (is_empty key) (nat_lt key_limit (length key)) (is_text t)

-- neither is a fault
pub first-None : (one other : Option AboutFault) → first_of one other ≡ None → (one ≡ None) × (other ≡ None)
first-None (Some fault) other e = absurd (let never : (◌≡◌ {A = Option AboutFault} (Some fault) None) = e in cc)
first-None None other e = (refl, e)

-- ---- pairs

some_char : (key : List ℕ) → is_empty key ≡ false → 1 ≤ length key
some_char [] e = absurd (let never : true ≡ false = e in cc)
some_char (c ∷ cs) e = omega arith

not_empty : (key : List ℕ) → 1 ≤ length key → is_empty key ≡ false
not_empty [] some = absurd (omega arith)
not_empty (c ∷ cs) some = refl

no_text : {A : Type 0} → false ≡ true → A
no_text e = absurd (let never : false ≡ true = e in cc)

pub None-pairs : (ms : Members) → pairs_fault ms ≡ None → ArePairs ms
None-pairs no_member e = tt
None-pairs (member key (text value) ms) e =
    let parts = first-None (pair_fault key (text value)) (pairs_fault ms) e in
    let own = pair-None key (text value) parts.0 in
    (some_char key own.0, ltb-false key_limit (length key) own.1, None-pairs ms parts.1)
None-pairs (member key (sequence ts) ms) e =
    no_text (pair-None key (sequence ts) (first-None (pair_fault key (sequence ts)) (pairs_fault ms) e).0).2
None-pairs (member key (mapping ns) ms) e =
    no_text (pair-None key (mapping ns) (first-None (pair_fault key (mapping ns)) (pairs_fault ms) e).0).2

pub pairs-None : (ms : Members) → ArePairs ms → pairs_fault ms ≡ None
pairs-None no_member are = refl
pairs-None (member key (text value) ms) are =
    ap (λ o. first_of o (pairs_fault ms))
    (pair-is key (text value) false false true (not_empty key are.0) (le-ltb key_limit (length key) are.1) refl)
    ∙ pairs-None ms are.2
pairs-None (member key (sequence ts) ms) are = absurd are
pairs-None (member key (mapping ns) ms) are = absurd are

-- texts have no depth
pub pairs-shallow : (ms : Members) → ArePairs ms → members_depth ms ≤ 1
pairs-shallow no_member are = omega arith
pairs-shallow (member key (text value) ms) are = let rest = pairs-shallow ms are.2 in omega (arith, rest)
pairs-shallow (member key (sequence ts) ms) are = absurd are
pairs-shallow (member key (mapping ns) ms) are = absurd are

-- and no keys
pub pairs-distinct : (ms : Members) → ArePairs ms → values_distinct ms ≡ true
pairs-distinct no_member are = refl
pairs-distinct (member key (text value) ms) are = pairs-distinct ms are.2
pairs-distinct (member key (sequence ts) ms) are = absurd are
pairs-distinct (member key (mapping ns) ms) are = absurd are

-- ---- the tests of the whole

-- the fault of a mapping by what its tests say
abbrev pub by_whole : Bool → Bool → Bool → Bool → Option AboutFault
by_whole none many differ large =
    if none then Some NoKey else if many then Some TooMany else if not differ then Some Twice
    else if large then Some TooLarge
    else None

abbrev pub is_large : Members → Bool
is_large ms = nat_lt style_limit (byte_len (style_text (mapping ms)))

pub whole-is : (ms : Members) (none many differ large : Bool) → (pair_count ms == 0) ≡ none → nat_lt pair_limit (pair_count ms) ≡ many
    → keys_differ ms ≡ differ → is_large ms ≡ large → whole_fault ms ≡ by_whole none many differ large
whole-is ms none many differ large n m d l =
    ap (λ b. by_whole b (nat_lt pair_limit (pair_count ms)) (keys_differ ms) (is_large ms)) n
    ∙ ap (λ b. by_whole none b (keys_differ ms) (is_large ms)) m
    ∙ ap (λ b. by_whole none many b (is_large ms)) d
    ∙ ap (λ b. by_whole none many differ b) l

by_whole-None : (none many differ large : Bool) → by_whole none many differ large ≡ None
    → (none ≡ false) × (many ≡ false) × (differ ≡ true) × (large ≡ false)
by_whole-None true many differ large e = absurd (let never : (◌≡◌ {A = Option AboutFault} (Some NoKey) None) = e in cc)
by_whole-None false true differ large e = absurd (let never : (◌≡◌ {A = Option AboutFault} (Some TooMany) None) = e in cc)
by_whole-None false false false large e = absurd (let never : (◌≡◌ {A = Option AboutFault} (Some Twice) None) = e in cc)
by_whole-None false false true true e = absurd (let never : (◌≡◌ {A = Option AboutFault} (Some TooLarge) None) = e in cc)
by_whole-None false false true false e = (refl, refl, refl, refl)

-- ---- the tree

pub None-about : (t : Tree) → IsTextTree t → fault_of t ≡ None → IsAbout t
None-about (text value) is e = absurd (let never : (◌≡◌ {A = Option AboutFault} (Some NoMapping) None) = e in cc)
None-about (sequence ts) is e = absurd (let never : (◌≡◌ {A = Option AboutFault} (Some NoMapping) None) = e in cc)
None-about (mapping ms) is e =
    let parts = first-None (pairs_fault ms) (whole_fault ms) e in
    let whole = by_whole-None (pair_count ms == 0) (nat_lt pair_limit (pair_count ms)) (keys_differ ms) (is_large ms) parts.1 in
    let some = eqb-false (pair_count ms) 0 whole.0 in
    record {
      members = ms;
      is = refl;
      texts = is;
      pairs = None-pairs ms parts.0;
      some = omega (arith, some);
      few = ltb-false pair_limit (pair_count ms) whole.1;
      differ = whole.2;
      short = ltb-false style_limit (byte_len (style_text (mapping ms))) whole.3;
    }

pub about-None : (t : Tree) → IsAbout t → fault_of t ≡ None
about-None t about =
    let ms = about.members in
    let some = about.some in
    let short : byte_len (style_text (mapping ms)) ≤ style_limit =
    subst (λ u. byte_len (style_text u) ≤ style_limit) about.is about.short in
    ap fault_of about.is
    ∙ ap (λ o. first_of o (whole_fault ms)) (pairs-None ms about.pairs)
    ∙ whole-is ms false false true false (ne_eqb (pair_count ms) 0 (λ e. omega (arith, some, e)))
    (le-ltb pair_limit (pair_count ms) about.few) about.differ (le-ltb style_limit (byte_len (style_text (mapping ms))) short)
