-- Names of files among which one is sought.
use Rattle.std.proofs.Common.{◌≡◌, ◌≢◌, ◌≤◌, ℕ, Bool, true, false, ◌||◌, List, [], ◌∷◌, length, map, refl, sym, ap, ◌∙◌, subst, Bor, codes}
use Rattle.std.proofs.{Common.arith, lemmas.{Bool.{both_ways, Decides.nat_tests}, Cmp.nat_list_eq_equiv, List.Elements.{All-nil, All-cons}}}
use Rattle.std.specs.{Prelude.{All, is_some, nat_eq}, Bool.{then_some, ◌==◌}, List.list_any, Str.bytes_eq, Cmp.Lexicographic.pointwise}
use Rattle.conf_words.specs.{Invocations.{FilesFit, files_are_wrong}, declared.invocation.{Comments.Comments, Formatting.Formatting}}
use Rattle.conf_words.specs.declared.invocation.Formatting.TheVariants.{Write, InPlace, Check}

-- a name among those of files
sought : (name : List ℕ) (files : List (Bor (List ℕ)))
    → list_any (λ file. pointwise nat_eq file.now name) files ≡ list_any (λ file. bytes_eq file name) (map (λ file. file.now) files)
sought name [] = refl
sought name (file ∷ files) = ap (λ b. bytes_eq file.now name || b) (sought name files)

some_of : {X : Type 0} (found : Bool) (why : X) → is_some (then_some found why) ≡ found
some_of true why = refl
some_of false why = refl

-- files that are replaced are wrong if standard input is among them
pub wrong_if_found : {X : Type 0} (comments : Comments) (found : Bool) (why : X) (files : List (Bor (List ℕ)))
    → found ≡ list_any (λ file. pointwise nat_eq file.now (codes "-")) files → false ≡ (length files == 0)
    → is_some (then_some found why) ≡ files_are_wrong (InPlace comments) (map (λ file. file.now) files)
wrong_if_found comments found why [] is some = absurd (both_ways true (sym some) refl)
wrong_if_found comments found why (file ∷ files) is some =
    let names = map (λ f. f.now) (file ∷ files) in
    let more : (length names == 0) ≡ false = grind (arith, nat_tests) in
    some_of found why ∙ is ∙ sought (codes "-") (file ∷ files)
    ∙ sym (ap (λ b. b || list_any (λ f. bytes_eq f (codes "-")) names) more)

both_false : (a b : Bool) → (a || b) ≡ false → (a ≡ false) × (b ≡ false)
both_false false b none = (refl, none)
both_false true b none = absurd (both_ways true none refl)

-- a name that isn't found is none of the names
none_named : (name : List ℕ) (files : List (List ℕ)) → list_any (λ file. bytes_eq file name) files ≡ false
    → All (λ file. file ≢ name) files
none_named name [] none = All-nil (λ file. file ≢ name)
none_named name (file ∷ files) none =
    let parts = both_false (bytes_eq file name) (list_any (λ f. bytes_eq f name) files) none in
    All-cons (λ f. f ≢ name) file files
    (λ same. both_ways _ parts.0 (subst (λ n. pointwise nat_eq file n ≡ true) same (nat_list_eq_equiv.refl file)))
    (none_named name files parts.1)

some_named : (files : List (List ℕ)) → (length files == 0) ≡ false → 1 ≤ length files
some_named [] some = absurd (both_ways true some refl)
some_named (file ∷ files) some = omega arith

-- files that aren't wrong fit
pub fitting : (formatting : Formatting) (files : List (List ℕ)) → files_are_wrong formatting files ≡ false
    → FilesFit formatting files
fitting (Write style) files right = grind (arith, nat_tests, right)
fitting (InPlace comments) files right =
    let parts = both_false (length files == 0) (list_any (λ file. bytes_eq file (codes "-")) files) right in
    (some_named files parts.0, none_named (codes "-") files parts.1)
fitting (Check style) files right = tt
