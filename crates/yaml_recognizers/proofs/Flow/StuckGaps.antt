-- Between brackets nothing goes on after a gap whose last line is indented too little: what is left then begins with
-- white or a break.
use Rattle.std.{proofs.Common.{ap, arith, refl, ◌∙◌, ◌≡◌}, specs.Prelude.{Bool, List, None, Some, false, true, ℕ, ◌&&◌, ◌==◌, ◌||◌, ◌∷◌}}
use Rattle.yaml_recognizers.proofs.Prelude.{nat_tests, line_break, ns, white, Flow, scalar, FlowContext, no_marker}
use Rattle.yaml_recognizers.{proofs.Flow.FlowFrames.is_scalar, specs.{Ends.is_colon, FlowFrames.closer, FlowNodes.ends_entry}}
use Rattle.yaml_recognizers.specs.{FlowScalars.read_scalar, PlainScalars.read_plain, Reading.{read_closing, on}, Recognizers.flow_node_at}

-- whitespace or a break
abbrev pub blank : ℕ → Bool
blank x = white x || line_break x

-- no sign is there
no_sign : (x : ℕ) → blank x ≡ true → (x == 91 ≡ false) × (x == 123 ≡ false) × (x == 93 ≡ false) × (x == 125 ≡ false)
    × (x == 44 ≡ false) × (x == 58 ≡ false) × (x == 39 ≡ false) × (x == 34 ≡ false) × (x == 63 ≡ false) × (ns x ≡ false)
no_sign x h = (
  grind (arith, nat_tests),
  grind (arith, nat_tests),
  grind (arith, nat_tests),
  grind (arith, nat_tests),
  grind (arith, nat_tests),
  grind (arith, nat_tests),
  grind (arith, nat_tests),
  grind (arith, nat_tests),
  grind (arith, nat_tests),
  grind (arith, nat_tests),
)

-- such a character is no `:`
pub no_colon : (d : FlowContext) (after_plain : Bool) (x : ℕ) (xs : List ℕ) → blank x ≡ true → is_colon d after_plain (x ∷ xs) ≡ false
no_colon d after_plain x xs h = rw ((no_sign x h).5) refl

-- it ends no entry
pub no_end : (x : ℕ) (xs : List ℕ) → blank x ≡ true → ends_entry (x ∷ xs) ≡ false
no_end x xs h = let s = no_sign x h in rw (s.4, s.2, s.3) refl

-- what does not hold together with false
and_false : (b : Bool) → b && false ≡ false
and_false true = refl
and_false false = refl

-- before whitespace or a break no scalar is read
no_scalar : (n : ℕ) (c : FlowContext) (bol : Bool) (x : ℕ) (xs : List ℕ) → blank x ≡ true → read_scalar n c bol (x ∷ xs) ≡ None
unfolding read_scalar read_plain
no_scalar n c bol x xs h = let s = no_sign x h in rw (s.6, s.7, s.9) (rw (and_false (no_marker bol (x ∷ xs))) refl)

-- it starts no node
pub no_node : (n : ℕ) (c : FlowContext) (bol : Bool) (x : ℕ) (xs : List ℕ) → blank x ≡ true → flow_node_at n c bol (x ∷ xs) ≡ None
no_node n c bol x xs h =
    let s = no_sign x h in
    is_scalar n c bol (x ∷ xs) s.0 s.1 ∙ ap (λ r. on r (λ f rest. Some (scalar f, rest))) (no_scalar n c bol x xs h)

-- after an entry: no comma and no bracket
not_closed : (in_seq : Bool) (f : Flow) (x : ℕ) (xs : List ℕ) → blank x ≡ true → read_closing (closer in_seq) f (x ∷ xs) ≡ None
not_closed true f x xs h = rw ((no_sign x h).2) refl
not_closed false f x xs h = rw ((no_sign x h).3) refl
