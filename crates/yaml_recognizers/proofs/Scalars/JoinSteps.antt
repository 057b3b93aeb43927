-- The recognizer of joins, a step at a time: the break, each empty line after it, and the start of the next line. A
-- scanner's loop over empty lines goes by these, with the empty lines so far before it.
use Rattle.std.{proofs.Common.{ap, append-nil, refl, ◌∙◌, ◌≡◌}, specs.Prelude.{Bool, List, None, Some, [], false, true, ℕ, ◌&&◌, ◌++◌, ◌∷◌}}
use Rattle.yaml_recognizers.proofs.Prelude.{cond-false, cond-true, white, FlowEmptyLine, Break, indents, no_marker}
use Rattle.yaml_recognizers.{proofs.{Scalars.Joins.empty_shrinks, Basics.Repeated.{all_none, all_some}}, specs.Comments.read_break}
use Rattle.yaml_recognizers.specs.{Prefixes.{drop_while, take_while}, Reading.{Read, on}, Repeated.all_of, Joins.{after_blank, read_empty}}
use Rattle.yaml_recognizers.specs.Joins.{read_join, with_lead}

-- ---- its start; a join without a backslash begins as `unescaped_read` says

-- a join with a backslash, from after it
pub step_escaped : (n : ℕ) (text : List ℕ) → read_join true n (92 ∷ text) ≡ after_blank true n [] text
unfolding read_join
step_escaped n text = refl

-- a join, from its break
pub step_break : (escaped : Bool) (n : ℕ) (blank text : List ℕ) (stop : Break) (t : List ℕ) → read_break text ≡ Some (stop, t)
    → after_blank escaped n blank text ≡ with_lead escaped n blank stop (all_of (read_empty n) t)
unfolding after_blank
step_break escaped n blank text stop t e = ap
    (λ (r : Read Break). on r (λ stop' rest. with_lead escaped n blank stop' (all_of (read_empty n) rest))) e

-- without a break there is no join
pub no_break : (escaped : Bool) (n : ℕ) (blank text : List ℕ) → read_break text ≡ None → after_blank escaped n blank text ≡ None
unfolding after_blank
no_break escaped n blank text e = ap (λ (r : Read Break).
    on r (λ stop' rest. with_lead escaped n blank stop' (all_of (read_empty n) rest))) e

-- ---- empty lines

-- the empty lines from a place on are these, and those from a later place on
abbrev pub Passed : ℕ → List ℕ → List FlowEmptyLine → List ℕ → Type 0
Passed n start es t = all_of (read_empty n) start ≡ (es ++ (all_of (read_empty n) t).0, (all_of (read_empty n) t).1)

-- no empty line is passed yet
pub passed_none : (n : ℕ) (start : List ℕ) → Passed n start [] start
passed_none n start = refl

-- one empty line more is passed
pub passed_more : (n : ℕ) (start : List ℕ) (es : List FlowEmptyLine) (t : List ℕ) (e : FlowEmptyLine) (t' : List ℕ)
    → Passed n start es t → read_empty n t ≡ Some (e, t') → Passed n start (es ++ e ∷ []) t'
passed_more n start es t e t' p h =
    p ∙ (ap (λ (found : List FlowEmptyLine × List ℕ). (es ++ found.0, found.1)) (all_some (read_empty n) (empty_shrinks n) t e t' h)
    ∙ ap (λ (ls : List FlowEmptyLine). (ls, (all_of (read_empty n) t').1)) (regroup es (all_of (read_empty n) t').0))
  where
    regroup : (xs ys : List FlowEmptyLine) → xs ++ (e ∷ ys) ≡ (xs ++ e ∷ []) ++ ys
    regroup [] ys = refl
    regroup (x ∷ xs) ys = ap (λ zs. x ∷ zs) (regroup xs ys)

-- all empty lines are passed
pub passed_all : (n : ℕ) (start : List ℕ) (es : List FlowEmptyLine) (t : List ℕ) → Passed n start es t
    → read_empty n t ≡ None → all_of (read_empty n) start ≡ (es, t)
passed_all n start es t p h =
    p ∙ (ap (λ (found : List FlowEmptyLine × List ℕ). (es ++ found.0, found.1)) (all_none (read_empty n) t h)
    ∙ ap (λ (ls : List FlowEmptyLine). (ls, t)) (append-nil es))

-- ---- the start of the next line

-- a join, from the start of the next line
pub step_lead : (escaped : Bool) (n : ℕ) (blank : List ℕ) (stop : Break) (es : List FlowEmptyLine) (t : List ℕ)
    → indents n (take_while white t) && no_marker true t ≡ true
    → with_lead escaped n blank stop (es, t) ≡ Some
    (record { escaped = escaped; blank = blank; stop = stop; empties = es; lead = take_while white t }, drop_while white t)
step_lead escaped n blank stop es t h = cond-true _ _ _ h

-- without enough indentation there is no join
pub no_lead : (escaped : Bool) (n : ℕ) (blank : List ℕ) (stop : Break) (es : List FlowEmptyLine) (t : List ℕ)
    → indents n (take_while white t) && no_marker true t ≡ false
    → with_lead escaped n blank stop (es, t) ≡ None
no_lead escaped n blank stop es t h = cond-false _ _ _ h
