-- Words that come to no invocation.
use Rattle.std.{proofs.Common.{◌≡◌, ◌⊎◌, ◌∙◌, inl, inr, ◌||◌, Bool, true, false, List, ℕ, drop, refl, sym, ap, subst}, specs.Prelude.Option}
use Rattle.std.specs.Prelude.{Some, Result, Ok, Err, is_some, not}
use Rattle.command_line.specs.{Matches.Given, Rows.Row, Words.read, declared.refusal.Refusal.Refusal}
use Rattle.conf_words.specs.{Invocations.{IsAsked, Makes, is_wrong}, Outcomes.{Comes, Asks, Parses, ParsesBy, ParsesGiven, Tells, is_help}}
use Rattle.conf_words.specs.{Subcommands.{asked_in, rows_of}, Waits.{Waits, is_wait_wrong}, declared.refusal.Unasked.Unasked}
use Rattle.conf_words.specs.declared.{refusal.Unasked.TheVariants.{Because, OutOfMemory}, subcommand.Subcommand.Subcommand}
use Rattle.conf_words.specs.declared.unparsed.Unparsed.{Unparsed}
use Rattle.command_line.specs.declared.refusal.Refusal.TheVariants as refusal
use Rattle.conf_words.specs.declared.unparsed.Unparsed.TheVariants as unparsed

out_of_memory : (help : Bool) → Tells help unparsed.OutOfMemory
out_of_memory true = tt
out_of_memory false = tt

-- memory may run out whatever words say
no_memory : (subcommand : Subcommand) (wait : Option (List ℕ)) (said : Result Given Refusal) (u : Unparsed)
    → u ≡ unparsed.OutOfMemory → ParsesGiven subcommand wait said (Err u)
no_memory subcommand wait (Err why) u is = subst (λ v. Tells (is_help why) v) (sym is) (out_of_memory (is_help why))
no_memory subcommand wait (Ok given) u is =
    subst (λ v. Comes (is_wrong subcommand given || is_wait_wrong subcommand given wait) (Asks subcommand given wait) (Err v))
    (sym is) tt

-- what the arguments of the subcommand give
by_rows : (words : List (List ℕ)) (wait : Option (List ℕ)) (subcommand : Subcommand) (rows : List Row) (u : Unparsed)
    → asked_in words ≡ Some subcommand → rows ≡ rows_of subcommand
    → ParsesGiven subcommand wait (read rows (drop 2 words)) (Err u) → Parses words wait (Err u)
by_rows words wait subcommand rows u asked same parses =
    subst (λ o. ParsesBy words wait o (Err u)) (sym asked)
    (subst (λ r. ParsesGiven subcommand wait (read r (drop 2 words)) (Err u)) same parses)

-- words that are refused
pub refused_read : (words : List (List ℕ)) (wait : Option (List ℕ)) (subcommand : Subcommand) (rows : List Row)
    (why : Refusal) (u : Unparsed) → asked_in words ≡ Some subcommand → rows ≡ rows_of subcommand
    → (why ≡ refusal.OutOfMemory) ⊎ (read rows (drop 2 words) ≡ Err why) → Tells (is_help why) u
    → (why ≡ refusal.OutOfMemory → u ≡ unparsed.OutOfMemory) → Parses words wait (Err u)
refused_read words wait subcommand rows why u asked same (inl out) tells memory =
    by_rows words wait subcommand rows u asked same
    (no_memory subcommand wait (read rows (drop 2 words)) u (memory out))
refused_read words wait subcommand rows why u asked same (inr is) tells memory =
    by_rows words wait subcommand rows u asked same (subst (λ said. ParsesGiven subcommand wait said (Err u)) (sym is) tells)

wrong_tells : (subcommand : Subcommand) (wait : Option (List ℕ)) (given : Given) (u : Unparsed) → Tells false u
    → (is_wrong subcommand given || is_wait_wrong subcommand given wait) ≡ true
    → ParsesGiven subcommand wait (Ok given) (Err u)
wrong_tells subcommand wait given (unparsed.Shown text) tells wrong = tells
wrong_tells subcommand wait given (unparsed.Wrong lines) tells wrong = wrong
wrong_tells subcommand wait given unparsed.OutOfMemory tells wrong = tt

-- matches that ask for nothing
pub refused_given : (words : List (List ℕ)) (wait : Option (List ℕ)) (subcommand : Subcommand) (rows : List Row)
    (given : Given) (why : Unasked) (u : Unparsed) → asked_in words ≡ Some subcommand
    → rows ≡ rows_of subcommand → read rows (drop 2 words) ≡ Ok given
    → Makes (is_wrong subcommand given) (IsAsked subcommand given) (Err why) → Tells false u
    → (why ≡ OutOfMemory → u ≡ unparsed.OutOfMemory) → Parses words wait (Err u)
refused_given words wait subcommand rows given OutOfMemory u asked same is makes tells memory =
    by_rows words wait subcommand rows u asked same
    (no_memory subcommand wait (read rows (drop 2 words)) u (memory refl))
refused_given words wait subcommand rows given (Because text) u asked same is makes tells memory =
    by_rows words wait subcommand rows u asked same
    (subst (λ said. ParsesGiven subcommand wait said (Err u)) (sym is)
    (wrong_tells subcommand wait given u tells (ap (λ b. b || is_wait_wrong subcommand given wait) makes)))

-- a wait that is refused
pub refused_wait : (words : List (List ℕ)) (wait : Option (List ℕ)) (subcommand : Subcommand) (rows : List Row)
    (given : Given) (why : Unasked) (u : Unparsed) → asked_in words ≡ Some subcommand
    → rows ≡ rows_of subcommand → read rows (drop 2 words) ≡ Ok given
    → is_wrong subcommand given ≡ false → Waits subcommand given wait (Err why) → Tells false u
    → (why ≡ OutOfMemory → u ≡ unparsed.OutOfMemory) → Parses words wait (Err u)
refused_wait words wait subcommand rows given OutOfMemory u asked same is right waits tells memory =
    by_rows words wait subcommand rows u asked same
    (no_memory subcommand wait (read rows (drop 2 words)) u (memory refl))
refused_wait words wait subcommand rows given (Because text) u asked same is right waits tells memory =
    by_rows words wait subcommand rows u asked same
    (subst (λ said. ParsesGiven subcommand wait said (Err u)) (sym is)
    (wrong_tells subcommand wait given u tells
    (ap (λ b. b || is_wait_wrong subcommand given wait) right ∙ ap (λ (o : Option ℕ). not (is_some o)) waits)))
