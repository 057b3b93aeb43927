-- What is answered to requests that change nothing.
use Rattle.std.{proofs.Common.{◌≡◌, refl, sym, ◌∙◌, ap, subst, ◌≤◌}, specs.Prelude.{ℕ, List, [], codes, length, String, string_bytes}}
use Rattle.std.specs.Prelude.{Result, Ok, Err, IfOk}
use Rattle.conf_session.proofs.Prelude.{Global, Tree, text, sequence, style_text, framed_text_bytes, at, path_of, PathFault, IsState}
use Rattle.conf_session.proofs.{Prelude.{names_of, and_then, by_path, StoreFault, Path, tree_named, tree_at}, LengthLemmas.refused-short}
use Rattle.conf_session.{proofs.{LengthLemmas.answer-short, RefusalLemmas.refused-ok}, specs.Replies.{Replies, refused_as}}
use Rattle.conf_session.specs.{declared.{words.Refusal.Refusal, reply.Reply.TheVariants.{Done, Refused}}, Requests.{Request, getting}}
use Rattle.conf_session.specs.{Requests.{exporting, naming}, Answers.{Stored, answer, accepted_command, refused_of, one, text_elements}}
use Rattle.conf_session.specs.Answers.{answered, path_answered, refused_answer, answer_or_refusal, document_bytes, answer_limit}
use Rattle.conf_session.specs.Answers.{value_at_path, is_refused}

-- ---- a request that changes nothing, and is answered by a result

module _ (now : Stored) (request : Request) {A : Type 0} (f : A → Tree) (r : Result A StoreFault)
    (answers : answer now request ≡ answer_or_refusal f r)
    (quiet : accepted_command now request ≡ []) (counts : refused_of now request ≡ is_refused r) where
  -- it has the answer
  answers-so : (x : A) (written : String Global) → r ≡ Ok x → string_bytes written ≡ framed_text_bytes (f x)
      → IsState now.state → Replies now request (Done written)
  answers-so x written e bytes kept = record {
    bytes = bytes ∙ sym (ap document_bytes (answers ∙ ap (answer_or_refusal f) e));
    accepted = ap length (sym quiet);
    refused = sym (counts ∙ ap is_refused e);
    short = answer-short now request kept;
  }

  -- or a refusal
  refuses-so : (why : StoreFault) (reason : Refusal) → r ≡ Err why → answered why ≡ Ok reason → Replies now request (Refused reason)
  refuses-so why reason e is = record {
    bytes = ap (λ a. document_bytes (refused_answer a)) (sym is) ∙ sym (ap document_bytes (answers ∙ ap (answer_or_refusal f) e));
    accepted = ap length (sym quiet);
    refused = sym (counts ∙ ap is_refused e);
    short = subst (λ a. length (document_bytes a) ≤ answer_limit) (sym (answers ∙ ap (answer_or_refusal f) e))
        (refused-short (answered why));
  }

-- ---- gets and exports

module _ (now : Stored) (name : List ℕ) where
  value-refused : (p : List ℕ) (f : StoreFault) (reason : Refusal) → value_at_path now.state name p ≡ Err f
      → answered f ≡ Ok reason → Replies now (getting name p) (Refused reason)
  value-refused p f reason e is = refuses-so now (getting name p) (one (codes "value"))
      (value_at_path now.state name p) refl refl refl f reason e is

  -- a `get` of a name without a configuration is refused so
  pub get-no_config : (p : List ℕ) (f : StoreFault) → tree_named now.state name ≡ Err f
      → IfOk (refused_as (answered f)) (Replies now (getting name p))
  get-no_config p f e = refused-ok _ (answered f)
      (λ reason. value-refused p f reason (ap (λ r.
      and_then r (λ t. and_then (by_path (path_of p)) (λ tokens. by_path (at t tokens)))) e))

  -- a `get` at a bad path is refused so
  pub get-no_path : (p : List ℕ) (t : Tree) (f : PathFault) → tree_named now.state name ≡ Ok t → path_of p ≡ Err f
      → IfOk (refused_as (path_answered f)) (Replies now (getting name p))
  get-no_path p t f e wrong =
      refused-ok _ (path_answered f) (λ reason. value-refused p (Path f) reason
      (ap (λ r. and_then r (λ u. and_then (by_path (path_of p)) (λ tokens. by_path (at u tokens)))) e
      ∙ ap (λ r. and_then (by_path r) (λ tokens. by_path (at t tokens))) wrong))

  module _ (p : List ℕ) (tokens : List (List ℕ)) (path : path_of p ≡ Ok tokens) where
    leads : value_at_path now.state name p ≡ tree_at now.state name tokens
    leads = ap (λ r. and_then (tree_named now.state name) (λ t. and_then (by_path r) (λ ts. by_path (at t ts)))) path

    pub get-value : (v : Tree) (written : String Global) → tree_at now.state name tokens ≡ Ok v
        → string_bytes written ≡ framed_text_bytes (one (codes "value") v)
        → IsState now.state → Replies now (getting name p) (Done written)
    get-value v written there bytes kept =
        answers-so now (getting name p) (one (codes "value"))
        (value_at_path now.state name p) refl refl refl v written (leads ∙ there) bytes kept

    pub get-refused : (f : StoreFault) → tree_at now.state name tokens ≡ Err f
        → IfOk (refused_as (answered f)) (Replies now (getting name p))
    get-refused f there = refused-ok _ (answered f) (λ reason. value-refused p f reason (leads ∙ there))

  -- the answer to an `export` is the text of the configuration
  pub export-text : (t : Tree) (written : String Global) → tree_named now.state name ≡ Ok t
      → string_bytes written ≡ framed_text_bytes (one (codes "text") (text (style_text t)))
      → IsState now.state → Replies now (exporting name) (Done written)
  export-text t written e bytes kept =
      answers-so now (exporting name) (λ u. one (codes "text") (text (style_text u)))
      (tree_named now.state name) refl refl refl t written e bytes kept

  -- an `export` of a name without a configuration is refused so
  pub export-refused : (f : StoreFault) → tree_named now.state name ≡ Err f → IfOk (refused_as (answered f)) (Replies now (exporting name))
  export-refused f e = refused-ok _ (answered f)
      (λ reason. refuses-so now (exporting name) (λ u. one (codes "text") (text (style_text u)))
      (tree_named now.state name) refl refl refl f reason e)

-- the answer to `names` is the list of all names
pub names-listed : (now : Stored) → IsState now.state → (written : String Global)
    → string_bytes written ≡ framed_text_bytes (one (codes "names") (sequence (text_elements (names_of now.state.configs))))
    → Replies now naming (Done written)
names-listed now kept written bytes = record { bytes = bytes; accepted = refl; refused = refl; short = answer-short now naming kept }
