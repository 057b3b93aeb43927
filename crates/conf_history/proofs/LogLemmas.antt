-- The log: what is written so far, and how writing it ends.
use Rattle.std.{proofs.Common.{◌≡◌, inl, inr, refl, sym, ◌∙◌, ap, subst, arith, ◌<◌, append_assoc}, specs.Prelude.{ℕ, ◌+◌, Bool, List, []}}
use Rattle.std.specs.Prelude.{◌∷◌, ◌++◌, length, take, Option, Some, None, IfSome}
use Rattle.conf_history.proofs.Prelude.{All, concat, Appends, Appends-nil, Appends-trans, Consumes-whole, append-nil, ClosesOnce}
use Rattle.conf_history.proofs.Prelude.{SomePieces, ahead, piece_or_rest, Command, Contents, after-count, AreRecords, All-nil, IsNoRecord}
use Rattle.conf_history.{proofs.WalkLemmas.{known, some-map, begins-with, end-read, between-read}, specs.declared.log.LogRequest.LogRequest}
use Rattle.conf_history.specs.declared.fault.HistoryFault.{HistoryFault, TheVariants.{Input, Output, NotAStore, Damaged, NoSuchCommand}}
use Rattle.conf_history.specs.{declared.fault.HistoryFault.TheVariants.OutOfMemory, Histories.{RefusesReading, RefusesSurvey}}
use Rattle.conf_history.specs.Logs.{entry_bytes, log_bytes, log_of_pieces, BeginsLog, IsWholeLog, LogsAll, LogsBefore, CutsLog, StopsLog}
use Rattle.conf_history.specs.Walks.{HasRead, ArePerformed, ComesAfter, Ends, Fails, IsBetween, IsAtEndOf, IsTornBehind, RefusesStart}
use Rattle.conf_history.specs.Walks.{Walked}

some-both : (given : Option (List ℕ)) (P Q R : List ℕ → Type 0) → ((bytes : List ℕ) → P bytes → Q bytes → R bytes)
    → IfSome given P → IfSome given Q → IfSome given R
some-both None P Q R f p q = tt
some-both (Some xs) P Q R f p q = f xs p q

-- ---- one record more

log-last : (form : LogRequest) (count : ℕ) (pieces : List (List ℕ)) (commands : List Command) (piece : List ℕ)
    (command : Command) → AreRecords count pieces commands
    → log_bytes form count (pieces ++ piece ∷ []) (commands ++ command ∷ [])
    ≡ log_bytes form count pieces commands ++ entry_bytes form (count + length commands + 1) piece command
log-last form count [] [] piece command are =
    let same : count + 1 ≡ count + 0 + 1 = omega arith in
    append-nil (entry_bytes form (count + 1) piece command) ∙ ap (λ n. entry_bytes form n piece command) same
log-last form count [] (c ∷ cs) piece command are = absurd are
log-last form count (p ∷ ps) [] piece command are = absurd are
log-last form count (p ∷ ps) (c ∷ cs) piece command are =
    let first = entry_bytes form (count + 1) p c in
    let number : count + 1 + length cs + 1 ≡ count + length (c ∷ cs) + 1 = omega arith in
    ap (λ l. first ++ l) (log-last form (count + 1) ps cs piece command are.1)
    ∙ sym (append_assoc first (log_bytes form (count + 1) ps cs) (entry_bytes form (count + 1 + length cs + 1) piece command))
    ∙ ap (λ n. (first ++ log_bytes form (count + 1) ps cs) ++ entry_bytes form n piece command) number

log-pieces-last : (form : LogRequest) (count : ℕ) (pieces : List (List ℕ)) (base : List ℕ) (records : List (List ℕ))
    (commands : List Command) (piece : List ℕ) (command : Command)
    → pieces ≡ base ∷ records → AreRecords count records commands
    → log_of_pieces form count (pieces ++ piece ∷ []) (commands ++ command ∷ [])
    ≡ log_of_pieces form count pieces commands ++ entry_bytes form (count + length commands + 1) piece command
log-pieces-last form count pieces base records commands piece command are are_records =
    subst (λ ps. log_of_pieces form count (ps ++ piece ∷ []) (commands ++ command ∷ [])
    ≡ log_of_pieces form count ps commands ++ entry_bytes form (count + length commands + 1) piece command)
    (sym are) (log-last form count records commands piece command are_records)

module _ (form : LogRequest) (pieces : List (List ℕ)) (start : Contents) (commands : List Command) (s : Contents)
    (p : ArePerformed pieces start commands s) where
  -- the log of the pieces, by what they mean
  log-meant : log_of_pieces form start.count pieces commands ≡ log_of_pieces form p.mean.start.count pieces p.mean.commands
  log-meant =
      sym (ap (λ (t : Contents). log_of_pieces form t.count pieces p.mean.commands) p.begins
      ∙ ap (λ cs. log_of_pieces form start.count pieces cs) p.performed)

  -- the log with one piece more
  log-more : (piece : List ℕ) (command : Command)
      → log_of_pieces form start.count (pieces ++ piece ∷ []) (commands ++ command ∷ [])
      ≡ log_of_pieces form start.count pieces commands ++ entry_bytes form (s.count + 1) piece command
  log-more piece command =
      let m = p.mean in
      let from : AreRecords start.count m.records m.commands =
      subst (λ (t : Contents). AreRecords t.count m.records m.commands) p.begins m.are_records in
      let are : AreRecords start.count m.records commands = subst (AreRecords start.count m.records) p.performed from in
      let begins : m.start.count ≡ start.count = ap (λ (t : Contents). t.count) p.begins in
      let performed : length m.commands ≡ length commands = ap length p.performed in
      let number : start.count + length commands + 1 ≡ s.count + 1 =
      omega (arith, after-count m.start s m.commands m.leads, begins, performed) in
      log-pieces-last form start.count pieces m.base m.records commands piece command m.are are
      ∙ ap (λ n. log_of_pieces form start.count pieces commands ++ entry_bytes form n piece command) number

-- ---- the bytes begin with what is logged

module _ (form : LogRequest) (given left : Option (List ℕ)) (walk : Walked) (pieces : List (List ℕ)) (start : Contents)
    (commands : List Command) where
  abbrev log_here : List ℕ
  log_here = log_of_pieces form start.count pieces commands

  begins-log : SomePieces → (further : List ℕ) → HasRead given left walk further pieces start commands
      → IfSome given (λ bytes. (b : BeginsLog bytes form log_here) × (length b.pieces ≡ length pieces))
  begins-log some further r =
      known given left (concat pieces ++ further) (λ bytes. (b : BeginsLog bytes form log_here) × (length b.pieces ≡ length pieces)) r.taken
      (λ after.
      (let all = begins-with some pieces further after r.performed.closed in (
        record {
          pieces = pieces;
          further = all.0;
          rest = all.1;
          cut = all.2;
          s = walk.state;
          mean = r.performed.mean;
          is = log-meant form pieces start commands walk.state r.performed;
        },
        refl,
      )))

  begun-log : SomePieces → (further : List ℕ) → HasRead given left walk further pieces start commands
      → IfSome given (λ bytes. BeginsLog bytes form log_here)
  begun-log some further r = some-map given (λ bytes. (b : BeginsLog bytes form log_here)
      × (length b.pieces ≡ length pieces)) _ (λ bytes b. b.0) (begins-log some further r)

  whole-at : (several : Bool) → SomePieces → IsBetween given left walk pieces start commands
      → IfSome given (λ bytes. IsWholeLog several bytes (Some walk.state.count) form log_here)
  whole-at several some r =
      known given left (concat pieces ++ ahead walk.pieces) (λ bytes. IsWholeLog several bytes (Some walk.state.count) form log_here)
      r.taken
      (λ after.
      (let all = begins-with some pieces (ahead walk.pieces) after r.performed.closed in
      record {
        begins = record {
          pieces = pieces;
          further = all.0;
          rest = all.1;
          cut = all.2;
          s = walk.state;
          mean = r.performed.mean;
          is = log-meant form pieces start commands walk.state r.performed;
        };
        up_to = refl;
      }))

  whole-end : (several : Bool) → IsAtEndOf given left walk pieces start commands → IfSome given
      (λ bytes. IsWholeLog several bytes None form log_here)
  whole-end several e =
      let rest = piece_or_rest walk.pieces in
      Consumes-whole given left (concat pieces ++ rest) (λ bytes. IsWholeLog several bytes None form log_here) e.taken e.at_end
      (record {
        begins = record {
          pieces = pieces;
          further = [];
          rest = rest;
          cut = record {
            joined = ap (λ ps. concat ps ++ rest) (sym (append-nil pieces));
            closed = subst (All ClosesOnce) (sym (append-nil pieces)) e.performed.closed;
            unclosed = e.unclosed;
          };
          s = walk.state;
          mean = e.performed.mean;
          is = log-meant form pieces start commands walk.state e.performed;
        };
        up_to = (tt, inr (All-nil IsNoRecord));
      })

  whole-torn : (several : Bool) → IsTornBehind several given left walk.state pieces start commands → IfSome given
      (λ bytes. IsWholeLog several bytes None form log_here)
  whole-torn several t =
      Consumes-whole given left t.bytes (λ bytes. IsWholeLog several bytes None form log_here) t.taken t.at_end
      (record {
        begins = record {
          pieces = pieces;
          further = t.others;
          rest = t.rest;
          cut = t.cut;
          s = walk.state;
          mean = t.performed.mean;
          is = log-meant form pieces start commands walk.state t.performed;
        };
        up_to = (t.hole, t.lost);
      })

-- ---- how writing ends

module _ (form : LogRequest) (given before : Option (List ℕ)) (old : Walked) (pieces : List (List ℕ)) (start : Contents)
    (commands : List Command) (b : IsBetween given before old pieces start commands) (some : SomePieces)
    (held mid : Option (List ℕ)) (out : Appends held mid (log_of_pieces form start.count pieces commands)) where
  abbrev log : List ℕ
  log = log_of_pieces form start.count pieces commands

  -- all was written
  pub logs-all : (several : Bool) (at : Option ℕ) (left : Option (List ℕ)) (now : Walked) → Ends several at given left now pieces start
      commands
      → LogsAll several at form given left held mid
  logs-all several at left now (inr (none, t)) = record {
    log = log;
    out = out;
    whole = subst (λ a. IfSome given (λ bytes. IsWholeLog several bytes a form log)) (sym none)
        (whole-torn form given left now pieces start commands several t);
    read = (t.bytes, t.taken, t.short);
  }
  logs-all several at left now (inl (inl (is, b))) = record {
    log = log;
    out = out;
    whole = subst (λ a. IfSome given (λ bytes. IsWholeLog several bytes a form log)) (sym is)
        (whole-at form given left now pieces start commands several some b);
    read = between-read given left now pieces start commands b;
  }
  logs-all several at left now (inl (inr (none, e))) = record {
    log = log;
    out = out;
    whole = subst (λ a. IfSome given (λ bytes. IsWholeLog several bytes a form log)) (sym none)
        (whole-end form given left now pieces start commands several e);
    read = end-read given left now pieces start commands e;
  }

  -- the walk stopped
  pub stops-log : (several : Bool) (at : Option ℕ) (f : HistoryFault) → Fails several at given pieces f → StopsLog several at form given
      held mid f
  stops-log several at f fails = record {
    log = log;
    out = out;
    before = some-both given (λ bytes. RefusesReading several bytes at f × ComesAfter pieces f)
        (λ bytes. (begins : BeginsLog bytes form log) × (length begins.pieces ≡ length pieces))
        (λ bytes. LogsBefore several bytes at form log f) (before-fault f) fails
        (begins-log form given before old pieces start commands some (ahead old.pieces) b);
  }
    where
      before-fault : (f : HistoryFault) (bytes : List ℕ) → RefusesReading several bytes at f × ComesAfter pieces f
          → (begins : BeginsLog bytes form log) × (length begins.pieces ≡ length pieces) → LogsBefore several bytes at form log f
      before-fault (Damaged bad) bytes r begins = (r.0, begins.0, begins.1 ∙ r.1)
      before-fault NoSuchCommand bytes r begins = (r.0, inr begins.0)
      before-fault NotAStore bytes r begins = (r.0, inr begins.0)
      before-fault Input bytes r begins = (r.0, inr begins.0)
      before-fault OutOfMemory bytes r begins = (r.0, inr begins.0)
      before-fault Output bytes r begins = absurd r.0

  module _ (written : Option (List ℕ)) (piece : List ℕ) (command : Command) where
    abbrev entry : List ℕ
    entry = entry_bytes form (old.state.count + 1) piece command

    abbrev more : log_of_pieces form start.count (pieces ++ piece ∷ []) (commands ++ command ∷ []) ≡ log ++ entry
    more = log-more form pieces start commands old.state b.performed piece command

    -- one record more was written
    pub logged-more : Appends mid written entry
        → Appends held written (log_of_pieces form start.count (pieces ++ piece ∷ []) (commands ++ command ∷ []))
    logged-more added = subst (Appends held written) (sym more) (Appends-trans held mid written log entry out added)

    -- or less than that
    pub cuts-log : (several : Bool) (at : Option ℕ) (left : Option (List ℕ)) (now : Walked)
        → IsBetween given left now (pieces ++ piece ∷ []) start (commands ++ command ∷ [])
        → ((kept : ℕ) × (kept < length entry) × Appends mid written (take kept entry))
        → (f : HistoryFault) → f ≡ Output → StopsLog several at form given held written f
    cuts-log several at left now next part f fault =
        let all = pieces ++ piece ∷ [] in
        let made = commands ++ command ∷ [] in
        subst (StopsLog several at form given held written) (sym fault) (record {
          log = log ++ take part.0 entry;
          out = Appends-trans held mid written log (take part.0 entry) out part.2;
          before = some-map given (λ bytes. BeginsLog bytes form (log_of_pieces form start.count all made))
              (λ bytes. CutsLog bytes form (log ++ take part.0 entry))
              (λ bytes begins. record {
                before = log;
                entry = entry;
                kept = part.0;
                begins = subst (BeginsLog bytes form) more begins;
                is = refl;
                short = part.1;
              })
              (begun-log form given left now all start made some (ahead now.pieces) next);
        })

-- ---- before the first record

pub begins-empty : (form : LogRequest) (pieces : List (List ℕ)) (start : Contents) → log_of_pieces form start.count pieces [] ≡ []
begins-empty form [] start = refl
begins-empty form (base ∷ []) start = refl
begins-empty form (base ∷ (record_piece ∷ records)) start = refl

-- the walk did not begin
pub start-fails : (several : Bool) (form : LogRequest) (given held : Option (List ℕ)) (at : Option ℕ) (f : HistoryFault)
    → IfSome given (λ bytes. RefusesStart at bytes f) → StopsLog several at form given held held f
start-fails several form given held at f refused = record {
  log = [];
  out = Appends-nil held;
  before = some-map given (λ bytes. RefusesStart at bytes f) (λ bytes. LogsBefore several bytes at form [] f) not-started refused;
}
  where
    not-begun : (f : HistoryFault) (bytes : List ℕ) → RefusesSurvey bytes f → LogsBefore several bytes at form [] f
    not-begun NotAStore bytes r = (r, inl refl)
    not-begun Input bytes r = (tt, inl refl)
    not-begun OutOfMemory bytes r = (tt, inl refl)
    not-begun NoSuchCommand bytes r = absurd r
    not-begun Output bytes r = absurd r
    not-begun (Damaged bad) bytes r = absurd r

    not-started : (bytes : List ℕ) → RefusesStart at bytes f → LogsBefore several bytes at form [] f
    not-started bytes (inl r) = not-begun f bytes r
    not-started bytes (inr (is, number, asked, starts)) =
        subst (LogsBefore several bytes at form []) (sym is)
        (subst (λ a. RefusesReading several bytes a NoSuchCommand) (sym asked) (inl starts), inl refl)
