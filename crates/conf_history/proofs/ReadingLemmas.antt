-- A walk up to a number: how it goes on, and each way in which it ends.
use Rattle.std.{proofs.Common.{◌≡◌, ◌≢◌, inl, inr, refl, sym, ◌∙◌, ap, subst, arith, ◌<◌, ◌≤◌, length-append}, specs.Prelude.{ℕ, ◌+◌, ◌-◌}}
use Rattle.std.specs.Prelude.{Bool, true, List, [], ◌∷◌, ◌++◌, length, Option, Some, None, Ok, IfSome, IfErr, false}
use Rattle.conf_history.proofs.Prelude.{Means, NoZeroByte, concat, ClosesOnce, Enough, SomePieces, Command, Contents, IsState, ahead}
use Rattle.conf_history.proofs.{Prelude.{piece_or_rest, step-one, store_limit, IsNoRecord, zero-no-record}, WalkLemmas.bad-followed}
use Rattle.conf_history.proofs.WalkLemmas.{torn-followed, torn-means, any-bytes, some-map, concat-last, closed-some, end-means, end-read}
use Rattle.conf_history.{proofs.WalkLemmas.{between-read, performs-on, up-to}, specs.Histories.{HoldsAt, IsBadAt, ReadsState}}
use Rattle.conf_history.specs.{Histories.{RefusesReading, RefusesSurvey, IsOfKind}, Following.Follow, declared.following.BadKind.BadKind}
use Rattle.conf_history.specs.declared.{following.{BadKind.TheVariants.{Torn, Unexpected}, Following.Following}, place.BadPiece.BadPiece}
use Rattle.conf_history.specs.declared.fault.HistoryFault.{HistoryFault, TheVariants.{Input, Output, NotAStore, Damaged, NoSuchCommand}}
use Rattle.conf_history.specs.{declared.fault.HistoryFault.TheVariants.OutOfMemory, Walks.{ComesAfter, Ends, Fails, end_at_bad, AfterGoing}}
use Rattle.conf_history.specs.Walks.{Goes, HasEnded, IsAtEndOf, IsAtPiece, IsBetween, IsOn, LacksPiece, Performs, RefusesPiece}
use Rattle.{conf_history.specs.Walks.{RefusesStart, Stops, Walked}, yaml_docs.specs.declared.pieces.Pieces.Pieces as Reading}

-- a number that is not passed and not reached, if there is one, is greater
below-number : (at : Option ℕ) (count : ℕ) → (at ≢ Some count) → IfSome at (λ number. count ≤ number)
    → IfSome at (λ number. count < number)
below-number None count ne up_to = tt
below-number (Some number) count ne up_to = below count number up_to (λ e. ne (ap Some (sym e)))
  where
    below : (a n : ℕ) → a ≤ n → (a ≡ n → ⊥) → a < n
    below a n le ne = grind (arith, le, ne)

-- nor is it passed by the next count
next-number : (at : Option ℕ) (count next : ℕ) → next ≡ count + 1 → IfSome at (λ number. count < number)
    → IfSome at (λ number. next ≤ number)
next-number None count next one below = tt
next-number (Some number) count next one below = omega (arith, one, below)

-- what cannot be surveyed cannot be read
pub survey-reading : (several : Bool) (bytes : List ℕ) (at : Option ℕ) (f : HistoryFault) → RefusesSurvey bytes f → RefusesReading
    several bytes at f
survey-reading several bytes at NotAStore r = r
survey-reading several bytes at Input r = tt
survey-reading several bytes at OutOfMemory r = tt
survey-reading several bytes at Output r = absurd r
survey-reading several bytes at (Damaged bad) r = absurd r
survey-reading several bytes at NoSuchCommand r = absurd r

pub refuses-start : (several : Bool) (given : Option (List ℕ)) (at : Option ℕ) (f : HistoryFault)
    → IfSome given (λ bytes. RefusesStart at bytes f) → IfSome given (λ bytes. RefusesReading several bytes at f)
refuses-start several given at f = some-map given _ _ (refused at f)
  where
    refused : (at : Option ℕ) (f : HistoryFault) (bytes : List ℕ) → RefusesStart at bytes f → RefusesReading several bytes at f
    refused at f bytes (inl r) = survey-reading several bytes at f r
    refused at f bytes (inr (is, number, asked, starts)) =
        subst (RefusesReading several bytes at) (sym is)
        (subst (λ a. RefusesReading several bytes a NoSuchCommand) (sym asked) (inl starts))

-- one more piece is fewer bytes that are left
pub goes-further : (given mid left : Option (List ℕ)) (old new : Walked) (pieces : List (List ℕ)) (piece : List ℕ)
    (start : Contents) (commands others : List Command) → IsBetween given mid old pieces start commands
    → ClosesOnce piece → IsBetween given left new (pieces ++ piece ∷ []) start others
    → store_limit - new.place.byte < store_limit - old.place.byte
goes-further given mid left old new pieces piece start commands others b closes next =
    let all = pieces ++ piece ∷ [] in
    omega (
      arith,
      b.place.byte,
      next.place.byte,
      next.total,
      next.limits.total,
      length-append (concat all) (ahead new.pieces),
      ap length (concat-last pieces piece),
      length-append (concat pieces) piece,
      closed-some piece closes,
    )

-- what follows can't be had
pub fails-lacking : (several : Bool) (given : Option (List ℕ)) (at : Option ℕ) (pieces : List (List ℕ)) (f : HistoryFault)
    → IfSome given (λ bytes. RefusesSurvey bytes f) → Fails several at given pieces f
fails-lacking several given at pieces f = some-map given _ (λ bytes. RefusesReading several bytes at f × ComesAfter pieces f) (lacking f)
  where
    lacking : (f : HistoryFault) (bytes : List ℕ) → RefusesSurvey bytes f → RefusesReading several bytes at f × ComesAfter pieces f
    lacking NotAStore bytes r = (r, tt)
    lacking Input bytes r = (tt, tt)
    lacking OutOfMemory bytes r = (tt, tt)
    lacking Output bytes r = absurd r
    lacking (Damaged bad) bytes r = absurd r
    lacking NoSuchCommand bytes r = absurd r

module _ (at : Option ℕ) (given left : Option (List ℕ)) (walk : Walked) (pieces : List (List ℕ)) (start : Contents)
    (commands : List Command) where
  -- the next piece can't be had
  pub stops-before : (f : HistoryFault) → LacksPiece given f → Stops at given left walk pieces start commands f
  stops-before (Damaged bad) r = absurd r
  stops-before NoSuchCommand r = absurd r
  stops-before NotAStore r = r
  stops-before Input r = r
  stops-before Output r = r
  stops-before OutOfMemory r = r

  -- it can, and the number is not reached
  pub goes-to-piece : (at ≢ Some walk.state.count) → IfSome at (λ number. walk.state.count ≤ number)
      → IsAtPiece given left walk pieces start commands → AfterGoing at given left walk pieces start commands (Ok true)
  goes-to-piece ne up_to p = (below-number at walk.state.count ne up_to, p)

  -- the file ends before the number
  pub stops-at-end : (number : ℕ) → at ≡ Some number → (at ≢ Some walk.state.count) → IfSome at (λ number. walk.state.count ≤ number)
      → IsAtEndOf given left walk pieces start commands → Stops at given left walk pieces start commands NoSuchCommand
  stops-at-end number asked ne up_to e =
      let above : walk.state.count < number = subst (λ a. IfSome a (λ number. walk.state.count < number)) asked
      (below-number at walk.state.count ne up_to) in
      (number, asked, above, e)

  -- the piece is not the next record
  pub stops-at-piece : IfSome at (λ number. walk.state.count < number) → IsAtPiece given left walk pieces start commands
      → (f : HistoryFault) → RefusesPiece walk f → Stops at given left walk pieces start commands f
  stops-at-piece below p (Damaged bad) r = (p, r, below)
  stops-at-piece below p OutOfMemory r = any-bytes given _ (λ bytes. tt)
  stops-at-piece below p NoSuchCommand r = absurd r
  stops-at-piece below p NotAStore r = absurd r
  stops-at-piece below p Input r = absurd r
  stops-at-piece below p Output r = absurd r

  -- the piece is performed
  pub goes : IfSome at (λ number. walk.state.count < number) → IsAtPiece given left walk pieces start commands
      → (new : Walked) (tells : Command → Type 0) (command : Command) → Performs walk new command → tells command
      → Goes at given left new tells pieces start commands
  goes below p new tells command done told =
      let Read : Reading → Type 0 = λ now. IsOn at given left new (pieces ++ piece_or_rest now ∷ []) start (commands ++ command ∷ []) in
      record {
        command = command;
        closes = subst (λ (p : Reading). ClosesOnce (piece_or_rest p)) (sym done.pieces) p.piece;
        on = subst Read (sym done.pieces) (record {
          between = performs-on given left walk pieces start commands p new command done;
          up_to = next-number at walk.state.count new.state.count
              (step-one walk.state new.state command Enough done.done) below;
        });
        told = told;
      }

  -- ---- what it means that the walk has ended, or stopped

  -- a walk that has stopped, and not at a bad piece
  pub fails-stop : (several : Bool) (f : HistoryFault) → ((bad : BadPiece) → f ≡ Damaged bad → ⊥) → Stops at given left walk pieces start
      commands f
      → Fails several at given pieces f
  fails-stop several (Damaged bad) other s = absurd (other bad refl)
  fails-stop several NoSuchCommand other s =
      subst (λ a. Fails several a given pieces NoSuchCommand) (sym s.1)
      (some-map given _ (λ bytes. RefusesReading several bytes (Some s.0) NoSuchCommand × ComesAfter pieces NoSuchCommand)
      (λ bytes m. (inr (walk.state, m, s.2), tt)) (end-means given left walk pieces start commands several s.3))
  fails-stop several NotAStore other s = fails-lacking several given at pieces NotAStore s
  fails-stop several Input other s = fails-lacking several given at pieces Input s
  fails-stop several Output other s = fails-lacking several given at pieces Output s
  fails-stop several OutOfMemory other s = fails-lacking several given at pieces OutOfMemory s

  -- the state
  pub reads-state : (several : Bool) → SomePieces → Ends several at given left walk pieces start commands → IsState walk.state
      → ReadsState several given left at walk.state
  reads-state several some (inr (none, t)) kept = record {
    holds = subst (λ a. IfSome given (λ bytes. HoldsAt several bytes a walk.state)) (sym none)
        (torn-means several given left walk.state pieces start commands t);
    kept = kept;
    read = (t.bytes, t.taken, t.short);
    whole = λ none. t.at_end;
  }
  reads-state several some (inl (inl (is, b))) kept = record {
    holds = subst (λ a. IfSome given (λ bytes. HoldsAt several bytes a walk.state)) (sym is)
        (up-to given left walk pieces start commands some b walk.state.count refl);
    kept = kept;
    read = between-read given left walk pieces start commands b;
    whole = λ none. (let both : Some walk.state.count ≡ None = sym is ∙ none in absurd (cc both));
  }
  reads-state several some (inl (inr (none, e))) kept = record {
    holds = subst (λ a. IfSome given (λ bytes. HoldsAt several bytes a walk.state)) (sym none)
        (end-means given left walk pieces start commands several e);
    kept = kept;
    read = end-read given left walk pieces start commands e;
    whole = λ none. e.at_end;
  }

-- why not all can be read
pub fails-reading : (several : Bool) (given : Option (List ℕ)) (at : Option ℕ) (pieces : List (List ℕ)) (f : HistoryFault) → Fails
    several at given pieces f
    → IfSome given (λ bytes. RefusesReading several bytes at f)
fails-reading several given at pieces f = some-map given (λ bytes. RefusesReading several bytes at f × ComesAfter pieces f) _
    (λ bytes r. r.0)

-- without a number, at the end of the file
pub ended-whole : (given left : Option (List ℕ)) (walk : Walked) (pieces : List (List ℕ)) (start : Contents)
    (commands : List Command) → HasEnded None given left walk pieces start commands
    → IsAtEndOf given left walk pieces start commands
ended-whole given left walk pieces start commands (inl (is, b)) = absurd (cc is)
ended-whole given left walk pieces start commands (inr (none, e)) = e

-- ---- a bad piece, and what follows it

module _ (several : Bool) (at : Option ℕ) (given mid left : Option (List ℕ)) (walk : Walked) (pieces : List (List ℕ)) (start : Contents)
    (commands : List Command) (bad : BadPiece) (stops : Stops at given mid walk pieces start commands (Damaged bad))
    (now : Reading) (following : Following)
    (f : Follow several given left (concat pieces ++ piece_or_rest walk.pieces) (piece_or_rest walk.pieces) now following) where
  -- no crash left it
  pub fails-bad : following.kind ≡ Unexpected → Fails several at given pieces (Damaged bad)
  fails-bad is =
      some-map given (λ bytes. (n : ℕ) × IsBadAt several bytes walk.state bad n)
      (λ bytes. RefusesReading several bytes at (Damaged bad) × ComesAfter pieces (Damaged bad))
      (λ bytes b. ((walk.state, b.0, b.1, stops.2), stops.0.read.place.number ∙ stops.1.number))
      (bad-followed several given mid left walk pieces start commands stops.0 now following f is bad stops.1)

  -- a crash may have left it, and the number is not reached
  pub fails-torn : NoZeroByte → following.kind ≡ Torn → (number : ℕ) → at ≡ Some number → Fails several at given pieces NoSuchCommand
  fails-torn law is number asked =
      subst (λ a. Fails several a given pieces NoSuchCommand) (sym asked)
      (some-map given (λ bytes. Means several bytes walk.state)
      (λ bytes. RefusesReading several bytes (Some number) NoSuchCommand × ComesAfter pieces NoSuchCommand)
      (λ bytes m. (inr (walk.state, m, subst (λ a. IfSome a (λ number. walk.state.count < number)) asked stops.2), tt))
      (torn-means several given left walk.state pieces start commands
      (torn-followed several given mid left walk pieces start commands stops.0 now following f law is)))

  -- what is found there
  pub fails-at : NoZeroByte → (kind : BadKind) → following.kind ≡ kind → (asked : Option ℕ) → at ≡ asked
      → IfErr (end_at_bad bad kind asked) (Fails several at given pieces)
  fails-at law Unexpected is asked same = fails-bad is
  fails-at law Torn is (Some number) same = fails-torn law is number same
  fails-at law Torn is None same = tt

  pub torn-at : (kind : BadKind) → following.kind ≡ kind → (asked : Option ℕ) → at ≡ asked → end_at_bad bad kind asked ≡ Ok false
      → (at ≡ None) × (following.kind ≡ Torn)
  torn-at Unexpected is asked same e = absurd (cc e)
  torn-at Torn is (Some number) same e = absurd (cc e)
  torn-at Torn is None same e = (same, is)

  -- the piece is no record
  pub torn-none : NoZeroByte → following.kind ≡ Torn → IsNoRecord (piece_or_rest walk.pieces)
  torn-none law is =
      let kind : IsOfKind several Torn (piece_or_rest walk.pieces) f.further =
      subst (λ kind. IsOfKind several kind (piece_or_rest walk.pieces) f.further) is f.kind in
      zero-no-record law (piece_or_rest walk.pieces) kind.0
