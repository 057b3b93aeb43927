-- What was read so far of an input, and how a session ends at it.
use Rattle.std.{proofs.Common.{◌≡◌, refl, sym, ◌∙◌, ap, subst, arith, ◌≤◌, append_assoc, length-append}, specs.Prelude.{ℕ, ◌+◌, Bool, true}}
use Rattle.std.specs.Prelude.{false, List, [], ◌∷◌, ◌++◌, length, take, Option, None, Ok, Err}
use Rattle.conf_session.proofs.Prelude.{concat, Appends, Consumes, Appends-nil, Appends-trans, Consumes-nil, Consumes-trans, append-nil}
use Rattle.conf_session.proofs.Prelude.{take-append-le, take_all, concat-append, All-nil, All-append, ClosesOnce}
use Rattle.conf_session.specs.Input.{piece_or_rest as piece_of, session_limit, IsSound, ahead, bytes_read, AdvancesToPiece, AdvancesToEnd}
use Rattle.conf_session.specs.{Input.{FailsToRead, FindsTooLong, FindsSessionLong, RunsOutOfMemory, Advances}, Said.piece_limit}
use Rattle.conf_session.specs.declared.{fault.SessionFault.SessionFault, input.Input.Input, unwritten.Unwritten.Unwritten}
use Rattle.conf_session.specs.{declared.session.Tally.Tally, Requests.{Request, AllAsk}, Answers.{Stored, output, accepted_commands}}
use Rattle.conf_session.specs.{Answers.refusals, Gathering.{HasRoomFor, SendsAnswers, last_bytes, unwritten_bytes}, Streams.streams_of}
use Rattle.conf_session.specs.Runs.{ArePieces, TakesUp, BeginsWith, EndsAnswered, EndsEarly}
use Rattle.conf_session.specs.declared.fault.SessionFault.TheVariants as fault

-- ---- pieces

pub none-are : ArePieces [] []
none-are = record { closed = All-nil ClosesOnce; short = All-nil (λ (p : List ℕ). length p ≤ piece_limit); ask = tt }

asks-joined : (ps qs : List (List ℕ)) (rs ss : List Request) → AllAsk ps rs → AllAsk qs ss → AllAsk (ps ++ qs) (rs ++ ss)
asks-joined [] qs [] ss all more = more
asks-joined [] qs (r ∷ rs) ss all more = absurd all
asks-joined (p ∷ ps) qs [] ss all more = absurd all
asks-joined (p ∷ ps) qs (r ∷ rs) ss all more = (all.0, asks-joined ps qs rs ss all.1 more)

pieces-joined : (ps qs : List (List ℕ)) (rs ss : List Request) → ArePieces ps rs → ArePieces qs ss → ArePieces (ps ++ qs) (rs ++ ss)
pieces-joined ps qs rs ss are more = record {
  closed = All-append ClosesOnce ps qs are.closed more.closed;
  short = All-append (λ (p : List ℕ). length p ≤ piece_limit) ps qs are.short more.short;
  ask = asks-joined ps qs rs ss are.ask more.ask;
}

-- more bytes were read
taken-more : (given mid left : Option (List ℕ)) (prefix further more : List ℕ)
    → Consumes given mid (prefix ++ further) → Consumes mid left more → Consumes given left (prefix ++ (further ++ more))
taken-more given mid left prefix further more one two =
    subst (Consumes given left) (append_assoc prefix further more) (Consumes-trans given mid left (prefix ++ further) more one two)

-- nothing was read and answered
pub nothing-read : (given held : Option (List ℕ)) → EndsEarly (streams_of given given held held) [] [] []
nothing-read given held = record {
  bytes = [];
  taken = Consumes-nil given;
  begins = record { further = []; takes = record { pieces = []; joined = refl; are = none-are } };
  out = Appends-nil held;
}

-- ---- so far

-- The bytes that were read are pieces that ask for these requests, whose answers are written, and further bytes.
pub record ReadSoFar (given left held written : Option (List ℕ)) (requests : List Request) (answers : List ℕ) (accepted refused : ℕ)
    (further : List ℕ) (kept : Unwritten) (total : ℕ) : Type 0 where
  pub pieces : List (List ℕ)
  pub taken : Consumes given left (concat pieces ++ further)
  pub are : ArePieces pieces requests
  pub out : Appends held written answers
  pub documents : kept.tally.documents ≡ length requests
  pub accepts : kept.tally.accepted ≡ accepted
  pub refuses : kept.tally.refused ≡ refused
  pub sent : kept.written ≡ length answers
  pub read : total ≡ length (concat pieces ++ further)

-- before the first piece
pub read-none : (given held : Option (List ℕ)) (further : List ℕ) (kept : Unwritten) (total : ℕ) → further ≡ []
    → kept.tally.documents ≡ 0 → kept.tally.accepted ≡ 0 → kept.tally.refused ≡ 0 → kept.written ≡ 0 → total ≡ 0
    → ReadSoFar given given held held [] [] 0 0 further kept total
read-none given held further kept total none d a r w t = record {
  pieces = [];
  taken = subst (Consumes given given) (sym none) (Consumes-nil given);
  are = none-are;
  out = Appends-nil held;
  documents = d;
  accepts = a;
  refuses = r;
  sent = w;
  read = t ∙ ap length (sym none);
}

-- the same in other words
pub read-as : (given left held written : Option (List ℕ)) (requests rs : List Request) (answers bytes : List ℕ)
    (accepted a refused r : ℕ) (further : List ℕ) (kept : Unwritten) (total : ℕ)
    → requests ≡ rs → answers ≡ bytes → accepted ≡ a → refused ≡ r
    → ReadSoFar given left held written requests answers accepted refused further kept total
    → ReadSoFar given left held written rs bytes a r further kept total
read-as given left held written requests rs answers bytes accepted a refused r further kept total same out accepts refuses s = record {
  pieces = s.pieces;
  taken = s.taken;
  are = subst (ArePieces s.pieces) same s.are;
  out = subst (Appends held written) out s.out;
  documents = s.documents ∙ ap length same;
  accepts = s.accepts ∙ accepts;
  refuses = s.refuses ∙ refuses;
  sent = s.sent ∙ ap length out;
  read = s.read;
}

-- a session ends as it stands
pub ends-here : (given left held written : Option (List ℕ)) (requests : List Request) (answers : List ℕ)
    (accepted refused : ℕ) (further : List ℕ) (kept : Unwritten) (total : ℕ)
    → ReadSoFar given left held written requests answers accepted refused further kept total
    → EndsEarly (streams_of given left held written) requests [] answers
ends-here given left held written requests answers accepted refused further kept total s = record {
  bytes = concat s.pieces ++ further;
  taken = s.taken;
  begins = record {
    further = further;
    takes =
        record { pieces = s.pieces; joined = refl; are = subst (ArePieces s.pieces) (sym (append-nil requests)) s.are };
  };
  out = s.out;
}

module _ (given mid left held between : Option (List ℕ)) (requests : List Request) (answers : List ℕ)
    (accepted refused : ℕ) (was then : Input) (kept : Unwritten)
    (s : ReadSoFar given mid held between requests answers accepted refused (ahead was) kept (bytes_read was)) where
  -- ---- how a session ends at its input

  -- all was read
  pub ends-well : (tally : Tally) → AdvancesToEnd mid left was then
      → tally.documents ≡ kept.tally.documents → tally.accepted ≡ kept.tally.accepted
      → tally.refused ≡ kept.tally.refused → tally.rest ≡ length (piece_of then)
      → EndsAnswered (streams_of given left held between) requests answers accepted refused (Ok tally)
  ends-well tally end d a r rest = record {
    bytes = concat s.pieces ++ (ahead was ++ end.more);
    rest = piece_of then;
    taken = taken-more given mid left (concat s.pieces) (ahead was) end.more s.taken end.taken;
    at_end = end.at_end;
    within = (let total = s.read in let size = length-append (concat s.pieces) (ahead was ++ end.more) in
        let prefix = length-append (concat s.pieces) (ahead was) in
        let back = length-append (ahead was) end.more in let few = end.total in omega (arith, total, size, prefix, back, few));
    input = record {
      pieces = s.pieces;
      cut = record { joined = ap (λ l. concat s.pieces ++ l) end.joined; closed = s.are.closed; unclosed = end.unclosed };
      are = s.are;
      short = end.short;
    };
    out = s.out;
    documents = d ∙ s.documents;
    accepts = a ∙ s.accepts;
    refuses = r ∙ s.refuses;
    unclosed = rest;
  }

  ends-reading : FailsToRead mid left was → EndsAnswered
      (streams_of given left held between) requests answers accepted refused (Err fault.Read)
  ends-reading fails = record {
    bytes = concat s.pieces ++ (ahead was ++ fails.more);
    taken = taken-more given mid left (concat s.pieces) (ahead was) fails.more s.taken fails.taken;
    shows = record {
      rest = ahead was ++ fails.more;
      input = record {
        pieces = s.pieces;
        cut = record {
          joined = refl;
          closed = s.are.closed;
          unclosed = fails.unclosed;
        };
        are = s.are;
        short = fails.short;
      };
    };
    out = s.out;
  }

  ends-too_long : FindsTooLong mid left was → EndsAnswered
      (streams_of given left held between) requests answers accepted refused (Err fault.TooLong)
  ends-too_long finds = record {
    bytes = concat s.pieces ++ (ahead was ++ finds.more);
    taken = taken-more given mid left (concat s.pieces) (ahead was) finds.more s.taken finds.taken;
    shows = record {
      begins = record {
        further = ahead was ++ finds.more;
        takes = record { pieces = s.pieces; joined = refl; are = s.are };
      };
      overlong = finds.overlong;
    };
    out = s.out;
  }

  ends-session_long : FindsSessionLong mid left was
      → EndsAnswered (streams_of given left held between) requests answers accepted refused (Err fault.SessionLong)
  ends-session_long finds =
      let rest = ahead was ++ finds.more in
      let prefix = concat s.pieces ++ rest in
      let bytes = concat s.pieces ++ (ahead was ++ (finds.more ++ finds.beyond)) in
      let split : bytes ≡ prefix ++ finds.beyond =
      ap (λ l. concat s.pieces ++ l) (sym (append_assoc (ahead was) finds.more finds.beyond))
      ∙ sym (append_assoc (concat s.pieces) rest finds.beyond) in
      let size : length prefix ≡ session_limit =
      (let total = s.read in let full = finds.full in let one = length-append (concat s.pieces) rest in
      let two = length-append (concat s.pieces) (ahead was) in
      let three = length-append (ahead was) finds.more in omega (arith, total, full, one, two, three)) in
      let within : take session_limit bytes ≡ prefix =
      ap (take session_limit) split ∙ take-append-le session_limit prefix finds.beyond (omega (arith, size))
      ∙ take_all session_limit prefix (omega (arith, size)) in
      record {
        bytes = bytes;
        taken = taken-more given mid left (concat s.pieces) (ahead was) (finds.more ++ finds.beyond) s.taken finds.taken;
        shows = record {
          input = record {
            rest = rest;
            input = record {
              pieces = s.pieces;
              cut =
                  record { joined = within; closed = s.are.closed; unclosed = finds.unclosed };
              are = s.are;
              short = finds.short;
            };
          };
          long = (let all = ap length split in let more = length-append prefix finds.beyond in
              let some = finds.some in omega (arith, all, more, size, some));
        };
        out = s.out;
      }

  -- the bytes that were read begin with the pieces that are answered
  answered-begins : (further : List ℕ) → BeginsWith (concat s.pieces ++ further) (requests ++ [])
  answered-begins further = record {
    further = further;
    takes = record { pieces = s.pieces; joined = refl; are = subst (ArePieces s.pieces) (sym (append-nil requests)) s.are };
  }

  ends-starved : RunsOutOfMemory mid left → EndsAnswered
      (streams_of given left held between) requests answers accepted refused (Err fault.OutOfMemory)
  ends-starved out = record {
    bytes = concat s.pieces ++ (ahead was ++ out.more);
    taken = taken-more given mid left (concat s.pieces) (ahead was) out.more s.taken out.taken;
    begins = answered-begins (ahead was ++ out.more);
    out = s.out;
  }

  -- the input has no further piece for a reason
  pub ends-in_input : (f : SessionFault) → Advances mid left was then (Err f)
      → EndsAnswered (streams_of given left held between) requests answers accepted refused (Err f)
  ends-in_input fault.Read fails = ends-reading fails
  ends-in_input fault.TooLong fails = ends-too_long fails
  ends-in_input fault.SessionLong fails = ends-session_long fails
  ends-in_input fault.OutOfMemory fails = ends-starved fails
  ends-in_input fault.Device fails = absurd fails
  ends-in_input fault.Reopen fails = absurd fails
  ends-in_input (fault.Write written) fails = absurd fails

  -- ---- further pieces

  module _ (advances : AdvancesToPiece mid left was then) where
    -- there was a further piece, and nothing came of it
    pub ends-before : EndsEarly (streams_of given left held between) requests [] answers
    ends-before = record {
      bytes = concat s.pieces ++ (ahead was ++ advances.more);
      taken = taken-more given mid left (concat s.pieces) (ahead was) advances.more s.taken advances.taken;
      begins = answered-begins (ahead was ++ advances.more);
      out = s.out;
    }

    module _ (further : List ℕ) (rs : List Request) (takes : TakesUp (piece_of then ++ ahead then) further rs) where
      -- what was read, with these pieces after the others
      joined-more : concat s.pieces ++ (ahead was ++ advances.more) ≡ concat (s.pieces ++ takes.pieces) ++ further
      joined-more =
          ap (λ l. concat s.pieces ++ l) (advances.joined ∙ takes.joined)
          ∙ sym (append_assoc (concat s.pieces) (concat takes.pieces) further)
          ∙ ap (λ l. l ++ further) (sym (concat-append s.pieces takes.pieces))

      pub all-taken : Consumes given left (concat (s.pieces ++ takes.pieces) ++ further)
      all-taken = subst (Consumes given left) joined-more
          (taken-more given mid left (concat s.pieces) (ahead was) advances.more s.taken advances.taken)

      pub all-are : ArePieces (s.pieces ++ takes.pieces) (requests ++ rs)
      all-are = pieces-joined s.pieces takes.pieces requests rs s.are takes.are

      all-read : bytes_read then ≡ length (concat (s.pieces ++ takes.pieces) ++ further)
      all-read = (let all = ap length joined-more in let before = s.read in let grown = advances.total in
          let one = length-append (concat s.pieces) (ahead was ++ advances.more) in let two = length-append (concat s.pieces) (ahead was) in
          let three = length-append (ahead was) advances.more in omega (arith, all, before, grown, one, two, three))

      -- they have no answers
      pub ends-unanswered : (written : Option (List ℕ)) → Appends held written answers
          → EndsEarly (streams_of given left held written) requests rs answers
      ends-unanswered written out = record {
        bytes = concat (s.pieces ++ takes.pieces) ++ further;
        taken = all-taken;
        begins = record { further = further; takes = record { pieces = s.pieces ++ takes.pieces; joined = refl; are = all-are } };
        out = out;
      }

    -- and all their answers are written
    pub read-more : (written : Option (List ℕ)) (further : List ℕ) (start : Stored) (rs : List Request)
        (after : Unwritten) → SendsAnswers between written (piece_of then ++ ahead then) further start rs kept after
        → ReadSoFar given left held written (requests ++ rs) (answers ++ output start rs)
        (accepted + length (accepted_commands start rs)) (refused + refusals start rs) further after (bytes_read then)
    read-more written further start rs after sends = record {
      pieces = s.pieces ++ sends.takes.pieces;
      taken = all-taken further rs sends.takes;
      are = all-are further rs sends.takes;
      out = Appends-trans held between written answers (output start rs) s.out sends.out;
      documents = (let sum = length-append requests rs in omega (arith, sends.documents, s.documents, sum));
      accepts = (let a = s.accepts in omega (arith, sends.accepted, a));
      refuses = (let r = s.refuses in omega (arith, sends.refused, r));
      sent = (let sum = length-append answers (output start rs) in let before = s.sent in omega (arith, sends.sent, before, sum));
      read = all-read further rs sends.takes;
    }

-- a piece has at least one byte, so less of the input is left after it
pub longer-piece : (given left : Option (List ℕ)) (was next : Input) → AdvancesToPiece given left was next
    → bytes_read was + length (ahead next) + 4 ≤ bytes_read next + length (ahead was)
longer-piece given left was next advances =
    let joined = ap length advances.joined in
    let one = length-append (ahead was) advances.more in
    let two = length-append (piece_of next) (ahead next) in
    let piece = advances.piece.closes.ends in
    let grown = advances.total in
    omega (arith, joined, one, two, piece, grown)

-- where no answer was made, none is kept
pub none-unwritten : (answers : Unwritten) → answers.text.items ≡ [] → answers.last ≡ None → unwritten_bytes answers ≡ []
none-unwritten answers text last = ap (λ l. l ++ last_bytes answers.last) text ∙ ap last_bytes last

-- there is room before anything is read
pub room-none : (input : Input) (answers : Unwritten) → IsSound input → ahead input ≡ [] → bytes_read input ≡ 0
    → answers.text.items ≡ [] → answers.last ≡ None
    → answers.tally.documents ≡ 0 → answers.tally.accepted ≡ 0 → answers.tally.refused ≡ 0 → answers.written ≡ 0
    → HasRoomFor answers (length (ahead input)) (bytes_read input)
room-none input answers sound start read text last documents accepted refused written =
    let none = ap length start in
    let empty = ap length text in
    let unwritten = ap length (none-unwritten answers text last) in
    record {
      within = omega (arith, empty);
      few = omega (arith, documents, none, read);
      limit = sound.total;
      accepted = omega (arith, documents, accepted);
      refused = omega (arith, documents, refused);
      out = omega (arith, documents, written, unwritten);
    }

-- an advance that tells of a piece is at one
pub at-piece : (given left : Option (List ℕ)) (was next : Input) (more : Bool)
    → Advances given left was next (Ok more) → more ≡ true → AdvancesToPiece given left was next
at-piece given left was next true advances is = advances
at-piece given left was next false advances is = cc

-- one that tells of none is at the end
pub at-end : (given left : Option (List ℕ)) (was next : Input) (more : Bool) → Advances given left was next (Ok more)
    → more ≡ false → AdvancesToEnd given left was next
at-end given left was next true advances is = cc
at-end given left was next false advances is = advances

-- there is room for the answers to what was read now
pub room-read : (given left : Option (List ℕ)) (was next : Input) (kept : Unwritten)
    → HasRoomFor kept (length (ahead was)) (bytes_read was) → AdvancesToPiece given left was next
    → HasRoomFor kept (length (piece_of next ++ ahead next)) (bytes_read next)
room-read given left was next kept room advances =
    let joined = ap length advances.joined in
    let one = length-append (ahead was) advances.more in
    let grown = advances.total in
    record {
      within = room.within;
      few = (let few = room.few in omega (arith, joined, one, grown, few));
      limit = advances.sound.total;
      accepted = room.accepted;
      refused = room.refused;
      out = room.out;
    }
