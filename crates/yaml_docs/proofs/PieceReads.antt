-- Reading on to the next piece.
use Rattle.std.proofs.Common.{◌≡◌, ℕ, ◌+◌, ◌-◌, ◌≤◌, ◌<◌, Bool, true, false, List, [], ◌++◌, length, take, drop, refl, sym, ap, ◌∙◌, subst}
use Rattle.std.proofs.{Common.{arith, append_assoc, length-append, length-drop, take-append-drop, length-take-le}, KnownBytes.Consumes-nil}
use Rattle.std.{proofs.KnownBytes.Consumes-trans, specs.Prelude.{Option, Result, Ok, Err, slice_range}}
use Rattle.yaml_docs.proofs.{Prelude.{Consumes, append-nil, drop-drop, drop-take, take_all, ClosesAt, ClosesOnce}, ClosingLines.lies_within}
use Rattle.yaml_docs.{proofs.CutLines.closes-shorter, specs.declared.{cutter.Fed.Fed, pieces.{Pieces.Pieces, PiecesFault.PiecesFault}}}
use Rattle.yaml_docs.specs.{Cutting.{Held, Unclosed, Takes, Overfeeds}, PieceReading.{piece_limit, input_limit, ahead, piece_or_rest}}
use Rattle.yaml_docs.specs.PieceReading.{IsSound, IsOverlong, Feeds, Fills, Advances, FeedsAll, FillsSome, FillsNone, FillsBeyond}
use Rattle.yaml_docs.specs.PieceReading.{FeedsPiece, AdvancesToPiece, AdvancesToEnd, FailsToRead, FindsTooLong, FindsInputLong}
use Rattle.yaml_docs.specs.PieceReading.{HasPieceAhead, AdvancesWithin, AdvancesAhead}
use Rattle.yaml_docs.specs.Cutting as cutting
use Rattle.yaml_docs.specs.declared.pieces.PiecesFault.TheVariants as fault

-- an empty text contains no closing line
pub unclosed-none : Unclosed []
unclosed-none place c = (let within = lies_within [] place c in omega (arith, within, c.ends))

-- where too many bytes would be taken
pub overlong : (longest : ℕ) (old more : List ℕ) (taken : ℕ) (closed : Bool) → Takes old more taken closed
    → longest + 1 ≤ length old + taken → IsOverlong longest (old ++ more)
overlong longest old more taken true takes long =
    let piece = old ++ take taken more in
    let size : length piece ≡ length old + taken = length-append old (take taken more)
    ∙ ap (λ n. length old + n) (length-take-le taken more takes.0) in
    let split : old ++ more ≡ piece ++ drop taken more = ap (λ l. old ++ l) (sym (take-append-drop taken more))
    ∙ sym (append_assoc old (take taken more) (drop taken more)) in
    let rest = length-append piece (drop taken more) in
    let all = ap length split in
    record {
      unclosed = λ place le closes.
          (let here : ClosesAt piece place = closes-shorter piece (drop taken more) place
          (subst (λ l. ClosesAt l place) split closes) (omega (arith, le, long, size)) in
          let at = takes.1.once place here in
          omega (arith, at, le, long, size));
      long = omega (arith, all, rest, size, long);
    }
overlong longest old more taken false takes long =
    record { unclosed = λ place le. takes.1 place; long = (let all = length-append old more in omega (arith, all, long, takes.0)) }

-- ---- the bytes of a range

-- a range of a list starts and ends at its places
pub range-length : (xs : List ℕ) (start end : ℕ) → start ≤ end → end ≤ length xs → start + length (slice_range xs start end) ≡ end
range-length xs start end le within =
    let size = length-take-le (end - start) (drop start xs) (let rest = length-drop start xs in omega (arith, rest, within)) in
    omega (arith, size, le)

-- a range is what was taken of it, and then what is left
pub range-split : (xs : List ℕ) (start end taken : ℕ) → start ≤ end → end ≤ length xs → taken ≤ length (slice_range xs start end)
    → slice_range xs start end ≡ take taken (slice_range xs start end) ++ slice_range xs (start + taken) end
range-split xs start end taken le within few =
    let size = range-length xs start end le within in
    let n : end - start ≡ taken + (end - (start + taken)) = omega (arith, size, few) in
    sym (take-append-drop taken (slice_range xs start end))
    ∙ ap (λ l. take taken (slice_range xs start end) ++ l)
    (ap (λ k. drop taken (take k (drop start xs))) n ∙ drop-take taken (end - (start + taken)) (drop start xs)
    ∙ ap (take (end - (start + taken))) (drop-drop taken start xs))

-- ---- taking in what was read

module _ (longest most : ℕ) (old : Pieces) (cutter : Held) (taken : ℕ) (sound : IsSound longest most old)
    (grown : cutter.bytes ≡ piece_or_rest old ++ take taken (ahead old)) (max : cutter.max ≡ old.cutter.max) where
  abbrev fed : Pieces
  fed = record old { cutter = cutter; start = old.start + taken }

  fed-sound : taken ≤ length (ahead old) → IsSound longest most fed
  fed-sound few = record {
    max = max ∙ sound.max;
    whole = sound.whole;
    chunk = sound.chunk;
    some = sound.some;
    room = sound.room;
    ordered = (let size = range-length old.chunk.items old.start old.end sound.ordered sound.within in omega (arith, size, few));
    within = sound.within;
    total = sound.total;
  }

  fed-joined : taken ≤ length (ahead old) → piece_or_rest old ++ ahead old ≡ cutter.bytes ++ ahead fed
  fed-joined few =
      ap (λ l. piece_or_rest old ++ l) (range-split old.chunk.items old.start old.end taken sound.ordered sound.within few)
      ∙ sym (append_assoc (piece_or_rest old) (take taken (ahead old)) (ahead fed)) ∙ ap (λ l. l ++ ahead fed) (sym grown)

  feeds-by : (closed : Bool) → Takes (piece_or_rest old) (ahead old) taken closed → length cutter.bytes ≤ cutter.max
      → Feeds longest most old fed (Ok closed)
  feeds-by true takes short = record {
    sound = fed-sound takes.0;
    joined = fed-joined takes.0;
    piece = subst ClosesOnce (sym grown) takes.1;
    short = omega (arith, short, max, sound.max);
    total = refl;
  }
  feeds-by false takes short =
      let few : taken ≤ length (ahead old) = omega (arith, takes.0) in
      let size = range-length old.chunk.items old.start old.end sound.ordered sound.within in
      let all : take taken (ahead old) ≡ ahead old = take_all taken (ahead old) (omega (arith, takes.0)) in
      record {
        sound = fed-sound few;
        joined = sym (grown ∙ ap (λ l. piece_or_rest old ++ l) all);
        used = ap (λ n. take n (drop (old.start + taken) old.chunk.items))
            (let none : old.end - (old.start + taken) ≡ 0 = omega (arith, size, takes.0) in none);
        unclosed = subst Unclosed (sym (grown ∙ ap (λ l. piece_or_rest old ++ l) all)) takes.1;
        short = omega (arith, short, max, sound.max);
        total = refl;
      }

-- what the cutter does with a part of the chunk, it does with the input's bytes ahead
pub feeds : (longest most : ℕ) (old : Pieces) (items : List ℕ) (cutter : Held) (f : Fed) → IsSound longest most old
    → items ≡ old.chunk.items → cutting.Feeds old.cutter (slice_range items old.start old.end) cutter f
    → length cutter.bytes ≤ cutter.max → Feeds longest most old (record old { cutter = cutter; start = old.start + f.taken }) (Ok f.closed)
feeds longest most old items cutter f sound same is short =
    let now : cutting.Feeds old.cutter (ahead old) cutter f =
    subst (λ l. cutting.Feeds old.cutter (slice_range l old.start old.end) cutter f) same is in
    feeds-by longest most old cutter f.taken sound now.held now.max f.closed now.takes short

-- a cutter that is fed too much has too long a piece
pub overfed : (longest most : ℕ) (old : Pieces) (items : List ℕ) → IsSound longest most old → items ≡ old.chunk.items
    → Overfeeds old.cutter (slice_range items old.start old.end) → IsOverlong longest (piece_or_rest old ++ ahead old)
overfed longest most old items sound same is =
    let now : Overfeeds old.cutter (ahead old) = subst (λ l. Overfeeds old.cutter (slice_range l old.start old.end)) same is in
    overlong longest (piece_or_rest old) (ahead old) now.taken now.closed now.takes (omega (arith, now.long, sound.max))

-- ---- limits as they are known

module _ (longest most : ℕ) (old new : Pieces) (sound : IsSound longest most old) where
  -- what was taken in, by limits that are known
  pub feeds-at : (r : Result Bool PiecesFault) → Feeds (piece_limit old) (input_limit old) old new r → Feeds longest most old new r
  feeds-at r is = subst (λ n. Feeds n most old new r) sound.max (subst (λ n. Feeds (piece_limit old) n old new r) sound.whole is)

  -- what was read, by limits that are known
  pub fills-at : (given left : Option (List ℕ)) (r : Result Bool PiecesFault)
      → Fills (piece_limit old) (input_limit old) given left old new r → Fills longest most given left old new r
  fills-at given left r is = subst (λ n. Fills n most given left old new r) sound.max
      (subst (λ n. Fills (piece_limit old) n given left old new r) sound.whole is)

-- ---- so far

-- everything read since is in the piece so far, or not looked at yet
pub record SoFar (given left : Option (List ℕ)) (old now : Pieces) : Type 0 where
  pub more : List ℕ
  pub taken : Consumes given left more
  pub joined : ahead old ++ more ≡ piece_or_rest now ++ ahead now
  pub unclosed : Unclosed (piece_or_rest now)
  pub total : now.total ≡ old.total + length more

-- before the first read, nothing was taken
pub so_far-none : (given : Option (List ℕ)) (old now : Pieces) → piece_or_rest now ≡ [] → ahead now ≡ ahead old
    → now.total ≡ old.total → SoFar given given old now
so_far-none given old now none same total = record {
  more = [];
  taken = Consumes-nil given;
  joined = append-nil (ahead old) ∙ sym same ∙ ap (λ l. l ++ ahead now) (sym none);
  unclosed = subst Unclosed (sym none) unclosed-none;
  total = omega (arith, total);
}

module _ (longest most : ℕ) (given mid left : Option (List ℕ)) (old now fed new : Pieces) where
  -- a chunk without a closing line, and one more read
  pub so_far-more : SoFar given mid old now → FeedsAll longest most now fed → FillsSome longest most mid left fed new
      → SoFar given left old new
  so_far-more s feeds fills = record {
    more = s.more ++ ahead new;
    taken = Consumes-trans given mid left s.more (ahead new) s.taken fills.taken;
    joined = sym (append_assoc (ahead old) s.more (ahead new)) ∙ ap (λ l. l ++ ahead new) (s.joined ∙ feeds.joined ∙ sym fills.held);
    unclosed = subst Unclosed (sym fills.held) feeds.unclosed;
    total = (let size = length-append s.more (ahead new) in omega (arith, size, fills.total, feeds.total, s.total));
  }

  -- where the reader ends, what is left is no piece
  pub at-end : SoFar given mid old now → FeedsAll longest most now fed → FillsNone longest most mid left fed new
      → AdvancesToEnd longest most given left old new
  at-end s feeds fills = record {
    more = s.more;
    taken = subst (Consumes given left) (append-nil s.more) (Consumes-trans given mid left s.more [] s.taken fills.taken);
    at_end = fills.at_end;
    joined = s.joined ∙ feeds.joined ∙ sym fills.held;
    unclosed = subst Unclosed (sym fills.held) feeds.unclosed;
    short = subst (λ l. length l ≤ longest) (sym fills.held) feeds.short;
    total = omega (arith, s.total, feeds.total, feeds.sound.total);
  }

  -- where the reader fails, so does the read of the next piece
  pub failed : SoFar given mid old now → FeedsAll longest most now fed → Consumes mid left [] → FailsToRead longest given left old
  failed s feeds taken = record {
    more = s.more;
    taken = subst (Consumes given left) (append-nil s.more) (Consumes-trans given mid left s.more [] s.taken taken);
    unclosed = subst Unclosed (sym (s.joined ∙ feeds.joined)) feeds.unclosed;
    short = subst (λ l. length l ≤ longest) (sym (s.joined ∙ feeds.joined)) feeds.short;
  }

  -- where more than a session may have is read, `InputLong` is right
  pub beyond : SoFar given mid old now → FeedsAll longest most now fed → FillsBeyond most mid left fed
      → FindsInputLong longest most given left old
  beyond s feeds fills = record {
    more = s.more;
    beyond = fills.more;
    taken = Consumes-trans given mid left s.more fills.more s.taken fills.taken;
    some = fills.some;
    unclosed = subst Unclosed (sym (s.joined ∙ feeds.joined)) feeds.unclosed;
    short = subst (λ l. length l ≤ longest) (sym (s.joined ∙ feeds.joined)) feeds.short;
    full = omega (arith, s.total, feeds.total, fills.full);
  }

  -- where filling the chunk fails, the read of the next piece fails in the same way
  pub fill-fails : SoFar given mid old now → FeedsAll longest most now fed → (f : PiecesFault)
      → Fills longest most mid left fed new (Err f) → Advances longest most given left old new (Err f)
  fill-fails s fed_all fault.Read fills = failed s fed_all fills
  fill-fails s fed_all fault.InputLong fills = beyond s fed_all fills
  fill-fails s fed_all fault.TooLong fills = absurd fills
  fill-fails s fed_all fault.OutOfMemory fills = absurd fills

  -- where a closing line is found, the next piece is read
  pub to-piece : SoFar given mid old now → FeedsPiece longest most now new → AdvancesToPiece longest most given mid old new
  to-piece s feeds = record {
    more = s.more;
    taken = s.taken;
    sound = feeds.sound;
    joined = s.joined ∙ feeds.joined;
    piece = feeds.piece;
    short = feeds.short;
    total = omega (arith, s.total, feeds.total);
  }

  -- where a piece is too long, `TooLong` is right
  pub too-long : SoFar given mid old now → IsOverlong longest (piece_or_rest now ++ ahead now) → FindsTooLong longest given mid old
  too-long s over = record { more = s.more; taken = s.taken; overlong = subst (λ l. IsOverlong longest l) (sym s.joined) over }

-- ---- the next piece without a read

-- an emptied cutter with the same limit changes nothing else
pub cleared-sound : (longest most : ℕ) (old : Pieces) (cutter : Held) → IsSound longest most old
    → cutter.max ≡ old.cutter.max → IsSound longest most (record old { cutter = cutter })
cleared-sound longest most old cutter sound max = record {
  max = max ∙ sound.max;
  whole = sound.whole;
  chunk = sound.chunk;
  some = sound.some;
  room = sound.room;
  ordered = sound.ordered;
  within = sound.within;
  total = sound.total;
}

module _ (longest most : ℕ) (old cleared new : Pieces) (none : piece_or_rest cleared ≡ []) (same : ahead cleared ≡ ahead old) where
  joined-ahead : piece_or_rest cleared ++ ahead cleared ≡ ahead old
  joined-ahead = ap (λ l. l ++ ahead cleared) none ∙ same

  -- bytes that close a piece are not all taken in
  pub advances-ahead : HasPieceAhead old → cleared.total ≡ old.total → (closed : Bool)
      → Feeds longest most cleared new (Ok closed) → AdvancesWithin longest most old new
  advances-ahead piece total true fed = record {
    sound = fed.sound;
    joined = sym joined-ahead ∙ fed.joined;
    piece = fed.piece;
    short = fed.short;
    total = fed.total ∙ total;
  }
  advances-ahead piece total false fed = absurd
      (fed.unclosed piece.0 (subst (λ l. ClosesAt l piece.0) (sym joined-ahead ∙ fed.joined) piece.1))

  -- a chunk is no longer than a piece may be
  pub fails-ahead : IsSound longest most old → (f : PiecesFault) → Feeds longest most cleared new (Err f)
      → AdvancesAhead longest most old new (Err f)
  fails-ahead sound fault.TooLong fed =
      let size = range-length old.chunk.items old.start old.end sound.ordered sound.within in
      let long : longest < length (ahead old) = subst (λ l. longest < length l) joined-ahead fed.long in
      absurd (omega (arith, size, long, sound.within, sound.room, sound.chunk))
  fails-ahead sound fault.OutOfMemory fed = tt
  fails-ahead sound fault.Read fed = absurd fed
  fails-ahead sound fault.InputLong fed = absurd fed
