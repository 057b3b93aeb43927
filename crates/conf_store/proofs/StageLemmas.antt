-- What is left of a checkpoint that is made part by part.
use Rattle.std.proofs.Common.{◌≡◌, ◌≤◌, ◌⊎◌, inl, inr, ℕ, ◌+◌, ◌-◌, min, Bool, true, false, List, [], ◌∷◌, ◌++◌, length, take, drop, Some}
use Rattle.std.proofs.Common.{None, Ok, IsSome, is_some, codes, decimal, encode_utf8_all, refl, sym, ap, ◌∙◌, subst, append_assoc}
use Rattle.std.proofs.Common.{append-nil, length-append, arith}
use Rattle.conf_store.proofs.Prelude.{false≢true, length-take-le, take-append-le, encodes-append, same_text, text, mapping, value_at}
use Rattle.conf_store.proofs.Prelude.{members_after, same_text-true, same_text-self, byte_len-encoded, members, base_length, entry_lines}
use Rattle.conf_store.proofs.Prelude.{Command, IsState, lines_if_there, Entry, Contents, config_named, names_of, has_name, names_differ}
use Rattle.conf_store.proofs.{Prelude.{step, touched, Room}, PendingLemmas.{AreWithin-more, differ-names, no-name, texts-step}}
use Rattle.conf_store.specs.{Cuttings.Cut, Stagings.{left_of, staged_view, HasRoom}, Parts.{Part, parts_named, texts, joined, AreWithin}}
use Rattle.conf_store.specs.{Parts.AreMade, Staged.{Staged, staged_length, with_more, slice_limit, next_slice, after_slice}}
use Rattle.{conf_state.proofs.LineLemmas.line, conf_record.{proofs.FormatLemmas.{lines_in, bytes_in, length_in}, specs.Formats.format_line}}
use Rattle.conf_record.specs.{Formats.{base_text_in, base_in}, declared.format.Format.Format, BaseStart.{base_start, configs_start}}

-- ---- a base, part by part

-- each of the others is found under its name
abbrev pub AreNamed : List Entry → List Entry → Type 0
AreNamed configs [] = Unit {0}
AreNamed configs (e ∷ es) = (config_named configs e.0 ≡ Some e.1) × AreNamed configs es

other-way : (n m : List ℕ) → same_text m n ≡ false → same_text n m ≡ false
other-way n m e = by (same_text n m) refl
  where
    by : (b : Bool) → same_text n m ≡ b → b ≡ false
    by false is = refl
    by true is = absurd (false≢true (sym e ∙ ap (λ t. same_text m t) (same_text-true n m is) ∙ same_text-self m))

named-later : (e : Entry) (configs es : List Entry) → has_name e.0 (names_of es) ≡ false → AreNamed configs es → AreNamed (e ∷ configs) es
named-later e configs [] new named = tt
named-later e configs (x ∷ xs) new named =
    let parts = no-name e.0 x.0 (names_of xs) new in (
      rw (other-way x.0 e.0 parts.0) named.0,
      named-later e configs xs parts.1 named.1,
    )

all-named : (es : List Entry) → names_differ (names_of es) ≡ true → AreNamed es es
all-named [] d = tt
all-named (e ∷ es) d =
    let parts = differ-names e.0 (names_of es) d in (
      rw (same_text-self e.0) refl,
      named-later e es es parts.0 (all-named es parts.1),
    )

entries-joined : (configs es : List Entry) → AreNamed configs es
    → joined (texts configs (parts_named (names_of es))) ≡ encode_utf8_all (members_after (members es) 2)
entries-joined configs [] named = refl
entries-joined configs (e ∷ es) named =
    ap (λ found. encode_utf8_all (lines_if_there e.0 found) ++ joined (texts configs (parts_named (names_of es)))) named.0
    ∙ ap (λ bs. encode_utf8_all (entry_lines e.0 e.1) ++ bs) (entries-joined configs es named.1)
    ∙ sym (encodes-append (entry_lines e.0 e.1) (members_after (members es) 2))

configs-split : (es : List Entry) → configs_start es ++ members_after (members es) 2 ≡ value_at (mapping (members es)) 0
configs-split [] = refl
configs-split (e ∷ es) = refl

text-split : (format : Format) (s : Contents) → base_start format s ++ members_after (members s.configs) 2 ++ codes "...\n"
    ≡ base_text_in format s
text-split format s =
    let number = line (codes "at") (text (decimal s.count)) in
    let before = codes "---\n" ++ format_line format ++ number ++ codes "configs:" in
    ap (λ cs. cs ++ codes "...\n") (append_assoc before (configs_start s.configs)
    (members_after (members s.configs) 2) ∙ ap (λ cs. before ++ cs) (configs-split s.configs))
    ∙ lines_in format s

-- what is left of a checkpoint that begins
pub left-begins : (format : Format) (s : Contents) → names_differ (names_of s.configs) ≡ true → (start since : List ℕ) (ps : List Part)
    → start ≡ encode_utf8_all (base_start format s)
    → ps ≡ parts_named (names_of s.configs) → since ≡ codes "...\n" → start ++ joined (texts s.configs ps) ++ since ≡ base_in format s
unfolding lib.Utf8.encode
left-begins format s d start since ps is_start are is_since =
    let entries = members_after (members s.configs) 2 in
    ap (λ bs. bs ++ joined (texts s.configs ps) ++ since) is_start
    ∙ ap (λ qs. encode_utf8_all (base_start format s) ++ joined (texts s.configs qs) ++ since) are
    ∙ ap (λ bs. encode_utf8_all (base_start format s) ++ bs ++ since) (entries-joined s.configs s.configs (all-named s.configs d))
    ∙ ap (λ bs. encode_utf8_all (base_start format s) ++ encode_utf8_all entries ++ bs) is_since
    ∙ sym (encodes-append (base_start format s ++ entries) (codes "...\n")
    ∙ ap (λ bs. bs ++ codes "...\n") (encodes-append (base_start format s) entries))
    ∙ ap encode_utf8_all (text-split format s)
    ∙ sym (bytes_in format s)

pub begin-left : (format : Format) (s : Contents) → IsState s → (cut : Cut) (ps : List Part) (since : List ℕ) → cut.slice ≡ []
    → cut.rest ≡ encode_utf8_all (base_start format s)
    → ps ≡ parts_named (names_of s.configs) → since ≡ codes "...\n" → left_of s.configs cut ps since ≡ base_in format s
begin-left format s kept cut ps since none is_start are is_since =
    ap (λ bs. bs ++ cut.rest ++ joined (texts s.configs ps) ++ since) none
    ∙ left-begins format s kept.distinct cut.rest since ps is_start are is_since

-- its length
pub base-size : (format : Format) (s : Contents) → base_length s ≡ length (base_in format s)
base-size format s =
    sym (length_in format s) ∙ byte_len-encoded (base_text_in format s) ∙ ap length (sym (bytes_in format s))

pub ready-begins : (format : Format) (s : Contents) → IsState s → (cut : Cut) (ps : List Part) (since : List ℕ) (total longest : ℕ)
    → cut.slice ≡ [] → cut.rest ≡ encode_utf8_all (base_start format s)
    → ps ≡ parts_named (names_of s.configs) → since ≡ codes "...\n" → total ≡ base_length s
    → slice_limit ≤ cut.slice_room → longest ≤ cut.part_room
    → AreWithin longest (texts s.configs (parts_named (names_of s.configs))) → HasRoom s.configs 0 total cut ps since
ready-begins format s kept cut ps since total longest none is_start are is_since is room wider within = record {
  whole = (let size = base-size format s in let left =
      ap length (begin-left format s kept cut ps since none is_start are is_since) in omega (arith, size, left, is));
  room = room;
  within = subst (λ qs. AreWithin cut.part_room (texts s.configs qs)) (sym are)
      (AreWithin-more longest cut.part_room wider (texts s.configs (parts_named (names_of s.configs))) within);
}

-- ---- a command

module _ (s new : Contents) (command : Command) (room : Room) (ok : step s command room ≡ Ok new)
    (cut : Cut) (old ps : List Part) (same : texts s.configs ps ≡ texts s.configs old)
    (made : AreMade (touched command) ps) (before since record_of : List ℕ) (more : since ≡ before ++ record_of) where
  kept-texts : texts new.configs ps ≡ texts s.configs old
  kept-texts = texts-step s new command room ok ps made ∙ same

  -- what is left has the record at its end
  pub left-step : left_of new.configs cut ps since ≡ left_of s.configs cut old before ++ record_of
  left-step =
      ap (λ ts. cut.slice ++ cut.rest ++ joined ts ++ since) kept-texts
      ∙ ap (λ bs. cut.slice ++ cut.rest ++ joined (texts s.configs old) ++ bs) more
      ∙ sym (append_assoc (cut.slice ++ cut.rest ++ joined (texts s.configs old)) before record_of)

  pub ready-step : (written total after : ℕ) → after ≡ total + length record_of → HasRoom s.configs written total cut old before
      → HasRoom new.configs written after cut ps since
  ready-step written total after is ready =
      let whole = ready.whole in
      let long = ap length left-step ∙ length-append (left_of s.configs cut old before) record_of in
      record {
        whole = omega (arith, whole, long, is);
        room = ready.room;
        within = subst (AreWithin cut.part_room) (sym kept-texts) ready.within;
      }

-- whether one runs
pub view-runs : (running : Bool) (written : ℕ) (left : List ℕ) → running ≡ is_some (staged_view running written left)
view-runs true written left = refl
view-runs false written left = refl

pub view-running : (running : Bool) (written : ℕ) (left : List ℕ) → IsSome (staged_view running written left) → running ≡ true
view-running true written left some = refl
view-running false written left some = absurd (false≢true some)

-- what is seen of one that runs
pub view-some : (running : Bool) (written : ℕ) (left : List ℕ) (staged : Staged) → staged_view running written left ≡ Some staged
    → (running ≡ true) × (staged ≡ record { written = written; left = left })
view-some false written left staged e = absurd (let none : None ≡ Some staged = e in cc none)
view-some true written left staged e = (let some : Some (record { written = written; left = left }) ≡ Some staged =
    e in (refl, sym (cc some)))

pub view-length : (running : Bool) (written total : ℕ) (left : List ℕ) → running ≡ true
    → total ≡ written + length left → total ≡ staged_length (staged_view running written left)
view-length true written total left on whole = whole
view-length false written total left on whole = absurd (false≢true on)

pub view-more : (running : Bool) (written : ℕ) (left more after : List ℕ) → after ≡ left ++ more
    → staged_view running written after ≡ with_more more (staged_view running written left)
view-more false written left more after is = refl
view-more true written left more after is = ap (λ bs. Some (record { written = written; left = bs })) is

-- ---- slices

-- a slice that is full, or is all that is left, is the next one
pub slice-next : (slice others left : List ℕ) → slice ++ others ≡ left → length slice ≤ slice_limit
    → (length slice ≡ slice_limit) ⊎ (others ≡ []) → slice ≡ take (min slice_limit (length left)) left
slice-next slice others left is short (inl full) =
    let size = ap length (sym is) ∙ length-append slice others in
    let n : min slice_limit (length left) ≡ length slice = omega (arith, size, full) in
    sym (ap (λ m. take m left) n ∙ ap (take (length slice)) (sym is)
    ∙ take-append-le (length slice) slice others (omega arith) ∙ whole slice)
  where
    whole : (xs : List ℕ) → take (length xs) xs ≡ xs
    whole [] = refl
    whole (x ∷ xs) = ap (λ ys. x ∷ ys) (whole xs)
slice-next slice others left is short (inr none) =
    let all : slice ≡ left = sym (append-nil slice) ∙ ap (λ bs. slice ++ bs) (sym none) ∙ is in
    let n : min slice_limit (length left) ≡ length left = (let size = ap length all in omega (arith, size, short)) in
    all ∙ sym (ap (λ m. take m left) n ∙ whole left)
  where
    whole : (xs : List ℕ) → take (length xs) xs ≡ xs
    whole [] = refl
    whole (x ∷ xs) = ap (λ ys. x ∷ ys) (whole xs)

rest-after : (slice others : List ℕ) (n : ℕ) → n ≡ length slice → drop n (slice ++ others) ≡ others
rest-after [] others n e = ap (λ m. drop m others) e
rest-after (x ∷ xs) others n e = ap (λ m. drop m (x ∷ xs ++ others)) e ∙ rest-after xs others (length xs) refl

-- what is left after the slice that is made
pub slice-passed : (slice others : List ℕ) (written : ℕ) (staged : Staged)
    → staged ≡ record { written = written; left = slice ++ others } → slice ≡ next_slice staged
    → after_slice staged ≡ record { written = written + length slice; left = others }
slice-passed slice others written staged is made =
    let left = slice ++ others in
    let n = min slice_limit (length left) in
    let own : slice ≡ take n left = made ∙ ap next_slice is in
    let size : length slice ≡ n = ap length own ∙ length-take-le n left (omega arith) in
    ap after_slice is ∙ ap (λ m. record { written = written + m; left = drop m left }) (sym size)
    ∙ ap (λ bs. record { written = written + length slice; left = bs }) (rest-after slice others (length slice) refl)

-- ---- slices that are made

-- the bytes that come after the slice
abbrev pub others_of : List Entry → Cut → List Part → List ℕ → List ℕ
others_of configs cut ps since = cut.rest ++ joined (texts configs ps) ++ since

pub left-split : (configs : List Entry) (cut : Cut) (ps : List Part) (since : List ℕ)
    → left_of configs cut ps since ≡ cut.slice ++ others_of configs cut ps since
left-split configs cut ps since =
    ap (λ bs. bs ++ since) (append_assoc cut.slice cut.rest (joined (texts configs ps)))
    ∙ append_assoc cut.slice (cut.rest ++ joined (texts configs ps)) since

pub left-least : (configs : List Entry) (cut : Cut) (ps : List Part) (since : List ℕ)
    → length cut.slice ≤ length (left_of configs cut ps since)
left-least configs cut ps since =
    let split = ap length (left-split configs cut ps since) in
    let both = length-append cut.slice (others_of configs cut ps since) in
    omega (arith, split, both)

pub slice-made : (configs : List Entry) (cut : Cut) (ps : List Part) (since : List ℕ) (running : Bool) (written : ℕ)
    → length cut.slice ≤ slice_limit
    → (length cut.slice ≡ slice_limit) ⊎ (others_of configs cut ps since ≡ [])
    → (staged : Staged) → staged_view running written (left_of configs cut ps since) ≡ Some staged → cut.slice ≡ next_slice staged
slice-made configs cut ps since running written short far staged e =
    let is = (view-some running written (left_of configs cut ps since) staged e).1 in
    slice-next cut.slice (others_of configs cut ps since) (left_of configs cut ps since) (sym (left-split configs cut ps since)) short far
    ∙ ap next_slice (sym is)

-- parts that were cut
pub cut-left : (configs : List Entry) (old new : Cut) (before ps : List Part) (since : List ℕ)
    → new.slice ++ new.rest ++ joined (texts configs ps) ≡ old.slice ++ old.rest ++ joined (texts configs before)
    → left_of configs new ps since ≡ left_of configs old before since
cut-left configs old new before ps since same = ap (λ bs. bs ++ since) same

-- what follows the configurations is taken over
module _ (configs : List Entry) (old mid new : Cut) (ps : List Part) (since after : List ℕ) (part : old.rest ≡ [])
    (none : ps ≡ []) (taken : mid.rest ≡ since) (kept : mid.slice ≡ old.slice)
    (left : after ≡ []) (cut : new.slice ++ new.rest ≡ mid.slice ++ mid.rest) where
  pub over-left : left_of configs new ps after ≡ left_of configs old ps since
  over-left =
      ap (λ qs. new.slice ++ new.rest ++ joined (texts configs qs) ++ after) none
      ∙ ap (λ bs. bs ++ after) (append-nil (new.slice ++ new.rest))
      ∙ ap (λ bs. new.slice ++ new.rest ++ bs) left
      ∙ append-nil (new.slice ++ new.rest)
      ∙ cut ∙ ap (λ bs. bs ++ mid.rest) kept ∙ ap (λ bs. old.slice ++ bs) taken
      ∙ ap (λ bs. bs ++ since) (sym (append-nil old.slice) ∙ ap (λ bs. old.slice ++ bs) (sym part))
      ∙ ap (λ bs. bs ++ since) (sym (append-nil (old.slice ++ old.rest)))
      ∙ ap (λ qs. old.slice ++ old.rest ++ joined (texts configs qs) ++ since) (sym none)

  pub over-others : new.rest ≡ [] → others_of configs new ps after ≡ []
  over-others all = ap (λ bs. bs ++ joined (texts configs ps) ++ after) all ∙ ap (λ qs. joined (texts configs qs) ++ after) none ∙ left

  pub over-within : AreWithin new.part_room (texts configs ps)
  over-within = subst (λ qs. AreWithin new.part_room (texts configs qs)) (sym none) tt

pub room-same : (configs : List Entry) (written total : ℕ) (old new : Cut) (before ps : List Part)
    (since after : List ℕ) → left_of configs new ps after ≡ left_of configs old before since
    → slice_limit ≤ new.slice_room → AreWithin new.part_room (texts configs ps)
    → HasRoom configs written total old before since → HasRoom configs written total new ps after
room-same configs written total old new before ps since after same room within has = record {
  whole = (let whole = has.whole in let long = ap length same in omega (arith, whole, long));
  room = room;
  within = within;
}

-- ---- slices that are passed

module _ (configs : List Entry) (old new : Cut) (ps : List Part) (since : List ℕ) (passed : new.slice ≡ [])
    (same : new.rest ≡ old.rest) where
  pass-left : left_of configs new ps since ≡ others_of configs old ps since
  pass-left =
      ap (λ bs. bs ++ new.rest ++ joined (texts configs ps) ++ since) passed ∙ ap (λ bs. bs ++ joined (texts configs ps) ++ since) same

  pub pass-staged : (running : Bool) (written after : ℕ) (staged : Staged) → after ≡ written + length old.slice
      → staged_view running written (left_of configs old ps since) ≡ Some staged
      → old.slice ≡ next_slice staged → staged_view running after (left_of configs new ps since) ≡ Some (after_slice staged)
  pass-staged running written after staged is e made =
      let some = view-some running written (left_of configs old ps since) staged e in
      let own = some.1 ∙ ap (λ bs. record { written = written; left = bs }) (left-split configs old ps since) in
      ap (λ b. staged_view b after (left_of configs new ps since)) some.0
      ∙ ap (λ n. Some (record { written = n; left = left_of configs new ps since })) is
      ∙ ap (λ bs. Some (record { written = written + length old.slice; left = bs })) pass-left
      ∙ ap (λ (s : Staged). Some s) (sym (slice-passed old.slice (others_of configs old ps since) written staged own made))

  pub pass-size : (written total result after : ℕ) (staged : Staged) (running : Bool)
      → after ≡ written + length old.slice → result ≡ total - after → HasRoom configs written total old ps since
      → staged_view running written (left_of configs old ps since) ≡ Some staged → old.slice ≡ next_slice staged
      → result ≡ length (after_slice staged).left
  pass-size written total result after staged running is sub has e made =
      let some = view-some running written (left_of configs old ps since) staged e in
      let own = some.1 ∙ ap (λ bs. record { written = written; left = bs }) (left-split configs old ps since) in
      let left = ap (λ (s : Staged). length s.left) (slice-passed old.slice (others_of configs old ps since) written staged own made) in
      let whole = has.whole in
      let split = ap length (left-split configs old ps since) in
      let both = length-append old.slice (others_of configs old ps since) in
      omega (arith, left, whole, split, both, is, sub)

  pub pass-room : (written total after : ℕ) → after ≡ written + length old.slice → new.slice_room ≡ old.slice_room
      → new.part_room ≡ old.part_room
      → HasRoom configs written total old ps since → HasRoom configs after total new ps since
  pass-room written total after is room part has = record {
    whole = (let whole = has.whole in
        let split = ap length (left-split configs old ps since) in
        let both = length-append old.slice (others_of configs old ps since) in
        let left = ap length pass-left in
        omega (arith, whole, split, both, left, is));
    room = (let wide = has.room in omega (arith, wide, room));
    within = subst (λ n. AreWithin n (texts configs ps)) (sym part) has.within;
  }

pub view-zero : (running : Bool) (written : ℕ) (left : List ℕ) → running ≡ false → 0 ≡ staged_length (staged_view running written left)
view-zero false written left off = refl
view-zero true written left off = absurd (false≢true (sym off))

pub view-due : (running : Bool) (written : ℕ) (left : List ℕ) (staged : Staged)
    → staged_view running written left ≡ Some staged → staged.written ≡ written
view-due running written left staged e = ap (λ (s : Staged). s.written) (view-some running written left staged e).1

-- where no checkpoint runs, nothing is seen of it after a command
pub none-more : (running : Bool) (written other : ℕ) (left after more : List ℕ) → running ≡ false
    → staged_view running written after ≡ with_more more (staged_view running other left)
none-more false written other left after more off = refl
none-more true written other left after more off = absurd (false≢true (sym off))
