-- Calls one after the other.
use Rattle.std.{specs.Prelude.option_map, proofs.Common.{◌≡◌, ℕ, ◌+◌, ◌≤◌, List, [], ◌++◌, length, take, drop, Option, Some, None, refl}}
use Rattle.std.proofs.{Common.{sym, ◌∙◌, ap, subst, arith, inl, inr, ⊎_elim, append_assoc}, Math.Seq.take-add, lemmas.List.append-nil}
use Rattle.{conf_system.specs.Machine.with_pending, file_calls.specs.Machine.{File, Machine, Write, after, with_version}}
use Rattle.file_calls.specs.Models.{FileModel, Passes, Wrote}

pub Passes-joined : {S : Type 0} (model : FileModel S) (old mid new : S) (P Q R : Machine → Type 0)
    → Passes model old mid P → Passes model mid new Q → ((m : Machine) → P m → R m) → ((m : Machine) → Q m → R m)
    → Passes model old new R
Passes-joined model old mid new P Q R first second p q = record {
  later = omega (arith, first.later, second.later);
  nothing_else = λ t m le held. ⊎_elim (λ was. ⊎_elim (λ before. inl before) (λ is. inr (p m is)) (first.nothing_else t m le was))
      (λ is. inr (q m is)) (second.nothing_else t m (omega (arith, le, first.later)) held);
  keeps = λ t m le held. second.keeps t m (omega (arith, le, first.later)) (first.keeps t m le held);
}

pub Passes-weaker : {S : Type 0} (model : FileModel S) (old new : S) (P Q : Machine → Type 0)
    → Passes model old new P → ((m : Machine) → P m → Q m) → Passes model old new Q
Passes-weaker model old new P Q passes weaker = record {
  later = passes.later;
  nothing_else = λ t m le held. ⊎_elim (λ was. inl was) (λ is. inr (weaker m is)) (passes.nothing_else t m le held);
  keeps = passes.keeps;
}

-- at each moment of a call that is done or not, and holds of what it makes
pub Passes-call : {S : Type 0} (model : FileModel S) (old new : S) (P : Machine → Type 0)
    → Passes model old new (λ m. m ≡ model.machine new) → P (model.machine new) → Passes model old new P
Passes-call model old new P passes holds =
    Passes-weaker model old new (λ m. m ≡ model.machine new) P passes (λ m is. subst P (sym is) holds)

pub Passes-none : {S : Type 0} (model : FileModel S) (s : S) (P : Machine → Type 0) → Passes model s s P
Passes-none model s P = record { later = omega arith; nothing_else = λ t m le held. inl held; keeps = λ t m le held. held }

-- ---- writes, one after the other

pending-joined : (file : Option File) (x y : List ℕ)
    → option_map (with_version (with_pending y)) (option_map (with_version (with_pending x)) file)
    ≡ option_map (with_version (with_pending (x ++ y))) file
pending-joined None x y = refl
pending-joined (Some file) x y =
    ap (λ (l : List ℕ). Some (with_version (λ version. record version { pending = l }) file)) (append_assoc file.version.pending x y)

pending-nothing : (file : Option File) → option_map (with_version (with_pending [])) file ≡ file
pending-nothing None = refl
pending-nothing (Some file) =
    ap (λ (l : List ℕ). Some (with_version (λ version. record version { pending = l }) file)) (append-nil file.version.pending)

pub wrote-nothing : {S : Type 0} (model : FileModel S) (bytes : List ℕ) (s : S) → Wrote model bytes 0 s s
wrote-nothing model bytes s = record {
  within = omega arith;
  change = sym (ap (λ (file : Option File). record (model.machine s) { new = file }) (pending-nothing (model.machine s).new));
  time = Passes-none model s _;
}

joined-take : (a k : ℕ) (bytes : List ℕ) (m : Machine)
    → after (Write (take k (drop a bytes))) (after (Write (take a bytes)) m) ≡ after (Write (take (a + k) bytes)) m
joined-take a k bytes m =
    ap (λ (file : Option File). record m { new = file }) (pending-joined m.new (take a bytes) (take k (drop a bytes)))
    ∙ ap (λ (l : List ℕ). after (Write l) m) (sym (take-add a k bytes))

-- and then so many more
pub wrote-more : {S : Type 0} (model : FileModel S) (bytes : List ℕ) (a b : ℕ) (old mid new : S) → a + b ≤ length bytes
    → Wrote model bytes a old mid → Wrote model (drop a bytes) b mid new → Wrote model bytes (a + b) old new
wrote-more model bytes a b old mid new within first second = record {
  within = within;
  change = second.change ∙ ap (after (Write (take b (drop a bytes)))) first.change ∙ joined-take a b bytes (model.machine old);
  time = Passes-joined model old mid new _ _ _ first.time second.time
      (λ m is. (is.0, omega (arith, is.1), is.2))
      (λ m is. (
        a + is.0,
        omega (arith, is.1),
        is.2 ∙ ap (after (Write (take is.0 (drop a bytes)))) first.change ∙ joined-take a is.0 bytes (model.machine old),
      ));
}
