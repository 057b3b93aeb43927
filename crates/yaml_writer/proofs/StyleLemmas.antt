-- How a scalar's and a key's text follow from its style.
use Rattle.std.proofs.Common.{◌≡◌, ℕ, zero, suc, Bool, true, false, if◌then◌else◌, List, ◌++◌, codes, refl, sym}
use Rattle.yaml_writer.proofs.Prelude.{plain_in_style, literal_in_style, feeds_at_end, literal_mark, literal_lines, in_double_quotes}
use Rattle.yaml_writer.{proofs.Prelude.{scalar_lines, key_text}, specs.ScalarStyles.{literal_style, key_style, value_style}}
use Rattle.yaml_writer.specs.declared.scalar_style.ScalarStyle.{ScalarStyle, TheVariants.{Plain, Double, LiteralStrip, LiteralClip}}
use Rattle.yaml_writer.specs.declared.scalar_style.ScalarStyle.TheVariants.{LiteralKeep}

key_as : (p : Bool) (x y : List ℕ) → (if p then Plain else Double) ≡ Plain → (if p then x else y) ≡ x
key_as true x y e = refl
key_as false x y e = cc

key_else : (p : Bool) (x y : List ℕ) → ((if p then Plain else Double) ≡ Plain → ⊥) → (if p then x else y) ≡ y
key_else true x y other = absurd (other refl)
key_else false x y other = refl

-- the text of a plain key is the key
pub key_plain : (key : List ℕ) → key_style key ≡ Plain → key_text key ≡ key
key_plain key = key_as (plain_in_style key) key (in_double_quotes key)

-- the text of any other key is in double quotes
pub key_quoted : (key : List ℕ) → (key_style key ≡ Plain → ⊥) → key_text key ≡ in_double_quotes key
key_quoted key = key_else (plain_in_style key) key (in_double_quotes key)

abbrev by_tests : Bool → Bool → ℕ → ScalarStyle
by_tests p l n = if p then Plain else if l then literal_style n else Double

abbrev lines_by : Bool → Bool → ℕ → List ℕ → List ℕ → List ℕ → List ℕ
lines_by p l n plain lines double =
    if p then plain else if l then literal_mark n ++ codes "\n" ++ lines else double

module _ (plain lines double : List ℕ) where
  as_plain : (p l : Bool) (n : ℕ) → by_tests p l n ≡ Plain → lines_by p l n plain lines double ≡ plain
  as_plain true l n e = refl
  as_plain false true zero e = cc
  as_plain false true (suc zero) e = cc
  as_plain false true (suc (suc n)) e = cc
  as_plain false false n e = cc

  as_double : (p l : Bool) (n : ℕ) → by_tests p l n ≡ Double → lines_by p l n plain lines double ≡ double
  as_double true l n e = cc
  as_double false true zero e = cc
  as_double false true (suc zero) e = cc
  as_double false true (suc (suc n)) e = cc
  as_double false false n e = refl

  as_strip : (p l : Bool) (n : ℕ) → by_tests p l n ≡ LiteralStrip → lines_by p l n plain lines double ≡ codes "|-\n" ++ lines
  as_strip true l n e = cc
  as_strip false true zero e = refl
  as_strip false true (suc zero) e = cc
  as_strip false true (suc (suc n)) e = cc
  as_strip false false n e = cc

  as_clip : (p l : Bool) (n : ℕ) → by_tests p l n ≡ LiteralClip → lines_by p l n plain lines double ≡ codes "|\n" ++ lines
  as_clip true l n e = cc
  as_clip false true zero e = cc
  as_clip false true (suc zero) e = refl
  as_clip false true (suc (suc n)) e = cc
  as_clip false false n e = cc

  as_keep : (p l : Bool) (n : ℕ) → by_tests p l n ≡ LiteralKeep → lines_by p l n plain lines double ≡ codes "|+\n" ++ lines
  as_keep true l n e = cc
  as_keep false true zero e = cc
  as_keep false true (suc zero) e = cc
  as_keep false true (suc (suc n)) e = refl
  as_keep false false n e = cc

module _ (j : ℕ) (value : List ℕ) where
  -- the lines of a plain value
  pub value_plain : value_style value ≡ Plain → value ++ codes "\n" ≡ scalar_lines j value
  value_plain e = sym (as_plain _ (literal_lines j true value) _ (plain_in_style value) (literal_in_style value) (feeds_at_end value) e)

  -- the lines of a value in double quotes
  pub value_double : value_style value ≡ Double → in_double_quotes value ++ codes "\n" ≡ scalar_lines j value
  value_double e = sym (as_double _ (literal_lines j true value) _ (plain_in_style value) (literal_in_style value) (feeds_at_end value) e)

  -- the lines of a literal that ends in no line feed
  pub value_strip : value_style value ≡ LiteralStrip → codes "|-\n" ++ literal_lines j true value ≡ scalar_lines j value
  value_strip e = sym (as_strip _ (literal_lines j true value) _ (plain_in_style value) (literal_in_style value) (feeds_at_end value) e)

  -- the lines of a literal that ends in one line feed
  pub value_clip : value_style value ≡ LiteralClip → codes "|\n" ++ literal_lines j true value ≡ scalar_lines j value
  value_clip e = sym (as_clip _ (literal_lines j true value) _ (plain_in_style value) (literal_in_style value) (feeds_at_end value) e)

  -- the lines of a literal that ends in more line feeds
  pub value_keep : value_style value ≡ LiteralKeep → codes "|+\n" ++ literal_lines j true value ≡ scalar_lines j value
  value_keep e = sym (as_keep _ (literal_lines j true value) _ (plain_in_style value) (literal_in_style value) (feeds_at_end value) e)
