-- A JSON array of texts, from one of its places on.
use Rattle.std.proofs.Common.{◌≡◌, ℕ, Bool, true, false, nat_lt, List, [], ◌∷◌, ◌++◌, length, length-append, codes, encode_utf8_all, refl}
use Rattle.std.proofs.Common.{sym, ap, ◌∙◌, append_assoc, arith}
use Rattle.yaml_forms.proofs.Prelude.{ne_eqb, ltb-true, encodes-append, encodes-IsAscii, chars, chars-literal, every-IsAscii}
use Rattle.yaml_forms.specs.{Json.{json_string, json_texts, more_elements, text_elements}, TextArrays.{array_end, array_lead, array_rest}}
use Rattle.yaml_forms.specs.TextArrays.{is_fresh}

-- further texts, each after a comma, and the closing bracket
rest-more : (values : List (List ℕ)) → array_rest false values ≡ more_elements (text_elements values) ++ codes "]"
rest-more [] = refl
rest-more (value ∷ values) =
    ap (λ cs. (44 ∷ json_string value) ++ cs) (rest-more values)
    ∙ sym (append_assoc (44 ∷ json_string value) (more_elements (text_elements values)) (codes "]"))

-- all of an array
pub rest-all : (values : List (List ℕ)) → array_rest true values ≡ json_texts values
rest-all [] = refl
rest-all (value ∷ values) =
    ap (λ cs. (91 ∷ json_string value) ++ cs) (rest-more values)
    ∙ sym (append_assoc (91 ∷ json_string value) (more_elements (text_elements values)) (codes "]"))

-- an array of which no byte is written
pub fresh-all : (bytes : List ℕ) (values : List (List ℕ)) → bytes ≡ []
    → bytes ++ encode_utf8_all (array_rest (is_fresh bytes) values) ≡ encode_utf8_all (json_texts values)
fresh-all bytes values none =
    ap (λ bs. bs ++ encode_utf8_all (array_rest (is_fresh bs) values)) none ∙ ap encode_utf8_all (rest-all values)

-- the bytes after one text more are not none
pushed-filled : (a b string : List ℕ) (lead : ℕ)
    → b ≡ (a ++ encode_utf8_all (lead ∷ [])) ++ encode_utf8_all (34 ∷ string) → is_fresh b ≡ false
pushed-filled a b string lead e =
    let prefix = a ++ encode_utf8_all (lead ∷ []) in
    let quote : encode_utf8_all (34 ∷ []) ≡ 34 ∷ [] =
    encodes-IsAscii (34 ∷ []) (every-IsAscii (λ b. nat_lt b 128) (λ b below. ltb-true b 128 below) (34 ∷ []) refl) in
    let split = encodes-append (34 ∷ []) string ∙ ap (λ q. q ++ encode_utf8_all string) quote in
    let whole : b ≡ prefix ++ (34 ∷ encode_utf8_all string) = e ∙ ap (λ x. prefix ++ x) split in
    ne_eqb (length b) 0 (λ zero. omega (arith, zero, ap length whole, length-append prefix (34 ∷ encode_utf8_all string)))

-- the bytes a, one text more, and then the rest
pub text_pushed : (a b value : List ℕ) (lead : ℕ) (values : List (List ℕ)) → lead ≡ array_lead (is_fresh a)
    → b ≡ (a ++ encode_utf8_all (lead ∷ [])) ++ encode_utf8_all (json_string value)
    → b ++ encode_utf8_all (array_rest (is_fresh b) values) ≡ a ++ encode_utf8_all (array_rest (is_fresh a) (value ∷ values))
text_pushed a b value lead values led pushed =
    let rest = array_rest false values in
    ap (λ fresh. b ++ encode_utf8_all (array_rest fresh values)) (pushed-filled a b _ lead pushed)
    ∙ ap (λ bytes. bytes ++ encode_utf8_all rest) pushed
    ∙ append_assoc (a ++ encode_utf8_all (lead ∷ [])) (encode_utf8_all (json_string value)) (encode_utf8_all rest)
    ∙ append_assoc a (encode_utf8_all (lead ∷ [])) (encode_utf8_all (json_string value) ++ encode_utf8_all rest)
    ∙ ap (λ bytes. a ++ (encode_utf8_all (lead ∷ []) ++ bytes)) (sym (encodes-append (json_string value) rest))
    ∙ ap (λ bytes. a ++ bytes) (sym (encodes-append (lead ∷ []) (json_string value ++ rest)))
    ∙ ap (λ l. a ++ encode_utf8_all ((l ∷ json_string value) ++ rest)) led

-- what ends an array is ASCII
pub end_chars : (bytes : List ℕ) (fresh : Bool) → bytes ≡ array_end fresh → chars bytes ≡ array_end fresh
end_chars bytes true e = ap chars e ∙ chars-literal (codes "[]") refl
end_chars bytes false e = ap chars e ∙ chars-literal (codes "]") refl
