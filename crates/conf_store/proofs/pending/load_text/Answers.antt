use Rattle.std.proofs.Common.{length, option_map, unwrap_or, string_bytes, encode_utf8_all, ap, sym, ◌∙◌, arith}
use Rattle.conf_store.proofs.Prelude.{chars, entry_named}
use Rattle.conf_store.proofs.pending.load_text.Goals as goal

pub returns-in-Some-clause-rest : goal.returns-in-Some-clause-rest
returns-in-Some-clause-rest c fits =
    let own = encode_utf8_all (entry_named c.args.state.now.configs (chars c.args.name.now)) in
    let bytes = ap (λ o. unwrap_or (option_map string_bytes o) own) (sym c.in-Some.ensures.value) in
    c.load.ensures.rest (omega (arith, fits, ap length bytes, ap length c.deref.ensures)) ∙ c.deref.ensures ∙ sym bytes

pub returns-clause-rest : goal.returns-clause-rest
returns-clause-rest c fits =
    let own = encode_utf8_all (entry_named c.args.state.now.configs (chars c.args.name.now)) in
    let bytes = ap (λ o. unwrap_or (option_map string_bytes o) own) (sym c.in_default.ensures.value) in
    c.load_entry.ensures.rest (omega (arith, fits, ap length bytes)) ∙ sym bytes
