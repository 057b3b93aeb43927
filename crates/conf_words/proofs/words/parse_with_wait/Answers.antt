-- Words that come to no invocation.
use Rattle.std.{proofs.{Common.{map, rules, string_bytes, Global, ap, sym, ◌∙◌}, lemmas.List.{drop-map}}, specs.Prelude.option_map}
use Rattle.{command_line.specs.{Rows.row_of, Words.read}, conf_words.proofs.OutcomeLemmas.{refused_given, refused_read, refused_wait}}
use Rattle.conf_words.proofs.words.parse_with_wait.Goals as goal

pub returns-in-Err : goal.returns-in-Err
returns-in-Err c =
    refused_read (map string_bytes c.args.words.now) (option_map (λ s. s.now) c.args.wait) c.in-Some.subcommand
    (map row_of c.arguments_of.result.now) c.in-Err.refusal c.unread.result (search rules) c.arguments_of.ensures (search rules)
    c.unread.ensures.told c.unread.ensures.memory

pub returns-in-Err-invocation_of : goal.returns-in-Err-invocation_of
returns-in-Err-invocation_of c =
    refused_given (map string_bytes c.args.words.now) (option_map (λ s. s.now) c.args.wait) c.in-Some.subcommand
    (map row_of c.arguments_of.result.now) c.in-Ok.given c.in-Err-invocation_of.refused c.told.result (search rules)
    c.arguments_of.ensures (search rules) (search rules) c.told.ensures.told c.told.ensures.memory

pub returns : goal.returns
returns c =
    let rows = map row_of c.arguments_of.result.now in
    let behind = drop-map (string_bytes {Z = Global}) 2 c.args.words.now
    ∙ ap (λ words. map (string_bytes {Z = Global}) words) (sym c.words_behind.ensures) in
    refused_wait (map string_bytes c.args.words.now) (option_map (λ s. s.now) c.args.wait) c.in-Some.subcommand
    rows c.in-Ok.given c.in-Err-wait_of.refused c.told-in-Err-wait_of.result (search rules)
    c.arguments_of.ensures (ap (λ words. read rows words) behind ∙ c.in-Ok.ensures) c.in-Ok-invocation_of.ensures.0
    c.in-Err-wait_of.ensures c.told-in-Err-wait_of.ensures.told c.told-in-Err-wait_of.ensures.memory
