-- What the definitions and the code of this crate name of others.
pub use Rattle.{conf_record.specs.Records.{edit_members, edit_elements}, conf_state.specs.{Limits.IsState, Commands.{Command, Edit}}}
pub use Rattle.conf_state.specs.{Commands.{import_as, set_at, delete_at, name_of, edit_of, text_of}, Names.good_name, States.Entry}
pub use Rattle.conf_state.specs.{States.{Contents, names_of, config_named, put_config, cut_config}, Steps.{after, and_then, all_edited}}
pub use Rattle.conf_state.specs.{Steps.{by_path, found}, declared.fault.StoreFault.{StoreFault, TheVariants.{BadName, TooDeep}}}
pub use Rattle.{conf_state.specs.declared.fault.StoreFault.TheVariants.ConfigLarge, json_pointer.specs.Pointers.path_of}
pub use Rattle.{tree_diff.specs.{Diffs.{Change, change_of, changes_of}, Differences.{differences, written}}, tree_path.specs.Paths.set}
pub use Rattle.{tree_path.specs.Paths.delete, yaml_config.specs.Kept.{IsKept, own_limits}, yaml_data.specs.Seen.tree_of}
pub use Rattle.yaml_grammar.specs.{Style.{style_text, scalar_lines, value_at, members_at, elements_after}, Trees.{Tree, sequence}}
pub use Rattle.yaml_grammar.specs.Texts.{byte_len, spaces, same_text}
pub use Rattle.std.specs.Str.{chars}
