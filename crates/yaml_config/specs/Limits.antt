-- The limits of a configuration.
use Rattle.yaml_grammar.specs.Reads as grammar

-- a configuration has at most 4,194,304 bytes as a text and in the one style, and is at most 128 deep
abbrev pub config_limits : grammar.Limits
config_limits = record { bytes = 4194304; depth = 128; style = 4194304 }
