-- What the crates above cite: lemmas over the definitions of `specs/`, by what they are of.

-- no byte of a name, a number or a word is below 40, so none is a blank or a newline
pub use Rattle.audited_runs.proofs.High.{IsHigh, decimal_high, name_high, name_is, word_high}
-- fields, each after a blank, and the lines of a text
pub use Rattle.audited_runs.proofs.Spaced.{AllHigh, fields_are, spaced, words_high, words_spaced}
-- what fields of lines are read as
pub use Rattle.audited_runs.proofs.FieldsRead.{back_high, natural_again, pair_high, signed_fits}
-- the lines of runs, as a feed's reader sees them
pub use Rattle.audited_runs.proofs.LinesSeen.{body, line_text_is}
-- an end line is one line, and a feed's reader passes it over
pub use Rattle.audited_runs.proofs.EndLinesSeen.{IsPassedOver, cause_high, end_body, end_is, pc_high}
-- a text of lines that fit, and then a line that is passed over, is a feed
pub use Rattle.audited_runs.proofs.Feeding.{end_line_is, lines_are}
