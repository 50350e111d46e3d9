-- What the crates above cite: lemmas over the definitions of `specs/`, by what they are of.

-- a text that is cut at its first mark, and its parts
pub use Rattle.line_fields.proofs.Cuts.{cut_is, next_line, parts_at, parts_len, parts_none, parts_some}
-- a number is what its decimal text is read as
pub use Rattle.line_fields.proofs.Numbers.{chosen, integer_again, integer_is, number_again, number_is}
pub use Rattle.line_fields.proofs.Numbers.{some_from, some_of}
-- what was read of fields, one reader after another
pub use Rattle.line_fields.proofs.Taken.{Fields, Goes, goes, meant_is, same_read, tested_is, unless_is}
pub use Rattle.line_fields.proofs.Taken.{whole_is}
-- what stands after a front, and what before a mark that it is free of
pub use Rattle.line_fields.proofs.Fronts.{behind_front, behind_is, cut_front, decimal_free, is_free}
-- a word is what its text is read as, and what is read as a word has this text
pub use Rattle.line_fields.proofs.WordTexts.{fits_has_text, text_is_word, word_is}
-- where a jump leads is read of its own text alone
pub use Rattle.line_fields.proofs.JumpTexts.{back_is, bytes_free, handed_is, text_is_back, text_is_handed}
