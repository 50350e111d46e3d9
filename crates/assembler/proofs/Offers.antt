-- What the crates above cite: lemmas over the definitions of `specs/`, by what they are of.

-- the table of labels as a list
pub use Rattle.assembler.proofs.LabelTables.{one_more, within}
-- resolving references one after another
pub use Rattle.assembler.proofs.Resolved.{as_many, first_of, last, rest_ready, word_len}
-- printed lines are read again
pub use Rattle.assembler.proofs.Again.{closure_again, code_base_again, data_base_again, export_again}
pub use Rattle.assembler.proofs.Again.{export_forms, fail_again, import_again, import_forms, instr_line_again}
pub use Rattle.assembler.proofs.Again.{item_line_again, kind_forms, linear_again, literal_again}
pub use Rattle.assembler.proofs.Again.{movable_again, name_again, offset_forms, row_again, row_forms}
pub use Rattle.assembler.proofs.Again.{seals_again, site_again, stack_again, stretch_forms, word_line_again}
-- words and instructions that lines give
pub use Rattle.assembler.proofs.Words.{IsPartWord}
-- lists in which each item stands rightly after the one before it
pub use Rattle.assembler.proofs.Chains.{item_in_chain}
