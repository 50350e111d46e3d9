-- What the crates above cite: lemmas over the definitions of `specs/`, by what they are of.

-- printed fields are read again
pub use Rattle.asm_fields.proofs.Again.{Again, Alike, Whole, again_done, again_holds, again_last, again_meant}
pub use Rattle.asm_fields.proofs.Again.{again_name, again_name_or, again_proper, again_sign, again_some}
pub use Rattle.asm_fields.proofs.Again.{again_then, alike_seen, left, whole_last, whole_line, whole_placed}
pub use Rattle.asm_fields.proofs.Again.{whole_then}
-- words, instructions and operands that were printed are read again
pub use Rattle.asm_fields.proofs.Printed.{address_again, cap_again, cap_forms, directive_is_field, i64_field}
pub use Rattle.asm_fields.proofs.Printed.{instr_again, instr_forms, instr_printed, int_again, kind_field}
pub use Rattle.asm_fields.proofs.Printed.{last_of, lin_field, offset_again, offset_field, operand_forms}
pub use Rattle.asm_fields.proofs.Printed.{perm_field, place_field, proper_field, seals_again, seals_forms}
pub use Rattle.asm_fields.proofs.Printed.{shared_at_again, shared_field, stretch_again}
