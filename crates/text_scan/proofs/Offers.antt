-- What the crates above cite: lemmas over the definitions of `specs/`, by what they are of.

-- where the tokens of a text stand, and what their bytes are
pub use Rattle.text_scan.proofs.Places.{next_here, placed_ends}
-- what printed pieces of a line are read as
pub use Rattle.text_scan.proofs.Printed.{AreInLine, Form, InNumbers, IsField, IsInLine, IsLineByte, IsPrinted}
pub use Rattle.text_scan.proofs.Printed.{IsRest, Shows, directive_field, form_in, integer_field}
pub use Rattle.text_scan.proofs.Printed.{integer_forms, name_field, name_form, number_field, printed}
pub use Rattle.text_scan.proofs.Printed.{rest_all, rest_more, rest_none, shows_blank, shows_name}
pub use Rattle.text_scan.proofs.Printed.{shows_nothing, shows_number, shows_token, sign_form, widened}
