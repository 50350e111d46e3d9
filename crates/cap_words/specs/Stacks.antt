-- The capability of a stack.
use Rattle.std.specs.Prelude.{ℕ, ◌==◌, ◌&&◌, Bool}
use Rattle.cap_words.specs.declared.CapFields.{CapFields}
use Rattle.cap_words.specs.Faces.{perm_number}
use Rattle.cap_words.specs.Linear.{lin_is}

-- a linear rw capability whose range begins where the stack does
abbrev pub is_stack_from : ℕ → CapFields → Bool
is_stack_from base c = lin_is c.lin && (perm_number c.perm == 2) && (c.base == base)
