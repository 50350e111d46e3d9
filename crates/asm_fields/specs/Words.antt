-- The words that a directive writes.
use Rattle.std.specs.Prelude.{ℤ, pos, negsuc}
use Rattle.cap_words.specs.declared.TheConstants.{LAST_PLACE}
use Rattle.cap_words.specs.declared.CapFields.{CapFields}
use Rattle.cap_words.specs.declared.SealFields.{SealFields}
use Rattle.cap_words.specs.declared.Word.{Word}
use Rattle.cap_words.specs.declared.Word.TheVariants as word
use Rattle.asm_fields.specs.declared.fault.AsmFault.{AsmFault}
use Rattle.asm_fields.specs.declared.directives.WordKind.{WordKind}
use Rattle.asm_fields.specs.declared.directives.WordKind.TheVariants.{Int, Cap, Seal}
use Rattle.readers.specs.Readers.{Reader, ◌>>=◌, done}
use Rattle.asm_fields.specs.Fields.{Input, meant, integer_at, natural_at, end_at}
use Rattle.cap_words.specs.Text.{perm_named, lin_named}

-- a number of 64 bits
abbrev pub i64_at : Reader Input AsmFault ℤ
i64_at = integer_at (negsuc 9223372036854775807) (pos 9223372036854775807)

-- PERM LIN BASE END ADDR
unfoldable pub cap_at : Reader Input AsmFault CapFields
cap_at = do
  perm ← meant perm_named
  lin ← meant lin_named
  base ← natural_at 0 LAST_PLACE
  end ← natural_at base LAST_PLACE
  addr ← i64_at
  done (record { perm = perm; lin = lin; base = base; end = end; addr = addr })

-- BASE END CUR
unfoldable pub seals_at : Reader Input AsmFault SealFields
seals_at = do
  base ← natural_at 0 LAST_PLACE
  end ← natural_at base LAST_PLACE
  cur ← i64_at
  done (record { base = base; end = end; cur = cur })

-- what stands after the directive of a word
abbrev pub word_behind : WordKind → Reader Input AsmFault Word
word_behind Int = i64_at >>= λ n. done (word.Int n)
word_behind Cap = cap_at >>= λ c. done (word.Mem c)
word_behind Seal = seals_at >>= λ s. done (word.Seal s)

-- the rest of a word's line
unfoldable pub word_line : WordKind → Reader Input AsmFault Word
word_line kind = do
  word ← word_behind kind
  _ ← end_at
  done word
