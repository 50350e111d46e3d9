use Rattle.std.proofs.Common.{◌≡◌, ◌∷◌, [], subst, rules}
use Rattle.std.specs.Prelude.{decimal, OnOk}
use Rattle.std.specs.Int.{w64}
use Rattle.std.specs.Fmt.{signed_decimal}
use Rattle.std.proofs.lemmas.Int.{to_z-of_z}
use Rattle.cap_words.specs.Text.{perm_name, lin_name}
use Rattle.asm_fields.specs.declared.directives.WordKind.TheVariants as kind
use Rattle.asm_fields.specs.declared.directives.Directive.TheVariants as directive
use Rattle.asm_fields.specs.Fields.{dot}
use Rattle.asm_fields.specs.Directives.{directive_name}
use Rattle.disassembler.proofs.Glued.{line_glued}
use Rattle.disassembler.proofs.words.push_cap.Goals as goal

-- the pieces from the last to the first
pub returns : goal.returns
returns c =
    let cap = c.args.cap in
    let addr = to_z-of_z w64 cap.addr (search rules) in
    subst (λ t. OnOk c.end.result (c.end.new.text.items ≡ t))
    (rw (
      c.in_ok-push_integer.ensures,
      addr,
      c.in_ok-push_number-2.ensures,
      c.in_ok-push_number.ensures,
      c.in_ok-push_operand-2.ensures,
      c.as_bytes-2.ensures.value,
      c.name-2.ensures,
      c.in_ok-push_operand.ensures,
      c.as_bytes.ensures.value,
      c.name.ensures,
      c.in_ok-begin.ensures,
    ) (line_glued c.args.text.now.items (dot ∷ directive_name (directive.Word kind.Cap))
    (perm_name cap.perm ∷ lin_name cap.lin ∷ decimal cap.base ∷ decimal cap.end ∷ signed_decimal cap.addr
    ∷ [])))
    c.end.ensures
