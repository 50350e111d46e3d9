use Rattle.std.proofs.Common.{◌≡◌, ◌∷◌, [], subst, rules}
use Rattle.std.specs.Prelude.{decimal, OnOk}
use Rattle.std.specs.Int.{w64}
use Rattle.std.specs.Fmt.{signed_decimal}
use Rattle.std.proofs.lemmas.Int.{to_z-of_z}
use Rattle.asm_fields.specs.declared.directives.WordKind.TheVariants as kind
use Rattle.asm_fields.specs.declared.directives.Directive.TheVariants as directive
use Rattle.asm_fields.specs.Fields.{dot}
use Rattle.asm_fields.specs.Directives.{directive_name}
use Rattle.disassembler.proofs.Glued.{line_glued}
use Rattle.disassembler.proofs.words.push_seal.Goals as goal

-- the pieces from the last to the first
pub returns : goal.returns
returns c =
    let seals = c.args.seals in
    let cur = to_z-of_z w64 seals.cur (search rules) in
    subst (λ t. OnOk c.end.result (c.end.new.text.items ≡ t))
    (rw (
      c.in_ok-push_integer.ensures,
      cur,
      c.in_ok-push_number-2.ensures,
      c.in_ok-push_number.ensures,
      c.in_ok-begin.ensures,
    ) (line_glued c.args.text.now.items (dot ∷ directive_name (directive.Word kind.Seal))
    (decimal seals.base ∷ decimal seals.end ∷ signed_decimal seals.cur ∷ [])))
    c.end.ensures
