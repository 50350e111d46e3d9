-- Each field is the part's.
use Rattle.std.proofs.Common.{length, refl, ap, ◌∙◌, arith}
use Rattle.linked_starts.specs.Owners.{owner_of}
use Rattle.component_linker.proofs.owners.named.Goals as goal

pub returns : goal.returns
unfolding owner_of
returns c =
    rw (
      c.in_ok-name.ensures,
      c.name.ensures,
      c.trusted.ensures,
      c.span_of.ensures,
      c.code_base.ensures.is,
      c.len.ensures,
      c.code.ensures.is,
      c.span_of-2.ensures,
      c.data_base.ensures.is,
      c.len-2.ensures,
      c.data_words.ensures.is,
      c.closure.ensures,
      c.same_seals.ensures,
      c.seals.ensures,
      c.in_ok-entries.ensures,
      c.in_ok-calls.ensures,
    ) refl

pub span_of-requires : goal.span_of-requires
span_of-requires c =
    let len = c.len.ensures ∙ ap length c.code.ensures.is in
    let base = c.code_base.ensures.is in
    let some = c.requires.limits.code in
    let end = c.requires.code_end in
    record { some = omega (arith, len, some); fits = omega (arith, len, base, end) }

pub span_of-requires-2 : goal.span_of-requires-2
span_of-requires-2 c =
    let len = c.len-2.ensures ∙ ap length c.data_words.ensures.is in
    let base = c.data_base.ensures.is in
    let some = c.requires.limits.data_words in
    let end = c.requires.data_end in
    record { some = omega (arith, len, some); fits = omega (arith, len, base, end) }
