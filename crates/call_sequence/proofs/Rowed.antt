-- What the row at an offset is, once the walk has come there or over it.
use Rattle.std.proofs.Common.{◌≡◌, ℕ, inl, inr, true, false, Option, Some, None, refl, sym, ap, ◌∙◌}
use Rattle.std.specs.Prelude.{IfSome, IfNone}
use Rattle.std.specs.Option.{option_or}
use Rattle.std.proofs.lemmas.Bool.{false_from_ne_true}
use Rattle.component_file.specs.declared.component.ComponentFields.{ComponentFields}
use Rattle.component_file.specs.Limits.{IsComponent}
use Rattle.call_sequence.specs.Kinds.{Row}
use Rattle.call_sequence.specs.Places.{begins_entry, is_inside, declared}
use Rattle.call_sequence.specs.declared.flow.Walk.TheVariants.{Before as before}
use Rattle.call_sequence.specs.Walk.{Arrives, RowAt}
use Rattle.call_sequence.specs.Verdict.{IsKept}
use Rattle.call_sequence.proofs.Walks.{one_current, no_row_inside}
use Rattle.call_sequence.proofs.Placed.{placed_lists, inside_is}

module _ (c : ComponentFields) where
  -- where the walk never comes there is no row
  pub no_row : (o : ℕ) → begins_entry c o ≡ false → ((z : Option Row) → Arrives c (before o z) → ⊥)
      → (r : Row)
      → RowAt c o r → ⊥
  no_row o ne none r (inl h) = let f : true ≡ false = sym h.0 ∙ ne in cc
  no_row o ne none r (inr h) = none h.1.0 h.1.1

  pub row_is : (o : ℕ) (current : Option Row) (r : Option Row) → begins_entry c o ≡ false
      → Arrives c (before o current) → r ≡ option_or (declared c o) current → IfSome r (λ row. RowAt c o row)
  row_is o current None ne h e = tt
  row_is o current (Some row) ne h e = inr (ne, (current, h, sym e))

  pub row_none : (o : ℕ) (current : Option Row) (r : Option Row) → begins_entry c o ≡ false
      → Arrives c (before o current) → r ≡ option_or (declared c o) current
      → IfNone r ((row : Row) → RowAt c o row → ⊥)
  row_none o current (Some row) ne h e = tt
  row_none o current None ne h e = by_row
    where
      by_row : (row : Row) → RowAt c o row → ⊥
      by_row row (inl k) = let f : true ≡ false = sym k.0 ∙ ne in cc
      by_row row (inr k) =
          let same : current ≡ k.1.0 = one_current c o current k.1.0 h k.1.1 in
          let f : None ≡ Some row = e ∙ ap (option_or (declared c o)) same ∙ k.1.2 in
          cc

  module _ (fits : IsComponent c) (kept : IsKept c) where
    -- inside an entry or a site there is none
    pub row_outside : (o : ℕ) (r : Row) → RowAt c o r → is_inside c o ≡ false
    row_outside o r h =
        false_from_ne_true (is_inside c o)
        (λ e. no_row_inside c kept.walked (placed_lists c kept.placed fits)
        o (inside_is c kept.placed fits o e) r h)

    pub each_outside : (o : ℕ) (r : Option Row) → IfSome r (λ row. RowAt c o row)
        → IfSome r (λ row. is_inside c o ≡ false)
    each_outside o None h = tt
    each_outside o (Some row) h = row_outside o row h

    pub entry_outside : (o : ℕ) → begins_entry c o ≡ true → is_inside c o ≡ false
    entry_outside o e = row_outside o _ (inl (e, refl))
