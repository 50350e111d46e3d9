-- An export that is inserted at its place.
use Rattle.std.proofs.Common.{◌≡◌, ℕ, ◌+◌, Bool, true, false, List, [], ◌∷◌, refl, ap, ◌∙◌, add-one}
use Rattle.std.specs.Prelude.{if◌then◌else◌}
use Rattle.std.specs.List.{insert}
use Rattle.component_file.specs.declared.component.Export.{Export}
use Rattle.component_file.specs.Limits.{name_lt}
use Rattle.proc_templates.specs.Compiled.{export_into}
use Rattle.proc_compiler.specs.Exported.{place}

insert_later : (x : Export) (es : List Export) (n : ℕ) (e : Export)
    → insert (x ∷ es) (n + 1) e ≡ x ∷ insert es n e
insert_later x es n e = ap (λ k. insert (x ∷ es) k e) (add-one n)

pub placed : (e : Export) (es : List Export) → insert es (place e.name es) e ≡ export_into e es
placed e [] = refl
placed e (x ∷ es) = by (name_lt e.name x.name) (placed e es)
  where
    by : (t : Bool) → insert es (place e.name es) e ≡ export_into e es
        → insert (x ∷ es) (if t then 0 else place e.name es + 1) e ≡
        (if t then e ∷ x ∷ es else x ∷ export_into e es)
    by true h = refl
    by false h = insert_later x es (place e.name es) e ∙ ap (λ xs. x ∷ xs) h
