-- The sites of a component among the pieces of its code, and the calls of a program in order.
use Rattle.std.specs.Prelude.{◌≡◌, ℕ, suc, ◌+◌, true, List, [], ◌∷◌, slice_get, Some}
use Rattle.component_file.specs.declared.component.ComponentFields.{ComponentFields}
use Rattle.call_sequence.specs.Places.{begins_site}
use Rattle.proc_program.specs.Program.{Exp, Number, Load, Element, Call, Binary, Args, no_args, value, pass}
use Rattle.proc_program.specs.Program.{Statement, Set, SetAt, Do, If, While, Return, Halt}
use Rattle.proc_program.specs.Program.{Block, no_steps, step}
use Rattle.proc_program.specs.Calls.{calls, args_calls, step_calls, block_calls}
use Rattle.proc_templates.specs.Items.{Item, site}
use Rattle.proc_templates.specs.Free.{behind}

-- how many sites stand before the next piece, and after pieces
abbrev pub next_count : ℕ → Item → ℕ
next_count j site = suc j
next_count j _ = j

abbrev pub count : ℕ → List Item → ℕ
count j [] = j
count j (x ∷ xs) = count (next_count j x) xs

module _ (c : ComponentFields) where
  -- the site of a number begins at an offset
  pub record SiteIs (j k : ℕ) : Type 0 where
    pub begins : begins_site c k ≡ true
    pub listed : slice_get c.sites j ≡ Some k

  abbrev pub SiteAt : ℕ → ℕ → Item → Type 0
  SiteAt j k site = SiteIs j k
  SiteAt j k _ = Unit {0}

  -- pieces from an offset on, before which so many sites stand
  abbrev pub SitesAt : ℕ → ℕ → List Item → Type 0
  SitesAt j k [] = Unit {0}
  SitesAt j k (x ∷ xs) = SiteAt j k x × SitesAt (next_count j x) (behind k x) xs

-- calls are numbered in order, before which there are so many: a call comes after those of its arguments
abbrev mutual
  pub Numbered : ℕ → Exp → Type 0
  Numbered j (Number n) = Unit {0}
  Numbered j (Load x) = Unit {0}
  Numbered j (Element r e) = Numbered j e
  Numbered j (Call n h xs) = ArgsNumbered j xs × (n ≡ j + args_calls xs)
  Numbered j (Binary o a b) = Numbered j a × Numbered (j + calls a) b

  pub ArgsNumbered : ℕ → Args → Type 0
  ArgsNumbered j no_args = Unit {0}
  ArgsNumbered j (value e xs) = Numbered j e × ArgsNumbered (j + calls e) xs
  ArgsNumbered j (pass h xs) = ArgsNumbered j xs

abbrev mutual
  pub StepNumbered : ℕ → Statement → Type 0
  StepNumbered j (Set x e) = Numbered j e
  StepNumbered j (SetAt r i e) = Numbered j i × Numbered (j + calls i) e
  StepNumbered j (Do e) = Numbered j e
  StepNumbered j (If c a b) =
      Numbered j c × BlockNumbered (j + calls c) a × BlockNumbered (j + calls c + block_calls a) b
  StepNumbered j (While c b) = Numbered j c × BlockNumbered (j + calls c) b
  StepNumbered j (Return e) = Numbered j e
  StepNumbered j (Halt e) = Numbered j e

  pub BlockNumbered : ℕ → Block → Type 0
  BlockNumbered j no_steps = Unit {0}
  BlockNumbered j (step s b) = StepNumbered j s × BlockNumbered (j + step_calls s) b
