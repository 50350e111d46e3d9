-- What stands after a procedure, whencever it came to be run.
use Rattle.std.proofs.Common.{◌≡◌, ℤ, pos, List, ◌∷◌, refl}
use Rattle.proc_semantics.specs.declared.value.Activation.{Activation}
use Rattle.proc_semantics.specs.declared.value.Value.{Value}
use Rattle.proc_meaning.specs.declared.work.Work.{Work}
use Rattle.proc_meaning.specs.declared.work.Work.TheVariants.{Ends}
use Rattle.proc_meaning.specs.declared.work.Whence.{Whence}
use Rattle.proc_meaning.specs.declared.work.Whence.TheVariants.{Start, Caller, Entered}
use Rattle.proc_semantics.specs.Values.{World, Store}
use Rattle.proc_semantics.specs.Meaning.{finish}
use Rattle.proc_meaning.specs.Rest.{after, back, ended}

module _ (world : World) where
  pub after_ends : (w : Whence) (ws : List Work) (f : Activation) (env : List Value) (st : Store)
      → after world (Ends w ∷ ws) f env st ≡ finish world f.need (ended world w ws) (pos 0) st
  after_ends Start ws f env st = refl
  after_ends (Caller r) ws f env st = refl
  after_ends (Entered home left b) ws f env st = refl

  pub back_ends : (w : Whence) (ws : List Work) (f : Activation) (v : ℤ) (st : Store)
      → back world (Ends w ∷ ws) f v st ≡ finish world f.need (ended world w ws) v st
  back_ends Start ws f v st = refl
  back_ends (Caller r) ws f v st = refl
  back_ends (Entered home left b) ws f v st = refl
