-- A relation of computations that ticks, events and items keep is one of the plain domain with itself.
use Rattle.std.proofs.Common.{◌≡◌, ℕ, suc, ◌≤◌, ℤ, refl, ap}
use Rattle.source_events.specs.declared.Item.{Item}
use Rattle.source_events.specs.declared.OutEvent.{OutEvent}
use Rattle.source_events.specs.declared.OutEvent.TheVariants.{CallOut, LeaveOut}
use Rattle.source_events.specs.declared.End.TheVariants.{Halt as Halted}
use Rattle.proc_semantics.specs.declared.value.Activation.{Activation}
use Rattle.proc_semantics.specs.Told.{Comp, ends, fails, tick, emit, take_item}
use Rattle.proc_semantics.specs.Values.{value_args}
use Rattle.proc_semantics.specs.Meaning.{plain_domain}
use Rattle.proc_semantics.proofs.Kin.{Kin}

-- a relation at each bound on what is left of fuel and feed; a tick and an item make the bound one more
pub record IsKept (R : ℕ → Comp → Comp → Type 0) : Type 0 where
  pub failing : (b : ℕ) → R b fails fails
  pub halting : (b : ℕ) (v : ℤ) → R b (ends (Halted v)) (ends (Halted v))
  pub ticking : (b : ℕ) (m m' : Comp) → R b m m' → R (suc b) (tick m) (tick m')
  pub emitting : (b : ℕ) (e : OutEvent) (m m' : Comp) → R b m m' → R b (emit e m) (emit e m')
  pub taking : (b : ℕ) (k k' : Item → Comp) → ((i : Item) → R b (k i) (k' i))
      → R (suc b) (take_item k) (take_item k')
  pub less : (b c : ℕ) (m m' : Comp) → b ≤ c → R c m m' → R b m m'
  pub none : (m m' : Comp) → R 0 m m'

abbrev pub kin_by : (R : ℕ → Comp → Comp → Type 0) → IsKept R → Kin plain_domain plain_domain
kin_by R kept = record {
  R = R;
  Runs = λ f g. f ≡ g;
  Regs = λ r s. r ≡ s;
  Ways = λ w x. Unit {0};
  Mark = λ e x. Unit {0};
  Thing = λ x y. x ≡ y;
  failing = kept.failing;
  halting = kept.halting;
  ticking = kept.ticking;
  taking = λ b k k' h. kept.taking b k k' (λ i. h i i refl);
  calling = λ b part site base w x vs m m' e s. kept.emitting b (CallOut part site (value_args vs)) m m' s;
  leaving = λ b part e x v m m' i s. kept.emitting b (LeaveOut part v) m m' s;
  beginning = λ b left need m m' s. s;
  answered = λ b given m m' s. s;
  less = kept.less;
  none = kept.none;
  item = λ x y e. e;
  mark = λ x y e. tt;
  fed = λ world x y ints pairs e. refl;
  registers = λ r s e. e;
  nothing = refl;
  single = λ v. refl;
  handed = λ w x vs e. refl;
  frame = λ home left p r s e. refl;
  home = λ f g e. ap (λ (a : Activation). a.home) e;
  left = λ f g e. ap (λ (a : Activation). a.left) e;
  need = λ f g e. ap (λ (a : Activation). a.need) e;
  way = λ f g h xs e. tt;
}
