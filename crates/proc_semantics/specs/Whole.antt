-- The meaning without levels: at each fuel and feed, the level that is enough for them.
use Rattle.std.specs.Prelude.{◌≡◌, ℕ, ◌+◌, ℤ, List, [], ◌∷◌, length, map, Option}
use Rattle.source_events.specs.declared.Item.{Item}
use Rattle.proc_program.specs.Program.{Exp, Block}
use Rattle.proc_semantics.specs.declared.value.Target.{Target}
use Rattle.proc_semantics.specs.declared.value.Value.{Value}
use Rattle.proc_semantics.specs.declared.value.Value.TheVariants.{Num}
use Rattle.proc_semantics.specs.declared.value.Register.{Register}
use Rattle.proc_semantics.specs.declared.value.Activation.{Activation}
use Rattle.proc_semantics.specs.Told.{Comp, take_item}
use Rattle.proc_semantics.specs.Values.{World, Store, register_of, proc_at, main_target}
use Rattle.proc_semantics.specs.Meaning.{Level, Wait, Then, Next, level, proc_of, on_item, turn_at}
use Rattle.proc_semantics.specs.Meaning.{start, meaning}

module _ (world : World) where
  unfoldable pub whole_proc : Target → Option ℕ → List Register → Then → Store → Comp
  whole_proc t left rs k st fuel feed = (level world (fuel + length feed + 1)).proc t left rs k st fuel feed

  unfoldable pub whole_wait : Option Wait → Store → Comp
  whole_wait c st fuel feed = (level world (fuel + length feed + 1)).wait c st fuel feed

  unfoldable pub whole_turn : Activation → Exp → Block → Then → Next → Next
  whole_turn f c b back k env st fuel feed =
      (level world (fuel + length feed + 1)).turn f c b back k env st fuel feed

  unfoldable pub whole_hop : Option Wait → Option ℕ → Target → Then
  whole_hop c left t v st fuel feed = (level world (fuel + length feed + 1)).hop c left t v st fuel feed

  abbrev pub whole : Level
  whole = record { proc = whole_proc; wait = whole_wait; turn = whole_turn; hop = whole_hop }

  -- each goes on by what is below, with no levels
  pub record IsRecursive : Type 0 where
    pub procs : (t : Target) (left : Option ℕ) (rs : List Register) (k : Then) (st : Store)
        → whole_proc t left rs k st ≡ proc_of world whole t.home (proc_at world t) left rs k st
    pub waits : (c : Option Wait) (st : Store) → whole_wait c st ≡ take_item (on_item world whole c st)
    pub turns : (f : Activation) (c : Exp) (b : Block) (back : Then) (k : Next) (env : List Value)
        (st : Store)
        → whole_turn f c b back k env st ≡ turn_at world whole f c b back k env st
    pub hops : (c : Option Wait) (left : Option ℕ) (t : Target) (v : ℤ) (st : Store)
        → whole_hop c left t v st
        ≡ proc_of world whole t.home (proc_at world t) left (register_of (Num v) ∷ [])
        (whole_hop c left t) st
    -- and the meaning begins so
    pub means : (stack : ℕ) (feed : List Item) (fuel : ℕ) → meaning world stack feed fuel
        ≡ start world whole stack (main_target world) (map (λ u. u.globals) world) fuel feed
