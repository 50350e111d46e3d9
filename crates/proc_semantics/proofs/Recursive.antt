-- The meaning without levels obeys the recursion, and any level that is enough gives the meaning.
use Rattle.std.proofs.Common.{◌≡◌, ℕ, zero, suc, ◌+◌, ◌<◌, ◌≤◌, ℤ, List, [], ◌∷◌, length, map, Option, Some}
use Rattle.std.proofs.Common.{None, refl, sym, ap, ◌∙◌, arith, add-one}
use Rattle.proc_semantics.specs.declared.value.Target.{Target}
use Rattle.proc_program.specs.Program.{Exp, Block}
use Rattle.source_events.specs.declared.Item.{Item}
use Rattle.proc_semantics.specs.declared.value.Value.{Value}
use Rattle.proc_semantics.specs.declared.value.Value.TheVariants.{Num}
use Rattle.proc_semantics.specs.declared.value.Register.{Register}
use Rattle.proc_semantics.specs.declared.value.Activation.{Activation}
use Rattle.proc_semantics.specs.Told.{Comp, tick, counted, said, take_item}
use Rattle.proc_semantics.specs.Values.{World, register_of, Store, main_target, proc_at}
use Rattle.proc_semantics.specs.Meaning.{Then, Next, Wait, Level, proc_of, turn_at, on_item, level, start}
use Rattle.proc_semantics.specs.Meaning.{meaning, plain_domain}
use Rattle.proc_semantics.specs.Whole.{whole_proc, whole_wait, whole_turn, whole_hop, whole, IsRecursive}
use Rattle.proc_semantics.proofs.Congruence.{IsKept, kin_by}
use Rattle.proc_semantics.proofs.Kin.{Kin, RWait, RLevel, levels_kept, starts_kept, proc_kept, turn_kept}
use Rattle.proc_semantics.proofs.Kin.{item_kept, then_less, next_less, wait_less}

pub record Same (b : ℕ) (m m' : Comp) : Type 0 where
  is : (f : ℕ) (feed : List Item) → f + length feed < b → m f feed ≡ m' f feed

same_tick : (b : ℕ) (m m' : Comp) → Same b m m' → Same (suc b) (tick m) (tick m')
same_tick b m m' s = record { is = is }
  where
    is : (f : ℕ) (feed : List Item) → f + length feed < suc b → tick m f feed ≡ tick m' f feed
    is zero feed lt = refl
    is (suc f) feed lt = ap counted (s.is f feed (omega (arith, lt)))

same_take : (b : ℕ) (k k' : Item → Comp) → ((i : Item) → Same b (k i) (k' i))
    → Same (suc b) (take_item k) (take_item k')
same_take b k k' s = record { is = is }
  where
    is : (f : ℕ) (feed : List Item) → f + length feed < suc b → take_item k f feed ≡ take_item k' f feed
    is f [] lt = refl
    is f (i ∷ feed) lt = (s i).is f feed (omega (arith, lt))

same_kept : IsKept Same
same_kept = record {
  failing = λ b. record { is = λ f feed lt. refl };
  halting = λ b v. record { is = λ f feed lt. refl };
  ticking = same_tick;
  emitting = λ b e m m' s. record { is = λ f feed lt. ap (said e) (s.is f feed lt) };
  taking = same_take;
  less = λ b c m m' le s. record { is = λ f feed lt. s.is f feed (omega (arith, lt, le)) };
  none = λ m m'. record { is = λ f feed lt. absurd (omega (arith, lt)) };
}

abbrev same_kin : Kin plain_domain plain_domain
same_kin = kin_by Same same_kept

refl_same : (b : ℕ) (m : Comp) → Same b m m
refl_same b m = record { is = λ f feed lt. refl }

same_wait : (b : ℕ) (c : Option Wait) → RWait plain_domain plain_domain same_kin b c c
same_wait b None = tt
same_wait b (Some c) = (refl, refl, refl, refl, λ v st. refl_same b _)

module _ (world : World) where
  same_levels : (n d : ℕ) → n ≤ d
      → RLevel plain_domain plain_domain same_kin n (level world d) (level world n)
  same_levels n d le = levels_kept plain_domain plain_domain same_kin world n d n le (omega arith)

  same_whole : (b d : ℕ) → b ≤ d → RLevel plain_domain plain_domain same_kin b (level world d) (whole world)
  unfolding whole_proc whole_wait whole_turn whole_hop
  same_whole b d le = record {
    procs = λ t left rs rs' k k' st e h. record {
      is = λ f feed lt.
          let n = f + length feed + 1 in
          ((same_levels n d (omega (arith, lt, le))).procs t left rs rs' k k' st e
          (then_less plain_domain plain_domain same_kin n b k k' (omega (arith, lt)) h)).is f feed
          (omega arith);
    };
    waits = λ c c' st h. record {
      is = λ f feed lt.
          let n = f + length feed + 1 in
          ((same_levels n d (omega (arith, lt, le))).waits c c' st
          (wait_less plain_domain plain_domain same_kin n b c c' (omega (arith, lt)) h)).is f feed
          (omega arith);
    };
    turns = λ x y c b' back back' k k' env st e r h. record {
      is = λ f feed lt.
          let n = f + length feed + 1 in
          ((same_levels n d (omega (arith, lt, le))).turns x y c b' back back' k k' env st e
          (then_less plain_domain plain_domain same_kin n b back back' (omega (arith, lt)) r)
          (next_less plain_domain plain_domain same_kin n b k k' (omega (arith, lt)) h)).is f feed
          (omega arith);
    };
    hops = λ c c' left t v st h. record {
      is = λ f feed lt.
          let n = f + length feed + 1 in
          ((same_levels n d (omega (arith, lt, le))).hops c c' left t v st
          (wait_less plain_domain plain_domain same_kin n b c c' (omega (arith, lt)) h)).is f feed
          (omega arith);
    };
  }

  same_start : (b stack : ℕ) (t : Option Target) (st : Store) (l l' : Level)
      → RLevel plain_domain plain_domain same_kin b l l'
      → Same b (start world l stack t st) (start world l' stack t st)
  same_start b stack None st l l' same = same.waits None None st tt
  same_start b stack (Some t) st l l' same =
      same.procs t (Some stack) [] [] _ _ st refl (λ v st1. refl_same b _)

-- the start at any level that is enough for the fuel and the feed gives the meaning
pub enough : (world : World) (stack : ℕ) (feed : List Item) (f d : ℕ) → f + length feed < d
    → start world (level world d) stack (main_target world) (map (λ u. u.globals) world) f feed
    ≡ meaning world stack feed f
enough world stack feed f d lt =
    let n = f + length feed + 1 in
    (starts_kept plain_domain plain_domain same_kin world n stack d n (main_target world)
    (map (λ u. u.globals) world) (omega (arith, lt)) (omega arith)).is f feed (omega arith)

-- the meaning is the start without levels
pub starts : (world : World) (stack : ℕ) (feed : List Item) (f : ℕ)
    → start world (whole world) stack (main_target world) (map (λ u. u.globals) world) f feed
    ≡ meaning world stack feed f
starts world stack feed f =
    let n = f + length feed + 1 in
    sym ((same_start world n stack (main_target world) (map (λ u. u.globals) world) _ _
    (same_whole world n n (omega arith))).is f feed (omega arith))

module _ (world : World) where
  pub recursive : IsRecursive world
  unfolding whole_proc whole_wait whole_turn whole_hop
  recursive = record {
    procs = λ t left rs k st i f feed. proc_is t left rs k st f feed i;
    waits = λ c st i f feed. wait_is c st f feed i;
    turns = λ x c b back k env st i f feed. turn_is x c b back k env st f feed i;
    hops = λ c left t v st i f feed. hop_is c left t v st f feed i;
    means = λ stack feed f. sym (starts world stack feed f);
  }
    where
      proc_is : (t : Target) (left : Option ℕ) (rs : List Register) (k : Then) (st : Store) (f : ℕ)
          (feed : List Item) → whole_proc world t left rs k st f feed ≡ proc_of world (whole world) t.home
          (proc_at world t) left rs k st f feed
      proc_is t left rs k st f feed =
          let n = f + length feed in
          ap (λ d. (level world d).proc t left rs k st f feed) (add-one n)
          ∙ (proc_kept plain_domain plain_domain same_kin world n (level world n) (whole world)
          (same_whole world n n (omega arith)) t.home (proc_at world t) left rs rs k k st refl
          (λ v st1. refl_same n _)).is f feed (omega arith)

      wait_is : (c : Option Wait) (st : Store) (f : ℕ) (feed : List Item) → whole_wait world c st f feed
          ≡ take_item (on_item world (whole world) c st) f feed
      wait_is c st f feed =
          let n = f + length feed in
          ap (λ d. (level world d).wait c st f feed) (add-one n)
          ∙ (same_take n _ _ (λ i. item_kept plain_domain plain_domain same_kin world n (level world n)
          (whole world) (same_whole world n n (omega arith)) c c st i i refl (same_wait n c))).is f feed
          (omega arith)

      turn_is : (x : Activation) (c : Exp) (b : Block) (back : Then) (k : Next) (env : List Value)
          (st : Store)
          (f : ℕ) (feed : List Item) → whole_turn world x c b back k env st f feed
          ≡ turn_at world (whole world) x c b back k env st f feed
      turn_is x c b back k env st f feed =
          let n = f + length feed in
          ap (λ d. (level world d).turn x c b back k env st f feed) (add-one n)
          ∙ (turn_kept plain_domain plain_domain same_kin world n (level world n) (whole world)
          (same_whole world n n (omega arith)) x x c b back back k k env st refl (λ v st1. refl_same n _)
          (λ e st1. refl_same n _)).is f feed (omega arith)

      hop_is : (c : Option Wait) (left : Option ℕ) (t : Target) (v : ℤ) (st : Store) (f : ℕ)
          (feed : List Item) → whole_hop world c left t v st f feed ≡ proc_of world (whole world) t.home
          (proc_at world t) left (register_of (Num v) ∷ []) (whole_hop world c left t) st f feed
      hop_is c left t v st f feed =
          let n = f + length feed in
          ap (λ d. (level world d).hop c left t v st f feed) (add-one n)
          ∙ (proc_kept plain_domain plain_domain same_kin world n (level world n) (whole world)
          (same_whole world n n (omega arith)) t.home (proc_at world t) left (register_of (Num v) ∷ [])
          (register_of (Num v) ∷ []) _ _ st refl
          (λ x st1. (same_whole world n n (omega arith)).hops c c left t x st1 (same_wait n c))).is f feed
          (omega arith)
