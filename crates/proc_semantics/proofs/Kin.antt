-- Two domains that are related, in what they tell and in what they carry: a meaning of the one is related to
-- that of the other.
use Rattle.std.proofs.Common.{◌≡◌, ℕ, zero, suc, ◌+◌, ◌≤◌, ℤ, pos, List, [], ◌∷◌, ◌++◌, replicate, Option}
use Rattle.std.proofs.Common.{Some, None, Bool, true, false, refl, sym, ap, ◌∙◌, subst, arith, one-add}
use Rattle.std.specs.Prelude.{if◌then◌else◌, ◌==◌, ◌&&◌, slice_set}
use Rattle.std.specs.Str.{bytes_eq}
use Rattle.proc_language.specs.declared.tree.Op.{Op}
use Rattle.proc_semantics.specs.declared.value.Target.{Target}
use Rattle.proc_program.specs.declared.program.Handle.{Handle}
use Rattle.proc_program.specs.declared.program.Location.{Location}
use Rattle.proc_program.specs.declared.program.Location.TheVariants.{Local, Global}
use Rattle.proc_program.specs.declared.program.Array.{Array}
use Rattle.proc_program.specs.declared.program.Procedure.{Procedure}
use Rattle.proc_program.specs.Program.{Exp, Number, Load, Element, Call, Binary, Args, no_args, value, pass}
use Rattle.proc_program.specs.Program.{Statement, Set, SetAt, Do, If, While, Return, Halt}
use Rattle.proc_program.specs.Program.{Block, no_steps, step}
use Rattle.proc_program.specs.StepView.{block_of}
use Rattle.source_events.specs.declared.Item.{Item}
use Rattle.source_events.specs.declared.Item.TheVariants.{Enter, Ret}
use Rattle.source_events.specs.declared.FeedBack.{FeedBack}
use Rattle.source_events.specs.declared.FeedBack.TheVariants as way
use Rattle.source_events.specs.declared.FeedPair.{FeedPair}
use Rattle.proc_semantics.specs.declared.value.Pair.{Pair}
use Rattle.proc_semantics.specs.declared.value.Pair.TheVariants.{Bad, Outside, Runs}
use Rattle.proc_semantics.specs.declared.value.Value.{Value}
use Rattle.proc_semantics.specs.declared.value.Value.TheVariants.{Num, Closure, Other}
use Rattle.proc_semantics.specs.Told.{repeated}
use Rattle.proc_semantics.specs.Values.{World, Store, is_zero, set_word, global_word}
use Rattle.proc_semantics.specs.Values.{variable, pair_of, taken, found, proc_at}
use Rattle.proc_semantics.specs.Rules.{Domain, Then, Next, Wait, Level, result_of, with_number, enough}
use Rattle.proc_semantics.specs.Rules.{given_from, is_given, operated, element_at, with_place, element}
use Rattle.proc_semantics.specs.Rules.{assigned, resumed, returned, call_by, call, part_name_of, expr, args}
use Rattle.proc_semantics.specs.Rules.{stmt, block, turn_at, body_of, begin, proc_of, hopped, left_by}
use Rattle.proc_semantics.specs.Rules.{entered, by_item, on_item, level, start}

pub record Kin (M N : Domain) : Type 1 where
  -- a relation at each bound on what is left of fuel and feed; a tick and an item make the bound one more
  pub R : ℕ → M.Comp → N.Comp → Type 0
  pub Runs : M.Run → N.Run → Type 0
  pub Regs : M.Regs → N.Regs → Type 0
  pub Ways : M.Way → N.Way → Type 0
  pub Mark : M.Mark → N.Mark → Type 0
  pub Thing : M.Thing → N.Thing → Type 0
  pub failing : (b : ℕ) → R b M.failing N.failing
  pub halting : (b : ℕ) (v : ℤ) → R b (M.halting v) (N.halting v)
  pub ticking : (b : ℕ) (m : M.Comp) (m' : N.Comp) → R b m m' → R (suc b) (M.ticking m) (N.ticking m')
  pub taking : (b : ℕ) (k : M.Thing → M.Comp) (k' : N.Thing → N.Comp)
      → ((x : M.Thing) (y : N.Thing) → Thing x y → R b (k x) (k' y)) → R (suc b) (M.taking k) (N.taking k')
  pub calling : (b : ℕ) (part : List ℕ) (site base : ℕ) (w : M.Way) (w' : N.Way) (vs : List Value)
      (m : M.Comp) (m' : N.Comp) → Ways w w' → R b m m'
      → R b (M.calling part site base w vs m) (N.calling part site base w' vs m')
  pub leaving : (b : ℕ) (part : List ℕ) (e : M.Mark) (e' : N.Mark) (v : ℤ) (m : M.Comp) (m' : N.Comp)
      → Mark e e' → R b m m' → R b (M.leaving part e v m) (N.leaving part e' v m')
  pub beginning : (b left need : ℕ) (m : M.Comp) (m' : N.Comp) → R b m m'
      → R b (M.beginning left need m) (N.beginning left need m')
  pub answered : (b given : ℕ) (m : M.Comp) (m' : N.Comp) → R b m m'
      → R b (M.answered given m) (N.answered given m')
  pub less : (b c : ℕ) (m : M.Comp) (m' : N.Comp) → b ≤ c → R c m m' → R b m m'
  pub none : (m : M.Comp) (m' : N.Comp) → R 0 m m'
  pub item : (x : M.Thing) (y : N.Thing) → Thing x y → M.item x ≡ N.item y
  pub mark : (x : M.Thing) (y : N.Thing) → Thing x y → Mark (M.mark x) (N.mark y)
  pub fed : (world : World) (x : M.Thing) (y : N.Thing) (ints : List (Option ℤ)) (pairs : List FeedPair)
      → Thing x y → Regs (M.fed world x ints pairs) (N.fed world y ints pairs)
  pub registers : (r : M.Regs) (s : N.Regs) → Regs r s → M.registers r ≡ N.registers s
  pub nothing : Regs M.nothing N.nothing
  pub single : (v : ℤ) → Regs (M.single v) (N.single v)
  pub handed : (w : M.Way) (w' : N.Way) (vs : List Value) → Ways w w' → Regs (M.handed w vs) (N.handed w' vs)
  pub frame : (home left : ℕ) (p : Procedure) (r : M.Regs) (s : N.Regs) → Regs r s
      → Runs (M.frame home left p r) (N.frame home left p s)
  pub home : (f : M.Run) (g : N.Run) → Runs f g → M.home f ≡ N.home g
  pub left : (f : M.Run) (g : N.Run) → Runs f g → M.left f ≡ N.left g
  pub need : (f : M.Run) (g : N.Run) → Runs f g → M.need f ≡ N.need g
  pub way : (f : M.Run) (g : N.Run) (h : Handle) (xs : Args) → Runs f g → Ways (M.way f h xs) (N.way g h xs)

module _ (M N : Domain) (kin : Kin M N) where
  abbrev pub RThen : ℕ → Then M → Then N → Type 0
  RThen b k k' = (v : ℤ) (st : Store) → kin.R b (k v st) (k' v st)

  abbrev pub RNext : ℕ → Next M → Next N → Type 0
  RNext b k k' = (env : List Value) (st : Store) → kin.R b (k env st) (k' env st)

  abbrev pub RWait : ℕ → Option (Wait M) → Option (Wait N) → Type 0
  RWait b None None = Unit {0}
  RWait b (Some c) (Some c') = (c.part ≡ c'.part) × (c.site ≡ c'.site) × (c.base ≡ c'.base) ×
      (c.given ≡ c'.given) × RThen b c.resume c'.resume
  RWait b _ _ = ⊥

  pub record RLevel (b : ℕ) (l : Level M) (l' : Level N) : Type 0 where
    pub procs : (t : Target) (left : Option ℕ) (rs : M.Regs) (rs' : N.Regs) (k : Then M) (k' : Then N)
        (st : Store) → kin.Regs rs rs' → RThen b k k'
        → kin.R b (l.proc t left rs k st) (l'.proc t left rs' k' st)
    pub waits : (c : Option (Wait M)) (c' : Option (Wait N)) (st : Store) → RWait b c c'
        → kin.R b (l.wait c st) (l'.wait c' st)
    pub turns : (f : M.Run) (g : N.Run) (c : Exp) (x : Block) (back : Then M) (back' : Then N) (k : Next M)
        (k' : Next N) (env : List Value) (st : Store) → kin.Runs f g → RThen b back back' → RNext b k k'
        → kin.R b (l.turn f c x back k env st) (l'.turn g c x back' k' env st)
    pub hops : (c : Option (Wait M)) (c' : Option (Wait N)) (left : Option ℕ) (t : Target) (v : ℤ)
        (st : Store) → RWait b c c' → kin.R b (l.hop c left t v st) (l'.hop c' left t v st)

  pub ticked : (b : ℕ) (m : M.Comp) (m' : N.Comp) → kin.R b m m' → kin.R b (M.ticking m) (N.ticking m')
  ticked b m m' s = kin.less b (suc b) (M.ticking m) (N.ticking m') (omega arith) (kin.ticking b m m' s)

  pub ticks_kept : (n b : ℕ) (m : M.Comp) (m' : N.Comp) → kin.R b m m'
      → kin.R b (repeated M.ticking n m) (repeated N.ticking n m')
  ticks_kept zero b m m' s = s
  ticks_kept (suc n) b m m' s =
      ticked b (repeated M.ticking n m) (repeated N.ticking n m') (ticks_kept n b m m' s)

  pub if_kept : (t : Bool) (b : ℕ) (m : M.Comp) (m' : N.Comp) (n : M.Comp) (n' : N.Comp) → kin.R b m m'
      → kin.R b n n' → kin.R b (if t then m else n) (if t then m' else n')
  if_kept true b m m' n n' s r = s
  if_kept false b m m' n n' s r = r

  pub number_kept : (b : ℕ) (v : Option ℤ) (k : Then M) (k' : Then N) (st : Store) → RThen b k k'
      → kin.R b (with_number M v k st) (with_number N v k' st)
  number_kept b None k k' st h = kin.failing b
  number_kept b (Some v) k k' st h = h v st

  pub operated_kept : (b : ℕ) (o : Op) (x y : ℤ) (k : Then M) (k' : Then N) (st : Store) → RThen b k k'
      → kin.R b (operated M o x y k st) (operated N o x y k' st)
  operated_kept b o x y k k' st h = number_kept b (result_of o x y) k k' st h

  pub place_kept : (b : ℕ) (o : Option ℕ) (k : ℕ → M.Comp) (k' : ℕ → N.Comp)
      → ((o : ℕ) → kin.R b (k o) (k' o)) → kin.R b (with_place M o k) (with_place N o k')
  place_kept b None k k' h = kin.failing b
  place_kept b (Some o) k k' h = h o

  pub element_kept : (b : ℕ) (a : Array) (i : ℤ) (k : ℕ → M.Comp) (k' : ℕ → N.Comp)
      → ((o : ℕ) → kin.R b (k o) (k' o)) → kin.R b (element M a i k) (element N a i k')
  element_kept b a i k k' h = place_kept b (element_at a i) k k' h

  pub assigned_kept : (b home : ℕ) (x : Location) (v : ℤ) (k : Next M) (k' : Next N) → RNext b k k'
      → RNext b (assigned M home x v k) (assigned N home x v k')
  assigned_kept b home (Local i) v k k' h env st = h (slice_set env i (Num v)) st
  assigned_kept b home (Global o) v k k' h env st = h env (set_word st home o v)

  -- what a wait is asked is the same of both
  pub asked : (b : ℕ) (c : Wait M) (c' : Wait N) → RWait b (Some c) (Some c')
      → (part : List ℕ) (site base : ℕ) (left : Option ℕ)
      → (bytes_eq part c.part && (site == c.site) && (base == c.base) && is_given left c.given)
      ≡ (bytes_eq part c'.part && (site == c'.site) && (base == c'.base) && is_given left c'.given)
  asked b c c' h part site base left =
      ap (λ x. bytes_eq part x && (site == c.site) && (base == c.base) && is_given left c.given) h.0
      ∙ ap (λ x. bytes_eq part c'.part && (site == x) && (base == c.base) && is_given left c.given) h.1
      ∙ ap (λ x. bytes_eq part c'.part && (site == c'.site) && (base == x) && is_given left c.given) h.2
      ∙ ap (λ x. bytes_eq part c'.part && (site == c'.site) && (base == c'.base) && is_given left x) h.3

  pub resumed_kept : (b : ℕ) (c : Option (Wait M)) (c' : Option (Wait N)) (part : List ℕ) (site base : ℕ)
      (left : Option ℕ) (v : Option ℤ) (st : Store) → RWait b c c'
      → kin.R b (resumed M c part site base left v st) (resumed N c' part site base left v st)
  resumed_kept b None None part site base left v st h = kin.failing b
  resumed_kept b (Some c) (Some c') part site base left None st h = kin.failing b
  resumed_kept b (Some c) (Some c') part site base left (Some v) st h =
      subst (λ t. kin.R b (resumed M (Some c) part site base left (Some v) st)
      (if t then N.answered c'.given (c'.resume v st) else N.failing)) (asked b c c' h part site base left)
      (subst (λ z. kin.R b (resumed M (Some c) part site base left (Some v) st)
      (if (bytes_eq part c.part && (site == c.site) && (base == c.base) && is_given left c.given)
      then N.answered z (c'.resume v st) else N.failing)) h.3
      (if_kept (bytes_eq part c.part && (site == c.site) && (base == c.base) && is_given left c.given) b _ _
      _ _ (kin.answered b c.given _ _ (h.4 v st)) (kin.failing b)))
  resumed_kept b None (Some c') part site base left v st h = absurd h
  resumed_kept b (Some c) None part site base left v st h = absurd h

  pub returned_kept : (b : ℕ) (c : Option (Wait M)) (c' : Option (Wait N)) (left : Option ℕ) (part : List ℕ)
      (site base : ℕ) (v : ℤ) (st : Store) → RWait b c c'
      → kin.R b (returned M c left part site base v st) (returned N c' left part site base v st)
  returned_kept b c c' None part site base v st h = kin.failing b
  returned_kept b c c' (Some left) part site base v st h =
      resumed_kept b c c' part site base (Some left) (Some v) st h

  module _ (world : World) (b : ℕ) (l : Level M) (l' : Level N) (same : RLevel b l l') where
    pub call_by_kept : (home given site : ℕ) (w : M.Way) (w' : N.Way) (p : Pair) (vs : List Value)
        (k : Then M) (k' : Then N) (st : Store) → kin.Ways w w' → RThen b k k'
        → kin.R b (call_by M world l home given site w p vs k st)
        (call_by N world l' home given site w' p vs k' st)
    call_by_kept home given site w w' Bad vs k k' st e h = kin.failing b
    call_by_kept home given site w w' Outside vs k k' st e h =
        kin.calling b _ _ _ w w' vs _ _ e (same.waits _ _ st (refl, refl, refl, refl, h))
    call_by_kept home given site w w' (Runs t) vs k k' st e h =
        same.procs t (Some given) _ _ k k' st (kin.handed w w' vs e) h

    pub call_kept : (f : M.Run) (g : N.Run) (site : ℕ) (w : M.Way) (w' : N.Way) (p : Pair) (vs : List Value)
        (k : Then M) (k' : Then N) (st : Store) → kin.Runs f g → kin.Ways w w' → RThen b k k'
        → kin.R b (call M world l f site w p vs k st) (call N world l' g site w' p vs k' st)
    call_kept f g site w w' p vs k k' st r e h =
        let m = call M world l f site w p vs k st in
        subst (λ z. kin.R b m (with_place N (given_from z (N.need g))
        (λ given. call_by N world l' (N.home g) given site w' p vs k' st))) (kin.left f g r)
        (subst (λ z. kin.R b m (with_place N (given_from (M.left f) z)
        (λ given. call_by N world l' (N.home g) given site w' p vs k' st))) (kin.need f g r)
        (subst (λ z. kin.R b m (with_place N (given_from (M.left f) (M.need f))
        (λ given. call_by N world l' z given site w' p vs k' st))) (kin.home f g r)
        (place_kept b (given_from (M.left f) (M.need f)) _ _
        (λ given. call_by_kept (M.home f) given site w w' p vs k k' st e h))))

    mutual
      pub expr_kept : (f : M.Run) (g : N.Run) (env : List Value) (e : Exp) (k : Then M) (k' : Then N)
          (st : Store) → kin.Runs f g → RThen b k k'
          → kin.R b (expr M world l f env e k st) (expr N world l' g env e k' st)
      expr_kept f g env (Number n) k k' st r h = ticked b _ _ (h (pos n) st)
      expr_kept f g env (Load x) k k' st r h =
          subst (λ z. kin.R b (M.ticking (k (variable (M.home f) env st x) st))
          (N.ticking (k' (variable z env st x) st))) (kin.home f g r)
          (ticked b _ _ (h (variable (M.home f) env st x) st))
      expr_kept f g env (Element a e) k k' st r h =
          ticked b _ _ (expr_kept f g env e _ _ st r
          (λ i st1. subst (λ z. kin.R b (element M a i (λ o. k (global_word st1 (M.home f) o) st1))
          (element N a i (λ o. k' (global_word st1 z o) st1))) (kin.home f g r)
          (element_kept b a i _ _ (λ o. h (global_word st1 (M.home f) o) st1))))
      expr_kept f g env (Call site x xs) k k' st r h =
          ticked b _ _ (args_kept f g env xs _ _ st r
          (λ vs st1. subst (λ z. kin.R b
          (call M world l f site (M.way f x xs) (pair_of world (M.home f) env x) vs k st1)
          (call N world l' g site (N.way g x xs) (pair_of world z env x) vs k' st1)) (kin.home f g r)
          (call_kept f g site (M.way f x xs) (N.way g x xs) (pair_of world (M.home f) env x) vs k k' st1 r
          (kin.way f g x xs r) h)))
      expr_kept f g env (Binary o p q) k k' st r h =
          ticked b _ _ (expr_kept f g env p _ _ st r
          (λ x st1. expr_kept f g env q _ _ st1 r (λ y st2. operated_kept b o x y k k' st2 h)))

      pub args_kept : (f : M.Run) (g : N.Run) (env : List Value) (xs : Args) (k : List Value → Store → M.Comp)
          (k' : List Value → Store → N.Comp) (st : Store) → kin.Runs f g
          → ((vs : List Value) (st : Store) → kin.R b (k vs st) (k' vs st))
          → kin.R b (args M world l f env xs k st) (args N world l' g env xs k' st)
      args_kept f g env no_args k k' st r h = h [] st
      args_kept f g env (value e xs) k k' st r h =
          expr_kept f g env e _ _ st r
          (λ v st1. args_kept f g env xs _ _ st1 r (λ vs st2. h (Num v ∷ vs) st2))
      args_kept f g env (pass x xs) k k' st r h = ticked b _ _
          (args_kept f g env xs _ _ st r (λ vs st1. subst (λ z. kin.R b
          (k (Closure (pair_of world (M.home f) env x) ∷ Other ∷ vs) st1)
          (k' (Closure (pair_of world z env x) ∷ Other ∷ vs) st1)) (kin.home f g r)
          (h (Closure (pair_of world (M.home f) env x) ∷ Other ∷ vs) st1)))

    pub branch : (t : Bool) (m : Store → M.Comp) (m' : Store → N.Comp) (n : Store → M.Comp)
        (n' : Store → N.Comp) (st : Store) → kin.R b (m st) (m' st) → kin.R b (n st) (n' st)
        → kin.R b ((if t then m else n) st) ((if t then m' else n') st)
    branch true m m' n n' st s r = s
    branch false m m' n n' st s r = r

    mutual
      pub stmt_kept : (f : M.Run) (g : N.Run) (s : Statement) (back : Then M) (back' : Then N) (k : Next M)
          (k' : Next N) (env : List Value) (st : Store) → kin.Runs f g → RThen b back back' → RNext b k k'
          → kin.R b (stmt M world l f s back k env st) (stmt N world l' g s back' k' env st)
      stmt_kept f g (Set x e) back back' k k' env st i r h = ticked b _ _
          (expr_kept f g env e _ _ st i
          (λ v st1. subst (λ z. kin.R b (assigned M (M.home f) x v k env st1)
          (assigned N z x v k' env st1)) (kin.home f g i)
          (assigned_kept b (M.home f) x v k k' h env st1)))
      stmt_kept f g (SetAt a i e) back back' k k' env st j r h =
          ticked b _ _ (expr_kept f g env i _ _ st j
          (λ i st1. expr_kept f g env e _ _ st1 j
          (λ v st2. subst (λ z. kin.R b
          (element M a i (λ o. k env (set_word st2 (M.home f) o v)))
          (element N a i (λ o. k' env (set_word st2 z o v)))) (kin.home f g j)
          (element_kept b a i _ _ (λ o. h env (set_word st2 (M.home f) o v))))))
      stmt_kept f g (Do e) back back' k k' env st i r h =
          ticked b _ _ (expr_kept f g env e _ _ st i (λ v st1. h env st1))
      stmt_kept f g (If c p q) back back' k k' env st i r h =
          ticked b _ _ (expr_kept f g env c _ _ st i (λ v st1.
          branch (is_zero v) (λ st. block M world l f q back k env st)
          (λ st. block N world l' g q back' k' env st) (λ st. block M world l f p back k env st)
          (λ st. block N world l' g p back' k' env st) st1
          (block_kept f g q back back' k k' env st1 i r h) (block_kept f g p back back' k k' env st1 i r h)))
      stmt_kept f g (While c x) back back' k k' env st i r h =
          same.turns f g c x back back' k k' env st i r h
      stmt_kept f g (Return e) back back' k k' env st i r h =
          ticked b _ _ (expr_kept f g env e back back' st i r)
      stmt_kept f g (Halt e) back back' k k' env st i r h =
          ticked b _ _ (expr_kept f g env e _ _ st i (λ v st1. kin.halting b v))

      pub block_kept : (f : M.Run) (g : N.Run) (s : Block) (back : Then M) (back' : Then N) (k : Next M)
          (k' : Next N) (env : List Value) (st : Store) → kin.Runs f g → RThen b back back' → RNext b k k'
          → kin.R b (block M world l f s back k env st) (block N world l' g s back' k' env st)
      block_kept f g no_steps back back' k k' env st i r h = h env st
      block_kept f g (step s ss) back back' k k' env st i r h =
          stmt_kept f g s back back' _ _ env st i r
          (λ env1 st1. block_kept f g ss back back' k k' env1 st1 i r h)

    -- one level up the bound is one more
    pub turn_kept : (f : M.Run) (g : N.Run) (c : Exp) (x : Block) (back : Then M) (back' : Then N)
        (k : Next M)
        (k' : Next N) (env : List Value) (st : Store) → kin.Runs f g → RThen b back back' → RNext b k k'
        → kin.R (suc b) (turn_at M world l f c x back k env st) (turn_at N world l' g c x back' k' env st)
    turn_kept f g c x back back' k k' env st i r h =
        kin.ticking b _ _ (expr_kept f g env c _ _ st i (λ v st1.
        branch (is_zero v) (k env) (k' env) (λ st. block M world l f x back (l.turn f c x back k) env st)
        (λ st. block N world l' g x back' (l'.turn g c x back' k') env st) st1
        (h env st1) (block_kept f g x back back' _ _ env st1 i r
        (λ env2 st2. same.turns f g c x back back' k k' env2 st2 i r h))))

    pub body_kept : (f : M.Run) (g : N.Run) (p : Procedure) (env : Option (List Value)) (k : Then M)
        (k' : Then N) (st : Store) → kin.Runs f g → RThen b k k'
        → kin.R b (body_of M world l f p env k st) (body_of N world l' g p env k' st)
    body_kept f g p None k k' st i h = kin.failing b
    body_kept f g p (Some env) k k' st i h =
        block_kept f g (block_of p.body) _ _ _ _ (env ++ replicate p.locals (Num (pos 0))) st i
        (λ v st1. ticks_kept (1 + p.need) b _ _ (h v st1))
        (λ env1 st1. ticks_kept (1 + p.need) b _ _ (h (pos 0) st1))

    pub begin_kept : (home : ℕ) (p : Procedure) (left : Option ℕ) (rs : M.Regs) (rs' : N.Regs) (k : Then M)
        (k' : Then N) (st : Store) → kin.Regs rs rs' → RThen b k k'
        → kin.R b (begin M world l home p left rs k st) (begin N world l' home p left rs' k' st)
    begin_kept home p left rs rs' k k' st i h =
        place_kept b (enough p.need left) _ _
        (λ left. kin.beginning b left p.need _ _
        (subst (λ z. kin.R b
        (body_of M world l (M.frame home left p rs) p (taken [] p.callbacks (M.registers rs)) k st)
        (body_of N world l' (N.frame home left p rs') p (taken [] p.callbacks z) k' st))
        (kin.registers rs rs' i)
        (body_kept (M.frame home left p rs) (N.frame home left p rs') p
        (taken [] p.callbacks (M.registers rs)) k k' st (kin.frame home left p rs rs' i) h)))

    pub proc_kept : (home : ℕ) (p : Option Procedure) (left : Option ℕ) (rs : M.Regs) (rs' : N.Regs)
        (k : Then M) (k' : Then N) (st : Store) → kin.Regs rs rs' → RThen b k k'
        → kin.R (suc b) (proc_of M world l home p left rs k st) (proc_of N world l' home p left rs' k' st)
    proc_kept home None left rs rs' k k' st i h = kin.failing (suc b)
    proc_kept home (Some p) left rs rs' k k' st i h =
        let m : M.Comp = begin M world l home p left rs k st in
        let m' : N.Comp = begin N world l' home p left rs' k' st in
        let s = kin.ticking b _ _ (ticks_kept p.need b m m' (begin_kept home p left rs rs' k k' st i h)) in
        subst (λ n. kin.R (suc b) (repeated M.ticking n m) (repeated N.ticking n m')) (sym (one-add p.need)) s

    pub hopped_kept : (c : Option (Wait M)) (c' : Option (Wait N)) (left : Option ℕ) (t : Option Target)
        (v : ℤ)
        (st : Store) → RWait b c c'
        → kin.R b (hopped M world l c left t v st) (hopped N world l' c' left t v st)
    hopped_kept c c' left None v st h = kin.failing b
    hopped_kept c c' left (Some t) v st h = same.hops c c' left t v st h

    pub left_kept : (part : List ℕ) (c : Option (Wait M)) (c' : Option (Wait N)) (e : M.Mark) (e' : N.Mark)
        (left : Option ℕ) (back : FeedBack) → kin.Mark e e' → RWait b c c'
        → RThen b (left_by M world l part c e left back) (left_by N world l' part c' e' left back)
    left_kept part c c' e e' left way.Out i h v st =
        kin.leaving b part e e' v _ _ i (same.waits c c' st h)
    left_kept part c c' e e' left way.Bad i h v st = kin.failing b
    left_kept part c c' e e' left (way.Hop p n) i h v st = hopped_kept c c' left (found world p n) v st h
    left_kept part c c' e e' left (way.Pair p site base) i h v st =
        returned_kept b c c' left p site base v st h

    pub entered_kept : (c : Option (Wait M)) (c' : Option (Wait N)) (t : Option Target) (e : M.Mark)
        (e' : N.Mark) (left : Option ℕ) (rs : M.Regs) (rs' : N.Regs) (back : FeedBack) (st : Store)
        → kin.Mark e e' → kin.Regs rs rs' → RWait b c c'
        → kin.R b (entered M world l c t e left rs back st) (entered N world l' c' t e' left rs' back st)
    entered_kept c c' None e e' left rs rs' back st i j h = kin.failing b
    entered_kept c c' (Some t) e e' left rs rs' back st i j h =
        same.procs t left rs rs' _ _ st j (left_kept (part_name_of world t.home) c c' e e' left back i h)

    by_kept : (c : Option (Wait M)) (c' : Option (Wait N)) (st : Store) (x : M.Thing) (y : N.Thing) (i : Item)
        → kin.Thing x y → RWait b c c' → kin.R b (by_item M world l c st x i) (by_item N world l' c' st y i)
    by_kept c c' st x y (Enter part name left ints pairs back) r h =
        entered_kept c c' (found world part name) _ _ left _ _ back st (kin.mark x y r)
        (kin.fed world x y ints pairs r) h
    by_kept c c' st x y (Ret part site base v) r h = resumed_kept b c c' part site base None v st h

    pub item_kept : (c : Option (Wait M)) (c' : Option (Wait N)) (st : Store) (x : M.Thing) (y : N.Thing)
        → kin.Thing x y → RWait b c c' → kin.R b (on_item M world l c st x) (on_item N world l' c' st y)
    item_kept c c' st x y r h =
        subst (λ z. kin.R b (on_item M world l c st x) (by_item N world l' c' st y z)) (kin.item x y r)
        (by_kept c c' st x y (M.item x) r h)

  pub then_less : (b c : ℕ) (k : Then M) (k' : Then N) → b ≤ c → RThen c k k' → RThen b k k'
  then_less b c k k' le h v st = kin.less b c _ _ le (h v st)

  pub next_less : (b c : ℕ) (k : Next M) (k' : Next N) → b ≤ c → RNext c k k' → RNext b k k'
  next_less b c k k' le h env st = kin.less b c _ _ le (h env st)

  pub wait_less : (b c : ℕ) (x : Option (Wait M)) (y : Option (Wait N)) → b ≤ c → RWait c x y → RWait b x y
  wait_less b c None None le h = tt
  wait_less b c (Some x) (Some y) le h = (h.0, h.1, h.2, h.3, then_less b c x.resume y.resume le h.4)
  wait_less b c None (Some y) le h = h
  wait_less b c (Some x) None le h = h

  -- two levels do the same below them
  pub levels_kept : (world : World) (b d d' : ℕ) → b ≤ d → b ≤ d'
      → RLevel b (level M world d) (level N world d')
  levels_kept world zero d d' le le' = record {
    procs = λ t left rs rs' k k' st i h. kin.none _ _;
    waits = λ c c' st h. kin.none _ _;
    turns = λ f g c x back back' k k' env st i r h. kin.none _ _;
    hops = λ c c' left t v st h. kin.none _ _;
  }
  levels_kept world (suc b) zero d' le le' = absurd (omega (arith, le))
  levels_kept world (suc b) (suc d) zero le le' = absurd (omega (arith, le'))
  levels_kept world (suc b) (suc d) (suc d') le le' =
      let same = levels_kept world b d d' (omega (arith, le)) (omega (arith, le')) in
      let less : b ≤ suc b = omega arith in
      let l = level M world d in
      let l' = level N world d' in
      record {
        procs = λ t left rs rs' k k' st i h. proc_kept world b l l' same t.home
            (proc_at world t) left rs rs' k k' st i (then_less b (suc b) k k' less h);
        waits = λ c c' st h. kin.taking b _ _
            (λ x y r. item_kept world b l l' same c c' st x y r (wait_less b (suc b) c c' less h));
        turns = λ f g c x back back' k k' env st i r h. turn_kept world b l l' same f g c x back back' k k'
            env
            st i (then_less b (suc b) back back' less r) (next_less b (suc b) k k' less h);
        hops = λ c c' left t v st h. proc_kept world b l l' same t.home (proc_at world t) left
            (M.single v) (N.single v) _ _ st (kin.single v)
            (λ x st1. same.hops c c' left t x st1 (wait_less b (suc b) c c' less h));
      }

  pub starts_kept : (world : World) (b stack d d' : ℕ) (t : Option Target) (st : Store) → b ≤ d → b ≤ d'
      → kin.R b (start M world (level M world d) stack t st) (start N world (level N world d') stack t st)
  starts_kept world b stack d d' None st le le' = (levels_kept world b d d' le le').waits None None st tt
  starts_kept world b stack d d' (Some t) st le le' =
      (levels_kept world b d d' le le').procs t (Some stack) M.nothing N.nothing _ _ st kin.nothing
      (λ v st1. kin.failing b)
