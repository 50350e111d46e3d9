-- Each instruction, and each step, keeps that no linear memory is held twice: a short composition of what
-- hands do.
use Rattle.std.proofs.Common.{◌≡◌, ◌≢◌, ◌⊎◌, inl, inr, ℕ, zero, suc, ◌+◌, ◌<◌, ◌≤◌, ℤ, pos, negsuc, Bool}
use Rattle.std.proofs.Common.{true, false, not, List, [], ◌∷◌, refl, sym, ap, subst, ◌∙◌, arith}
use Rattle.std.specs.Prelude.{Option, Some, None, IsTrue, if◌then◌else◌, nat_lt, nat_le, ◌+ℤ◌, ◌-ℤ◌}
use Rattle.std.proofs.lemmas.Bool.{not-true, eqb-true, leb-true, ltb-true, and_parts, cases_lt}
use Rattle.std.proofs.lemmas.Option.{same_Some}
use Rattle.lcm_isa.specs.declared.Reg.{Reg}
use Rattle.lcm_isa.specs.declared.Reg.TheVariants.{Pc, Dat}
use Rattle.lcm_isa.specs.declared.Operand.TheVariants.{R as InReg, Imm}
use Rattle.lcm_isa.specs.declared.Instr.{Instr}
use Rattle.lcm_isa.specs.declared.Instr.TheVariants.{Fail, Halt, Jmp, Jnz, Gettype, Geta, Getb, Gete, Getp}
use Rattle.lcm_isa.specs.declared.Instr.TheVariants.{Getlin, Move, Store, Load, Cca, Restrict, Lt, Plus}
use Rattle.lcm_isa.specs.declared.Instr.TheVariants.{Minus, Seta2b, Xjmp, Cseal, Split, Splice}
use Rattle.cap_words.specs.declared.CapFields.{CapFields}
use Rattle.cap_words.specs.declared.Word.{Word}
use Rattle.cap_words.specs.declared.Word.TheVariants.{Int, Mem, Seal, Sealed as SealedWord}
use Rattle.cap_words.specs.declared.Sealable.TheVariants.{Mem as MemIn, Seal as SealIn}
use Rattle.cap_words.specs.declared.Face.{Face}
use Rattle.cap_words.specs.declared.Opened.{Opened}
use Rattle.cap_words.specs.declared.Content.{Content}
use Rattle.cap_words.specs.declared.Content.TheVariants.{Mem as MemC, Seal as SealC}
use Rattle.cap_words.specs.Linear.{lin_is, is_linear, zero_word}
use Rattle.cap_words.specs.Face.{opened_of}
use Rattle.cap_words.specs.Faces.{can_split, same_kind, memory_in, address, covers}
use Rattle.lcm_machine.specs.declared.Place.{Place}
use Rattle.lcm_machine.specs.declared.Place.TheVariants.{R, Cell}
use Rattle.lcm_machine.specs.Plan.{Plan, Fails, Halts, Goes}
use Rattle.lcm_machine.specs.declared.plan.Effect.{Effect}
use Rattle.lcm_machine.specs.Maps.{State}
use Rattle.lcm_machine.specs.Places.{reg}
use Rattle.lcm_machine.specs.Table.{plan, unsealed, memory_content, no_effect, made as made_at}
use Rattle.lcm_machine.specs.Row.{word_at, word_in, put, clear, perform, faces, opens, cell_faces, plan_in}
use Rattle.lcm_machine.specs.Row.{outcome, row, Outcome, went, halted, failed, Fetched, none, some, fetch}
use Rattle.lcm_machine.specs.Row.{step_fetched, step_of}
use Rattle.lcm_machine.specs.declared.Step.{Step}
use Rattle.lcm_machine.specs.declared.End.{End}
use Rattle.lcm_machine.specs.Ends.{Meets, After}
use Rattle.lcm_machine.specs.Runs.{and_then, run_of}
use Rattle.lcm_machine.specs.Run.{Run, moved, next_by, next_state, plain as plain_run}
use Rattle.lcm_machine.specs.Regions.{Region, AreApart, IsLinearAt, InOneRegion, memory_of, is_over}
use Rattle.lcm_machine.specs.Regions.{word_over, HeldOnce, StaysHeldOnce}
use Rattle.lcm_machine.proofs.Plans.{Gives, Gives-effect, gives_fails, gives_halts, gives_goes, Gives-ask}
use Rattle.lcm_machine.proofs.Plans.{Gives-need, Gives-by_cap, Gives-if}
use Rattle.lcm_machine.proofs.StateLemmas.{word_at-other}
use Rattle.lcm_machine.proofs.RowLemmas.{step_at, look_memory, fetch_normal}
use Rattle.lcm_machine.proofs.RegionLemmas.{over_bounds, bounds_over, normal_apart, joined_in, linear_of}
use Rattle.lcm_machine.proofs.Hands.{Inv, Disjoint, OwnsAt, shrink, made, split_hand, splice_hands, put_hand}
use Rattle.lcm_machine.proofs.Hands.{replace_word, take_hand}

content_is : (x : Content) (c : CapFields) → memory_content x ≡ Some c → unsealed x ≡ Mem c
content_is (MemC b) c e = cc
content_is (SealC b) c e = cc

opened_content : (y : Word) (o : Opened) → opened_of y ≡ Some o → memory_of (unsealed o.content) ≡ memory_of y
opened_content (Int n) o e = cc
opened_content (Mem c) o e = cc
opened_content (Seal t) o e = cc
opened_content (SealedWord q (MemIn c)) o e = let k : record { seal = q; content = MemC c } ≡ o =
    cc in rw (← k) refl
opened_content (SealedWord q (SealIn t)) o e = let k : record { seal = q; content = SealC t } ≡ o =
    cc in rw (← k) refl

pub split_bounds : (c : CapFields) (z : ℤ) → can_split c z ≡ true → (c.base ≤ address z) × (address z < c.end)
split_bounds c (pos n) e = let k =
    and_parts (nat_le c.base n) (nat_lt n c.end) e in (leb-true c.base n k.0, ltb-true n c.end k.1)
split_bounds c (negsuc n) e = cc

-- each capability of the one lies within that of the other, and is as linear
abbrev pub Within : Word → Word → Type 0
Within x y = (d : CapFields) → memory_of x ≡ Some d → (c : CapFields) × (memory_of y ≡ Some c)
    × (c.base ≤ d.base) × (c.base ≤ c.end → d.base ≤ d.end) × (d.end ≤ c.end) × (lin_is d.lin ≡ lin_is c.lin)

module _ {W : Type 0} (look : W → Word) (plain : Word → W) (seen : (x : Word) → look (plain x) ≡ x)
    (rs : List Region) (regions : AreApart rs) where
  abbrev FitsIn : Word → Type 0
  FitsIn x = (c : CapFields) → memory_of x ≡ Some c → InOneRegion rs c

  abbrev Over : Word → ℕ → Type 0
  Over x a = IsLinearAt rs a × IsTrue (is_over (memory_of x) a)

  abbrev Safe : W → Type 0
  Safe w = FitsIn (look w)

  abbrev Owns : W → ℕ → Type 0
  Owns w a = Over (look w) a

  abbrev Good : State W → List W → Type 0
  Good s hs = Inv Owns Safe s hs

  -- a word that fits and owns nothing
  abbrev Free : Word → Type 0
  Free x = FitsIn x × ((a : ℕ) → Over x a → ⊥)

  over_at : (x : Word) (c : CapFields) (a : ℕ) → memory_of x ≡ Some c → IsTrue (is_over (memory_of x) a)
      → IsTrue (covers c (pos a))
  over_at x c a e h = rw e at h

  over_some : (x : Word) (a : ℕ) → IsTrue (is_over (memory_of x) a) → (c : CapFields) × (memory_of x ≡ Some c)
  over_some x a = elim (memory_of x) as (λ o. IsTrue (is_over o a) → (c : CapFields) × (o ≡ Some c))
      [ None ↦ λ h. cc | Some c ↦ λ h. (c, refl) ]

  within_fits : (x y : Word) → Within x y → FitsIn y → FitsIn x
  within_fits x y l f d e =
      let k = l d e in
      let m = f k.0 k.1 in
      (m.0, m.1, omega (arith, m.2, k.2), k.3 m.3, omega (arith, m.4, k.4), k.5 ∙ m.5)

  within_over : (x y : Word) → Within x y → (a : ℕ) → Over x a → Over y a
  within_over x y l a h =
      let d = over_some x a h.1 in
      let k = l d.0 d.1 in
      let b = over_bounds d.0 a (over_at x d.0 a d.1 h.1) in
      (h.0, rw k.1 (bounds_over k.0 a (omega (arith, b.0, k.2)) (omega (arith, b.1, k.4))))

  free_empty : (x : Word) → memory_of x ≡ None → Free x
  free_empty x e = (λ c h. cc, λ a h. let k = over_some x a h.1 in cc)

  free_normal : (x : Word) → FitsIn x → is_linear x ≡ false → Free x
  free_normal x f l = (
    f,
    λ a h.
        let k = over_some x a h.1 in
        normal_apart rs k.0 a regions (f k.0 k.1) (sym (linear_of x k.0 k.1) ∙ l)
        h.0 (over_at x k.0 a k.1 h.1),
  )

  -- a word as it is made, of what the table made
  safe_plain : (x : Word) → FitsIn x → Safe (plain x)
  safe_plain x f = rw seen f

  owns_plain : (x : Word) (a : ℕ) → Owns (plain x) a → Over x a
  owns_plain x a h = rw seen at h

  zero_free : Free (Int (pos 0))
  zero_free = free_empty (Int (pos 0)) refl

  -- what hands do, at these words
  take : {s : State W} {hs : List W} (p : Place) → Good s hs
      → Good (clear look plain s p) (word_in plain s p ∷ hs)
  take p i =
      take_hand Owns Safe look plain (safe_plain (Int (pos 0)) zero_free.0)
      (λ a o. zero_free.1 a (owns_plain (Int (pos 0)) a o)) (λ w f l a o. (free_normal (look w) f l).1 a o)
      p i

  give : {s : State W} {hs : List W} (p : Place) (w : W) → Good s (w ∷ hs) → Good (put s p w) hs
  give p w i = put_hand Owns Safe p w i

  -- a word that owns nothing goes to a place
  give_free : {s : State W} {hs : List W} (p : Place) (x : Word) → Free x → Good s hs
      → Good (put s p (plain x)) hs
  give_free p x f i =
      give p (plain x) (made Owns Safe (plain x) (safe_plain x f.0) (λ a o. f.1 a (owns_plain x a o)) i)

  word-put_at : (b : Bool) (s : State W) (d r : Reg) → R d ≢ R r
      → reg (if b then put s (R r) (zero_word plain) else s).regs d ≡ reg s.regs d
  word-put_at true s d r ne = same_Some _ _ (word_at-other s (R r) (R d) (zero_word plain) ne)
  word-put_at false s d r ne = refl

  word-clear : (s : State W) (d r : Reg) → R d ≢ R r → reg (clear look plain s (R r)).regs d ≡ reg s.regs d
  unfolding clear
  word-clear s d r ne = word-put_at _ s d r ne

  module _ (s : State W) (i : Good s []) (next : Word) (next_free : Free next) where
    -- the effect keeps the invariant
    abbrev Keeps : Effect → Type 0
    Keeps e = Good (perform look plain s e) []

    keeps-moves : (p q : Place)
        → Keeps (record no_effect { moved = Some (record { from = p; to = q }); next = Some next })
    unfolding perform
    keeps-moves p q = give_free (R Pc) next next_free (give q _ (take p i))

    keeps-jumps : (p q : Place)
        → Keeps (record no_effect { moved = Some (record { from = p; to = q }); next = None })
    unfolding perform
    keeps-jumps p q = give q _ (take p i)

    keeps-goes_on : Keeps (record no_effect { next = Some next })
    unfolding perform
    keeps-goes_on = give_free (R Pc) next next_free i

    keeps-makes : (r : Reg) (x : Word) → memory_of x ≡ None
        → Keeps (record no_effect { first = made_at r x; next = Some next })
    unfolding perform
    keeps-makes r x e = give_free (R Pc) next next_free (give_free (R r) x (free_empty x e) i)

    -- a capability changes in its register
    keeps-in_place : (r : Reg) (x : Word) → Within x (look (reg s.regs r))
        → Keeps (record no_effect { first = made_at r x; next = Some next })
    unfolding perform
    keeps-in_place r x l =
        let w = reg s.regs r in
        let f = i.safe_places (R r) w refl in
        give_free (R Pc)
        next next_free
        (replace_word Owns Safe (R r) w (plain x) refl (safe_plain x (within_fits x (look w) l f))
        (λ a o. within_over x (look w) l a (owns_plain x a o)) i)

    keeps-split : (r1 r2 r3 : Reg) (c : CapFields) (z : ℤ) → look (reg s.regs r3) ≡ Mem c
        → (c.base ≤ address z) × (address z < c.end)
        → Keeps (record no_effect {
          spent = Some r3;
          first = made_at r1 (Mem (record c { end = address z }));
          second =
              made_at r2 (Mem (record c { base = address z + 1 }));
          next = Some next;
        })
    unfolding perform
    keeps-split r1 r2 r3 c z e k =
        let w = reg s.regs r3 in
        let cut : CapFields = record c { end = address z } in
        let rest : CapFields = record c { base = address z + 1 } in
        let f = i.safe_places (R r3) w refl in
        let low : Within (Mem cut) (look w) = λ d m. let same =
        same_Some cut d m in rw (← same)
        (c, ap memory_of e, omega arith, λ h. k.0, omega (arith, k.1), refl) in
        let high : Within (Mem rest) (look w) = λ d m. let same =
        same_Some rest d m in rw (← same)
        (c, ap memory_of e, omega (arith, k.0), λ h. omega (arith, k.1), omega arith, refl) in
        let apart : Disjoint Owns (plain (Mem cut)) (plain (Mem rest)) = λ a o p.
        let h = over_bounds cut a (owns_plain (Mem cut) a o).1 in
        let g = over_bounds rest a (owns_plain (Mem rest) a p).1 in omega (arith, h.1, g.0) in
        give_free (R Pc)
        next next_free
        (give (R r2) _ (give (R r1) _ (split_hand Owns Safe w (plain (Mem cut)) (plain (Mem rest))
        (safe_plain (Mem cut) (within_fits (Mem cut) (look w) low f))
        (safe_plain (Mem rest) (within_fits (Mem rest) (look w) high f))
        (λ a o. within_over (Mem cut) (look w) low a (owns_plain (Mem cut) a o))
        (λ a o. within_over (Mem rest) (look w) high a (owns_plain (Mem rest) a o))
        apart (take (R r3) i))))

    -- a range that isn't empty is not adjacent to itself
    two_registers : (r2 r3 : Reg) (a b : CapFields) → look (reg s.regs r2) ≡ Mem a
        → look (reg s.regs r3) ≡ Mem b → a.end + 1 ≡ b.base → R r3 ≢ R r2
    two_registers r2 r3 a b ea eb meet t =
        let d : r3 ≡ r2 = cc in
        let same : Mem a ≡ Mem b = sym ea ∙ ap (λ r. look (reg s.regs r)) (sym d) ∙ eb in
        let f : a ≡ b = cc in
        let k = i.safe_places (R r2) _ refl a (ap memory_of ea) in
        let g : a.end + 1 ≡ a.base = meet ∙ ap (λ c. c.base) (sym f) in
        omega (arith, k.3, g)

    keeps-splice : (r1 r2 r3 : Reg) (a b : CapFields) → look (reg s.regs r2) ≡ Mem a
        → look (reg s.regs r3) ≡ Mem b → a.end + 1 ≡ b.base
        → Keeps (record no_effect {
          spent = Some r2;
          also_spent = Some r3;
          first =
              made_at r1 (Mem (record b { base = a.base }));
          next = Some next;
        })
    unfolding perform
    keeps-splice r1 r2 r3 a b ea eb meet =
        let u = reg s.regs r2 in
        let both : CapFields = record b { base = a.base } in
        let j = take (R r3) (take (R r2) i) in
        let v = reg (clear look plain s (R r2)).regs r3 in
        let ev : look v ≡ Mem b = ap look (word-clear s r3 r2 (two_registers r2 r3 a b ea eb meet)) ∙ eb in
        let fits : FitsIn (Mem both) =
        λ d m. rw (← same_Some both d m)
        (joined_in rs a b regions (i.safe_places (R r2) u refl a (ap memory_of ea))
        (i.safe_places (R r3) (reg s.regs r3) refl b (ap memory_of eb)) meet) in
        let parts : (x : ℕ) → Owns (plain (Mem both)) x → Owns v x ⊎ Owns u x = λ x o.
        let h = owns_plain (Mem both) x o in
        let k = over_bounds both x h.1 in
        elim (cases_lt x b.base) as (λ _. Owns v x ⊎ Owns u x) [
          | inl below ↦ inr (h.0, rw ea (bounds_over a x k.0 (omega (arith, below, meet))))
          | inr above ↦ inl (h.0, rw ev (bounds_over b x above k.1))
        ] in
        give_free (R Pc)
        next next_free
        (give (R r1)
        _ (splice_hands Owns Safe v u (plain (Mem both)) (safe_plain (Mem both) fits) parts j))

    -- the code half is normal, so its content owns nothing; the data half goes from its register to the data
    -- register
    keeps-xjmp : (r2 : Reg) (c : CapFields) (x : Word) → Free (Mem c) → Within x (look (reg s.regs r2))
        → Keeps (record no_effect { spent = Some r2; first = made_at Pc (Mem c); second = made_at Dat x })
    unfolding perform
    keeps-xjmp r2 c x free l =
        let w = reg s.regs r2 in
        let f = i.safe_places (R r2) w refl in
        give (R Dat) (plain x)
        (give_free (R Pc) (Mem c)
        free (shrink Owns Safe w (plain x) (safe_plain x (within_fits x (look w) l f))
        (λ a o. within_over x (look w) l a (owns_plain x a o)) (take (R r2) i)))

    memory_look : (r : Reg) (c : CapFields) → memory_in (faces look s r) ≡ Some c
        → look (reg s.regs r) ≡ Mem c
    unfolding faces
    memory_look r c e = look_memory (look (reg s.regs r)) c e

    -- a word with the range of a register's capability, and as linear
    same_range : (r : Reg) (c d : CapFields) (x : Word) → memory_in (faces look s r) ≡ Some c
        → memory_of x ≡ Some d → d.base ≡ c.base → d.end ≡ c.end → lin_is d.lin ≡ lin_is c.lin
        → Within x (look (reg s.regs r))
    same_range r c d x m e eb ee el = λ q h.
        let same : d ≡ q = same_Some d q (sym e ∙ h) in
        rw (← same) (
          c,
          ap memory_of (memory_look r c m),
          omega (arith, eb),
          λ o.
              omega (arith, eb, ee, o),
          omega (arith, ee),
          el,
        )

    keeps-changed : (r : Reg) (c d : CapFields) → memory_in (faces look s r) ≡ Some c → d.base ≡ c.base
        → d.end ≡ c.end → lin_is d.lin ≡ lin_is c.lin
        → Keeps (record no_effect { first = made_at r (Mem d); next = Some next })
    keeps-changed r c d m eb ee el = keeps-in_place r (Mem d) (same_range r c d (Mem d) m refl eb ee el)

    opened_same : (r : Reg) (o : Opened) → opens look s r ≡ Some o
        → memory_of (unsealed o.content) ≡ memory_of (look (reg s.regs r))
    unfolding opens
    opened_same r o e = opened_content (look (reg s.regs r)) o e

    opened_within : (r : Reg) (o : Opened) → opens look s r ≡ Some o
        → Within (unsealed o.content) (look (reg s.regs r))
    opened_within r o e = λ d m. (d, sym (opened_same r o e) ∙ m, omega arith, λ h. h, omega arith, refl)

    code_free : (r : Reg) (o : Opened) (c : CapFields) → opens look s r ≡ Some o
        → memory_content o.content ≡ Some c → not (lin_is c.lin) ≡ true → Free (Mem c)
    code_free r o c e m l =
        let k : memory_of (look (reg s.regs r)) ≡ Some c =
        sym (opened_same r o e) ∙ ap memory_of (content_is o.content c m) in
        free_normal (Mem c) (λ d h. rw (← same_Some c d h) (i.safe_places (R r) (reg s.regs r) refl c k))
        (not-true (lin_is c.lin) l)

    pub plan-Keeps : (n : Instr) (there : Option Face)
        → Gives Keeps (plan n (faces look s) (opens look s) there next)
    plan-Keeps Fail there = gives_fails
    plan-Keeps Halt there = gives_halts
    plan-Keeps (Jmp r1) there = gives_goes (keeps-jumps (R r1) (R Pc))
    plan-Keeps (Jnz r1 r2) there =
        Gives-need _ _ _
        (λ z e. Gives-if _ _ _ (gives_goes keeps-goes_on) (gives_goes (keeps-jumps (R r1) (R Pc))))
    plan-Keeps (Gettype r1 r2) there = Gives-ask _ _ _ (λ _. gives_goes (keeps-makes r1 (Int _) refl))
    plan-Keeps (Geta r1 r2) there = Gives-ask _ _ _ (λ _. gives_goes (keeps-makes r1 (Int _) refl))
    plan-Keeps (Getb r1 r2) there = Gives-ask _ _ _ (λ _. gives_goes (keeps-makes r1 (Int _) refl))
    plan-Keeps (Gete r1 r2) there = Gives-ask _ _ _ (λ _. gives_goes (keeps-makes r1 (Int _) refl))
    plan-Keeps (Getp r1 r2) there = Gives-ask _ _ _ (λ _. gives_goes (keeps-makes r1 (Int _) refl))
    plan-Keeps (Getlin r1 r2) there = Gives-ask _ _ _ (λ _. gives_goes (keeps-makes r1 (Int _) refl))
    plan-Keeps (Move r1 (InReg r2)) there = Gives-ask _ _ _ (λ _. gives_goes (keeps-moves (R r2) (R r1)))
    plan-Keeps (Move r1 (Imm z)) there = Gives-ask _ _ _ (λ _. gives_goes (keeps-makes r1 (Int z) refl))
    plan-Keeps (Store r1 r2) there = Gives-need _ _ _ (λ c m. Gives-ask _ _ _ (λ _. Gives-need _ _ _ (λ x h.
        gives_goes (keeps-moves (R r2) (Cell (address c.addr))))))
    plan-Keeps (Load r1 r2) there =
        Gives-ask _ _ _
        (λ _. Gives-need _ _ _ (λ c m. Gives-ask _ _ _ (λ _. Gives-need _ _ _ (λ x h. Gives-ask _ _ _ (λ _.
        gives_goes (keeps-moves (Cell (address c.addr)) (R r1)))))))
    plan-Keeps (Cca r1 n) there = Gives-ask _ _ _ (λ _. Gives-by_cap (faces look s r1) _ _
        (λ c e. Gives-need _ _ _ (λ z _. Gives-ask _ _ _ (λ _.
        gives_goes (keeps-changed r1 c (record c { addr = c.addr +ℤ z }) (ap memory_in e) refl refl refl))))
        (λ c e. Gives-need _ _ _
        (λ z _. Gives-ask _ _ _
        (λ _. gives_goes (keeps-makes r1 (Seal (record c { cur = c.cur +ℤ z })) refl)))))
    plan-Keeps (Restrict r1 n) there =
        Gives-ask _ _ _
        (λ _. Gives-need _ _ _ (λ c m. Gives-need _ _ _ (λ z _. Gives-need _ _ _ (λ q _. Gives-ask _ _ _ (λ _.
        gives_goes (keeps-changed r1 c (record c { perm = q }) m refl refl refl))))))
    plan-Keeps (Lt r1 r2 n) there =
        Gives-ask _ _ _
        (λ _. Gives-need _ _ _ (λ x e. Gives-need _ _ _ (λ z _. gives_goes (keeps-makes r1 (Int _) refl))))
    plan-Keeps (Plus r1 r2 n) there =
        Gives-ask _ _ _
        (λ _. Gives-need _ _ _
        (λ x e. Gives-need _ _ _
        (λ z _. Gives-ask _ _ _ (λ _. gives_goes (keeps-makes r1 (Int (x +ℤ z)) refl)))))
    plan-Keeps (Minus r1 r2 n) there =
        Gives-ask _ _ _
        (λ _. Gives-need _ _ _
        (λ x e. Gives-need _ _ _
        (λ z _. Gives-ask _ _ _ (λ _. gives_goes (keeps-makes r1 (Int (x -ℤ z)) refl)))))
    plan-Keeps (Seta2b r1) there = Gives-ask _ _ _ (λ _. Gives-by_cap (faces look s r1) _ _
        (λ c e. gives_goes
        (keeps-changed r1 c (record c { addr = pos c.base }) (ap memory_in e) refl refl refl))
        (λ c e. gives_goes (keeps-makes r1 (Seal (record c { cur = pos c.base })) refl)))
    plan-Keeps (Xjmp r1 r2) there =
        Gives-need _ _ _
        (λ a ea. Gives-need _ _ _
        (λ b eb. Gives-ask _ _ _
        (λ _. Gives-need _ _ _ (λ c m. Gives-ask _ _ _ (λ l. Gives-ask _ _ _ (λ _. Gives-ask _ _ _ (λ _.
        gives_goes
        (keeps-xjmp r2 c (unsealed b.content) (code_free r1 a c ea m l) (opened_within r2 b eb)))))))))
    plan-Keeps (Cseal r1 r2) there = Gives-ask _ _ _ (λ _. Gives-by_cap (faces look s r1) _ _
        (λ c e. Gives-need _ _ _ (λ q _. Gives-ask _ _ _ (λ _.
        gives_goes
        (keeps-in_place r1 (SealedWord (address q.cur) (MemIn c))
        (same_range r1 c c (SealedWord (address q.cur) (MemIn c)) (ap memory_in e)
        refl refl refl refl)))))
        (λ c e. Gives-need _ _ _
        (λ q _. Gives-ask _ _ _
        (λ _. gives_goes (keeps-makes r1 (SealedWord (address q.cur) (SealIn c)) refl)))))
    plan-Keeps (Split r1 r2 r3 n) there =
        Gives-ask _ _ _
        (λ _. Gives-ask _ _ _ (λ _. Gives-need _ _ _ (λ c m. Gives-need _ _ _ (λ z _. Gives-ask _ _ _ (λ b.
        gives_goes (keeps-split r1 r2 r3 c z (memory_look r3 c m) (split_bounds c z b)))))))
    plan-Keeps (Splice r1 r2 r3) there =
        Gives-ask _ _ _ (λ _. Gives-need _ _ _ (λ a ma. Gives-need _ _ _ (λ b mb. Gives-ask _ _ _ (λ q.
        gives_goes
        (keeps-splice r1 r2 r3 a b (memory_look r2 a ma) (memory_look r3 b mb)
        (eqb-true _ _ (and_parts (same_kind a b) _ q).1))))))

  -- an outcome keeps the invariant
  abbrev KeepsOutcome : Outcome W → Type 0
  KeepsOutcome = After (λ t. Good t [])

  keeps-outcome : (s : State W) (p : Plan) → Gives (λ e. Good (perform look plain s e) []) p
      → KeepsOutcome (outcome look plain s p)
  keeps-outcome s (Fails f) h = tt
  keeps-outcome s Halts h = tt
  keeps-outcome s (Goes e) h = Gives-effect h

  -- pc's word at the next address is normal
  next_free : (s : State W) → Good s [] → (c : CapFields) → look (reg s.regs Pc) ≡ Mem c
      → lin_is c.lin ≡ false → Free (Mem (record c { addr = c.addr +ℤ pos 1 }))
  next_free s i c e l =
      free_normal (Mem (record c { addr = c.addr +ℤ pos 1 }))
      (λ d h. rw (← same_Some (record c { addr = c.addr +ℤ pos 1 }) d h)
      (i.safe_places (R Pc) (reg s.regs Pc) refl c (ap memory_of e))) l

  keeps-fetched : (s : State W) → Good s [] → (f : Fetched)
      → ((n : Instr) (next : Word) → f ≡ some n next → Free next) → KeepsOutcome (step_fetched look plain s f)
  unfolding row plan_in
  keeps-fetched s i (none f) h = tt
  keeps-fetched s i (some n next) h = keeps-outcome s _ (plan-Keeps s i next (h n next refl) n _)

  keeps-step : (s : State W) → Good s [] → KeepsOutcome (step_of look plain s)
  unfolding step_of faces
  keeps-step s i = keeps-fetched s i _ (λ n next e.
      let k = fetch_normal (look (reg s.regs Pc)) (cell_faces look s) n next e in
      rw k.3 (next_free s i k.0 k.1 k.2))

  owns_over : (o : Option W) (a : ℕ) → OwnsAt Owns o a → IsLinearAt rs a × IsTrue (word_over look o a)
  owns_over None a h = absurd h
  owns_over (Some w) a h = h

  over_owns : (o : Option W) (a : ℕ) → IsLinearAt rs a → IsTrue (word_over look o a) → OwnsAt Owns o a
  over_owns None a l h = cc
  over_owns (Some w) a l h = (l, h)

  good_of : (s : State W) → HeldOnce look rs s → Good s []
  good_of s h = record {
    safe_places = h.0;
    safe_hands = tt;
    one_place = λ p q a x y. let k =
        owns_over (word_at s p) a x in h.1 a k.0 p q k.1 (owns_over (word_at s q) a y).1;
    hands_apart = tt;
    hands_free = tt;
  }

  held_of : (s : State W) → Good s [] → HeldOnce look rs s
  held_of s i = (
    i.safe_places,
    λ a l p q x y. i.one_place p q a (over_owns (word_at s p) a l x)
        (over_owns (word_at s q) a l y),
  )

  -- what a step ends in
  abbrev pub HeldAfter : Outcome W → Type 0
  HeldAfter = After (HeldOnce look rs)

  held-outcome : (o : Outcome W) → KeepsOutcome o → HeldAfter o
  held-outcome (went t) k = held_of t k
  held-outcome halted k = tt
  held-outcome (failed f at) k = tt

  pub held-step : (s : State W) → HeldOnce look rs s → HeldAfter (step_of look plain s)
  held-step s h = held-outcome (step_of look plain s) (keeps-step s (good_of s h))

module _ {W : Type 0} (look : W → Word) (plain : Word → W) (seen : (x : Word) → look (plain x) ≡ x) where
  stays_by : (rs : List Region) (regions : AreApart rs) (s t : State W) (end : Step) (o : Outcome W)
      → HeldAfter look plain seen rs regions o → HeldOnce look rs s → Meets s o end t → HeldOnce look rs t
  stays_by rs regions s t end (went u) k h m = rw m.1 k
  stays_by rs regions s t end halted k h m = rw m.1 h
  stays_by rs regions s t end (failed f at) k h m = rw m.1 h

  -- whatever a step answers and leaves
  pub step_stays : (s t : State W) (end : Step) → Meets s (step_of look plain s) end t
      → StaysHeldOnce look s t
  unfolding StaysHeldOnce
  step_stays s t end m rs regions h =
      stays_by rs regions s t end (step_of look plain s) (held-step look plain seen rs regions s h) h m

  pub row_stays : (s t : State W) (n : Instr) (next : Word) (end : Step)
      → fetch (faces look s Pc) (cell_faces look s) ≡ some n next → Meets s (row look plain n next s) end t
      → StaysHeldOnce look s t
  row_stays s t n next end f m = step_stays s t end (rw (step_at look plain s n next f) m)

  -- whatever a run goes to
  pub run_stays : (n : ℕ) (s t : State W) → run_of look plain n s ≡ went t → StaysHeldOnce look s t
  unfolding run_of StaysHeldOnce
  run_stays zero s t e rs regions h = let same : s ≡ t = cc in subst (HeldOnce look rs) same h
  run_stays (suc n) s t e rs regions h =
      by_step (step_of look plain s) (held-step look plain seen rs regions s h)
      e (λ u g f. run_stays n u t f rs regions g)
    where
      by_step : (o : Outcome W) → HeldAfter look plain seen rs regions o
          → and_then o (run_of look plain n) ≡ went t
          → ((u : State W) → HeldOnce look rs u → run_of look plain n u ≡ went t → HeldOnce look rs t)
          → HeldOnce look rs t
      by_step (went u) g f more = more u g f
      by_step halted g f more = cc
      by_step (failed c at) g f more = cc

pub unchanged_stays : {W : Type 0} (look : W → Word) (s : State W) → StaysHeldOnce look s s
unfolding StaysHeldOnce
unchanged_stays look s rs regions h = h

-- the plain machine
moved_stays : (rs : List Region) (regions : AreApart rs) (s : Run) (o : Outcome Word)
    → HeldAfter {W = Word} (λ w. w) (λ w. w) (λ x. refl) rs regions o → HeldOnce (λ w. w) rs s.maps
    → HeldOnce (λ w. w) rs (moved o s).maps
moved_stays rs regions s (went t) k h = k
moved_stays rs regions s halted k h = h
moved_stays rs regions s (failed f at) k h = h

next_stays : (rs : List Region) (regions : AreApart rs) (s : Run) (e : Option End)
    → HeldOnce (λ w. w) rs s.maps → HeldOnce (λ w. w) rs (next_by e s).maps
next_stays rs regions s None h =
    moved_stays rs regions s (step_of (λ w. w) (λ w. w) s.maps)
    (held-step (λ w. w) (λ w. w) (λ x. refl) rs regions s.maps h) h
next_stays rs regions s (Some e) h = h

pub next_state_stays : (s : Run) → StaysHeldOnce (λ w. w) s.maps (next_state s).maps
unfolding next_state StaysHeldOnce
next_state_stays s rs regions h = next_stays rs regions s s.end h

-- and a run of any length
pub plain_stays : (n : ℕ) (s : Run) → StaysHeldOnce (λ w. w) s.maps (plain_run n s).maps
unfolding StaysHeldOnce
plain_stays zero s rs regions h = h
plain_stays (suc n) s rs regions h =
    next_state_stays (plain_run n s) rs regions (plain_stays n s rs regions h)
