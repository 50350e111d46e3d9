-- An instruction makes words of a machine of such words, so all words stay such along steps and runs.
use Rattle.std.proofs.Common.{◌≡◌, ℕ, zero, suc, ◌+◌, ◌≤◌, ◌^◌, ℤ, pos, negsuc, ◌+ℤ◌, Bool, true}
use Rattle.std.proofs.Common.{false, refl, sym, ap, subst, arith, FitsSigned, ltb-true, leb-true}
use Rattle.std.specs.Prelude.{Option, Some, None, nat_le, ◌&&◌, if◌then◌else◌, not}
use Rattle.std.specs.Int.{w64, w32}
use Rattle.std.proofs.lemmas.Bool.{and_parts, eqb-true}
use Rattle.cap_words.specs.declared.TheConstants.{LAST_PLACE}
use Rattle.cap_words.specs.declared.Word.{Word}
use Rattle.cap_words.specs.declared.Word.TheVariants.{Int, Mem, Seal, Sealed as SealedWord}
use Rattle.cap_words.specs.declared.Sealable.TheVariants.{Mem as MemIn, Seal as SealIn}
use Rattle.cap_words.specs.declared.Perm.{Perm}
use Rattle.cap_words.specs.declared.Perm.TheVariants.{No, R as ReadOnly, Rw, Rx, Rwx}
use Rattle.cap_words.specs.declared.Content.{Content}
use Rattle.cap_words.specs.declared.Content.TheVariants.{Mem as MemC, Seal as SealC}
use Rattle.cap_words.specs.declared.Opened.{Opened}
use Rattle.cap_words.specs.declared.CapFields.{CapFields}
use Rattle.cap_words.specs.declared.SealFields.{SealFields}
use Rattle.cap_words.specs.declared.Face.{Face}
use Rattle.cap_words.specs.declared.Face.TheVariants.{Number, Memory, Seals, Sealed}
use Rattle.cap_words.specs.Face.{face_of, opened_of}
use Rattle.cap_words.specs.Faces.{memory_in, seals_in, same_kind, face_number, face_address, face_base}
use Rattle.cap_words.specs.Faces.{face_end, face_perm, perm_number, seals_at, can_split, address, covers}
use Rattle.cap_words.specs.Faces.{target_of, may_run}
use Rattle.cap_words.specs.Linear.{lin_is}
use Rattle.cap_words.specs.WordBytes.{ContentFits, WordFits}
use Rattle.lcm_isa.specs.Numbers.{IsInstr, decode_of}
use Rattle.lcm_isa.proofs.Offers.{decode_of-fits}
use Rattle.lcm_isa.specs.declared.Reg.{Reg}
use Rattle.lcm_isa.specs.declared.Reg.TheVariants.{Pc}
use Rattle.lcm_isa.specs.declared.Operand.TheVariants.{R as InReg, Imm}
use Rattle.lcm_isa.specs.declared.Instr.{Instr}
use Rattle.lcm_isa.specs.declared.Instr.TheVariants.{Fail, Halt, Jmp, Jnz, Gettype, Geta, Getb, Gete, Getp}
use Rattle.lcm_isa.specs.declared.Instr.TheVariants.{Getlin, Move, Store, Load, Cca, Restrict, Lt, Plus}
use Rattle.lcm_isa.specs.declared.Instr.TheVariants.{Minus, Seta2b, Xjmp, Cseal, Split, Splice}
use Rattle.lcm_machine.specs.declared.Place.TheVariants.{R, Cell}
use Rattle.lcm_machine.specs.Plan.{Plan, Fails, Halts, Goes}
use Rattle.lcm_machine.specs.declared.plan.Effect.{Effect}
use Rattle.lcm_machine.specs.declared.plan.Moved.{Moved}
use Rattle.lcm_machine.specs.Maps.{State}
use Rattle.lcm_machine.specs.Places.{reg}
use Rattle.lcm_machine.specs.Table.{plan, fits_64, bit, memory_content, unsealed}
use Rattle.lcm_machine.specs.Row.{perform, faces, cell_faces, opens, plan_in, outcome, row, face_there, fetch}
use Rattle.lcm_machine.specs.Row.{fetch_word, fetch_decoded, Fetched, none, some, step_fetched, step_of}
use Rattle.lcm_machine.specs.Row.{Outcome, went, halted, failed}
use Rattle.lcm_machine.specs.declared.End.{End}
use Rattle.lcm_machine.specs.declared.FailCause.TheVariants.{F1}
use Rattle.lcm_machine.specs.Run.{Run, moved, next_by, next_state, plain}
use Rattle.lcm_machine.specs.Ends.{After}
use Rattle.cap_words.specs.Ranges.{in_range}
use Rattle.lcm_machine.proofs.Plans.{Gives, Gives-effect, gives_fails, gives_halts, gives_goes, Gives-ask}
use Rattle.lcm_machine.proofs.Plans.{Gives-need, Gives-by_cap, Gives-if}
use Rattle.lcm_machine.proofs.WordsKept.{PlaceIn, MoveIn, Makes, perform_all}
use Rattle.lcm_machine.proofs.RowLemmas.{look_memory, look_seals, fetch_normal}
use Rattle.lcm_machine.specs.Closed.{AllAre}
use Rattle.lcm_machine.specs.Fitting.{MapsFit}

abbrev id : Word → Word
id w = w

-- ---- integers

pub small_fits : (n : ℕ) → n ≤ 4294967295 → FitsSigned w64 (pos n)
small_fits n h = record { sfits = omega (arith, h) }

minus_fits : FitsSigned w64 (negsuc 0)
minus_fits = record { sfits = omega arith }

pub zero_fits : WordFits (Int (pos 0))
zero_fits = small_fits 0 (omega arith)

pub tested_fits : (z : ℤ) → fits_64 z ≡ true → FitsSigned w64 z
tested_fits (pos n) e = let k = ltb-true n (2 ^ 63) e in record { sfits = omega (arith, k) }
tested_fits (negsuc n) e = let k = ltb-true n (2 ^ 63) e in record { sfits = omega (arith, k) }

number_fits : (f : Face) → FitsSigned w64 (face_number f)
number_fits (Number z) = small_fits 0 (omega arith)
number_fits (Memory c) = small_fits 1 (omega arith)
number_fits (Seals s) = small_fits 2 (omega arith)
number_fits (Sealed l) = small_fits 3 (omega arith)

bit_fits : (b : Bool) → FitsSigned w64 (bit b)
bit_fits true = small_fits 1 (omega arith)
bit_fits false = small_fits 0 (omega arith)

perm_fits : (p : Perm) → FitsSigned w64 (pos (perm_number p))
perm_fits No = small_fits 0 (omega arith)
perm_fits ReadOnly = small_fits 1 (omega arith)
perm_fits Rw = small_fits 2 (omega arith)
perm_fits Rx = small_fits 3 (omega arith)
perm_fits Rwx = small_fits 4 (omega arith)

low_fits : (b e : ℕ) → b ≤ e → e ≤ LAST_PLACE → FitsSigned w64 (pos b)
low_fits b e h k = small_fits b (omega (arith, h, k))

-- ---- what is read of a word

address_fits : (w : Word) → WordFits w → FitsSigned w64 (face_address (face_of w))
address_fits (Int n) h = minus_fits
address_fits (Mem c) h = h.1
address_fits (Seal s) h = h.1
address_fits (SealedWord o (MemIn c)) h = minus_fits
address_fits (SealedWord o (SealIn c)) h = minus_fits

base_fits : (w : Word) → WordFits w → FitsSigned w64 (face_base (face_of w))
base_fits (Int n) h = minus_fits
base_fits (Mem c) h = low_fits c.base c.end h.0.0 h.0.1
base_fits (Seal s) h = low_fits s.base s.end h.0.0 h.0.1
base_fits (SealedWord o (MemIn c)) h = minus_fits
base_fits (SealedWord o (SealIn c)) h = minus_fits

end_fits : (w : Word) → WordFits w → FitsSigned w64 (face_end (face_of w))
end_fits (Int n) h = minus_fits
end_fits (Mem c) h = low_fits c.end c.end (omega arith) h.0.1
end_fits (Seal s) h = low_fits s.end s.end (omega arith) h.0.1
end_fits (SealedWord o (MemIn c)) h = minus_fits
end_fits (SealedWord o (SealIn c)) h = minus_fits

getp_fits : (f : Face) → FitsSigned w64 (face_perm f)
getp_fits (Number z) = minus_fits
getp_fits (Memory c) = perm_fits c.perm
getp_fits (Seals s) = minus_fits
getp_fits (Sealed l) = minus_fits

abbrev pub OpenedFits : Content → Type 0
OpenedFits (MemC c) = ContentFits (MemIn c)
OpenedFits (SealC s) = ContentFits (SealIn s)

pub opened_fits : (w : Word) (k : Opened) → opened_of w ≡ Some k → WordFits w → OpenedFits k.content
opened_fits (Int n) k e h = absurd cc
opened_fits (Mem c) k e h = absurd cc
opened_fits (Seal s) k e h = absurd cc
opened_fits (SealedWord o (MemIn c)) k e h =
    let q : record { seal = o; content = MemC c } ≡ k = cc in
    subst (λ (y : Opened). OpenedFits y.content) q h.1
opened_fits (SealedWord o (SealIn c)) k e h =
    let q : record { seal = o; content = SealC c } ≡ k = cc in
    subst (λ (y : Opened). OpenedFits y.content) q h.1

code_fits : (x : Content) (c : CapFields) → memory_content x ≡ Some c → OpenedFits x → WordFits (Mem c)
code_fits (MemC d) c e h = let q : d ≡ c = cc in subst (λ y. ContentFits (MemIn y)) q h
code_fits (SealC s) c e h = absurd cc

unsealed_fits : (x : Content) → OpenedFits x → WordFits (unsealed x)
unsealed_fits (MemC c) h = h
unsealed_fits (SealC s) h = h

seal_small : (s : SealFields) (z : ℤ) → seals_at s z ≡ true → s.end ≤ LAST_PLACE → address z ≤ LAST_PLACE
seal_small s (pos n) e h =
    let k : n ≤ s.end = leb-true n s.end (and_parts (nat_le s.base n) (nat_le n s.end) e).1 in
    omega (arith, k, h)
seal_small s (negsuc n) e h = absurd cc

cut_fits : (c : CapFields) (z : ℤ) → can_split c z ≡ true → ContentFits (MemIn c)
    → WordFits (Mem (record c { end = address z })) × WordFits (Mem (record c { base = address z + 1 }))
cut_fits c (pos n) e h =
    let p = and_parts _ _ e in
    let low = leb-true c.base n p.0 in
    let high = ltb-true n c.end p.1 in
    let top = h.0.1 in
    (((low, omega (arith, high, top)), h.1), ((omega (arith, high), top), h.1))
cut_fits c (negsuc n) e h = absurd cc

-- ---- states

-- no cell is set apart
abbrev Every : ℕ → Type 0
Every a = Unit {0}

moves_any : (m : Option Moved) → MoveIn Every m
moves_any None = tt
moves_any (Some m) = elim (m.from) as (λ p. PlaceIn Every p) [ R r ↦ tt | Cell a ↦ tt ]

perform_fits : (s : State Word) (e : Effect) → Makes id WordFits e → MapsFit s → MapsFit (perform id id s e)
perform_fits s e h all =
    let each : AllAre WordFits Every s = (all.0, λ a w there at. all.1 a w at) in
    let k = perform_all id id WordFits Every zero_fits s e (moves_any e.moved) h each in
    (k.0, λ a w at. k.1 a w tt at)

-- ---- the table

module _ (s : State Word) (all : MapsFit s) (next : Word) (next_is : WordFits next) where
  memory_fits : (r : Reg) (c : CapFields) → memory_in (faces id s r) ≡ Some c → ContentFits (MemIn c)
  unfolding faces
  memory_fits r c e = subst WordFits (look_memory (reg s.regs r) c e) (all.0 r)

  seals_fit : (r : Reg) (c : SealFields) → seals_in (faces id s r) ≡ Some c → ContentFits (SealIn c)
  unfolding faces
  seals_fit r c e = subst WordFits (look_seals (reg s.regs r) c e) (all.0 r)

  geta_fits : (r : Reg) → FitsSigned w64 (face_address (faces id s r))
  unfolding faces
  geta_fits r = address_fits (reg s.regs r) (all.0 r)

  getb_fits : (r : Reg) → FitsSigned w64 (face_base (faces id s r))
  unfolding faces
  getb_fits r = base_fits (reg s.regs r) (all.0 r)

  gete_fits : (r : Reg) → FitsSigned w64 (face_end (faces id s r))
  unfolding faces
  gete_fits r = end_fits (reg s.regs r) (all.0 r)

  opens_fit : (r : Reg) (k : Opened) → opens id s r ≡ Some k → OpenedFits k.content
  unfolding opens
  opens_fit r k e = opened_fits (reg s.regs r) k e (all.0 r)

  plan_fits : (n : Instr) → IsInstr n → (t : Option Face)
      → Gives (Makes id WordFits) (plan n (faces id s) (opens id s) t next)
  plan_fits Fail x t = gives_fails
  plan_fits Halt x t = gives_halts
  plan_fits (Jmp r1) x t = gives_goes (tt, tt, tt)
  plan_fits (Jnz r1 r2) x t =
      Gives-need _ _ _ (λ z e. Gives-if _ _ _ (gives_goes (tt, tt, next_is)) (gives_goes (tt, tt, tt)))
  plan_fits (Gettype r1 r2) x t = Gives-ask _ _ _ (λ _. gives_goes (number_fits (faces id s r2), tt, next_is))
  plan_fits (Geta r1 r2) x t = Gives-ask _ _ _ (λ _. gives_goes (geta_fits r2, tt, next_is))
  plan_fits (Getb r1 r2) x t = Gives-ask _ _ _ (λ _. gives_goes (getb_fits r2, tt, next_is))
  plan_fits (Gete r1 r2) x t = Gives-ask _ _ _ (λ _. gives_goes (gete_fits r2, tt, next_is))
  plan_fits (Getp r1 r2) x t = Gives-ask _ _ _ (λ _. gives_goes (getp_fits (faces id s r2), tt, next_is))
  plan_fits (Getlin r1 r2) x t = Gives-ask _ _ _ (λ _. gives_goes (bit_fits _, tt, next_is))
  plan_fits (Move r1 (InReg r2)) x t = Gives-ask _ _ _ (λ _. gives_goes (tt, tt, next_is))
  plan_fits (Move r1 (Imm z)) x t = Gives-ask _ _ _ (λ _. gives_goes (imm_fits z x, tt, next_is))
    where
      imm_fits : (z : ℤ) → FitsSigned w32 z → FitsSigned w64 z
      imm_fits (pos n) h = let k = h.sfits in record { sfits = omega (arith, k) }
      imm_fits (negsuc n) h = let k = h.sfits in record { sfits = omega (arith, k) }
  plan_fits (Store r1 r2) x t =
      Gives-need _ _ _ (λ c m. Gives-ask _ _ _ (λ _. Gives-need _ _ _ (λ y h. gives_goes (tt, tt, next_is))))
  plan_fits (Load r1 r2) x t = Gives-ask _ _ _ (λ _. Gives-need _ _ _ (λ c m. Gives-ask _ _ _ (λ _.
      Gives-need _ _ _ (λ y h. Gives-ask _ _ _ (λ _. gives_goes (tt, tt, next_is))))))
  plan_fits (Cca r1 n) x t = Gives-ask _ _ _ (λ _. Gives-by_cap (faces id s r1) _ _
      (λ c e. Gives-need _ _ _ (λ z _. Gives-ask _ _ _ (λ b.
      gives_goes (((memory_fits r1 c (ap memory_in e)).0, tested_fits _ b), tt, next_is))))
      (λ c e. Gives-need _ _ _ (λ z _. Gives-ask _ _ _ (λ b.
      gives_goes (((seals_fit r1 c (ap seals_in e)).0, tested_fits _ b), tt, next_is)))))
  plan_fits (Restrict r1 n) x t = Gives-ask _ _ _ (λ _. Gives-need _ _ _ (λ c m. Gives-need _ _ _ (λ z _.
      Gives-need _ _ _ (λ q _. Gives-ask _ _ _ (λ b. gives_goes (memory_fits r1 c m, tt, next_is))))))
  plan_fits (Lt r1 r2 n) x t = Gives-ask _ _ _ (λ _. Gives-need _ _ _ (λ y e. Gives-need _ _ _ (λ z _.
      gives_goes (bit_fits _, tt, next_is))))
  plan_fits (Plus r1 r2 n) x t = Gives-ask _ _ _ (λ _. Gives-need _ _ _ (λ y e. Gives-need _ _ _ (λ z _.
      Gives-ask _ _ _ (λ b. gives_goes (tested_fits _ b, tt, next_is)))))
  plan_fits (Minus r1 r2 n) x t = Gives-ask _ _ _ (λ _. Gives-need _ _ _ (λ y e. Gives-need _ _ _ (λ z _.
      Gives-ask _ _ _ (λ b. gives_goes (tested_fits _ b, tt, next_is)))))
  plan_fits (Seta2b r1) x t = Gives-ask _ _ _ (λ _. Gives-by_cap (faces id s r1) _ _
      (λ c e. (let k = memory_fits r1 c (ap memory_in e) in
      gives_goes ((k.0, low_fits c.base c.end k.0.0 k.0.1), tt, next_is)))
      (λ c e. (let k = seals_fit r1 c (ap seals_in e) in
      gives_goes ((k.0, low_fits c.base c.end k.0.0 k.0.1), tt, next_is))))
  plan_fits (Xjmp r1 r2) x t = Gives-need _ _ _ (λ a ea. Gives-need _ _ _ (λ b eb. Gives-ask _ _ _ (λ q.
      Gives-need _ _ _ (λ c m. Gives-ask _ _ _ (λ _. Gives-ask _ _ _ (λ _. Gives-ask _ _ _ (λ _.
      (let code = code_fits a.content c m (opens_fit r1 a ea) in
      gives_goes (code, unsealed_fits b.content (opens_fit r2 b eb), tt)))))))))
  plan_fits (Cseal r1 r2) x t = Gives-ask _ _ _ (λ _. Gives-by_cap (faces id s r1) _ _
      (λ c e. Gives-need _ _ _ (λ q m. Gives-ask _ _ _ (λ b.
      (let seal = seal_small q q.cur b (seals_fit r2 q m).0.1 in
      gives_goes ((seal, memory_fits r1 c (ap memory_in e)), tt, next_is)))))
      (λ c e. Gives-need _ _ _ (λ q m. Gives-ask _ _ _ (λ b.
      (let seal = seal_small q q.cur b (seals_fit r2 q m).0.1 in
      gives_goes ((seal, seals_fit r1 c (ap seals_in e)), tt, next_is))))))
  plan_fits (Split r1 r2 r3 n) x t = Gives-ask _ _ _ (λ _. Gives-ask _ _ _ (λ _. Gives-need _ _ _ (λ c m.
      Gives-need _ _ _ (λ z _. Gives-ask _ _ _ (λ b.
      (let k = cut_fits c z b (memory_fits r3 c m) in gives_goes (k.0, k.1, next_is)))))))
  plan_fits (Splice r1 r2 r3) x t = Gives-ask _ _ _ (λ _. Gives-need _ _ _ (λ a ma. Gives-need _ _ _ (λ b mb.
      Gives-ask _ _ _ (λ q.
      (let e = eqb-true _ _ (and_parts (same_kind a b) _ q).1 in
      let low = memory_fits r2 a ma in
      let high = memory_fits r3 b mb in
      let l0 = low.0.0 in
      let h0 = high.0.0 in
      gives_goes (((omega (arith, e, l0, h0), high.0.1), high.1), tt, next_is))))))

  after : (p : Plan) → Gives (Makes id WordFits) p → After MapsFit (outcome id id s p)
  after (Fails f) h = tt
  after Halts h = tt
  after (Goes e) h = perform_fits s e (Gives-effect h) all

  row_fits : (n : Instr) → IsInstr n → After MapsFit (row id id n next s)
  unfolding row plan_in
  row_fits n x = after _ (plan_fits n x _)

-- ---- a step

-- what is fetched is an instruction that there is, and pc's address was in its range
decoded : (c : CapFields) (m : Option Instr) (n : Instr) (next : Word)
    → ((i : Instr) → m ≡ Some i → IsInstr i) → fetch_decoded c m ≡ some n next → IsInstr n
decoded c None n next k e = absurd cc
decoded c (Some m) n next k e = let q : m ≡ n = cc in subst IsInstr q (k m refl)

worded : (c : CapFields) (o : Option Face) (n : Instr) (next : Word) → fetch_word c o ≡ some n next
    → IsInstr n
worded c None n next e = absurd cc
worded c (Some (Number z)) n next e = decoded c (decode_of z) n next (λ i h. decode_of-fits z i h) e
worded c (Some (Memory b)) n next e = absurd cc
worded c (Some (Seals b)) n next e = absurd cc
worded c (Some (Sealed b)) n next e = absurd cc

fetched_word : (c : CapFields) (cells : ℕ → Option Face) (n : Instr) (next : Word)
    → fetch (Memory c) cells ≡ some n next
    → fetch_word c (face_there cells (target_of (Memory c))) ≡ some n next
fetched_word c cells n next =
    elim (not (lin_is c.lin) && may_run c.perm) as
    (λ b. (if b then fetch_word c (face_there cells (target_of (Memory c))) else none F1) ≡ some n next
    → fetch_word c (face_there cells (target_of (Memory c))) ≡ some n next)
    [ true ↦ λ e. e | false ↦ λ e. absurd cc ]

in_range_then : (c : CapFields) (cells : ℕ → Option Face) (n : Instr) (next : Word)
    → fetch_word c (face_there cells (target_of (Memory c))) ≡ some n next → covers c c.addr ≡ true
in_range_then c cells n next =
    elim (covers c c.addr) as (λ b. fetch_word c
    (face_there cells (if b then Some (address c.addr) else None)) ≡ some n next → b ≡ true)
    [ true ↦ λ e. refl | false ↦ λ e. absurd cc ]

next_in_range : (b e : ℕ) (z : ℤ) → in_range b e z ≡ true → e ≤ LAST_PLACE → FitsSigned w64 (z +ℤ pos 1)
next_in_range b e (pos n) h k =
    let t : n ≤ e = leb-true n e (and_parts (nat_le b n) (nat_le n e) h).1 in
    small_fits (n + 1) (omega (arith, t, k))
next_in_range b e (negsuc n) h k = absurd cc

fetched_fits : (x : Word) (cells : ℕ → Option Face) (n : Instr) (next : Word) → WordFits x
    → fetch (face_of x) cells ≡ some n next → WordFits next × IsInstr n
fetched_fits x cells n next h f =
    let k = fetch_normal x cells n next f in
    let fits : ContentFits (MemIn k.0) = subst WordFits k.1 h in
    let word = fetched_word k.0 cells n next (subst (λ y. fetch (face_of y) cells ≡ some n next) k.1 f) in
    let here = in_range_then k.0 cells n next word in (
      subst WordFits (sym k.3) (fits.0, next_in_range k.0.base k.0.end k.0.addr here fits.0.1),
      worded k.0 _ n next word,
    )

fetched_keeps : (s : State Word) → MapsFit s → (f : Fetched)
    → ((n : Instr) (next : Word) → f ≡ some n next → WordFits next × IsInstr n)
    → After MapsFit (step_fetched id id s f)
fetched_keeps s all (none c) k = tt
fetched_keeps s all (some n next) k = let h = k n next refl in row_fits s all next h.0 n h.1

pub step_fits : (s : State Word) → MapsFit s → After MapsFit (step_of id id s)
unfolding step_of faces
step_fits s all =
    fetched_keeps s all _ (λ n next e. fetched_fits (reg s.regs Pc) (cell_faces id s) n next (all.0 Pc) e)

-- ---- a run

moved_fits : (o : Outcome Word) (r : Run) → After MapsFit o → MapsFit r.maps → MapsFit (moved o r).maps
moved_fits (went t) r h all = h
moved_fits halted r h all = all
moved_fits (failed cause at) r h all = all

next_fits : (e : Option End) (r : Run) → MapsFit r.maps → MapsFit (next_by e r).maps
next_fits None r all = moved_fits (step_of id id r.maps) r (step_fits r.maps all) all
next_fits (Some e) r all = all

pub next_state_fits : (r : Run) → MapsFit r.maps → MapsFit (next_state r).maps
unfolding next_state
next_state_fits r all = next_fits r.end r all

pub plain_fits : (n : ℕ) (r : Run) → MapsFit r.maps → MapsFit (plain n r).maps
plain_fits zero r all = all
plain_fits (suc n) r all = next_state_fits (plain n r) (plain_fits n r all)
