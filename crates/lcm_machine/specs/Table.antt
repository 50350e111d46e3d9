-- The instruction table: what each instruction does, read off the words of the machine.
use Rattle.std.specs.Prelude.{ℕ, ◌+◌, ◌^◌, ◌==◌, nat_lt, Bool, true, false, ◌||◌, ◌&&◌, not, ℤ, pos, negsuc}
use Rattle.std.specs.Prelude.{◌+ℤ◌, ◌-ℤ◌, int_lt, Option, Some, None, if◌then◌else◌}
use Rattle.lcm_isa.specs.declared.Reg.{Reg}
use Rattle.lcm_isa.specs.declared.Reg.TheVariants.{Pc, Dat}
use Rattle.lcm_isa.specs.declared.Operand.{Operand}
use Rattle.lcm_isa.specs.declared.Operand.TheVariants.{R as InReg, Imm}
use Rattle.lcm_machine.specs.declared.Place.{Place}
use Rattle.lcm_machine.specs.declared.Place.TheVariants.{R, Cell}
use Rattle.lcm_machine.specs.declared.FailCause.{FailCause}
use Rattle.lcm_machine.specs.declared.FailCause.TheVariants.{F4, F5, F6, F7, F8, F9, F10, F11, F12, F13, F14}
use Rattle.lcm_isa.specs.declared.Instr.{Instr}
use Rattle.lcm_isa.specs.declared.Instr.TheVariants.{Fail, Halt, Jmp, Jnz, Gettype, Geta, Getb, Gete, Getp}
use Rattle.lcm_isa.specs.declared.Instr.TheVariants.{Getlin, Move, Store, Load, Cca, Restrict, Lt, Plus}
use Rattle.lcm_isa.specs.declared.Instr.TheVariants.{Minus, Seta2b, Xjmp, Cseal, Split, Splice}
use Rattle.cap_words.specs.declared.CapFields.{CapFields}
use Rattle.cap_words.specs.declared.SealFields.{SealFields}
use Rattle.cap_words.specs.declared.Word.{Word}
use Rattle.cap_words.specs.declared.Word.TheVariants.{Int, Mem, Seal, Sealed as SealedWord}
use Rattle.cap_words.specs.declared.Opened.{Opened}
use Rattle.cap_words.specs.declared.Content.{Content}
use Rattle.cap_words.specs.declared.Content.TheVariants.{Mem as MemC, Seal as SealC}
use Rattle.cap_words.specs.declared.Sealable.TheVariants.{Mem as MemIn, Seal as SealIn}
use Rattle.cap_words.specs.declared.Face.{Face}
use Rattle.cap_words.specs.declared.Face.TheVariants.{Memory, Seals}
use Rattle.lcm_machine.specs.Plan.{Plan, Fails, Halts, Goes}
use Rattle.lcm_machine.specs.declared.plan.Effect.{Effect}
use Rattle.lcm_machine.specs.declared.plan.Made.{Made}
use Rattle.cap_words.specs.Linear.{lin_is}
use Rattle.cap_words.specs.Faces.{may_write, may_read, may_run, int_in, memory_in, face_number, face_linear}
use Rattle.cap_words.specs.Faces.{address, target_of, same_kind, can_split, seals_in, face_address, face_base}
use Rattle.cap_words.specs.Faces.{face_end, face_perm, perm_at, is_below, seals_at}

abbrev pub is_pc : Reg → Bool
is_pc Pc = true
is_pc _ = false

abbrev pub is_zero : ℤ → Bool
is_zero (pos n) = n == 0
is_zero (negsuc n) = false

-- an integer of the machine has 64 bits, with its sign
abbrev pub fits_64 : ℤ → Bool
fits_64 (pos n) = nat_lt n (2 ^ 63)
fits_64 (negsuc n) = nat_lt n (2 ^ 63)

abbrev pub bit : Bool → ℤ
bit true = pos 1
bit false = pos 0

-- the integer of an operand: of a register that holds one, or the immediate
abbrev pub operand : (Reg → Face) → Operand → Option ℤ
operand face (InReg r) = int_in (face r)
operand face (Imm z) = Some z

abbrev pub memory_content : Content → Option CapFields
memory_content (MemC c) = Some c
memory_content (SealC s) = None

abbrev pub runs_in : Content → Bool
runs_in (MemC c) = may_run c.perm
runs_in (SealC s) = false

abbrev pub unsealed : Content → Word
unsealed (MemC c) = Mem c
unsealed (SealC s) = Seal s

-- the address of the cell that a load or a store goes to, where it is in the range
abbrev pub target : Instr → (Reg → Face) → Option ℕ
target (Store r1 r2) face = target_of (face r1)
target (Load r1 r2) face = target_of (face r2)
target _ face = None

-- a condition: the plan where it holds, and else the failure
unfoldable pub ask : FailCause → Bool → Plan → Plan
ask cause b plan = if b then plan else Fails cause

-- a condition that something is there: the plan for it, and else the failure
unfoldable pub need : {A : Type 0} → FailCause → Option A → (A → Plan) → Plan
need cause None k = Fails cause
need cause (Some a) k = k a

-- a condition that a word is a memory or seal capability: the plan for either, and else the failure
unfoldable pub by_cap : Face → (CapFields → Plan) → (SealFields → Plan) → Plan
by_cap (Memory c) of_memory of_seals = of_memory c
by_cap (Seals s) of_memory of_seals = of_seals s
by_cap _ of_memory of_seals = Fails F6

-- a register that is a destination may not be pc
abbrev pub into : Reg → Plan → Plan
into r plan = ask F5 (not (is_pc r)) plan

abbrev pub no_effect : Effect
no_effect = record { moved = None; spent = None; also_spent = None; first = None; second = None; next = None }

abbrev pub made : Reg → Word → Option Made
made r w = Some (record { reg = r; word = w })

-- pc goes on, and nothing else
abbrev pub goes_on : Word → Plan
goes_on next = Goes (record no_effect { next = Some next })

-- a word is taken from one place and set in another
abbrev pub moves : Place → Place → Option Word → Plan
moves p q next = Goes (record no_effect { moved = Some (record { from = p; to = q }); next = next })

-- a jump: a register's word is taken and becomes pc's
abbrev pub jumps : Reg → Plan
jumps r = moves (R r) (R Pc) None

-- a register gets a new word
abbrev pub makes : Reg → Word → Word → Plan
makes r w next = Goes (record no_effect { first = made r w; next = Some next })

-- The table. `face` shows the word of each register, `opened` what is in a sealed one, which `xjmp` alone
-- reads, `there` shows the word of the cell that a load or a store goes to, where there is one, and `next` is
-- pc's word with its address raised by one. Destinations come first, then the conditions in their order, each
-- with the cause of its failure, then the effect.
abbrev pub plan : Instr → (Reg → Face) → (Reg → Option Opened) → Option Face → Word → Plan
plan Fail face opened there next = Fails F4
plan Halt face opened there next = Halts
plan (Jmp r1) face opened there next = jumps r1
plan (Jnz r1 r2) face opened there next =
    need F6 (int_in (face r2)) (λ z.
    if is_zero z then goes_on next else jumps r1)
plan (Gettype r1 r2) face opened there next = into r1 (makes r1 (Int (face_number (face r2))) next)
plan (Geta r1 r2) face opened there next = into r1 (makes r1 (Int (face_address (face r2))) next)
plan (Getb r1 r2) face opened there next = into r1 (makes r1 (Int (face_base (face r2))) next)
plan (Gete r1 r2) face opened there next = into r1 (makes r1 (Int (face_end (face r2))) next)
plan (Getp r1 r2) face opened there next = into r1 (makes r1 (Int (face_perm (face r2))) next)
plan (Getlin r1 r2) face opened there next = into r1 (makes r1 (Int (bit (face_linear (face r2)))) next)
plan (Move r1 (InReg r2)) face opened there next = into r1 (moves (R r2) (R r1) (Some next))
plan (Move r1 (Imm z)) face opened there next = into r1 (makes r1 (Int z) next)
plan (Store r1 r2) face opened there next =
    need F6 (memory_in (face r1)) (λ c.
    ask F7 (may_write c.perm) (
    need F8 there (λ x.
    moves (R r2) (Cell (address c.addr)) (Some next))))
plan (Load r1 r2) face opened there next = into r1 (
    need F6 (memory_in (face r2)) (λ c.
    ask F7 (may_read c.perm) (
    need F8 there (λ x.
    ask F10 (not (face_linear x) || may_write c.perm) (
    moves (Cell (address c.addr)) (R r1) (Some next))))))
plan (Cca r1 n) face opened there next = into r1 (by_cap (face r1)
    (λ c.
    need F6 (operand face n) (λ z.
    ask F9 (fits_64 (c.addr +ℤ z)) (
    makes r1 (Mem (record c { addr = c.addr +ℤ z })) next)))
    (λ s.
    need F6 (operand face n) (λ z.
    ask F9 (fits_64 (s.cur +ℤ z)) (
    makes r1 (Seal (record s { cur = s.cur +ℤ z })) next))))
plan (Restrict r1 n) face opened there next = into r1 (
    need F6 (memory_in (face r1)) (λ c.
    need F6 (operand face n) (λ z.
    need F7 (perm_at z) (λ p.
    ask F7 (is_below p c.perm) (
    makes r1 (Mem (record c { perm = p })) next)))))
plan (Lt r1 r2 n) face opened there next = into r1 (
    need F6 (int_in (face r2)) (λ x.
    need F6 (operand face n) (λ z.
    makes r1 (Int (bit (int_lt x z))) next)))
plan (Plus r1 r2 n) face opened there next = into r1 (
    need F6 (int_in (face r2)) (λ x.
    need F6 (operand face n) (λ z.
    ask F9 (fits_64 (x +ℤ z)) (
    makes r1 (Int (x +ℤ z)) next))))
plan (Minus r1 r2 n) face opened there next = into r1 (
    need F6 (int_in (face r2)) (λ x.
    need F6 (operand face n) (λ z.
    ask F9 (fits_64 (x -ℤ z)) (
    makes r1 (Int (x -ℤ z)) next))))
plan (Seta2b r1) face opened there next = into r1 (by_cap (face r1)
    (λ c. makes r1 (Mem (record c { addr = pos c.base })) next)
    (λ s. makes r1 (Seal (record s { cur = pos s.base })) next))
plan (Xjmp r1 r2) face opened there next =
    need F6 (opened r1) (λ code.
    need F6 (opened r2) (λ data_half.
    ask F12 (code.seal == data_half.seal) (
    need F6 (memory_content code.content) (λ c.
    ask F10 (not (lin_is c.lin)) (
    ask F7 (may_run c.perm) (
    ask F7 (not (runs_in data_half.content)) (
    Goes (record no_effect {
      spent = Some r2;
      first = made Pc (Mem c);
      second = made Dat (unsealed data_half.content);
    }))))))))
plan (Cseal r1 r2) face opened there next = into r1 (by_cap (face r1)
    (λ c.
    need F6 (seals_in (face r2)) (λ q.
    ask F11 (seals_at q q.cur) (
    makes r1 (SealedWord (address q.cur) (MemIn c)) next)))
    (λ s.
    need F6 (seals_in (face r2)) (λ q.
    ask F11 (seals_at q q.cur) (
    makes r1 (SealedWord (address q.cur) (SealIn s)) next))))
plan (Split r1 r2 r3 n) face opened there next = into r1 (into r2 (
    need F6 (memory_in (face r3)) (λ c.
    need F6 (operand face n) (λ z.
    ask F13 (can_split c z) (
    Goes (record no_effect {
      spent = Some r3;
      first = made r1 (Mem (record c { end = address z }));
      second = made r2 (Mem (record c { base = address z + 1 }));
      next = Some next;
    }))))))
plan (Splice r1 r2 r3) face opened there next = into r1 (
    need F6 (memory_in (face r2)) (λ low.
    need F6 (memory_in (face r3)) (λ high.
    ask F14 (same_kind low high && (low.end + 1 == high.base)) (
    Goes (record no_effect {
      spent = Some r2;
      also_spent = Some r3;
      first = made r1 (Mem (record high { base = low.base }));
      next = Some next;
    })))))
