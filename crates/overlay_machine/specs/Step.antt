-- One step of the overlay machine, in four cases, and how many plain instructions it stands for.
use Rattle.std.specs.Prelude.{ℕ, ◌+◌, ◌-◌, ◌==◌, nat_le, Bool, ◌&&◌, pos, int_lt, List, [], ◌∷◌}
use Rattle.std.specs.Prelude.{Option, Some, None, if◌then◌else◌}
use Rattle.cap_words.specs.declared.CapFields.{CapFields}
use Rattle.cap_words.specs.declared.Word.TheVariants.{Int, Mem}
use Rattle.cap_words.specs.Faces.{covers, address, memory_in}
use Rattle.cap_words.specs.Linear.{zero_word}
use Rattle.cap_words.specs.Stacks.{is_stack_from}
use Rattle.lcm_isa.specs.declared.Reg.{Reg}
use Rattle.lcm_isa.specs.declared.Reg.TheVariants.{Pc, Stk, Dat, C1, C2}
use Rattle.lcm_isa.specs.declared.Instr.TheVariants.{Xjmp}
use Rattle.lcm_machine.specs.declared.Place.TheVariants.{R}
use Rattle.lcm_machine.specs.Maps.{State}
use Rattle.lcm_machine.specs.Places.{reg}
use Rattle.lcm_machine.specs.Runs.{code_cap}
use Rattle.lcm_machine.specs.Row.{put, faces, cell_faces, row, Fetched, some, fetch, step_of, Outcome, went}
use Rattle.lcm_machine.specs.Row.{halted, failed}
use Rattle.call_sequence.specs.declared.TheConstants.{CALL_WORDS, RETURN_WORDS, ENTRY_WORDS}
use Rattle.trusted_border.specs.declared.layout.Layout.{Layout}
use Rattle.trusted_border.specs.declared.layout.SiteCode.{SiteCode}
use Rattle.trusted_border.specs.Layout.{trusted_at, site_at, has_entry_at, site_code}
use Rattle.overlay_machine.specs.declared.words.OWord.{OWord}
use Rattle.overlay_machine.specs.declared.words.OWord.TheVariants.{Plain, RetCode, RetData}
use Rattle.overlay_machine.specs.declared.cases.Case.{Case}
use Rattle.overlay_machine.specs.declared.cases.Case.TheVariants.{Call, Entry, Back, Other}
use Rattle.overlay_machine.specs.Words.{look, is_plain, is_ret_code}
use Rattle.overlay_machine.specs.State.{OpenFrame, OState}
use Rattle.lcm_machine.specs.Cells.{all_there, words_from, without, put_back}

-- ---- what a step is

-- an `xjmp` of a return word
abbrev pub case_fetched : State OWord → Fetched → Case
case_fetched s (some (Xjmp r1 r2) next) =
    if is_plain (reg s.regs r1) && is_plain (reg s.regs r2) then Other else Back r1 r2
case_fetched s _ = Other

-- at the first word of a site, or of an entry
abbrev pub case_at : Layout → ℕ → Option ℕ → Case → Case
case_at l a (Some i) c = Call i
case_at l a None c = if has_entry_at l a then Entry a else c

-- where pc is trusted
abbrev pub case_trusted : Layout → Option ℕ → Case → Case
case_trusted l None c = c
case_trusted l (Some a) c = case_at l a (site_at l a) c

-- the first case that fits
unfoldable pub case_of : Layout → State OWord → Case
case_of l s =
    case_trusted l (trusted_at l (faces look s Pc))
    (case_fetched s (fetch (faces look s Pc) (cell_faces look s)))

-- ---- how it ends

pub data Ending : Type 0 where
  goes : OState → Ending
  halts : Ending
  fails : Ending

-- conditions: where one of them is missing the overlay fails
unfoldable pub ask : Bool → Ending → Ending
ask b e = if b then e else fails

unfoldable pub need : {A : Type 0} → Option A → (A → Ending) → Ending
need None k = fails
need (Some x) k = k x

-- the end of a row of the table, with the frames and the count beside
abbrev pub with_frames : List OpenFrame → ℕ → Outcome OWord → Ending
with_frames fs n (went s) = goes (record { maps = s; frames = fs; calls = n })
with_frames fs n halted = halts
with_frames fs n (failed cause at) = fails

-- stk, where it is the capability of the stack
abbrev pub if_own : Layout → Option CapFields → Option CapFields
if_own l None = None
if_own l (Some c) = if is_stack_from l.stack.base c then Some c else None

unfoldable pub own_stack : Layout → State OWord → Option CapFields
own_stack l s = if_own l (memory_in (faces look s Stk))

-- ---- a call

-- The cells from stk's address to its end leave memory as the newest frame, whose first word is the data
-- capability; rcode and rdata are the pair of the new call, and stk is what lies below the frame.
abbrev pub new_frame : ℕ → ℕ → ℕ → OState → OpenFrame
new_frame i a e o = record {
  call = o.calls;
  site = i;
  base = a;
  end = e;
  words = reg o.maps.regs Dat ∷ words_from Plain o.maps.cells (a + 1) (e - a);
}

-- the state at the call's `xjmp`, its last word
abbrev pub at_call : ℕ → SiteCode → CapFields → OState → State OWord
at_call i s c o = record o.maps {
  regs = record o.maps.regs {
    pc = Plain (Mem (code_cap s.base s.end (s.at + (CALL_WORDS - 1))));
    rcode = RetCode i;
    rdata = RetData o.calls;
    stk = Plain (Mem (record c { end = address c.addr - 1; addr = pos (address c.addr - 1) }));
    t1 = zero_word Plain;
    t2 = zero_word Plain;
  };
  cells = without o.maps.cells (address c.addr) c.end;
}

-- The frame begins above the stack's lowest address, its cells are all there and are the stack's, and the
-- `xjmp` is of no return word.
unfoldable pub call_step : Layout → ℕ → OState → Ending
call_step l i o =
    need (site_code l i) (λ s.
    need (own_stack l o.maps) (λ c.
    ask (int_lt (pos l.stack.base) c.addr && covers c c.addr) (
    ask (all_there o.maps.cells (address c.addr) (c.end + 1 - address c.addr) && nat_le c.end l.stack.end) (
    ask (is_plain o.maps.regs.c1 && is_plain o.maps.regs.c2) (
    with_frames (new_frame i (address c.addr) c.end o ∷ o.frames) (o.calls + 1)
    (row look Plain (Xjmp C1 C2) (Int (pos 0)) (at_call i s c o)))))))

-- ---- an entry

-- stk's address becomes its end, and pc stands after the sequence
unfoldable pub entry_step : Layout → ℕ → OState → Ending
entry_step l a o =
    need (memory_in (faces look o.maps Pc)) (λ p.
    need (own_stack l o.maps) (λ c.
    goes (record o {
      maps = record o.maps {
        regs = record o.maps.regs {
          pc = Plain (Mem (record p { addr = pos (a + ENTRY_WORDS) }));
          stk = Plain (Mem (record c { addr = pos c.end }));
          t1 = zero_word Plain;
          t2 = zero_word Plain;
        };
      };
    })))

-- ---- a return

abbrev pub first_word : List OWord → OWord
first_word [] = zero_word Plain
first_word (w ∷ ws) = w

abbrev pub rest_words : List OWord → List OWord
rest_words [] = []
rest_words (w ∷ ws) = ws

-- The newest frame's cells come back, the first one as 0; data is the frame's first word, stk is the stack up
-- to the frame's end, and pc stands after the site.
abbrev pub state_resumed : SiteCode → CapFields → OpenFrame → List OpenFrame → State OWord → OState → OState
state_resumed s c f fs m o = record o {
  maps = record m {
    regs = record m.regs {
      pc = Plain (Mem (code_cap s.base s.end (s.at + (CALL_WORDS + RETURN_WORDS))));
      stk = Plain (Mem (record c { end = f.end; addr = pos f.base }));
      dat = first_word f.words;
      t1 = zero_word Plain;
      t2 = zero_word Plain;
    };
    cells = put_back m.cells f.base (zero_word Plain ∷ rest_words f.words);
  };
  frames = fs;
}

-- The call is the newest one that is open, the site is that call's, and stk ends right below its frame. The
-- register that held the data half is 0.
abbrev pub return_by : Layout → OWord → OWord → Reg → List OpenFrame → OState → Ending
return_by l (RetCode i) (RetData k) r2 (f ∷ fs) o =
    ask ((k == f.call) && (i == f.site)) (
    need (site_code l i) (λ s.
    need (own_stack l o.maps) (λ c.
    ask (c.end + 1 == f.base) (
    goes (state_resumed s c f fs (put o.maps (R r2) (zero_word Plain)) o)))))
return_by l _ _ r2 _ o = fails

unfoldable pub return_step : Layout → Reg → Reg → OState → Ending
return_step l r1 r2 o = return_by l (reg o.maps.regs r1) (reg o.maps.regs r2) r2 o.frames o

-- ---- everything else is the row of the table

unfoldable pub other_step : OState → Ending
other_step o = with_frames o.frames o.calls (step_of look Plain o.maps)

abbrev pub step_by : Layout → Case → OState → Ending
step_by l (Call i) o = call_step l i o
step_by l (Entry a) o = entry_step l a o
step_by l (Back r1 r2) o = return_step l r1 r2 o
step_by l Other o = other_step o

unfoldable pub overlay_step : Layout → OState → Ending
overlay_step l o = step_by l (case_of l o.maps) o

-- ---- how many plain instructions the next step stands for: how long the simulation stutters

abbrev pub weight_by : State OWord → Case → ℕ
weight_by s (Call i) = if is_ret_code s.regs.c1 then CALL_WORDS + 1 else CALL_WORDS
weight_by s (Entry a) = ENTRY_WORDS
weight_by s (Back r1 r2) = if is_ret_code (reg s.regs r1) then RETURN_WORDS + 1 else 1
weight_by s Other = 1

unfoldable pub weight_of : Layout → OState → ℕ
weight_of l o = weight_by o.maps (case_of l o.maps)
