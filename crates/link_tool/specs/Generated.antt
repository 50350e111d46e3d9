-- What a seed makes: two numbers, the text of a trusted module, and the component of an untrusted part.
use Rattle.std.specs.Prelude.{ℕ, ◌+◌, ◌*◌, ◌/◌, ◌%◌, pos, ◌++◌, List, [], ◌∷◌, codes, decimal, None, true}
use Rattle.std.specs.Prelude.{false}
use Rattle.cap_words.specs.declared.Word.{Word}
use Rattle.cap_words.specs.declared.Word.TheVariants.{Int}
use Rattle.lcm_isa.specs.declared.Instr.{Instr}
use Rattle.lcm_isa.specs.declared.Instr.TheVariants.{Plus, Xjmp}
use Rattle.lcm_isa.specs.declared.Operand.TheVariants.{Imm}
use Rattle.lcm_isa.specs.declared.Reg.TheVariants.{A0, Rcode, Rdata}
use Rattle.lcm_isa.specs.Numbers.{number_of}
use Rattle.component_file.specs.declared.component.ComponentFields.{ComponentFields}
use Rattle.link_tool.specs.declared.generated.load.Workload.{Workload}

-- the number that follows another one
abbrev pub next_number : ℕ → ℕ
next_number x = (1103515245 * x + 12345) % 2147483648

-- of the two numbers that follow a seed
abbrev pub load_of : ℕ → Workload
load_of seed =
    let first = next_number seed in
    record { rounds = 100 + first / 65536 % 900; added = next_number first / 65536 % 100 }

-- how many instructions it runs for at most
unfoldable pub load_steps : ℕ
load_steps = 10000000

-- the module calls itself so often, and each time the other part; its main tells how often, with the sum of
-- what the other part answered
abbrev pub head_text : List ℕ
head_text =
    codes "module gen code 4096 data 8192 closure 10 returns 11 3 stack 65536;\n"
    ++ (codes "import adv.go/1;\nglobal seen = 0;\n" ++ codes "export proc main() { halt down(")

abbrev pub tail_text : List ℕ
tail_text =
    codes ") + seen; }\nproc down(n) { if n < 1 { return 0; } "
    ++ codes "seen = seen + go(n); return down(n - 1) + 1; }\n"

abbrev pub module_text : Workload → List ℕ
module_text load = head_text ++ (decimal load.rounds ++ tail_text)

abbrev pub instr_word : Instr → Word
instr_word i = Int (pos (number_of i))

-- it adds to the word that it is called with, and goes back
abbrev pub adder : Workload → ComponentFields
adder load = record {
  name = codes "adv";
  stack_base = 65536;
  closure = 20;
  seals = record { base = 0; count = 0 };
  linear = record { base = 0; count = 0 };
  code_base = 12288;
  code = instr_word (Plus A0 A0 (Imm (pos load.added))) ∷ (instr_word (Xjmp Rcode Rdata) ∷ []);
  data_base = 16384;
  data_words = Int (pos 0) ∷ [];
  imports = [];
  exports = record { name = codes "go"; offset = 0; shared = true } ∷ [];
  sites = [];
  fail_at = None;
  literal_at = None;
  rows = [];
  movable = false;
}
