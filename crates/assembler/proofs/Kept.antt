-- Drafts that keep the limits of components.
use Rattle.std.proofs.Common.{◌≡◌, ℕ, ◌+◌, ◌<◌, ◌≤◌, zero, suc, true, List, [], ◌∷◌, ◌++◌, length, Option}
use Rattle.std.proofs.Common.{Some, None, refl, sym, ap, ◌∙◌, subst, arith}
use Rattle.std.specs.Prelude.{IsTrue, IfSome, slice_get, pos}
use Rattle.std.proofs.lemmas.Option.{slice_get_within}
use Rattle.component_file.proofs.Offers.{get_pushed}
use Rattle.cap_words.specs.declared.TheConstants.{LAST_PLACE}
use Rattle.cap_words.specs.declared.Word.{Word}
use Rattle.cap_words.specs.declared.Word.TheVariants.{Int}
use Rattle.lcm_isa.specs.declared.Instr.{Instr}
use Rattle.lcm_isa.specs.Numbers.{number_of, IsInstr}
use Rattle.lcm_isa.proofs.Offers.{decode_of-number_of}
use Rattle.component_file.specs.declared.TheConstants.{LAST_OFFSET, MOST_WORDS, MOST_IMPORTS, MOST_EXPORTS}
use Rattle.component_file.specs.declared.TheConstants.{MOST_SITES, MOST_ROWS}
use Rattle.cap_words.specs.Names.{is_name}
use Rattle.component_file.specs.Limits.{Chain, Each, ImportFits, ExportFits, SiteFits, KindRowFits}
use Rattle.component_file.specs.Limits.{StretchFits}
use Rattle.assembler.specs.declared.labels.Label.{Label}
use Rattle.assembler.specs.Labels.{AreWithin}
use Rattle.assembler.specs.Patch.{instr_in, some_immediate, has_immediate, has_immediate_at}
use Rattle.assembler.specs.References.{Reference, IsReady, IsFrom, behind, AreReady}
use Rattle.asm_fields.specs.declared.directives.ItemKind.{ItemKind}
use Rattle.assembler.specs.declared.header.TextHeader.{TextHeader}
use Rattle.asm_fields.specs.declared.directives.ItemKind.TheVariants as item
use Rattle.assembler.specs.Order.{rank, rank_of}
use Rattle.assembler.specs.Tables.{Tables}
use Rattle.assembler.specs.Draft.{Draft}
use Rattle.assembler.proofs.Words.{IsPartWord}

abbrev pub AreWords : List Word → Type 0
AreWords words = (length words ≤ MOST_WORDS) × Each IsPartWord words

pub record WordsKept (labels : List (List ℕ × Label)) (references : List Reference)
    (code data_words : List Word) : Type 0 where
  pub labels_within : AreWithin labels
  pub ready : AreReady 0 code references
  pub code_fits : AreWords code
  pub data_fits : AreWords data_words

-- all but the name
pub record HeaderKept (h : TextHeader) : Type 0 where
  pub stack_base : h.stack_base ≤ LAST_PLACE
  pub closure : h.closure ≤ LAST_PLACE
  pub seals : StretchFits h.seals.base h.seals.count
  pub linear : StretchFits h.linear.base h.linear.count
  pub code_base : h.code_base ≤ LAST_PLACE
  pub data_base : h.data_base ≤ LAST_PLACE

abbrev pub AreOrdered : Tables → Type 0
AreOrdered t = Chain ImportFits None t.imports × Chain ExportFits None t.exports
    × Chain SiteFits None t.sites × Chain KindRowFits None t.rows

pub record TablesKept (t : Tables) : Type 0 where
  pub imports : length t.imports ≤ MOST_IMPORTS
  pub exports : length t.exports ≤ MOST_EXPORTS
  pub sites : length t.sites ≤ MOST_SITES
  pub rows : length t.rows ≤ MOST_ROWS
  pub fail_at : IfSome t.fail_at (λ o. o ≤ LAST_OFFSET)
  pub literal_at : IfSome t.literal_at (λ o. o ≤ LAST_OFFSET)
  pub ordered : t.out_of_order ≡ None → AreOrdered t

-- what has come with the last item
pub record Came (last : Option ItemKind) (name : List ℕ) (code data_words : List Word) : Type 0 where
  pub name_came : 1 ≤ rank_of last → IsTrue (is_name name)
  pub code_came : rank item.Data ≤ rank_of last → 1 ≤ length code
  pub data_came : rank item.Import ≤ rank_of last → 1 ≤ length data_words

pub record IsDraft (d : Draft) : Type 0 where
  pub words : WordsKept d.labels d.references d.code d.data_words
  pub header : HeaderKept d.header
  pub tables : TablesKept d.tables
  pub came : Came d.last d.header.name d.code d.data_words

-- ---- words that are ready

get_front : {A : Type 0} (xs : List A) (x : A) (k : ℕ) (y : A) → slice_get xs k ≡ Some y
    → slice_get (xs ++ x ∷ []) k ≡ Some y
get_front [] x k y h = absurd cc
get_front (z ∷ xs) x zero y h = h
get_front (z ∷ xs) x (suc k) y h = get_front xs x k y h

-- what is there, where an instruction with an immediate is
there : (o : Option Word) → some_immediate (instr_in o) ≡ true → (w : Word) × (o ≡ Some w)
there None h = absurd cc
there (Some w) h = (w, refl)

still : (code : List Word) (w : Word) (k : ℕ) → IsTrue (has_immediate_at code k)
    → IsTrue (has_immediate_at (code ++ w ∷ []) k)
still code w k h =
    let p = there (slice_get code k) h in
    ap (λ o. some_immediate (instr_in o)) (get_front code w k p.0 p.1 ∙ sym p.1) ∙ h

pub word_within : (code : List Word) (k : ℕ) → IsTrue (has_immediate_at code k) → k < length code
word_within code k h =
    let p = there (slice_get code k) h in
    slice_get_within code k p.0 p.1

still_ready : (code : List Word) (w : Word) (word : Option ℕ) → IsReady code word
    → IsReady (code ++ w ∷ []) word
still_ready code w None h = tt
still_ready code w (Some k) h = still code w k h

behind_within : (low : ℕ) (code : List Word) (word : Option ℕ) → low ≤ length code → IsReady code word
    → behind low word ≤ length code
behind_within low code None le h = le
behind_within low code (Some k) le h =
    let lt = word_within code k h in
    omega (arith, lt)

-- one more word of code
pub ready_longer : (low : ℕ) (code : List Word) (w : Word) (references : List Reference)
    → AreReady low code references → AreReady low (code ++ w ∷ []) references
ready_longer low code w [] ready = tt
ready_longer low code w (r ∷ references) ready =
    (ready.0, still_ready code w r.word ready.1, ready_longer (behind low r.word) code w references ready.2)

-- one more word of code, which waits
ready_onto : (low : ℕ) (code : List Word) (w : Word) (references : List Reference) (r : Reference)
    → r.word ≡ Some (length code) → low ≤ length code
    → IsTrue (has_immediate_at (code ++ w ∷ []) (length code)) → AreReady low code references
    → AreReady low (code ++ w ∷ []) (references ++ r ∷ [])
ready_onto low code w [] r is le has ready =
    let P : Option ℕ → Type 0 = λ o. IsFrom low o × IsReady (code ++ w ∷ []) o in
    let p : P r.word = subst P (sym is) (le, has) in
    (p.0, p.1, tt)
ready_onto low code w (q ∷ references) r is le has ready = (
  ready.0,
  still_ready code w q.word ready.1,
  ready_onto (behind low q.word) code w references r is (behind_within low code q.word le ready.1) has
      ready.2,
)

-- one more reference, of a table
pub ready_table : (low : ℕ) (code : List Word) (references : List Reference) (r : Reference)
    → r.word ≡ None → AreReady low code references → AreReady low code (references ++ r ∷ [])
ready_table low code [] r is ready =
    let P : Option ℕ → Type 0 = λ o. IsFrom low o × IsReady code o in
    let p : P r.word = subst P (sym is) (tt, tt) in
    (p.0, p.1, tt)
ready_table low code (q ∷ references) r is ready =
    (ready.0, ready.1, ready_table (behind low q.word) code references r is ready.2)

-- an instruction that waits is ready
pub ready_instr : (code : List Word) (references : List Reference) (i : Instr) (r : Reference) → IsInstr i
    → has_immediate i ≡ true → r.word ≡ Some (length code)
    → AreReady 0 code references → AreReady 0 (code ++ Int (pos (number_of i)) ∷ []) (references ++ r ∷ [])
ready_instr code references i r fits has is ready =
    let w = Int (pos (number_of i)) in
    let there : has_immediate_at (code ++ w ∷ []) (length code) ≡ true =
    ap (λ o. some_immediate (instr_in o)) (get_pushed code w)
    ∙ ap some_immediate (decode_of-number_of i fits) ∙ has in
    ready_onto 0 code w references r is (omega arith) there ready
