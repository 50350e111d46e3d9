-- Words of two runs that have one name stand for each other.
use Rattle.std.proofs.Common.{◌≡◌, inl, inr, ℕ, ◌+◌, ◌*◌, pos, List, Option, Some, None, refl, subst}
use Rattle.std.proofs.Common.{eq-eqb}
use Rattle.std.specs.Prelude.{slice_get, slice_index_or}
use Rattle.cap_words.specs.declared.Word.TheVariants.{Int}
use Rattle.component_file.specs.declared.component.Import.{Import}
use Rattle.linked_starts.specs.Parts.{PartSeen}
use Rattle.linked_starts.specs.Standing.{placed}
use Rattle.linked_starts.specs.Start.{Exported, imported, code_half, data_half}
use Rattle.linked_starts.proofs.Offers.{imported_there, listed_at}
use Rattle.overlay_machine.specs.declared.words.OWord.{OWord}
use Rattle.overlay_machine.specs.declared.words.OWord.TheVariants.{Plain}
use Rattle.overlay_machine.specs.Link.{Link, IsUntrusted}
use Rattle.overlay_machine.specs.Safe.{IsOpenSeal}
use Rattle.overlay_machine.specs.Starting.{StartsBegin}
use Rattle.proc_program.specs.declared.program.Procedure.{Procedure}
use Rattle.proc_program.specs.declared.program.ProgramImport as program
use Rattle.proc_program.specs.declared.program.Program.{Program}
use Rattle.proc_semantics.specs.Values.{World, home_part, proc_in, import_in}
use Rattle.proc_semantics.specs.Rules as rules
use Rattle.proc_semantics.specs.Marked.{PairHalf, CodeHalf, DataHalf, Thing, Whence, OwnWord}
use Rattle.proc_semantics.specs.Marked.{ImportWord, CameWord}
use Rattle.source_laws.specs.Seen.{Back}
use Rattle.source_laws.specs.Words.{words_at, word_from}
use Rattle.source_starts.specs.Sources.{trusted_parts, LinkedSources, world_of}
use Rattle.source_starts.specs.Words.{slots_of, slot_in, imports_in, where_there, half_at}
use Rattle.source_starts.specs.Named.{by_name, exported_half}
use Rattle.source_starts.proofs.Offers.{import_words, own_words}
use Rattle.lockstep.specs.Related.{SameNames, Calls, SameWord, ours, code_halves, data_halves}
use Rattle.context_laws.specs.Sources.{SameImported}
use Rattle.same_meanings.specs.Observed.{Name, Exports, Came, Nothing, own_name, import_name, name_of}
use Rattle.same_meanings.specs.Observed.{CallNames}
use Rattle.context_laws.specs.Meanings.{GoByNames}
use Rattle.context_laws.proofs.History.{AllAlike, words_alike, word_alike}

abbrev pub zero_word : OWord
zero_word = Plain (Int (pos 0))

-- a word is what a name says
abbrev pub IsNamed : List PartSeen → List (Thing OWord Back) → Name → OWord → Type 0
IsNamed parts is Nothing w = w ≡ zero_word
IsNamed parts is (Exports part name x) w =
    (e : Exported) × (imported parts (by_name part name) ≡ Some e) × (w ≡ exported_half e x)
IsNamed parts is (Came k j) w = w ≡ slice_index_or (words_at is k) j zero_word

module _ (begin : StartsBegin) (a : LinkedSources) where
  open a use {modules}
  open a.linked.link use {parts, size, start as s}

  abbrev P : List PartSeen
  P = placed parts size

  abbrev W : World
  W = world_of a

  own_by : (i j : ℕ) (x : PairHalf) (is' : List (Thing OWord Back)) (o : Option Program) → home_part W i ≡ o
      → (q : Option Procedure) → proc_in o j ≡ q
      → IsNamed P is' (own_name (rules.name_in o) q x) (where_there modules P s q
      (slot_in modules P s (slice_get (trusted_parts P) i)
      (half_at modules P s (2 * (imports_in modules P s (slice_get modules i) + j)) x)))
  own_by i j x is' None e None f = refl
  own_by i j x is' None e (Some q) f = absurd cc
  own_by i j x is' (Some u) e None f = refl
  own_by i j x is' (Some u) e (Some q) f =
      let w = own_words begin a i j u e q f in (w.0, w.1, w.2 x)

  import_by : (i k : ℕ) (x : PairHalf) (is' : List (Thing OWord Back)) (o : Option Program) → home_part W i
      ≡ o
      → (q : Option program.ProgramImport) → import_in o k ≡ q
      → IsNamed P is' (import_name q x) (where_there modules P s q
      (slot_in modules P s (slice_get (trusted_parts P) i) (half_at modules P s (2 * k) x)))
  import_by i k x is' None e None f = refl
  import_by i k x is' None e (Some q) f = absurd cc
  import_by i k x is' (Some u) e None f = refl
  import_by i k x is' (Some u) e (Some q) f =
      let w = import_words begin a i k u e q f in (w.0, w.1, w.2 x)

  pub is_named : (is' : List (Thing OWord Back)) (w : Whence)
      → IsNamed P is' (name_of W w) (word_from (slots_of modules a.link) is' w)
  is_named is' (OwnWord i j x) = own_by i j x is' (home_part W i) refl (proc_in (home_part W i) j) refl
  is_named is' (ImportWord i k x) = import_by i k x is' (home_part W i) refl
      (import_in (home_part W i) k) refl
  is_named is' (CameWord k j) = refl

-- ---- of two links

open_part : (g : Link) (p : PartSeen) → IsUntrusted g p → IsOpenSeal g p.component.closure
open_part g p u = (p, u, rw (eq-eqb p.component.closure p.component.closure refl) refl)

module _ (g h : Link) (names : SameNames g h) {calls : CallNames} (by_names : GoByNames calls names)
    (cs : Calls) (is is' : List (Thing OWord Back)) (all : AllAlike g h names cs is is') where
  half_same : (x y : Exported) (k : Import) → imported g.parts k ≡ Some x → imported h.parts k ≡ Some y
      → (z : PairHalf) → SameWord g h names cs (exported_half x z) (exported_half y z)
  half_same x y k e f z = by z (by_names.exports k x y e f)
    where
      by : (z : PairHalf) → SameImported names (Some x) (Some y)
          → SameWord g h names cs (exported_half x z) (exported_half y z)
      by CodeHalf (inr t) = code_halves x y t
      by DataHalf (inr t) = data_halves x y t
      by CodeHalf (inl s) =
          let m = imported_there g.parts k x e in
          subst (λ v. SameWord g h names cs (Plain (code_half x)) (Plain (code_half v))) s.0
          (ours (code_half x) (open_part g x.part (listed_at g.parts m.index x.part m.at, s.1)))
      by DataHalf (inl s) =
          let m = imported_there g.parts k x e in
          subst (λ v. SameWord g h names cs (Plain (data_half x)) (Plain (data_half v))) s.0
          (ours (data_half x) (open_part g x.part (listed_at g.parts m.index x.part m.at, s.1)))

  pub named_same : (n : Name) (w v : OWord) → IsNamed g.parts is n w → IsNamed h.parts is' n v
      → SameWord g h names cs w v
  named_same Nothing w v e f = rw (e, f) (ours (Int (pos 0)) tt)
  named_same (Exports part name x) w v e f =
      rw (e.2, f.2) (half_same e.0 f.0 (by_name part name) e.1 f.1 x)
  named_same (Came k j) w v e f =
      rw (e, f)
      (word_alike g h names cs (words_at is k) (words_at is' k) j (words_alike g h names cs is is' k all))
