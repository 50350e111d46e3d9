-- Where the pieces of a procedure's code stand in a part.
use Rattle.call_sequence.specs.declared.TheConstants.{RETURN_WORDS, SITE_WORDS, ENTRY_WORDS}
use Rattle.std.proofs.Common.{◌≡◌, ℕ, ◌+◌, pos, ◌-ℤ◌, List, [], ◌∷◌, ◌++◌, length, true, subst, arith}
use Rattle.std.specs.Prelude.{map}
use Rattle.lcm_isa.specs.declared.Reg.TheVariants.{Pc, Rcode, Rdata, T2}
use Rattle.lcm_isa.specs.declared.Operand.TheVariants.{R as InReg, Imm}
use Rattle.lcm_isa.specs.declared.Instr.{Instr}
use Rattle.lcm_isa.specs.declared.Instr.TheVariants.{Move, Cca, Jmp, Jnz, Xjmp}
use Rattle.call_sequence.specs.Places.{begins_entry}
use Rattle.linked_starts.specs.Parts.{PartSeen}
use Rattle.trusted_border.specs.declared.layout.SiteCode.{SiteCode}
use Rattle.overlay_machine.specs.Link.{Link}
use Rattle.overlay_machine.specs.Linked.{IsLink}
use Rattle.run_lines.specs.Layout.{site_of}
use Rattle.proc_templates.specs.Items.{Item, does, guards, goes, goes_if, finishes, label, site, entry}
use Rattle.proc_templates.specs.Items.{leaves, zero_of, wiped, leading}
use Rattle.template_runs.proofs.Steps.{Placed, Code}
use Rattle.template_runs.proofs.Calls.{SiteHere}

-- how many words a piece has, and pieces
abbrev pub words_of : Item → ℕ
words_of (does i) = 1
words_of (guards is) = length is + 3
words_of (goes far) = 3
words_of (goes_if far r) = 3
words_of finishes = 3
words_of label = 0
words_of site = SITE_WORDS
words_of entry = ENTRY_WORDS
words_of leaves = RETURN_WORDS

abbrev pub words_in : List Item → ℕ
words_in [] = 0
words_in (x ∷ xs) = words_of x + words_in xs

pub words-append : (a b : List Item) → words_in (a ++ b) ≡ words_in a + words_in b
words-append [] b = omega arith
words-append (x ∷ a) b = let e = words-append a b in omega (arith, e)

module _ (g : Link) (linked : IsLink g) (p : PartSeen) (end : ℕ) where
  -- a site of a part, of this number among the part's
  pub record Called (k n : ℕ) : Type 0 where
    pub number : ℕ
    pub code : SiteCode
    pub here : SiteHere g linked p k number code
    pub index_is : (site_of g.layout number).index ≡ n

  abbrev pub guarded : ℕ → List Instr → List Instr
  guarded k is = Move T2 (InReg Pc) ∷ Cca T2 (Imm (pos 0 -ℤ pos k)) ∷ (is ++ (Move T2 (Imm (pos 0)) ∷ []))

  abbrev pub One : ℕ → Item → Type 0
  One k (does i) = Placed g linked p k i
  One k (guards is) = Code g linked p k (guarded k is)
  One k (goes far) = Code g linked p k (leading far (Jmp T2))
  One k (goes_if far r) = Code g linked p k (leading far (Jnz T2 r))
  One k finishes = Code g linked p k (leading (pos end -ℤ pos k) (Jmp T2))
  One k label = Unit {0}
  One k site = Unit {0}
  One k entry = begins_entry p.component k ≡ true
  One k leaves = Code g linked p k (zero_of T2 ∷ (map zero_of wiped ++ (Xjmp Rcode Rdata ∷ [])))

  -- pieces from an offset on, where the epilogue begins at the end
  abbrev pub Stand : ℕ → List Item → Type 0
  Stand k [] = Unit {0}
  Stand k (x ∷ xs) = One k x × Stand (k + words_of x) xs

  pub stand_front : (k : ℕ) (a b : List Item) → Stand k (a ++ b) → Stand k a
  stand_front k [] b h = tt
  stand_front k (x ∷ a) b h = (h.0, stand_front (k + words_of x) a b h.1)

  pub stand_back : (k : ℕ) (a b : List Item) → Stand k (a ++ b) → Stand (k + words_in a) b
  stand_back k [] b h = let z : k ≡ k + 0 = omega arith in subst (λ x. Stand x b) z h
  stand_back k (x ∷ a) b h = let z : k + words_of x + words_in a ≡ k + (words_of x + words_in a) =
      omega arith in subst (λ y. Stand y b) z (stand_back (k + words_of x) a b h.1)

  pub stand_at : (j k : ℕ) (a : List Item) → j ≡ k → Stand j a → Stand k a
  stand_at j k a e h = subst (λ x. Stand x a) e h
