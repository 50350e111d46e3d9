-- Words within an authority make words within it.
use Rattle.std.proofs.Common.{◌≡◌, inl, inr, ℕ, ◌+◌, ℤ, pos, Bool, true, refl, sym, ap, subst, ◌∙◌, arith}
use Rattle.std.specs.Prelude.{Some, ◌==◌}
use Rattle.std.proofs.lemmas.Bool.{and_parts, cases_lt, eqb-true}
use Rattle.cap_words.specs.declared.Word.{Word}
use Rattle.cap_words.specs.declared.Word.TheVariants.{Int, Mem, Seal, Sealed}
use Rattle.cap_words.specs.declared.Sealable.TheVariants.{Mem as MemIn, Seal as SealIn}
use Rattle.cap_words.specs.declared.CapFields.{CapFields}
use Rattle.cap_words.specs.declared.SealFields.{SealFields}
use Rattle.cap_words.specs.declared.Opened.{Opened}
use Rattle.cap_words.specs.declared.Content.{Content}
use Rattle.cap_words.specs.declared.Content.TheVariants.{Mem as MemC, Seal as SealC}
use Rattle.cap_words.specs.declared.Perm.{Perm}
use Rattle.cap_words.specs.declared.Perm.TheVariants.{No, R as ReadOnly, Rw, Rx, Rwx}
use Rattle.cap_words.specs.Face.{opened_of}
use Rattle.cap_words.specs.Faces.{may_read, may_run, may_write, is_below, can_split, address}
use Rattle.cap_words.specs.Faces.{same_kind, perm_number, perm_at}
use Rattle.lcm_machine.specs.Closed.{Closed}
use Rattle.lcm_machine.specs.Table.{unsealed, memory_content}
use Rattle.lcm_machine.proofs.Offers.{split_bounds, below_runs}
use Rattle.authority_report.specs.Within.{Authority, Spans, CapWithin, SealsWithin, IsWithin}

-- ---- permissions

below_reads : (p q : Perm) → is_below p q ≡ true → may_read p ≡ true → may_read q ≡ true
below_reads No q h e = cc
below_reads ReadOnly q h e = h
below_reads Rw q h e = writes_read q h
  where
    writes_read : (q : Perm) → may_write q ≡ true → may_read q ≡ true
    writes_read No e = cc
    writes_read ReadOnly e = refl
    writes_read Rw e = refl
    writes_read Rx e = refl
    writes_read Rwx e = refl
below_reads Rx q h e = runs_read q h
  where
    runs_read : (q : Perm) → may_run q ≡ true → may_read q ≡ true
    runs_read No e = cc
    runs_read ReadOnly e = refl
    runs_read Rw e = refl
    runs_read Rx e = refl
    runs_read Rwx e = refl
below_reads Rwx No h e = cc
below_reads Rwx ReadOnly h e = refl
below_reads Rwx Rw h e = refl
below_reads Rwx Rx h e = refl
below_reads Rwx Rwx h e = refl

below_writes : (p q : Perm) → is_below p q ≡ true → may_write p ≡ true → may_write q ≡ true
below_writes No q h e = cc
below_writes ReadOnly q h e = cc
below_writes Rw q h e = h
below_writes Rx q h e = cc
below_writes Rwx q h e = (and_parts (may_write q) (may_run q) h).0

numbered : (p : Perm) → perm_at (pos (perm_number p)) ≡ Some p
numbered No = refl
numbered ReadOnly = refl
numbered Rw = refl
numbered Rx = refl
numbered Rwx = refl

same_perm : (a b : CapFields) → same_kind a b ≡ true → b.perm ≡ a.perm
same_perm a b e =
    let n = eqb-true (perm_number a.perm) (perm_number b.perm)
    (and_parts (perm_number a.perm == perm_number b.perm) _ e).0 in
    let k : Some a.perm ≡ Some b.perm = sym (numbered a.perm) ∙ ap (λ m. perm_at (pos m)) n
    ∙ numbered b.perm in
    cc

-- ---- ranges

module _ (g : Authority) where
  pub mem_within : (w : Word) (c : CapFields) → w ≡ Mem c → IsWithin g w → CapWithin g c
  mem_within w c e h = subst (IsWithin g) e h

  pub seals_within : (w : Word) (q : SealFields) → w ≡ Seal q → IsWithin g w → SealsWithin g q
  seals_within w q e h = subst (IsWithin g) e h

  -- one right, for any of the three
  module _ (may : Perm → Bool) (flag : ℕ → Bool) where
    low_part : (c : CapFields) (z : ℤ) → can_split c z ≡ true → Spans may flag c
        → Spans may flag (record c { end = address z })
    low_part c z b h m a l u = let k = split_bounds c z b in let y = k.1 in h m a l (omega (arith, u, y))

    high_part : (c : CapFields) (z : ℤ) → can_split c z ≡ true → Spans may flag c
        → Spans may flag (record c { base = address z + 1 })
    high_part c z b h m a l u = let k = split_bounds c z b in let y = k.0 in h m a (omega (arith, l, y)) u

    join : (a b : CapFields) → b.perm ≡ a.perm → a.end + 1 ≡ b.base → Spans may flag a → Spans may flag b
        → Spans may flag (record b { base = a.base })
    join a b p e h k m x l u = elim (cases_lt x b.base) as (λ _. flag x ≡ true) [
      | inl lt ↦ h (subst (λ q. may q ≡ true) p m) x l (omega (arith, lt, e))
      | inr ge ↦ k m x ge u
    ]

  less : (c : CapFields) (p : Perm) → is_below p c.perm ≡ true → CapWithin g c
      → CapWithin g (record c { perm = p })
  less c p b h = record {
    read = λ m. h.read (below_reads p c.perm b m);
    write = λ m. h.write (below_writes p c.perm b m);
    run = λ m. h.run (below_runs p c.perm b m);
  }

  pub within_closed : Closed (λ w. w) (λ w. w) (IsWithin g)
  within_closed = record {
    ints = λ z. tt;
    moved = λ w c z e h. let k = mem_within w c e h in record { read = k.read; write = k.write; run = k.run };
    lessened = λ w c p e b h. less c p b (mem_within w c e h);
    turned = λ w c z e h. seals_within w c e h;
    cut_low = λ w c z e b h. let k = mem_within w c e h in record {
      read = low_part may_read g.read c z b k.read;
      write = low_part may_write g.write c z b k.write;
      run = low_part may_run g.run c z b k.run;
    };
    cut_high = λ w c z e b h. let k = mem_within w c e h in record {
      read = high_part may_read g.read c z b k.read;
      write = high_part may_write g.write c z b k.write;
      run = high_part may_run g.run c z b k.run;
    };
    joined = λ u v a b eu ev s j hu hv. let h = mem_within u a eu hu in let k = mem_within v b ev hv in
        let p = same_perm a b s in record {
          read = join may_read g.read a b p j h.read k.read;
          write = join may_write g.write a b p j h.write k.write;
          run = join may_run g.run a b p j h.run k.run;
        };
    sealed_memory = λ u v c q eu ev b hu hv own. mem_within u c eu hu;
    sealed_seals = λ u v c q eu ev b hu hv own. seals_within u c eu hu;
  }

  -- what is under an own seal is within too
  pub opened_within : (w : Word) (o : Opened) → opened_of w ≡ Some o → IsWithin g w → g.own o.seal ≡ true
      → IsWithin g (unsealed o.content)
  opened_within (Int n) o e h own = cc
  opened_within (Mem c) o e h own = cc
  opened_within (Seal q) o e h own = cc
  opened_within (Sealed n (MemIn c)) o e h own =
      let same : record { seal = n; content = MemC c } ≡ o = cc in
      subst (λ (x : Opened). IsWithin g (unsealed x.content)) same
      (h (ap (λ (x : Opened). g.own x.seal) same ∙ own))
  opened_within (Sealed n (SealIn q)) o e h own =
      let same : record { seal = n; content = SealC q } ≡ o = cc in
      subst (λ (x : Opened). IsWithin g (unsealed x.content)) same
      (h (ap (λ (x : Opened). g.own x.seal) same ∙ own))

  pub content_within : (x : Content) (c : CapFields) → memory_content x ≡ Some c → IsWithin g (unsealed x)
      → IsWithin g (Mem c)
  content_within (MemC b) c e h = let same : b ≡ c = cc in subst (CapWithin g) same h
  content_within (SealC q) c e h = cc
