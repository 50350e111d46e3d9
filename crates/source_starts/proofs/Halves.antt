-- Pairs of sealed words of linked parts: what a call of them does.
use Rattle.std.proofs.Common.{◌≡◌, ℕ, pos, Bool, true, false, Option, Some, None, refl, sym, ap, ◌∙◌, subst}
use Rattle.std.proofs.Common.{eqb-true, eq-eqb}
use Rattle.std.specs.Prelude.{position, ◌==◌, is_some, if◌then◌else◌, find}
use Rattle.std.specs.List.{Contains}
use Rattle.cap_words.specs.declared.Word.TheVariants.{Mem, Sealed}
use Rattle.cap_words.specs.declared.Sealable.TheVariants.{Mem as MemIn}
use Rattle.cap_words.specs.declared.CapFields.{CapFields}
use Rattle.cap_words.specs.declared.Perm.TheVariants.{Rx, Rwx}
use Rattle.cap_words.specs.Faces.{may_run}
use Rattle.cap_words.specs.Linear.{lin_is}
use Rattle.cap_words.specs.Face.{face_of}
use Rattle.call_sequence.specs.Holds.{code_at, data_cap}
use Rattle.linked_starts.specs.declared.owners.Site.{Site}
use Rattle.linked_starts.specs.declared.owners.Owner.{Owner}
use Rattle.linked_starts.specs.Parts.{PartSeen}
use Rattle.linked_starts.specs.Start.{Exported, code_half, data_half, code_of, data_of}
use Rattle.trusted_border.specs.declared.layout.SiteCode.{SiteCode}
use Rattle.trusted_border.specs.Layout.{runs_part, site_code}
use Rattle.trusted_border.specs.Reaches.{site_of_seal}
use Rattle.overlay_machine.specs.declared.words.OWord.TheVariants.{Plain}
use Rattle.overlay_machine.specs.Link.{Link, IsTrusted, IsUntrusted, ranges_of}
use Rattle.overlay_machine.specs.Linked.{IsLink}
use Rattle.overlay_machine.specs.Safe.{IsOpenSeal}
use Rattle.overlay_machine.proofs.Offers.{found_at, numbered_is, crossing_code_is as code_is}
use Rattle.run_lines.specs.Layout.{is_trusted}
use Rattle.proc_semantics.specs.declared.value.Target.{Target}
use Rattle.source_laws.proofs.Offers.{Half, Sealing}

-- a sealed capability that isn't linear
pub half_of : (n : ℕ) (c : CapFields) → lin_is c.lin ≡ false → Half (Plain (Sealed n (MemIn c)))
half_of n c e = record { stays_whole = e; stays_face = e; no_number = refl; sealed = rw e refl }

module _ (g : Link) (linked : IsLink g) (Begins : Target → PartSeen → ℕ → Type 0) where
  open_closure : (p : PartSeen) → IsUntrusted g p → IsOpenSeal g p.component.closure
  open_closure p u = let t = eq-eqb p.component.closure p.component.closure refl in (p, u, rw t refl)

  -- a seal of untrusted code is no site's
  pub open_foreign : (n : ℕ) → IsOpenSeal g n → site_of_seal g.layout n ≡ None
  open_foreign n op = by (site_of_seal g.layout n) refl
    where
      by : (t : Option ℕ) → site_of_seal g.layout n ≡ t → t ≡ None
      by None h = refl
      by (Some j) h =
          let test = λ (s : Site). s.seal == n in
          let q = found_at test g.layout.sites j (numbered_is (position test g.layout.sites) j h) in
          let u = linked.listed j q.0 q.1 in
          let same : u.0.seal ≡ n = u.2 ∙ eqb-true (q.0).seal n q.2 in
          absurd (linked.return_closed j u.0 u.1 (subst (IsOpenSeal g) (sym same) op))

  -- a closure seal is no site's
  pub closure_foreign : (p : PartSeen) → Contains g.parts p → site_of_seal g.layout p.component.closure ≡ None
  closure_foreign p m = by (site_of_seal g.layout p.component.closure) refl
    where
      by : (t : Option ℕ) → site_of_seal g.layout p.component.closure ≡ t → t ≡ None
      by None h = refl
      by (Some j) h =
          let test = λ (s : Site). s.seal == p.component.closure in
          let q = found_at test g.layout.sites j (numbered_is (position test g.layout.sites) j h) in
          let u = linked.listed j q.0 q.1 in
          let same : u.0.seal ≡ p.component.closure = u.2 ∙ eqb-true (q.0).seal p.component.closure q.2 in
          absurd (by_mark p.trusted refl u.1 same)
        where
          by_mark : (b : Bool) → p.trusted ≡ b → {u : SiteCode} → site_code g.layout j ≡ Some u
              → u.seal ≡ p.component.closure → ⊥
          by_mark true t c e = linked.return_other j _ p c (m, t) (sym e)
          by_mark false t c e =
              linked.return_closed j _ c (subst (IsOpenSeal g) (sym e) (open_closure p (m, t)))

  -- the halves of a trusted part at an offset
  pub trusted_pair : (p : PartSeen) (k : ℕ) → IsTrusted g p
      → Sealing g linked Begins (code_at (ranges_of p) k)
      (MemIn (data_cap (ranges_of p) (pos p.component.data_base)))
      p.component.closure (Plain (Sealed p.component.closure (MemIn (code_at (ranges_of p) k))))
      (Plain (Sealed p.component.closure (MemIn (data_cap (ranges_of p) (pos p.component.data_base)))))
  trusted_pair p k ip = record {
    code = refl;
    half = refl;
    normal = refl;
    runs = refl;
    half_normal = refl;
    half_rests = refl;
    foreign = closure_foreign p ip.0;
  }

  pub trusted_code : (x : Exported) → x.part.trusted ≡ true
      → code_half x ≡ Sealed x.part.component.closure (MemIn (code_at (ranges_of x.part) x.export.offset))
  trusted_code x t = ap (λ c. Sealed x.part.component.closure (MemIn c)) (code_is x t)

  -- the halves of an untrusted export
  pub open_pair : (x : Exported) → IsUntrusted g x.part
      → Sealing g linked Begins (code_of x) (MemIn (data_of x.part)) x.part.component.closure
      (Plain (code_half x))
      (Plain (data_half x))
  open_pair x u = record {
    code = refl;
    half = refl;
    normal = refl;
    runs = runs x.part.trusted u.1;
    half_normal = refl;
    half_rests = refl;
    foreign = closure_foreign x.part u.0;
  }
    where
      runs : (b : Bool) → b ≡ false → may_run (if b then Rx else Rwx) ≡ true
      runs true e = refl
      runs false e = refl

  -- and a call of them leaves
  pub open_leaves : (x : Exported) → IsUntrusted g x.part
      → is_trusted g.layout (face_of (Mem (code_of x))) ≡ false
  open_leaves x u = by (find (runs_part (code_of x)) g.layout.owners) refl
    where
      by : (o : Option Owner) → find (runs_part (code_of x)) g.layout.owners ≡ o → is_some o ≡ false
      by None e = refl
      by (Some w) e =
          let h = linked.owners (code_of x) w e in
          let perm : (if x.part.trusted then Rx else Rwx) ≡ Rx = ap (λ (c : CapFields). c.perm) h.2 in
          let bad : Rwx ≡ Rx = ap (λ b. if b then Rx else Rwx) (sym u.1) ∙ perm in cc
