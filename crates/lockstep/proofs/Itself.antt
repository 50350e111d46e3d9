-- Each state at which code outside runs is alike to itself.
use Rattle.std.proofs.Common.{◌≡◌, ◌⊎◌, inl, inr, ℕ, zero, suc, ◌<◌, List, [], ◌∷◌, length, Option, Some}
use Rattle.std.proofs.Common.{None, Bool, true, false, refl, sym, ap, ◌∙◌, subst, arith}
use Rattle.std.specs.Prelude.{slice_get, if◌then◌else◌, option_and_then}
use Rattle.std.specs.List.{Contains}
use Rattle.std.proofs.lemmas.Option.{slice_get_within}
use Rattle.std.proofs.lemmas.Bool.{cases_eq}
use Rattle.cap_words.specs.declared.Word.TheVariants.{Int, Mem, Seal, Sealed}
use Rattle.component_file.specs.declared.component.Export.{Export}
use Rattle.lcm_machine.specs.Places.{reg}
use Rattle.lcm_machine.specs.Cells.{cell}
use Rattle.lcm_machine.proofs.Offers.{contains_cases, contains_none}
use Rattle.linked_starts.specs.Parts.{PartSeen}
use Rattle.linked_starts.specs.Start.{Exported, code_half, data_half}
use Rattle.linked_starts.specs.declared.owners.Site.{Site}
use Rattle.trusted_border.specs.declared.layout.SiteCode.{SiteCode}
use Rattle.trusted_border.specs.Layout.{site_code, code_in}
use Rattle.overlay_machine.specs.declared.words.OWord.{OWord}
use Rattle.overlay_machine.specs.declared.words.OWord.TheVariants.{Plain, RetCode, RetData}
use Rattle.overlay_machine.specs.State.{OpenFrame, OState, frame_of, Cells}
use Rattle.overlay_machine.specs.Link.{Link}
use Rattle.overlay_machine.specs.Linked.{IsLink}
use Rattle.overlay_machine.specs.Safe.{IsSafe}
use Rattle.overlay_machine.specs.Invariant.{FramesLie, FrameFits}
use Rattle.overlay_machine.proofs.Offers.{contains_first, contains_rest, frame_of-cons, frame_none}
use Rattle.template_runs.specs.Public.{IsFreeAt}
use Rattle.lockstep.specs.Related.{StandsOutside, SameNames, Calls, AreCalls, IsExport, SameWord, ours}
use Rattle.lockstep.specs.Related.{code_halves, data_halves, ret_codes, ret_datas, CellPair, Newest}
use Rattle.lockstep.specs.Related.{Alike}
use Rattle.lockstep.specs.Lockstep.{AreBelow}
use Rattle.lockstep.specs.Itself.{AlikeToItself}
use Rattle.lockstep.proofs.Outer.{safe}

-- ---- lists of pairs

abbrev pairs : List Exported → List (Exported × Exported)
pairs [] = []
pairs (x ∷ xs) = (x, x) ∷ pairs xs

in_pairs : (xs : List Exported) (x : Exported) → Contains xs x → Contains (pairs xs) (x, x)
in_pairs [] x c = absurd (contains_none x c)
in_pairs (y ∷ xs) x c = elim (contains_cases y xs x c) as (λ _. Contains (pairs (y ∷ xs)) (x, x)) [
  | inl e ↦ subst (λ z. Contains ((y, y) ∷ pairs xs) (z, z)) e (contains_first (y, y) (pairs xs))
  | inr m ↦ contains_rest (y, y) (x, x) (pairs xs) (in_pairs xs x m)
]

of_pairs : (xs : List Exported) (x y : Exported) → Contains (pairs xs) (x, y) → (x ≡ y) × Contains xs x
of_pairs [] x y c = absurd (contains_none (x, y) c)
of_pairs (z ∷ xs) x y c = elim (contains_cases (z, z) (pairs xs) (x, y) c)
    as (λ _. (x ≡ y) × Contains (z ∷ xs) x) [
      | inl e ↦ (
          let e0 : z ≡ x = ap (λ p. p.0) e in
          let e1 : z ≡ y = ap (λ p. p.1) e in
          (sym e0 ∙ e1, subst (λ w. Contains (z ∷ xs) w) e0 (contains_first z xs)))
      | inr m ↦ (let k = of_pairs xs x y m in (k.0, contains_rest z x xs k.1))
    ]

abbrev numbers : ℕ → List (ℕ × ℕ)
numbers zero = []
numbers (suc n) = (n, n) ∷ numbers n

in_numbers : (n i : ℕ) → i < n → Contains (numbers n) (i, i)
in_numbers zero i lt = absurd (omega (arith, lt))
in_numbers (suc n) i lt = elim (cases_eq i n) as (λ _. Contains (numbers (suc n)) (i, i)) [
  | inl e ↦ subst (λ z. Contains ((n, n) ∷ numbers n) (z, z)) (sym e) (contains_first (n, n) (numbers n))
  | inr ne ↦ contains_rest (n, n) (i, i) (numbers n) (in_numbers n i (omega (arith, lt, ne)))
]

of_numbers : (n i j : ℕ) → Contains (numbers n) (i, j) → i ≡ j
of_numbers zero i j c = absurd (contains_none (i, j) c)
of_numbers (suc n) i j c = elim (contains_cases (n, n) (numbers n) (i, j) c) as (λ _. i ≡ j) [
  | inl e ↦ sym (ap (λ p. p.0) e) ∙ ap (λ p. p.1) e
  | inr m ↦ of_numbers n i j m
]

-- ---- all exports of trusted parts

abbrev with_all : PartSeen → List Export → List Exported → List Exported
with_all p [] xs = xs
with_all p (e ∷ es) xs = record { part = p; export = e } ∷ with_all p es xs

in_more : (p : PartSeen) (es : List Export) (xs : List Exported) (x : Exported) → Contains xs x
    → Contains (with_all p es xs) x
in_more p [] xs x c = c
in_more p (e ∷ es) xs x c = contains_rest _ x (with_all p es xs) (in_more p es xs x c)

in_these : (p : PartSeen) (es : List Export) (xs : List Exported) (e : Export) → Contains es e
    → Contains (with_all p es xs) (record { part = p; export = e })
in_these p [] xs e c = absurd (contains_none e c)
in_these p (f ∷ es) xs e c =
    elim (contains_cases f es e c)
    as (λ _. Contains (with_all p (f ∷ es) xs) (record { part = p; export = e })) [
      | inl s ↦ subst (λ z. Contains (with_all p (f ∷ es) xs) (record { part = p; export = z })) s
          (contains_first (record { part = p; export = f }) (with_all p es xs))
      | inr m ↦ contains_rest (record { part = p; export = f }) _ (with_all p es xs) (in_these p es xs e m)
    ]

of_these : (p : PartSeen) (es : List Export) (xs : List Exported) (x : Exported)
    → Contains (with_all p es xs) x → ((x.part ≡ p) × Contains es x.export) ⊎ Contains xs x
of_these p [] xs x c = inr c
of_these p (e ∷ es) xs x c =
    elim (contains_cases (record { part = p; export = e }) (with_all p es xs) x c)
    as (λ _. ((x.part ≡ p) × Contains (e ∷ es) x.export) ⊎ Contains xs x) [
      | inl s ↦ inl (
        sym (ap (λ y. y.part) s),
        subst (λ z. Contains (e ∷ es) z) (ap (λ y. y.export) s) (contains_first e es),
      )
      | inr m ↦ elim (of_these p es xs x m)
          as (λ _. ((x.part ≡ p) × Contains (e ∷ es) x.export) ⊎ Contains xs x) [
            | inl k ↦ inl (k.0, contains_rest e x.export es k.1)
            | inr k ↦ inr k
          ]
    ]

abbrev pub all_of : List PartSeen → List Exported
all_of [] = []
all_of (p ∷ ps) = if p.trusted then with_all p p.component.exports (all_of ps) else all_of ps

pub in_all : (ps : List PartSeen) (x : Exported) → Contains ps x.part → x.part.trusted ≡ true
    → Contains x.part.component.exports x.export → Contains (all_of ps) x
in_all [] x c t m = absurd (contains_none x.part c)
in_all (p ∷ ps) x c t m = elim (contains_cases p ps x.part c) as (λ _. Contains (all_of (p ∷ ps)) x) [
  | inl e ↦ subst
      (λ z. Contains (if z.trusted then with_all z z.component.exports (all_of ps) else all_of ps) x)
      (sym e) (picked x.part.trusted t (in_these x.part x.part.component.exports (all_of ps) x.export m))
  | inr k ↦ by p.trusted (in_all ps x k t m)
]
  where
    picked : (b : Bool) → b ≡ true → Contains (with_all x.part x.part.component.exports (all_of ps)) x
        → Contains (if b then with_all x.part x.part.component.exports (all_of ps) else all_of ps) x
    picked true e k = k
    picked false e k = cc

    by : (b : Bool) → Contains (all_of ps) x
        → Contains (if b then with_all p p.component.exports (all_of ps) else all_of ps) x
    by true k = in_more p p.component.exports (all_of ps) x k
    by false k = k

pub of_all : (ps : List PartSeen) (x : Exported) → Contains (all_of ps) x
    → (Contains ps x.part × (x.part.trusted ≡ true)) × Contains x.part.component.exports x.export
of_all [] x c = absurd (contains_none x c)
of_all (p ∷ ps) x c = by p.trusted refl c (of_all ps x)
  where
    later : ((Contains ps x.part × (x.part.trusted ≡ true)) × Contains x.part.component.exports x.export)
        → (Contains (p ∷ ps) x.part × (x.part.trusted ≡ true)) × Contains x.part.component.exports x.export
    later k = ((contains_rest p x.part ps k.0.0, k.0.1), k.1)

    by : (b : Bool) → p.trusted ≡ b
        → Contains (if b then with_all p p.component.exports (all_of ps) else all_of ps) x
        → (Contains (all_of ps) x
        → (Contains ps x.part × (x.part.trusted ≡ true)) × Contains x.part.component.exports x.export)
        → (Contains (p ∷ ps) x.part × (x.part.trusted ≡ true)) × Contains x.part.component.exports x.export
    by false t k more = later (more k)
    by true t k more = elim (of_these p p.component.exports (all_of ps) x k)
        as (λ _. (Contains (p ∷ ps) x.part × (x.part.trusted ≡ true))
        × Contains x.part.component.exports x.export) [
          | inl e ↦ (
            (
              subst (λ z. Contains (p ∷ ps) z) (sym e.0) (contains_first p ps),
              ap (λ z. z.trusted) e.0 ∙ t,
            ),
            subst (λ z. Contains z.component.exports x.export) (sym e.0) e.1,
          )
          | inr m ↦ later (more m)
        ]

-- ---- a link beside itself

module _ (g : Link) (linked : IsLink g) where
  abbrev itself : SameNames g g
  itself = record {
    twins = pairs (all_of g.parts);
    sites = numbers (length g.layout.sites);
    exports = λ x y c. (let k = of_pairs (all_of g.parts) x y c in let e = of_all g.parts x k.1 in (
      e,
      subst (IsExport g) k.0 e,
    ));
    one_part = λ x y u v c d. (
        let k = (of_pairs (all_of g.parts) x y c).0 in let m = (of_pairs (all_of g.parts) u v d).0 in (
          λ s. sym (ap (λ z. z.part) k) ∙ s ∙ ap (λ z. z.part) m,
          λ s. ap (λ z. z.part) k ∙ s ∙ sym (ap (λ z. z.part) m),
        ));
    one_site = λ i j k m c d. (
        let a = of_numbers (length g.layout.sites) i j c in let b = of_numbers (length g.layout.sites) k m d
        in
        (λ s. sym a ∙ s ∙ b, λ s. a ∙ s ∙ sym b));
    free = λ a in1 in2 x. x;
    seals = λ n. (λ x. x, λ x. x);
    stack = refl;
  }

  site_in : (i : ℕ) (s : SiteCode) → site_code g.layout i ≡ Some s
      → Contains (numbers (length g.layout.sites)) (i, i)
  unfolding site_code
  site_in i s e = by (slice_get g.layout.sites i) refl e
    where
      by : (x : Option Site) → slice_get g.layout.sites i ≡ x
          → option_and_then (code_in g.layout.owners) x ≡ Some s
          → Contains (numbers (length g.layout.sites)) (i, i)
      by None f h = cc
      by (Some w) f h = in_numbers (length g.layout.sites) i (slice_get_within g.layout.sites i w f)

  abbrev open_calls : List OpenFrame → Calls
  open_calls [] = []
  open_calls (f ∷ fs) = (f.call, f.call) ∷ open_calls fs

  in_open : (fs : List OpenFrame) (k : ℕ) (f : OpenFrame) → frame_of fs k ≡ Some f
      → AreCalls (open_calls fs) k k
  in_open [] k f e = absurd (frame_none k f e)
  in_open (x ∷ fs) k f e = elim (frame_of-cons x fs k f e) as (λ _. AreCalls (open_calls (x ∷ fs)) k k) [
    | inl h ↦ inl (sym h.0, sym h.0)
    | inr h ↦ inr (in_open fs k f h.1)
  ]

  of_open : (m : Cells) (n : ℕ) (fs : List OpenFrame) → FramesLie g.layout m n fs → (k j : ℕ)
      → AreCalls (open_calls fs) k j → (k ≡ j) × (k < n)
  of_open m n [] lie k j c = absurd c
  of_open m n (f ∷ fs) lie k j (inl e) = (
    e.0 ∙ sym e.1,
    (let e0 = e.0 in let lt = lie.1 in omega (arith, e0, lt)),
  )
  of_open m n (f ∷ fs) lie k j (inr c) = (
      let h = of_open m f.call fs lie.3 k j c
      in (h.0, (let h1 = h.1 in let lt = lie.1 in omega (arith, h1, lt)))
      )

  module _ (q : OState) (h : StandsOutside g q) where
    word : (w : OWord) → IsSafe g q.frames w → SameWord g g itself (open_calls q.frames) w w
    word (Plain (Int z)) s = ours (Int z) tt
    word (Plain (Mem z)) s = ours (Mem z) tt
    word (Plain (Seal z)) s = ours (Seal z) tt
    word (Plain (Sealed n x)) (inl s) = ours (Sealed n x) s.0
    word (Plain (Sealed n x)) (inr k) = by k.3
      where
        twin : Contains itself.twins (k.0, k.0)
        twin = in_pairs (all_of g.parts) k.0 (in_all g.parts k.0 k.1.0 k.1.1 k.2)

        by : (Sealed n x ≡ code_half k.0) ⊎ (Sealed n x ≡ data_half k.0)
            → SameWord g g itself (open_calls q.frames) (Plain (Sealed n x)) (Plain (Sealed n x))
        by (inl e) = subst (λ z. SameWord g g itself (open_calls q.frames) (Plain z) (Plain z)) (sym e)
            (code_halves k.0 k.0 twin)
        by (inr e) = subst (λ z. SameWord g g itself (open_calls q.frames) (Plain z) (Plain z)) (sym e)
            (data_halves k.0 k.0 twin)
    word (RetCode i) s = ret_codes i i (site_in i s.0 s.1)
    word (RetData k) s = ret_datas k k (in_open q.frames k s.0 s.1)

    cells : (a : ℕ) → IsFreeAt g a → (x : Option OWord) → cell q.maps.cells a ≡ x
        → CellPair (SameWord g g itself (open_calls q.frames)) (IsFreeAt g) x x
    cells a free None e = tt
    cells a free (Some w) e = word w (h.holds.cells a w free.0 e)

    newest : (fs : List OpenFrame) → ((f : OpenFrame) → Contains fs f → FrameFits g q.frames f)
        → Newest g g itself (open_calls fs) fs fs
    newest [] fit = tt
    newest (f ∷ fs) fit = (
      inl (refl, refl),
      (let k = fit f (contains_first f fs) in site_in f.site k.code k.code_is),
      refl,
    )

    same : (cs : Calls) × Alike g g itself cs q q × AreBelow cs q q
    same = (
      open_calls q.frames,
      record {
        seen = (λ r. word (reg q.maps.regs r) (safe g linked q h r), λ a free. cells a free _ refl);
        newest = newest q.frames h.holds.frames_fit;
      },
      record {
        first = λ k m c. (of_open q.maps.cells q.calls q.frames h.holds.frames k m c).1;
        second = λ k m c. (
            let o = of_open q.maps.cells q.calls q.frames h.holds.frames k m c in
            let o0 = o.0 in let o1 = o.1 in omega (arith, o0, o1));
        one = λ k m i j c d. (
            let a = (of_open q.maps.cells q.calls q.frames h.holds.frames k m c).0 in
            let b = (of_open q.maps.cells q.calls q.frames h.holds.frames i j d).0 in
            (λ s. sym a ∙ s ∙ b, λ s. a ∙ s ∙ sym b));
      },
    )

pub to_itself : AlikeToItself
to_itself g linked = (itself g linked, λ q h. same g linked q h)
