-- Exports and sites of two links that stand for each other by their names.
use Rattle.std.proofs.Common.{◌≡◌, ◌⊎◌, inl, inr, ℕ, zero, suc, ◌+◌, ◌<◌, List, [], ◌∷◌, length, Option, Some}
use Rattle.std.proofs.Common.{None, Bool, true, false, refl, sym, ap, ◌∙◌, subst, arith, eq-eqb, eqb-true}
use Rattle.std.specs.Prelude.{slice_get, find, option_map, option_and_then, if◌then◌else◌, ◌==◌, ◌&&◌}
use Rattle.std.specs.List.{Contains}
use Rattle.std.specs.Str.{bytes_eq}
use Rattle.std.proofs.lemmas.Bool.{and_parts, cases_eq}
use Rattle.std.proofs.lemmas.Option.{slice_get_within}
use Rattle.component_file.specs.declared.component.Import.{Import}
use Rattle.component_file.specs.declared.component.Export.{Export}
use Rattle.component_file.proofs.Offers.{inside}
use Rattle.linked_starts.specs.Parts.{PartSeen}
use Rattle.linked_starts.specs.Standing.{placed}
use Rattle.linked_starts.specs.Start.{Exported, exported_by, export_that, part_named, imported, same_name}
use Rattle.linked_starts.specs.declared.owners.Site.{Site}
use Rattle.linked_starts.proofs.Offers.{listed_at}
use Rattle.trusted_border.specs.declared.layout.Layout.{Layout}
use Rattle.trusted_border.specs.declared.layout.SiteCode.{SiteCode}
use Rattle.trusted_border.specs.Layout.{site_code, code_in}
use Rattle.overlay_machine.specs.Link.{Link, IsTrusted}
use Rattle.overlay_machine.specs.Linked.{IsLink}
use Rattle.overlay_machine.specs.Names.{NamesTold, SiteTold}
use Rattle.overlay_machine.specs.Safe.{IsOpenSeal}
use Rattle.lcm_machine.specs.declared.cells.Span.{Span}
use Rattle.overlay_machine.specs.Starting.{StartsBegin}
use Rattle.source_starts.specs.Links.{overlay_link}
use Rattle.source_starts.specs.Sources.{LinkedSources}
use Rattle.context_laws.proofs.Sources.{linked_is}
use Rattle.overlay_machine.proofs.Offers.{contains_first, contains_rest, index_of, found_is}
use Rattle.overlay_machine.proofs.Offers.{starts_tell_names}
use Rattle.lcm_machine.proofs.Offers.{contains_cases, contains_none}
use Rattle.run_lines.specs.Layout.{layout, part_name, site_of}
use Rattle.proc_program.specs.declared.program.Procedure.{Procedure}
use Rattle.proc_program.specs.Lower.{part_of}
use Rattle.source_starts.proofs.Offers.{aligned, home_of, NamesApart, names_apart, names_same, same_names}
use Rattle.source_starts.proofs.Offers.{same_part, imported_names, Names, one_offset, data_in, proc_of}
use Rattle.lockstep.specs.Related.{SameNames, IsExport}
use Rattle.same_meanings.specs.Observed.{CallNames, AreOneToOne}
use Rattle.context_laws.specs.Sources.{NamesOf, Beside, SameImported, ImportTheSame}
use Rattle.context_laws.specs.Meanings.{GoByNames, site_name, IsSameSite, told_name, export_name}
use Rattle.context_laws.proofs.Crossing.{pair_same}
use Rattle.context_laws.proofs.Around.{free_too}
use Rattle.lockstep.proofs.Offers.{all_of, in_all, of_all}
use Rattle.context_laws.proofs.Told.{entry}

-- ---- lists of pairs that pass a test

module _ {A B : Type 0} (test : A → B → Bool) where
  abbrev with_it : A → List B → List (A × B) → List (A × B)
  with_it x [] zs = zs
  with_it x (y ∷ ys) zs = if test x y then (x, y) ∷ with_it x ys zs else with_it x ys zs

  abbrev pub paired : List A → List B → List (A × B)
  paired [] ys = []
  paired (x ∷ xs) ys = with_it x ys (paired xs ys)

  more_in : (x : A) (ys : List B) (zs : List (A × B)) (z : A × B) → Contains zs z
      → Contains (with_it x ys zs) z
  more_in x [] zs z c = c
  more_in x (y ∷ ys) zs z c = by (test x y) (more_in x ys zs z c)
    where
      by : (b : Bool) → Contains (with_it x ys zs) z
          → Contains (if b then (x, y) ∷ with_it x ys zs else with_it x ys zs) z
      by true k = contains_rest (x, y) z (with_it x ys zs) k
      by false k = k

  in_with : (x : A) (ys : List B) (zs : List (A × B)) (y : B) → Contains ys y → test x y ≡ true
      → Contains (with_it x ys zs) (x, y)
  in_with x [] zs y c t = absurd (contains_none y c)
  in_with x (v ∷ ys) zs y c t =
      elim (contains_cases v ys y c) as (λ _. Contains (with_it x (v ∷ ys) zs) (x, y)) [
        | inl e ↦ subst
            (λ w. Contains (if test x w then (x, w) ∷ with_it x ys zs else with_it x ys zs) (x, y))
            (sym e) (first (test x y) t)
        | inr m ↦ by (test x v) (in_with x ys zs y m t)
      ]
    where
      first : (b : Bool) → b ≡ true
          → Contains (if b then (x, y) ∷ with_it x ys zs else with_it x ys zs) (x, y)
      first true e = contains_first (x, y) (with_it x ys zs)
      first false e = absurd cc

      by : (b : Bool) → Contains (with_it x ys zs) (x, y)
          → Contains (if b then (x, v) ∷ with_it x ys zs else with_it x ys zs) (x, y)
      by true k = contains_rest (x, v) (x, y) (with_it x ys zs) k
      by false k = k

  pub in_paired : (xs : List A) (ys : List B) (x : A) (y : B) → Contains xs x → Contains ys y
      → test x y ≡ true → Contains (paired xs ys) (x, y)
  in_paired [] ys x y c d t = absurd (contains_none x c)
  in_paired (u ∷ xs) ys x y c d t = elim (contains_cases u xs x c)
      as (λ _. Contains (paired (u ∷ xs) ys) (x, y)) [
        | inl e ↦ subst (λ z. Contains (with_it z ys (paired xs ys)) (x, y)) (sym e)
            (in_with x ys (paired xs ys) y d t)
        | inr m ↦ more_in u ys (paired xs ys) (x, y) (in_paired xs ys x y m d t)
      ]

  abbrev Is : List A → List B → A × B → Type 0
  Is xs ys z = Contains xs z.0 × Contains ys z.1 × (test z.0 z.1 ≡ true)

  of_with : (x : A) (ys : List B) (zs : List (A × B)) (z : A × B) → Contains (with_it x ys zs) z
      → ((z.0 ≡ x) × Contains ys z.1 × (test z.0 z.1 ≡ true)) ⊎ Contains zs z
  of_with x [] zs z c = inr c
  of_with x (y ∷ ys) zs z c = by (test x y) refl c (of_with x ys zs z)
    where
      Here : Type 0
      Here = ((z.0 ≡ x) × Contains (y ∷ ys) z.1 × (test z.0 z.1 ≡ true)) ⊎ Contains zs z

      later : ((z.0 ≡ x) × Contains ys z.1 × (test z.0 z.1 ≡ true)) ⊎ Contains zs z
          → ((z.0 ≡ x) × Contains (y ∷ ys) z.1 × (test z.0 z.1 ≡ true)) ⊎ Contains zs z
      later (inl k) = inl (k.0, contains_rest y z.1 ys k.1, k.2)
      later (inr k) = inr k

      by : (b : Bool) → test x y ≡ b → Contains (if b then (x, y) ∷ with_it x ys zs else with_it x ys zs) z
          → (Contains (with_it x ys zs) z
          → ((z.0 ≡ x) × Contains ys z.1 × (test z.0 z.1 ≡ true)) ⊎ Contains zs z)
          → ((z.0 ≡ x) × Contains (y ∷ ys) z.1 × (test z.0 z.1 ≡ true)) ⊎ Contains zs z
      by false t c more = later (more c)
      by true t c more = elim (contains_cases (x, y) (with_it x ys zs) z c)
          as (λ _. ((z.0 ≡ x) × Contains (y ∷ ys) z.1 × (test z.0 z.1 ≡ true)) ⊎ Contains zs z) [
            | inl e ↦ inl (
              sym (ap (λ w. w.0) e),
              subst (λ w. Contains (y ∷ ys) w) (ap (λ w. w.1) e) (contains_first y ys),
              subst (λ w. test w.0 w.1 ≡ true) e t,
            )
            | inr m ↦ later (more m)
          ]

  pub of_paired : (xs : List A) (ys : List B) (z : A × B) → Contains (paired xs ys) z → Is xs ys z
  of_paired [] ys z c = absurd (contains_none z c)
  of_paired (x ∷ xs) ys z c = elim (of_with x ys (paired xs ys) z c) as (λ _. Is (x ∷ xs) ys z) [
    | inl k ↦ (subst (λ w. Contains (x ∷ xs) w) (sym k.0) (contains_first x xs), k.1, k.2)
    | inr m ↦ (let k = of_paired xs ys z m in (contains_rest x z.0 xs k.0, k.1, k.2))
  ]

-- the numbers below one
abbrev below : ℕ → List ℕ
below zero = []
below (suc n) = n ∷ below n

in_below : (n i : ℕ) → i < n → Contains (below n) i
in_below zero i lt = absurd (omega (arith, lt))
in_below (suc n) i lt = elim (cases_eq i n) as (λ _. Contains (below (suc n)) i) [
  | inl e ↦ subst (λ z. Contains (n ∷ below n) z) (sym e) (contains_first n (below n))
  | inr ne ↦ contains_rest n i (below n) (in_below n i (omega (arith, lt, ne)))
]

of_below : (n i : ℕ) → Contains (below n) i → i < n
of_below zero i c = absurd (contains_none i c)
of_below (suc n) i c = elim (contains_cases n (below n) i c) as (λ _. i < suc n) [
  | inl e ↦ omega (arith, e)
  | inr m ↦ (let k = of_below n i m in omega (arith, k))
]

-- ---- one link of sources

module _ (begin : StartsBegin) (a : LinkedSources) where
  open a use {modules, are_sources as src}
  open a.linked use {is_start as is}
  open a.linked.link use {parts, size, start as s}

  abbrev K : Link
  K = overlay_link a.link

  linked : IsLink K
  linked = linked_is begin a.linked

  abbrev P : List PartSeen
  P = placed parts size

  told : NamesTold P (layout s)
  told = starts_tell_names P size s is

  apart_names : NamesApart P
  apart_names = names_apart P size is.rules

  pub one_name : (p q : PartSeen) → Contains P p → Contains P q → p.component.name ≡ q.component.name → p ≡ q
  one_name p q m n e =
      let i = index_of P p m in
      let j = index_of P q n in
      same_part P apart_names i.0 j.0 p q i.1 j.1 e

  -- lines call an export by its own name
  pub told_is : (x : Exported) → IsExport K x → told_name x ≡ x.export.name
  told_is x ix =
      let e = entry K linked told x ix in
      let f = found_is (λ (y : Export). y.offset == x.export.offset) x.part.component.exports e.export e.first
      in
      let beside = aligned parts size modules src.compiled in
      let i = index_of P x.part ix.0.0 in
      let h = home_of modules P beside i.0 x.part i.1 ix.0.1 in
      let a = proc_of modules P beside apart_names src.resolved h.0 x.part h.1 e.export f.0 in
      let b = proc_of modules P beside apart_names src.resolved h.0 x.part h.1 x.export ix.1 in
      let at : e.export.offset ≡ x.export.offset = eqb-true e.export.offset x.export.offset f.1 in
      let ps = (part_of h.1.source).procs in
      let one = one_offset ps 2 a.index b.index (slice_get_within ps a.index a.proc a.at)
      (slice_get_within ps b.index b.proc b.at) (sym a.offset ∙ at ∙ b.offset) in
      let same : Some a.proc ≡ Some b.proc = sym a.at ∙ ap (slice_get ps) one ∙ b.at in
      let proc : a.proc ≡ b.proc = cc in
      ap export_name e.first ∙ a.name ∙ ap (λ (q : Procedure). q.name) proc ∙ sym b.name

  -- a site by its name and number
  pub record SiteAt (i : ℕ) : Type 0 where
    pub code : SiteCode
    pub code_is : site_code (layout s) i ≡ Some code
    pub part : PartSeen
    pub trusted : IsTrusted K part
    pub index : ℕ
    pub seal_is : code.seal ≡ part.component.seals.base + index
    pub told_so : SiteTold P (layout s) i code part index

  pub site_there : (i : ℕ) (c : SiteCode) → site_code (layout s) i ≡ Some c → SiteAt i
  site_there i c e =
      let x = linked.sites i c e in
      record {
        code = c;
        code_is = e;
        part = x.0;
        trusted = x.2;
        index = x.1;
        seal_is = x.3.seal_is;
        told_so = told.numbers i x.1 c x.0 e x.2.0 x.2.1 x.3;
      }

  part_of_site : (i : ℕ) (a : SiteAt i)
      → part_name (layout s) (site_of (layout s) i).part ≡ a.part.component.name
  part_of_site i a = (told.named (site_of (layout s) i).part a.part a.told_so.part_is a.trusted.1).name

  -- sites of one name and number are one
  pub one_site : (i j : ℕ) → SiteAt i → SiteAt j
      → part_name (layout s) (site_of (layout s) i).part ≡ part_name (layout s) (site_of (layout s) j).part
      → (site_of (layout s) i).index ≡ (site_of (layout s) j).index → i ≡ j
  one_site i j a b n k =
      let p : a.part ≡ b.part =
      one_name a.part b.part a.trusted.0 b.trusted.0 (sym (part_of_site i a) ∙ n ∙ part_of_site j b) in
      let x : a.index ≡ b.index = sym a.told_so.index_is ∙ k ∙ b.told_so.index_is in
      let seals : a.code.seal ≡ b.code.seal =
      a.seal_is ∙ ap (λ (q : PartSeen). q.component.seals.base + a.index) p
      ∙ ap (λ z. b.part.component.seals.base + z) x ∙ sym b.seal_is in
      linked.one_seal i j a.code b.code a.code_is b.code_is seals

  pub site_listed : (i : ℕ) → i < length s.sites → SiteAt i
  site_listed i lt =
      let w = inside s.sites i lt in
      let u = linked.listed i w.0 w.1 in
      site_there i u.0 u.1

  pub site_below : (i : ℕ) (c : SiteCode) → site_code (layout s) i ≡ Some c → i < length s.sites
  unfolding site_code
  site_below i c e = by (slice_get s.sites i) refl e
    where
      by : (x : Option Site) → slice_get s.sites i ≡ x → option_and_then (code_in s.owners) x ≡ Some c
          → i < length s.sites
      by None f h = cc
      by (Some w) f h = slice_get_within s.sites i w f

  -- what a part imports is there
  pub import_there : (p : PartSeen) (i : Import) → Contains P p → Contains p.component.imports i
      → (x : Exported) × (imported P i ≡ Some x)
  import_there p i m c =
      let k = index_of P p m in
      let n = index_of p.component.imports i c in
      let h = (data_in P size s is k.0 p k.1).slots n.0 i n.1 in (h.names, h.names_is)

-- ---- two lists

found_export : (parts : List PartSeen) (i : Import) (x : Exported) → imported parts i ≡ Some x
    → export_that (λ e. same_name e.name i.name) x.part ≡ Some x
found_export parts i x e = by_part (part_named parts i.part) refl e
  where
    by_export : (p : PartSeen) (o : Option Export)
        → find (λ (e : Export). same_name e.name i.name) p.component.exports ≡ o
        → option_map (exported_by p) o ≡ Some x
        → export_that (λ e. same_name e.name i.name) x.part ≡ Some x
    by_export p None f e = cc
    by_export p (Some y) f e =
        let k : exported_by p y ≡ x = cc in
        subst (λ (z : Exported). export_that (λ e. same_name e.name i.name) z.part ≡ Some z) k
        (ap (option_map (exported_by p)) f)

    by_part : (o : Option PartSeen) → part_named parts i.part ≡ o
        → option_and_then (export_that (λ e. same_name e.name i.name)) o ≡ Some x
        → export_that (λ e. same_name e.name i.name) x.part ≡ Some x
    by_part None f e = cc
    by_part (Some p) f e = by_export p (find (λ (e : Export). same_name e.name i.name) p.component.exports)
        refl e

-- ---- the names

abbrev same_names_of : Exported → Exported → Bool
same_names_of x y =
    bytes_eq x.part.component.name y.part.component.name && bytes_eq x.export.name y.export.name

abbrev same_site : CallNames → Layout → Layout → ℕ → ℕ → Bool
same_site calls l m i j =
    bytes_eq (site_name calls.one l i).0 (site_name calls.other m j).0
    && ((site_name calls.one l i).1 == (site_name calls.other m j).1)

module _ (calls : CallNames) (apart : AreOneToOne calls) (begin : StartsBegin) (a b : LinkedSources)
    (beside : Beside a.link b.link) (stacks : a.start.stack ≡ b.start.stack) where
  open a.linked.link use {start as s}
  open b.linked.link use {start as s'}

  abbrev G : Link
  G = overlay_link a.link

  abbrev H : Link
  H = overlay_link b.link

  abbrev Twins : List (Exported × Exported)
  Twins = paired same_names_of (all_of G.parts) (all_of H.parts)

  abbrev Sites : List (ℕ × ℕ)
  Sites = paired (same_site calls (layout s) (layout s')) (below (length s.sites)) (below (length s'.sites))

  twin_is : (x y : Exported) → Contains Twins (x, y) → IsExport G x × IsExport H y
      × (x.part.component.name ≡ y.part.component.name) × (x.export.name ≡ y.export.name)
  twin_is x y c =
      let k = of_paired same_names_of (all_of G.parts) (all_of H.parts) (x, y) c in
      let t = and_parts _ _ k.2 in (
        of_all G.parts x k.0,
        of_all H.parts y k.1,
        same_names _ _ t.0,
        same_names _ _ t.1,
      )

  in_twins : (x y : Exported) → IsExport G x → IsExport H y → x.part.component.name ≡ y.part.component.name
      → x.export.name ≡ y.export.name → Contains Twins (x, y)
  in_twins x y ix iy en ee =
      in_paired same_names_of (all_of G.parts) (all_of H.parts) x y (in_all G.parts x ix.0.0 ix.0.1 ix.1)
      (in_all H.parts y iy.0.0 iy.0.1 iy.1)
      (rw (en, ee, names_same y.part.component.name, names_same y.export.name) refl)

  sites_are : (i j : ℕ) → Contains Sites (i, j) → (i < length s.sites) × (j < length s'.sites)
      × IsSameSite calls (layout s) (layout s') i j
  sites_are i j c =
      let k = of_paired (same_site calls (layout s) (layout s')) (below (length s.sites))
      (below (length s'.sites))
      (i, j) c in
      let t = and_parts _ _ k.2 in (
        of_below (length s.sites) i k.0,
        of_below (length s'.sites) j k.1,
        pair_same (site_name calls.one (layout s) i) (site_name calls.other (layout s') j)
            (same_names _ _ t.0)
            (eqb-true _ _ t.1),
      )

  at_g : (i : ℕ) → i < length s.sites → SiteAt begin a i
  at_g i lt = site_listed begin a i lt

  at_h : (j : ℕ) → j < length s'.sites → SiteAt begin b j
  at_h j lt = site_listed begin b j lt

  open_too : (n : ℕ) → IsOpenSeal G n → IsOpenSeal H n
  open_too n k = (k.0, (beside.same_parts k.0).0 k.1, k.2)

  open_back : (n : ℕ) → IsOpenSeal H n → IsOpenSeal G n
  open_back n k = (k.0, (beside.same_parts k.0).1 k.1, k.2)

  pub by_name : SameNames G H
  by_name = record {
    twins = Twins;
    sites = Sites;
    exports = λ x y c. (let t = twin_is x y c in (t.0, t.1));
    one_part = λ x y u v c d. (
        let t = twin_is x y c in
        let w = twin_is u v d in (
          λ e. one_name begin b y.part v.part t.1.0.0 w.1.0.0
              (sym t.2 ∙ ap (λ (p : PartSeen). p.component.name) e ∙ w.2),
          λ e. one_name begin a x.part u.part t.0.0.0 w.0.0.0
              (t.2 ∙ ap (λ (p : PartSeen). p.component.name) e ∙ sym w.2),
        ));
    one_site = λ i j k m c d. (
        let y = sites_are i j c in
        let z = sites_are k m d in (
          λ e. (let x = apart.1 _ _ _ _ (sym y.2 ∙ ap (site_name calls.one (layout s)) e ∙ z.2) in
              one_site begin b j m (at_h j y.1) (at_h m z.1) x.0 x.1),
          λ e. (let x = apart.0 _ _ _ _ (y.2 ∙ ap (site_name calls.other (layout s')) e ∙ sym z.2) in
              one_site begin a i k (at_g i y.0) (at_g k z.0) x.0 x.1),
        ));
    free = λ x r t.
        free_too G H (linked_is begin a.linked) (linked_is begin b.linked) beside.same_parts stacks x r;
    seals = λ n. (open_too n, open_back n);
    stack = ap (λ (t : Span). t.base) stacks;
  }

  -- what one name names in both
  same_imported : (i : Import) (x y : Exported) → imported G.parts i ≡ Some x → imported H.parts i ≡ Some y
      → SameImported by_name (Some x) (Some y)
  unfolding by_name
  same_imported i x y e f = by x.part.trusted y.part.trusted refl refl
    where
      nx : Names G.parts i x
      nx = imported_names G.parts i x e

      ny : Names H.parts i y
      ny = imported_names H.parts i y f

      parts_same : x.part.component.name ≡ y.part.component.name
      parts_same = nx.part ∙ sym ny.part

      mx : Contains G.parts x.part
      mx = listed_at G.parts nx.there.index x.part nx.there.at

      my : Contains H.parts y.part
      my = listed_at H.parts ny.there.index y.part ny.there.at

      one : x.part ≡ y.part → x ≡ y
      one p =
          let k : Some x ≡ Some y = sym (found_export G.parts i x e)
          ∙ ap (export_that (λ (e : Export). same_name e.name i.name)) p ∙ found_export H.parts i y f in
          cc

      by : (b c : Bool) → x.part.trusted ≡ b → y.part.trusted ≡ c → SameImported by_name (Some x) (Some y)
      by true true t u = inr (in_twins x y ((mx, t), nx.there.listed) ((my, u), ny.there.listed) parts_same
          (nx.name ∙ sym ny.name))
      by false c t u =
          inl (
            one (one_name begin b x.part y.part ((beside.same_parts x.part).0 (mx, t)).0 my parts_same),
            t,
          )
      by true false t u =
          let k = one_name begin a x.part y.part mx ((beside.same_parts y.part).1 (my, u)).0 parts_same in
          absurd (let bad : true ≡ false = sym t ∙ ap (λ (z : PartSeen). z.trusted) k ∙ u in cc)

  go_by_names : GoByNames calls by_name
  unfolding by_name
  go_by_names = record {
    exports = same_imported;
    twins = λ x y c. (
        let t = twin_is x y c in (
          t.2,
          told_is begin a x t.0 ∙ t.3 ∙ sym (told_is begin b y t.1),
        ));
    sites = λ i j c. (sites_are i j c).2;
    all_sites = λ i j u v e f k.
        in_paired (same_site calls (layout s) (layout s')) (below (length s.sites)) (below (length s'.sites))
        i j
        (in_below (length s.sites) i (site_below begin a i u e))
        (in_below (length s'.sites) j (site_below begin b j v f))
        (rw (
          k,
          names_same (site_name calls.other (layout s') j).0,
          eq-eqb (site_name calls.other (layout s') j).1 (site_name calls.other (layout s') j).1 refl,
        ) refl);
  }

  pub beside_by_names : (names : SameNames G H) × GoByNames calls names
  beside_by_names = (by_name, go_by_names)

-- where exports stand for each other by their names, so do those that untrusted parts import
pub import_by_names : {calls : CallNames} → StartsBegin → (a b : LinkedSources) → Beside a.link b.link
    → (names : NamesOf a.link b.link) → GoByNames calls names → ImportTheSame names
import_by_names begin a b beside names by_names p i u m =
    let x = import_there begin a p i u.0 m in
    let y = import_there begin b p i ((beside.same_parts p).0 u).0 m in
    rw (x.1, y.1) (by_names.exports i x.0 y.0 x.1 y.1)
