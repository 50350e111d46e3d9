-- Where the layout finds sites, by their words and by their seals; and whose closure seals there are.
use Rattle.std.proofs.Common.{◌≡◌, inl, inr, ℕ, zero, suc, ◌+◌, ◌-◌, ◌<◌, ◌≤◌, pos, Bool, true, false, List}
use Rattle.std.proofs.Common.{[], ◌∷◌, length, Option, Some, None, refl, sym, ap, ◌∙◌, arith, subst, leb-true}
use Rattle.std.proofs.Common.{le-leb, lt-ltb, eq-eqb, get_or}
use Rattle.std.specs.Prelude.{if◌then◌else◌, ◌==◌, ◌^◌, ◌&&◌, nat_le, nat_lt, slice_get, is_some, find}
use Rattle.std.specs.Prelude.{position, option_and_then}
use Rattle.std.specs.List.{position_or_len}
use Rattle.std.proofs.lemmas.Bool.{cases_lt, eqb-true, ltb-true, and_parts}
use Rattle.std.proofs.lemmas.List.Sums.{fails_before_first}
use Rattle.std.proofs.lemmas.Grind.{common_steps}
use Rattle.std.proofs.lemmas.Option.{get_or_from_slice_get, slice_get_within, same_Some}
use Rattle.cap_words.specs.declared.Word.{Word}
use Rattle.cap_words.specs.declared.Opened.{Opened}
use Rattle.cap_words.specs.Face.{opened_of}
use Rattle.cap_words.specs.declared.Face.TheVariants.{Memory}
use Rattle.lcm_machine.specs.Runs.{code_cap}
use Rattle.component_file.specs.Limits.{Chain, SiteFits}
use Rattle.linked_starts.specs.declared.owners.Site.{Site}
use Rattle.linked_starts.specs.declared.owners.Owner.{Owner}
use Rattle.linked_starts.specs.Parts.{PartSeen}
use Rattle.trusted_border.specs.declared.layout.SiteCode.{SiteCode}
use Rattle.trusted_border.specs.Layout.{numbered, number_of, site_at, site_code, code_in, with_code, is_code}
use Rattle.trusted_border.specs.Reaches.{site_of_seal, closure_owner}
use Rattle.overlay_machine.specs.Agree.{IsForeign}
use Rattle.overlay_machine.specs.Events.{site_opened}
use Rattle.overlay_machine.specs.Link.{Link, IsTrusted, ranges_of}
use Rattle.overlay_machine.specs.Linked.{any_pc, SiteOf, IsLink}
use Rattle.overlay_machine.proofs.Offers.{found_is, position_is, site_of}
use Rattle.run_lines.specs.Layout.{site_before, is_trusted}

-- ---- lists

numbered_is : (o : Option ℕ) (j : ℕ) → option_and_then numbered o ≡ Some j → (o ≡ Some j) × (j < 2 ^ 32)
numbered_is None j e = cc
numbered_is (Some i) j e = by_test (nat_lt i (2 ^ 32)) refl e
  where
    by_test : (b : Bool) → nat_lt i (2 ^ 32) ≡ b → (if b then Some i else None) ≡ Some j
        → (Some i ≡ Some j) × (j < 2 ^ 32)
    by_test true t e = (e, (let k : i ≡ j = cc in subst (λ n. n < 2 ^ 32) k (ltb-true i (2 ^ 32) t)))
    by_test false t e = cc

-- where one is found at i, the first is at i or before it
first_at : {X : Type 0} (p : X → Bool) (xs : List X) (i : ℕ) (x : X) → slice_get xs i ≡ Some x → p x ≡ true
    → (j : ℕ) × (position p xs ≡ Some j) × (j ≤ i)
first_at p xs i x e h =
    let lt : i < length xs = slice_get_within xs i x e in
    let here : get_or xs i x ≡ x = get_or_from_slice_get xs i x x e in
    elim (cases_lt i (position_or_len p xs)) as (λ _. (j : ℕ) × (position p xs ≡ Some j) × (j ≤ i)) [
      | inl before ↦
          (let bad : true ≡ false = sym h ∙ ap p (sym here) ∙ fails_before_first p xs i x before in cc)
      | inr le ↦ (
        position_or_len p xs,
        (let z : position_or_len p xs < length xs = omega (arith, le, lt) in grind (arith, common_steps)),
        le,
      )
    ]

number_at : {X : Type 0} (p : X → Bool) (xs : List X) (i : ℕ) (x : X) → slice_get xs i ≡ Some x → p x ≡ true
    → i < 2 ^ 32 → (j : ℕ) × (number_of p xs ≡ Some j)
number_at p xs i x e h small =
    let f = first_at p xs i x e h in
    let le = f.2 in
    (f.0, ap (option_and_then numbered) f.1 ∙ rw (lt-ltb f.0 (2 ^ 32) (omega (arith, le, small))) refl)

above : (b : ℕ) (xs : List ℕ) → Chain SiteFits (Some b) xs → (j x : ℕ) → slice_get xs j ≡ Some x → b < x
above b [] h j x e = absurd cc
above b (y ∷ ys) h zero x e = let k = same_Some y x e in let lt = ltb-true b y h.0.1 in omega (arith, k, lt)
above b (y ∷ ys) h (suc j) x e = let lt = ltb-true b y h.0.1 in let up =
    above y ys h.1 j x e in omega (arith, lt, up)

-- sites ascend, so no two have one offset
distinct : (b : Option ℕ) (xs : List ℕ) → Chain SiteFits b xs → (i j o : ℕ) → slice_get xs i ≡ Some o
    → slice_get xs j ≡ Some o → i ≡ j
distinct b [] h i j o ei ej = absurd cc
distinct b (x ∷ xs) h zero zero o ei ej = refl
distinct b (x ∷ xs) h zero (suc j) o ei ej =
    absurd (let up = above x xs h.1 j o ej in let k = same_Some x o ei in omega (arith, up, k))
distinct b (x ∷ xs) h (suc i) zero o ei ej =
    absurd (let up = above x xs h.1 i o ei in let k = same_Some x o ej in omega (arith, up, k))
distinct b (x ∷ xs) h (suc i) (suc j) o ei ej = let e =
    distinct (Some x) xs h.1 i j o ei ej in omega (arith, e)

-- the code of a site has its seal and its address
code_of_site : (os : List Owner) (x : Site) (s : SiteCode) → code_in os x ≡ Some s
    → (x.seal ≡ s.seal) × (x.at ≡ s.at)
code_of_site os x s e = by_owner (find (λ o. o.part == x.part) os) e
  where
    by_test : (o : Owner) (b : Bool)
        → (if b then Some (record { seal = x.seal; base = o.code.base; end = o.code.end; at = x.at })
        else None) ≡ Some s
        → (x.seal ≡ s.seal) × (x.at ≡ s.at)
    by_test o true h =
        let k : record { seal = x.seal; base = o.code.base; end = o.code.end; at = x.at } ≡ s = cc in
        (ap (λ (y : SiteCode). y.seal) k, ap (λ (y : SiteCode). y.at) k)
    by_test o false h = cc

    by_owner : (r : Option Owner) → option_and_then (with_code x) r ≡ Some s → (x.seal ≡ s.seal)
        × (x.at ≡ s.at)
    by_owner None h = cc
    by_owner (Some o) h = by_test o (is_code o.code) h

module _ (g : Link) (linked : IsLink g) where
  -- ---- by words

  pub word_is : (i off a : ℕ) → site_before g.layout off a ≡ Some i
      → (s : SiteCode) × (site_code g.layout i ≡ Some s) × (a ≡ s.at + off)
  word_is i off a e = by_test (nat_le off a) refl e
    where
      by_test : (b : Bool) → nat_le off a ≡ b → (if b then site_at g.layout (a - off) else None) ≡ Some i
          → (s : SiteCode) × (site_code g.layout i ≡ Some s) × (a ≡ s.at + off)
      by_test true t e =
          (let f = linked.site_found i (a - off) e in let le = leb-true off a t in let at =
          f.2 in (f.0, f.1, omega (arith, le, at)))
      by_test false t e = cc

  -- the sites of a part ascend
  one_index : (c : PartSeen) (i j o : ℕ) → IsTrusted g c → slice_get c.component.sites i ≡ Some o
      → slice_get c.component.sites j ≡ Some o → i ≡ j
  one_index c i j o ip ei ej =
      distinct None c.component.sites (linked.parts c ip.0).limits.sites.1 i j o ei ej

  same_site : (c : PartSeen) (n k : ℕ) (s u : SiteCode) → IsTrusted g c → (a : SiteOf c n s)
      → (b : SiteOf c k u) → b.offset ≡ a.offset → s.seal ≡ u.seal
  same_site c n k s u ip a b e =
      let i = one_index c n k a.offset ip a.offset_is (b.offset_is ∙ ap Some e) in
      let x = a.seal_is in let y = b.seal_is in omega (arith, i, x, y)

  pub site_is_at : (i : ℕ) (s : SiteCode) → site_code g.layout i ≡ Some s → site_at g.layout s.at ≡ Some i
  site_is_at i s e = by_found (site_at g.layout s.at) refl
    where
      f : (p : PartSeen) × (index : ℕ) × IsTrusted g p × SiteOf p index s
      f = linked.sites i s e

      lt : (f.3).offset < length (f.0).component.code
      lt = let ins = (f.3).inside in omega (arith, ins)

      by_found : (r : Option ℕ) → site_at g.layout s.at ≡ r → r ≡ Some i
      by_found None h =
          (let bad : true ≡ false = sym (f.3).site
          ∙ linked.no_site f.0 (f.3).offset f.2 lt (ap (site_at g.layout) (sym (f.3).at_is) ∙ h) in cc)
      by_found (Some j) h = (
          let k = site_of g linked f.0 (f.3).offset j f.2 lt (ap (site_at g.layout) (sym (f.3).at_is) ∙ h) in
          ap Some (linked.one_seal j i k.0 s k.1 e (sym (same_site f.0 f.1 k.2 s k.0 f.2 f.3 k.3 k.4))))

  pub site_there : (i off : ℕ) (s : SiteCode) → site_code g.layout i ≡ Some s
      → site_before g.layout off (s.at + off) ≡ Some i
  site_there i off s e =
      let z : s.at + off - off ≡ s.at = omega arith in
      rw (le-leb off (s.at + off) (omega arith)) (ap (site_at g.layout) z ∙ site_is_at i s e)

  -- ---- by seals

  pub seal_site : (i n : ℕ) → site_of_seal g.layout n ≡ Some i
      → (s : SiteCode) × (site_code g.layout i ≡ Some s) × (s.seal ≡ n)
  seal_site i n e =
      let p = position_is (λ (s : Site). s.seal == n)
      g.layout.sites i (numbered_is (position (λ (s : Site). s.seal == n) g.layout.sites) i e).0 in
      let u = linked.listed i p.0 p.1 in
      (u.0, u.1, u.2 ∙ eqb-true (p.0).seal n p.2)

  pub site_listed : (i : ℕ) (s : SiteCode) → site_code g.layout i ≡ Some s
      → (x : Site) × (slice_get g.layout.sites i ≡ Some x) × (x.seal ≡ s.seal) × (x.at ≡ s.at)
  unfolding site_code
  site_listed i s e = by_site (slice_get g.layout.sites i) refl e
    where
      by_site : (r : Option Site) → slice_get g.layout.sites i ≡ r
          → option_and_then (code_in g.layout.owners) r ≡ Some s
          → (x : Site) × (slice_get g.layout.sites i ≡ Some x) × (x.seal ≡ s.seal) × (x.at ≡ s.at)
      by_site None m h = cc
      by_site (Some x) m h = (let k = code_of_site g.layout.owners x s h in (x, m, k.0, k.1))

  pub seal_there : (i : ℕ) (s : SiteCode) → site_code g.layout i ≡ Some s
      → is_some (site_of_seal g.layout s.seal) ≡ true
  seal_there i s e =
      let x = site_listed i s e in
      let small =
      (numbered_is (position (λ (y : Site). y.at == s.at) g.layout.sites) i (site_is_at i s e)).1 in
      ap is_some
      (number_at (λ (y : Site). y.seal == s.seal) g.layout.sites i x.0 x.1 (eq-eqb (x.0).seal s.seal x.2)
      small).1

  -- a word that no site has sealed
  pub foreign_none : (w : Word) → IsForeign g.layout w → (y : Option Opened) → opened_of w ≡ y
      → site_opened g.layout y ≡ None
  foreign_none w f None e = refl
  foreign_none w f (Some y) e = by_site (site_of_seal g.layout y.seal) refl
    where
      by_site : (r : Option ℕ) → site_of_seal g.layout y.seal ≡ r → r ≡ None
      by_site None q = refl
      by_site (Some j) q = (let k = seal_site j y.seal q in absurd (f y j k.0 e k.1 (sym k.2)))

  -- ---- trusted code

  pub trusted_code : (i : ℕ) (s : SiteCode) → site_code g.layout i ≡ Some s → (a : ℕ)
      → is_trusted g.layout (Memory (code_cap s.base s.end a)) ≡ true
  trusted_code i s es a =
      let f = linked.sites i s es in
      let st = f.3 in
      let b : code_cap s.base s.end a ≡ any_pc f.0 (pos a) = ap (λ y. code_cap y s.end a) st.base_is
      ∙ ap (λ y. code_cap (ranges_of f.0).code_base y a) st.end_is in
      ap (λ c. is_trusted g.layout (Memory c)) b ∙ linked.owned f.0 (pos a) f.2

  pub no_closure : (i : ℕ) (s : SiteCode) → site_code g.layout i ≡ Some s
      → closure_owner g.layout s.seal ≡ None
  no_closure i s es = by_found (closure_owner g.layout s.seal) refl
    where
      by_found : (r : Option Owner) → closure_owner g.layout s.seal ≡ r → r ≡ None
      by_found None e = refl
      by_found (Some o) e = (
          let f = found_is (λ (o : Owner). o.trusted && (o.closure == s.seal)) g.layout.owners o e in
          let t = and_parts o.trusted (o.closure == s.seal) f.1 in
          let p = linked.closures o f.0 t.0 in
          absurd (linked.return_other i s p.0 es p.1 (p.2 ∙ eqb-true o.closure s.seal t.1)))
