-- What `link` and the rules of accepted parts give: the parts are linked, as the invariant needs them.
use Rattle.std.proofs.Common.{◌≡◌, ◌≢◌, ℕ, ◌+◌, ◌<◌, Bool, true, false, List, [], ◌++◌, length, Some, refl}
use Rattle.std.proofs.Common.{sym, ap, subst, ◌∙◌, arith, eq-eqb}
use Rattle.std.specs.Prelude.{slice_get, is_some, IsTrue}
use Rattle.std.specs.List.{Contains}
use Rattle.std.proofs.lemmas.List.Elements.{Contains-append_left, Contains-append_right}
use Rattle.std.proofs.lemmas.Bool.{both_ways}
use Rattle.component_file.specs.declared.component.Export.{Export}
use Rattle.lcm_machine.specs.declared.cells.Span.{Span}
use Rattle.lcm_machine.specs.Regions.{Region}
use Rattle.linked_starts.specs.declared.owners.Site.{Site}
use Rattle.linked_starts.specs.Parts.{PartSeen, IsPart}
use Rattle.linked_starts.specs.Regions.{part_regions, region, regions_of, code_span, data_span}
use Rattle.linked_starts.specs.Regions.{linear_span, stack_span}
use Rattle.linked_starts.specs.SealsApart.{is_seal_of}
use Rattle.linked_starts.specs.declared.owners.Owner.{Owner}
use Rattle.linked_starts.specs.Owners.{owner_of, AreSites, AreOwners}
use Rattle.linked_starts.specs.Started.{StartSeen}
use Rattle.linked_starts.specs.Answer.{LinksTo}
use Rattle.linked_starts.specs.Linked as making
use Rattle.linked_starts.proofs.Offers.{are_linked, SitesStand, EntriesStand, seals_end, part_region_of}
use Rattle.linked_starts.proofs.Offers.{stack_region_of, all_within}
use Rattle.trusted_border.specs.declared.layout.Layout.{Layout}
use Rattle.trusted_border.specs.declared.layout.SiteCode.{SiteCode}
use Rattle.trusted_border.specs.Layout.{site_at, site_code}
use Rattle.overlay_machine.specs.Link.{Link, IsTrusted, IsUntrusted, IsUsable, own_code, own_data, own_linear}
use Rattle.overlay_machine.specs.Link.{the_stack, code_region, data_region, stack_region}
use Rattle.overlay_machine.specs.Safe.{IsOpenSeal}
use Rattle.overlay_machine.specs.Linked.{SiteOf, IsLink}
use Rattle.overlay_machine.proofs.starts.ListFacts.{index_of, listed_at, one_at, first_is}
use Rattle.overlay_machine.proofs.starts.PartFacts.{site_in, entry_in, export_within, fail_stands}
use Rattle.overlay_machine.proofs.starts.RegionsApart.{one_owner, no_owner, code_there, data_is_there}
use Rattle.overlay_machine.proofs.starts.RegionsApart.{data_no_code}
use Rattle.overlay_machine.proofs.starts.LayoutFacts.{NumberedSite, site_code_of, trusted_is, trusted_found}
use Rattle.overlay_machine.proofs.starts.LayoutFacts.{entry_found, site_of, site_has_code, site_found}
use Rattle.overlay_machine.proofs.starts.LayoutFacts.{one_place, no_site_at}

-- ---- seals

-- a closure seal is a seal of its part
pub own_closure : (p : PartSeen) → IsTrue (is_seal_of p p.component.closure)
own_closure p = let t = eq-eqb p.component.closure p.component.closure refl in rw t refl

-- ---- regions

in_code : (p : PartSeen) (r : Region) → Contains (region false (code_span p)) r → Contains (part_regions p) r
in_code p r m =
    Contains-append_left (region false (code_span p) ++ region false (data_span p))
    (region true (linear_span p))
    r (Contains-append_left (region false (code_span p)) (region false (data_span p)) r m)

in_data : (p : PartSeen) (r : Region) → Contains (region false (data_span p)) r → Contains (part_regions p) r
in_data p r m =
    Contains-append_left (region false (code_span p) ++ region false (data_span p))
    (region true (linear_span p))
    r (Contains-append_right (region false (code_span p)) (region false (data_span p)) r m)

in_area : (p : PartSeen) (r : Region) → Contains (region true (linear_span p)) r → Contains (part_regions p) r
in_area p r m = Contains-append_right (region false (code_span p) ++ region false (data_span p))
    (region true (linear_span p)) r m

-- ---- owners

-- the closure seal of a trusted owner is that of a trusted part
owner_closure : (parts : List PartSeen) (owners : List Owner) → AreOwners parts owners → (o : Owner)
    → Contains owners o → o.trusted ≡ true
    → (p : PartSeen) × (Contains parts p × (p.trusted ≡ true)) × (p.component.closure ≡ o.closure)
unfolding owner_of
owner_closure parts owners are o m trusted =
    let is = (are.all o).0 m in (
      is.of,
      (listed_at parts o.part is.of is.of_is, sym (ap (λ (x : Owner). x.trusted) is.is) ∙ trusted),
      sym
          (ap (λ (x : Owner). x.closure) is.is),
    )

-- ---- all of it

module _ (site_words : SitesStand) (entry_words : EntriesStand) (parts : List PartSeen) (size : ℕ)
    (s : StartSeen) (l : Layout) (each : (k : ℕ) (p : PartSeen) → slice_get parts k ≡ Some p → IsPart p)
    (link : LinksTo parts size s)
    (sites : l.sites ≡ s.sites) (owners : l.owners ≡ s.owners) (stack : l.stack ≡ s.stack) where
  abbrev g : Link
  g = record { parts = parts; size = size; layout = l }

  made : making.Linked parts size
  made = are_linked parts size each link.rules

  site_list : AreSites parts l.sites
  site_list = subst (AreSites parts) (sym sites) link.starts.sites

  owner_list : AreOwners parts l.owners
  owner_list = subst (AreOwners parts) (sym owners) link.starts.owners

  stack_is : stack_span parts size ≡ Some l.stack
  stack_is = link.starts.stack ∙ ap Some (sym stack)

  stack_listed : Contains (region true (stack_span parts size)) (stack_region l)
  stack_listed =
      subst (λ o. Contains (region true o) (stack_region l)) (sym stack_is) (first_is (stack_region l) [])

  -- ---- regions

  -- a part's regions are among all
  in_regions : (p : PartSeen) (r : Region) → Contains parts p → Contains (part_regions p) r
      → Contains (regions_of parts size) r
  in_regions p r m n = let k = index_of parts p m in part_region_of parts size k.0 p r k.1 n

  usable_there : (r : Region) (runs : Bool) → IsUsable g r runs → Contains (regions_of parts size) r
  usable_there r runs (own_code p q u m) = in_regions p r u.0 (in_code p r m)
  usable_there r runs (own_data p q u m) = in_regions p r u.0 (in_data p r m)
  usable_there r runs (own_linear p q u m) = in_regions p r u.0 (in_area p r m)
  usable_there r runs the_stack = stack_region_of parts size (stack_region l) stack_listed

  -- parts with a common region are one
  one_region : (p q : PartSeen) (r s : Region) → Contains parts p → Contains parts q
      → Contains (part_regions p) r → Contains (part_regions q) s → r ≡ s → p ≡ q
  one_region p q r s in_p in_q m n e =
      let k = index_of parts p in_p in
      let j = index_of parts q in_q in
      let base = ap (λ (x : Region). x.base) e in
      one_at parts k.0 j.0 p q k.1 j.1 (one_owner parts size made k.0 j.0 p q r s k.1 j.1 m n base)

  -- no region of an untrusted part is one of a trusted part, nor is any that untrusted code may use
  no_trusted : (q p : PartSeen) (r s : Region) → IsUntrusted g q → IsTrusted g p
      → Contains (part_regions q) r → Contains (part_regions p) s → r ≢ s
  no_trusted q p r s u t n m e =
      let part = one_region q p r s u.0 t.0 n m e in
      both_ways q.trusted u.1 (ap (λ (x : PartSeen). x.trusted) part ∙ t.1)

  closed : (s : Region) (p : PartSeen) → IsTrusted g p → Contains (part_regions p) s
      → (r : Region) (runs : Bool) → IsUsable g r runs → r ≢ s
  closed s p t m r runs (own_code q x u n) = no_trusted q p r s u t (in_code q r n) m
  closed s p t m r runs (own_data q x u n) = no_trusted q p r s u t (in_data q r n) m
  closed s p t m r runs (own_linear q x u n) = no_trusted q p r s u t (in_area q r n) m
  closed s p t m r runs the_stack = λ e.
      (let k = index_of parts p t.0 in
      let base = sym (ap (λ (x : Region). x.base) e) in
      no_owner parts size made k.0 p s (stack_region l) k.1 m stack_listed base)

  code_of : (p : PartSeen) → Contains parts p → Contains (part_regions p) (code_region p)
  code_of p m = let k = index_of parts p m in code_there parts size made k.0 p k.1

  data_of : (p : PartSeen) → Contains parts p → Contains (part_regions p) (data_region p)
  data_of p m = let k = index_of parts p m in data_is_there parts size made k.0 p k.1

  -- ---- seals

  -- two parts with a common seal are one
  one_of_seal : (p q : PartSeen) (n : ℕ) → Contains parts p → Contains parts q → IsTrue (is_seal_of p n)
      → IsTrue (is_seal_of q n) → p ≡ q
  one_of_seal p q n in_p in_q has_p has_q =
      let i = index_of parts p in_p in
      let j = index_of parts q in_q in
      one_at parts i.0 j.0 p q i.1 j.1 (link.parts_apart.between i.0 j.0 n p q i.1 j.1 has_p has_q)

  closed_closure : (p : PartSeen) → IsTrusted g p → IsOpenSeal g p.component.closure → ⊥
  closed_closure p t (q, u, has) =
      let part : q ≡ p = one_of_seal q p p.component.closure u.0 t.0 has (own_closure p) in
      both_ways q.trusted u.1 (ap (λ (x : PartSeen). x.trusted) part ∙ t.1)

  -- the site of a number is one of the start's
  start_site : (j : ℕ) (c : SiteCode) (n : NumberedSite parts l j c) → Contains s.sites n.site
  start_site j c n = subst (λ xs. Contains xs n.site) sites (listed_at l.sites j n.site n.at)

  seal_of : (j : ℕ) (c : SiteCode) (n : NumberedSite parts l j c) → c.seal ≡ n.site.seal
  seal_of j c n = ap (λ (x : SiteCode). x.seal) n.code_is

  numbered : (j : ℕ) (c : SiteCode) → site_code l j ≡ Some c → NumberedSite parts l j c
  numbered j c e = site_of parts size l made owner_list site_list j c e

  closed_return : (j : ℕ) (c : SiteCode) → site_code l j ≡ Some c → IsOpenSeal g c.seal → ⊥
  closed_return j c e (q, u, has) =
      let n = numbered j c e in
      let k = index_of parts q u.0 in
      let none = link.sites_apart.no_untrusted n.site (start_site j c n) k.0 q k.1 u.1 in
      both_ways (is_seal_of q n.site.seal) none (subst (λ x. IsTrue (is_seal_of q x)) (seal_of j c n) has)

  other_return : (j : ℕ) (c : SiteCode) (p : PartSeen) → site_code l j ≡ Some c → IsTrusted g p
      → p.component.closure ≢ c.seal
  other_return j c p e t same =
      let n = numbered j c e in
      let k = index_of parts p t.0 in
      link.sites_apart.no_closure n.site (start_site j c n) k.0 p k.1 (sym (same ∙ seal_of j c n))

  one_seal_is : (i j : ℕ) (c d : SiteCode) → site_code l i ≡ Some c → site_code l j ≡ Some d → c.seal ≡ d.seal
      → i ≡ j
  one_seal_is i j c d e f same =
      let n = numbered i c e in
      let m = numbered j d f in
      let one = link.sites_apart.once n.site m.site (start_site i c n) (start_site j d m)
      (sym (seal_of i c n) ∙ same ∙ seal_of j d m) in
      one_place parts size l made owner_list site_list i j n.site m.site n.at m.at
      (ap (λ (x : Site). x.at) one)

  -- ---- sites and entries

  site_is : (j : ℕ) (c : SiteCode) → site_code l j ≡ Some c → (p : PartSeen) × (index : ℕ) × IsTrusted g p
      × SiteOf p index c
  site_is j c e =
      let n = numbered j c e in
      let is = n.is in
      let part = each n.site.part is.of is.of_is in
      let site = site_in is.of part is.trusted site_words n.site.index is.offset is.offset_is in
      let seal : c.seal ≡ is.of.component.seals.base + n.site.index = seal_of j c n ∙ is.seal in
      let small = site.small in (
        is.of,
        n.site.index,
        (listed_at parts n.site.part is.of is.of_is, is.trusted),
        record {
          offset = is.offset;
          offset_is = is.offset_is;
          base_is = ap (λ (x : SiteCode). x.base) n.code_is;
          end_is = ap (λ (x : SiteCode). x.end) n.code_is;
          at_is = ap (λ (x : SiteCode). x.at) n.code_is ∙ is.at;
          seal_is = seal;
          seal_in = site.in_seals;
          seal_small = omega (arith, seal, small);
          site = site.site;
          no_entry = site.no_entry;
          inside = site.inside;
          stands = site.stands;
          seals_are = site.seals_are;
        },
      )

  found_site : (j a : ℕ) → site_at l a ≡ Some j → (c : SiteCode) × (site_code l j ≡ Some c) × (c.at ≡ a)
  found_site j a e =
      let f = site_found parts size l made owner_list site_list j a e in
      let is = (site_list.all f.0).0 (listed_at l.sites j f.0 f.1) in
      (site_code_of f.0 is.of, site_has_code parts size l made owner_list site_list j f.0 is f.1, f.2)

  exports_within : (k : ℕ) (p : PartSeen) → slice_get parts k ≡ Some p → p.trusted ≡ true → (e : Export)
      → Contains p.component.exports e → e.offset < length p.component.code
  exports_within k p at trusted e m = export_within p (each k p at) trusted e m

  part_of : (p : PartSeen) → Contains parts p → IsPart p
  part_of p m = let k = index_of parts p m in each k.0 p k.1

  pub linked : IsLink (record { parts = parts; size = size; layout = l })
  linked = record {
    parts = part_of;
    apart = link.regions;
    seals_small = λ p m. seals_end p (part_of p m);
    filled = λ r m. (all_within parts size r made m).0;
    small = λ r m. (all_within parts size r made m).1;
    stack = stack_is;
    stack_bases =
        λ p t. (let k =
        index_of parts p t.0 in link.stack_base k.0 p k.1 ∙ ap (λ (x : Span). x.base) (sym stack));
    usable = usable_there;
    code_closed = λ r runs p u t. closed (code_region p) p t (code_of p t.0) r runs u;
    data_closed = λ r runs p u t. closed (data_region p) p t (data_of p t.0) r runs u;
    code = λ p t. in_regions p (code_region p) t.0 (code_of p t.0);
    data_there = λ p t. in_regions p (data_region p) t.0 (data_of p t.0);
    data_not_code =
        λ p q t u.
        (let k = index_of parts p t.0 in let n =
        index_of parts q u.0 in data_no_code parts size made k.0 n.0 p q (part_of p t.0) k.1 n.1);
    one_code = λ p q t u e. one_region p q _ _ t.0 u.0 (code_of p t.0) (code_of q u.0) e;
    one_data = λ p q t u e. one_region p q _ _ t.0 u.0 (data_of p t.0) (data_of q u.0) e;
    one_closure = λ p q t u e. one_of_seal p q p.component.closure t.0 u.0 (own_closure p)
        (subst (λ n. IsTrue (is_seal_of q n)) (sym e) (own_closure q));
    closure_closed = closed_closure;
    return_closed = closed_return;
    return_other = other_return;
    one_seal = one_seal_is;
    owners = λ c o e.
        (let t = trusted_is parts size l made owner_list c o e in
        (t.0, (listed_at parts o.part t.0 t.1, t.2), t.3));
    owned = λ p z t.
        (let k = index_of parts p t.0 in
        ap is_some (trusted_found parts size l made owner_list k.0 p z k.1 t.1));
    closures = owner_closure parts l.owners owner_list;
    sites = site_is;
    site_found = found_site;
    listed = λ j s at.
        (let is =
        (site_list.all s).0 (listed_at l.sites j s at) in
        (site_code_of s is.of, site_has_code parts size l made owner_list site_list j s is at, refl));
    no_site =
        λ p o t lt e.
        (let k = index_of parts p t.0 in no_site_at parts size l made owner_list site_list k.0 o p k.1 t.1 e);
    entry_found =
        λ p o t lt.
        (let k = index_of parts p t.0 in
        entry_found parts size l made owner_list exports_within k.0 o p k.1 t.1 lt);
    entries = λ p o t begins. entry_in p (part_of p t.0) t.1 entry_words o begins;
    fails = λ p f t e. fail_stands p (part_of p t.0) t.1 f e;
  }
