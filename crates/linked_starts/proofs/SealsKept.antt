-- What the rules C and L say of seals: none is of two parts, and none is of two sites.
use Rattle.std.proofs.Common.{◌≡◌, ℕ, ◌+◌, ◌<◌, ◌≤◌, ◌⊎◌, inl, inr, Bool, true, false, not, List, length}
use Rattle.std.proofs.Common.{take, Some, refl, sym, ap, subst, ◌∙◌, arith, eq-eqb}
use Rattle.std.specs.Prelude.{slice_get, ◌==◌, ◌||◌, IsTrue}
use Rattle.std.proofs.lemmas.Bool.{cases_eq, or_right, or_left}
use Rattle.std.proofs.lemmas.Bool.Decides.{nat_tests}
use Rattle.std.proofs.lemmas.Option.{slice_get_within}
use Rattle.cap_words.specs.Stretch.{Stretch}
use Rattle.seal_space.specs.Seals.{has_seal, are_disjoint}
use Rattle.linked_starts.specs.declared.owners.Site.{Site}
use Rattle.linked_starts.specs.Parts.{PartSeen, IsPart}
use Rattle.linked_starts.specs.Pairs.{NoneIsBroken, at_each, passes, never}
use Rattle.linked_starts.specs.Links.{rules_l, l2, share_seals}
use Rattle.linked_starts.specs.Owners.{IsSite, AreSites}
use Rattle.linked_starts.specs.SealsApart.{is_seal_of, PartsApart, SitesApart}
use Rattle.linked_starts.proofs.RuleLemmas.{slice_get-take}
use Rattle.linked_starts.proofs.PartKept.{closure_apart, few_sites}
use Rattle.linked_starts.proofs.LinksKept.{in_part}

-- two parts that share no seal
no_common : (a b : Stretch) (ca cb seal : ℕ)
    → ((ca == cb) || has_seal a cb || has_seal b ca || not (are_disjoint a b)) ≡ false
    → ((ca == seal) || has_seal a seal) ≡ true → ((cb == seal) || has_seal b seal) ≡ true → ⊥
no_common a b ca cb seal none in_a in_b = grind (arith, nat_tests)

earlier : (parts : List PartSeen) (size : ℕ) → NoneIsBroken (rules_l parts size) → (i j : ℕ) (p q : PartSeen)
    → i < j → slice_get parts i ≡ Some p → slice_get parts j ≡ Some q → share_seals q p ≡ false
unfolding l2
earlier parts size h i j p q lt is_p is_q =
    let there : slice_get (take j parts) i ≡ Some p = slice_get-take parts j i lt ∙ is_p in
    let none : passes (share_seals q) (slice_get (take j parts) i) ≡ false
    = in_part parts (λ k r. at_each (take k parts) (share_seals r))
    never j q i is_q (λ b. h 2 j i (l2 parts) refl (slice_get_within parts j q is_q, b))
    (slice_get_within (take j parts) i p there) in
    sym (ap (passes (share_seals q)) there) ∙ none

-- no seal is of two parts
between : (parts : List PartSeen) (size : ℕ) → NoneIsBroken (rules_l parts size)
    → (i j seal : ℕ) (p q : PartSeen) → slice_get parts i ≡ Some p → slice_get parts j ≡ Some q
    → IsTrue (is_seal_of p seal) → IsTrue (is_seal_of q seal) → i ≡ j
between parts size h i j seal p q is_p is_q in_p in_q = elim (cases_eq i j) as (λ _. i ≡ j) [
  | inl e ↦ e
  | inr ne ↦ elim (order i j ne) as (λ _. i ≡ j) [
    | inl lt ↦ absurd (apart q p (earlier parts size h i j p q lt is_p is_q) in_q in_p)
    | inr lt ↦ absurd (apart p q (earlier parts size h j i q p lt is_q is_p) in_p in_q)
  ]
]
  where
    order : (a b : ℕ) → (a ≡ b → ⊥) → (a < b) ⊎ (b < a)
    order a b ne = grind arith

    apart : (x y : PartSeen) → share_seals x y ≡ false → IsTrue (is_seal_of x seal)
        → IsTrue (is_seal_of y seal) → ⊥
    apart x y none in_x in_y =
        no_common x.component.seals y.component.seals x.component.closure y.component.closure seal none in_x
        in_y

pub parts_apart : (parts : List PartSeen) (size : ℕ)
    → ((k : ℕ) (p : PartSeen) → slice_get parts k ≡ Some p → IsPart p) → NoneIsBroken (rules_l parts size)
    → PartsApart parts
parts_apart parts size kept h = record {
  between = between parts size h;
  within = λ i p is. closure_apart p (kept i p is);
}

-- ---- sites

pub same_site : (s t : Site) → s.part ≡ t.part → s.index ≡ t.index → s.seal ≡ t.seal → s.at ≡ t.at → s ≡ t
same_site s t part index seal at = λ i. record { part = part i; index = index i; seal = seal i; at = at i }

of_range : (r : Stretch) (k seal : ℕ) → seal ≡ r.base + k → k < r.count → has_seal r seal ≡ true
of_range r k seal e lt = grind (arith, nat_tests)

own_seal : (parts : List PartSeen) → ((k : ℕ) (p : PartSeen) → slice_get parts k ≡ Some p → IsPart p)
    → (s : Site) (is : IsSite parts s) → has_seal is.of.component.seals s.seal ≡ true
own_seal parts kept s is =
    let within : s.index < length is.of.component.sites =
    slice_get_within is.of.component.sites s.index is.offset is.offset_is in
    let few : length is.of.component.sites ≤ is.of.component.seals.count =
    few_sites is.of (kept s.part is.of is.of_is) is.trusted in
    of_range is.of.component.seals s.index s.seal is.seal (omega arith)

pub sites_apart : (parts : List PartSeen) (sites : List Site)
    → ((k : ℕ) (p : PartSeen) → slice_get parts k ≡ Some p → IsPart p) → PartsApart parts
    → AreSites parts sites → SitesApart parts sites
sites_apart parts sites kept apart are = record {
  own = λ s in_s. let is = (are.all s).0 in_s in (is.of, is.of_is, own_seal parts kept s is);
  once = λ s t in_s in_t e. one s t ((are.all s).0 in_s) ((are.all t).0 in_t) e;
  no_closure = λ s in_s k p at e. closed s ((are.all s).0 in_s) k p at e;
  no_untrusted = λ s in_s k p at untrusted. foreign s ((are.all s).0 in_s) k p at untrusted;
}
  where
    seal_of : (s : Site) (is : IsSite parts s) → IsTrue (is_seal_of is.of s.seal)
    seal_of s is = or_right (is.of.component.closure == s.seal) (has_seal is.of.component.seals s.seal)
        (own_seal parts kept s is)

    -- who has a site's seal is its part
    one_part : (s : Site) (is : IsSite parts s) (k : ℕ) (p : PartSeen) → slice_get parts k ≡ Some p
        → IsTrue (is_seal_of p s.seal) → is.of ≡ p
    one_part s is k p at has =
        let part : s.part ≡ k = apart.between s.part k s.seal is.of p is.of_is at (seal_of s is) has in
        let f : Some is.of ≡ Some p = sym is.of_is ∙ ap (slice_get parts) part ∙ at in
        cc

    closed : (s : Site) (is : IsSite parts s) (k : ℕ) (p : PartSeen) → slice_get parts k ≡ Some p
        → s.seal ≡ p.component.closure → ⊥
    closed s is k p at e =
        let has : IsTrue (is_seal_of p s.seal) =
        or_left (p.component.closure == s.seal) (has_seal p.component.seals s.seal)
        (eq-eqb p.component.closure s.seal (sym e)) in
        let same = one_part s is k p at has in
        let own : has_seal p.component.seals p.component.closure ≡ true =
        subst (λ o. has_seal p.component.seals o ≡ true)
        e (subst (λ q. has_seal q.component.seals s.seal ≡ true) same (own_seal parts kept s is)) in
        let none : false ≡ true = sym (apart.within k p at) ∙ own in
        cc

    foreign : (s : Site) (is : IsSite parts s) (k : ℕ) (p : PartSeen) → slice_get parts k ≡ Some p
        → p.trusted ≡ false → is_seal_of p s.seal ≡ false
    foreign s is k p at untrusted = by_test (is_seal_of p s.seal) refl
      where
        by_test : (b : Bool) → is_seal_of p s.seal ≡ b → is_seal_of p s.seal ≡ false
        by_test false e = e
        by_test true e = let same = one_part s is k p at e in let f : true ≡ false =
            sym is.trusted ∙ ap (λ q. q.trusted) same ∙ untrusted in cc

    one : (s t : Site) → IsSite parts s → IsSite parts t → s.seal ≡ t.seal → s ≡ t
    one s t is it e =
        let part : s.part ≡ t.part =
        apart.between s.part t.part s.seal is.of it.of is.of_is it.of_is (seal_of s is)
        (subst (λ o. IsTrue (is_seal_of it.of o)) (sym e) (seal_of t it)) in
        let of : is.of ≡ it.of = let f : Some is.of ≡ Some it.of =
        sym is.of_is ∙ ap (slice_get parts) part ∙ it.of_is in cc in
        let base : is.of.component.seals.base ≡ it.of.component.seals.base =
        ap (λ p. p.component.seals.base) of in
        let index : s.index ≡ t.index = omega (arith, base, is.seal, it.seal, e) in
        let sites : is.of.component.sites ≡ it.of.component.sites = ap (λ p. p.component.sites) of in
        let offset : is.offset ≡ it.offset = let f : Some is.offset ≡ Some it.offset =
        sym is.offset_is ∙ ap (λ xs. slice_get xs s.index) sites
        ∙ ap (slice_get it.of.component.sites) index ∙ it.offset_is in cc in
        let code : is.of.component.code_base ≡ it.of.component.code_base =
        ap (λ p. p.component.code_base) of in
        let at : s.at ≡ t.at = omega (arith, code, offset, is.at, it.at) in
        same_site s t part index e at
