-- What an `xjmp` of two words does, of words of two runs that stand for each other.
use Rattle.std.proofs.Common.{◌≡◌, ◌≢◌, inl, inr, ℕ, ◌+◌, Option, Some, None, Bool, true, false, refl, sym}
use Rattle.std.proofs.Common.{ap, ◌∙◌, subst, ne_eqb, eq-eqb}
use Rattle.std.specs.Prelude.{◌==◌, ◌&&◌, not}
use Rattle.std.specs.List.{Contains}
use Rattle.std.proofs.lemmas.Bool.{cases_eq}
use Rattle.cap_words.specs.declared.Word.{Word}
use Rattle.cap_words.specs.declared.Word.TheVariants.{Int, Mem, Seal, Sealed}
use Rattle.cap_words.specs.declared.CapFields.{CapFields}
use Rattle.cap_words.specs.declared.Content.{Content}
use Rattle.cap_words.specs.declared.Content.TheVariants.{Mem as MemC, Seal as SealC}
use Rattle.cap_words.specs.declared.Opened.{Opened}
use Rattle.cap_words.specs.declared.Sealable.{Sealable}
use Rattle.cap_words.specs.declared.Sealable.TheVariants.{Mem as MemIn, Seal as SealIn}
use Rattle.cap_words.specs.Face.{opened_of}
use Rattle.cap_words.specs.Faces.{may_run}
use Rattle.cap_words.specs.Linear.{lin_is}
use Rattle.lcm_machine.specs.declared.FailCause.TheVariants.{F6, F7, F10, F12}
use Rattle.lcm_machine.specs.Plan.{Plan, Goes}
use Rattle.lcm_isa.specs.declared.Reg.TheVariants.{Pc, Dat, Rdata}
use Rattle.lcm_machine.specs.Table.{need, ask, memory_content, runs_in, no_effect, made, unsealed}
use Rattle.lcm_machine.specs.Runs.{code_cap}
use Rattle.call_sequence.specs.SequenceRuns.{stack_cap}
use Rattle.call_sequence.specs.declared.TheConstants.{CALL_WORDS}
use Rattle.linked_starts.specs.Parts.{PartSeen}
use Rattle.linked_starts.specs.Start.{Exported, code_half, data_half, code_of, data_of}
use Rattle.trusted_border.specs.declared.layout.SiteCode.{SiteCode}
use Rattle.trusted_border.specs.Layout.{site_code}
use Rattle.trusted_border.specs.Reaches.{jump_plan, plan_goes}
use Rattle.overlay_machine.specs.State.{OpenFrame}
use Rattle.overlay_machine.specs.Flat.{flat_code, flat_range}
use Rattle.overlay_machine.specs.Link.{Link, IsTrusted}
use Rattle.overlay_machine.specs.Linked.{IsLink}
use Rattle.overlay_machine.specs.Safe.{IsOpenSeal}
use Rattle.lockstep.specs.Related.{SameNames, IsOurs}

-- ---- of two sealed words

-- the first may be jumped to
abbrev can : Content → Bool
can (MemC c) = not (lin_is c.lin) && may_run c.perm
can (SealC s) = false

abbrev pub jumps : Option Opened → Option Opened → Bool
jumps None y = false
jumps (Some x) None = false
jumps (Some x) (Some y) = (x.seal == y.seal) && (can x.content && not (runs_in y.content))

abbrev gone : CapFields → Content → Plan
gone c d =
    Goes (record no_effect { spent = Some Rdata; first = made Pc (Mem c); second = made Dat (unsealed d) })

last : (l r n : Bool) (c : CapFields) (d : Content)
    → plan_goes (ask F10 (not l) (ask F7 r (ask F7 (not n) (gone c d)))) ≡ (not l && r) && not n
unfolding ask
last true r n c d = refl
last false true true c d = refl
last false true false c d = refl
last false false n c d = refl

seals : (b : Bool) (c d : Content)
    → plan_goes (ask F12 b (need F6 (memory_content c)
    (λ e. ask F10 (not (lin_is e.lin)) (ask F7 (may_run e.perm) (ask F7 (not (runs_in d)) (gone e d))))))
    ≡ b && (can c && not (runs_in d))
unfolding need ask
seals false c d = refl
seals true (SealC s) d = refl
seals true (MemC c) d = last (lin_is c.lin) (may_run c.perm) (runs_in d) c d

both_opened : (x y : Option Opened)
    → plan_goes (need F6 x (λ code. need F6 y (λ half. ask F12 (code.seal == half.seal)
    (need F6 (memory_content code.content) (λ c. ask F10 (not (lin_is c.lin)) (ask F7 (may_run c.perm)
    (ask F7 (not (runs_in half.content)) (gone c half.content)))))))) ≡ jumps x y
unfolding need
both_opened None y = refl
both_opened (Some x) None = refl
both_opened (Some x) (Some y) = seals (x.seal == y.seal) x.content y.content

pub plan_is : (w v : Word) → plan_goes (jump_plan w v) ≡ jumps (opened_of w) (opened_of v)
plan_is w v = both_opened (opened_of w) (opened_of v)

-- ---- pairs that go nowhere

and_last : (a b : Bool) → (a && (b && false)) ≡ false
and_last true true = refl
and_last true false = refl
and_last false b = refl

and_mid : (a b : Bool) → (a && (false && b)) ≡ false
and_mid true b = refl
and_mid false b = refl

none_first : (x y : Option Opened) → x ≡ None → jumps x y ≡ false
none_first x y e = ap (λ z. jumps z y) e

none_second : (x y : Option Opened) → y ≡ None → jumps x y ≡ false
none_second x y e = ap (jumps x) e ∙ by x
  where
    by : (x : Option Opened) → jumps x None ≡ false
    by None = refl
    by (Some x) = refl

cannot : (x : Opened) (y : Option Opened) → can x.content ≡ false → jumps (Some x) y ≡ false
cannot x None e = refl
cannot x (Some y) e = ap (λ b. (x.seal == y.seal) && (b && not (runs_in y.content))) e
    ∙ and_mid (x.seal == y.seal) (not (runs_in y.content))

runs_too : (x : Option Opened) (y : Opened) → runs_in y.content ≡ true → jumps x (Some y) ≡ false
runs_too None y e = refl
runs_too (Some x) y e = ap (λ b. (x.seal == y.seal) && (can x.content && not b)) e
    ∙ and_last (x.seal == y.seal) (can x.content)

apart : (x y : Opened) → x.seal ≢ y.seal → jumps (Some x) (Some y) ≡ false
apart x y ne = ap (λ b. b && (can x.content && not (runs_in y.content))) (ne_eqb x.seal y.seal ne)

together : (x y : Opened) → x.seal ≡ y.seal → can x.content ≡ true → runs_in y.content ≡ false
    → jumps (Some x) (Some y) ≡ true
together x y e c n = rw (eq-eqb x.seal y.seal e, c, n) refl

-- ---- of two runs

abbrev pub code_opened : Exported → Opened
code_opened x = record { seal = x.part.component.closure; content = MemC (code_of x) }

abbrev pub data_opened : Exported → Opened
data_opened x = record { seal = x.part.component.closure; content = MemC (data_of x.part) }

abbrev pub ret_opened : SiteCode → Opened
ret_opened s = record { seal = s.seal; content = MemC (code_cap s.base s.end (s.at + CALL_WORDS)) }

abbrev pub frame_opened : OpenFrame → SiteCode → Opened
frame_opened f s = record { seal = s.seal; content = MemC (stack_cap f.base f.end f.base) }

module _ (g h : Link) (names : SameNames g h) where
  -- plain words that overlay words stand for which are the same to code outside
  pub data Flat : Word → Word → Type 0 where
    f_ours : (w : Word) → IsOurs g w → Flat w w
    f_code : (x y : Exported) → Contains names.twins (x, y) → Flat (code_half x) (code_half y)
    f_data : (x y : Exported) → Contains names.twins (x, y) → Flat (data_half x) (data_half y)
    f_ret : (i j : ℕ) (s u : SiteCode) → Contains names.sites (i, j) → site_code g.layout i ≡ Some s
        → site_code h.layout j ≡ Some u → Flat (flat_code (Some s)) (flat_code (Some u))
    f_frame : (f e : OpenFrame) (s u : SiteCode) → Contains names.sites (f.site, e.site) → f.base ≡ e.base
        → site_code g.layout f.site ≡ Some s → site_code h.layout e.site ≡ Some u
        → Flat (flat_range f (Some s)) (flat_range e (Some u))

  -- what an `xjmp` of two of them does in both: it fails, it goes to code outside, it enters twins, or it is
  -- a return
  pub data Jump : Option Opened → Option Opened → Option Opened → Option Opened → Type 0 where
    fails : (w v x y : Option Opened) → jumps w v ≡ false → jumps x y ≡ false → Jump w v x y
    outside : (w v : Opened) → IsOpenSeal g w.seal → Jump (Some w) (Some v) (Some w) (Some v)
    hops : (x y u v : Exported) → Contains names.twins (x, y)
        → jumps (Some (code_opened x)) (Some (data_opened u)) ≡ true
        → jumps (Some (code_opened y)) (Some (data_opened v)) ≡ true
        → Jump (Some (code_opened x)) (Some (data_opened u)) (Some (code_opened y)) (Some (data_opened v))
    back : (f e : OpenFrame) (s u : SiteCode) → Contains names.sites (f.site, e.site) → f.base ≡ e.base
        → site_code g.layout f.site ≡ Some s → site_code h.layout e.site ≡ Some u
        → jumps (Some (ret_opened s)) (Some (frame_opened f s)) ≡ true
        → jumps (Some (ret_opened u)) (Some (frame_opened e u)) ≡ true
        → Jump (Some (ret_opened s)) (Some (frame_opened f s)) (Some (ret_opened u)) (Some (frame_opened e u))

  module _ (lg : IsLink g) (lh : IsLink h) where
    runs_code : (x : Exported) → x.part.trusted ≡ true → can (MemC (code_of x)) ≡ true
    runs_code x t = rw t refl

    runs_second : (x : Exported) → x.part.trusted ≡ true → runs_in (MemC (code_of x)) ≡ true
    runs_second x t = rw t refl

    ipx : (x y : Exported) → Contains names.twins (x, y) → IsTrusted g x.part
    ipx x y t = (names.exports x y t).0.0

    ipy : (x y : Exported) → Contains names.twins (x, y) → IsTrusted h y.part
    ipy x y t = (names.exports x y t).1.0

    content_in : Sealable → Content
    content_in (MemIn c) = MemC c
    content_in (SealIn s) = SealC s

    opened_sealed : (n : ℕ) (c : Sealable) → (x : Opened) × (opened_of (Sealed n c) ≡ Some x) × (x.seal ≡ n)
    opened_sealed n (MemIn c) = (_, refl, refl)
    opened_sealed n (SealIn s) = (_, refl, refl)

    abbrev pub J : Word → Word → Word → Word → Type 0
    J w v x y = Jump (opened_of w) (opened_of v) (opened_of x) (opened_of y)

    not_first : (w v x y : Word) → opened_of w ≡ None → opened_of x ≡ None → J w v x y
    not_first w v x y e f = fails _ _ _ _ (none_first _ _ e) (none_first _ _ f)

    not_second : (w v x y : Word) → opened_of v ≡ None → opened_of y ≡ None → J w v x y
    not_second w v x y e f = fails _ _ _ _ (none_second _ _ e) (none_second _ _ f)

    seals_differ : (w v x y : Word) (a b c d : Opened) → opened_of w ≡ Some a → opened_of v ≡ Some b
        → opened_of x ≡ Some c → opened_of y ≡ Some d → a.seal ≢ b.seal → c.seal ≢ d.seal → J w v x y
    seals_differ w v x y a b c d ea eb ec ed ne mf =
        fails _ _ _ _ (ap (λ z. jumps z (opened_of v)) ea ∙ ap (jumps (Some a)) eb ∙ apart a b ne)
        (ap (λ z. jumps z (opened_of y)) ec ∙ ap (jumps (Some c)) ed ∙ apart c d mf)

    open_not : (n : ℕ) (x y : Exported) → Contains names.twins (x, y) → IsOpenSeal g n
        → (n ≢ x.part.component.closure) × (n ≢ y.part.component.closure)
    open_not n x y t o = (
      λ e. lg.closure_closed x.part (ipx x y t) (subst (IsOpenSeal g) e o),
      λ e. lh.closure_closed y.part (ipy x y t) (subst (IsOpenSeal h) e ((names.seals n).0 o)),
    )

    open_no_site : (n i j : ℕ) (s u : SiteCode) → site_code g.layout i ≡ Some s
        → site_code h.layout j ≡ Some u → IsOpenSeal g n → (n ≢ s.seal) × (n ≢ u.seal)
    open_no_site n i j s u e f o = (
      λ k. lg.return_closed i s e (subst (IsOpenSeal g) k o),
      λ k. lh.return_closed j u f (subst (IsOpenSeal h) k ((names.seals n).0 o)),
    )

    -- the first is under a seal of code outside
    first_open : (n : ℕ) (c : Sealable) (v y : Word) → IsOpenSeal g n → Flat v y
        → J (Sealed n c) v (Sealed n c) y
    first_open n c _ _ o (f_ours (Int z) k) = not_second (Sealed n c) (Int z) (Sealed n c) (Int z) refl refl
    first_open n c _ _ o (f_ours (Mem z) k) = not_second (Sealed n c) (Mem z) (Sealed n c) (Mem z) refl refl
    first_open n c _ _ o (f_ours (Seal z) k) =
        not_second (Sealed n c) (Seal z) (Sealed n c) (Seal z) refl refl
    first_open n c _ _ o (f_ours (Sealed m d) k) =
        let a = opened_sealed n c in
        let b = opened_sealed m d in
        rw (a.1, b.1) (outside a.0 b.0 (subst (IsOpenSeal g) (sym a.2) o))
    first_open n c _ _ o (f_code x y t) =
        let a = opened_sealed n c in
        let k = open_not n x y t o in
        seals_differ (Sealed n c) (code_half x) (Sealed n c) (code_half y) a.0 (code_opened x) a.0
        (code_opened y)
        a.1 refl a.1 refl (λ e. k.0 (sym a.2 ∙ e)) (λ e. k.1 (sym a.2 ∙ e))
    first_open n c _ _ o (f_data x y t) =
        let a = opened_sealed n c in
        let k = open_not n x y t o in
        seals_differ (Sealed n c) (data_half x) (Sealed n c) (data_half y) a.0 (data_opened x) a.0
        (data_opened y)
        a.1 refl a.1 refl (λ e. k.0 (sym a.2 ∙ e)) (λ e. k.1 (sym a.2 ∙ e))
    first_open n c _ _ o (f_ret i j s u p e f) =
        let a = opened_sealed n c in
        let k = open_no_site n i j s u e f o in
        seals_differ (Sealed n c) (flat_code (Some s)) (Sealed n c) (flat_code (Some u)) a.0 _ a.0 _
        a.1 refl a.1 refl (λ z. k.0 (sym a.2 ∙ z)) (λ z. k.1 (sym a.2 ∙ z))
    first_open n c _ _ o (f_frame x y s u p b e f) =
        let a = opened_sealed n c in
        let k = open_no_site n x.site y.site s u e f o in
        seals_differ (Sealed n c) (flat_range x (Some s)) (Sealed n c) (flat_range y (Some u)) a.0 _ a.0 _
        a.1 refl a.1 refl (λ z. k.0 (sym a.2 ∙ z)) (λ z. k.1 (sym a.2 ∙ z))

    -- it is the code half of an export
    first_code : (x y : Exported) (v z : Word) → Contains names.twins (x, y) → Flat v z
        → J (code_half x) v (code_half y) z
    first_code x y _ _ t (f_ours (Int z) k) = not_second (code_half x) (Int z) (code_half y) (Int z) refl refl
    first_code x y _ _ t (f_ours (Mem z) k) = not_second (code_half x) (Mem z) (code_half y) (Mem z) refl refl
    first_code x y _ _ t (f_ours (Seal z) k) =
        not_second (code_half x) (Seal z) (code_half y) (Seal z) refl refl
    first_code x y _ _ t (f_ours (Sealed n c) k) =
        let a = opened_sealed n c in
        let o = open_not n x y t k in
        seals_differ (code_half x) (Sealed n c) (code_half y) (Sealed n c) (code_opened x) a.0 (code_opened y)
        a.0
        refl a.1 refl a.1 (λ e. o.0 (sym (e ∙ a.2))) (λ e. o.1 (sym (e ∙ a.2)))
    first_code x y _ _ t (f_code u v t') =
        fails _ _ _ _ (runs_too (Some (code_opened x)) (code_opened u) (runs_second u (ipx u v t').1))
        (runs_too (Some (code_opened y)) (code_opened v) (runs_second v (ipy u v t').1))
    first_code x y _ _ t (f_data u v t') = elim (cases_eq x.part.component.closure u.part.component.closure)
        as (λ _. J (code_half x) (data_half u) (code_half y) (data_half v)) [
          | inl same ↦ (
              let p : x.part ≡ u.part = lg.one_closure x.part u.part (ipx x y t) (ipx u v t') same in
              let q : y.part ≡ v.part = (names.one_part x y u v t t').0 p in
              hops x y u v t
              (together (code_opened x) (data_opened u) same (runs_code x (ipx x y t).1) refl)
              (together (code_opened y) (data_opened v) (ap (λ (w : PartSeen). w.component.closure) q)
              (runs_code y (ipy x y t).1) refl)
              )
          | inr ne ↦ seals_differ (code_half x) (data_half u) (code_half y) (data_half v) (code_opened x)
              (data_opened u) (code_opened y) (data_opened v) refl refl refl refl ne
              (λ e. ne (ap (λ (w : PartSeen). w.component.closure)
              ((names.one_part x y u v t t').1 (lh.one_closure y.part v.part (ipy x y t) (ipy u v t') e))))
        ]
    first_code x y _ _ t (f_ret i j s u p e f) =
        seals_differ (code_half x) (flat_code (Some s)) (code_half y) (flat_code (Some u)) (code_opened x) _
        (code_opened y) _ refl refl refl refl (lg.return_other i s x.part e (ipx x y t))
        (lh.return_other j u y.part f (ipy x y t))
    first_code x y _ _ t (f_frame k m s u p b e f) =
        seals_differ (code_half x) (flat_range k (Some s)) (code_half y) (flat_range m (Some u))
        (code_opened x) _
        (code_opened y) _ refl refl refl refl (lg.return_other k.site s x.part e (ipx x y t))
        (lh.return_other m.site u y.part f (ipy x y t))

    -- it is the code half of a return
    first_ret : (i j : ℕ) (s u : SiteCode) (v y : Word) → Contains names.sites (i, j)
        → site_code g.layout i ≡ Some s → site_code h.layout j ≡ Some u → Flat v y
        → J (flat_code (Some s)) v (flat_code (Some u)) y
    first_ret i j s u _ _ p e f (f_ours (Int z) k) =
        not_second (flat_code (Some s)) (Int z) (flat_code (Some u)) (Int z) refl refl
    first_ret i j s u _ _ p e f (f_ours (Mem z) k) =
        not_second (flat_code (Some s)) (Mem z) (flat_code (Some u)) (Mem z) refl refl
    first_ret i j s u _ _ p e f (f_ours (Seal z) k) =
        not_second (flat_code (Some s)) (Seal z) (flat_code (Some u)) (Seal z) refl refl
    first_ret i j s u _ _ p e f (f_ours (Sealed n c) k) =
        let a = opened_sealed n c in
        let o = open_no_site n i j s u e f k in
        seals_differ (flat_code (Some s)) (Sealed n c) (flat_code (Some u)) (Sealed n c) _ a.0 _ a.0
        refl a.1 refl a.1 (λ z. o.0 (sym (z ∙ a.2))) (λ z. o.1 (sym (z ∙ a.2)))
    first_ret i j s u _ _ p e f (f_code x y t) =
        seals_differ (flat_code (Some s)) (code_half x) (flat_code (Some u)) (code_half y) _ (code_opened x) _
        (code_opened y) refl refl refl refl (λ z. lg.return_other i s x.part e (ipx x y t) (sym z))
        (λ z. lh.return_other j u y.part f (ipy x y t) (sym z))
    first_ret i j s u _ _ p e f (f_data x y t) =
        seals_differ (flat_code (Some s)) (data_half x) (flat_code (Some u)) (data_half y) _ (data_opened x) _
        (data_opened y) refl refl refl refl (λ z. lg.return_other i s x.part e (ipx x y t) (sym z))
        (λ z. lh.return_other j u y.part f (ipy x y t) (sym z))
    first_ret i j s u _ _ p e f (f_ret k m s' u' p' e' f') =
        fails _ _ _ _ (runs_too (Some (ret_opened s)) (ret_opened s') refl)
        (runs_too (Some (ret_opened u)) (ret_opened u') refl)
    first_ret i j s u _ _ p e f (f_frame x y s' u' p' b e' f') = elim (cases_eq i x.site)
        as (λ _. J (flat_code (Some s)) (flat_range x (Some s')) (flat_code (Some u))
        (flat_range y (Some u'))) [
          | inl same ↦ (
              let js : j ≡ y.site = (names.one_site i j x.site y.site p p').0 same in
              let es : Some s ≡ Some s' = sym e ∙ ap (site_code g.layout) same ∙ e' in
              let eu : Some u ≡ Some u' = sym f ∙ ap (site_code h.layout) js ∙ f' in
              let ss : s' ≡ s = cc in
              let uu : u' ≡ u = cc in
              rw (ss, uu) (back x y s u p' b (e' ∙ ap Some ss) (f' ∙ ap Some uu)
              (together (ret_opened s) (frame_opened x s) refl refl refl)
              (together (ret_opened u) (frame_opened y u) refl refl refl))
              )
          | inr ne ↦ seals_differ (flat_code (Some s)) (flat_range x (Some s')) (flat_code (Some u))
              (flat_range y (Some u')) _ _ _ _ refl refl refl refl
              (λ z. ne (lg.one_seal i x.site s s' e e' z))
              (λ z. ne ((names.one_site i j x.site y.site p p').1 (lh.one_seal j y.site u u' f f' z)))
        ]

    pub jump_same : (w v x y : Word) → Flat w x → Flat v y → J w v x y
    jump_same _ v _ y (f_ours (Int z) k) m = not_first (Int z) v (Int z) y refl refl
    jump_same _ v _ y (f_ours (Mem z) k) m = not_first (Mem z) v (Mem z) y refl refl
    jump_same _ v _ y (f_ours (Seal z) k) m = not_first (Seal z) v (Seal z) y refl refl
    jump_same _ v _ y (f_ours (Sealed n c) k) m = first_open n c v y k m
    jump_same _ v _ y (f_code p q t) m = first_code p q v y t m
    jump_same _ v _ y (f_data p q t) m =
        fails _ _ _ _ (cannot (data_opened p) (opened_of v) refl) (cannot (data_opened q) (opened_of y) refl)
    jump_same _ v _ y (f_ret i j s u p e f) m = first_ret i j s u v y p e f m
    jump_same _ v _ y (f_frame k n s u p b e f) m =
        fails _ _ _ _ (cannot (frame_opened k s) (opened_of v) refl)
        (cannot (frame_opened n u) (opened_of y) refl)
