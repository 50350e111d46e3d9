-- An `xjmp` of a return word and a word that isn't linear fails on both machines.
use Rattle.std.proofs.Common.{◌≡◌, ◌≢◌, ℕ, ◌+◌, pos, Bool, true, false, Option, Some, None, refl, sym, ap}
use Rattle.std.proofs.Common.{◌∙◌, ne_eqb}
use Rattle.std.specs.Prelude.{◌==◌, if◌then◌else◌}
use Rattle.cap_words.specs.declared.Word.{Word}
use Rattle.cap_words.specs.declared.Content.TheVariants.{Mem as MemC, Seal as SealC}
use Rattle.cap_words.specs.declared.Opened.{Opened}
use Rattle.cap_words.specs.Face.{opened_of}
use Rattle.lcm_machine.specs.declared.FailCause.TheVariants.{F7, F12}
use Rattle.lcm_machine.specs.Plan.{Fails}
use Rattle.lcm_machine.specs.Runs.{code_cap}
use Rattle.lcm_machine.specs.Table.{need, ask}
use Rattle.call_sequence.specs.declared.TheConstants.{CALL_WORDS}
use Rattle.trusted_border.specs.declared.layout.Layout.{Layout}
use Rattle.trusted_border.specs.declared.layout.SiteCode.{SiteCode}
use Rattle.trusted_border.specs.Layout.{site_code}
use Rattle.trusted_border.specs.Reaches.{jump_plan, plan_goes}
use Rattle.overlay_machine.specs.declared.words.OWord.{OWord}
use Rattle.overlay_machine.specs.declared.words.OWord.TheVariants.{Plain, RetCode, RetData}
use Rattle.overlay_machine.specs.Words.{look}
use Rattle.overlay_machine.specs.State.{OpenFrame, OState, frame_of}
use Rattle.overlay_machine.specs.Flat.{flat, flat_code, flat_range, flat_data}
use Rattle.overlay_machine.specs.Agree.{IsForeign}
use Rattle.overlay_machine.specs.Link.{Link}
use Rattle.overlay_machine.specs.Linked.{IsLink}
use Rattle.overlay_machine.specs.Safe.{IsSafe, IsMet}
use Rattle.overlay_machine.proofs.Offers.{foreign}
use Rattle.run_lines.specs.declared.pairs.PassedPair.TheVariants.{Nothing}
use Rattle.run_lines.specs.Pairs.{if_normal, pair_if, pair_of, own_goes, own_pair, PairsAreOwn}

-- ---- words under two seals, and two code halves

other_seals : (w v : Word) (code half : Opened) → opened_of w ≡ Some code → opened_of v ≡ Some half
    → code.seal ≢ half.seal → plan_goes (jump_plan w v) ≡ false
unfolding need ask
other_seals w v code half e f ne = rw (e, f, ne_eqb code.seal half.seal ne) refl

two_codes : (s u : SiteCode) → plan_goes (jump_plan (flat_code (Some s)) (flat_code (Some u))) ≡ false
unfolding need ask
two_codes s u = by (s.seal == u.seal)
  where
    by : (b : Bool) → plan_goes (if b then Fails F7 else Fails F12) ≡ false
    by true = refl
    by false = refl

-- ---- what is told of a pair

left_any : (l : Layout) (x y : Opened) (o : Option Opened)
    → pair_if false l (Some x) o ≡ pair_if false l (Some y) o
left_any l x y None = refl
left_any l x y (Some k) = refl

right_any : (l : Layout) (x y : Opened) (o : Option Opened)
    → pair_if false l o (Some x) ≡ pair_if false l o (Some y)
right_any l x y None = refl
right_any l x y (Some k) = refl

left_none : (l : Layout) (b : Bool) (x y : Option Opened) → x ≡ None → pair_if b l x y ≡ Nothing
left_none l b x y e = ap (λ o. pair_if b l o y) e

right_none : (l : Layout) (b : Bool) (x y : Option Opened) → y ≡ None → pair_if b l x y ≡ Nothing
right_none l b x y e = ap (λ o. pair_if b l x o) e ∙ by x
  where
    by : (o : Option Opened) → pair_if b l o None ≡ Nothing
    by None = refl
    by (Some k) = refl

abbrev half_of : SiteCode → Opened
half_of s = record { seal = s.seal; content = MemC (code_cap s.base s.end (s.at + CALL_WORDS)) }

abbrev code_opened : SiteCode → Option Opened
code_opened s = opened_of (flat_code (Some s))

-- as a RetCode looks
abbrev code_look : Opened
code_look = record { seal = 0; content = SealC (record { base = 0; end = 0; cur = pos 0 }) }

module _ (g : Link) (linked : IsLink g) (q : OState) where
  abbrev shown : OWord → Word
  shown w = flat g.layout q.frames w

  -- a code half and a plain word that isn't linear: the seals differ
  code_first : (i : ℕ) (s : SiteCode) (v : Word) → site_code g.layout i ≡ Some s → IsForeign g.layout v
      → pair_of g.layout (flat_code (Some s)) v ≡ own_pair g.layout q (RetCode i) (Plain v)
  code_first i s v is other = by (opened_of v) refl
    where
      by : (o : Option Opened) → opened_of v ≡ o
          → pair_if (plan_goes (jump_plan (flat_code (Some s)) v)) g.layout (if_normal (code_opened s))
          (if_normal o)
          ≡ pair_if false g.layout (if_normal (opened_of (look (RetCode i)))) (if_normal o)
      by None e = refl
      by (Some half) e =
          let no : plan_goes (jump_plan (flat_code (Some s)) v) ≡ false =
          other_seals (flat_code (Some s)) v (half_of s) half refl e (λ same. other half i s e is (sym same))
          in
          ap (λ b. pair_if b g.layout (if_normal (code_opened s)) (if_normal (Some half))) no
          ∙ left_any g.layout (half_of s) code_look (if_normal (Some half))

  code_second : (i : ℕ) (s : SiteCode) (w : Word) → site_code g.layout i ≡ Some s → IsForeign g.layout w
      → pair_of g.layout w (flat_code (Some s)) ≡ own_pair g.layout q (Plain w) (RetCode i)
  code_second i s w is other = by (opened_of w) refl
    where
      by : (o : Option Opened) → opened_of w ≡ o
          → pair_if (plan_goes (jump_plan w (flat_code (Some s)))) g.layout (if_normal o)
          (if_normal (code_opened s))
          ≡ pair_if false g.layout (if_normal o) (if_normal (opened_of (look (RetCode i))))
      by None e = refl
      by (Some code) e =
          let no : plan_goes (jump_plan w (flat_code (Some s))) ≡ false =
          other_seals w (flat_code (Some s)) code (half_of s) e refl (λ same. other code i s e is same) in
          ap (λ b. pair_if b g.layout (if_normal (Some code)) (if_normal (code_opened s))) no
          ∙ right_any g.layout (half_of s) code_look (if_normal (Some code))

  both_codes : (i j : ℕ) (s u : SiteCode)
      → pair_of g.layout (flat_code (Some s)) (flat_code (Some u)) ≡ own_pair g.layout q (RetCode i)
      (RetCode j)
  both_codes i j s u =
      ap (λ b. pair_if b g.layout (if_normal (code_opened s)) (if_normal (code_opened u))) (two_codes s u)

  -- a data half is linear, and the word of no open call is no sealed one
  data_range : (f : OpenFrame) (o : Option SiteCode) → if_normal (opened_of (flat_range f o)) ≡ None
  data_range f None = refl
  data_range f (Some s) = refl

  data_none : (k : ℕ) → if_normal (opened_of (shown (RetData k))) ≡ None
  unfolding flat
  data_none k = by (frame_of q.frames k)
    where
      by : (o : Option OpenFrame) → if_normal (opened_of (flat_data g.layout o)) ≡ None
      by None = refl
      by (Some f) = data_range f (site_code g.layout f.site)

  data_first : (k : ℕ) (v : OWord) → pair_of g.layout (shown (RetData k)) (shown v) ≡ own_pair g.layout q
      (RetData k) v
  data_first k v =
      left_none g.layout (plan_goes (jump_plan (shown (RetData k)) (shown v))) _
      (if_normal (opened_of (shown v)))
      (data_none k)

  data_second : (k : ℕ) (w : OWord) → pair_of g.layout (shown w) (shown (RetData k)) ≡ own_pair g.layout q w
      (RetData k)
  data_second k w =
      right_none g.layout (plan_goes (jump_plan (shown w) (shown (RetData k))))
      (if_normal (opened_of (shown w))) _
      (data_none k)
      ∙ sym (right_none g.layout (own_goes g.layout q w (RetData k)) (if_normal (opened_of (look w))) None
      refl)

  plain_both : (w v : Word) → pair_of g.layout (shown (Plain w)) (shown (Plain v)) ≡ own_pair g.layout q
      (Plain w) (Plain v)
  unfolding flat
  plain_both w v = refl

  met : (i : ℕ) → IsMet g q.frames (RetCode i)
      → (s : SiteCode) × (site_code g.layout i ≡ Some s) × (shown (RetCode i) ≡ flat_code (Some s))
  unfolding flat
  met i h = (h.0, h.1, ap flat_code h.1)

  is_plain_word : (w : Word) → shown (Plain w) ≡ w
  unfolding flat
  is_plain_word w = refl

  own_pairs : (w v : OWord) → IsSafe g q.frames w → IsSafe g q.frames v
      → pair_of g.layout (shown w) (shown v) ≡ own_pair g.layout q w v
  own_pairs (Plain w) (Plain v) h k = plain_both w v
  own_pairs (RetCode i) (Plain v) h k =
      let m = met i h in
      ap (λ x. pair_of g.layout x (shown (Plain v))) m.2
      ∙ ap (pair_of g.layout (flat_code (Some m.0))) (is_plain_word v)
      ∙ code_first i m.0 v m.1 (foreign g linked q.frames v k)
  own_pairs (Plain w) (RetCode i) h k =
      let m = met i k in
      ap (λ x. pair_of g.layout (shown (Plain w)) x) m.2
      ∙ ap (λ x. pair_of g.layout x (flat_code (Some m.0))) (is_plain_word w)
      ∙ code_second i m.0 w m.1 (foreign g linked q.frames w h)
  own_pairs (RetCode i) (RetCode j) h k =
      let m = met i h in
      let n = met j k in
      ap (λ x. pair_of g.layout x (shown (RetCode j))) m.2
      ∙ ap (pair_of g.layout (flat_code (Some m.0))) n.2
      ∙ both_codes i j m.0 n.0
  own_pairs (RetData k) v h j = data_first k v
  own_pairs (Plain w) (RetData k) h j = data_second k (Plain w)
  own_pairs (RetCode i) (RetData k) h j = data_second k (RetCode i)

pub pairs_are_own : PairsAreOwn
pairs_are_own g o w v linked h k = own_pairs g linked o w v h k
