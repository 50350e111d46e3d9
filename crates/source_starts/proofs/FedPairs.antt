-- What two words of untrusted code are as a pair: what the feed tells of them is what a call of them does.
use Rattle.std.proofs.Common.{◌≡◌, ℕ, pos, Bool, true, false, List, [], map, Option, Some, None, refl}
use Rattle.std.proofs.Common.{sym, ap, ◌∙◌, subst}
use Rattle.std.specs.Prelude.{find, is_some, if◌then◌else◌}
use Rattle.std.proofs.lemmas.Bool.{not-true, and_left, and_right}
use Rattle.cap_words.specs.declared.Word.{Word}
use Rattle.cap_words.specs.declared.Word.TheVariants.{Int, Mem, Seal, Sealed}
use Rattle.cap_words.specs.declared.Sealable.{Sealable}
use Rattle.cap_words.specs.declared.Sealable.TheVariants.{Mem as MemIn, Seal as SealIn}
use Rattle.cap_words.specs.declared.CapFields.{CapFields}
use Rattle.cap_words.specs.declared.Face.TheVariants.{Memory}
use Rattle.cap_words.specs.declared.Content.{Content}
use Rattle.cap_words.specs.declared.Content.TheVariants.{Mem as MemC, Seal as SealC}
use Rattle.cap_words.specs.declared.Opened.{Opened}
use Rattle.cap_words.specs.Face.{face_of, opened_of}
use Rattle.cap_words.specs.Linear.{is_linear}
use Rattle.lcm_machine.specs.Table.{memory_content, unsealed, runs_in}
use Rattle.call_sequence.specs.Holds.{code_at, data_cap}
use Rattle.linked_starts.specs.declared.owners.Owner.{Owner}
use Rattle.linked_starts.specs.Owners.{owner_of}
use Rattle.linked_starts.specs.Parts.{PartSeen}
use Rattle.linked_starts.specs.Started.{StartSeen}
use Rattle.linked_starts.specs.LinkedStarts.{IsLinkedStart}
use Rattle.trusted_border.specs.Layout.{runs_part}
use Rattle.trusted_border.specs.Reaches.{closure_owner, hop_in, hop_by, hop_to, entry_number}
use Rattle.overlay_machine.specs.declared.words.OWord.{OWord}
use Rattle.overlay_machine.specs.declared.words.OWord.TheVariants.{Plain, RetCode, RetData}
use Rattle.overlay_machine.specs.Words.{look}
use Rattle.overlay_machine.specs.State.{OpenFrame, OState}
use Rattle.overlay_machine.specs.Flat.{flat}
use Rattle.overlay_machine.specs.Link.{Link, ranges_of}
use Rattle.overlay_machine.specs.Linked.{IsLink}
use Rattle.overlay_machine.specs.Names.{NamesTold}
use Rattle.overlay_machine.specs.Safe.{IsSafeCap}
use Rattle.overlay_machine.specs.Starting.{overlay_at}
use Rattle.overlay_machine.proofs.Offers.{index_of, starts_tell_names, Leads_to, to_safe, to_entry, leads_to}
use Rattle.overlay_machine.proofs.Offers.{whole_data, not_trusted}
use Rattle.run_lines.specs.declared.pairs.PassedPair.{PassedPair}
use Rattle.run_lines.specs.declared.pairs.PassedPair.TheVariants as pair
use Rattle.run_lines.specs.Layout.{is_trusted}
use Rattle.run_lines.specs.Pairs.{if_normal, content_linear, pair_to, pair_under, pair_if, own_goes}
use Rattle.run_lines.specs.Pairs.{own_pair, pair_of, PairsAreOwn}
use Rattle.proc_language.specs.declared.module.ModuleFields.{ModuleFields}
use Rattle.proc_language.specs.Limits.{Each, IsModule}
use Rattle.proc_names.specs.NameFaults.{name_faults}
use Rattle.proc_program.specs.Lower.{part_of}
use Rattle.proc_semantics.specs.declared.value.Target.{Target}
use Rattle.proc_semantics.specs.Values.{World, pair_fed, pair_found}
use Rattle.template_runs.specs.Public.{IsShown, IsSharedAt}
use Rattle.template_runs.proofs.Offers.{open_no_owner, opened_is, is_half}
use Rattle.template_runs.specs.Border.{content_of}
use Rattle.run_lines.specs.Lines.{feed_pair}
use Rattle.source_laws.proofs.Offers.{PairIs, Sealing, FailsBy}
use Rattle.source_starts.specs.Sources.{trusted_parts}
use Rattle.source_starts.proofs.Worlds.{Aligned, home_of}
use Rattle.source_starts.proofs.StartWords.{the_link, apart}
use Rattle.source_starts.proofs.Targets.{BeginsAt, entry_found}
use Rattle.source_starts.proofs.Halves.{trusted_pair, open_foreign}
use Rattle.source_starts.proofs.JumpFacts.{half_is, normal_is, normal_none, JumpFacts, jump_facts, call_fails}

-- ---- sealed words by what they open to

abbrev pub inner : Content → Sealable
inner (MemC c) = MemIn c
inner (SealC c) = SealIn c

half_word : (w : Word) (k : Opened) → opened_of w ≡ Some k → w ≡ Sealed k.seal (inner k.content)
half_word (Int z) k e = cc
half_word (Mem y) k e = cc
half_word (Seal y) k e = cc
half_word (Sealed n (MemIn y)) k e =
    let s : record { seal = n; content = MemC y } ≡ k = cc in
    ap (λ (z : Opened). Sealed z.seal (inner z.content)) s
half_word (Sealed n (SealIn y)) k e =
    let s : record { seal = n; content = SealC y } ≡ k = cc in
    ap (λ (z : Opened). Sealed z.seal (inner z.content)) s

data_word : (k : Opened) (d : CapFields) → unsealed k.content ≡ Mem d → inner k.content ≡ MemIn d
data_word k d e = by k.content e
  where
    by : (c : Content) → unsealed c ≡ Mem d → inner c ≡ MemIn d
    by (MemC c) h = let s : c ≡ d = cc in ap MemIn s
    by (SealC c) h = cc

content_is : (c : Content) → content_of (inner c) ≡ c
content_is (MemC c) = refl
content_is (SealC c) = refl

linear_is : (n : ℕ) (c : Content) → is_linear (Sealed n (inner c)) ≡ content_linear c
linear_is n (MemC c) = refl
linear_is n (SealC c) = refl

module _ (modules : List ModuleFields) (parts : List PartSeen) (size : ℕ) (s : StartSeen)
    (is : IsLinkedStart parts size s) (aligned : Aligned modules (trusted_parts parts))
    (limits : Each IsModule modules) (resolved : Each (λ m. name_faults m ≡ []) modules)
    (linked : IsLink (the_link parts size s is)) (own : PairsAreOwn) where
  abbrev G : Link
  G = the_link parts size s is

  abbrev W : World
  W = map part_of modules

  told : NamesTold parts (overlay_at s).layout
  told = starts_tell_names parts size s is

  abbrev pub Begin : Target → PartSeen → ℕ → Type 0
  Begin = BeginsAt modules parts

  -- an `xjmp` that fails, or that a return word would be part of
  stuck_pair : (o : OState) (x y : OWord) → own_goes G.layout o x y ≡ false → FailsBy G linked Begin x y
  stuck_pair o (Plain w) (Plain v) e st e1 e2 p = call_fails w v e st e1 e2
  stuck_pair o (RetCode i) (Plain v) e st e1 e2 p = cc
  stuck_pair o (RetData k) (Plain v) e st e1 e2 p = cc
  stuck_pair o (Plain w) (RetCode i) e st e1 e2 p = cc
  stuck_pair o (Plain w) (RetData k) e st e1 e2 p = cc
  stuck_pair o (RetCode i) (RetCode j) e st e1 e2 p = cc
  stuck_pair o (RetCode i) (RetData k) e st e1 e2 p = cc
  stuck_pair o (RetData k) (RetCode i) e st e1 e2 p = cc
  stuck_pair o (RetData k) (RetData j) e st e1 e2 p = cc

  hop_is : (n : ℕ) (p : PartSeen) (k number : ℕ) (c : Content) (cap : CapFields) → memory_content c ≡ Some cap
      → cap ≡ code_at (ranges_of p) k
      → entry_number (owner_of n p) (Memory (code_at (ranges_of p) k)) ≡ Some number
      → pair_to (hop_by (owner_of n p) c) ≡ pair.Hop n number
  unfolding owner_of
  hop_is n p k number (MemC y) cap m e num =
      let q : y ≡ cap = cc in
      ap (λ z. pair_to (hop_to (owner_of n p) (entry_number (owner_of n p) (Memory z)))) (q ∙ e)
      ∙ ap (λ o. pair_to (hop_to (owner_of n p) o)) num
  hop_is n p k number (SealC y) cap m e num = cc

  module _ (fs : List OpenFrame) (w v : Word) (sw : IsShown G fs (Plain w)) (sv : IsShown G fs (Plain v))
      (hw : is_half w ≡ true) (hv : is_half v ≡ true) (code half : Opened) (e1 : opened_of w ≡ Some code)
      (e2 : opened_of v ≡ Some half) (n2 : content_linear half.content ≡ false) (f : JumpFacts code half)
    where
      abbrev Fed : PassedPair → Type 0
      Fed k = PairIs G linked Begin (pair_fed W (feed_pair G.layout k)) (Plain w) (Plain v)

      code_is : w ≡ Sealed code.seal (MemIn f.cap)
      code_is = opened_is w code f.cap e1 f.memory

      half_is_word : v ≡ Sealed code.seal (inner half.content)
      half_is_word = half_word v half e2 ∙ ap (λ n. Sealed n (inner half.content)) (sym f.one_seal)

      -- under a seal of untrusted code
      not_its : IsSafeCap G fs f.cap → is_trusted G.layout (face_of (Mem f.cap)) ≡ false
      not_its safe = by (find (runs_part f.cap) G.layout.owners) refl
        where
          by : (o : Option Owner) → find (runs_part f.cap) G.layout.owners ≡ o → is_some o ≡ false
          by None e = refl
          by (Some o) e =
              let h = linked.owners f.cap o e in
              absurd (not_trusted G linked fs h.0 f.cap h.1 safe (ap (λ (c : CapFields). c.base) h.2)
              (ap (λ (c : CapFields). c.end) h.2))

      led : Leads_to G linked fs code.seal f.cap (unsealed half.content) → Fed (pair_under G.layout code)
      led (to_safe op a b) =
          let out : pair_under G.layout code ≡ pair.Out =
          ap (λ o. pair_to (hop_in o code.content)) (open_no_owner G linked code.seal op) in
          subst Fed (sym out) (record {
            called = record {
              first = half_is (Plain w) hw;
              second = half_is (Plain v) hv;
              means = (
                f.cap,
                inner half.content,
                code.seal,
                record {
                  code = ap Plain code_is;
                  half = ap Plain half_is_word;
                  normal = f.normal;
                  runs = f.runs;
                  half_normal = linear_is code.seal half.content ∙ n2;
                  half_rests = ap runs_in (content_is half.content) ∙ not-true (runs_in half.content) f.rests;
                  foreign = open_foreign G linked Begin code.seal op;
                },
                not_its a,
              );
            };
            shown = sw.1;
            shown_too = sv.1;
          })
      led (to_entry p k ip en sc ec ed) =
          let n = index_of parts p ip.0 in
          let named = told.named n.0 p n.1 ip.1 in
          let entry = told.entries n.0 k p n.1 ip.1 en in
          let h = home_of modules parts aligned n.0 p n.1 ip.1 in
          let sealed : w ≡ Sealed p.component.closure (MemIn (code_at (ranges_of p) k)) =
          code_is ∙ ap (λ z. Sealed code.seal (MemIn z)) ec
          ∙ ap (λ z. Sealed z (MemIn (code_at (ranges_of p) k))) sc in
          let shared : IsSharedAt p.component k = sw.1 p k ip sealed in
          let to = entry_found modules parts aligned (apart parts size s is) resolved h.0 p h.1 k entry.export
          _ _
          entry.first shared named.name entry.name in
          let hop : pair_under G.layout code ≡ pair.Hop n.0 entry.number =
          ap (λ o. pair_to (hop_in o code.content)) (ap (closure_owner G.layout) sc ∙ named.by_closure)
          ∙ hop_is n.0 p k entry.number code.content f.cap f.memory ec entry.number_is in
          subst Fed (sym hop) (subst
          (λ o. PairIs G linked Begin (Some (pair_found o)) (Plain w) (Plain v)) (sym to.1) (record {
            called = record {
              first = half_is (Plain w) hw;
              second = half_is (Plain v) hv;
              means = (
                p,
                k,
                p.component.closure,
                to.2,
                ip,
                subst (λ x. Sealing G linked Begin (code_at (ranges_of p) k)
                    (MemIn (data_cap (ranges_of p) (pos p.component.data_base))) p.component.closure (Plain x)
                    (Plain v))
                    (sym sealed) (subst (λ x. Sealing G linked Begin (code_at (ranges_of p) k)
                    (MemIn (data_cap (ranges_of p) (pos p.component.data_base))) p.component.closure
                    (Plain (Sealed p.component.closure (MemIn (code_at (ranges_of p) k)))) (Plain x))
                    (sym (half_is_word ∙ ap (λ z. Sealed z (inner half.content)) sc
                    ∙ ap (Sealed p.component.closure) (data_word half (whole_data p) ed)))
                    (trusted_pair G linked Begin p k ip)),
              );
            };
            shown = sw.1;
            shown_too = sv.1;
          }))

      gone : Fed (pair_under G.layout code)
      gone = led (leads_to G linked fs w v code half f.cap sw.0 sv.0 e1 e2 f.one_seal f.memory f.runs f.rests)

  -- what the feed tells of two words that untrusted code may hold
  pub fed_words : (o : OState) (w v : OWord) → IsShown G o.frames w → IsShown G o.frames v
      → PairIs G linked Begin (pair_fed W (feed_pair G.layout
      (pair_of G.layout (flat G.layout o.frames w) (flat G.layout o.frames v)))) w v
  fed_words o w v sw sv =
      subst (λ k. PairIs G linked Begin (pair_fed W (feed_pair G.layout k)) w v)
      (sym (own G o w v linked sw.0 sv.0))
      (by_first (if_normal (opened_of (look w))) (if_normal (opened_of (look v))) refl refl)
    where
      both : (w v : OWord) (b : Bool) (code half : Opened) → own_goes G.layout o w v ≡ b
          → IsShown G o.frames w
          → IsShown G o.frames v → if_normal (opened_of (look w)) ≡ Some code
          → if_normal (opened_of (look v)) ≡ Some half
          → PairIs G linked Begin
          (pair_fed W (feed_pair G.layout (if b then pair_under G.layout code else pair.Bad))) w v
      both w v false code half g sw sv e1 e2 = record {
        called = record {
          first = half_is w (normal_is (look w) code e1).1;
          second = half_is v (normal_is (look v) half e2).1;
          means = stuck_pair o w v g;
        };
        shown = sw.1;
        shown_too = sv.1;
      }
      both (Plain w) (Plain v) true code half g sw sv e1 e2 =
          let a = normal_is w code e1 in
          let b = normal_is v half e2 in
          let j = jump_facts w v g in
          let sc : j.0 ≡ code = (let z : Some j.0 ≡ Some code = sym j.2 ∙ a.0 in cc) in
          let sh : j.1 ≡ half = (let z : Some j.1 ≡ Some half = sym j.3 ∙ b.0 in cc) in
          gone o.frames w v sw sv a.1 b.1 code half a.0 b.0 b.2
          (subst (λ x. JumpFacts x half) sc (subst (JumpFacts j.0) sh j.4))
      both (RetCode i) (Plain v) true code half g sw sv e1 e2 = cc
      both (RetCode i) (RetCode j) true code half g sw sv e1 e2 = cc
      both (Plain w) (RetCode i) true code half g sw sv e1 e2 = cc
      both (RetData k) v true code half g sw sv e1 e2 = cc
      both w (RetData k) true code half g sw sv e1 e2 = cc

      by_first : (a b : Option Opened) → if_normal (opened_of (look w)) ≡ a
          → if_normal (opened_of (look v)) ≡ b
          → PairIs G linked Begin (pair_fed W (feed_pair G.layout (own_pair G.layout o w v))) w v
      by_first None b e1 e2 =
          subst (λ k. PairIs G linked Begin (pair_fed W (feed_pair G.layout k)) w v)
          (sym (ap (λ x. pair_if (own_goes G.layout o w v) G.layout x (if_normal (opened_of (look v)))) e1))
          (and_left (is_half (look w)) (is_half (look v)) (normal_none (look w) e1))
      by_first (Some code) None e1 e2 =
          subst (λ k. PairIs G linked Begin (pair_fed W (feed_pair G.layout k)) w v)
          (sym (ap (λ x. pair_if (own_goes G.layout o w v) G.layout x (if_normal (opened_of (look v)))) e1
          ∙ ap (pair_if (own_goes G.layout o w v) G.layout (Some code)) e2))
          (and_right (is_half (look w)) (is_half (look v)) (normal_none (look v) e2))
      by_first (Some code) (Some half) e1 e2 =
          subst (λ k. PairIs G linked Begin (pair_fed W (feed_pair G.layout k)) w v)
          (sym (ap (λ x. pair_if (own_goes G.layout o w v) G.layout x (if_normal (opened_of (look v)))) e1
          ∙ ap (pair_if (own_goes G.layout o w v) G.layout (Some code)) e2))
          (both w v (own_goes G.layout o w v) code half refl sw sv e1 e2)
