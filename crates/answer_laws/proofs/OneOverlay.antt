-- A start has one overlay.
use Rattle.std.proofs.Common.{◌≡◌, ℕ, List, Option, sym, ap, ◌∙◌}
use Rattle.std.specs.Ordering.{nat_cmp}
use Rattle.std.specs.FinMap.{FinMap}
use Rattle.lcm_isa.specs.declared.Reg.{Reg}
use Rattle.lcm_isa.specs.declared.Reg.TheVariants.{Pc, Rcode, Rdata, Stk, Dat, T1, T2, C1, C2, A0, A1, A2, A3}
use Rattle.lcm_isa.specs.declared.Reg.TheVariants.{G0, G1, G2}
use Rattle.lcm_machine.specs.declared.cells.Span.{Span}
use Rattle.lcm_machine.specs.Maps.{Regs}
use Rattle.lcm_machine.specs.Places.{reg}
use Rattle.lcm_machine.proofs.Offers.{same_cells}
use Rattle.linked_starts.specs.Started.{StartSeen}
use Rattle.linked_starts.specs.declared.owners.Site.{Site}
use Rattle.linked_starts.specs.declared.owners.Owner.{Owner}
use Rattle.trusted_border.specs.declared.layout.Layout.{Layout}
use Rattle.overlay_machine.specs.declared.overlay.OEnd.{OEnd}
use Rattle.overlay_machine.specs.declared.words.OWord.{OWord}
use Rattle.overlay_machine.specs.State.{OpenFrame, OState}
use Rattle.overlay_machine.specs.Seen.{OverlaySeen, IsOverlayOf}

-- registers that hold the same words are the same
same_fields : {W : Type 0} (a b c d e f g h i j k l m n o p : W) (q r s t u v w x y z aa bb cc_ dd ee ff : W)
    → a ≡ q → b ≡ r → c ≡ s → d ≡ t → e ≡ u → f ≡ v → g ≡ w → h ≡ x → i ≡ y → j ≡ z → k ≡ aa → l ≡ bb → m
    ≡ cc_ → n ≡ dd → o ≡ ee → p ≡ ff
    → (let x1 : Regs W = record {
      pc = a;
      rcode = b;
      rdata = c;
      stk = d;
      dat = e;
      t1 = f;
      t2 = g;
      c1 = h;
      c2 = i;
      a0 = j;
      a1 = k;
      a2 = l;
      a3 = m;
      g0 = n;
      g1 = o;
      g2 = p;
    } in x1)
    ≡ record {
      pc = q;
      rcode = r;
      rdata = s;
      stk = t;
      dat = u;
      t1 = v;
      t2 = w;
      c1 = x;
      c2 = y;
      a0 = z;
      a1 = aa;
      a2 = bb;
      a3 = cc_;
      g0 = dd;
      g1 = ee;
      g2 = ff;
    }
same_fields a b c d e f g h i j k l m n o p q r s t u v w x y z aa bb cc_ dd ee ff e0 e1 e2 e3 e4 e5 e6 e7 e8
    e9 e10 e11 e12 e13 e14 e15 = cc

same_regs : {W : Type 0} (m n : Regs W) → ((r : Reg) → reg m r ≡ reg n r) → m ≡ n
same_regs m n h = same_fields _ _ _ _ _ _ _ _ _ _ _ _ _ _ _ _ _ _ _ _ _ _ _ _ _ _ _ _ _ _ _ _ (h Pc) (h Rcode)
    (h Rdata) (h Stk) (h Dat) (h T1) (h T2) (h C1) (h C2) (h A0) (h A1) (h A2) (h A3) (h G0) (h G1) (h G2)

layout_of : List Site → List Owner → Span → Layout
layout_of sites owners stack = record { sites = sites; owners = owners; stack = stack }

same_layout : (l m : Layout) → l.sites ≡ m.sites → l.owners ≡ m.owners → l.stack ≡ m.stack → l ≡ m
unfolding layout_of
same_layout l m a b c = ap (λ x. layout_of x l.owners l.stack) a ∙ ap (λ x. layout_of m.sites x l.stack) b
    ∙ ap (layout_of m.sites m.owners) c

state_of : Regs OWord → FinMap nat_cmp OWord → List Span → List OpenFrame → ℕ → OState
state_of regs cells spans frames calls = record {
  maps = record { regs = regs; cells = cells; spans = spans };
  frames = frames;
  calls = calls;
}

same_state : (s t : OState) → s.maps.regs ≡ t.maps.regs → s.maps.cells ≡ t.maps.cells → s.maps.spans
    ≡ t.maps.spans → s.frames ≡ t.frames → s.calls ≡ t.calls → s ≡ t
unfolding state_of
same_state s t a b c d e =
    ap (λ x. state_of x s.maps.cells s.maps.spans s.frames s.calls) a
    ∙ ap (λ x. state_of t.maps.regs x s.maps.spans s.frames s.calls) b
    ∙ ap (λ x. state_of t.maps.regs t.maps.cells x s.frames s.calls) c
    ∙ ap (λ x. state_of t.maps.regs t.maps.cells t.maps.spans x s.calls) d
    ∙ ap (state_of t.maps.regs t.maps.cells t.maps.spans t.frames) e

overlay_with : Layout → OState → ℕ → Option OEnd → OverlaySeen
overlay_with layout state weight end = record { layout = layout; state = state; weight = weight; end = end }

same_overlay : (o p : OverlaySeen) → o.layout ≡ p.layout → o.state ≡ p.state → o.weight ≡ p.weight → o.end
    ≡ p.end → o ≡ p
unfolding overlay_with
same_overlay o p a b c d =
    ap (λ x. overlay_with x o.state o.weight o.end) a ∙ ap (λ x. overlay_with p.layout x o.weight o.end) b
    ∙ ap (λ x. overlay_with p.layout p.state x o.end) c
    ∙ ap (overlay_with p.layout p.state p.weight) d

pub one_overlay : (s : StartSeen) (o p : OverlaySeen) → IsOverlayOf s o → IsOverlayOf s p → o ≡ p
one_overlay s o p h k =
    same_overlay o p (same_layout o.layout p.layout (h.sites ∙ sym k.sites) (h.owners ∙ sym k.owners) (h.stack
    ∙ sym k.stack))
    (same_state o.state p.state (same_regs o.state.maps.regs p.state.maps.regs (λ r. h.regs r
    ∙ sym (k.regs r)))
    (same_cells o.state.maps.cells p.state.maps.cells (λ a. h.cells a ∙ sym (k.cells a))) (h.spans
    ∙ sym k.spans) (h.frames ∙ sym k.frames) (h.calls ∙ sym k.calls))
    (h.weight ∙ sym k.weight) (h.end ∙ sym k.end)
