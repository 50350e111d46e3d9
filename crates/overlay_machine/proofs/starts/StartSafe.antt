-- The words of a start are safe: those of open cells, both halves of each export, and the stack's capability.
use Rattle.std.proofs.Common.{◌≡◌, inl, inr, ℕ, ◌+◌, ◌≤◌, Bool, true, false, [], length, Some, refl, sym}
use Rattle.std.proofs.Common.{subst, ◌∙◌, arith, eq-eqb}
use Rattle.std.specs.Prelude.{slice_get}
use Rattle.std.specs.List.{Contains}
use Rattle.std.proofs.lemmas.Option.{slice_get_within}
use Rattle.cap_words.specs.declared.Word.{Word}
use Rattle.cap_words.specs.declared.Word.TheVariants.{Int, Mem, Seal, Sealed}
use Rattle.cap_words.specs.declared.CapFields.{CapFields}
use Rattle.cap_words.specs.Faces.{may_run}
use Rattle.linked_starts.specs.Parts.{PartSeen, IsPart}
use Rattle.linked_starts.specs.Start.{Exported, code_of, data_of, code_half, data_half, whole_stack_cap}
use Rattle.linked_starts.specs.Start.{start_cell}
use Rattle.linked_starts.proofs.Offers.{whole, in_stretch, OwnCap, over_code, over_data, over_linear}
use Rattle.linked_starts.proofs.Offers.{OwnWord, own_code as own_code_word, own_data as own_data_word}
use Rattle.linked_starts.proofs.Offers.{data_number, IsExport, CellIs, of_code, of_data, of_slot, of_none}
use Rattle.linked_starts.proofs.Offers.{cell_is}
use Rattle.overlay_machine.specs.declared.words.OWord.TheVariants.{Plain}
use Rattle.overlay_machine.specs.Link.{Link, IsUntrusted, IsUsable, own_code, own_data, own_linear, the_stack}
use Rattle.overlay_machine.specs.Link.{IsOpenAt, code_region, data_region, stack_region}
use Rattle.overlay_machine.specs.Safe.{IsSafeCap, IsOpenSeal, IsSafeWord, IsSafe}
use Rattle.overlay_machine.proofs.starts.ListFacts.{listed_at}

module _ (g : Link) (parts : (p : PartSeen) → Contains g.parts p → IsPart p) where
  -- ---- capabilities over areas of an untrusted part

  code_usable : (p : PartSeen) → IsUntrusted g p → IsUsable g (code_region p) true
  code_usable p u =
      own_code p (code_region p)
      u (in_stretch p.component.code_base (length p.component.code) false (parts p u.0).limits.code.0.0)

  data_usable : (p : PartSeen) → IsUntrusted g p → IsUsable g (data_region p) false
  data_usable p u =
      own_data p (data_region p)
      u (in_stretch p.component.data_base (length p.component.data_words)
      false (parts p u.0).limits.data_words.0.0)

  no_run : (c : CapFields) → may_run c.perm ≡ false → may_run c.perm ≡ true → false ≡ true
  no_run c f t = sym f ∙ t

  own_cap_safe : (p : PartSeen) (c : CapFields) → IsUntrusted g p → c.base ≤ c.end → OwnCap p.component c
      → IsSafeCap g [] c
  own_cap_safe p c u order (over_code lin h) =
      let high = h.1 in
      record {
        area = code_region p;
        runs = true;
        usable = code_usable p u;
        low = h.0;
        order = order;
        high = omega (arith, high);
        lin = lin;
        may = λ e. refl;
        free = λ a low up. refl;
      }
  own_cap_safe p c u order (over_data lin run h) =
      let high = h.1 in
      record {
        area = data_region p;
        runs = false;
        usable = data_usable p u;
        low = h.0;
        order = order;
        high = omega (arith, high);
        lin = lin;
        may = no_run c run;
        free = λ a low up. refl;
      }
  own_cap_safe p c u order (over_linear lin run h) =
      let low = h.0 in
      let high = h.1 in
      record {
        area = whole p.component.linear.base p.component.linear.count true;
        runs = false;
        usable = own_linear p (whole p.component.linear.base p.component.linear.count true)
            u (in_stretch p.component.linear.base p.component.linear.count true
            (omega (arith, low, high, order)));
        low = low;
        order = order;
        high = omega (arith, high);
        lin = lin;
        may = no_run c run;
        free = λ a low' up. refl;
      }

  own_word_safe : (p : PartSeen) (w : Word) → IsUntrusted g p → OwnWord p.component w → IsSafe g [] (Plain w)
  own_word_safe p (Int z) u h = tt
  own_word_safe p (Mem c) u h = own_cap_safe p c u h.0 h.1
  own_word_safe p (Seal s) u h = record { of = p; untrusted = u; low = h.1.0; order = h.0; high = h.1.1 }
  own_word_safe p (Sealed o x) u h = absurd h

  -- ---- the halves of an export

  -- over the whole code of an untrusted part, at an export
  pub code_safe : (x : Exported) → IsUntrusted g x.part → IsSafeCap g [] (code_of x)
  code_safe x u =
      let some = (parts x.part u.0).limits.code.0.0 in
      record {
        area = code_region x.part;
        runs = true;
        usable = code_usable x.part u;
        low = omega arith;
        order = omega (arith, some);
        high = omega arith;
        lin = refl;
        may = λ e. refl;
        free = λ a low up. refl;
      }

  -- over its whole data
  pub data_safe : (p : PartSeen) → IsUntrusted g p → IsSafeCap g [] (data_of p)
  data_safe p u =
      let some = (parts p u.0).limits.data_words.0.0 in
      record {
        area = data_region p;
        runs = false;
        usable = data_usable p u;
        low = omega arith;
        order = omega (arith, some);
        high = omega arith;
        lin = refl;
        may = λ e. e;
        free = λ a low up. refl;
      }

  open_closure : (p : PartSeen) → IsUntrusted g p → IsOpenSeal g p.component.closure
  open_closure p u = let t = eq-eqb p.component.closure p.component.closure refl in (p, u, rw t refl)

  pub code_half_safe : (x : Exported) → IsExport g.parts x → IsSafe g [] (Plain (code_half x))
  code_half_safe x is = by_mark x.part.trusted refl
    where
      by_mark : (b : Bool) → x.part.trusted ≡ b → IsSafeWord g [] (code_half x)
      by_mark true t = inr (x, (listed_at g.parts is.index x.part is.at, t), is.listed, inl refl)
      by_mark false t = let u : IsUntrusted g x.part =
          (listed_at g.parts is.index x.part is.at, t) in inl (open_closure x.part u, code_safe x u)

  pub data_half_safe : (x : Exported) → IsExport g.parts x → IsSafe g [] (Plain (data_half x))
  data_half_safe x is = by_mark x.part.trusted refl
    where
      by_mark : (b : Bool) → x.part.trusted ≡ b → IsSafeWord g [] (data_half x)
      by_mark true t = inr (x, (listed_at g.parts is.index x.part is.at, t), is.listed, inr refl)
      by_mark false t = let u : IsUntrusted g x.part =
          (listed_at g.parts is.index x.part is.at, t) in inl (open_closure x.part u, data_safe x.part u)

  -- ---- the stack's

  pub stack_safe : g.layout.stack.base ≤ g.layout.stack.end
      → IsSafe g [] (Plain (Mem (whole_stack_cap g.layout.stack)))
  stack_safe order = record {
    area = stack_region g.layout;
    runs = false;
    usable = the_stack;
    low = omega arith;
    order = order;
    high = omega arith;
    lin = refl;
    may = λ e. e;
    free = λ a low up. refl;
  }

  -- ---- cells

  -- each cell outside the code of trusted parts
  pub cell_safe : (size a : ℕ) (w : Word) → IsOpenAt g a → start_cell g.parts size a ≡ Some w
      → IsSafe g [] (Plain w)
  cell_safe size a w open' e = by_cell (cell_is g.parts size a w e)
    where
      trusted_code : (k o : ℕ) (p : PartSeen) → slice_get g.parts k ≡ Some p → p.trusted ≡ true
          → slice_get p.component.code o ≡ Some w → a ≡ p.component.code_base + o → ⊥
      trusted_code k o p at t word here =
          let lt = slice_get_within p.component.code o w word in
          elim (open' p (listed_at g.parts k p at, t)) as (λ _. ⊥)
          [ inl u ↦ omega (arith, u, here) | inr u ↦ omega (arith, u, here, lt) ]

      in_code : (b : Bool) (k o : ℕ) (p : PartSeen) → p.trusted ≡ b → slice_get g.parts k ≡ Some p
          → slice_get p.component.code o ≡ Some w → a ≡ p.component.code_base + o → IsSafe g [] (Plain w)
      in_code true k o p t at word here = absurd (trusted_code k o p at t word here)
      in_code false k o p t at word here = let m =
          listed_at g.parts k p at in own_word_safe p w (m, t) (own_code_word p (parts p m) o w word)

      in_data : (b : Bool) (k o : ℕ) (p : PartSeen) → p.trusted ≡ b → slice_get g.parts k ≡ Some p
          → slice_get p.component.data_words o ≡ Some w → IsSafe g [] (Plain w)
      in_data true k o p t at word = let z = data_number p (parts p (listed_at g.parts k p at)) t o w word in
          subst (λ y. IsSafe g [] (Plain y)) (sym z.1) tt
      in_data false k o p t at word = let m =
          listed_at g.parts k p at in own_word_safe p w (m, t) (own_data_word p (parts p m) o w word)

      by_cell : CellIs g.parts a w → IsSafe g [] (Plain w)
      by_cell (of_code k o p at word here) = in_code p.trusted k o p refl at word here
      by_cell (of_data k o p at word here) = in_data p.trusted k o p refl at word
      by_cell (of_slot x is (inl h)) = subst (λ y. IsSafe g [] (Plain y)) (sym h) (code_half_safe x is)
      by_cell (of_slot x is (inr h)) = subst (λ y. IsSafe g [] (Plain y)) (sym h) (data_half_safe x is)
      by_cell (of_none h) = subst (λ y. IsSafe g [] (Plain y)) (sym h) tt
