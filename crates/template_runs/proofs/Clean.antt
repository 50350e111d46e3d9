-- What stretches of a run leave in the cells that code outside could reach, beside cells that are live: those
-- that a procedure uses, and that hold 0 once it has ended.
use Rattle.std.proofs.Common.{◌≡◌, ◌≢◌, ◌⊎◌, inl, inr, ℕ, ◌+◌, ◌-◌, ◌<◌, ◌≤◌, List, ◌∷◌, length, Option, Some}
use Rattle.std.proofs.Common.{None, sym, ap, ◌∙◌, arith}
use Rattle.std.proofs.lemmas.Bool.{cases_eq, cases_lt}
use Rattle.lcm_machine.specs.Cells.{cell, set_cell, without, put_back}
use Rattle.lcm_machine.proofs.Offers.{cell-set_other, cell-without_in, cell-without_out}
use Rattle.call_sequence.specs.SequenceRuns.{IsOutsideRange}
use Rattle.overlay_machine.specs.declared.words.OWord.{OWord}
use Rattle.overlay_machine.specs.State.{OState, Cells}
use Rattle.overlay_machine.specs.Link.{Link}
use Rattle.overlay_machine.specs.Linked.{IsLink}
use Rattle.overlay_machine.proofs.Offers.{put_back-in, put_back-other}
use Rattle.template_runs.specs.Public.{IsFreeAt}
use Rattle.template_runs.specs.Border.{IsWipedFrom, zero, low_at}
use Rattle.template_runs.proofs.Rows.{stack_free}

-- the live cells: so many, from the top one down; and of how many, from there down, it was told that they are
-- wiped
pub record Live : Type 0 where
  pub words : ℕ
  pub top : ℕ
  pub told : ℕ

-- those of a procedure's slots, of which it was told
abbrev pub used : ℕ → ℕ → Live
used words top = record { words = words; top = top; told = words }

-- those of which it wasn't told yet: of a procedure that begins, and of a frame that comes back
abbrev pub untold : ℕ → ℕ → Live
untold words top = record { words = words; top = top; told = 0 }

-- none, where a procedure has ended
abbrev pub ended : ℕ → Live
ended top = record { words = 0; top = top; told = 1 }

-- none, where code outside runs
abbrev pub none : Live
none = untold 0 0

abbrev pub NotIn : Live → ℕ → Type 0
NotIn l a = (a + l.words ≤ l.top) ⊎ (l.top < a)

-- which is the lowest one, where one more stretch is wiped
abbrev pub IsLower : Option ℕ → ℕ → ℕ → Type 0
IsLower None j m = m ≡ j
IsLower (Some n) j m = (m ≤ j) × (m ≤ n) × ((m ≡ j) ⊎ (m ≡ n))

not_in : (l : Live) (a : ℕ) → l.words ≡ 0 → NotIn l a
not_in l a e = elim (cases_lt l.top a) as (λ _. NotIn l a) [
  | inl lt ↦ inr lt
  | inr ge ↦ inl (omega (arith, ge, e))
]

-- a frame's first cell comes back as 0, the others with their words, and those beside it stay
pub first_back : (m : Cells) (base : ℕ) (ws : List OWord)
    → cell (put_back m base (zero ∷ ws)) base ≡ Some zero
first_back m base ws =
    let b0 : base + 0 ≡ base = omega arith in
    let n : 0 < length (zero ∷ ws) = omega arith in
    ap (cell (put_back m base (zero ∷ ws))) (sym b0) ∙ put_back-in m base (zero ∷ ws) 0 n

module _ (g : Link) where
  abbrev SB : ℕ
  SB = g.layout.stack.base

  -- Since a state, beside the live cells, those from the lowest one that was told of up to the top hold 0,
  -- and all others are as they were. Those of which it was told are none below the lowest.
  pub record Clean (b : OState) (low : Option ℕ) (l : Live) (o : OState) : Type 0 where
    pub wiped : (a : ℕ) (w : OWord) → IsFreeAt g a → NotIn l a → low_at SB l.top low ≤ a → a ≤ l.top
        → cell o.maps.cells a ≡ Some w → w ≡ zero
    pub kept : (a : ℕ) (w : OWord) → IsFreeAt g a → NotIn l a → IsOutsideRange a (low_at SB l.top low) l.top
        → cell o.maps.cells a ≡ Some w → cell b.maps.cells a ≡ Some w
    pub covers : (a : ℕ) → SB ≤ a → l.top < a + l.told → a ≤ l.top → low_at SB l.top low ≤ a

  -- where trusted code is come to, with the cells as code outside left them
  pub clean_first : (b o : OState) (top : ℕ) → o.maps.cells ≡ b.maps.cells → Clean b None (untold 0 top) o
  clean_first b o top same = record {
    wiped = λ a w free out lo hi there. absurd (omega (arith, lo, hi));
    kept = λ a w free out far there. ap (λ m. cell m a) (sym same) ∙ there;
    covers = λ a lo from hi. absurd (omega (arith, from, hi));
  }

  module _ (b : OState) where
    pub clean_same : (low : Option ℕ) (l : Live) (o q : OState) → q.maps.cells ≡ o.maps.cells
        → Clean b low l o → Clean b low l q
    clean_same low l o q same h = record {
      wiped = λ a w free out lo hi there. h.wiped a w free out lo hi (ap (λ m. cell m a) (sym same) ∙ there);
      kept = λ a w free out far there. h.kept a w free out far (ap (λ m. cell m a) (sym same) ∙ there);
      covers = h.covers;
    }

    -- a cell is set that is live, or a trusted part's own
    pub clean_set : (low : Option ℕ) (l : Live) (o q : OState) (c : ℕ) (x : OWord)
        → q.maps.cells ≡ set_cell o.maps.cells c x → ((a : ℕ) → IsFreeAt g a → NotIn l a → a ≢ c)
        → Clean b low l o → Clean b low l q
    clean_set low l o q c x set other h = record {
      wiped = λ a w free out lo hi there. h.wiped a w free out lo hi (before a w free out there);
      kept = λ a w free out far there. h.kept a w free out far (before a w free out there);
      covers = h.covers;
    }
      where
        before : (a : ℕ) (w : OWord) → IsFreeAt g a → NotIn l a → cell q.maps.cells a ≡ Some w
            → cell o.maps.cells a ≡ Some w
        before a w free out there =
            sym (cell-set_other o.maps.cells c a x (other a free out)) ∙ ap (λ m. cell m a) (sym set) ∙ there

    -- a procedure begins: its slots are live, and told of as wiped
    pub clean_begins : (low : Option ℕ) (words top j m : ℕ) (o : OState) → IsLower low j m
        → j ≡ top + 1 - SB - words → Clean b low (untold 0 top) o → Clean b (Some m) (used words top) o
    clean_begins None words top j m o is e h = record {
      wiped = λ a w free out lo hi there. absurd (past a out lo hi);
      kept = λ a w free out far there. h.kept a w free (not_in (untold 0 top) a (omega arith))
          (elim (cases_lt top a) as (λ _. IsOutsideRange a (top + 1) top) [
            | inl lt ↦ inr lt
            | inr le ↦ inl (omega (arith, le))
          ]) there;
      covers = λ a lo from hi. omega (arith, lo, from, hi, e, is);
    }
      where
        past : (a : ℕ) → NotIn (used words top) a → SB + m ≤ a → a ≤ top → ⊥
        past a (inl out) lo hi = omega (arith, out, lo, hi, e, is)
        past a (inr out) lo hi = omega (arith, out, hi)
    clean_begins (Some n) words top j m o is e h = record {
      wiped = λ a w free out lo hi there. by a w free out lo hi there is.2;
      kept = λ a w free out far there. h.kept a w free (not_in (untold 0 top) a (omega arith))
          (wider a far) there;
      covers = λ a lo from hi. (let l = is.0 in omega (arith, lo, from, hi, e, l));
    }
      where
        past : (a : ℕ) → NotIn (used words top) a → SB + j ≤ a → a ≤ top → ⊥
        past a (inl out) lo hi = omega (arith, out, lo, hi, e)
        past a (inr out) lo hi = omega (arith, out, hi)

        wider : (a : ℕ) → IsOutsideRange a (SB + m) top → IsOutsideRange a (SB + n) top
        wider a (inl lt) = (let l = is.1 in inl (omega (arith, lt, l)))
        wider a (inr gt) = inr gt

        by : (a : ℕ) (w : OWord) → IsFreeAt g a → NotIn (used words top) a → SB + m ≤ a → a ≤ top
            → cell o.maps.cells a ≡ Some w → (m ≡ j) ⊎ (m ≡ n) → w ≡ zero
        by a w free out lo hi there (inl mj) = absurd (past a out (omega (arith, lo, mj)) hi)
        by a w free out lo hi there (inr mn) =
            h.wiped a w free (not_in (untold 0 top) a (omega arith)) (omega (arith, lo, mn)) hi there

    -- a frame has come back to its procedure, the first cell as 0, and is told of
    pub clean_answered : (low : Option ℕ) (words top j m : ℕ) (o : OState) → IsLower low j m
        → SB + j + words ≡ top → cell o.maps.cells (top - words) ≡ Some zero
        → Clean b low (untold (words + 1) top) o → Clean b (Some m) (used words top) o
    clean_answered None words top j m o is e first h = record {
      wiped = λ a w free out lo hi there. at_first a w out lo hi there;
      kept = λ a w free out far there. h.kept a w free (beside a far) (wider a) there;
      covers = λ a lo from hi. omega (arith, from, e, is);
    }
      where
        at_first : (a : ℕ) (w : OWord) → NotIn (used words top) a → SB + m ≤ a → a ≤ top
            → cell o.maps.cells a ≡ Some w → w ≡ zero
        at_first a w (inl out) lo hi there =
            let at : top - words ≡ a = omega (arith, out, lo, e, is) in
            let s : Some zero ≡ Some w = sym first ∙ ap (cell o.maps.cells) at ∙ there in
            cc
        at_first a w (inr out) lo hi there = absurd (omega (arith, out, hi))

        beside : (a : ℕ) → IsOutsideRange a (SB + m) top → NotIn (untold (words + 1) top) a
        beside a (inl lt) = inl (omega (arith, lt, e, is))
        beside a (inr gt) = inr gt

        wider : (a : ℕ) → IsOutsideRange a (top + 1) top
        wider a = elim (cases_lt top a) as (λ _. IsOutsideRange a (top + 1) top) [
          | inl lt ↦ inr lt
          | inr le ↦ inl (omega (arith, le))
        ]
    clean_answered (Some n) words top j m o is e first h = record {
      wiped = λ a w free out lo hi there. by a w free out lo hi there (cases_eq a (top - words)) is.2;
      kept = λ a w free out far there. h.kept a w free (beside a far) (wider a far) there;
      covers = λ a lo from hi. (let l = is.0 in omega (arith, from, e, l));
    }
      where
        beside : (a : ℕ) → IsOutsideRange a (SB + m) top → NotIn (untold (words + 1) top) a
        beside a (inl lt) = (let l = is.0 in inl (omega (arith, lt, e, l)))
        beside a (inr gt) = inr gt

        wider : (a : ℕ) → IsOutsideRange a (SB + m) top → IsOutsideRange a (SB + n) top
        wider a (inl lt) = (let l = is.1 in inl (omega (arith, lt, l)))
        wider a (inr gt) = inr gt

        lower : (a : ℕ) → NotIn (used words top) a → a ≢ top - words → NotIn (untold (words + 1) top) a
        lower a (inl out) ne = inl (omega (arith, out, ne))
        lower a (inr out) ne = inr out

        past : (a : ℕ) → NotIn (used words top) a → a ≢ top - words → SB + j ≤ a → a ≤ top → ⊥
        past a (inl out) ne lo hi = omega (arith, out, ne, lo, e)
        past a (inr out) ne lo hi = omega (arith, out, hi)

        by : (a : ℕ) (w : OWord) → IsFreeAt g a → NotIn (used words top) a → SB + m ≤ a → a ≤ top
            → cell o.maps.cells a ≡ Some w → (a ≡ top - words) ⊎ (a ≢ top - words) → (m ≡ j) ⊎ (m ≡ n)
            → w ≡ zero
        by a w free out lo hi there (inl at) i =
            let s : Some zero ≡ Some w = sym first ∙ ap (cell o.maps.cells) (sym at) ∙ there in
            cc
        by a w free out lo hi there (inr ne) (inl mj) = absurd (past a out ne (omega (arith, lo, mj)) hi)
        by a w free out lo hi there (inr ne) (inr mn) =
            h.wiped a w free (lower a out ne) (omega (arith, lo, mn)) hi there

    -- a procedure has wiped its slots, and ends
    pub clean_ends : (low : Option ℕ) (words top : ℕ) (o : OState) → 0 < words → SB + words ≤ top + 1
        → ((a : ℕ) (w : OWord) → top < a + words → a ≤ top → cell o.maps.cells a ≡ Some w → w ≡ zero)
        → Clean b low (used words top) o → Clean b low (ended top) o
    clean_ends low words top o some room slots h = record {
      wiped = λ a w free out lo hi there. elim (cases_lt top (a + words)) as (λ _. w ≡ zero) [
        | inl gt ↦ slots a w gt hi there
        | inr le ↦ h.wiped a w free (inl le) lo hi there
      ];
      kept = λ a w free out far there. h.kept a w free (beside a far) far there;
      covers = λ a lo from hi. h.covers a lo (omega (arith, from, some)) hi;
    }
      where
        beside : (a : ℕ) → IsOutsideRange a (low_at SB top low) top → NotIn (used words top) a
        beside a (inr gt) = inr gt
        beside a (inl lt) = elim (cases_lt top (a + words)) as (λ _. NotIn (used words top) a) [
          | inr le ↦ inl le
          | inl gt ↦ elim (cases_lt top a) as (λ _. NotIn (used words top) a) [
            | inl over ↦ inr over
            | inr le ↦ absurd (let c = h.covers a (omega (arith, gt, room)) gt le in omega (arith, c, lt))
          ]
        ]

    -- another one begins, with the same stack
    pub clean_anew : (low : Option ℕ) (top : ℕ) (o : OState) → Clean b low (ended top) o
        → Clean b low (untold 0 top) o
    clean_anew low top o h =
        record { wiped = h.wiped; kept = h.kept; covers = λ a lo from hi. absurd (omega (arith, from, hi)) }

    -- a call takes the live cells away, and the one below them
    pub clean_call : (low : Option ℕ) (o q : OState) (words top : ℕ) → words + 1 ≤ top
        → q.maps.cells ≡ without o.maps.cells (top - words) top
        → Clean b low (used words top) o → Clean b low (untold 0 (top - words - 1)) q
    clean_call low o q words top room cells h = by low h
      where
        -- a cell that is there is in no frame
        apart : (a : ℕ) (w : OWord) → cell q.maps.cells a ≡ Some w → (a < top - words) ⊎ (top < a)
        apart a w there = elim (cases_lt a (top - words)) as (λ _. (a < top - words) ⊎ (top < a)) [
          | inl lt ↦ inl lt
          | inr ge ↦ elim (cases_lt top a) as (λ _. (a < top - words) ⊎ (top < a)) [
            | inl gt ↦ inr gt
            | inr le ↦ absurd
                (let s : None ≡ Some w = sym (cell-without_in o.maps.cells (top - words) top a ge le)
                ∙ ap (λ m. cell m a) (sym cells) ∙ there in cc)
          ]
        ]

        before : (a : ℕ) (w : OWord) → cell q.maps.cells a ≡ Some w → cell o.maps.cells a ≡ Some w
        before a w there =
            sym (cell-without_out o.maps.cells (top - words) top a (apart a w there))
            ∙ ap (λ m. cell m a) (sym cells) ∙ there

        beside : (a : ℕ) → (a < top - words) ⊎ (top < a) → NotIn (used words top) a
        beside a (inl lt) = inl (omega (arith, lt))
        beside a (inr gt) = inr gt

        by : (low : Option ℕ) → Clean b low (used words top) o → Clean b low (untold 0 (top - words - 1)) q
        by None h = record {
          wiped = λ a w free out lo hi there. absurd (omega (arith, lo, hi));
          kept = λ a w free out far there. h.kept a w free (beside a (apart a w there))
              (elim (cases_lt top a) as (λ _. IsOutsideRange a (top + 1) top) [
                | inl lt ↦ inr lt
                | inr le ↦ inl (omega (arith, le))
              ]) (before a w there);
          covers = λ a lo from hi. absurd (omega (arith, from, hi));
        }
        by (Some n) h = record {
          wiped = λ a w free out lo hi there. h.wiped a w free (inl (omega (arith, hi, room))) lo
              (omega (arith, hi)) (before a w there);
          kept = λ a w free out far there. h.kept a w free (beside a (apart a w there))
              (wider a far (apart a w there)) (before a w there);
          covers = λ a lo from hi. absurd (omega (arith, from, hi));
        }
          where
            wider : (a : ℕ) → IsOutsideRange a (SB + n) (top - words - 1) → (a < top - words) ⊎ (top < a)
                → IsOutsideRange a (SB + n) top
            wider a (inl lt) i = inl lt
            wider a (inr gt) (inl lt) = absurd (omega (arith, gt, lt))
            wider a (inr gt) (inr over) = inr over

    -- ---- a return brings them back, the first one as 0

    module _ (o q : OState) (words top : ℕ) (ws : List OWord) (room : words ≤ top)
        (cells : q.maps.cells ≡ put_back o.maps.cells (top - words) (zero ∷ ws))
        (len : length ws ≡ words) where
      beside_frame : (a : ℕ) → (a < top - words) ⊎ (top < a)
          → (a < top - words) ⊎ (top - words + length (zero ∷ ws) ≤ a)
      beside_frame a (inl lt) = inl lt
      beside_frame a (inr gt) = inr (omega (arith, gt, len, room))

      before_back : (a : ℕ) (w : OWord) → (a < top - words) ⊎ (top < a) → cell q.maps.cells a ≡ Some w
          → cell o.maps.cells a ≡ Some w
      before_back a w i there =
          sym (put_back-other o.maps.cells (top - words) (zero ∷ ws) a (beside_frame a i))
          ∙ ap (λ m. cell m a) (sym cells) ∙ there

      out_of : (a : ℕ) → NotIn (untold (words + 1) top) a → (a < top - words) ⊎ (top < a)
      out_of a (inl lt) = inl (omega (arith, lt))
      out_of a (inr gt) = inr gt

      -- of a call that is told of after it: nothing was told since code outside ran, or a procedure has
      -- ended
      pub clean_pending : (low : Option ℕ) (below told : ℕ) → below + 1 ≡ top - words
          → Clean b low (record { words = 0; top = below; told = told }) o
          → Clean b low (untold (words + 1) top) q
      clean_pending None below told joins h = record {
        wiped = λ a w free out lo hi there. absurd (omega (arith, lo, hi));
        kept = λ a w free out far there.
            h.kept a w free (not_in (record { words = 0; top = below; told = told }) a (omega arith))
            (elim (cases_lt below a) as (λ _. IsOutsideRange a (below + 1) below) [
              | inl lt ↦ inr lt
              | inr le ↦ inl (omega (arith, le))
            ]) (before_back a w (out_of a out) there);
        covers = λ a lo from hi. absurd (omega (arith, from, hi));
      }
      clean_pending (Some n) below told joins h = record {
        wiped = λ a w free out lo hi there. h.wiped a w free
            (not_in (record { words = 0; top = below; told = told }) a (omega arith)) lo
            (under a out hi) (before_back a w (out_of a out) there);
        kept = λ a w free out far there. h.kept a w free
            (not_in (record { words = 0; top = below; told = told }) a (omega arith)) (wider a far)
            (before_back a w (out_of a out) there);
        covers = λ a lo from hi. absurd (omega (arith, from, hi));
      }
        where
          under : (a : ℕ) → NotIn (untold (words + 1) top) a → a ≤ top → a ≤ below
          under a (inl lt) hi = omega (arith, lt, joins)
          under a (inr gt) hi = absurd (omega (arith, gt, hi))

          wider : (a : ℕ) → IsOutsideRange a (SB + n) top → IsOutsideRange a (SB + n) below
          wider a (inl lt) = inl lt
          wider a (inr gt) = inr (omega (arith, gt, joins))

      -- of a call inside, whose procedure has ended
      pub clean_back : (low : Option ℕ) (below : ℕ) → below + 1 ≡ top - words → SB ≤ below
          → Clean b low (ended below) o → Clean b low (used words top) q
      clean_back None below joins least h =
          absurd (let c = h.covers below least (omega arith) (omega arith) in omega (arith, c))
      clean_back (Some n) below joins least h =
          let c = h.covers below least (omega arith) (omega arith) in
          record {
            wiped = λ a w free out lo hi there. by a w free out lo hi there (cases_eq a (top - words));
            kept = λ a w free out far there. h.kept a w free (not_in (ended below) a (omega arith))
                (wider a far) (before_back a w (away a far c) there);
            covers = λ a lo from hi. omega (arith, from, joins, c);
          }
        where
          away : (a : ℕ) → IsOutsideRange a (SB + n) top → SB + n ≤ below → (a < top - words) ⊎ (top < a)
          away a (inl lt) c = inl (omega (arith, lt, c, joins))
          away a (inr gt) c = inr gt

          wider : (a : ℕ) → IsOutsideRange a (SB + n) top → IsOutsideRange a (SB + n) below
          wider a (inl lt) = inl lt
          wider a (inr gt) = inr (omega (arith, gt, joins))

          lower : (a : ℕ) → NotIn (used words top) a → a ≢ top - words → a ≤ top → a ≤ below
          lower a (inl lt) ne hi = omega (arith, lt, ne, joins)
          lower a (inr gt) ne hi = absurd (omega (arith, gt, hi))

          by : (a : ℕ) (w : OWord) → IsFreeAt g a → NotIn (used words top) a → SB + n ≤ a → a ≤ top
              → cell q.maps.cells a ≡ Some w → (a ≡ top - words) ⊎ (a ≢ top - words) → w ≡ zero
          by a w free out lo hi there (inl at) =
              let s : Some zero ≡ Some w =
              sym (first_back o.maps.cells (top - words) ws)
              ∙ ap (cell (put_back o.maps.cells (top - words) (zero ∷ ws))) (sym at)
              ∙ ap (λ m. cell m a) (sym cells) ∙ there in
              cc
          by a w free out lo hi there (inr ne) =
              let u = lower a out ne hi in
              h.wiped a w free (not_in (ended below) a (omega arith)) lo u
              (before_back a w (inl (omega (arith, u, joins))) there)

  -- where no cell is live, those that are told of are wiped
  pub clean_wiped : IsLink g → (b q : OState) (low : Option ℕ) (end told : ℕ) → end ≤ g.layout.stack.end
      → Clean b low (record { words = 0; top = end; told = told }) q
      → IsWipedFrom g (low_at SB end low) end b q
  clean_wiped linked b q low end told within h = record {
    wiped = λ a w lo hi there. h.wiped a w (stack_free g linked a (above low a lo hi)
        (omega (arith, hi, within)))
        (not_in (record { words = 0; top = end; told = told }) a (omega arith)) lo hi there;
    kept = λ a w free far there. h.kept a w free
        (not_in (record { words = 0; top = end; told = told }) a (omega arith)) far there;
  }
    where
      above : (low : Option ℕ) (a : ℕ) → low_at SB end low ≤ a → a ≤ end → SB ≤ a
      above None a lo hi = absurd (omega (arith, lo, hi))
      above (Some n) a lo hi = omega (arith, lo)
