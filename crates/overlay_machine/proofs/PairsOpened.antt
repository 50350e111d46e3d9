-- What is in the words of a call's pair, once they are flattened, and that `xjmp` refuses it.
use Rattle.std.proofs.Common.{◌≡◌, ◌⊎◌, inl, inr, ℕ, ◌+◌, true, List, Some, None, refl, ap, ◌∙◌}
use Rattle.std.specs.Prelude.{Option}
use Rattle.cap_words.specs.declared.Word.{Word}
use Rattle.cap_words.specs.declared.Content.{Content}
use Rattle.cap_words.specs.declared.Content.TheVariants.{Mem as MemC}
use Rattle.cap_words.specs.declared.CapFields.{CapFields}
use Rattle.cap_words.specs.declared.Opened.{Opened}
use Rattle.cap_words.specs.Face.{opened_of}
use Rattle.cap_words.specs.Linear.{lin_is}
use Rattle.lcm_machine.specs.Runs.{code_cap}
use Rattle.lcm_machine.specs.Refusals.{Refuses}
use Rattle.call_sequence.specs.declared.TheConstants.{CALL_WORDS}
use Rattle.call_sequence.specs.SequenceRuns.{stack_cap}
use Rattle.trusted_border.specs.declared.layout.Layout.{Layout}
use Rattle.trusted_border.specs.declared.layout.SiteCode.{SiteCode}
use Rattle.trusted_border.specs.Layout.{site_code}
use Rattle.overlay_machine.specs.declared.words.OWord.TheVariants.{RetCode, RetData}
use Rattle.overlay_machine.specs.State.{OpenFrame, frame_of}
use Rattle.overlay_machine.specs.Flat.{flat, flat_code, flat_data, flat_range}
use Rattle.overlay_machine.specs.Agree.{IsForeign}

-- what is in a sealed overlay word, once flattened
pub opened-code : (l : Layout) (fs : List OpenFrame) (j : ℕ) (o : Option SiteCode) → site_code l j ≡ o
    → (opened_of (flat l fs (RetCode j)) ≡ None)
    ⊎ ((s : SiteCode) × (o ≡ Some s)
    × (opened_of (flat l fs (RetCode j))
    ≡ Some (record { seal = s.seal; content = MemC (code_cap s.base s.end (s.at + CALL_WORDS)) })))
unfolding flat
opened-code l fs j None e = inl (ap (λ x. opened_of (flat_code x)) e)
opened-code l fs j (Some s) e = inr (s, refl, ap (λ x. opened_of (flat_code x)) e)

data-opened : (l : Layout) (f : OpenFrame) (o : Option SiteCode) → site_code l f.site ≡ o
    → (opened_of (flat_range f o) ≡ None)
    ⊎ ((s : SiteCode) × (site_code l f.site ≡ Some s)
    × (opened_of (flat_range f o)
    ≡ Some (record { seal = s.seal; content = MemC (stack_cap f.base f.end f.base) })))
data-opened l f None e = inl refl
data-opened l f (Some s) e = inr (s, e, refl)

abbrev pub DataOpened : Layout → Option Opened → Type 0
DataOpened l o =
    (o ≡ None)
    ⊎ ((j : ℕ) × (s : SiteCode) × (c : CapFields) × (site_code l j ≡ Some s) × (lin_is c.lin ≡ true)
    × (o ≡ Some (record { seal = s.seal; content = MemC c })))

pub opened-data : (l : Layout) (fs : List OpenFrame) (k : ℕ) (o : Option OpenFrame) → frame_of fs k ≡ o
    → DataOpened l (opened_of (flat l fs (RetData k)))
unfolding flat
opened-data l fs k None e = inl (ap (λ x. opened_of (flat_data l x)) e)
opened-data l fs k (Some f) e =
    elim (data-opened l f (site_code l f.site) refl)
    as (λ _. DataOpened l (opened_of (flat_data l (frame_of fs k)))) [
      | inl h ↦ inl (ap (λ x. opened_of (flat_data l x)) e ∙ h)
      | inr h ↦
          inr (
            f.site,
            h.0,
            stack_cap f.base f.end f.base,
            h.1,
            refl,
            ap (λ x. opened_of (flat_data l x)) e
                ∙ h.2,
          )
    ]

-- an opened word is none, or is sealed under the seal of a site
abbrev pub OneSite : Layout → Option Opened → Type 0
OneSite l y =
    (y ≡ None)
    ⊎ ((j : ℕ) × (s : SiteCode) × (c : CapFields) × (site_code l j ≡ Some s)
    × (y ≡ Some (record { seal = s.seal; content = MemC c })))

pub code_site : (l : Layout) (fs : List OpenFrame) (j : ℕ) → OneSite l (opened_of (flat l fs (RetCode j)))
code_site l fs j =
    elim (opened-code l fs j (site_code l j) refl) as (λ _. OneSite l (opened_of (flat l fs (RetCode j)))) [
      | inl h ↦ inl h
      | inr h ↦ inr (j, h.0, code_cap (h.0).base (h.0).end ((h.0).at + CALL_WORDS), h.1, h.2)
    ]

pub data_site : (l : Layout) (fs : List OpenFrame) (n : ℕ) → OneSite l (opened_of (flat l fs (RetData n)))
data_site l fs n =
    elim (opened-data l fs n (frame_of fs n) refl) as (λ _. OneSite l (opened_of (flat l fs (RetData n)))) [
      | inl h ↦ inl h
      | inr h ↦ inr (h.0, h.1, h.2, h.3, h.5)
    ]

content_in : Content → Option Opened → Content
content_in z None = z
content_in z (Some o) = o.content

content_is : (x : Opened) (seal : ℕ) (c : CapFields)
    → Some x ≡ Some (record { seal = seal; content = MemC c }) → x.content ≡ MemC c
unfolding content_in
content_is x seal c e = ap (content_in x.content) e

-- a RetData is no code
pub data_refuses : (l : Layout) (x y : Option Opened) → DataOpened l x → Refuses x y
data_refuses l None y h = tt
data_refuses l (Some x) None h = tt
data_refuses l (Some x) (Some y) (inl h) = cc
data_refuses l (Some x) (Some y) (inr h) = inr (h.2, content_is x h.1.seal h.2 h.5, h.4)

-- a foreign word and the half of a pair have different seals, either way
pub foreign_refuses : (l : Layout) (w : Word) (x y : Option Opened) → IsForeign l w → opened_of w ≡ x
    → OneSite l y → Refuses x y
foreign_refuses l w None y f ex h = tt
foreign_refuses l w (Some x) y f ex (inl h) = rw h tt
foreign_refuses l w (Some x) y f ex (inr h) = rw (h.4) (inl (f x h.0 h.1 ex h.3))
